-- The printed join of document 01, from the definitions alone.
use mathlib.Core.Path.{◌≡◌, refl}
use mathlib.Core.List.{List, [], ◌∷◌}
use Prim.Native.Nat.{ℕ}
use Rattle.text.specs.Equal.{same_bytes}
use Rattle.field.specs.Decimal.{all_digits, value_from}
use Rattle.field.specs.Fields.{check_digits, check_delimiter}
use Rattle.section.specs.Layout.{layout_of, table_of, check_items, items_size, items_most}
use Rattle.command.specs.Text.{check_each, check_awr04, check_head, check_from, sections_most, check_command}
use Rattle.command.specs.Sections.{place_from}
use Rattle.join.specs.Join.{choose, join_sections, join_text}
use Rattle.std.specs.Prelude.{Ok}

-- `AWR041999999000400000/151/`
unfoldable pub first : List ℕ
first = 65 ∷ 87 ∷ 82 ∷ 48 ∷ 52 ∷ 49 ∷ 57 ∷ 57 ∷ 57 ∷ 57 ∷ 57 ∷ 57 ∷ 48 ∷ 48 ∷ 48 ∷ 52 ∷ 48 ∷ 48 ∷ 48 ∷ 48 ∷ 48 ∷ 47 ∷ 49 ∷ 53 ∷ 49 ∷ 47 ∷ []

-- `AWR049199999100400009/300/2301/`
unfoldable pub second : List ℕ
second = 65 ∷ 87 ∷ 82 ∷ 48 ∷ 52 ∷ 57 ∷ 49 ∷ 57 ∷ 57 ∷ 57 ∷ 57 ∷ 57 ∷ 49 ∷ 48 ∷ 48 ∷ 52 ∷ 48 ∷ 48 ∷ 48 ∷ 48 ∷ 57 ∷ 47 ∷ 51 ∷ 48 ∷ 48 ∷ 47 ∷ 50 ∷ 51 ∷ 48 ∷ 49 ∷ 47 ∷ []

-- `AWR041199999100400009/300/2301/`
unfoldable pub both : List ℕ
both = 65 ∷ 87 ∷ 82 ∷ 48 ∷ 52 ∷ 49 ∷ 49 ∷ 57 ∷ 57 ∷ 57 ∷ 57 ∷ 57 ∷ 49 ∷ 48 ∷ 48 ∷ 52 ∷ 48 ∷ 48 ∷ 48 ∷ 48 ∷ 57 ∷ 47 ∷ 51 ∷ 48 ∷ 48 ∷ 47 ∷ 50 ∷ 51 ∷ 48 ∷ 49 ∷ 47 ∷ []

-- the two are accepted
pub first_fine : check_command first ≡ (Ok tt)
unfolding first check_command sections_most layout_of table_of items_most check_head check_awr04 same_bytes check_each check_delimiter check_from check_items check_digits all_digits value_from
first_fine = refl

pub second-fine : check_command second ≡ (Ok tt)
unfolding second check_command sections_most layout_of table_of items_most check_head check_awr04 same_bytes check_each check_delimiter check_from check_items check_digits all_digits value_from
second-fine = refl

-- and join into the third
pub printed-join : join_text first second ≡ both
unfolding first second both join_text choose join_sections place_from layout_of table_of items_size
printed-join = refl
