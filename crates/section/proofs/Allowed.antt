-- What is read from an accepted section is allowed in a record.
use mathlib.Core.Path.{◌≡◌, refl}
use mathlib.Core.List.{List, [], ◌∷◌}
use Prim.Native.Nat.{ℕ, ◌+◌}
use lib.ListN.{length}
use borrow.Author.Tests.{le-leb}
use Rattle.text.specs.Parts.{part}
use Rattle.field.specs.Decimal.{value}
use Rattle.field.proofs.Accepted.{number}
use Rattle.field.proofs.Local.{after-cases}
use Rattle.lists.specs.Lists.{airfields_at, boxes_at}
use Rattle.lists.proofs.RoundTrip.{airfields-allowed, airfields-fine, boxes-allowed, boxes-fine}
use Rattle.section.specs.Layout.{Item, Digits, AirfieldList, BoxList, check_item, check_items, item_size}
use Rattle.section.specs.Contents.{content_at, contents_at, content_text, content_allowed, contents_allowed}
use Rattle.section.proofs.Local.{item_sized}
use Rattle.std.specs.Prelude.{Ok}

-- what an accepted item holds is allowed
pub item_fine : (i : Item) (s : List ℕ) (at p q : ℕ) → check_item i s at ≡ Ok p → content_allowed i q (content_at i s at) ≡ (Ok tt)
item_fine (Digits r) s at p q e =
    let n = number r.code r.width r.least r.most s at p e in
    let v = value (part at r.width s) in
    rw (le-leb r.least v n.low, le-leb v r.most n.high)
item_fine AirfieldList s at p q e = airfields-fine q (airfields_at s at) (airfields-allowed s at p e)
item_fine BoxList s at p q e = boxes-fine q (boxes_at s at) (boxes-allowed s at p e (q + 2))

-- what an accepted section holds is allowed in a record, wherever it would stand
pub contents_fine : (is : List Item) (s : List ℕ) (at p q : ℕ) → check_items is s at ≡ Ok p → contents_allowed is q (contents_at is s at) ≡ (Ok tt)
unfolding check_items contents_at contents_allowed
contents_fine [] s at p q e = refl
contents_fine (i ∷ is) s at p q e =
    after-cases (check_item i s at) (check_items is s) p e
    (λ m (d : check_item i s at ≡ Ok m) (c : check_items is s m ≡ Ok p).
    rw (item_fine i s at m q d)
    (contents_fine is s (at + item_size i s at) p (q + length (content_text i (content_at i s at))) (rw ((item_sized i).passes s at m d) at c)))
