-- Every starred figure holds of the definitions: one statement, computed.
use mathlib.Core.Path.{refl}
use Rattle.text.specs.Equal.{same_bytes}
use Rattle.packed.specs.Packed.{worth_of, half_of, number, all_solidi, trim, all_digits, ahead, fault, spelt, read_packed}
use Rattle.section.specs.Layout.{layout_of, table_of, check_items, items_size, items_most}
use Rattle.field.specs.Fields.{check_digits, check_delimiter}
use Rattle.command.specs.Text.{check_each, check_awr04, check_head, check_from, sections_most, check_command}
use Rattle.command.specs.Sections.{place_from}
use Rattle.join.specs.Join.{no_change_text, choose, join_sections, join_text, join}
use Rattle.field.specs.Decimal.{all_digits as allDecimal, value_from}
use Rattle.figures.specs.Starred.{table, AllHold}

pub starred : AllHold table
unfolding table worth_of half_of number all_solidi trim all_digits ahead fault spelt read_packed same_bytes layout_of table_of items_size items_most check_delimiter check_each check_awr04 check_head check_from sections_most check_command no_change_text place_from choose join_sections join_text join value_from check_items check_digits allDecimal
starred = (refl, (refl, (refl, (refl, (refl, (refl, (refl, (refl, (refl, (refl, (refl, (refl, ((refl, refl), (refl, tt))))))))))))))
