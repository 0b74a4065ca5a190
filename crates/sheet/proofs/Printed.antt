-- The printed sheet is accepted and read as printed: so there is an accepted text, and an allowed record.
use mathlib.Core.Path.{◌≡◌, refl}
use Rattle.text.specs.Equal.{same_bytes}
use Rattle.text.specs.Names.{allowed, all_allowed}
use Rattle.packed.specs.Packed.{trim}
use Rattle.field.specs.Decimal.{all_digits, value_from}
use Rattle.sheet.specs.Number.{within, digits_read, signed_read, number_read}
use Rattle.sheet.specs.Layout.{width_of, box_cell, airport_cell, cell_at}
use Rattle.sheet.specs.Sheet.{each, fixed_code, bytes_read, field_read, check_cell, check_sheet, airport_byte, sheet_at}
use Rattle.sheet.specs.Printed.{printed, printed_sheet}
use Rattle.std.specs.Prelude.{Ok}

pub printed-accepted : check_sheet printed ≡ (Ok tt)
unfolding printed same_bytes allowed all_allowed trim all_digits value_from within digits_read signed_read number_read width_of box_cell airport_cell cell_at each fixed_code bytes_read field_read check_cell check_sheet
printed-accepted = refl

pub printed-read : sheet_at printed ≡ printed_sheet
unfolding printed printed_sheet same_bytes allowed all_allowed trim all_digits value_from within digits_read signed_read number_read width_of box_cell airport_cell cell_at bytes_read field_read airport_byte sheet_at
printed-read = refl
