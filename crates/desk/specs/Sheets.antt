-- The answer of reading a status sheet, as the C host gets it.
use Rattle.std.specs.Prelude.{Result, Ok, Err}
use Rattle.text.specs.declared.Refusal.{Refusal}
use Rattle.sheet.specs.declared.Sheet.{Sheet}
use Rattle.sheet.specs.Sheet.{no_sheet}
use Rattle.desk.specs.Numbers.{accepted, refused}
use Rattle.desk.specs.declared.SheetAnswer.{SheetAnswer}

-- reading gives no length; a refusal carries the one empty sheet
unfoldable pub sheet_numbers : Result Sheet Refusal → SheetAnswer
sheet_numbers (Ok x) = record { answer = accepted 0; sheet = x; spare = 0 }
sheet_numbers (Err r) = record { answer = refused r; sheet = no_sheet; spare = 0 }
