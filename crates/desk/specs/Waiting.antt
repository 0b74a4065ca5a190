-- The waiting board's answers, as the C host gets them.
use Rattle.std.specs.Prelude.{Bool, cond, length, List, ℕ, Result, Ok, Err}
use Rattle.text.specs.Codes.{number_of}
use Rattle.text.specs.declared.Refusal.{Refusal}
use Rattle.text.specs.declared.Code.TheVariants.{BoardInvalid}
use Rattle.board.specs.Board.{Reply, Given, Refused}
use Rattle.board.specs.declared.Stored.{Stored}
use Rattle.tails.specs.Inner.{relisted}
use Rattle.tails.specs.declared.keys.Keys.{Keys}
use Rattle.desk.specs.Numbers.{accepted, answer_of, refused, refused_by}
use Rattle.desk.specs.declared.Answer.{Answer}

-- the length of the text that then waits, or is handed over
abbrev pub reply_numbers : Reply → Answer
reply_numbers (Given t) = accepted (length t)
reply_numbers (Refused code place) = answer_of (number_of code) place

-- a board that isn't valid is 10
abbrev pub board_numbers : Bool → Answer
board_numbers valid = cond valid (accepted 0) (refused_by BoardInvalid)

-- ---- Inner: no promise rests on these

-- the answer of what was done on the board
abbrev pub stored_numbers : Result Stored Refusal → Answer
stored_numbers (Ok x) = accepted x.length
stored_numbers (Err r) = refused r

-- the list beside the board afterwards: a refusal leaves it
abbrev pub relisted_by : Keys → List ℕ → Bool → Result Stored Refusal → List ℕ
relisted_by k ts fits (Ok x) = relisted k ts fits x.at x.slot
relisted_by k ts fits (Err r) = ts
