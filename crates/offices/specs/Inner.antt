-- What the code looks for. No promise to a caller rests on these names.
use Rattle.std.specs.Prelude.{Bool, cond, not, ◌&&◌, List, ℕ, eqb, is_some}
use Rattle.text.specs.Checks.{is_fine}
use Rattle.text.specs.declared.Code.TheVariants.{NotGranted}
use Rattle.command.specs.Text.{check_command}
use Rattle.board.specs.Board.{Move, Stay, past_refusals}
use Rattle.board.specs.Inner.{Wanted, placed_move}
use Rattle.board.specs.declared.Findings.{Findings}
use Rattle.offices.specs.Offices.{is_grant, overlap, outside, admission}
use Rattle.offices.specs.declared.Grant.{Grant}

-- a byte other than `none` where a grant's byte gives, or does not give: two grants that overlap, or a command outside one
abbrev pub clash : ℕ → Bool → ℕ → ℕ → Bool
clash none given b g = not (eqb b none) && cond given (is_grant g) (not (is_grant g))

-- an accepted command outside the grant
unfoldable pub barred : Grant → List ℕ → Bool
barred g s = is_fine (check_command s) && outside g s

-- what is then done, by what was found
unfoldable pub office_move : Grant → Grant → Findings → Wanted → List ℕ → List ℕ → Move
office_move own other v w area t =
    cond (overlap own other) (Stay NotGranted 0)
    (past_refusals Stay v.valid (is_some w) (admission own t) (placed_move v w area t))
