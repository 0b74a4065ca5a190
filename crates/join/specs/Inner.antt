-- What the inner functions of the join ask for and answer. No promise to a caller rests on these names.
use Rattle.std.specs.Prelude.{◌≡◌, List, [], ◌∷◌, ◌++◌, ℕ, max, get_or, Ok}
use Rattle.text.specs.Parts.{part}
use Rattle.command.specs.Text.{awr04, check_command}
use Rattle.command.specs.Inner.{Noted}
use Rattle.join.specs.declared.walked.Walked.{Walked}
use Rattle.join.specs.Join.{choose}

-- a text that was accepted, with the places of its sections
pub record IsWalked (w : Walked) : Type 0 where
  pub fine : check_command w.text.now ≡ Ok tt
  pub noted : Noted w.text.now w.places

-- the first 22 bytes: `AWR04` and the flags; the downlink digit, the indicators and `/`
unfoldable pub join_front : List ℕ → List ℕ → List ℕ
join_front a b = awr04 ++ choose 57 (part 5 7 a) (part 5 7 b)

unfoldable pub join_back : List ℕ → List ℕ → List ℕ
join_back a b = max (get_or a 12 0) (get_or b 12 0) ∷ (choose 48 (part 13 8 a) (part 13 8 b) ++ 47 ∷ [])

abbrev pub join_head : List ℕ → List ℕ → List ℕ
join_head a b = join_front a b ++ join_back a b
