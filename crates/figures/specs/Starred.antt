-- The starred figures of document 01, "Figures to hold against the code": one table.
use Rattle.std.specs.Prelude.{◌≡◌, List, [], ◌∷◌, ℕ, length, pos, negsuc, Result, Ok, Some, None}
use Rattle.text.specs.Bytes.{bytes}
use Rattle.text.specs.Checks.{refuse}
use Rattle.text.specs.declared.Code.TheVariants.{NotAllowed, OtherSpelling}
use Rattle.text.specs.declared.Refusal.{Refusal}
use Rattle.packed.specs.Packed.{Figure, read_packed}
use Rattle.command.specs.Text.{check_command}
use Rattle.join.specs.Join.{no_change_text, join}

pub data Starred : Type 0 where
  Field : List ℕ → Result Figure Refusal → Starred  -- a packed field, and what it is read as
  NoChange : List ℕ → Starred  -- the command that changes nothing
  Join : List ℕ → List ℕ → List ℕ → Starred  -- two commands, and what they join into: accepted, in just the room that it takes

-- what document 01 says of each
abbrev pub Holds : Starred → Type 0
Holds (Field f p) = read_packed f ≡ p
Holds (NoChange t) = (check_command t ≡ Ok tt) × (t ≡ no_change_text)
Holds (Join a b c) = join a b (length c) ≡ Ok c

abbrev pub AllHold : List Starred → Type 0
AllHold [] = Unit
AllHold (x ∷ xs) = Holds x × AllHold xs

-- the starred figures, in document 01's order; document 02, §11, moved the place of the last field's code 4
unfoldable pub table : List Starred
table =
    Field (bytes "INZ") (Ok (Some (negsuc 2244)))
    ∷ Field (bytes "LAE") (Ok (Some (pos 2014)))
    ∷ Field (bytes "D5") (Ok (Some (negsuc 274)))
    ∷ Field (bytes " U") (Ok (Some (pos 10)))
    ∷ Field (bytes " UK") (Ok (Some (pos 420)))
    ∷ Field (bytes " YZ9F") (Ok (Some (pos 952375)))
    ∷ Field (bytes "  K") (Ok (Some (pos 0)))
    ∷ Field (bytes "KK") (Ok (Some (pos 20)))
    ∷ Field (bytes "JJ") (Ok (Some (negsuc 20)))
    ∷ Field (bytes "K5") (refuse OtherSpelling 0)
    ∷ Field (bytes "//") (Ok None)
    ∷ Field (bytes "/5") (refuse NotAllowed 1)
    ∷ NoChange (bytes "AWR049999999000000000/")
    ∷ Join (bytes "AWR041999999000400000/151/") (bytes "AWR049199999100400009/300/2301/") (bytes "AWR041199999100400009/300/2301/")
    ∷ []
