-- Commands that document 01 prints, one with every section at its least, and one as long as a command can be.
use Rattle.std.specs.Prelude.{◌≡◌, true, List, [], ◌∷◌, ◌++◌, ℕ, zero, suc, Ok}
use Rattle.text.specs.Bytes.{bytes}
use Rattle.command.specs.Text.{check_command}
use Rattle.command.specs.Record.{command_of, read_command, command_text}
use Rattle.command.specs.Allowed.{allowed_command}

abbrev pub copies : ℕ → List ℕ → List ℕ
copies zero t = []
copies (suc n) t = t ++ copies n t

-- ---- At its longest: every flag set, every section named, every list full, every number the greatest

abbrev pub sixteen_boxes : List ℕ
sixteen_boxes = bytes "16" ++ (copies 8 (bytes "90N90S180W180E") ++ copies 8 (bytes "00N00N000E000E"))

abbrev pub twenty_airfields : List ℕ
twenty_airfields = bytes "20" ++ copies 20 (bytes "AZ09")

unfoldable pub longest_text : List ℕ
longest_text =
    bytes "AWR041111111223456789/"
    ++ (sixteen_boxes
    ++ (sixteen_boxes
    ++ (bytes "/"
    ++ (twenty_airfields
    ++ (twenty_airfields
    ++ (twenty_airfields
    ++ (twenty_airfields
    ++ bytes "1/601/1206006011135021/1/130035021/1/2323/")))))))

-- ---- All

unfoldable pub examples : List (List ℕ)
examples =
    bytes "AWR049999999000000000/"
    ∷ bytes "AWR041999999000400000/151/"
    ∷ bytes "AWR041199999100400009/300/2301/"
    ∷ bytes "AWR040000000023456789/0000/000000000/010/0030300305115010/0/001015010/0/0000/"
    ∷ longest_text
    -- section 7 as source document 000 prints it
    ∷ bytes "AWR049999999000000700/004020011/"
    ∷ []

-- a text is accepted, it reads to its command, and that is within document 01's ranges and is written as the same bytes
abbrev pub ReadsBack : List ℕ → Type 0
ReadsBack t =
    (check_command t ≡ Ok tt)
    × (read_command t ≡ Ok (command_of t))
    × (allowed_command (command_of t) ≡ true)
    × (command_text (command_of t) ≡ t)

abbrev pub AllReadBack : List (List ℕ) → Type 0
AllReadBack [] = Unit
AllReadBack (t ∷ ts) = ReadsBack t × AllReadBack ts
