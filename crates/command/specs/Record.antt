-- The command as a record: out of its text, checked by itself, into its text.
use Rattle.std.specs.Prelude.{Bool, cond, ◌&&◌, ◌||◌, not, List, [], ◌∷◌, ◌++◌, map, ℕ, ◌+◌, ◌-◌, leb, eqb, length, get_or, replicate, Result, Ok, Err}
use Rattle.text.specs.Parts.{part}
use Rattle.text.specs.Over.{over}
use Rattle.text.specs.Checks.{must, ◌and_then◌}
use Rattle.section.specs.Layout.{numbers, layout_of, is_empty}
use Rattle.section.specs.Contents.{contents_text, contents_allowed}
use Rattle.settings.specs.Settings.{contents_of, settings_from}
use Rattle.command.specs.Text.{awr04, check_command}
use Rattle.settings.specs.Valid.{are_zero, no_settings}
use Rattle.command.specs.Sections.{held_in}
use Rattle.command.specs.declared.Command.{Command}
use Rattle.text.specs.declared.Refusal.{Refusal}
use Rattle.text.specs.declared.Code.TheVariants.{Disagree, NoRoom, NotAllowed}

-- ---- Out of the text

abbrev pub digits_of : List ℕ → List ℕ
digits_of bytes = map (λ (b : ℕ). b - 48) bytes

abbrev pub flags_of : List ℕ → List ℕ
flags_of s = digits_of (part 5 7 s)

abbrev pub downlink_of : List ℕ → ℕ
downlink_of s = get_or s 12 0 - 48

unfoldable pub command_of : List ℕ → Command
command_of s =
    record { settings = settings_from (flags_of s) (held_in s); downlink = downlink_of s; named = digits_of (part 13 8 s); spare = 0 }

-- the one empty command, which stands beside every refusal: all zero
unfoldable pub no_command : Command
no_command =
    record { settings = no_settings; downlink = 0; named = replicate 8 0; spare = 0 }

-- reading answers the command, or what the check refuses
unfoldable pub read_command : List ℕ → Result Command Refusal
read_command s = check_command s and_then Ok (command_of s)

-- ---- A record's own check, with the places where the fields would stand

abbrev pub flag_allowed : ℕ → Bool
flag_allowed v = leb v 1 || eqb v 9

unfoldable pub flags_allowed : ℕ → List ℕ → Result (Unit {0}) Refusal
flags_allowed at [] = Ok tt
flags_allowed at (v ∷ vs) = must (flag_allowed v) NotAllowed at and_then flags_allowed (at + 1) vs

-- an indicator is 0 or its own number, if there is such a section
unfoldable pub named_allowed : List ℕ → ℕ → List ℕ → Result (Unit {0}) Refusal
named_allowed [] at vs = Ok tt
named_allowed (k ∷ ks) at [] = Ok tt
named_allowed (k ∷ ks) at (v ∷ vs) =
    must (eqb v 0 || (not (is_empty (layout_of k)) && eqb v k)) NotAllowed at and_then named_allowed ks (at + 1) vs

-- whether the record names section k
abbrev pub names : Command → ℕ → Bool
names c k = eqb (get_or c.named (k - 2) 0) k

unfoldable pub section_text : Command → ℕ → List ℕ
section_text c k = contents_text (layout_of k) (contents_of c.settings k)

-- each section in its turn: a named one by its own limits, one that isn't named is zero, else 7 where it would begin
unfoldable pub sections_allowed : List ℕ → ℕ → Command → Result (Unit {0}) Refusal
sections_allowed [] at c = Ok tt
sections_allowed (k ∷ ks) at c =
    cond (names c k)
    (contents_allowed (layout_of k) at (contents_of c.settings k) and_then sections_allowed ks (at + length (section_text c k)) c)
    (must (are_zero (contents_of c.settings k)) Disagree at and_then sections_allowed ks at c)

-- the indicators; a spare byte stands where the delimiter behind them does, and is zero
abbrev pub marks_allowed : Command → Result (Unit {0}) Refusal
marks_allowed c = named_allowed numbers 13 c.named and_then must (eqb c.spare 0) Disagree 21

unfoldable pub command_allowed : Command → Result (Unit {0}) Refusal
command_allowed c =
    flags_allowed 5 c.settings.flags
    and_then must (leb c.downlink 2) NotAllowed 12
    and_then marks_allowed c
    and_then sections_allowed numbers 22 c

-- ---- Into the text

abbrev pub digit_bytes : List ℕ → List ℕ
digit_bytes vs = map (λ (v : ℕ). 48 + v) vs

unfoldable pub sections_text : List ℕ → Command → List ℕ
sections_text [] c = []
sections_text (k ∷ ks) c = cond (names c k) (section_text c k ++ sections_text ks c) (sections_text ks c)

unfoldable pub command_text : Command → List ℕ
command_text c =
    awr04
    ++ (digit_bytes c.settings.flags
    ++ ((48 + c.downlink) ∷ (digit_bytes c.named ++ 47 ∷ sections_text numbers c)))

-- the record, then the room
unfoldable pub write_seen : Command → ℕ → Result (Unit {0}) Refusal
write_seen c room = command_allowed c and_then must (leb (length (command_text c)) room) NoRoom 0

-- what the buffer holds afterwards
abbrev pub left_by : Result (Unit {0}) Refusal → List ℕ → List ℕ → List ℕ
left_by (Ok u) text out = over out 0 text
left_by (Err r) text out = out
