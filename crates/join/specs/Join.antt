-- Document 01, "Joining takes each flag and section from the second text where it sets one, else from the first; the
-- larger downlink digit is kept."
use Rattle.std.specs.Prelude.{cond, List, [], ◌∷◌, ◌++◌, ℕ, max, leb, eqb, length, get_or, replicate, Result, Ok, Err}
use Rattle.text.specs.Parts.{part}
use Rattle.text.specs.Over.{over}
use Rattle.section.specs.Layout.{numbers}
use Rattle.command.specs.Text.{awr04, is_named, check_command}
use Rattle.command.specs.Sections.{bytes_of}
use Rattle.join.specs.declared.Fault.{Fault}
use Rattle.join.specs.declared.Fault.TheVariants.{First, Second, Room}
use Rattle.text.specs.declared.Refusal.{Refusal}

-- ---- The join

-- from the second where it sets one, else from the first: a flag `9` sets none, an indicator `0` names none
unfoldable pub choose : ℕ → List ℕ → List ℕ → List ℕ
choose none [] gs = []
choose none (f ∷ fs) [] = []
choose none (f ∷ fs) (g ∷ gs) = cond (eqb g none) f g ∷ choose none fs gs

abbrev pub join_section : List ℕ → List ℕ → ℕ → List ℕ
join_section a b k = cond (is_named b k) (bytes_of b k) (bytes_of a k)

unfoldable pub join_sections : List ℕ → List ℕ → List ℕ → List ℕ
join_sections [] a b = []
join_sections (k ∷ ks) a b = join_section a b k ++ join_sections ks a b

unfoldable pub join_text : List ℕ → List ℕ → List ℕ
join_text a b =
    awr04
    ++ (choose 57 (part 5 7 a) (part 5 7 b)
    ++ (max (get_or a 12 0) (get_or b 12 0)
    ∷ (choose 48 (part 13 8 a) (part 13 8 b) ++ 47 ∷ join_sections numbers a b)))

-- the no-change command, `AWR049999999000000000/`
unfoldable pub no_change_text : List ℕ
no_change_text = awr04 ++ (replicate 7 57 ++ (48 ∷ (replicate 8 48 ++ 47 ∷ [])))

-- ---- The answer: the first text's refusals, the second's, then room

-- the joined text, or why there is none
abbrev pub Joined : Type 0
Joined = Result (List ℕ) Fault

abbrev pub by_seen : Result (Unit {0}) Refusal → Result (Unit {0}) Refusal → List ℕ → ℕ → Joined
by_seen (Err r) y t room = Err (First r)
by_seen (Ok u) (Err r) t room = Err (Second r)
by_seen (Ok u) (Ok v) t room = cond (leb (length t) room) (Ok t) (Err Room)

unfoldable pub join : List ℕ → List ℕ → ℕ → Joined
join a b room = by_seen (check_command a) (check_command b) (join_text a b) room

-- what is told of it
abbrev pub told : Joined → Result ℕ Fault
told (Ok t) = Ok (length t)
told (Err f) = Err f

-- what the buffer holds afterwards
abbrev pub joined_over : Joined → List ℕ → List ℕ
joined_over (Ok t) out = over out 0 t
joined_over (Err f) out = out
