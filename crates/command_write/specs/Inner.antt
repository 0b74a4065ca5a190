-- What the inner functions of the record's check and of the writer do. No promise to a caller rests on these names.
use Rattle.std.specs.Prelude.{◌≡◌, true, List, [], ◌∷◌, ◌++◌, ℕ, ◌+◌, ◌-◌, ◌≤◌, eqb, get_or, Result, Ok}
use Rattle.text.specs.Checks.{after}
use Rattle.section.specs.Layout.{layout_of}
use Rattle.section.specs.Contents.{contents_allowed}
use Rattle.settings.specs.Settings.{contents_of, fixed_hold}
use Rattle.settings.specs.Inner.{pass_section, text_if}
use Rattle.settings.specs.declared.Fixed.{Fixed}
use Rattle.command.specs.Text.{awr04}
use Rattle.command.specs.Record.{digit_bytes, names}
use Rattle.command.specs.declared.Command.{Command}
use Rattle.text.specs.declared.Refusal.{Refusal}

-- ---- The record's own check, section by section

-- the sections ks, one after the other: where what follows them would begin, or the first refusal
unfoldable pub pass_sections : List ℕ → ℕ → Command → Result ℕ Refusal
pass_sections [] at c = Ok at
pass_sections (k ∷ ks) at c =
    after (pass_section (names c k) k at (contents_of c.settings k)) (λ (p : ℕ). pass_sections ks p c)

-- the same for sections of numbers, by their own part of the record and the indicators
unfoldable pub pass_numbered : List ℕ → ℕ → Fixed → List ℕ → Result ℕ Refusal
pass_numbered [] at x named = Ok at
pass_numbered (k ∷ ks) at x named =
    after (pass_section (eqb (get_or named (k - 2) 0) k) k at (fixed_hold x k)) (λ (p : ℕ). pass_numbered ks p x named)

-- ---- The text, piece by piece

-- the sections of numbers that are named
unfoldable pub numbered_text : List ℕ → Fixed → List ℕ → List ℕ
numbered_text [] x named = []
numbered_text (k ∷ ks) x named = text_if (eqb (get_or named (k - 2) 0) k) k (fixed_hold x k) ++ numbered_text ks x named

-- the first 22 bytes
unfoldable pub head_text : Command → List ℕ
head_text c =
    awr04 ++ (digit_bytes c.settings.flags ++ ((48 + c.downlink) ∷ (digit_bytes c.named ++ 47 ∷ [])))

-- every section that is named is allowed, wherever it would stand
abbrev pub AllNamed : List ℕ → Command → Type 0
AllNamed [] c = Unit
AllNamed (k ∷ ks) c =
    (names c k ≡ true → contents_allowed (layout_of k) 0 (contents_of c.settings k) ≡ (Ok tt)) × AllNamed ks c

-- values that a digit spells
abbrev pub Digits : List ℕ → Type 0
Digits vs = (i : ℕ) → get_or vs i 0 ≤ 9
