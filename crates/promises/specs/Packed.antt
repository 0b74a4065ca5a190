-- Document 01, "Packed figures": what is promised of esk_packed_read and esk_packed_write. A field is a sentence.
use Rattle.std.specs.Prelude.{◌≡◌, ◌⊎◌, ◌↔◌, List, ◌++◌, ℕ, suc, ◌≤◌, ◌<◌, pos, length, take, drop, replicate}
use Rattle.std.specs.Int.Signed.{mag}
use Rattle.packed.specs.Packed.{read_packed}
use Rattle.packed.specs.Words.{span, figure_spelt, Digits}
use Rattle.caller.specs.Figures.{write_figure_code, figure_over}
use Rattle.caller.specs.declared.HostFigure.{HostFigure}
use Rattle.desk.specs.Numbers.{accepted, answer_of, packed_numbers, write_answer}
use Rattle.desk.specs.declared.Answer.{Answer}
use Rattle.desk.specs.declared.PackedAnswer.{PackedAnswer}

-- ---- The calls, by their contracts

abbrev pub read : List ℕ → PackedAnswer
read f = packed_numbers (read_packed f)

abbrev pub write : HostFigure → ℕ → List ℕ → Answer
write f w out = write_answer (write_figure_code f w (length out)) w

abbrev pub written : HostFigure → ℕ → List ℕ → List ℕ
written f w out = figure_over f w out

-- the figure that reading answers
abbrev pub figure : PackedAnswer → HostFigure
figure p = record { number = p.number; given = p.given }

-- ---- The words: those of packed/specs/Words, and

-- a field of one to five bytes
pub record Width (w : ℕ) : Type 0 where
  pub some : 1 ≤ w
  pub few : w ≤ 5

-- a figure of the one form, which w digits hold; `mag x` is x, or -x - 1 below zero
abbrev pub Fits : ℕ → HostFigure → Type 0
Fits w f = (f ≡ record { number = pos 0; given = 0 }) ⊎ ((f.given ≡ 1) × (mag f.number < span w))

-- two fields of one width that have the same first n bytes
pub record Agree (n : ℕ) (f g : List ℕ) : Type 0 where
  pub width : length g ≡ length f
  pub bytes : take n g ≡ take n f

-- ---- The promises

pub record PackedPromises : Type 0 where
  -- the figure of k digits behind n spaces; "the fewest digits that hold the figure are its one spelling (else 6)"
  pub figures : (n : ℕ) (ds : List ℕ) → Digits n ds → (k : ℕ) → suc k ≡ length ds → span k ≤ mag (figure_spelt ds)
      → read (replicate n 32 ++ ds) ≡ record { number = figure_spelt ds; place = 0; code = 0; given = 1 }
  pub six : (n : ℕ) (ds : List ℕ) → Digits n ds → (k : ℕ) → suc k ≡ length ds → mag (figure_spelt ds) < span k
      → read (replicate n 32 ++ ds) ≡ record { number = pos 0; place = 0; code = 6; given = 0 }
  -- "A field wholly `/` is a missing figure": and nothing else is, so that no missing figure becomes a zero
  pub missing : (w : ℕ) → Width w → read (replicate w 47) ≡ record { number = pos 0; place = 0; code = 0; given = 0 }
  pub missing-only : (f : List ℕ) → (read f).code ≡ 0 → (read f).given ≡ 0 → f ≡ replicate (length f) 47
  -- code 1
  pub one : (f : List ℕ) → ((read f).code ≡ 1) ↔ (¬ Width (length f))
  -- any other field of one to five bytes is 4: neither wholly solidi nor spaces and then at least one digit
  pub other : (f : List ℕ) → Width (length f) → ¬ (f ≡ replicate (length f) 47)
      → ((n : ℕ) (ds : List ℕ) → Digits n ds → f ≡ replicate n 32 ++ ds → ⊥) → (read f).code ≡ 4
  -- code 4 points to "the first byte, left to right, up to and with which no field of that width free of code 4 could begin"
  pub four : (f : List ℕ) → (read f).code ≡ 4
      → ((read f).place < length f)
      × ((g : List ℕ) → Agree (suc (read f).place) f g → (read g).code ≡ 4)
      × ((j : ℕ) → j < (read f).place → (g : List ℕ) × Agree (suc j) f g × (¬ ((read g).code ≡ 4)))
  -- each accepted field reads to one figure, which writes back the same bytes
  pub read-write : (f out : List ℕ) → (read f).code ≡ 0 → length f ≤ length out
      → (Fits (length f) (figure (read f)))
      × (write (figure (read f)) (length f) out ≡ accepted (length f))
      × (written (figure (read f)) (length f) out ≡ f ++ drop (length f) out)
  -- each figure that fits is written, and reads back as itself
  pub write_read : (f : HostFigure) (w : ℕ) (out : List ℕ) → Width w → Fits w f → w ≤ length out
      → (write f w out ≡ accepted w)
      × (read (take w (written f w out)) ≡ record { number = f.number; place = 0; code = 0; given = f.given })
      × (drop w (written f w out) ≡ drop w out)
  -- it is written only so; a refusal leaves the buffer, and carries nothing but its code
  pub writes-only : (f : HostFigure) (w : ℕ) (out : List ℕ) → (write f w out).code ≡ 0 → Width w × Fits w f × (w ≤ length out)
  pub unwritten : (f : HostFigure) (w : ℕ) (out : List ℕ) → ¬ ((write f w out).code ≡ 0)
      → (written f w out ≡ out) × (write f w out ≡ answer_of (write f w out).code 0)
