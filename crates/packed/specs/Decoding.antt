-- A field as it is decoded: what reading gives, but for the code and place of a refusal.
use Rattle.std.specs.Prelude.{Bool, true, false, cond, ◌&&◌, List, [], ◌∷◌, ℕ, ◌+◌, ◌-◌, ◌*◌, ◌/◌, ◌^◌, eqb, ltb, leb, pos, length, Option, Some, None, Result, Ok, Err}
use Rattle.std.proofs.Math.IntN.{sub_ℕ}
use Rattle.std.specs.Int.Signed.{mag}
use Rattle.packed.specs.Packed.{Figure, worth_of, width_ok}
use Rattle.text.specs.declared.Refusal.{Refusal}
use Rattle.packed.specs.declared.Decoded.{Decoded}

-- what reading gives, whatever the code and place of a refusal, which is none of these
abbrev pub uncoded : Result Figure Refusal → Option Figure
uncoded (Ok x) = Some x
uncoded (Err r) = None

-- what a decoded field stands for; `decoded-read` of the proofs: it is what reading gives
abbrev pub meant : Decoded → Option Figure
meant d = cond d.missing (Some None) (cond d.given (Some (Some d.figure)) None)

-- its figure, where it is not refused
abbrev pub figure_in : Decoded → Figure
figure_in d = cond d.missing None (Some d.figure)

-- ---- The bytes from the left: each digit is added at its place, and a leading space is worth nothing

-- what the bytes are so far
pub record Seen : Type 0 where
  -- spaces alone
  pub leading : Bool
  -- leading spaces and digits alone
  pub fine : Bool
  -- solidi alone
  pub solidi : Bool
  -- what the digits add up to, each at its place
  pub sum : ℕ
  -- what one is worth at the first digit's place, which is the next one where there is none yet
  pub first : ℕ
  -- and at the next byte's
  pub unit : ℕ

-- before the first of w bytes
abbrev pub start_of : ℕ → Seen
start_of w = record { leading = true; fine = true; solidi = true; sum = 0; first = 40 ^ (w - 1); unit = 40 ^ (w - 1) }

-- what a byte adds: a leading space nothing, any other its worth
abbrev pub adds_of : Bool → ℕ → ℕ
adds_of leading b = cond (leading && eqb b 32) 0 (worth_of b)

unfoldable pub step_of : Seen → ℕ → Seen
step_of s b =
    record {
      leading = s.leading && eqb b 32;
      fine = s.fine && ltb (adds_of s.leading b) 40;
      solidi = s.solidi && eqb b 47;
      sum = s.sum + adds_of s.leading b * s.unit;
      first = cond (s.leading && eqb b 32) (s.unit / 40) s.first;
      unit = s.unit / 40;
    }

-- the last, which is no leading space: digits of which the first is worth n at its place span -20·n to 20·n - 1, and one digit
-- fewer half of n
unfoldable pub finish_of : Seen → ℕ → Decoded
finish_of s b =
    record {
      missing = s.solidi && eqb b 47;
      given = (ltb (worth_of b) 40 && s.fine) && leb (s.first / 2) (mag (sub_ℕ (s.sum + worth_of b) (20 * s.first)));
      figure = sub_ℕ (s.sum + worth_of b) (20 * s.first);
    }

-- neither missing nor given
abbrev pub none_decoded : Decoded
none_decoded = record { missing = false; given = false; figure = pos 0 }

-- the bytes that are left
unfoldable pub rest_of : Seen → List ℕ → Decoded
rest_of s [] = none_decoded
rest_of s (b ∷ []) = finish_of s b
rest_of s (b ∷ c ∷ bs) = rest_of (step_of s b) (c ∷ bs)

unfoldable pub decoded : List ℕ → Decoded
decoded f = cond (width_ok (length f)) (rest_of (start_of (length f)) f) none_decoded
