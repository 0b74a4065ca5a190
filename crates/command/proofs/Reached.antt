-- One section after the other: what is known when a section's turn comes.
use mathlib.Core.Path.{◌≡◌, refl, sym, ◌∙◌}
use mathlib.Core.List.{List}
use Prim.Native.Nat.{ℕ, ◌+◌, ◌≤◌, ◌<◌}
use native.Mathlib.Omega.{arith}
use lib.ListN.{length, set, length-set}
use lib.Seq.{get_or-set_same, get_or-set_other}
use Rattle.text.proofs.Cases.{by_eq, by_lt}
use Rattle.command.specs.Text.{check_from}
use Rattle.section.specs.Layout.{numbers}
use Rattle.command.specs.Inner.{section_seen, Reached, Noted}
use Rattle.command.specs.Sections.{place_from}
use Rattle.command.proofs.Checking.{section_stop, section-on, section-inside, sections_end, place_here, place-on}
use Rattle.std.specs.Prelude.{Ok, Err}
use Rattle.text.specs.declared.Refusal.{Refusal}

-- before the first
pub reached_first : (s places : List ℕ) → 22 ≤ length s → length places ≡ 11 → Reached s 2 22 places
reached_first s places h l = record { inside = h; decides = refl; room = l; later = λ j k. refl; noted = λ j k m. absurd (omega arith) }

-- another place before this one
below : (j k : ℕ) → j < k + 1 → (j ≡ k → ⊥) → j < k
below j k h n = by_lt j k (λ l. l) (λ m. absurd (n (omega arith)))

module _ (s : List ℕ) (k p : ℕ) (places : List ℕ) (lo : 2 ≤ k) (hi : k < 10) (r : Reached s k p places) where
  -- a section that is refused decides
  pub reached_stop : (d : Refusal) → section_seen s k p ≡ Err d → check_from numbers s 22 ≡ Err d
  reached_stop d e = r.decides ∙ section_stop s k p lo hi d e

  -- behind any other it is the next one's turn
  pub reached_on : (q : ℕ) → section_seen s k p ≡ Ok q → Reached s (k + 1) q (set places k p)
  reached_on q e =
      record {
        inside = section-inside s k p lo hi q r.inside e;
        decides = r.decides ∙ section-on s k p lo hi q e;
        room = length-set places k p ∙ r.room;
        later = λ j h. r.later j (omega arith) ∙ place-on s k p lo hi q j (omega arith) e;
        noted =
            λ j h m.
            by_eq j k
            (λ (y : j ≡ k). rw y (get_or-set_same places k p 0 (omega (arith, r.room)) ∙ sym (r.later k (omega arith) ∙ place_here s k p lo hi)))
            (λ (n : j ≡ k → ⊥). get_or-set_other places k j p 0 n ∙ r.noted j h (below j k m n));
      }

-- behind the last
module _ (s : List ℕ) (k p : ℕ) (places : List ℕ) (h : 10 ≤ k) (r : Reached s k p places) where
  pub reached_end : check_from numbers s 22 ≡ Ok p
  reached_end = r.decides ∙ sections_end s k p h

  -- the place where the last ends is noted too
  pub reached_noted : k ≤ 10 → Noted s (set places 10 p)
  unfolding place_from
  reached_noted few =
      let ten : k ≡ 10 = omega arith in
      record {
        under =
            λ j lo hi.
            by_eq j 10
            (λ (y : j ≡ 10). rw y (get_or-set_same places 10 p 0 (omega (arith, r.room)) ∙ sym (r.later 10 (omega arith) ∙ rw ten)))
            (λ (n : j ≡ 10 → ⊥). get_or-set_other places 10 j p 0 n ∙ r.noted j lo (omega arith));
      }
