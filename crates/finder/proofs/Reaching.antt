-- The way to a section: the sections named before it, one after the other.
use mathlib.Core.Path.{◌≡◌, refl, sym, ap, ◌∙◌}
use mathlib.Core.Bool.{Bool, true, false, cond}
use mathlib.Core.List.{List, [], ◌∷◌}
use Prim.Native.Nat.{ℕ, ◌+◌, ◌-◌, ◌≤◌, ◌<◌}
use native.Mathlib.Omega.{arith}
use lib.Dec.{eqb}
use lib.ListN.{length, drop}
use borrow.Author.Tests.{eq-eqb, ne_eqb}
use Rattle.text.proofs.Cases.{by_test}
use Rattle.text.specs.Checks.{after}
use Rattle.text.proofs.Checks.{err_ok}
use Rattle.field.proofs.Accepted.{next-same}
use Rattle.field.proofs.Local.{after-cases}
use Rattle.section.specs.Layout.{numbers, layout_of, check_section}
use Rattle.section.proofs.Own.{cut_end}
use Rattle.command.specs.Text.{is_named, check_from}
use Rattle.command.specs.Sections.{place_from}
use Rattle.command.proofs.Checking.{numbers-next}
use Rattle.finder.specs.Finding.{pass_section, reach}
use Rattle.finder.specs.Inner.{section_passed}
use Rattle.finder.proofs.Passing.{items-inside, items-accepted}
use Rattle.std.specs.Prelude.{Result, Ok, Err}
use Rattle.text.specs.declared.Refusal.{Refusal}

-- ---- In an accepted text

-- it comes to where the section stands
pub reach-accepted : (ks s : List ℕ) (at j p : ℕ) → check_from ks s at ≡ Ok p → reach ks s at j ≡ Ok (place_from ks s at j)
unfolding reach check_from place_from
reach-accepted [] s at j p e = refl
reach-accepted (k ∷ ks) s at j p e =
    by_test (eqb j k)
    (λ (y : eqb j k ≡ true). rw y)
    (λ (y : eqb j k ≡ false).
    by_test (is_named s k)
    (λ (m : is_named s k ≡ true).
    after-cases (check_section k s at) (check_from ks s) p (rw m at e)
    (λ q (c : check_section k s at ≡ Ok q) (d : check_from ks s q ≡ Ok p).
    let end = cut_end (layout_of k) s at q c in
    rw (y, m, items-accepted (layout_of k) s at at q c, ← end) (reach-accepted ks s q j p d)))
    (λ (m : is_named s k ≡ false). rw (y, m) (reach-accepted ks s at j p (rw m at e))))

-- ---- In any text

-- what is passed over ends in the text
pub passed-inside : (s : List ℕ) (k p q : ℕ) → p ≤ length s → section_passed s k p ≡ Ok q → q ≤ length s
passed-inside s k p q h e = go (is_named s k) e
  where
    go : (t : Bool) → cond t (pass_section k s p) (Ok p) ≡ Ok q → q ≤ length s
    go true w = (items-inside (layout_of k) s p p q w).1
    go false w = let z : p ≡ q = next-same w in rw (← z) h

module _ (s : List ℕ) (k p j : ℕ) (lo : 2 ≤ k) (hi : k < j) (most : j ≤ 9) where
  abbrev later : ℕ → Result ℕ Refusal
  later q = reach (drop (k + 1 - 2) numbers) s q j

  -- a turn of the walk
  turn : reach (drop (k - 2) numbers) s p j ≡ cond (is_named s k) (after (pass_section k s p) later) (later p)
  unfolding reach
  turn = rw (numbers-next k lo (omega arith), ne_eqb j k (λ (z : j ≡ k). omega arith))

  -- a section that is refused ends it
  pub reach_stop : (f : Refusal) → section_passed s k p ≡ Err f → reach (drop (k - 2) numbers) s p j ≡ Err f
  reach_stop f e = turn ∙ go (is_named s k) (pass_section k s p) e
    where
      go : (t : Bool) (x : Result ℕ Refusal) → cond t x (Ok p) ≡ Err f → cond t (after x later) (later p) ≡ Err f
      go true (Err r) w = w
      go true (Ok q) w = err_ok f q (sym w)
      go false x w = err_ok f p (sym w)

  -- behind any other it goes on
  pub reach-on : (q : ℕ) → section_passed s k p ≡ Ok q → reach (drop (k - 2) numbers) s p j ≡ later q
  reach-on q e = turn ∙ go (is_named s k) (pass_section k s p) e
    where
      go : (t : Bool) (x : Result ℕ Refusal) → cond t x (Ok p) ≡ Ok q → cond t (after x later) (later p) ≡ later q
      go true (Err r) w = err_ok r q w
      go true (Ok r) w = ap later (next-same w)
      go false x w = ap later (next-same w)

-- the section itself
pub reach_here : (s : List ℕ) (k p j : ℕ) → 2 ≤ k → k ≤ j → j ≤ k → j ≤ 9 → reach (drop (k - 2) numbers) s p j ≡ Ok p
unfolding reach
reach_here s k p j lo le ge most = let z : j ≡ k = omega arith in rw (numbers-next k lo (omega arith), eq-eqb j k z)

-- it ends in the text
pub reach-inside : (ks s : List ℕ) (at j p : ℕ) → at ≤ length s → reach ks s at j ≡ Ok p → p ≤ length s
unfolding reach
reach-inside [] s at j p h e = rw (← next-same e) h
reach-inside (k ∷ ks) s at j p h e =
    by_test (eqb j k)
    (λ (y : eqb j k ≡ true). rw (← next-same (rw y at e)) h)
    (λ (y : eqb j k ≡ false).
    by_test (is_named s k)
    (λ (m : is_named s k ≡ true).
    after-cases (pass_section k s at) (λ q. reach ks s q j) p (rw (y, m) at e)
    (λ q (c : pass_section k s at ≡ Ok q) (d : reach ks s q j ≡ Ok p).
    reach-inside ks s q j p (items-inside (layout_of k) s at at q c).1 d))
    (λ (m : is_named s k ≡ false). reach-inside ks s at j p h (rw (y, m) at e)))
