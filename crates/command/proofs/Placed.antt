-- The sections of an accepted text at their places, and the digits of its first 22 bytes.
use mathlib.Core.Path.{◌≡◌, refl}
use mathlib.Core.Bool.{Bool, true, false, cond, not, ◌||◌}
use mathlib.Core.List.{List, []}
use Prim.Native.Nat.{ℕ, ◌+◌, ◌-◌, ◌≤◌, ◌<◌}
use native.Mathlib.Omega.{arith}
use lib.Dec.{eqb, leb}
use lib.ListN.{length, get_or}
use borrow.Author.Tests.{eqb-true, leb-true, ne_eqb}
use Rattle.text.proofs.Cases.{by_test, by_eq, by_lt, both_left, both_right}
use Rattle.section.specs.Layout.{layout_of, is_empty, Accepted, numbers}
use Rattle.section.specs.Contents.{Content, contents_at}
use Rattle.settings.specs.Settings.{amount_in, regions_from, airports_from, enroute_from, ascent_from, descent_from, hours_from, settings_from, contents_of, fixed_hold}
use Rattle.settings.specs.Valid.{no_settings}
use Rattle.command.specs.Text.{is_flag, is_indicator, is_named, check_command}
use Rattle.command.specs.Sections.{is_one_of, place_of, held_in}
use Rattle.command.specs.Inner.{Stands, Noted, held_over}
use Rattle.command.proofs.Each.{Each}
use Rattle.command.proofs.Standing.{accepted-place, one-least, one-most}
use Rattle.command.proofs.Accepted.{accepted, flag-byte, downlink-byte, indicators_are}
use Rattle.std.specs.Prelude.{Ok}

-- an accepted text has its first 22 bytes
pub first-there : (s : List ℕ) → check_command s ≡ Ok tt → 22 ≤ length s
first-there s fine = (accepted s fine).head.inside

-- ---- A section at its place

module _ {s : List ℕ} {k at : ℕ} (p : Stands s k at) where
  -- it has its indicator
  pub stands-inside : (k ≤ 9) × (22 ≤ length s)
  stands-inside = (one-most 9 numbers k (omega arith) p.number, (accepted s p.fine).head.inside)

  -- a named section was accepted where it stands
  pub stands-accepted : is_named s k ≡ true → Accepted k s at
  stands-accepted n =
      rw p.place (accepted-place numbers s 22 k (length s) p.number n (accepted s p.fine).walk)

  -- and holds what the text holds there
  pub stands-held : contents_at (layout_of k) s at ≡ contents_at (layout_of k) s (place_of s k)
  stands-held = rw p.place

pub ruleset standing = (first-there, stands-accepted, stands-held)

-- a noted place is its section's
pub noted-stands : {s places : List ℕ} → check_command s ≡ Ok tt → Noted s places → (k : ℕ) → is_one_of numbers k ≡ true
    → Stands s k (get_or places k 0)
noted-stands fine n k i =
    record { fine = fine; number = i; place = n.under k (one-least 2 numbers k (omega arith) i) (below-ten (one-most 9 numbers k (omega arith) i)) }
  where
    below-ten : {k : ℕ} → k ≤ 9 → k ≤ 10
    below-ten h = omega arith

-- ---- The digits of the first 22 bytes

flag-low : (b : ℕ) → is_flag b ≡ true → 48 ≤ b
flag-low b f =
    by_eq b 48
    (λ (e : b ≡ 48). omega arith)
    (λ (n : b ≡ 48 → ⊥).
    by_eq b 49
    (λ (e : b ≡ 49). omega arith)
    (λ (m : b ≡ 49 → ⊥).
    let e : b ≡ 57 = eqb-true b 57 (rw (ne_eqb b 48 n, ne_eqb b 49 m) at f) in
    omega arith))

indicator-low : (k b : ℕ) → is_indicator k b ≡ true → 48 ≤ b
indicator-low k b i =
    by_eq b 48
    (λ (e : b ≡ 48). omega arith)
    (λ (n : b ≡ 48 → ⊥).
    let d : b ≡ 48 + k =
    eqb-true b (48 + k) (both_right (not (is_empty (layout_of k))) (eqb b (48 + k)) (rw (ne_eqb b 48 n) at i)) in
    omega arith)

-- what holds of each section number holds of those from 2 to 9
each_between : (P : ℕ → Type 0) → Each P numbers → (k : ℕ) → 2 ≤ k → k < 10 → P k
each_between P e k lo hi =
    by_eq k 2 (λ (y : k ≡ 2). rw y e.0) (λ (n2 : k ≡ 2 → ⊥).
    by_eq k 3 (λ (y : k ≡ 3). rw y e.1.0) (λ (n3 : k ≡ 3 → ⊥).
    by_eq k 4 (λ (y : k ≡ 4). rw y e.1.1.0) (λ (n4 : k ≡ 4 → ⊥).
    by_eq k 5 (λ (y : k ≡ 5). rw y e.1.1.1.0) (λ (n5 : k ≡ 5 → ⊥).
    by_eq k 6 (λ (y : k ≡ 6). rw y e.1.1.1.1.0) (λ (n6 : k ≡ 6 → ⊥).
    by_eq k 7 (λ (y : k ≡ 7). rw y e.1.1.1.1.1.0) (λ (n7 : k ≡ 7 → ⊥).
    by_eq k 8 (λ (y : k ≡ 8). rw y e.1.1.1.1.1.1.0) (λ (n8 : k ≡ 8 → ⊥).
    let y : k ≡ 9 = omega (arith, n2, n3, n4, n5, n6, n7, n8) in rw y e.1.1.1.1.1.1.1.0)))))))

-- each byte from the first flag to the last indicator is a digit
pub digit_read : (s : List ℕ) (j : ℕ) → check_command s ≡ Ok tt → 5 ≤ j → j < 21 → 48 ≤ get_or s j 0
digit_read s j fine lo hi =
    let a = accepted s fine in
    by_lt j 12
    (λ (h : j < 12).
    let e : 5 + (j - 5) ≡ j = omega arith in
    flag-low (get_or s j 0) (rw e at (flag-byte s a (j - 5) (omega arith))))
    (λ (h : 12 ≤ j).
    by_eq j 12
    (λ (y : j ≡ 12).
    let b = get_or s 12 0 in
    rw y (leb-true 48 b (both_left (leb 48 b) (leb b 50) (downlink-byte s a))))
    (λ (n : j ≡ 12 → ⊥).
    let e : 11 + (j - 11) ≡ j = omega (arith, n) in
    indicator-low (j - 11) (get_or s j 0)
    (rw e at (each_between (λ k. is_indicator k (get_or s (11 + k) 0) ≡ true) (indicators_are s a) (j - 11) (omega (arith, n)) (omega arith)))))

pub ruleset first_bytes = (first-there, digit_read)

-- ---- Over settings that are all zero

module _ (s : List ℕ) where
  pub over_zero : {A : Type 0} (f : List Content → A) (k : ℕ) (old : List Content) → f old ≡ f [] → f (held_over s k old) ≡ f (held_in s k)
  over_zero f k old e =
      by_test (is_named s k)
      (λ (n : is_named s k ≡ true). rw n)
      (λ (n : is_named s k ≡ false). rw n e)

-- what a text's sections are over nothing is what they hold
pub over_nothing : (s fs : List ℕ) → settings_from fs (λ k. cond (is_named s k) (held_in s k) (contents_of no_settings k)) ≡ settings_from fs (held_in s)
unfolding settings_from contents_of fixed_hold no_settings regions_from airports_from enroute_from ascent_from hours_from
over_nothing s fs =
    let none = no_settings in
    rw (
      over_zero s regions_from 2 (contents_of none 2) refl,
      over_zero s airports_from 3 (contents_of none 3) refl,
      over_zero s enroute_from 4 (contents_of none 4) refl,
      over_zero s ascent_from 5 (contents_of none 5) refl,
      over_zero s (λ cs. amount_in cs 0) 6 (contents_of none 6) refl,
      over_zero s descent_from 7 (contents_of none 7) refl,
      over_zero s (λ cs. amount_in cs 0) 8 (contents_of none 8) refl,
      over_zero s hours_from 9 (contents_of none 9) refl,
    )

-- ---- A text that names no section of lists

pub neither_left : (t u : Bool) → (t || u) ≡ false → t ≡ false
neither_left true u e = e
neither_left false u e = refl

pub neither_right : (t u : Bool) → (t || u) ≡ false → u ≡ false
neither_right true true e = e
neither_right true false e = refl
neither_right false u e = e
