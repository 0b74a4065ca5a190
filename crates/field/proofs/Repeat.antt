-- Fields of one kind, one after the other.
use mathlib.Core.Path.{◌≡◌, refl, sym, ap, ◌∙◌}
use mathlib.Core.Bool.{true}
use mathlib.Core.List.{List, ◌++◌}
use Prim.Native.Nat.{ℕ, zero, suc, ◌+◌, ◌-◌, ◌*◌, ◌≤◌, ◌<◌}
use native.Mathlib.Omega.{arith}
use lib.ListN.{length, drop}
use lib.Seq.{take-add, drop-drop}
use borrow.Author.Tests.{le-leb}
use Rattle.text.specs.Names.{all_allowed}
use Rattle.text.specs.Parts.{part}
use Rattle.text.proofs.Cases.{both_left, both_right}
use Rattle.text.proofs.Names.{allowed-append}
use Rattle.field.specs.Fields.{check_airfield, repeat}
use Rattle.field.specs.Boxes.{check_box}
use Rattle.field.proofs.Accepted.{Both, both, next-same, airfield, box}
use Rattle.std.specs.Prelude.{Result, Ok, Err}
use Rattle.text.specs.declared.Refusal.{Refusal}

-- ---- Turns of a loop over n fields, i of which are passed

module _ (check : ℕ → Result ℕ Refusal) (n i p : ℕ) where
  pub repeat_end : n ≤ i → repeat check (n - i) p ≡ Ok p
  unfolding repeat
  repeat_end h = let e : n - i ≡ 0 = omega arith in rw e

  pub repeat_turn : (q : ℕ) → i < n → check p ≡ Ok q → repeat check (n - i) p ≡ repeat check (n - (i + 1)) q
  unfolding repeat
  repeat_turn q h e = let one : n - i ≡ suc (n - (i + 1)) = omega arith in rw (one, e)

  pub repeat_stop : (r : Refusal) → i < n → check p ≡ Err r → repeat check (n - i) p ≡ Err r
  unfolding repeat
  repeat_stop r h e = let one : n - i ≡ suc (n - (i + 1)) = omega arith in rw (one, e)

  -- where all that are left are accepted, so is the next
  pub repeat-next : (end : ℕ) → i < n → repeat check (n - i) p ≡ Ok end → Both (check p) (repeat check (n - (i + 1))) end
  unfolding repeat
  repeat-next end h e =
      let one : n - i ≡ suc (n - (i + 1)) = omega arith in
      both (check p) (repeat check (n - (i + 1))) end (rw one at e)

-- ---- Airfields

four-more : (n : ℕ) → 4 * suc n ≡ 4 + 4 * n
four-more n = omega arith

-- the bytes of one airfield and of n others
names_split : (s : List ℕ) (at n : ℕ) → part at (4 * suc n) s ≡ part at 4 s ++ part (at + 4) (4 * n) s
names_split s at n = rw (four-more n, take-add 4 (4 * n) (drop at s), drop-drop 4 at s)

-- airfields whose bytes are all allowed are accepted
pub airfields-next : (s : List ℕ) (n at : ℕ) → at + 4 * n ≤ length s → all_allowed (part at (4 * n) s) ≡ true
    → repeat (check_airfield s) n at ≡ Ok (at + 4 * n)
unfolding repeat check_airfield
airfields-next s zero at h e = ap Ok (omega arith)
airfields-next s (suc n) at h e =
    let f = sym (allowed-append (part at 4 s) (part (at + 4) (4 * n) s)) ∙ ap all_allowed (sym (names_split s at n)) ∙ e in
    let first = both_left (all_allowed (part at 4 s)) (all_allowed (part (at + 4) (4 * n) s)) f in
    let others = both_right (all_allowed (part at 4 s)) (all_allowed (part (at + 4) (4 * n) s)) f in
    rw (le-leb (at + 4) (length s) (omega arith), first) (airfields-next s n (at + 4) (omega arith) others ∙ ap Ok (omega arith))

-- and accepted ones have such bytes
pub airfields-accepted : (s : List ℕ) (n at p : ℕ) → at ≤ length s → repeat (check_airfield s) n at ≡ Ok p
    → (at + 4 * n ≡ p) × (p ≤ length s) × (all_allowed (part at (4 * n) s) ≡ true)
unfolding repeat all_allowed
airfields-accepted s zero at p h e = let q : at ≡ p = next-same e in (omega arith, omega arith, refl)
airfields-accepted s (suc n) at p h e =
    let x = both (check_airfield s at) (repeat (check_airfield s) n) p e in
    let one = airfield s at x.mid x.first in
    let m : x.mid ≡ at + 4 = sym one.2 in
    let rest = airfields-accepted s n (at + 4) p one.0 (rw m at x.second) in
    (omega (arith, rest.0), rest.1, rw (names_split s at n, allowed-append (part at 4 s) (part (at + 4) (4 * n) s), one.1) rest.2)

-- ---- Boxes

-- accepted boxes are 14 bytes each
pub boxes-accepted : (s : List ℕ) (n at p : ℕ) → repeat (check_box s) n at ≡ Ok p → at + 14 * n ≡ p
unfolding repeat
boxes-accepted s zero at p e = let q : at ≡ p = next-same e in omega arith
boxes-accepted s (suc n) at p e =
    let x = both (check_box s at) (repeat (check_box s) n) p e in
    let m : x.mid ≡ at + 14 = sym (box s at x.mid x.first).0 in
    let rest = boxes-accepted s n (at + 14) p (rw m at x.second) in
    omega (arith, rest)
