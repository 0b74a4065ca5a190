-- Names by their bytes.
use mathlib.Core.Path.{◌≡◌, refl, sym, ap, ◌∙◌}
use mathlib.Core.Bool.{Bool, true, ◌&&◌, and_assoc, and-true}
use mathlib.Core.List.{List, [], ◌∷◌, ◌++◌}
use Prim.Native.Nat.{ℕ, zero, suc, ◌+◌, ◌≤◌, ◌<◌}
use native.Mathlib.Omega.{arith}
use native.Mathlib.Numerals.{add-one}
use lib.ListN.{length, get_or, take, drop, take-append-drop, drop_of_length-le}
use lib.Seq.{drop-cons}
use Rattle.text.specs.Names.{allowed, all_allowed}
use Rattle.text.proofs.Cases.{both_left, both_right}

-- two names together are allowed when each is
pub allowed-append : (s t : List ℕ) → all_allowed (s ++ t) ≡ (all_allowed s && all_allowed t)
unfolding all_allowed
allowed-append [] t = refl
allowed-append (b ∷ s) t =
    rw (allowed-append s t) (sym (and_assoc (allowed b) (all_allowed s) (all_allowed t)))

-- a text is allowed when its first n bytes and the others are
pub allowed_split : (n : ℕ) (s : List ℕ) → (all_allowed (take n s) && all_allowed (drop n s)) ≡ all_allowed s
allowed_split n s = sym (allowed-append (take n s) (drop n s)) ∙ ap all_allowed (take-append-drop n s)

-- the first bytes of an allowed text are allowed
pub allowed-take : (n : ℕ) (s : List ℕ) → all_allowed s ≡ true → all_allowed (take n s) ≡ true
allowed-take n s e = both_left (all_allowed (take n s)) (all_allowed (drop n s)) (allowed_split n s ∙ e)

-- and so are the others
pub allowed-drop : (n : ℕ) (s : List ℕ) → all_allowed s ≡ true → all_allowed (drop n s) ≡ true
allowed-drop n s e = both_right (all_allowed (take n s)) (all_allowed (drop n s)) (allowed_split n s ∙ e)

-- each byte of an allowed text is allowed
pub allowed_at : (s : List ℕ) (i : ℕ) → i < length s → all_allowed s ≡ true → allowed (get_or s i 0) ≡ true
unfolding all_allowed
allowed_at [] i h e = absurd (omega arith)
allowed_at (b ∷ s) zero h e = both_left (allowed b) (all_allowed s) e
allowed_at (b ∷ s) (suc i) h e =
    allowed_at s i (omega arith) (both_right (allowed b) (all_allowed s) e)

-- nothing is left to test past the end
pub gather_end : (t : Bool) (s : List ℕ) (i : ℕ) → length s ≤ i → (t && all_allowed (drop i s)) ≡ t
unfolding all_allowed
gather_end t s i h = rw (drop_of_length-le s {i = i} h) (and-true t)

-- a turn of the gathering loop: one byte more is passed
pub gather_turn : (t : Bool) (s : List ℕ) (i : ℕ) → i < length s
    → (t && all_allowed (drop i s)) ≡ (t && allowed (get_or s i 0) && all_allowed (drop (i + 1) s))
unfolding all_allowed
gather_turn t s i h =
    rw (add-one, drop-cons s i 0) (sym (and_assoc t (allowed (get_or s i 0)) (all_allowed (drop (suc i) s))))
