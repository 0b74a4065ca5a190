-- Steps of the loop that gathers whether every byte is a solidus.
use mathlib.Core.Path.{◌≡◌, sym}
use mathlib.Core.Bool.{Bool, ◌&&◌, and_assoc, and-true}
use mathlib.Core.List.{List}
use Prim.Native.Nat.{ℕ, suc, ◌+◌, ◌≤◌, ◌<◌}
use native.Mathlib.Numerals.{add-one}
use lib.Dec.{eqb}
use lib.ListN.{length, get_or, drop}
use lib.Seq.{drop-cons}
use Rattle.packed.specs.Packed.{all_solidi}
use Rattle.packed.proofs.Scan.{solidi_end}

-- nothing is left to test past the end
pub gather_end : (t : Bool) (s : List ℕ) (i : ℕ) → length s ≤ i → (t && all_solidi (drop i s)) ≡ t
gather_end t s i h = rw (solidi_end s i h) (and-true t)

-- a turn: one byte more is passed
pub gather_turn : (t : Bool) (s : List ℕ) (i : ℕ) → i < length s
    → (t && all_solidi (drop i s)) ≡ (t && eqb (get_or s i 0) 47 && all_solidi (drop (i + 1) s))
unfolding all_solidi
gather_turn t s i h =
    rw (add-one, drop-cons s i 0) (sym (and_assoc t (eqb (get_or s i 0) 47) (all_solidi (drop (suc i) s))))
