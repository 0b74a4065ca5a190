-- Worked examples: a row and the four inputs, and what is answered.
use Rattle.std.specs.Prelude.{ℕ, List, [], ◌∷◌, ℤ, pos, neg_ℤ, Result, Ok, Err}
use Rattle.text.specs.declared.Code.{Code}
use Rattle.text.specs.declared.Code.TheVariants.{OutOfRange}

pub record Example : Type 0 where
  pub row : ℕ
  pub height : ℤ
  pub mass : ℕ
  pub acceleration : ℕ
  pub speed : ℕ
  pub answer : Result ℤ Code

abbrev example : ℕ → ℤ → ℕ → ℕ → ℕ → Result ℤ Code → Example
example k h m n v a = record { row = k; height = h; mass = m; acceleration = n; speed = v; answer = a }

abbrev pub examples : List Example
examples =
    -- rounded down below zero: toward zero it would be 397
    example 4 (pos 10000) 54321 1303 101 (Ok (pos 396)) ∷
    -- a gust of -1: toward zero it would be 0
    example 34 (pos 0) 10000 1 500 (Err OutOfRange) ∷
    -- at the reference mass
    example 0 (pos 0) 120000 1000 250 (Ok (pos 168)) ∷
    -- the last row
    example 35 (pos 35000) 150000 300 280 (Ok (pos 32)) ∷
    -- a c1 below zero
    example 20 (pos 50000) 250000 5000 500 (Ok (pos 284)) ∷
    -- the greatest gust, and one beyond it
    example 12 (pos 20000) 50000 3565 150 (Ok (pos 799)) ∷
    example 12 (pos 20000) 50000 3566 150 (Err OutOfRange) ∷
    -- each range at its ends
    example 0 (neg_ℤ (pos 1000)) 1 0 1 (Ok (pos 0)) ∷
    example 35 (pos 50000) 500000 0 500 (Ok (pos 0)) ∷
    example 36 (pos 0) 120000 0 250 (Err OutOfRange) ∷
    example 0 (neg_ℤ (pos 1001)) 120000 0 250 (Err OutOfRange) ∷
    example 0 (pos 50001) 120000 0 250 (Err OutOfRange) ∷
    example 0 (pos 0) 0 0 250 (Err OutOfRange) ∷
    example 0 (pos 0) 500001 0 250 (Err OutOfRange) ∷
    example 0 (pos 0) 120000 5001 500 (Err OutOfRange) ∷
    example 0 (pos 0) 120000 0 0 (Err OutOfRange) ∷
    example 0 (pos 0) 120000 0 501 (Err OutOfRange) ∷
    []
