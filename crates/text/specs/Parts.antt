-- A part of a text.
use Rattle.std.specs.Prelude.{ℕ, List, take, drop}

-- the n bytes from a place on
abbrev pub part : ℕ → ℕ → List ℕ → List ℕ
part at n s = take n (drop at s)
