-- A text written over a buffer: "Success writes exactly the text; bytes beyond it stay."
use Rattle.std.specs.Prelude.{ℕ, ◌+◌, List, ◌++◌, length, take, drop}

-- d, with t written over it at a place
unfoldable pub over : List ℕ → ℕ → List ℕ → List ℕ
over d at t = take at d ++ t ++ drop (at + length t) d
