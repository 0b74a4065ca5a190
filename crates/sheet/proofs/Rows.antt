-- Cells by their line: a box's five, an airport's two. Where a line is all there, each of its cells is.
use mathlib.Core.Path.{◌≡◌, refl}
use mathlib.Core.Bool.{true}
use mathlib.Core.List.{List}
use Prim.Native.Nat.{ℕ, suc, ◌+◌, ◌-◌, ◌*◌, ◌/◌, ◌%◌, ◌≤◌, ◌<◌}
use native.Mathlib.Omega.{arith}
use lib.Dec.{leb}
use lib.ListN.{length, get_or}
use borrow.Author.Tests.{leb-true, lt-ltb, le-ltb}
use Rattle.sheet.specs.Layout.{head_cells, no_cell, box_cells, box_cell, airport_cells, airport_cell, cell_at}
use Rattle.sheet.specs.Sheet.{cell_end}
use Rattle.sheet.specs.Inner.{Whole}
use Rattle.sheet.proofs.Small.{every, cell-small}
use Rattle.sheet.proofs.Ends.{ends_rise}

-- computed: but for the first, a short fixed group
short : (k : ℕ) → k < 166 → leb (cell_at (suc k)).labelled 4 ≡ true
unfolding cell_at box_cell airport_cell
short = every (λ k. leb (cell_at (suc k)).labelled 4) 166 refl

-- where a later cell is all there
pub whole : (s : List ℕ) (k last : ℕ) → 0 < k → k ≤ last → last < 167 → cell_end (cell_at last) ≤ length s → Whole s (cell_at k)
whole s k last low high few long =
    let is : suc (k - 1) ≡ k = omega arith in (
      cell-small k (omega arith),
      (rw is at (leb-true (cell_at (suc (k - 1))).labelled 4 (short (k - 1) (omega arith))), omega (arith, ends_rise k last high few, long)),
    )

pub head-is : (k : ℕ) → k < 17 → get_or head_cells k no_cell ≡ cell_at k
unfolding cell_at
head-is k h = rw (lt-ltb k 17 h)

pub box-is : (i j : ℕ) → i < 10 → j < 5 → get_or (box_cells i (83 + 32 * i)) j no_cell ≡ cell_at (17 + 5 * i + j)
unfolding cell_at box_cell
box-is i j h l =
    let k : ℕ = 17 + 5 * i + j in
    let line : (k - 17) / 5 ≡ i = omega arith in
    let part : (k - 17) % 5 ≡ j = omega arith in
    rw (le-ltb k 17 (omega arith), lt-ltb k 67 (omega arith), line, part)

pub port_is : (row column j : ℕ) → row < 10 → column < 5 → j < 2 → get_or (airport_cells row column) j no_cell ≡ cell_at (67 + 10 * row + (2 * column + j))
unfolding cell_at airport_cell
port_is row column j h l m =
    let k : ℕ = 67 + 10 * row + (2 * column + j) in
    let r : (k - 67) / 2 / 5 ≡ row = omega arith in
    let c : (k - 67) / 2 % 5 ≡ column = omega arith in
    let part : (k - 67) % 2 ≡ j = omega arith in
    rw (le-ltb k 17 (omega arith), le-ltb k 67 (omega arith), r, c, part)
