use native.Mathlib.Omega.{arith}
use Prim.Native.Nat.{ℕ, ◌+◌, ◌-◌, ◌≤◌}
use mathlib.Core.Path.{◌≡◌, refl, sym, ap, ◌∙◌}
use lib.ListN.{length, length-append}
use mathlib.Core.List.{◌++◌}
use Rattle.sheet.proofs.Contents.{held_forms, field-length, cell-length, joined-more, sizes, sizes-more, sizes-within}
use Rattle.sheet.proofs.Contents.{label_length, allowed-held}
use Rattle.sheet.proofs.Small.{cell-small}
use native.Mathlib.Nat.{zero-add}
use borrow.Rule.Slice.PartMut.{put_mid}
use Rattle.text.specs.Over.{over}
use Rattle.text.proofs.Over.{over_none, length_over, then_whole}
use Rattle.text.proofs.Parts.{part_length}
use Rattle.sheet.specs.Layout.{cell_at}
use Rattle.sheet.specs.Inner.{size_of_cell}
use Rattle.sheet.specs.Sheet.{joined, held_at, held_text, sheet_text}
use borrow.Author.Rules.{rules}
use Rattle.sheet.proofs.write.put_cells.Goals as goal
use Rattle.sheet.proofs.write.put_cells.Goals.{After-put_cell, After-size_of_cell}

-- the cell ends within the buffer
ends : (c : After-size_of_cell)
    → (c.loop-k.p + c.size_of_cell.result ≤ 913)
    × ((c.size_of_cell.result ≡ size_of_cell (cell_at c.loop-k.k)) × (913 ≤ length c.args.d.now))
ends c =
    let l = c.loop-k in
    let size : c.size_of_cell.result ≡ size_of_cell (cell_at l.k) = c.size_of_cell.ensures ∙ ap size_of_cell c.cell_at-c.ensures in
    (omega (arith, size, l.invariant.1.0, sizes-within l.k c.loop-k-test.true), (size, c.requires.in_bounds))

-- the text of the cell
text-is : (c : After-put_cell)
    → let x = c.args.x in
    let k = c.loop-k.k in
    (c.put_cell.new.d ≡ held_text x k) × (length (held_text x k) ≡ size_of_cell (cell_at k))
text-is c =
    let x = c.args.x in
    let k = c.loop-k.k in
    let few = c.loop-k-test.true in
    let six : length c.held_at.result.name ≡ 6 = search (rules, c.held_at.type_inv) in
    let wide = rw c.held_at.ensures at (field-length (cell_at k).form c.held_at.result six (held_forms k few)) in (
      c.put_cell.ensures ∙ rw (c.cell_at-c.ensures, c.held_at.ensures),
      cell-length (cell_at k) (held_at x k) (label_length k few) wide,
    )

-- how long the text is with it
joined-long : (c : After-put_cell) → c.size_of_cell.result ≡ size_of_cell (cell_at c.loop-k.k)
    → let l = c.loop-k in
    length (joined (held_text c.args.x) 0 (l.k + 1)) ≡ l.p + c.size_of_cell.result
joined-long c size =
    let l = c.loop-k in
    let x = c.args.x in
    let more : joined (held_text x) 0 (l.k + 1) ≡ joined (held_text x) 0 l.k ++ held_text x l.k = joined-more (held_text x) 0 l.k ∙ rw (zero-add l.k) in
    ap length more ∙ length-append (joined (held_text x) 0 l.k) (held_text x l.k) ∙ omega (arith, l.invariant.1.1.0, (text-is c).1, size)

-- the buffer with it
written : (c : After-put_cell)
    → (c.loop-k.p + c.size_of_cell.result ≤ 913)
    × ((c.size_of_cell.result ≡ size_of_cell (cell_at c.loop-k.k)) × (913 ≤ length c.args.d.now))
    → let l = c.loop-k in
    let a = c.args in
    put_mid l.p (l.p + c.size_of_cell.result - l.p) l.d c.put_cell.new.d
    ≡ over a.d.now 0 (joined (held_text a.x) 0 (l.k + 1))
written c size =
    let l = c.loop-k in
    let a = c.args in
    let text = text-is c in
    let more : joined (held_text a.x) 0 (l.k + 1) ≡ joined (held_text a.x) 0 l.k ++ held_text a.x l.k = joined-more (held_text a.x) 0 l.k ∙ rw (zero-add l.k) in
    then_whole a.d.now l.d c.put_cell.new.d (joined (held_text a.x) 0 l.k) (held_text a.x l.k) 0 l.p (l.p + c.size_of_cell.result)
    l.invariant.1.1.1 (omega (arith, l.invariant.1.1.0)) (omega (arith, text.1, size.1.0)) (omega (arith, size.0, size.1.1)) text.0
    ∙ ap (over a.d.now 0) (sym more)

pub loop-k-init : goal.loop-k-init
unfolding joined sizes
loop-k-init c = (refl, (refl, (refl, over_none _ 0)))

pub size_of_cell-requires : goal.size_of_cell-requires
size_of_cell-requires c = rw c.cell_at-c.ensures (cell-small _ c.loop-k-test.true)

pub overflow_add-end : goal.overflow_add-end
overflow_add-end c = omega (arith, ends (goal.at.overflow_add-end c).After-size_of_cell)

pub slice_bounds-put_cell-start : goal.slice_bounds-put_cell-start
slice_bounds-put_cell-start c = omega (arith, ends (goal.at.slice_bounds-put_cell-start c).After-size_of_cell, c.loop-k.invariant.0)

pub slice_bounds-put_cell-end : goal.slice_bounds-put_cell-end
slice_bounds-put_cell-end c = omega (arith, ends (goal.at.slice_bounds-put_cell-end c).After-size_of_cell, c.loop-k.invariant.0)

pub put_cell-requires : goal.put_cell-requires
put_cell-requires c =
    let l = c.loop-k in
    let long = part_length l.d l.p (l.p + c.size_of_cell.result) (omega (arith, ends (goal.at.put_cell-requires c).After-size_of_cell, l.invariant.0)) in record { c_value = rw c.cell_at-c.ensures (cell-small _ c.loop-k-test.true); form_value = rw c.cell_at-c.ensures (held_forms _ c.loop-k-test.true); d_len = long ∙ omega (arith, c.size_of_cell.ensures); h_value = rw (c.cell_at-c.ensures, c.held_at.ensures) (allowed-held _ c.requires.x_value _ c.loop-k-test.true) }

pub loop-k-preserved : goal.loop-k-preserved
loop-k-preserved c =
    let l = c.loop-k in
    let size = ends (goal.at.loop-k-preserved c).After-size_of_cell in
    let e = written (goal.at.loop-k-preserved c).After-put_cell size in
    let long = joined-long (goal.at.loop-k-preserved c).After-put_cell size.1.0 in
    let more : sizes 0 (l.k + 1) ≡ sizes 0 l.k + size_of_cell (cell_at l.k) = sizes-more 0 l.k ∙ rw (zero-add l.k) in (
      ap length e ∙ length_over c.args.d.now 0 (joined (held_text c.args.x) 0 (l.k + 1)) (omega (arith, long, size.0, size.1.1)),
      (omega (arith, more, size.1.0, l.invariant.1.0), (long, e)),
    )

pub returns : goal.returns
unfolding sheet_text
returns c =
    let l = c.loop-k in
    let a = c.args in
    let all : l.k ≡ 167 = omega (arith, c.loop-k-test.false) in
    l.invariant.1.1.1 ∙ ap (λ (n : ℕ). over a.d.now 0 (joined (held_text a.x) 0 n)) all
