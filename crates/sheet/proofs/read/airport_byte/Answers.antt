use borrow.Author.Tests.{eq-eqb, ne_eqb, leb-true}
use native.Mathlib.Omega.{arith}
use mathlib.Core.Path.{◌≡◌, ap, ◌∙◌}
use Prim.Native.Nat.{ℕ, ◌+◌, ◌*◌, ◌/◌, ◌%◌, ◌≤◌, ◌<◌}
use Rattle.sheet.proofs.Small.{name_near}
use native.Mathlib.Numerals.{add-one}
use Rattle.sheet.proofs.Rows.{port_is}
use Rattle.sheet.specs.Sheet.{airport_byte, field_at, name_cell}
use Rattle.sheet.specs.Layout.{cell_at}
use Rattle.sheet.proofs.Small.{status-small}
use Rattle.sheet.proofs.read.airport_byte.Goals as goal
use Rattle.sheet.proofs.read.airport_byte.Goals.{After-airport_part-c}

-- the cell of the name, and its place
name : (c : After-airport_part-c) → c.airport_part-c.result ≡ cell_at (name_cell (c.args.i / 5))
name c =
    let n : ℕ = c.args.i / 5 in
    let few : n < 50 = omega (arith, c.requires.i_bound) in
    let k : 67 + 10 * (n % 10) + (2 * (n / 10) + 0) ≡ name_cell n = omega arith in
    c.airport_part-c.ensures ∙ port_is (n % 10) (n / 10) 0 (omega arith) (omega arith) (omega arith) ∙ ap cell_at k

near : (c : After-airport_part-c) → c.airport_part-c.result.at + c.airport_part-c.result.labelled + 4 ≤ 913
near c =
    let n = c.args.i / 5 in
    rw (name c) (leb-true (field_at (cell_at (name_cell n)) + 4) 913 (name_near n (omega (arith, c.requires.i_bound))))

pub overflow_cast-result : goal.overflow_cast-result
overflow_cast-result c =
    let a = c.args in
    let w : c.word_at.result ≤ 9 = rw (c.word_at.ensures, add-one) (status-small a.s.now (a.i / 5) (omega (arith, c.requires.i_bound))) in
    omega (arith, w)

pub returns-then-j-eq4 : goal.returns-then-j-eq4
unfolding airport_byte
returns-then-j-eq4 c = rw (c.word_at.ensures, add-one, eq-eqb _ 4 c.if-j-eq4.true)

pub returns : goal.returns
unfolding airport_byte
returns c = rw (name (goal.at.returns c).After-airport_part-c, ne_eqb _ 4 c.if-j-eq4.false)
