-- `field::write::put_pair` meets its contract: two parts, one after the other.
use native.Mathlib.Omega.{arith}
use Prim.Native.Nat.{ℕ, ◌+◌}
use mathlib.Core.Path.{◌≡◌, sym, ap, ◌∙◌}
use mathlib.Core.List.{◌++◌}
use lib.ListN.{length, take, drop}
use lib.Seq.{length-take-le}
use Rattle.text.specs.Over.{over}
use Rattle.text.proofs.Over.{front-over, over-whole, then_part}
use Rattle.field.specs.Steps.{edge_bytes}
use Rattle.field.proofs.Spelling.{bytes-length}
use Rattle.field.proofs.write.put_pair.Goals as goal
use Rattle.field.proofs.write.put_pair.Goals.{After-put_edge}

-- the buffer after the first edge
first : (c : After-put_edge)
    → let a = c.args in
    c.put_edge.new.d ++ drop (a.w + 1) a.d.now ≡ over a.d.now 0 (edge_bytes a.w a.first)
first c =
    let a = c.args in
    let w = a.w + 1 in
    let long : length (edge_bytes a.w a.first) ≡ w = bytes-length a.w a.first in
    let front : length (take w a.d.now) ≡ w = length-take-le w a.d.now (omega (arith, c.requires)) in
    ap (λ (n : ℕ). c.put_edge.new.d ++ drop n a.d.now) (sym long)
    ∙ front-over a.d.now c.put_edge.new.d (edge_bytes a.w a.first)
    (c.put_edge.ensures ∙ over-whole (take w a.d.now) (edge_bytes a.w a.first) (long ∙ sym front))

pub returns : goal.returns
returns c =
    let a = c.args in
    let w = a.w + 1 in
    let long : length (edge_bytes a.w a.first) ≡ w = bytes-length a.w a.first in
    let rest : length (edge_bytes a.w a.second) ≡ w = bytes-length a.w a.second in
    then_part a.d.now (c.put_edge.new.d ++ drop w a.d.now) c.put_edge-2.new.d (edge_bytes a.w a.first) (edge_bytes a.w a.second) 0 w (w + w)
    (first (goal.at.returns c).After-put_edge) (omega arith) (omega arith) c.requires.1 c.put_edge-2.ensures
