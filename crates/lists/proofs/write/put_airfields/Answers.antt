-- `lists::write::put_airfields` meets its contract: the count, then the names in use.
use borrow.Author.Rules.{rules}
use native.Mathlib.Omega.{arith}
use Prim.Native.Nat.{◌≤◌, ◌+◌, ◌*◌}
use lib.ListN.{length, take, drop}
use lib.Seq.{length-take-le}
use mathlib.Core.Path.{◌≡◌, sym, ◌∙◌}
use mathlib.Core.List.{◌++◌}
use Rattle.text.proofs.Over.{then_whole}
use Rattle.field.specs.Decimal.{decimal}
use Rattle.field.proofs.Decimal.{decimal-length}
use Rattle.lists.specs.Lists.{airfields_text}
use Rattle.lists.proofs.Spelling.{airfields-length, count-written}
use Rattle.lists.proofs.write.put_airfields.Goals as goal
use Rattle.lists.proofs.write.put_airfields.Goals.{After-wide-n, Start}

-- the array has its 80 bytes
full : (c : Start) → length c.args.l.names ≡ 80
full c = search rules

-- the names in use lie in it
used : (c : After-wide-n) → 4 * c.wide-n.result ≤ length c.args.l.names
used c =
    let full : length c.args.l.names ≡ 80 = search rules in
    omega (arith, full, c.requires, c.wide-n.ensures)

pub returns : goal.returns
unfolding airfields_text
returns c =
    let a = c.args in
    let n = c.wide-n.result in
    let e : n ≡ a.l.count = c.wide-n.ensures in
    let names = take (4 * n) a.l.names in
    let long : length names ≡ 4 * n = length-take-le (4 * n) a.l.names (used (goal.at.returns c).After-wide-n) in
    let two : length (decimal 2 n) ≡ 2 = decimal-length 2 n in
    let first = count-written a.d.now c.put_decimal.new.d n (omega (arith, c.requires)) c.put_decimal.ensures in
    let both = then_whole a.d.now (c.put_decimal.new.d ++ drop 2 a.d.now) c.copy_from_slice.new.self (decimal 2 n) names 0 2 (2 + 4 * n) first (omega arith) (omega arith) (omega (arith, c.requires)) c.copy_from_slice.ensures.after in
    (rw e (sym (airfields-length a.l (omega (arith, full (goal.at.returns c).Start, c.requires)))), both ∙ rw e)
