use borrow.Author.Rules.{rules}
use native.Mathlib.Omega.{arith}
use mathlib.Core.Path.{◌≡◌, sym, ap, ◌∙◌}
use mathlib.Core.List.{List}
use Prim.Native.Nat.{ℕ, ◌+◌, ◌*◌, ◌≤◌}
use lib.ListN.{length, take, drop}
use Rattle.text.specs.Equal.{same_bytes}
use Rattle.decide.proofs.Listed.{name_at, has_turn, has_stop, has_end}
use Rattle.decide.proofs.airfield.has_name.Goals as goal
use Rattle.decide.proofs.airfield.has_name.Goals.{After-is_name, In-loop-i, Start}

-- the array has its 80 bytes
full : (c : Start) → length c.args.l.names ≡ 80
full c = search rules

-- and this name lies within them
room : (c : In-loop-i) → 4 * c.loop-i.i + 4 ≤ 80
room c =
    omega (arith, c.loop-i-test.true, c.requires, c.wide-n.ensures)

-- what is tested is the name's four bytes
seen : (c : After-is_name)
    → let a = c.args in
    c.is_name.result ≡ same_bytes (take 4 (drop (4 * c.loop-i.i) a.l.names)) a.name
seen c =
    let full : length c.args.l.names ≡ 80 = search rules in
    let room : 4 * c.loop-i.i + 4 ≤ 80 =
    omega (arith, c.loop-i-test.true, c.requires, c.wide-n.ensures) in
    let a = c.args in
    c.is_name.ensures
    ∙ ap (λ (s : List ℕ). same_bytes s a.name)
    (sym (name_at a.l.names a.name a.l.count c.loop-i.i (omega (arith, full, room))))

pub returns-then-is_name : goal.returns-then-is_name
returns-then-is_name c =
    let a = c.args in
    rw (← c.wide-n.ensures)
    (sym (c.loop-i.invariant.1 ∙ has_stop a.l.names a.name c.wide-n.result c.loop-i.i c.loop-i-test.true (sym (seen (goal.at.returns-then-is_name c).After-is_name) ∙ c.if-is_name.true)))

pub loop-i-preserved : goal.loop-i-preserved
loop-i-preserved c =
    let a = c.args in
    (omega arith, c.loop-i.invariant.1 ∙ has_turn a.l.names a.name c.wide-n.result c.loop-i.i c.loop-i-test.true (sym (seen (goal.at.loop-i-preserved c).After-is_name) ∙ c.if-is_name.false))

pub returns : goal.returns
returns c =
    let a = c.args in
    rw (← c.wide-n.ensures)
    (sym (c.loop-i.invariant.1 ∙ has_end a.l.names a.name c.wide-n.result c.loop-i.i c.loop-i-test.false))
