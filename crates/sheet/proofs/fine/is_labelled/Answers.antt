use borrow.Author.Rules.{rules}
use native.Mathlib.Omega.{arith}
use Prim.Native.Nat.{ℕ, ◌+◌, ◌≤◌, ◌<◌}
use mathlib.Core.Path.{◌≡◌}
use lib.ListN.{length, get_or}
use Rattle.sheet.proofs.Short.{short-same, four}
use Rattle.sheet.proofs.fine.is_labelled.Goals as goal
use Rattle.sheet.proofs.fine.is_labelled.Goals.{Start}

-- it is no longer than the label
fits : (c : Start) → c.args.n ≤ length c.args.label
fits c = let long : length c.args.label ≡ 16 = search rules in omega (arith, c.requires)

pub returns : goal.returns
returns c =
    let a = c.args in
    λ e.
    let same = four (λ (i : ℕ). i < a.n → get_or a.s.now (a.at + i) 0 ≡ get_or a.label i 0)
    (c.is_there.ensures c.if-not-is_there.false)
    (c.is_there-2.ensures c.if-not-is_there-2.false)
    (c.is_there-3.ensures c.if-not-is_there-3.false)
    (c.is_there-4.ensures e) in
    short-same a.label a.s.now a.at a.n (fits (goal.at.returns c).Start) c.requires.1.1 (λ (i : ℕ) (h : i < a.n). same i (omega (arith, c.requires.1.0)) h)
