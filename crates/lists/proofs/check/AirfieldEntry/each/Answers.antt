-- `lists::check::AirfieldEntry::each` meets its contract: airfields whose bytes are all allowed are accepted.
use native.Mathlib.Omega.{arith}
use Prim.Native.Nat.{ℕ, ◌+◌, ◌-◌, ◌*◌}
use mathlib.Core.Path.{◌≡◌, sym, ap, ◌∙◌}
use lib.ListN.{take, drop}
use Rattle.text.specs.Names.{all_allowed}
use Rattle.field.proofs.Repeat.{airfields-next}
use Rattle.lists.proofs.check.AirfieldEntry.each.Goals as goal

pub returns-then-all_allowed : goal.returns-then-all_allowed
returns-then-all_allowed c =
    let a = c.args in
    let s = c.args.s.now in
    let w : a.at + 4 * a.n - a.at ≡ 4 * a.n = omega arith in
    let e = ap (λ (k : ℕ). all_allowed (take k (drop a.at s))) (sym w) ∙ sym c.all_allowed.ensures ∙ c.if-all_allowed.true in
    sym (airfields-next s a.n a.at c.if-end-s.true e)
