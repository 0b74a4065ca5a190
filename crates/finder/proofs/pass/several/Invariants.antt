-- `finder::pass::several` meets its contract. The loop's invariant: from here on the lists that are left decide.
use Prim.Native.Nat.{◌-◌}
use mathlib.Core.Path.{◌≡◌}
use Rattle.field.specs.Fields.{repeat}
use Rattle.finder.specs.Finding.{pass_list}
use Rattle.finder.proofs.pass.several.Given as goal

abbrev pub invariant-loop : goal.invariant-loop
invariant-loop l = repeat (pass_list l.most l.w l.s l.start) l.n l.at ≡ repeat (pass_list l.most l.w l.s l.start) (l.n - l.counter) l.p
