-- `observation::write::put_field` meets its contract: the part is as wide as the figure is written.
use native.Mathlib.Omega.{arith}
use mathlib.Core.Path.{◌≡◌, sym, ap, ◌∙◌}
use Prim.Native.Nat.{ℕ, ◌+◌, ◌-◌}
use native.Mathlib.Nat.{add-zero}
use mathlib.Core.List.{[]}
use lib.ListN.{length, take, drop}
use Rattle.text.specs.Over.{over}
use Rattle.text.proofs.Parts.{part_length}
use Rattle.text.proofs.Over.{over_none, over-whole, then_part}
use Rattle.packed.specs.Packed.{field_of}
use Rattle.packed.proofs.RoundTrip.{field-length}
use Rattle.observation.proofs.write.put_field.Goals as goal
use Rattle.observation.proofs.write.put_field.Goals.{Start}

-- the part is as wide as the figure is to be
wide : (c : Start)
    → let a = c.args in
    length (take (a.from + a.width - a.from) (drop a.from a.d.now)) ≡ a.width
wide c =
    let a = c.args in
    part_length a.d.now a.from (a.from + a.width) c.requires.0 ∙ omega arith

pub put-requires : goal.put-requires
put-requires c =
    rw (wide (goal.at.put-requires c).Start) (c.requires.1, c.requires.2)

pub returns : goal.returns
returns c =
    let a = c.args in
    let d = c.args.d.now in
    let u = field_of a.width a.figure in
    let p = c.put in
    let n : length u ≡ a.width = field-length a.width a.figure in
    let l = take (a.from + a.width - a.from) (drop a.from d) in
    let wrote : p.new.out ≡ over l 0 u =
    p.ensures ∙ ap (λ (k : ℕ). field_of k a.figure) (wide (goal.at.returns c).Start) ∙ sym (over-whole l u (n ∙ sym (wide (goal.at.returns c).Start))) in
    then_part d d p.new.out [] u a.from a.from (a.from + a.width) (over_none d a.from) (sym (add-zero a.from)) (omega arith) c.requires.0 wrote
