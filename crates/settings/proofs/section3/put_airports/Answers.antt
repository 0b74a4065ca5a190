-- `settings::section3::put_airports` meets its contract.
use native.Mathlib.Omega.{arith}
use mathlib.Core.Path.{◌≡◌, refl, sym, ◌∙◌}
use mathlib.Core.List.{[], ◌∷◌, ◌++◌, append_assoc}
use Prim.Native.Nat.{◌+◌, ◌-◌, ◌≤◌}
use lib.ListN.{length, set, drop, length-append}
use borrow.Rule.Slice.PartMut.{put_mid}
use Rattle.text.specs.Over.{over}
use Rattle.field.specs.Decimal.{decimal}
use Rattle.field.proofs.Decimal.{decimal-length}
use Rattle.section.proofs.Written.{number-written}
use Rattle.lists.specs.Lists.{airfields_text}
use Rattle.text.proofs.Over.{then_part, then_byte, length_then}
use Rattle.section.specs.Layout.{layout_of, table_of}
use Rattle.section.specs.Contents.{contents_text}
use Rattle.settings.specs.Settings.{phases_text}
use Rattle.settings.proofs.Pieces.{front_part}
use Rattle.settings.proofs.section3.put_airports.Goals as goal
use Rattle.settings.proofs.section3.put_airports.Goals.{After-put_decimal}

-- the text, part by part
written : (c : After-put_decimal)
    → let a = c.args in
    let d = c.args.d.now in
    let third = c.phases_size-third.result in
    let routine = third + c.phases_size.result in
    put_mid routine (routine + 1 - routine)
    (put_mid third (routine - third) (c.put_phases.new.d ++ drop third d) c.put_phases-2.new.d)
    c.put_decimal.new.d
    ≡ over d 0 ((phases_text a.x.selected ++ phases_text a.x.inhibited) ++ decimal 1 a.x.routine)
written c =
    let a = c.args in
    let d = c.args.d.now in
    let third = c.phases_size-third.result in
    let routine = third + c.phases_size.result in
    let t = phases_text a.x.selected in
    let u = phases_text a.x.inhibited in
    let tl : third ≡ length t = c.phases_size-third.ensures.0 ∙ sym (length-append (airfields_text a.x.selected.ascent) (airfields_text a.x.selected.descent)) in
    let ul : c.phases_size.result ≡ length u = c.phases_size.ensures.0 ∙ sym (length-append (airfields_text a.x.inhibited.ascent) (airfields_text a.x.inhibited.descent)) in
    let room : routine + 2 ≤ length d = omega (arith, c.phases_size-third.ensures.0, c.phases_size.ensures.0, c.requires.descent_in_bounds) in
    let D = c.put_phases.new.d ++ drop third d in
    let E = put_mid third (routine - third) D c.put_phases-2.new.d in
    let one = front_part d c.put_phases.new.d t third tl (omega arith) c.put_phases.ensures in
    let two = then_part d D c.put_phases-2.new.d t u 0 third routine one (omega arith) (omega arith) (omega arith) c.put_phases-2.ensures in
    let both : length (t ++ u) ≡ length t + length u = length-append t u in
    number-written d E c.put_decimal.new.d (t ++ u) a.x.routine 1 routine (routine + 1) two (omega arith) refl (omega arith)
    c.put_decimal.ensures

-- how long it is before the delimiter
size : (c : After-put_decimal)
    → let a = c.args in
    c.phases_size-third.result + c.phases_size.result + 1
    ≡ length ((phases_text a.x.selected ++ phases_text a.x.inhibited) ++ decimal 1 a.x.routine)
size c =
    simp (length-append, decimal-length) (omega (arith, c.phases_size-third.ensures.0, c.phases_size.ensures.0))

-- and the delimiter
ended : (c : After-put_decimal)
    → let a = c.args in
    let d = c.args.d.now in
    let third = c.phases_size-third.result in
    let routine = third + c.phases_size.result in
    set
    (put_mid routine (routine + 1 - routine)
    (put_mid third (routine - third) (c.put_phases.new.d ++ drop third d) c.put_phases-2.new.d)
    c.put_decimal.new.d)
    (routine + 1) 47
    ≡ over d 0 (((phases_text a.x.selected ++ phases_text a.x.inhibited) ++ decimal 1 a.x.routine) ++ (47 ∷ []))
ended c =
    let a = c.args in
    let d = c.args.d.now in
    let third = c.phases_size-third.result in
    let routine = third + c.phases_size.result in
    then_byte d _ ((phases_text a.x.selected ++ phases_text a.x.inhibited) ++ decimal 1 a.x.routine) 47 0 (routine + 1) (written c)
    (omega (arith, size c))
    (omega (arith, c.phases_size-third.ensures.0, c.phases_size.ensures.0, c.requires.descent_in_bounds))

pub bounds-d-end : goal.bounds-d-end
bounds-d-end c =
    let a = c.args in
    let d = c.args.d.now in
    let third = c.phases_size-third.result in
    let routine = third + c.phases_size.result in
    let l = length_then d _ ((phases_text a.x.selected ++ phases_text a.x.inhibited) ++ decimal 1 a.x.routine) 0 (written (goal.at.bounds-d-end c).After-put_decimal) (omega (arith, size (goal.at.bounds-d-end c).After-put_decimal, c.phases_size-third.ensures.0, c.phases_size.ensures.0, c.requires.descent_in_bounds)) in
    omega (arith, l, c.phases_size-third.ensures.0, c.phases_size.ensures.0, c.requires.descent_in_bounds)

pub returns : goal.returns
unfolding layout_of table_of contents_text
returns c =
    let a = c.args in
    let d = c.args.d.now in
    let third = c.phases_size-third.result in
    let routine = third + c.phases_size.result in
    (simp (length-append, decimal-length) (omega (arith, c.phases_size-third.ensures.0, c.phases_size.ensures.0)), ended (goal.at.returns c).After-put_decimal ∙ simp append_assoc)
