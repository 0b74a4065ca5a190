use mathlib.Core.Path.{◌≡◌, ◌∙◌}
use Rattle.packed.specs.Packed.{is_solidus, ahead, fault_behind}
use Rattle.packed.proofs.Reading.{refused-solidi, refused-place, refused-more}
use Rattle.packed.proofs.read.refused.Goals as goal

pub returns-then-solidi-gt0 : goal.returns-then-solidi-gt0
returns-then-solidi-gt0 c =
    let f = c.args.f.now in
    let a : c.solidi_ahead-solidi.result ≡ ahead is_solidus f = c.solidi_ahead-solidi.ensures in
    c.at.ensures ∙ rw a (refused-solidi f (rw a at c.if-solidi-gt0.true))

pub returns-then-place-f : goal.returns-then-place-f
returns-then-place-f c =
    let f = c.args.f.now in
    let a : c.solidi_ahead-solidi.result ≡ ahead is_solidus f = c.solidi_ahead-solidi.ensures in
    let p : c.fault_behind-place.result ≡ fault_behind f = c.fault_behind-place.ensures in
    c.at-then-place-f.ensures ∙ rw p (refused-place f (rw a at c.if-solidi-gt0.false) (rw p at c.if-place-f.true))

pub returns-else-place-f : goal.returns-else-place-f
returns-else-place-f c =
    let f = c.args.f.now in
    let p : c.fault_behind-place.result ≡ fault_behind f = c.fault_behind-place.ensures in
    c.at-else-place-f.ensures ∙ refused-more f c.requires.0 (rw p at c.if-place-f.false)
