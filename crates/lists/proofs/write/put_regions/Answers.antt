use borrow.Author.Rules.{rules}
use native.Mathlib.Omega.{arith}
use Prim.Native.Nat.{◌<◌, ◌+◌, ◌*◌}
use lib.ListN.{length, take, get_or}
use lib.Seq.{length-take-le}
use mathlib.Core.Path.{◌≡◌, refl, sym, ap, ◌∙◌}
use Rattle.field.specs.Boxes.{region_text, no_region}
use Rattle.field.proofs.Spelling.{region_length}
use Rattle.text.specs.Over.{over}
use Rattle.text.proofs.Over.{over_none, length_over, then_part}
use Rattle.lists.specs.Lists.{regions_text}
use Rattle.lists.proofs.Turns.{regions-text-more, regions-text-length}
use Rattle.lists.proofs.write.put_regions.Goals as goal

pub loop-i-init : goal.loop-i-init
unfolding regions_text
loop-i-init c = (refl, over_none _ 0)

pub loop-i-preserved : goal.loop-i-preserved
loop-i-preserved c =
    let a = c.args in
    let i = c.loop-i.i in
    let p = 14 * i in
    let full : length a.regions ≡ 16 = search rules in
    let few : i < length a.regions = omega (arith, full, c.requires, c.loop-i-test.true) in
    let one = region_text (get_or a.regions i no_region) in
    let long : length (regions_text (take i a.regions)) ≡ 14 * i = regions-text-length (take i a.regions) ∙ rw (length-take-le i a.regions (omega arith)) in
    let more : length (regions_text (take (i + 1) a.regions)) ≡ 14 * (i + 1) = regions-text-length (take (i + 1) a.regions) ∙ rw (length-take-le (i + 1) a.regions (omega arith)) in
    let e =
    then_part a.d.now c.loop-i.d c.put_region.new.d (regions_text (take i a.regions)) one 0 p (p + 14) c.loop-i.invariant.1 (omega arith)
    (omega (arith, region_length (get_or a.regions i no_region))) (omega (arith, c.requires, c.loop-i-test.true)) c.put_region.ensures
    ∙ ap (over a.d.now 0) (sym (regions-text-more a.regions i few)) in
    (ap length e ∙ length_over a.d.now 0 (regions_text (take (i + 1) a.regions)) (omega (arith, c.requires)), e)
