-- A list is refused nowhere just where its tests hold; where it stands plays no part.
use mathlib.Core.Path.{◌≡◌, ◌∙◌}
use mathlib.Core.Bool.{◌&&◌, and_comm}
use Prim.Native.Nat.{ℕ, ◌+◌, ◌*◌}
use lib.Dec.{leb}
use lib.ListN.{take, drop}
use Rattle.text.specs.Checks.{must, ◌and_then◌, is_fine}
use Rattle.text.specs.Names.{all_allowed}
use Rattle.text.proofs.Checks.{fine-must, fine_then}
use Rattle.lists.specs.declared.Airfields.{Airfields}
use Rattle.lists.specs.declared.Boxes.{Boxes}
use Rattle.lists.specs.Lists.{all_zero, names_allowed, airfields_allowed, regions_zero, regions_allowed, boxes_allowed}
use Rattle.lists.proofs.Turns.{names-fine, used_then}
use Rattle.text.specs.declared.Code.TheVariants.{Disagree, OutOfRange}

pub airfields-fine : (at : ℕ) (l : Airfields)
    → is_fine (airfields_allowed at l) ≡ (leb l.count 20 && used_then (4 * l.count) l.names)
unfolding airfields_allowed
airfields-fine at l =
    let few = leb l.count 20 in
    let zero = all_zero (drop (4 * l.count) l.names) in
    let names = names_allowed l.count (at + 2) l.names in
    fine_then (must few OutOfRange at) (must zero Disagree at and_then names)
    ∙ rw (fine-must few OutOfRange at, fine_then (must zero Disagree at) names, fine-must zero Disagree at, names-fine l.count (at + 2) l.names)
    (rw (and_comm zero (all_allowed (take (4 * l.count) l.names))))

pub boxes-fine : (at : ℕ) (l : Boxes)
    → is_fine (boxes_allowed at l)
    ≡ (leb l.count 16 && (regions_zero (drop l.count l.regions) && is_fine (regions_allowed l.count (at + 2) l.regions)))
unfolding boxes_allowed
boxes-fine at l =
    let few = leb l.count 16 in
    let zero = regions_zero (drop l.count l.regions) in
    let boxes = regions_allowed l.count (at + 2) l.regions in
    fine_then (must few OutOfRange at) (must zero Disagree at and_then boxes)
    ∙ rw (fine-must few OutOfRange at, fine_then (must zero Disagree at) boxes, fine-must zero Disagree at)
