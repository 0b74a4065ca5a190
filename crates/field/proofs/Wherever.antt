-- A box is refused nowhere just where it passes the gathered tests.
use mathlib.Core.Path.{◌≡◌, sym, ap, ◌∙◌}
use mathlib.Core.Bool.{Bool, true, false, not, ◌&&◌, and_assoc, and-true}
use Prim.Native.Nat.{ℕ, ◌+◌}
use lib.Dec.{leb}
use Rattle.text.specs.Checks.{must, ◌and_then◌, is_fine}
use Rattle.text.proofs.Checks.{fine-must, fine_then}
use Rattle.field.specs.declared.Circle.{Circle}
use Rattle.field.specs.declared.Edge.{Edge}
use Rattle.field.specs.declared.Region.{Region}
use Rattle.field.specs.Boxes.{latitude, longitude, is_letter, below_zero, edge_allowed, region_allowed}
use Rattle.field.specs.Steps.{edge_is, pair_is, region_is, in_order}
use Rattle.std.specs.Prelude.{Result}
use Rattle.text.specs.declared.Refusal.{Refusal}
use Rattle.text.specs.declared.Code.TheVariants.{Disagree, NotAllowed, OtherSpelling, OutOfRange}

edge-is : (c : Circle) (at : ℕ) (e : Edge) → is_fine (edge_allowed c at e) ≡ edge_is c e
unfolding edge_allowed
edge-is c at e =
    let few = leb e.degrees c.most in
    let spelt = not (below_zero c e.degrees e.letter) in
    let letter = is_letter c e.letter in
    rw (fine_then (must letter NotAllowed at) (must spelt OtherSpelling at and_then must few OutOfRange at), fine-must letter NotAllowed at)
    (rw (fine_then (must spelt OtherSpelling at) (must few OutOfRange at), fine-must spelt OtherSpelling at, fine-must few OutOfRange at) (sym (and_assoc letter spelt few)))

-- a pair of edges, at two places, and what follows them
pair_is_lem : (falling : Bool) (c : Circle) (a b : Edge) (at mid : ℕ) (more : Result (Unit {0}) Refusal)
    → is_fine (edge_allowed c at a and_then edge_allowed c mid b and_then must (in_order falling c a b) Disagree mid and_then more)
    ≡ (pair_is falling c a b && is_fine more)
pair_is_lem falling c a b at mid more =
    let order = in_order falling c a b in
    let last = must order Disagree mid and_then more in
    fine_then (edge_allowed c at a) (edge_allowed c mid b and_then last)
    ∙ rw (edge-is c at a, fine_then (edge_allowed c mid b) last, edge-is c mid b, fine_then (must order Disagree mid) more, fine-must order Disagree mid)
    (simp and_assoc)

pub region_is_lem : (b : Region) (at : ℕ) → is_fine (region_allowed at b) ≡ region_is b
unfolding region_is region_allowed
region_is_lem b at =
    let n = b.north in
    let s = b.south in
    let w = b.west in
    let e = b.east in
    let ends = edge_allowed longitude (at + 6) w and_then edge_allowed longitude (at + 10) e in
    let we : is_fine ends ≡ pair_is false longitude w e =
    fine_then (edge_allowed longitude (at + 6) w) (edge_allowed longitude (at + 10) e)
    ∙ rw (edge-is longitude (at + 6) w, edge-is longitude (at + 10) e) (sym (and-true (edge_is longitude w && edge_is longitude e))) in
    pair_is_lem true latitude n s at (at + 3) ends ∙ ap (λ (t : Bool). pair_is true latitude n s && t) we
