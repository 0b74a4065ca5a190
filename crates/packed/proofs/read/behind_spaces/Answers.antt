use mathlib.Core.Path.{◌≡◌, refl, ap, ◌∙◌}
use mathlib.Core.Bool.{not}
use Prim.Native.Nat.{ℕ}
use lib.Dec.{eqb}
use lib.ListN.{length}
use Rattle.std.specs.Option.{unwrap_or}
use Rattle.std.specs.Prelude.{Option}
use Rattle.packed.specs.Packed.{ahead}
use Rattle.packed.proofs.Scan.{is_space, ahead-position, ahead-le, ahead-trim}
use Rattle.packed.proofs.read.behind_spaces.Goals as goal

pub returns : goal.returns
returns c =
    let f = c.args.f.now in
    let same : c.unwrap_or.result ≡ ahead is_space f =
    c.unwrap_or.ensures
    ∙ ap (λ (x : Option ℕ). unwrap_or x (length f)) c.first_other.ensures
    ∙ ahead-position is_space (λ (b : ℕ). not (eqb b 32)) (λ (b : ℕ). refl) f in
    rw same (ahead-le is_space f, ahead-trim f)
