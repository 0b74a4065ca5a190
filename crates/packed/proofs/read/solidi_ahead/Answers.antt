use mathlib.Core.Path.{refl, ap, ◌∙◌}
use mathlib.Core.Bool.{not}
use Prim.Native.Nat.{ℕ}
use lib.Dec.{eqb}
use lib.ListN.{length}
use Rattle.std.specs.Option.{unwrap_or}
use Rattle.std.specs.Prelude.{Option}
use Rattle.packed.specs.Packed.{is_solidus}
use Rattle.packed.proofs.Scan.{ahead-position}
use Rattle.packed.proofs.read.solidi_ahead.Goals as goal

pub returns : goal.returns
returns c =
    let f = c.args.f.now in
    c.unwrap_or.ensures
    ∙ ap (λ (x : Option ℕ). unwrap_or x (length f)) c.first_other.ensures
    ∙ ahead-position is_solidus (λ (b : ℕ). not (eqb b 47)) (λ (b : ℕ). refl) f
