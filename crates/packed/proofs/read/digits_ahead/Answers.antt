use mathlib.Core.Path.{ap, ◌∙◌}
use Prim.Native.Nat.{ℕ}
use lib.Dec.{leb}
use lib.ListN.{length}
use Rattle.std.specs.Option.{unwrap_or}
use Rattle.std.specs.Prelude.{Option}
use Rattle.packed.specs.Packed.{worth_of, is_digit}
use Rattle.packed.proofs.Scan.{ahead-position, forty}
use Rattle.packed.proofs.read.digits_ahead.Goals as goal

pub returns : goal.returns
returns c =
    let f = c.args.f.now in
    c.unwrap_or.ensures
    ∙ ap (λ (x : Option ℕ). unwrap_or x (length f)) c.first_odd.ensures
    ∙ ahead-position is_digit (λ (b : ℕ). leb 40 (worth_of b)) (λ (b : ℕ). forty (worth_of b)) f
