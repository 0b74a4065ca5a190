use native.Mathlib.Omega.{arith}
use mathlib.Core.Path.{◌≡◌, refl, sym, ap, ◌∙◌}
use mathlib.Core.List.{List, [], ◌++◌, append_assoc, append-nil}
use Prim.Native.Nat.{ℕ, ◌+◌, ◌-◌, ◌≤◌}
use lib.ListN.{length, drop, length-append}
use borrow.Rule.Slice.PartMut.{put_mid}
use Rattle.text.specs.Over.{over}
use Rattle.text.proofs.Over.{over_none, length_over, rest-room, rest-written}
use Rattle.section.specs.Layout.{numbers}
use Rattle.join.specs.Join.{join_section, join_sections}
use Rattle.join.proofs.Side.{sections-next, sections_end}
use Rattle.join.proofs.sections.put_sections.Goals as goal
use Rattle.join.proofs.sections.put_sections.Goals.{After-put_section-at, In-loop-k}

-- the next section's bytes, and what is left behind them
abbrev one : (c : In-loop-k) → List ℕ
one c = let a = c.args in join_section a.a.now.text.now a.b.now.text.now c.loop-k.k

next : (c : In-loop-k)
    → let a = c.args in
    join_sections numbers a.a.now.text.now a.b.now.text.now
    ≡ (c.loop-k.invariant.1.text ++ one c) ++ join_sections (drop (c.loop-k.k + 1 - 2) numbers) a.a.now.text.now a.b.now.text.now
next c =
    let l = c.loop-k in
    let a = c.args in
    let w = c.loop-k.invariant.1 in
    w.rest
    ∙ ap (λ (t : List ℕ). w.text ++ t) (sections-next a.a.now.text.now a.b.now.text.now l.k (omega arith) c.loop-k-test.true)
    ∙ sym (append_assoc w.text (one c) (join_sections (drop (l.k + 1 - 2) numbers) a.a.now.text.now a.b.now.text.now))

-- it ends in the sections' bytes, and there is room for it
ends : (c : In-loop-k)
    → let a = c.args in
    c.loop-k.at + length (one c) ≤ length (join_sections numbers a.a.now.text.now a.b.now.text.now)
ends c =
    let l = c.loop-k in
    let a = c.args in
    let w = c.loop-k.invariant.1 in
    let rest = join_sections (drop (l.k + 1 - 2) numbers) a.a.now.text.now a.b.now.text.now in
    omega (arith, ap length (next c), length-append (w.text ++ one c) rest, length-append w.text (one c), w.long)

fits : (c : In-loop-k) → c.loop-k.at + length (one c) ≤ length c.args.d.now
fits c = omega (arith, ends c, c.requires.b_in_bounds)

pub loop-k-init : goal.loop-k-init
loop-k-init c = (refl, record { text = []; long = refl; is = over_none _ 0; rest = refl })

pub put_section-at-requires : goal.put_section-at-requires
put_section-at-requires c =
    let l = c.loop-k in
    let w = c.loop-k.invariant.1 in record { le_k = (omega arith, omega arith, c.requires.walked.0, c.requires.walked.1); k_in_bounds = rest-room c.args.d.now l.d w.text l.at w.is w.long (length (one (goal.at.put_section-at-requires c).In-loop-k)) (fits (goal.at.put_section-at-requires c).In-loop-k) }

-- the buffer with one section more
written : (c : After-put_section-at)
    → let l = c.loop-k in
    let a = c.args in
    put_mid l.at (length l.d - l.at) l.d c.put_section-at.new.d ≡ over a.d.now 0 (l.invariant.1.text ++ join_section a.a.now.text.now a.b.now.text.now l.k)
written c =
    let one : List ℕ = let a = c.args in join_section a.a.now.text.now a.b.now.text.now c.loop-k.k in
    let next : let a = c.args in
    join_sections numbers a.a.now.text.now a.b.now.text.now
    ≡ (c.loop-k.invariant.1.text ++ one) ++ join_sections (drop (c.loop-k.k + 1 - 2) numbers) a.a.now.text.now a.b.now.text.now = let l = c.loop-k in
    let a = c.args in
    let w = c.loop-k.invariant.1 in
    w.rest
    ∙ ap (λ (t : List ℕ). w.text ++ t) (sections-next a.a.now.text.now a.b.now.text.now l.k (omega arith) c.loop-k-test.true)
    ∙ sym (append_assoc w.text (one) (join_sections (drop (l.k + 1 - 2) numbers) a.a.now.text.now a.b.now.text.now)) in
    let ends : let a = c.args in
    c.loop-k.at + length (one) ≤ length (join_sections numbers a.a.now.text.now a.b.now.text.now) = let l = c.loop-k in
    let a = c.args in
    let w = c.loop-k.invariant.1 in
    let rest = join_sections (drop (l.k + 1 - 2) numbers) a.a.now.text.now a.b.now.text.now in
    omega (arith, ap length (next), length-append (w.text ++ one) rest, length-append w.text (one), w.long) in
    let fits : c.loop-k.at + length (one) ≤ length c.args.d.now = omega (arith, ends, c.requires.b_in_bounds) in
    let l = c.loop-k in
    let a = c.args in
    let w = c.loop-k.invariant.1 in
    rest-written a.d.now l.d w.text l.at w.is w.long c.put_section-at.new.d (one) (fits) c.put_section-at.ensures.1

pub loop-k-preserved : goal.loop-k-preserved
loop-k-preserved c =
    let l = c.loop-k in
    let a = c.args in
    let w = c.loop-k.invariant.1 in
    let t = w.text ++ one (goal.at.loop-k-preserved c).In-loop-k in
    let e = written (goal.at.loop-k-preserved c).After-put_section-at in
    let n = length-append w.text (one (goal.at.loop-k-preserved c).In-loop-k) in (
      ap length e ∙ length_over a.d.now 0 t (omega (arith, n, fits (goal.at.loop-k-preserved c).In-loop-k, w.long)),
      record { text = t; long = omega (arith, n, w.long, c.put_section-at.ensures.0); is = e; rest = next (goal.at.loop-k-preserved c).In-loop-k },
    )

pub returns : goal.returns
returns c =
    let l = c.loop-k in
    let a = c.args in
    let w = c.loop-k.invariant.1 in
    w.is
    ∙ ap (over a.d.now 0)
    (sym (w.rest ∙ ap (λ (t : List ℕ). w.text ++ t) (sections_end a.a.now.text.now a.b.now.text.now l.k c.loop-k-test.false) ∙ append-nil w.text))
