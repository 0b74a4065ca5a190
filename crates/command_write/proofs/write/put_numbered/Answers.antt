use native.Mathlib.Omega.{arith}
use mathlib.Core.Path.{◌≡◌, refl, sym, ap, ◌∙◌}
use mathlib.Core.List.{List, [], ◌++◌, append_assoc, append-nil}
use Prim.Native.Nat.{ℕ, ◌+◌, ◌-◌, ◌≤◌}
use lib.Dec.{eqb}
use lib.ListN.{length, drop, get_or, length-append}
use borrow.Rule.Slice.PartMut.{put_mid}
use Rattle.text.specs.Over.{over}
use Rattle.text.proofs.Over.{over_none, length_over, rest-room, rest-written}
use Rattle.section.specs.Layout.{numbers}
use Rattle.settings.specs.Settings.{fixed_hold}
use Rattle.settings.specs.Inner.{text_if}
use Rattle.command_write.specs.Inner.{numbered_text}
use Rattle.command_write.proofs.Writing.{numbered_text_lem, numbered_texts_end}
use Rattle.command_write.proofs.write.put_numbered.Goals as goal
use Rattle.command_write.proofs.write.put_numbered.Goals.{After-put_fixed-at, In-loop-k}

-- the next section's text, and what is left behind it
abbrev one : (c : In-loop-k) → List ℕ
one c = let a = c.args in text_if (eqb (get_or a.named (c.loop-k.k - 2) 0) c.loop-k.k) c.loop-k.k (fixed_hold a.x c.loop-k.k)

next : (c : In-loop-k)
    → let a = c.args in
    numbered_text (drop 2 numbers) a.x a.named
    ≡ (c.loop-k.invariant.1.text ++ one c) ++ numbered_text (drop (c.loop-k.k + 1 - 2) numbers) a.x a.named
next c =
    let l = c.loop-k in
    let a = c.args in
    let w = c.loop-k.invariant.1 in
    let rest = numbered_text (drop (l.k + 1 - 2) numbers) a.x a.named in
    w.rest
    ∙ ap (λ (t : List ℕ). w.text ++ t) (numbered_text_lem a.x a.named l.k (omega arith) c.loop-k-test.true 0)
    ∙ sym (append_assoc w.text (one c) rest)

-- there is room for it
fits : (c : In-loop-k) → c.loop-k.at + length (one c) ≤ length c.args.d.now
fits c =
    let l = c.loop-k in
    let a = c.args in
    let w = c.loop-k.invariant.1 in
    let rest = numbered_text (drop (l.k + 1 - 2) numbers) a.x a.named in
    omega (
      arith,
      c.requires,
      ap length (next c),
      length-append (w.text ++ one c) rest,
      length-append w.text (one c),
      w.long,
    )

pub loop-k-init : goal.loop-k-init
loop-k-init c = (refl, record { text = []; long = refl; is = over_none _ 0; rest = refl })

pub put_fixed-at-requires : goal.put_fixed-at-requires
put_fixed-at-requires c =
    let l = c.loop-k in
    let a = c.args in
    let w = c.loop-k.invariant.1 in
    (omega arith, rw c.wide.ensures (rest-room a.d.now l.d w.text l.at w.is w.long (length (one (goal.at.put_fixed-at-requires c).In-loop-k)) (fits (goal.at.put_fixed-at-requires c).In-loop-k)))

-- the buffer with one section more
written : (c : After-put_fixed-at)
    → let l = c.loop-k in
    let a = c.args in
    put_mid l.at (length l.d - l.at) l.d c.put_fixed-at.new.d ≡ over a.d.now 0 (l.invariant.1.text ++ text_if (eqb (get_or a.named (l.k - 2) 0) l.k) l.k (fixed_hold a.x l.k))
written c =
    let one : List ℕ = let a = c.args in text_if (eqb (get_or a.named (c.loop-k.k - 2) 0) c.loop-k.k) c.loop-k.k (fixed_hold a.x c.loop-k.k) in
    let next : let a = c.args in
    numbered_text (drop 2 numbers) a.x a.named
    ≡ (c.loop-k.invariant.1.text ++ one) ++ numbered_text (drop (c.loop-k.k + 1 - 2) numbers) a.x a.named = let l = c.loop-k in
    let a = c.args in
    let w = c.loop-k.invariant.1 in
    let rest = numbered_text (drop (l.k + 1 - 2) numbers) a.x a.named in
    w.rest
    ∙ ap (λ (t : List ℕ). w.text ++ t) (numbered_text_lem a.x a.named l.k (omega arith) c.loop-k-test.true 0)
    ∙ sym (append_assoc w.text (one) rest) in
    let fits : c.loop-k.at + length (one) ≤ length c.args.d.now = let l = c.loop-k in
    let a = c.args in
    let w = c.loop-k.invariant.1 in
    let rest = numbered_text (drop (l.k + 1 - 2) numbers) a.x a.named in
    omega (
      arith,
      c.requires,
      ap length (next),
      length-append (w.text ++ one) rest,
      length-append w.text (one),
      w.long,
    ) in
    let l = c.loop-k in
    let a = c.args in
    let w = c.loop-k.invariant.1 in
    rest-written a.d.now l.d w.text l.at w.is w.long c.put_fixed-at.new.d (one) (fits) (rw c.wide.ensures at c.put_fixed-at.ensures.1)

-- as many bytes as that
size : (c : After-put_fixed-at)
    → let k = c.loop-k.k in
    c.put_fixed-at.result ≡ length (text_if (eqb (get_or c.args.named (k - 2) 0) k) k (fixed_hold c.args.x k))
size c = rw c.wide.ensures at c.put_fixed-at.ensures.0

pub overflow_add-at : goal.overflow_add-at
overflow_add-at c = omega (arith, fits (goal.at.overflow_add-at c).In-loop-k, size (goal.at.overflow_add-at c).After-put_fixed-at)

pub loop-k-preserved : goal.loop-k-preserved
loop-k-preserved c =
    let l = c.loop-k in
    let a = c.args in
    let w = c.loop-k.invariant.1 in
    let t = w.text ++ one (goal.at.loop-k-preserved c).In-loop-k in
    let e = written (goal.at.loop-k-preserved c).After-put_fixed-at in
    let n = length-append w.text (one (goal.at.loop-k-preserved c).In-loop-k) in (
      ap length e ∙ length_over a.d.now 0 t (omega (arith, n, fits (goal.at.loop-k-preserved c).In-loop-k, w.long)),
      record { text = t; long = omega (arith, n, w.long, size (goal.at.loop-k-preserved c).After-put_fixed-at); is = e; rest = next (goal.at.loop-k-preserved c).In-loop-k },
    )

pub returns : goal.returns
returns c =
    let l = c.loop-k in
    let a = c.args in
    let w = c.loop-k.invariant.1 in
    let all : numbered_text (drop 2 numbers) a.x a.named ≡ w.text =
    w.rest ∙ ap (λ (t : List ℕ). w.text ++ t) (numbered_texts_end a.x a.named l.k c.loop-k-test.false) ∙ append-nil w.text in
    (w.long ∙ ap length (sym all), w.is ∙ ap (over a.d.now 0) (sym all))
