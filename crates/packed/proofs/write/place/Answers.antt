use native.Mathlib.Omega.{arith}
use Rattle.packed.proofs.Put.{rest-length, two-parts}
use Rattle.packed.specs.Packed.{spell}
use Prim.Native.Nat.{ℕ, ◌≤◌, ◌-◌}
use mathlib.Core.Path.{◌≡◌, sym, ◌∙◌, ap}
use mathlib.Core.List.{[]}
use lib.ListN.{length, replicate, length-replicate}
use lib.Seq.{length-take-le}
use Rattle.packed.proofs.write.place.Goals as goal

pub slice_bounds-fill-end-2 : goal.slice_bounds-fill-end-2
slice_bounds-fill-end-2 c =
    let a = c.args in
    sym (length-take-le (length a.out.now - a.k) a.out.now (omega arith))

pub returns : goal.returns
returns c =
    let a = c.args in
    let l = c.args.out.now in
    let g = length l - a.k in
    let front = c.fill in
    let back = c.spell_into in
    let h : g ≤ length l = omega arith in
    let p : front.new.out ≡ replicate g 32 =
    front.ensures ∙ ap (λ (n : ℕ). replicate n 32) (length-take-le g l h) in
    let e : length front.new.out ≡ g = ap length p ∙ length-replicate g 32 in
    let k : length l - g ≡ a.k = omega (arith, c.requires) in
    let q : back.new.out ≡ spell a.k a.n [] = back.ensures ∙ rw (rest-length l front.new.out g h e ∙ k) in
    two-parts l front.new.out g h e back.new.out ∙ rw (p, q)
