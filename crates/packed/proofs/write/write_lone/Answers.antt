use Rattle.packed.specs.Packed.{write_code, written, field_of}
use Rattle.packed.proofs.Put.{Writes, writes}
use Rattle.std.specs.Prelude.{Ok}
use mathlib.Core.Path.{◌≡◌, sym, ◌∙◌, ap}
use mathlib.Core.List.{List, ◌++◌}
use Prim.Native.Nat.{ℕ}
use lib.ListN.{length, drop, take}
use lib.Seq.{length-take-le}
use Rattle.std.proofs.lemmas.Result.{err_from_is_err_and}
use Rattle.packed.proofs.write.write_lone.Goals as goal
use Rattle.packed.proofs.write.write_lone.Goals.{In_ok-code_of}

accepted : (c : In_ok-code_of)
    → let a = c.args in
    write_code a.figure a.width (length a.out.now) ≡ Ok tt
accepted c = sym c.code_of.ensures ∙ c.in_ok-code_of.was

fine : (c : In_ok-code_of)
    → let a = c.args in
    Writes a.figure a.width (length a.out.now)
fine c =
    let a = c.args in
    writes a.figure a.width (length a.out.now) (accepted c)

wide : (c : In_ok-code_of)
    → let a = c.args in
    length (take a.width a.out.now) ≡ a.width
wide c =
    let a = c.args in
    length-take-le a.width a.out.now (fine c).fits

pub slice_bounds-put-end : goal.slice_bounds-put-end
slice_bounds-put-end c = (fine (goal.at.slice_bounds-put-end c).In_ok-code_of).fits

pub slice_bounds-put-end-2 : goal.slice_bounds-put-end-2
slice_bounds-put-end-2 c = sym (wide (goal.at.slice_bounds-put-end-2 c).In_ok-code_of)

pub put-requires : goal.put-requires
put-requires c =
    let f = fine (goal.at.put-requires c).In_ok-code_of in
    rw (wide (goal.at.put-requires c).In_ok-code_of) (f.few, f.held)

pub returns-in_err-code_of : goal.returns-in_err-code_of
unfolding written
returns-in_err-code_of c =
    let e = sym c.code_of.ensures ∙ c.in_err-code_of.was in
    let p = err_from_is_err_and c.from_residual.result c.from_residual.ensures.1 in
    (rw (p.1, p.2) (sym e), rw e)

pub returns : goal.returns
unfolding written
returns c =
    let a = c.args in
    let e = accepted (goal.at.returns c).In_ok-code_of in
    let p : c.put.new.out ≡ field_of a.width a.figure =
    c.put.ensures ∙ ap (λ (n : ℕ). field_of n a.figure) (wide (goal.at.returns c).In_ok-code_of) in
    (sym e, rw e (ap (λ (l : List ℕ). l ++ drop a.width a.out.now) p))
