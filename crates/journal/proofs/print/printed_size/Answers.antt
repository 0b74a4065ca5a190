use mathlib.Core.Path.{◌≡◌, sym, ap, ◌∙◌}
use Prim.Native.Nat.{ℕ, ◌+◌}
use native.Mathlib.Omega.{arith}
use lib.ListN.{length}
use Rattle.std.specs.Prelude.{Ok, Err}
use Rattle.std.proofs.lemmas.Result.{err_from_is_err_and}
use Rattle.journal.specs.Journal.{entry_at, starts_at, last_entry, walk}
use Rattle.journal.specs.Printed.{line}
use Rattle.journal.specs.Inner.{with_size}
use Rattle.journal.proofs.Ends.{Ends, starts, refused}
use Rattle.journal.proofs.Walk.{walk_starts, walk-nothing, walk-fails}
use Rattle.journal.proofs.Lines.{found-line}
use Rattle.journal.proofs.print.printed_size.Goals as goal
use Rattle.journal.proofs.print.printed_size.Goals.{In-Some}

-- an entry that the step found
found : (c : In-Some)
    → last_entry c.args.journal.now c.loop-entry.here ≡ starts_at c.in-Some.entry.at c.in-Some.entry.length
found c = sym c.last.ensures ∙ c.in_ok-entry.was ∙ ap Ok c.in-Some.is

there : (c : In-Some)
    → Ends c.args.journal.now c.loop-entry.here c.in-Some.entry.at c.in-Some.entry.length
there c = starts _ _ _ _ (found c)

pub returns-in_err-entry : goal.returns-in_err-entry
returns-in_err-entry c =
    let l = c.loop-entry in
    let e = sym c.last.ensures ∙ c.in_err-entry.was in
    let p = err_from_is_err_and c.from_residual.result c.from_residual.ensures.1 in
    rw (p.1, p.2, l.invariant.1 ∙ walk-fails (with_size _) _ l.here _ l.size e) (ap Err (refused _ _ _ e))

pub returns : goal.returns
returns c =
    let l = c.loop-entry in
    rw (l.invariant.1 ∙ walk-nothing (with_size _) _ l.here l.size (sym c.last.ensures ∙ c.in_ok-entry.was ∙ ap Ok c.in_default.is))

pub overflow_add-size : goal.overflow_add-size
overflow_add-size c = let h = there (goal.at.overflow_add-size c).In-Some in omega (arith, c.loop-entry.invariant.0, h.whole, h.few, c.digits_of.ensures.1)

pub overflow_add-size-in-Some : goal.overflow_add-size-in-Some
overflow_add-size-in-Some c = let h = there (goal.at.overflow_add-size-in-Some c).In-Some in omega (arith, c.loop-entry.invariant.0, h.whole, h.few, c.digits_of.ensures.1)

pub overflow_add-size-in-Some-2 : goal.overflow_add-size-in-Some-2
overflow_add-size-in-Some-2 c = let h = there (goal.at.overflow_add-size-in-Some-2 c).In-Some in omega (arith, c.loop-entry.invariant.0, h.whole, h.few, c.digits_of.ensures.1)

pub loop-entry-smaller : goal.loop-entry-smaller
loop-entry-smaller c = omega (arith, (there (goal.at.loop-entry-smaller c).In-Some).whole)

pub loop-entry-preserved : goal.loop-entry-preserved
loop-entry-preserved c =
    let l = c.loop-entry in
    let s = c.args.journal.now in
    let h = there (goal.at.loop-entry-preserved c).In-Some in
    let at = c.in-Some.entry.at in
    let n = c.in-Some.entry.length in
    let long : length (line at (entry_at s at n)) ≡ c.digits_of.result + (9 + n) = found-line s l.here at n h ∙ rw c.digits_of.ensures.0 in (
      omega (arith, l.invariant.0, h.whole, h.few, c.digits_of.ensures.1),
      l.invariant.1 ∙ walk_starts (with_size s) s l.here at n l.size (found (goal.at.loop-entry-preserved c).In-Some) ∙ ap (λ (k : ℕ). walk (with_size s) s at (l.size + k)) long,
    )
