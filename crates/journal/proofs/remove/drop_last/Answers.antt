use mathlib.Core.Path.{◌≡◌, sym, ap, ◌∙◌}
use native.Mathlib.Omega.{arith}
use Rattle.std.specs.Prelude.{Ok, Err}
use Rattle.std.proofs.lemmas.Result.{err_from_is_err_and}
use Rattle.journal.specs.Journal.{starts_at, last_entry, walk}
use Rattle.journal.specs.Inner.{kept_at, kept_told}
use Rattle.journal.specs.declared.Kept.{Kept}
use Rattle.journal.proofs.Ends.{starts, refused}
use Rattle.journal.proofs.Walk.{walk_starts, walk-nothing, walk-fails}
use Rattle.journal.proofs.Dropped.{drop_walks}
use Rattle.journal.proofs.remove.drop_last.Goals as goal
use Rattle.journal.proofs.remove.drop_last.Goals.{In-Some}

-- an entry that the step found
found : (c : In-Some)
    → last_entry c.args.journal.now c.loop-entry.here ≡ starts_at c.in-Some.entry.at c.in-Some.entry.length
found c = sym c.last.ensures ∙ c.in_ok-entry.was ∙ ap Ok c.in-Some.is

pub returns-in_err-entry : goal.returns-in_err-entry
unfolding kept_told
returns-in_err-entry c =
    let l = c.loop-entry in
    let a = c.args in
    let e = sym c.last.ensures ∙ c.in_err-entry.was in
    let p = err_from_is_err_and c.from_residual.result c.from_residual.ensures.1 in
    rw (p.1, p.2) (
    ap Err (refused _ _ _ e)
    ∙ ap kept_told (sym (l.invariant ∙ walk-fails kept_at _ l.here _ l.kept e))
    ∙ sym (drop_walks a.journal.now a.end a.count)
    )

pub returns : goal.returns
returns c =
    let l = c.loop-entry in
    let a = c.args in
    c.kept_told.ensures
    ∙ ap kept_told (sym (l.invariant ∙ walk-nothing kept_at _ l.here l.kept (sym c.last.ensures ∙ c.in_ok-entry.was ∙ ap Ok c.in_default.is)))
    ∙ sym (drop_walks a.journal.now a.end a.count)

pub loop-entry-smaller : goal.loop-entry-smaller
loop-entry-smaller c = omega (arith, (starts _ _ _ _ (found (goal.at.loop-entry-smaller c).In-Some)).whole)

pub loop-entry-preserved : goal.loop-entry-preserved
loop-entry-preserved c =
    let l = c.loop-entry in
    let s = c.args.journal.now in
    let at = c.in-Some.entry.at in
    l.invariant ∙ walk_starts kept_at s l.here at _ l.kept (found (goal.at.loop-entry-preserved c).In-Some) ∙ ap (λ (k : Kept). walk kept_at s at k) (sym c.kept_at-kept.ensures)
