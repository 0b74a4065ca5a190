use mathlib.Core.Path.{◌≡◌, sym, ap, ◌∙◌}
use native.Mathlib.Omega.{arith}
use lib.ListN.{take}
use Rattle.std.specs.Prelude.{Ok}
use Rattle.std.proofs.lemmas.Result.{err_from_is_err_and}
use Rattle.journal.specs.Journal.{starts_at, last_entry, walk}
use Rattle.journal.specs.Inner.{joined_at}
use Rattle.journal.proofs.Ends.{Ends, starts, refused}
use Rattle.journal.proofs.Walk.{walk_starts, walk-nothing, walk-fails}
use Rattle.journal.proofs.Replays.{held_same, gathered_sound, gathered_broken}
use Rattle.journal.proofs.replay.joined_back.Goals as goal
use Rattle.journal.proofs.replay.joined_back.Goals.{In-Some}

-- an entry that the step found
found : (c : In-Some)
    → last_entry c.args.journal.now c.loop-entry.here ≡ starts_at c.in-Some.entry.at c.in-Some.entry.length
found c = sym c.last.ensures ∙ c.in_ok-entry.was ∙ ap Ok c.in-Some.is

there : (c : In-Some)
    → Ends c.args.journal.now c.loop-entry.here c.in-Some.entry.at c.in-Some.entry.length
there c = starts _ _ _ _ (found c)

pub loop-entry-init : goal.loop-entry-init
loop-entry-init c =
    let a = c.args in
    let h = c.put_no_change-m.ensures in
    (held_same h, ap (walk (joined_at a.journal.now a.designator.now) a.journal.now a.end) (sym h.found))

pub returns : goal.returns
returns c =
    let l = c.loop-entry in
    let a = c.args in
    let s = c.args.journal.now in
    let d = c.args.designator.now in
    gathered_sound s d a.end l.m l.later (take l.m l.later)
    (l.invariant.1 ∙ walk-nothing (joined_at s d) s l.here (take l.m l.later) (sym c.last.ensures ∙ c.in_ok-entry.was ∙ ap Ok c.in_default.is)) l.invariant.0

pub returns-in_err-entry : goal.returns-in_err-entry
returns-in_err-entry c =
    let l = c.loop-entry in
    let a = c.args in
    let s = c.args.journal.now in
    let d = c.args.designator.now in
    let e = sym c.last.ensures ∙ c.in_err-entry.was in
    let p = err_from_is_err_and c.from_residual.result c.from_residual.ensures.1 in
    rw (p.1, p.2, refused _ _ _ e)
    (gathered_broken s d a.end _ l.later (l.invariant.1 ∙ walk-fails (joined_at s d) s l.here _ (take l.m l.later) e))

pub joined_at-m-requires : goal.joined_at-m-requires
joined_at-m-requires c = let h = there (goal.at.joined_at-m-requires c).In-Some in record { n_in_bounds = (omega (arith, h.whole, h.inside), h.fine); holds = c.loop-entry.invariant.0 }

pub loop-entry-smaller : goal.loop-entry-smaller
loop-entry-smaller c = omega (arith, (there (goal.at.loop-entry-smaller c).In-Some).whole)

pub loop-entry-preserved : goal.loop-entry-preserved
loop-entry-preserved c =
    let l = c.loop-entry in
    let a = c.args in
    let s = c.args.journal.now in
    let d = c.args.designator.now in
    let at = c.in-Some.entry.at in
    let h = c.joined_at-m.ensures in (
      held_same h,
      l.invariant.1 ∙ walk_starts (joined_at s d) s l.here at _ (take l.m l.later) (found (goal.at.loop-entry-preserved c).In-Some) ∙ ap (walk (joined_at s d) s at) (sym h.found),
    )
