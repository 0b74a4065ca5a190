-- `journal::replay::replay` meets its contract: the one command that was joined, applied after reset, is the replay.
use mathlib.Core.Path.{◌≡◌, sym, ap, subst, ◌∙◌}
use mathlib.Core.List.{List}
use Prim.Native.Nat.{ℕ, ◌≤◌}
use native.Mathlib.Omega.{arith}
use lib.ListN.{length}
use lib.Seq.{length-take-le}
use borrow.Author.Tests.{not-true, not-false}
use Rattle.settings.specs.Valid.{reset}
use Rattle.std.specs.Prelude.{Result, Ok, Err}
use Rattle.std.proofs.lemmas.Result.{err_from_is_err_and}
use Rattle.text.specs.declared.Refusal.{Refusal}
use Rattle.config.specs.Config.{outcome}
use Rattle.config.specs.declared.Applied.{Applied}
use Rattle.join.specs.Join.{no_change_text}
use Rattle.journal.specs.Calls.{replayed}
use Rattle.journal.specs.Journal.{Entry, Sound, entries_in}
use Rattle.journal.specs.Inner.{Holds, Gathered}
use Rattle.journal.proofs.Replays.{joined_all, joined-replays, told-refused, told-length, applied-reset}
use Rattle.journal.proofs.Entries.{read_is}
use Rattle.journal.proofs.replay.replay.Goals as goal
use Rattle.journal.proofs.replay.replay.Goals.{In_ok-m}

-- the command that the buffer holds, by the entries that it was joined from
held : (c : In_ok-m)
    → let a = c.args in
    (es : List Entry) × (entries_in a.journal.now a.end ≡ Sound es)
    × Holds c.joined_back.new.later c.in_ok-m.m (joined_all a.designator.now es no_change_text)
held c =
    let a = c.args in
    told-length a.journal.now a.designator.now a.end c.in_ok-m.m c.joined_back.new.later
    (subst (λ (r : Result ℕ Refusal). Gathered a.journal.now a.designator.now a.end r c.joined_back.new.later) c.in_ok-m.was c.joined_back.ensures)

held-room : (c : In_ok-m) → c.in_ok-m.m ≤ length c.joined_back.new.later
held-room c = let h = (held c).2 in omega (arith, h.room, h.short)

pub returns-then-not-is_designator : goal.returns-then-not-is_designator
unfolding replayed
returns-then-not-is_designator c =
    rw ((held (goal.at.returns-then-not-is_designator c).In_ok-m).1, sym c.is_designator.ensures ∙ not-true _ c.if-not-is_designator.true-raw, c.at.ensures)

pub slice_bounds-later-end : goal.slice_bounds-later-end
slice_bounds-later-end c = held-room (goal.at.slice_bounds-later-end c).In_ok-m

pub slice_bounds-apply-end : goal.slice_bounds-apply-end
slice_bounds-apply-end c = sym (length-take-le _ _ (held-room (goal.at.slice_bounds-apply-end c).In_ok-m))

pub returns-in_err-m : goal.returns-in_err-m
unfolding replayed
returns-in_err-m c =
    let a = c.args in
    let s = c.args.journal.now in
    let d = c.args.designator.now in
    let bytes = c.joined_back.new.later in
    let g = told-refused s d a.end _ bytes (subst (λ (r : Result ℕ Refusal). Gathered s d a.end r bytes) c.in_err-m.was c.joined_back.ensures) in
    let p = err_from_is_err_and c.from_residual.result c.from_residual.ensures.1 in
    rw (p.1, p.2, g.1) (ap Err g.0)

pub returns-in_err-applied : goal.returns-in_err-applied
returns-in_err-applied c =
    let a = c.args in
    let f = held (goal.at.returns-in_err-applied c).In_ok-m in
    let t = joined_all a.designator.now f.0 no_change_text in
    let answer : c.apply.result ≡ Ok (outcome reset t) = c.apply.ensures ∙ (rw (c.after_reset.ensures, f.2.found)) ∙ applied-reset t f.2.fine in
    let z : ◌≡◌ {A = Result Applied Refusal} (Err c.in_err-applied.field-0.0) (Ok (outcome reset t)) = sym c.in_err-applied.was ∙ answer in
    cc

pub returns : goal.returns
unfolding replayed
returns c =
    let a = c.args in
    let s = c.args.journal.now in
    let d = c.args.designator.now in
    let f = held (goal.at.returns c).In_ok-m in
    let es = f.0 in
    let t = joined_all d es no_change_text in
    let answer : c.apply.result ≡ Ok (outcome reset t) = c.apply.ensures ∙ (rw (c.after_reset.ensures, f.2.found)) ∙ applied-reset t f.2.fine in
    let told : ◌≡◌ {A = Result Applied Refusal} (Ok c.in_ok-applied.applied) (Ok (outcome reset t)) = sym c.in_ok-applied.was ∙ answer in
    let same : c.in_ok-applied.applied ≡ outcome reset t = cc in
    rw (f.1, sym c.is_designator.ensures ∙ not-false _ c.if-not-is_designator.false-raw, same) (ap Ok (joined-replays d es (read_is s a.end es f.1).entries))
