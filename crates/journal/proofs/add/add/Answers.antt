-- `journal::add::add` meets its contract: 14, 4, the command's own refusals, 2; then the entry is written behind the others.
use mathlib.Core.Path.{◌≡◌, refl, sym, ap, ◌∙◌}
use mathlib.Core.Bool.{true, false, ◌&&◌}
use mathlib.Core.List.{List, []}
use Prim.Native.Nat.{◌≤◌}
use native.Mathlib.Omega.{arith}
use lib.Dec.{leb}
use lib.ListN.{length}
use borrow.Author.Tests.{le-leb, lt-leb, not-false}
use Rattle.text.specs.Names.{is_designator}
use Rattle.text.proofs.Over.{over_none, then_part}
use Rattle.text.proofs.Parts.{part_length}
use Rattle.command.specs.Text.{check_command}
use Rattle.command.proofs.Accepted.{accepted}
use Rattle.journal.specs.Journal.{Entry, entry_bytes, most, IsJournal, Sound, entries_in}
use Rattle.journal.specs.Calls.{check_journal, taken, new_end, add_seen, added, added_over}
use Rattle.journal.proofs.Entries.{read_is}
use Rattle.journal.proofs.Added.{checked-journal, designator-long, new_end_lem}
use Rattle.journal.proofs.add.add.Goals as goal
use Rattle.journal.proofs.add.add.Goals.{Else-not-is_designator, In_ok-check_journal, In_ok-check, then-new-gt65535-via-then-new-gt65535, then-new-gt65535-via-else-new-gt65535+then-journal-new}
use Rattle.std.specs.Prelude.{Ok}

-- the journal is sound
sound : (c : In_ok-check_journal)
    → (es : List Entry) × (entries_in c.before.args.journal.now c.before.args.end ≡ Sound es) × IsJournal c.before.args.journal.now c.before.args.end es
sound c =
    let f = checked-journal c.before.args.journal.now c.before.args.end (sym c.check_journal.ensures ∙ c.in_ok-check_journal.was) in
    (f.0, f.1, read_is c.before.args.journal.now c.before.args.end f.0 f.1)

-- the designator is well formed
named : (c : Else-not-is_designator) → is_designator c.before.args.designator.now ≡ true
named c = sym c.is_designator.ensures ∙ not-false _ c.if-not-is_designator.false-raw

-- the text is accepted
fine : (c : In_ok-check) → check_command c.before.args.text.now ≡ (Ok tt)
fine c = sym c.check.ensures ∙ c.in_ok-check.was

pub overflow_add-new-2 : goal.overflow_add-new-2
overflow_add-new-2 c = let j = (sound (goal.at.overflow_add-new-2 c).In_ok-check_journal).2 in omega (arith, j.few, (accepted _ (fine (goal.at.overflow_add-new-2 c).In_ok-check)).short)

pub returns-then-new-gt65535 : goal.returns-then-new-gt65535
unfolding added added_over add_seen check_journal
returns-then-new-gt65535 c =
    let s = c.before.args.journal.now in
    let new = new_end c.before.args.end (taken c.before.args.designator.now c.before.args.text.now) in
    let ends = new_end_lem c.before.args.end c.before.args.designator.now c.before.args.text.now (named (goal.at.returns-then-new-gt65535 c).Else-not-is_designator) in
    let unfit : (leb new most && leb new (length s)) ≡ false =
    elim c.then-new-gt65535.branch [
      | then-new-gt65535-via-then-new-gt65535 w ↦ rw (lt-leb new most (omega (arith, ends, w.if-new-gt65535.true)))
      | then-new-gt65535-via-else-new-gt65535+then-journal-new w ↦
          rw (le-leb new most (omega (arith, ends, w.if-new-gt65535.false)), lt-leb new (length s) (omega (arith, ends, w.if-journal-new.true)))
    ] in
    rw (
      c.at-then-new-gt65535.ensures,
      (sound (goal.at.returns-then-new-gt65535 c).In_ok-check_journal).1,
      named (goal.at.returns-then-new-gt65535 c).Else-not-is_designator,
      fine (goal.at.returns-then-new-gt65535 c).In_ok-check,
      unfit,
    )
    (refl, refl)

pub put_entry-requires : goal.put_entry-requires
put_entry-requires c = (
  designator-long c.before.args.designator.now (named (goal.at.put_entry-requires c).Else-not-is_designator),
  (accepted c.before.args.text.now (fine (goal.at.put_entry-requires c).In_ok-check)).short,
  rw (part_length c.before.args.journal.now c.before.args.end (length c.before.args.journal.now) (omega arith)) (omega (arith, c.if-journal-new.false)),
)

pub returns : goal.returns
unfolding added added_over add_seen check_journal
returns c =
    let e = taken c.before.args.designator.now c.before.args.text.now in
    let new = new_end c.before.args.end e in
    let ends = new_end_lem c.before.args.end c.before.args.designator.now c.before.args.text.now (named (goal.at.returns c).Else-not-is_designator) in
    let room : new ≤ length c.before.args.journal.now = omega (arith, ends, c.if-journal-new.false) in
    rw (
      (sound (goal.at.returns c).In_ok-check_journal).1,
      named (goal.at.returns c).Else-not-is_designator,
      fine (goal.at.returns c).In_ok-check,
      le-leb new most (omega (arith, ends, c.if-new-gt65535.false)),
      le-leb new (length c.before.args.journal.now) room,
    ) (
      ap Ok (sym ends),
      then_part c.before.args.journal.now c.before.args.journal.now c.put_entry.new.d [] (entry_bytes e) c.before.args.end c.before.args.end (length c.before.args.journal.now) (over_none c.before.args.journal.now c.before.args.end) (omega arith) room (omega arith)
          c.put_entry.ensures,
    )
