use borrow.Author.Rules.{rules}
use mathlib.Core.Path.{◌≡◌, refl, sym, ap, ◌∙◌}
use mathlib.Core.List.{[], ◌++◌}
use Prim.Native.Nat.{◌+◌, ◌-◌, ◌≤◌}
use native.Mathlib.Omega.{arith}
use lib.ListN.{length, length-append}
use borrow.Rule.Slice.PartMut.{put_mid}
use Rattle.std.specs.Prelude.{Ok, None}
use Rattle.text.specs.Over.{over}
use Rattle.text.proofs.Over.{over_none, length_then, rest-room, rest-written}
use Rattle.journal.specs.Journal.{entry_at, starts_at, last_entry}
use Rattle.journal.specs.Printed.{digits_of, line}
use Rattle.journal.specs.Inner.{with_line}
use Rattle.journal.proofs.Ends.{Ends, starts}
use Rattle.journal.proofs.Walk.{walk_starts, walk-nothing, walk-fails}
use Rattle.journal.proofs.Entries.{sound-broken}
use Rattle.journal.proofs.Lines.{found-line, line-fits, sound-list}
use Rattle.journal.proofs.print.put_lines.Goals as goal
use Rattle.journal.proofs.print.put_lines.Goals.{In-Ok-Some}

-- an entry that the step found
found : (c : In-Ok-Some)
    → last_entry c.args.journal.now c.loop-entry.here ≡ starts_at c.in-Ok-Some.entry.at c.in-Ok-Some.entry.length
found c = sym c.last.ensures ∙ c.in-Ok-Some.is ∙ ap Ok c.in-Ok-Some.field-0-is

there : (c : In-Ok-Some)
    → Ends c.args.journal.now c.loop-entry.here c.in-Ok-Some.entry.at c.in-Ok-Some.entry.length
there c = starts _ _ _ _ (found c)

-- its line has room behind those that stand
room : (c : In-Ok-Some)
    → length c.loop-entry.invariant.0 + (digits_of c.in-Ok-Some.entry.at + (9 + c.in-Ok-Some.entry.length)) ≤ length c.args.out.now
room c =
    let l = c.loop-entry in
    let p = c.requires in
    omega (arith, p.fits, line-fits _ c.args.end l.here _ _ l.invariant.0 p.lines p.sound l.invariant.3 (found c))

pub loop-entry-init : goal.loop-entry-init
loop-entry-init c = ([], refl, over_none _ 0, refl, refl)

pub returns-in_default : goal.returns-in_default
returns-in_default c =
    let l = c.loop-entry in
    let none : c.in_default.field-0 ≡ None = search rules in
    let s = c.args.journal.now in
    let done = l.invariant.3 ∙ walk-nothing (with_line s) s l.here l.invariant.0 (sym c.last.ensures ∙ c.in_default.is ∙ ap Ok none) in
    record { written = λ t w. l.invariant.2 ∙ ap (over c.args.out.now 0) (sound-list l.invariant.0 t (sym done ∙ w)) }

pub returns-in_default-2 : goal.returns-in_default-2
returns-in_default-2 c =
    let l = c.loop-entry in
    let s = c.args.journal.now in
    let failed = l.invariant.3 ∙ walk-fails (with_line s) s l.here _ l.invariant.0 (sym c.last.ensures ∙ c.in_default.is) in
    record { written = λ t w. sound-broken t _ (sym w ∙ failed) }

pub slice_bounds-put_line-count : goal.slice_bounds-put_line-count
slice_bounds-put_line-count c = let l = c.loop-entry in omega (arith, room (goal.at.slice_bounds-put_line-count c).In-Ok-Some, l.invariant.1, l.invariant.4)

pub slice_bounds-put_line-start : goal.slice_bounds-put_line-start
slice_bounds-put_line-start c = let l = c.loop-entry in omega (arith, room (goal.at.slice_bounds-put_line-start c).In-Ok-Some, l.invariant.1, l.invariant.4)

pub put_line-written-requires : goal.put_line-written-requires
put_line-written-requires c =
    let l = c.loop-entry in
    let h = there (goal.at.put_line-written-requires c).In-Ok-Some in (
      omega (arith, h.whole, h.inside),
      rest-room c.args.out.now l.out l.invariant.0 l.written l.invariant.2 l.invariant.1 _ (omega (arith, room (goal.at.put_line-written-requires c).In-Ok-Some, l.invariant.1)),
    )

pub overflow_add-written : goal.overflow_add-written
overflow_add-written c =
    let l = c.loop-entry in
    omega (arith, room (goal.at.overflow_add-written c).In-Ok-Some, l.invariant.1, l.invariant.4, c.put_line-written.ensures.0)

pub loop-entry-smaller : goal.loop-entry-smaller
loop-entry-smaller c = omega (arith, (there (goal.at.loop-entry-smaller c).In-Ok-Some).whole)

pub loop-entry-preserved : goal.loop-entry-preserved
loop-entry-preserved c =
    let l = c.loop-entry in
    let s = c.args.journal.now in
    let at = c.in-Ok-Some.entry.at in
    let n = c.in-Ok-Some.entry.length in
    let lines = c.loop-entry.invariant.0 in
    let out = c.args.out.now in
    let more = line at (entry_at s at n) in
    let zs = c.put_line-written.new.d in
    let long : length more ≡ c.put_line-written.result = found-line s l.here at n (there (goal.at.loop-entry-preserved c).In-Ok-Some) ∙ sym c.put_line-written.ensures.0 in
    let fits : length lines + length more ≤ length out = omega (arith, room (goal.at.loop-entry-preserved c).In-Ok-Some, long, c.put_line-written.ensures.0) in
    let stands : put_mid l.written (length l.out - l.written) l.out zs ≡ over out 0 (lines ++ more) =
    rest-written out l.out lines l.written l.invariant.2 l.invariant.1 zs more (omega (arith, fits, l.invariant.1)) c.put_line-written.ensures.1 in (
      lines ++ more,
      omega (arith, l.invariant.1, long, length-append lines more),
      stands,
      l.invariant.3 ∙ walk_starts (with_line s) s l.here at n lines (found (goal.at.loop-entry-preserved c).In-Ok-Some),
      length_then out _ (lines ++ more) 0 stands (omega (arith, fits, length-append lines more)),
    )
