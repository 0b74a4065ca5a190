-- `journal::replay::join_before` meets its contract: two accepted commands join in the longest's bytes, and the join is copied.
use mathlib.Core.Path.{◌≡◌, sym, ap, subst, ◌∙◌}
use mathlib.Core.List.{List}
use Prim.Native.Nat.{ℕ, ◌+◌, ◌≤◌}
use native.Mathlib.Omega.{arith}
use lib.ListN.{length, take, replicate}
use lib.Seq.{length-take-le}
use borrow.Author.Tests.{le-leb}
use Rattle.text.specs.Over.{over}
use Rattle.join.specs.Join.{Joined, join_text, told, joined_over}
use Rattle.join.proofs.Laws.{join-fine, join-short}
use Rattle.text.proofs.Over.{found-over, length_over}
use Rattle.journal.specs.Inner.{Holds}
use Rattle.journal.proofs.Replays.{joins, held-over, text-refused, text_same}
use Rattle.command.specs.Text.{longest}
use Rattle.journal.proofs.replay.join_before.Goals as goal
use Rattle.journal.proofs.replay.join_before.Goals.{In-Ok}

-- the buffer before
abbrev blank : List ℕ
blank = replicate longest 0

-- the joined text, in the buffer that it was written over
joined_is : (c : In-Ok)
    → let u = join_text c.before.args.text.now (take c.before.args.m c.before.args.later.now) in
    (length u ≡ c.in-Ok.n) × (c.join_texts.new.out ≡ over blank 0 u) × (length u ≤ longest)
joined_is c =
    let j = joins c.before.args.text.now (take c.before.args.m c.before.args.later.now) c.before.requires.0 c.before.requires.1.fine in (
      text_same _ _ (ap told (sym j) ∙ sym c.join_texts.ensures.0 ∙ c.in-Ok.is),
      c.join_texts.ensures.1 ∙ ap (λ (x : Joined). joined_over x blank) j,
      join-short c.before.args.text.now (take c.before.args.m c.before.args.later.now) c.before.requires.0 c.before.requires.1.fine,
    )

joined-room : (c : In-Ok) → c.in-Ok.n ≤ length c.join_texts.new.out
joined-room c =
    let is = joined_is c in
    let u = join_text c.before.args.text.now (take c.before.args.m c.before.args.later.now) in
    let fits : 0 + length u ≤ length blank = omega (arith, is.2) in
    omega (arith, is.0, is.2, ap length is.1 ∙ length_over blank 0 u fits)

pub slice_bounds-join_texts-end-2 : goal.slice_bounds-join_texts-end-2
slice_bounds-join_texts-end-2 c = sym (length-take-le _ _ (omega (arith, c.before.requires.1.room, c.before.requires.1.short)))

pub slice_bounds-joined-end : goal.slice_bounds-joined-end
slice_bounds-joined-end c = joined-room (goal.at.slice_bounds-joined-end c).In-Ok

pub slice_bounds-copy-end : goal.slice_bounds-copy-end
slice_bounds-copy-end c = sym (length-take-le _ _ (joined-room (goal.at.slice_bounds-copy-end c).In-Ok))

pub returns-in-Err : goal.returns-in-Err
returns-in-Err c =
    let m = ap told (joins c.before.args.text.now (take c.before.args.m c.before.args.later.now) c.before.requires.0 c.before.requires.1.fine) in
    text-refused _ _ (sym (c.join_texts.ensures.0 ∙ m) ∙ c.in-Err.is)

pub returns-in-Ok : goal.returns-in-Ok
returns-in-Ok c =
    let u = join_text c.before.args.text.now (take c.before.args.m c.before.args.later.now) in
    let is = joined_is (goal.at.returns-in-Ok c).In-Ok in
    let n = c.in-Ok.n in
    let l = c.join_texts.new.out in
    let fits : 0 + length u ≤ length blank = omega (arith, is.2) in
    let found : take n l ≡ u = ap (λ (k : ℕ). take k l) (sym is.0) ∙ rw is.1 (found-over blank 0 u fits) in
    let copied : c.copy.new.d ≡ over c.before.args.later.now 0 u =
    c.copy.ensures ∙ rw (found, le-leb (length u) (length c.before.args.later.now) (omega (arith, is.2, c.before.requires.1.room))) in
    subst (λ (k : ℕ). Holds c.copy.new.d k u) is.0
    (rw copied (held-over c.before.args.later.now u c.before.requires.1.room (join-fine c.before.args.text.now (take c.before.args.m c.before.args.later.now) c.before.requires.0 c.before.requires.1.fine)))
