use borrow.Author.Rules.{rules}
use native.Mathlib.Omega.{arith}
use mathlib.Core.Path.{◌≡◌, sym, ap, ◌∙◌}
use mathlib.Core.List.{List}
use Prim.Native.Nat.{ℕ, ◌+◌, ◌≤◌}
use lib.ListN.{length, length-append}
use Rattle.text.specs.Over.{over}
use Rattle.text.proofs.Over.{rest-start, rest-room, rest-written}
use Rattle.section.specs.Layout.{numbers}
use Rattle.command.specs.Record.{sections_text}
use Rattle.command_write.specs.Inner.{head_text}
use Rattle.command.specs.declared.Command.{Command}
use Rattle.command_write.proofs.Writing.{head-length, text_halves, Ready, ready}
use Rattle.command_write.proofs.write.put.Goals as goal
use Rattle.command_write.proofs.write.put.Goals.{Start}

-- the first 22 bytes and the sections
abbrev one : Command → List ℕ
one x = head_text x

abbrev two : Command → List ℕ
two x = sections_text numbers x

-- the arrays have their entries
seven : (s : Start) → length s.args.c.settings.flags ≡ 7
seven s = search rules

eight : (s : Start) → length s.args.c.named ≡ 8
eight s = search rules

able : (s : Start) → Ready s.args.c
able s = ready s.args.c (eight s) s.requires.0

starts : (s : Start) → 22 ≡ length (one s.args.c)
starts s = sym (head-length s.args.c (seven s) (eight s))

room : (s : Start) → 22 + length (two s.args.c) ≤ length s.args.d.now
room s = omega (arith, s.requires.1, starts s, ap length (text_halves s.args.c), length-append (one s.args.c) (two s.args.c))

pub put_head-requires : goal.put_head-requires
put_head-requires c =
    let h : 22 ≤ length c.args.d.now = omega (arith, room (goal.at.put_head-requires c).Start) in
    (h, (able (goal.at.put_head-requires c).Start).flags, (able (goal.at.put_head-requires c).Start).downlink, (able (goal.at.put_head-requires c).Start).named)

pub slice_bounds-put_sections-count : goal.slice_bounds-put_sections-count
slice_bounds-put_sections-count c =
    let f = c.put_head in
    rest-start c.args.d.now f.new.d (one c.args.c) 22 f.ensures (starts (goal.at.slice_bounds-put_sections-count c).Start) (length (two c.args.c)) (room (goal.at.slice_bounds-put_sections-count c).Start)

pub slice_bounds-put_sections-start : goal.slice_bounds-put_sections-start
slice_bounds-put_sections-start c =
    let f = c.put_head in
    let h : 22 ≤ length f.new.d = rest-start c.args.d.now f.new.d (one c.args.c) 22 f.ensures (starts (goal.at.slice_bounds-put_sections-start c).Start) (length (two c.args.c)) (room (goal.at.slice_bounds-put_sections-start c).Start) in
    h

pub put_sections-n-requires : goal.put_sections-n-requires
put_sections-n-requires c =
    let f = c.put_head in
    ((able (goal.at.put_sections-n-requires c).Start).lists, rest-room c.args.d.now f.new.d (one c.args.c) 22 f.ensures (starts (goal.at.put_sections-n-requires c).Start) (length (two c.args.c)) (room (goal.at.put_sections-n-requires c).Start))

pub overflow_add-result : goal.overflow_add-result
overflow_add-result c =
    let g = c.put_sections-n in
    let h : 22 + g.result ≤ length c.args.d.now = omega (arith, room (goal.at.overflow_add-result c).Start, g.ensures.0) in
    search rules

pub returns : goal.returns
returns c =
    let f = c.put_head in
    let g = c.put_sections-n in
    let x = c.args.c in (
      omega (arith, starts (goal.at.returns c).Start, g.ensures.0, ap length (text_halves c.args.c), length-append (one x) (two x)),
      rest-written c.args.d.now f.new.d (one x) 22 f.ensures (starts (goal.at.returns c).Start) g.new.d (two x) (room (goal.at.returns c).Start) g.ensures.1
          ∙ ap (over c.args.d.now 0) (sym (text_halves c.args.c)),
    )
