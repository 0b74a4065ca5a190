-- `command_write::write::put_sections` meets its contract.
use borrow.Author.Rules.{rules}
use native.Mathlib.Omega.{arith}
use mathlib.Core.Path.{◌≡◌, sym, ap, ◌∙◌}
use mathlib.Core.List.{List, [], ◌∷◌, ◌++◌}
use Prim.Native.Nat.{ℕ, ◌+◌, ◌≤◌}
use lib.ListN.{length, drop, length-append}
use Rattle.text.specs.Over.{over}
use Rattle.text.proofs.Over.{rest-start, rest-room, rest-written}
use Rattle.command.specs.Record.{sections_text}
use Rattle.section.specs.Layout.{numbers}
use Rattle.settings.specs.Settings.{fixed_of}
use Rattle.command_write.specs.Inner.{numbered_text}
use Rattle.command.specs.declared.Command.{Command}
use Rattle.command_write.proofs.Writing.{text-append, numbered_texts}
use Rattle.command_write.proofs.write.put_sections.Goals as goal
use Rattle.command_write.proofs.write.put_sections.Goals.{Start}

-- the first text and the second
abbrev one : Command → List ℕ
one x = sections_text (2 ∷ 3 ∷ []) x

abbrev two : Command → List ℕ
two x = numbered_text (drop 2 numbers) (fixed_of x.settings) x.named

whole : (x : Command) → sections_text numbers x ≡ one x ++ two x
whole x =
    text-append (2 ∷ 3 ∷ []) (drop 2 numbers) x ∙ ap (λ (t : List ℕ). one x ++ t) (numbered_texts (drop 2 numbers) x (omega arith))

room : (s : Start) → length (one s.args.c) + length (two s.args.c) ≤ length s.args.d.now
room s = omega (arith, s.requires.1, ap length (whole s.args.c), length-append (one s.args.c) (two s.args.c))

pub put_lists-at-requires : goal.put_lists-at-requires
put_lists-at-requires c =
    let h : length (one c.args.c) ≤ length c.args.d.now = omega (arith, room (goal.at.put_lists-at-requires c).Start) in
    (c.requires.0, h)

pub slice_bounds-put_numbered-count : goal.slice_bounds-put_numbered-count
slice_bounds-put_numbered-count c =
    let f = c.put_lists-at in
    rest-start c.args.d.now f.new.d (one c.args.c) f.result f.ensures.1 f.ensures.0 (length (two c.args.c)) (omega (arith, room (goal.at.slice_bounds-put_numbered-count c).Start, f.ensures.0))

pub slice_bounds-put_numbered-start : goal.slice_bounds-put_numbered-start
slice_bounds-put_numbered-start c =
    let f = c.put_lists-at in
    let h : f.result ≤ length f.new.d = rest-start c.args.d.now f.new.d (one c.args.c) f.result f.ensures.1 f.ensures.0 (length (two c.args.c)) (omega (arith, room (goal.at.slice_bounds-put_numbered-start c).Start, f.ensures.0)) in
    h

pub put_numbered-n-requires : goal.put_numbered-n-requires
put_numbered-n-requires c =
    let f = c.put_lists-at in
    rw c.fixed_of.ensures
    (rest-room c.args.d.now f.new.d (one c.args.c) f.result f.ensures.1 f.ensures.0 (length (two c.args.c)) (omega (arith, room (goal.at.put_numbered-n-requires c).Start, f.ensures.0)))

pub overflow_add-result : goal.overflow_add-result
overflow_add-result c =
    let f = c.put_lists-at in
    let g = c.put_numbered-n in
    let n = rw c.fixed_of.ensures at g.ensures.0 in
    let h : f.result + g.result ≤ length c.args.d.now = omega (arith, room (goal.at.overflow_add-result c).Start, f.ensures.0, n) in
    search rules

pub returns : goal.returns
returns c =
    let f = c.put_lists-at in
    let g = c.put_numbered-n in
    let n = rw c.fixed_of.ensures at g.ensures.0 in
    let w = rw c.fixed_of.ensures at g.ensures.1 in
    let x = c.args.c in (
      omega (arith, f.ensures.0, n, ap length (whole x), length-append (one x) (two x)),
      rest-written c.args.d.now f.new.d (one x) f.result f.ensures.1 f.ensures.0 g.new.d (two x) (omega (arith, room (goal.at.returns c).Start, f.ensures.0)) w
          ∙ ap (over c.args.d.now 0) (sym (whole x)),
    )
