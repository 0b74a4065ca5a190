-- `command_write::write::put_lists` meets its contract.
use borrow.Author.Rules.{rules}
use native.Mathlib.Omega.{arith}
use mathlib.Core.Path.{◌≡◌, sym, ap, ◌∙◌}
use mathlib.Core.List.{List, [], ◌∷◌, ◌++◌}
use Prim.Native.Nat.{ℕ, ◌+◌, ◌≤◌}
use lib.Dec.{eqb}
use lib.ListN.{length, get_or, length-append}
use Rattle.text.specs.Over.{over}
use Rattle.text.proofs.Over.{rest-start, rest-room, rest-written}
use Rattle.settings.specs.Settings.{contents_of, regions_hold, airports_hold}
use Rattle.command.specs.Record.{sections_text}
use Rattle.settings.specs.Inner.{text_if}
use Rattle.command.specs.declared.Command.{Command}
use Rattle.command_write.proofs.Writing.{text-two}
use Rattle.command_write.proofs.write.put_lists.Goals as goal
use Rattle.command_write.proofs.write.put_lists.Goals.{Start}

-- the first text and the second
abbrev one : Command → List ℕ
one x = text_if (eqb (get_or x.named 0 0) 2) 2 (regions_hold x.settings.regions)

abbrev two : Command → List ℕ
two x = text_if (eqb (get_or x.named 1 0) 3) 3 (airports_hold x.settings.airports)

whole : (x : Command) → sections_text (2 ∷ 3 ∷ []) x ≡ one x ++ two x
unfolding contents_of
whole x = text-two x

room : (s : Start) → length (one s.args.c) + length (two s.args.c) ≤ length s.args.d.now
room s = omega (arith, s.requires.1, ap length (whole s.args.c), length-append (one s.args.c) (two s.args.c))

pub put_named_regions-at-requires : goal.put_named_regions-at-requires
unfolding contents_of
put_named_regions-at-requires c =
    let h : length (one c.args.c) ≤ length c.args.d.now = omega (arith, room (goal.at.put_named_regions-at-requires c).Start) in
    record { x_value = c.requires.0.0; x_in_bounds = h }

pub slice_bounds-put_named_airports-count : goal.slice_bounds-put_named_airports-count
unfolding contents_of
slice_bounds-put_named_airports-count c =
    let f = c.put_named_regions-at in
    rest-start c.args.d.now f.new.d (one c.args.c) f.result f.ensures.1 f.ensures.0 (length (two c.args.c)) (omega (arith, room (goal.at.slice_bounds-put_named_airports-count c).Start, f.ensures.0))

pub slice_bounds-put_named_airports-start : goal.slice_bounds-put_named_airports-start
unfolding contents_of
slice_bounds-put_named_airports-start c =
    let f = c.put_named_regions-at in
    let h : f.result ≤ length f.new.d = rest-start c.args.d.now f.new.d (one c.args.c) f.result f.ensures.1 f.ensures.0 (length (two c.args.c)) (omega (arith, room (goal.at.slice_bounds-put_named_airports-start c).Start, f.ensures.0)) in
    h

pub put_named_airports-n-requires : goal.put_named_airports-n-requires
unfolding contents_of
put_named_airports-n-requires c =
    let f = c.put_named_regions-at in
    record { x_value = c.requires.0.1.0; x_in_bounds = rest-room c.args.d.now f.new.d (one c.args.c) f.result f.ensures.1 f.ensures.0 (length (two c.args.c)) (omega (arith, room (goal.at.put_named_airports-n-requires c).Start, f.ensures.0)) }

pub overflow_add-result : goal.overflow_add-result
unfolding contents_of
overflow_add-result c =
    let f = c.put_named_regions-at in
    let g = c.put_named_airports-n in
    let h : f.result + g.result ≤ length c.args.d.now = omega (arith, room (goal.at.overflow_add-result c).Start, f.ensures.0, g.ensures.0) in
    search rules

pub returns : goal.returns
unfolding contents_of
returns c =
    let f = c.put_named_regions-at in
    let g = c.put_named_airports-n in
    let x = c.args.c in (
      omega (arith, f.ensures.0, g.ensures.0, ap length (whole x), length-append (one x) (two x)),
      rest-written c.args.d.now f.new.d (one x) f.result f.ensures.1 f.ensures.0 g.new.d (two x) (omega (arith, room (goal.at.returns c).Start, f.ensures.0)) g.ensures.1
          ∙ ap (over c.args.d.now 0) (sym (whole x)),
    )
