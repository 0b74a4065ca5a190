use native.Mathlib.Omega.{arith}
use Prim.Native.Nat.{ℕ, ◌+◌, ◌-◌, ◌≤◌}
use mathlib.Core.Path.{◌≡◌, refl, sym, ap, ◌∙◌}
use lib.ListN.{length, take, drop, length-append, length-set}
use lib.Dec.{leb}
use mathlib.Core.Bool.{true, false, cond}
use mathlib.Core.List.{List, [], ◌∷◌, ◌++◌, append_assoc, append-nil}
use Rattle.sheet.proofs.Contents.{field-length, two_bytes}
use Rattle.sheet.proofs.Small.{small_width, small-parts}
use lib.Seq.{length-take-le}
use borrow.Rule.Slice.PartMut.{put_mid}
use borrow.Author.Rules.{rules}
use Rattle.text.specs.Over.{over}
use Rattle.text.proofs.Over.{over_none, over-whole, length_then, then_copy, then_whole, then_byte}
use Rattle.text.proofs.Parts.{part_length}
use Rattle.sheet.specs.declared.Cell.{Cell}
use Rattle.sheet.specs.declared.Held.{Held}
use Rattle.sheet.specs.Inner.{size_of_cell, held_is}
use Rattle.sheet.specs.Sheet.{label_of, field_text, cell_text, line_end}
use Rattle.sheet.proofs.write.put_cell.Goals as goal
use Rattle.sheet.proofs.write.put_cell.Goals.{After-width_of}

-- a cell, what it is to hold, a buffer of its size, and the width of its field
record Sized (x : Cell) (h : Held) (d : List ℕ) (w : ℕ) : Type 0 where
  low : x.labelled ≤ 16
  narrow : w ≤ 100
  long : length x.label ≡ 16
  label : length (label_of x) ≡ x.labelled
  field : length (field_text x.form (held_is x.form h)) ≡ w
  -- the field ends within the buffer, two bytes before its end where the cell ends a line
  whole : x.labelled + w + cond x.ends 2 0 ≡ length d

sized : (c : After-width_of) → Sized c.args.c c.args.h c.args.d.now c.width_of.result
unfolding size_of_cell
sized c =
    let x = c.args.c in
    let parts = small-parts x c.requires.c_value in
    let long : length x.label ≡ 16 = search rules in
    let six : length c.args.h.name ≡ 6 = search rules in
    record {
      low = parts.1.0;
      narrow = omega (arith, small_width x.form parts.1.1, c.width_of.ensures);
      long = long;
      label = length-take-le x.labelled x.label (omega (arith, parts.1.0, long));
      field = field-length x.form c.args.h six c.requires.form_value ∙ sym c.width_of.ensures;
      whole = omega (arith, c.width_of.ensures, c.requires.d_len);
    }

module _ (x : Cell) (h : Held) (d : List ℕ) (w : ℕ) (s : Sized x h d w) where
  abbrev text : List ℕ
  text = label_of x ++ field_text x.form (held_is x.form h)

  -- how long the fixed group and the field are
  text-long : length text ≡ x.labelled + w
  text-long = length-append (label_of x) (field_text x.form (held_is x.form h)) ∙ omega (arith, s.label, s.field)

  -- where the cell ends a line two bytes are left, else none
  line : x.ends ≡ true → x.labelled + w + 2 ≡ length d
  line e = let two : ◌≡◌ {A = ℕ} (cond x.ends 2 0) 2 = rw e in omega (arith, s.whole, two)

  no-line : x.ends ≡ false → x.labelled + w ≡ length d
  no-line e = let none : ◌≡◌ {A = ℕ} (cond x.ends 2 0) 0 = rw e in omega (arith, s.whole, none)

  -- the buffer with the fixed group, m
  module _ (m : List ℕ) (copied : m
      ≡ cond (leb (length (take (x.labelled - 0) x.label)) (length (take (x.labelled - 0) (drop 0 d))))
      (over (take (x.labelled - 0) (drop 0 d)) 0 (take (x.labelled - 0) x.label))
      (take (x.labelled - 0) (drop 0 d))) where
    abbrev one : List ℕ
    one = put_mid 0 (x.labelled - 0) d m

    first : one ≡ over d 0 (label_of x)
    first =
        let n = x.labelled in
        let z : n - 0 ≡ n = omega arith in
        let wide : length (take (n - 0) x.label) ≡ n = rw z s.label in
        then_copy d d m [] (take (n - 0) x.label) 0 0 n (over_none d 0) refl (omega (arith, wide)) (omega (arith, s.whole)) copied
        ∙ ap (λ (k : ℕ). over d 0 (take k x.label)) z

    long-one : length one ≡ length d
    long-one = length_then d one (label_of x) 0 first (omega (arith, s.label, s.whole))

    room : length (take (x.labelled + w - x.labelled) (drop x.labelled one)) ≡ w
    room = part_length one x.labelled (x.labelled + w) (omega (arith, s.whole, long-one)) ∙ omega arith

    -- the buffer with both, f the field
    module _ (f : List ℕ) (put : f ≡ field_text x.form (held_is x.form h)) where
      abbrev two : List ℕ
      two = put_mid x.labelled (x.labelled + w - x.labelled) one f

      second : two ≡ over d 0 text
      second =
          then_whole d one f (label_of x) (field_text x.form (held_is x.form h)) 0 x.labelled (x.labelled + w) first (omega (arith, s.label))
          (omega (arith, s.field)) (omega (arith, s.whole)) put

      long-two : length two ≡ length d
      long-two = length_then d two text 0 second (omega (arith, text-long, s.whole))

pub overflow_add-end : goal.overflow_add-end
overflow_add-end c = let s = sized c in omega (arith, s.low, s.narrow)

pub slice_bounds-copy-end : goal.slice_bounds-copy-end
slice_bounds-copy-end c = omega (arith, (sized (goal.at.slice_bounds-copy-end c).After-width_of).whole)

pub slice_bounds-copy-end-2 : goal.slice_bounds-copy-end-2
slice_bounds-copy-end-2 c = let s = sized (goal.at.slice_bounds-copy-end-2 c).After-width_of in omega (arith, s.low, s.long)

pub slice_bounds-put_field-end : goal.slice_bounds-put_field-end
slice_bounds-put_field-end c =
    let s = sized (goal.at.slice_bounds-put_field-end c).After-width_of in
    omega (arith, s.whole, long-one c.args.c c.args.h c.args.d.now c.width_of.result s c.copy.new.d c.copy.ensures)

pub bounds-d-end : goal.bounds-d-end
bounds-d-end c =
    let s = sized (goal.at.bounds-d-end c).After-width_of in
    omega (arith, line _ _ _ _ s c.if-c.true, long-two _ _ _ _ s c.copy.new.d c.copy.ensures c.put_field.new.d c.put_field.ensures)

pub bounds-d-end-then-c : goal.bounds-d-end-then-c
bounds-d-end-then-c c =
    let s = sized (goal.at.bounds-d-end-then-c c).After-width_of in
    rw (length-set {A = ℕ} _ _ 13)
    (omega (arith, line _ _ _ _ s c.if-c.true, long-two _ _ _ _ s c.copy.new.d c.copy.ensures c.put_field.new.d c.put_field.ensures))

pub returns-then-c : goal.returns-then-c
unfolding cell_text
returns-then-c c =
    let a = c.args in
    let s = sized (goal.at.returns-then-c c).After-width_of in
    let v = held_is a.c.form a.h in
    let t = label_of a.c ++ field_text a.c.form v in
    let end = a.c.labelled + c.width_of.result in
    let fits = line _ _ _ _ s c.if-c.true in
    let n : length t ≡ end = text-long _ _ _ _ s in
    let both = second _ _ _ _ s c.copy.new.d c.copy.ensures c.put_field.new.d c.put_field.ensures in
    let one_more = then_byte a.d.now _ t 13 0 end both (omega (arith, n)) (omega (arith, fits)) in
    let m : length (t ++ (13 ∷ [])) ≡ end + 1 = length-append t (13 ∷ []) ∙ omega (arith, n) in
    let two-more = then_byte a.d.now _ (t ++ (13 ∷ [])) 10 0 (end + 1) one_more (omega (arith, m)) (omega (arith, fits)) in
    let whole : length ((t ++ (13 ∷ [])) ++ (10 ∷ [])) ≡ length a.d.now = length-append (t ++ (13 ∷ [])) (10 ∷ []) ∙ omega (arith, m, fits) in
    rw c.if-c.true
    (two-more ∙ over-whole a.d.now ((t ++ (13 ∷ [])) ++ (10 ∷ [])) whole ∙ two_bytes t 13 10 ∙ append_assoc (label_of a.c) (field_text a.c.form v) line_end)

pub returns-else-c : goal.returns-else-c
unfolding cell_text
returns-else-c c =
    let a = c.args in
    let s = sized (goal.at.returns-else-c c).After-width_of in
    let v = held_is a.c.form a.h in
    let both = second _ _ _ _ s c.copy.new.d c.copy.ensures c.put_field.new.d c.put_field.ensures in
    rw (c.if-c.false, append-nil (field_text a.c.form v))
    (both ∙ over-whole a.d.now (label_of a.c ++ field_text a.c.form v) (text-long _ _ _ _ s ∙ no-line _ _ _ _ s c.if-c.false))
