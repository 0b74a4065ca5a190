-- A section's own bytes: cut out of a text they are a section by themselves, and put into any text they are that section there.
use mathlib.Core.Path.{◌≡◌, refl, sym, ap, ◌∙◌}
use mathlib.Core.List.{List, ◌++◌}
use Prim.Native.Nat.{ℕ, ◌+◌, ◌≤◌}
use native.Mathlib.Omega.{arith}
use native.Mathlib.Nat.{add-zero}
use lib.ListN.{length, take, drop, length-drop, take-append-drop}
use lib.Seq.{length-take-le, take_at, drop_at}
use Rattle.text.specs.Parts.{part}
use Rattle.text.proofs.Parts.{part-rest}
use Rattle.text.proofs.Checks.{err_ok}
use Rattle.field.proofs.Local.{shifted}
use Rattle.section.specs.Layout.{Item, check_items, items_size, items_most}
use Rattle.section.specs.Contents.{contents_at}
use Rattle.section.proofs.Local.{items_local, items-sized, items-reads, items-most, items-some}
use Rattle.std.specs.Prelude.{Result, Ok, Err}
use Rattle.text.specs.declared.Refusal.{Refusal}

-- the bytes b are a section by themselves: accepted from their first to their last
abbrev pub Own : List Item → List ℕ → Type 0
Own is b = check_items is b 0 ≡ Ok (length b)

module _ (is : List Item) (b : List ℕ) (own : Own is b) where
  -- they are as many as their counts say
  pub own-length : items_size is b 0 ≡ length b
  own-length = let q = (items-sized is).passes b 0 (length b) own in omega arith

  -- at least one
  pub own-some : 1 ≤ length b
  own-some = omega (arith, own-length, items-some is b 0)

  -- and no more than the longest section has
  pub own-most : length b ≤ items_most is
  own-most = omega (arith, own-length, items-most is b 0 (length b) own)

-- ---- Put into a text, behind x and before y

module _ (is : List Item) (x b y : List ℕ) (at : ℕ) (starts : length x ≡ at) (own : Own is b) where
  -- they are accepted there
  pub put_check : check_items is (x ++ (b ++ y)) at ≡ Ok (at + length b)
  put_check =
      let e : check_items is (b ++ y) 0 ≡ Ok (length b) = (items_local is).extend b y 0 (length b) own in
      rw (← starts)
      (ap (check_items is (x ++ (b ++ y))) (sym (add-zero (length x))) ∙ (items_local is).shift x (b ++ y) 0 ∙ ap (shifted (length x)) e)

  -- their length is found from the counts there
  pub put_size : items_size is (x ++ (b ++ y)) at ≡ length b
  put_size =
      let z = (items-sized is).reads in
      rw (← starts)
      (ap (items_size is (x ++ (b ++ y))) (sym (add-zero (length x)))
      ∙ z.same-shifted x (b ++ y) 0
      ∙ z.same_extended b y 0 (length b) own
      ∙ own-length is b own)

  -- they hold there what they hold by themselves
  pub put_contents : contents_at is (x ++ (b ++ y)) at ≡ contents_at is b 0
  put_contents =
      let c = items-reads is in
      rw (← starts)
      (ap (contents_at is (x ++ (b ++ y))) (sym (add-zero (length x)))
      ∙ c.same-shifted x (b ++ y) 0
      ∙ c.same_extended b y 0 (length b) own)

  -- and are found there again
  pub put_part : part at (items_size is (x ++ (b ++ y)) at) (x ++ (b ++ y)) ≡ b
  put_part = rw (put_size, drop_at x (b ++ y) at starts) (take_at b y (length b) refl)

-- ---- Cut out of a text

shifted_next : (n p : ℕ) (r : Result ℕ Refusal) → shifted n r ≡ Ok p → (q : ℕ) × (r ≡ Ok q) × (p ≡ n + q)
shifted_next n p (Ok q) e = (q, refl, cc)
shifted_next n p (Err r) e = err_ok (record { code = r.code; place = n + r.place }) p e

module _ (is : List Item) (s : List ℕ) (at p : ℕ) (e : check_items is s at ≡ Ok p) where
  -- an accepted section ends where its counts say
  pub cut_end : p ≡ at + items_size is s at
  cut_end = (items-sized is).passes s at p e

  -- in the text
  pub cut_inside : at + items_size is s at ≤ length s
  cut_inside =
      let q = cut_end in
      let i = (items_local is).filled s at p e (omega (arith, items-some is s at)) in
      omega arith

  -- they are as many as the counts say
  pub cut_length : length (part at (items_size is s at) s) ≡ items_size is s at
  cut_length =
      let i = cut_inside in
      length-take-le (items_size is s at) (drop at s) (omega (arith, length-drop at s))

  -- the text is what stands before, the section's bytes, and what stands behind
  pub cut_text : s ≡ take at s ++ (part at (items_size is s at) s ++ drop (at + items_size is s at) s)
  cut_text = rw (part-rest (items_size is s at) at s) (sym (take-append-drop at s))

  cut_starts : length (take at s) ≡ at
  cut_starts = let i = cut_inside in length-take-le at s (omega arith)

  -- they are a section by themselves
  pub cut_own : Own is (part at (items_size is s at) s)
  cut_own =
      let n = items_size is s at in
      let x = take at s in
      let b = part at n s in
      let y = drop (at + n) s in
      let f : check_items is (x ++ (b ++ y)) (length x + 0) ≡ Ok p = rw (← cut_text, cut_starts, add-zero at) e in
      let g = shifted_next (length x) p (check_items is (b ++ y) 0) (sym ((items_local is).shift x (b ++ y) 0) ∙ f) in
      let l = cut_length in
      let k : g.0 ≡ length b = omega (arith, g.2, cut_end, cut_starts) in
      (items_local is).shrink b y 0 (length b) (rw k at g.1) (omega arith)

  -- and hold what the text holds there
  pub cut_contents : contents_at is s at ≡ contents_at is (part at (items_size is s at) s) 0
  cut_contents =
      let n = items_size is s at in
      ap (λ (t : List ℕ). contents_at is t at) cut_text
      ∙ put_contents is (take at s) (part at n s) (drop (at + n) s) at cut_starts cut_own
