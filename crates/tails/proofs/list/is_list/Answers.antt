use borrow.Author.Rules.{rules}
use mathlib.Core.Path.{◌≡◌, sym, ◌∙◌, ap}
use mathlib.Core.Bool.{true, false}
use mathlib.Core.List.{List}
use Prim.Native.Nat.{ℕ, ◌-◌, ◌≤◌}
use native.Mathlib.Omega.{arith}
use lib.ListN.{length, take, drop, replicate, length-drop}
use lib.Seq.{take_all}
use borrow.Author.Tests.{eq-eqb, ne_eqb}
use Rattle.tails.specs.Tails.{listed, rises, covers, all_blank, agrees}
use Rattle.tails.specs.Inner.{marked, covered_by}
use Rattle.tails.proofs.Steps.{listed-most, listed-front}
use Rattle.tails.proofs.Marks.{rises-slots, slots-more, covers-marks}
use Rattle.tails.proofs.list.is_list.Goals as goal
use Rattle.tails.proofs.list.is_list.Goals.{After-are_marked, After-is_rising, After-listed_of-m}

-- the part up to the first 255 is what is listed
front : (ts : List ℕ) (m : ℕ) → m ≡ length (listed ts) → take m ts ≡ listed ts
front ts m e = rw e (listed-front ts)

rest : (ts : List ℕ) (m : ℕ) → m ≡ length (listed ts) → take (length ts - m) (drop m ts) ≡ drop (length (listed ts)) ts
rest ts m e =
    let l : length (drop m ts) ≡ length ts - m = length-drop m ts in
    let q : length (drop m ts) ≤ length ts - m = omega (arith, l) in
    take_all (length ts - m) (drop m ts) q ∙ ap (λ (k : ℕ). drop k ts) e

-- the tests in their order
module _ (ks ts : List ℕ) where
  other_length : ¬ (length ts ≡ length ks) → false ≡ agrees ks ts
  unfolding agrees
  other_length n = rw (ne_eqb (length ts) (length ks) n)

  module _ (e : length ts ≡ length ks) where
    not-rising : rises ks 0 (listed ts) ≡ false → false ≡ agrees ks ts
    unfolding agrees
    not-rising r = rw (eq-eqb (length ts) (length ks) e, r)

    not-covering : rises ks 0 (listed ts) ≡ true → covers ks (listed ts) (length ks) ≡ false → false ≡ agrees ks ts
    unfolding agrees
    not-covering r v = rw (eq-eqb (length ts) (length ks) e, r, v)

    all-else : rises ks 0 (listed ts) ≡ true → covers ks (listed ts) (length ks) ≡ true → all_blank (drop (length (listed ts)) ts) ≡ agrees ks ts
    unfolding agrees
    all-else r v = rw (eq-eqb (length ts) (length ks) e, r, v)

pub returns-then-tails-keys : goal.returns-then-tails-keys
returns-then-tails-keys c = other_length c.args.keys.now c.args.tails.now c.if-tails-keys.true

inside : (c : After-listed_of-m) → c.listed_of-m.result ≤ length c.args.tails.now
inside c = omega (arith, c.listed_of-m.ensures, listed-most c.args.tails.now)

pub slice_bounds-is_rising-end : goal.slice_bounds-is_rising-end
slice_bounds-is_rising-end c = search (rules, inside (goal.at.slice_bounds-is_rising-end c).After-listed_of-m)

-- what the rising test says
rising : (c : After-is_rising) → c.is_rising.result ≡ rises c.args.keys.now 0 (listed c.args.tails.now)
rising c = c.is_rising.ensures ∙ ap (rises c.args.keys.now 0) (front c.args.tails.now c.listed_of-m.result c.listed_of-m.ensures)

pub returns-then-not-is_rising : goal.returns-then-not-is_rising
returns-then-not-is_rising c =
    not-rising c.args.keys.now c.args.tails.now c.if-tails-keys.false (sym (rising (goal.at.returns-then-not-is_rising c).After-is_rising) ∙ c.if-not-is_rising.true)

pub slice_bounds-marks_of-end : goal.slice_bounds-marks_of-end
slice_bounds-marks_of-end c = search (rules, inside (goal.at.slice_bounds-marks_of-end c).After-listed_of-m)

pub marks_of-requires : goal.marks_of-requires
marks_of-requires c =
    rw (front c.args.tails.now c.listed_of-m.result c.listed_of-m.ensures)
    (slots-more (length c.args.keys.now) 64 (listed c.args.tails.now) c.requires (rises-slots c.args.keys.now 0 (listed c.args.tails.now) (sym (rising (goal.at.marks_of-requires c).After-is_rising) ∙ c.if-not-is_rising.false)))

-- what the marks say
covering : (c : After-are_marked) → c.are_marked.result ≡ covers c.args.keys.now (listed c.args.tails.now) (length c.args.keys.now)
covering c =
    let ks = c.args.keys.now in
    let ts = c.args.tails.now in
    let up : rises ks 0 (listed ts) ≡ true = sym (c.is_rising.ensures ∙ ap (rises ks 0) (front ts c.listed_of-m.result c.listed_of-m.ensures)) ∙ c.if-not-is_rising.false in
    let e : c.marks_of.result ≡ marked (replicate 64 0) (listed ts) = c.marks_of.ensures ∙ ap (marked (replicate 64 0)) (front ts c.listed_of-m.result c.listed_of-m.ensures) in
    c.are_marked.ensures
    ∙ ap (λ (ms : List ℕ). covered_by ks ms (length ks)) e
    ∙ covers-marks ks (listed ts) (length ks) (slots-more (length ks) 64 (listed ts) c.requires (rises-slots ks 0 (listed ts) up))

pub returns-else-are_marked : goal.returns-else-are_marked
returns-else-are_marked c =
    c.if-are_marked.false
    ∙ not-covering c.args.keys.now c.args.tails.now c.if-tails-keys.false (sym (rising (goal.at.returns-else-are_marked c).After-is_rising) ∙ c.if-not-is_rising.false) (sym (covering (goal.at.returns-else-are_marked c).After-are_marked) ∙ c.if-are_marked.false)

pub slice_bounds-is_blank-count : goal.slice_bounds-is_blank-count
slice_bounds-is_blank-count c = inside (goal.at.slice_bounds-is_blank-count c).After-listed_of-m

pub slice_bounds-is_blank-start : goal.slice_bounds-is_blank-start
slice_bounds-is_blank-start c = search (rules, inside (goal.at.slice_bounds-is_blank-start c).After-listed_of-m)

pub returns-then-are_marked : goal.returns-then-are_marked
returns-then-are_marked c =
    c.is_blank.ensures
    ∙ ap all_blank (rest c.args.tails.now c.listed_of-m.result c.listed_of-m.ensures)
    ∙ all-else c.args.keys.now c.args.tails.now c.if-tails-keys.false (sym (rising (goal.at.returns-then-are_marked c).After-is_rising) ∙ c.if-not-is_rising.false) (sym (covering (goal.at.returns-then-are_marked c).After-are_marked) ∙ c.if-are_marked.true)
