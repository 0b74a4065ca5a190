-- A record is refused nowhere just where document 01's ranges allow it: the check that a writer makes, with its codes and places,
-- against the ranges alone.
use mathlib.Core.Path.{◌≡◌, refl, sym, ap, ap₂, ◌∙◌}
use mathlib.Core.Bool.{Bool, true, false, cond, ◌&&◌, ◌||◌, not, and_assoc, and_comm, and-true, and-false}
use mathlib.Core.List.{List, [], ◌∷◌, map}
use Prim.Native.Nat.{ℕ, zero, suc, ◌+◌, ◌-◌, ◌*◌, ◌≤◌}
use native.Mathlib.Omega.{arith}
use lib.Dec.{leb, eqb, lit≤}
use lib.IntN.{pos, neg_ℤ}
use lib.Signed.{le_z}
use lib.ListN.{length, take, drop, get_or}
use lib.Seq.{take_all}
use borrow.Author.Tests.{eqb-true, leb-true, le-leb, lt-leb, ne_eqb}
use Rattle.text.specs.Checks.{must, ◌and_then◌, is_fine}
use Rattle.text.specs.Names.{between, allowed, all_allowed}
use Rattle.text.proofs.Cases.{by_test, by_le, by_eq, both_left, both_right}
use Rattle.text.proofs.Checks.{err_ok, fine-must, fine_then, fine-is}
use Rattle.text.proofs.Parts.{part_bytes}
use Rattle.field.specs.Boxes.{latitude, longitude, line_of, region_allowed}
use Rattle.field.specs.Steps.{edge_is, region_is}
use Rattle.field.specs.declared.Circle.{Circle}
use Rattle.field.specs.declared.Edge.{Edge}
use Rattle.field.specs.declared.Region.{Region}
use Rattle.field.proofs.Wherever.{region_is_lem}
use Rattle.lists.specs.Lists.{all_zero, airfields_allowed, region_zero, regions_zero, regions_allowed, boxes_allowed}
use Rattle.lists.specs.declared.Airfields.{Airfields}
use Rattle.lists.specs.declared.Boxes.{Boxes}
use Rattle.lists.proofs.RoundTrip.{airfields-held, airfields-fine, boxes-held, boxes-fine}
use Rattle.section.specs.Layout.{Item, Digits, AirfieldList, BoxList, layout_of, table_of, is_empty, numbers}
use Rattle.section.specs.Contents.{Content, amount_of, names_of, areas_of, content_text, content_allowed, contents_allowed}
use Rattle.settings.specs.Settings.{contents_of, fixed_hold}
use Rattle.settings.specs.declared.Settings.{Settings}
use Rattle.command.specs.Record.{flag_allowed, flags_allowed, named_allowed, marks_allowed, names, section_text, sections_allowed, command_allowed}
use Rattle.settings.specs.Valid.{are_zero}
use Rattle.command.specs.Allowed.{every, nought, allowed_edge, signed, allowed_box, allowed_boxes, allowed_airfields, allowed_section, zero_section, zero_or_one, allowed_flag, allowed_indicator, in_turn, allowed_command}
use Rattle.command.specs.declared.Command.{Command}
use Rattle.command.proofs.Each.{Each, each_map}
use Rattle.std.specs.Prelude.{Result, Ok, Err}
use Rattle.text.specs.declared.Refusal.{Refusal}
use Rattle.text.specs.declared.Code.TheVariants.{Disagree, NotAllowed}

-- ---- Tests

-- a second test that matters only where the first holds
and_same : (s t u : Bool) → (s ≡ true → t ≡ u) → (s && t) ≡ (s && u)
and_same true t u f = f refl
and_same false t u f = refl

leb-same : (a b c d : ℕ) → (a ≤ b → c ≤ d) → (c ≤ d → a ≤ b) → leb a b ≡ leb c d
leb-same a b c d f g =
    by_le a b
    (λ h. rw (le-leb a b h, le-leb c d (f h)))
    (λ h. rw (lt-leb a b h) (sym (lt-leb c d (by_le c d (λ k. absurd (omega (arith, g k))) (λ k. k)))))

-- ---- Boxes

-- signed degrees lie as the lines do that are counted from 1000 below zero
lines_lie : (s t : Bool) (a b : ℕ) → a ≤ 1000 → b ≤ 1000
    → le_z (cond s (neg_ℤ (pos a)) (pos a)) (cond t (neg_ℤ (pos b)) (pos b)) ≡ leb (cond s (1000 - a) (1000 + a)) (cond t (1000 - b) (1000 + b))
lines_lie false false a b h k = leb-same a b (1000 + a) (1000 + b) (λ l. omega arith) (λ l. omega arith)
lines_lie true false zero b h k = leb-same 0 b 1000 (1000 + b) (λ l. omega arith) (λ l. omega arith)
lines_lie true false (suc a) b h k = sym (le-leb (1000 - suc a) (1000 + b) (omega arith))
lines_lie false true a zero h k = leb-same a 0 (1000 + a) 1000 (λ l. omega arith) (λ l. omega arith)
lines_lie false true a (suc b) h k = sym (lt-leb (1000 + a) (1000 - suc b) (omega arith))
lines_lie true true zero zero h k = refl
lines_lie true true zero (suc b) h k = sym (lt-leb 1000 (1000 - suc b) (omega arith))
lines_lie true true (suc a) zero h k = sym (le-leb (1000 - suc a) 1000 (omega arith))
lines_lie true true (suc a) (suc b) h k = leb-same b a (1000 - suc a) (1000 - suc b) (λ l. omega arith) (λ l. omega arith)

module _ (c : Circle) (two : eqb c.above c.below ≡ false) (few : c.most ≤ 1000) where
  abbrev fits : Edge → Bool
  fits e = allowed_edge c.most c.above c.below e

  -- an edge, its tests in another order
  edge_same : (e : Edge) → edge_is c e ≡ fits e
  edge_same e = go (eqb e.letter c.above) (eqb e.letter c.below) (eqb e.degrees 0) (leb e.degrees c.most) apart
    where
      apart : eqb e.letter c.above ≡ true → eqb e.letter c.below ≡ false
      apart h = rw (eqb-true e.letter c.above h) two

      go : (a b z l : Bool) → (a ≡ true → b ≡ false) → ((a || b) && not (z && b) && l) ≡ (l && (a || (b && not z)))
      go true b z l f = rw (f refl, and-false z) (sym (and-true l))
      go false true z l f = rw and-true (and_comm (not z) l)
      go false false z l f = sym (and-false l)

  low : (e : Edge) → fits e ≡ true → e.degrees ≤ 1000
  low e h = omega (arith, leb-true e.degrees c.most (both_left (leb e.degrees c.most) _ h))

  -- two edges, one not above the other
  order_same : (a b : Edge) → fits a ≡ true → fits b ≡ true → leb (line_of c a) (line_of c b) ≡ le_z (signed c.below a) (signed c.below b)
  unfolding line_of
  order_same a b h k =
      sym (lines_lie (eqb a.letter c.below) (eqb b.letter c.below) a.degrees b.degrees (low a h) (low b k))

  -- a pair of edges and how they must lie
  pair_same : (a b : Edge) (s t : Bool) → (fits a ≡ true → fits b ≡ true → s ≡ t) → (edge_is c a && edge_is c b && s) ≡ (fits a && fits b && t)
  pair_same a b s t f =
      rw (edge_same a, edge_same b)
      (and_same (fits a && fits b) s t (λ h. f (both_left (fits a) (fits b) h) (both_right (fits a) (fits b) h)))

-- a box is refused nowhere just where its degrees, its letters and their order are allowed
box-same : (b : Region) (at : ℕ) → is_fine (region_allowed at b) ≡ allowed_box b
unfolding region_is allowed_box
box-same b at =
    let two : 90 ≤ 1000 = lit≤ tt in
    let three : 180 ≤ 1000 = lit≤ tt in
    region_is_lem b at
    ∙ ap₂ ◌&&◌
    (pair_same latitude refl two b.north b.south _ _ (λ h k. order_same latitude refl two b.south b.north k h))
    (and-true (edge_is longitude b.west && edge_is longitude b.east)
    ∙ ap₂ ◌&&◌ (edge_same longitude refl three b.west) (edge_same longitude refl three b.east))

-- ---- Lists

boxes-same : (n at : ℕ) (bs : List Region) → is_fine (regions_allowed n at bs) ≡ every allowed_box (take n bs)
unfolding regions_allowed every
boxes-same zero at bs = refl
boxes-same (suc n) at [] = refl
boxes-same (suc n) at (b ∷ bs) =
    fine_then (region_allowed at b) (regions_allowed n (at + 14) bs) ∙ ap₂ ◌&&◌ (box-same b at) (boxes-same n (at + 14) bs)

zero-boxes : (bs : List Region) → regions_zero bs ≡ every region_zero bs
unfolding regions_zero every
zero-boxes [] = refl
zero-boxes (b ∷ bs) = ap (λ (t : Bool). region_zero b && t) (zero-boxes bs)

zero-bytes : (s : List ℕ) → all_zero s ≡ every nought s
unfolding all_zero every
zero-bytes [] = refl
zero-bytes (b ∷ s) = ap (λ (t : Bool). nought b && t) (zero-bytes s)

allowed-bytes : (s : List ℕ) → all_allowed s ≡ every allowed s
unfolding all_allowed every
allowed-bytes [] = refl
allowed-bytes (b ∷ s) = ap (λ (t : Bool). allowed b && t) (allowed-bytes s)

-- what is refused nowhere just where a test holds
by_fine : (x : Result (Unit {0}) Refusal) (t : Bool) → (x ≡ Ok tt → t ≡ true) → (t ≡ true → x ≡ Ok tt) → is_fine x ≡ t
by_fine (Ok u) t f g = sym (f refl)
by_fine (Err r) true f g = err_ok r tt (g refl)
by_fine (Err r) false f g = refl

-- a list of airfields is refused nowhere just where it is allowed
airfields-same : (at : ℕ) (l : Airfields) → is_fine (airfields_allowed at l) ≡ allowed_airfields l
airfields-same at l =
    let few = leb l.count 20 in
    let used = all_allowed (take (4 * l.count) l.names) in
    let rest = all_zero (drop (4 * l.count) l.names) in
    by_fine (airfields_allowed at l) (few && used && rest)
    (λ h. let a = airfields-held at l h in rw (le-leb l.count 20 a.few, a.names, a.zeros))
    (λ h.
    let both = both_left (few && used) rest h in
    airfields-fine at l
    (record {
      few = leb-true l.count 20 (both_left few used both);
      zeros = both_right (few && used) rest h;
      names = both_right few used both;
    }))
    ∙ rw (allowed-bytes (take (4 * l.count) l.names), zero-bytes (drop (4 * l.count) l.names))

-- and so is one of boxes
boxes_are : (at : ℕ) (l : Boxes) → is_fine (boxes_allowed at l) ≡ allowed_boxes l
boxes_are at l =
    let few = leb l.count 16 in
    let used = is_fine (regions_allowed l.count (at + 2) l.regions) in
    let rest = regions_zero (drop l.count l.regions) in
    by_fine (boxes_allowed at l) (few && used && rest)
    (λ h. let a = boxes-held at l h in rw (le-leb l.count 16 a.few, a.regions, a.zeros))
    (λ h.
    let both = both_left (few && used) rest h in
    boxes-fine at l
    (record {
      few = leb-true l.count 16 (both_left few used both);
      zeros = both_right (few && used) rest h;
      regions = fine-is (regions_allowed l.count (at + 2) l.regions) (both_right few used both);
    }))
    ∙ rw (boxes-same l.count (at + 2) l.regions, zero-boxes (drop l.count l.regions))

-- ---- Sections

-- what an item holds is allowed, wherever it would stand
abbrev content_is : Item → Content → Bool
content_is (Digits r) c = between r.least r.most (amount_of c)
content_is AirfieldList c = allowed_airfields (names_of c)
content_is BoxList c = allowed_boxes (areas_of c)

abbrev contents_are : List Item → List Content → Bool
contents_are [] cs = true
contents_are (i ∷ is) [] = true
contents_are (i ∷ is) (c ∷ cs) = content_is i c && contents_are is cs

content_same : (i : Item) (at : ℕ) (c : Content) → is_fine (content_allowed i at c) ≡ content_is i c
content_same (Digits r) at c = fine-must (between r.least r.most (amount_of c)) r.code at
content_same AirfieldList at c = airfields-same at (names_of c)
content_same BoxList at c = boxes_are at (areas_of c)

contents_same : (is : List Item) (at : ℕ) (cs : List Content) → is_fine (contents_allowed is at cs) ≡ contents_are is cs
unfolding contents_allowed
contents_same [] at cs = refl
contents_same (i ∷ is) at [] = refl
contents_same (i ∷ is) at (c ∷ cs) =
    fine_then (content_allowed i at c) (contents_allowed is (at + length (content_text i c)) cs)
    ∙ ap₂ ◌&&◌ (content_same i at c) (contents_same is (at + length (content_text i c)) cs)

-- the layout's limits are document 01's ranges, section by section
ranges_are : (x : Settings) → Each (λ k. contents_are (layout_of k) (contents_of x k) ≡ allowed_section x k) numbers
unfolding layout_of table_of contents_of fixed_hold allowed_section
ranges_are x = (
  simp (and_assoc, and-true),
  (
    simp (and_assoc, and-true),
    (
      simp (and_assoc, and-true),
      (simp (and_assoc, and-true), (simp (and_assoc, and-true), (simp (and_assoc, and-true), (simp (and_assoc, and-true), (simp (and_assoc, and-true), tt))))),
    ),
  ),
)

-- and what a section that is not named holds is zero in every member
zeros_are : (x : Settings) → Each (λ k. are_zero (contents_of x k) ≡ zero_section x k) numbers
unfolding contents_of fixed_hold are_zero zero_section every
zeros_are x = (
  simp (zero-boxes, and_assoc, and-true),
  (
    simp (zero-bytes, and_assoc, and-true),
    (refl, (refl, (and-true (nought x.routine6), (refl, (and-true (nought x.routine8), (refl, tt)))))),
  ),
)

-- a section is refused nowhere, wherever it would stand, just where it is within its ranges
pub sections_are : (x : Settings) → Each (λ k. (at : ℕ) → is_fine (contents_allowed (layout_of k) at (contents_of x k)) ≡ allowed_section x k) numbers
sections_are x =
    each_map (λ k. contents_are (layout_of k) (contents_of x k) ≡ allowed_section x k)
    (λ k. (at : ℕ) → is_fine (contents_allowed (layout_of k) at (contents_of x k)) ≡ allowed_section x k)
    (λ k e at. contents_same (layout_of k) at (contents_of x k) ∙ e) numbers (ranges_are x)

-- each section in its turn
turns_same : (ks : List ℕ) (at : ℕ) (c : Command)
    → Each (λ k. (at : ℕ) → is_fine (contents_allowed (layout_of k) at (contents_of c.settings k)) ≡ allowed_section c.settings k) ks
    → Each (λ k. are_zero (contents_of c.settings k) ≡ zero_section c.settings k) ks
    → is_fine (sections_allowed ks at c) ≡ every (in_turn c) ks
unfolding sections_allowed every
turns_same [] at c a z = refl
turns_same (k ∷ ks) at c a z =
    let cs = contents_of c.settings k in
    by_test (names c k)
    (λ (n : names c k ≡ true).
    let p = at + length (section_text c k) in
    rw n (fine_then (contents_allowed (layout_of k) at cs) (sections_allowed ks p c) ∙ ap₂ ◌&&◌ (a.0 at) (turns_same ks p c a.1 z.1)))
    (λ (n : names c k ≡ false).
    rw n
    (fine_then (must (are_zero cs) Disagree at) (sections_allowed ks at c)
    ∙ ap₂ ◌&&◌ (fine-must (are_zero cs) Disagree at ∙ z.0) (turns_same ks at c a.1 z.1)))

-- ---- The head

-- 0 or 1
pub low_same : (v : ℕ) → leb v 1 ≡ zero_or_one v
low_same v =
    by_eq v 0 (λ (h : v ≡ 0). rw h)
    (λ (h : v ≡ 0 → ⊥).
    by_eq v 1 (λ (g : v ≡ 1). rw g)
    (λ (g : v ≡ 1 → ⊥). rw (ne_eqb v 0 h, ne_eqb v 1 g) (lt-leb v 1 (omega arith))))

flags-same : (at : ℕ) (fs : List ℕ) → is_fine (flags_allowed at fs) ≡ every allowed_flag fs
unfolding flags_allowed every
flags-same at [] = refl
flags-same at (v ∷ fs) =
    fine_then (must (flag_allowed v) NotAllowed at) (flags_allowed (at + 1) fs)
    ∙ ap₂ ◌&&◌ (fine-must (flag_allowed v) NotAllowed at ∙ ap (λ (t : Bool). t || eqb v 9) (low_same v)) (flags-same (at + 1) fs)

-- an indicator v of section k by the layout: 0 or its own number, if there is such a section
abbrev pub indicated : ℕ → ℕ → Bool
indicated k v = eqb v 0 || (not (is_empty (layout_of k)) && eqb v k)

marks-same : (ks : List ℕ) (at : ℕ) (f : ℕ → ℕ) → is_fine (named_allowed ks at (map f ks)) ≡ every (λ k. indicated k (f k)) ks
unfolding named_allowed every
marks-same [] at f = refl
marks-same (k ∷ ks) at f =
    fine_then (must (indicated k (f k)) NotAllowed at) (named_allowed ks (at + 1) (map f ks))
    ∙ ap₂ ◌&&◌ (fine-must (indicated k (f k)) NotAllowed at) (marks-same ks (at + 1) f)

-- eight values one by one
pub eight-values : (vs : List ℕ) → length vs ≡ 8 → vs ≡ map (λ (k : ℕ). get_or vs (k - 2) 0) numbers
eight-values vs l = sym (take_all 8 vs (omega arith)) ∙ part_bytes 8 0 vs (omega arith)

indicators_same : (c : Command) → length c.named ≡ 8 → is_fine (named_allowed numbers 13 c.named) ≡ every (allowed_indicator c) numbers
unfolding layout_of table_of every
indicators_same c l =
    ap (λ (vs : List ℕ). is_fine (named_allowed numbers 13 vs)) (eight-values c.named l)
    ∙ marks-same numbers 13 (λ (k : ℕ). get_or c.named (k - 2) 0)

-- ---- The whole

-- a command's record is refused nowhere just where document 01's ranges allow it
pub allowed_same : (c : Command) → length c.named ≡ 8 → is_fine (command_allowed c) ≡ allowed_command c
unfolding command_allowed allowed_command
allowed_same c l =
    let flags = flags_allowed 5 c.settings.flags in
    let digit = leb c.downlink 2 in
    let named = named_allowed numbers 13 c.named in
    let marks = marks_allowed c in
    let sections = sections_allowed numbers 22 c in
    fine_then flags (must digit NotAllowed 12 and_then marks and_then sections)
    ∙ rw (fine_then (must digit NotAllowed 12) (marks and_then sections), fine_then marks sections, fine-must digit NotAllowed 12, fine_then named (must (eqb c.spare 0) Disagree 21), fine-must (eqb c.spare 0) Disagree 21)
    (rw (flags-same 5 c.settings.flags, indicators_same c l, turns_same numbers 22 c (sections_are c.settings) (zeros_are c.settings)) (simp and_assoc))
