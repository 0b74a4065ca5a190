-- The promises of one section, kept.
use mathlib.Core.Path.{◌≡◌, refl, sym, ap, ◌∙◌}
use mathlib.Core.Bool.{true, false}
use mathlib.Core.List.{List, [], ◌∷◌, ◌++◌}
use Prim.Native.Nat.{ℕ, ◌+◌, ◌≤◌, ◌<◌}
use native.Mathlib.Omega.{arith}
use lib.Dec.{leb}
use lib.ListN.{length}
use borrow.Author.Tests.{le-leb, lt-leb, leb-true}
use Rattle.text.specs.Names.{between}
use Rattle.text.specs.Parts.{part}
use Rattle.text.proofs.Cases.{by_test, both_left, both_right}
use Rattle.section.specs.Layout.{Item, layout_of, items_size, Accepted}
use Rattle.section.specs.Contents.{contents_at}
use Rattle.section.proofs.Local.{items-some}
use Rattle.section.proofs.Own.{cut_length, cut_contents}
use Rattle.command.specs.Text.{check_head, is_named, longest, check_command}
use Rattle.command.specs.Sections.{place_of}
use Rattle.finder.specs.declared.Part.{Part}
use Rattle.text.specs.Codes.{number_of}
use Rattle.text.specs.declared.Refusal.{Refusal}
use Rattle.text.specs.declared.Code.TheVariants.{WrongEnd}
use Rattle.finder.specs.Finding.{part_at, find_section}
use Rattle.finder.specs.Words.{count_seen, behind, CountsFine, OnTheWay}
use Rattle.finder.proofs.Codes.{refused-coded}
use Rattle.finder.proofs.Finds.{found-accepted, place-accepted, last-accepted, number-between, part-inside}
use Rattle.finder.proofs.Words.{whole-found, way_refused, count-passed, past-passed, bare-passed}
use Rattle.desk.specs.Numbers.{answer_of}
use Rattle.desk.specs.Parts.{part_numbers}
use Rattle.promises.specs.BoardRuns.{IsAccepted}
use Rattle.promises.specs.Command.{check}
use Rattle.promises.specs.Part.{told, given, refusal, nothing, IsSection, SameSection, PartPromises}
use Rattle.promises.proofs.Codes.{accepted-fine}
use Rattle.std.specs.Prelude.{Result, Ok, Err}
use Rattle.text.specs.Checks.{refuse}
use Rattle.text.specs.declared.Code.{Code}

-- ---- Accepted texts

module _ (k : ℕ) (s : List ℕ) (b : between 2 9 k ≡ true) (f : check_command s ≡ (Ok tt)) where
  abbrev at : ℕ
  at = place_of s k

  abbrev size : ℕ
  size = items_size (layout_of k) s at

  same-named : is_named s k ≡ true → SameSection k s
  same-named n =
      let e : find_section k s ≡ Ok (part_at at size) = found-accepted k s b f ∙ rw n in
      let a : Accepted k s at = place-accepted k s b f n in
      let bytes : given k s ≡ part at size s = rw e in
      record {
        code = rw e;
        own = bytes ∙ rw n;
        none = (
          λ z.
              let l = cut_length (layout_of k) s at (at + size) a in
              let m = ap length (sym bytes ∙ z) in
              absurd (omega (arith, items-some (layout_of k) s at)),
          λ z. let y : ◌≡◌ {A = ℕ} 0 1 = cc in absurd (omega arith),
        );
        stands = λ m. rw e;
        holds = λ m. ap (λ (t : List ℕ). contents_at (layout_of k) t 0) bytes ∙ sym (cut_contents (layout_of k) s at (at + size) a) ∙ rw n;
        delimiter = λ m. rw e (last-accepted k s b f n);
      }

  same-unnamed : is_named s k ≡ false → SameSection k s
  same-unnamed n =
      let e : find_section k s ≡ Ok (part_at 0 0) = found-accepted k s b f ∙ rw n in
      let bytes : given k s ≡ [] = rw e in
      record {
        code = rw e;
        own = bytes ∙ rw n;
        none = (λ z. n, λ z. bytes);
        stands = λ m. let y : ◌≡◌ {A = ℕ} 0 1 = cc in absurd (omega arith);
        holds = λ m. let y : ◌≡◌ {A = ℕ} 0 1 = cc in absurd (omega arith);
        delimiter = λ m. let y : ◌≡◌ {A = ℕ} 0 1 = cc in absurd (omega arith);
      }

same : (k : ℕ) (s : List ℕ) → IsSection k → IsAccepted s → SameSection k s
same k s i a =
    let b = number-between k i.0 i.1 in
    let f = accepted-fine s a in
    by_test (is_named s k) (same-named k s b f) (same-unnamed k s b f)

-- ---- Before any section

number : (k : ℕ) (s : List ℕ) → ¬ IsSection k → told k s ≡ refusal 5 0
unfolding find_section
number k s n =
    by_test (between 2 9 k)
    (λ (b : between 2 9 k ≡ true). absurd (n (leb-true 2 k (both_left (leb 2 k) (leb k 9) b), leb-true k 9 (both_right (leb 2 k) (leb k 9) b))))
    (λ (b : between 2 9 k ≡ false). rw b)

module _ (k : ℕ) (s : List ℕ) (i : IsSection k) where
  long : longest < length s → told k s ≡ refusal 1 0
  unfolding find_section
  long h = rw (number-between k i.0 i.1, lt-leb (length s) longest h)

  header : (code : Code) (place : ℕ) → length s ≤ longest → check_head s ≡ refuse code place
      → (told k s ≡ refusal (number_of code) place) × (check s ≡ answer_of (number_of code) place)
  unfolding find_section check_command
  header code place h e =
      (rw (number-between k i.0 i.1, le-leb (length s) longest h, e), rw (le-leb (length s) longest h, e))

  unnamed : length s ≤ longest → check_head s ≡ Ok 22 → is_named s k ≡ false → told k s ≡ nothing
  unfolding find_section
  unnamed h e n = rw (number-between k i.0 i.1, le-leb (length s) longest h, e, n)

-- ---- On the way

module _ (h k : ℕ) (s : List ℕ) (o : OnTheWay h k s) where
  abbrev start : ℕ
  start = place_of s h

  count : (is rest : List Item) (i : Item) (code : Code) (place : ℕ) → layout_of h ≡ is ++ (i ∷ rest) → CountsFine is s start
      → behind is s start ≤ length s → count_seen i s (behind is s start) ≡ refuse code place → told k s ≡ refusal (number_of code) place
  count is rest i code place split fine l e =
      ap part_numbers (way_refused h k s (record { code = code; place = place }) o (count-passed h s start is (i ∷ rest) split fine i rest (record { code = code; place = place }) refl l e))

  past : (is js : List Item) → layout_of h ≡ is ++ js → CountsFine is s start → length s < behind is s start → told k s ≡ refusal 8 start
  past is js split fine l = ap part_numbers (way_refused h k s (record { code = WrongEnd; place = start }) o (past-passed h s start is js split fine l))

  no-delimiter : CountsFine (layout_of h) s start → behind (layout_of h) s start ≡ length s → told k s ≡ refusal 8 start
  no-delimiter fine e = ap part_numbers (way_refused h k s (record { code = WrongEnd; place = start }) o (bare-passed h s start fine e))

-- ---- Every text

empty : (k : ℕ) (s : List ℕ) → ¬ ((told k s).code ≡ 0) → ((told k s).length ≡ 0) × (given k s ≡ [])
empty k s n = go (find_section k s) n
  where
    go : (x : Result Part Refusal) → ¬ ((part_numbers x).code ≡ 0)
        → ((part_numbers x).length ≡ 0) × (part (part_numbers x).place (part_numbers x).length s ≡ [])
    go (Ok p) m = absurd (m refl)
    go (Err r) m = (refl, refl)

inside : (k : ℕ) (s : List ℕ) → (told k s).code ≡ 0 → (told k s).place + (told k s).length ≤ length s
inside k s e = go (find_section k s) refl e
  where
    go : (x : Result Part Refusal) → find_section k s ≡ x → (part_numbers x).code ≡ 0 → (part_numbers x).place + (part_numbers x).length ≤ length s
    go (Ok p) f z = part-inside k s p f
    go (Err r) f z = let c = refused-coded k s r f in absurd (omega arith)

-- ---- All of it

pub part_promises : PartPromises
part_promises =
    record {
      same = same;
      number = number;
      long = long;
      header = λ k s code place i. header k s i code place;
      unnamed = unnamed;
      count = λ h k s is rest i code place o. count h k s o is rest i code place;
      past = λ h k s is js o. past h k s o is js;
      no-delimiter = no-delimiter;
      found = λ k s a w x. ap part_numbers (whole-found k s a w x);
      empty = empty;
      inside = inside;
    }
