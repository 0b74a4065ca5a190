-- The command's record: what it sets is what differs, and it is within its limits where the second configuration is valid.
use mathlib.Core.Path.{◌≡◌, refl, sym, ap, ◌∙◌}
use mathlib.Core.Bool.{Bool, true, false, cond, ◌||◌, not}
use mathlib.Core.List.{List, [], ◌∷◌, map}
use Prim.Native.Nat.{ℕ, zero, suc, ◌+◌, ◌-◌, ◌≤◌, ◌<◌}
use native.Mathlib.Omega.{arith}
use lib.Dec.{leb, eqb}
use lib.ListN.{get_or}
use borrow.Author.Tests.{eq-eqb, ne_eqb, lt-ltb, le-ltb, le-leb, leb-true}
use Rattle.text.specs.Checks.{is_fine}
use Rattle.text.specs.Table.{values}
use Rattle.text.proofs.Cases.{by_lt, both_left, both_right}
use Rattle.text.proofs.Checks.{fine-is}
use Rattle.text.proofs.Table.{at}
use Rattle.section.specs.Layout.{numbers, layout_of, table_of, is_empty}
use Rattle.section.specs.Contents.{Content, contents_allowed}
use Rattle.settings.specs.Settings.{contents_of, fixed_hold, settings_from, regions_from, airports_from, enroute_from, ascent_from, hours_from}
use Rattle.settings.specs.Valid.{are_zero, flags_valid, sections_valid, valid}
use Rattle.settings.specs.declared.Settings.{Settings}
use Rattle.command.specs.Allowed.{every, zero_or_one, allowed_section, allowed_settings}
use Rattle.command.specs.Record.{flag_allowed, flags_allowed, named_allowed, command_allowed, names}
use Rattle.command.proofs.Each.{Each, each_map, each_with}
use Rattle.command.proofs.Allowed.{sections_are}
use Rattle.command_write.proofs.ReadBack.{Good, sections-fine, unread_zero}
use Rattle.config.proofs.Allowed.{valid_same}
use Rattle.config.proofs.Apply.{settings-same}
use Rattle.commute.specs.Commute.{flag_numbers}
use Rattle.commute.proofs.Numbered.{of_number, each_number}
use Rattle.difference.specs.Difference.{flag_differs, section_differs, by_item, those, differing, between}
use Rattle.difference.specs.Inner.{item_at, set_at, set_items, held_if, marked}
use Rattle.std.specs.Prelude.{Ok}

-- ---- By flag and by section

-- what is listed for each flag, at flag i
pub flag_at : (f : ℕ → ℕ) (i : ℕ) → i < 7 → get_or (map f flag_numbers) i 0 ≡ f i
flag_at f i h = at f 7 i h

-- what is listed for each section, at section k
pub mark-at : (g : ℕ → ℕ) (k : ℕ) → 2 ≤ k → k ≤ 9 → get_or (map g numbers) (k - 2) 0 ≡ g k
mark-at g k lo hi =
    let back : k - 2 + 2 ≡ k = omega arith in
    at (λ (i : ℕ). g (i + 2)) 8 (k - 2) (omega arith) ∙ ap g back

pub own_is : (k : ℕ) (t : Bool) → 1 ≤ k → eqb (cond t k 0) k ≡ t
own_is k true h = eq-eqb k k refl
own_is k false h = ne_eqb 0 k (λ (e : 0 ≡ k). omega arith)

some_is : (k : ℕ) (t : Bool) → 1 ≤ k → not (eqb (cond t k 0) 0) ≡ t
some_is k true h = rw (ne_eqb k 0 (λ (e : k ≡ 0). omega arith))
some_is k false h = refl

pub set_is : (v : ℕ) (t : Bool) → v ≤ 1 → not (eqb (cond t v 9) 9) ≡ t
set_is v true h = rw (ne_eqb v 9 (λ (e : v ≡ 9). omega arith))
set_is v false h = refl

-- a valid flag is 0 or 1
pub valid-flag : (fs : List ℕ) → flags_valid fs ≡ true → (i : ℕ) → get_or fs i 0 ≤ 1
unfolding flags_valid
valid-flag [] e i = omega arith
valid-flag (v ∷ fs) e zero = leb-true v 1 (both_left (leb v 1) (flags_valid fs) e)
valid-flag (v ∷ fs) e (suc i) = valid-flag fs (both_right (leb v 1) (flags_valid fs) e) i

-- ---- The list

-- the items that are set are those that pass a test, where each is set just where it passes
items-set : (test : ℕ → Bool) (flags named : List ℕ) (i n : ℕ) → ((j : ℕ) → j < i + n → set_at flags named j ≡ test (item_at j))
    → set_items flags named i n ≡ those test (values item_at i n)
unfolding set_items those
items-set test flags named i zero h = refl
items-set test flags named i (suc n) h =
    let rest = items-set test flags named (suc i) n (λ j l. h j (omega arith)) in
    rw (h i (omega arith), rest)

-- ---- Digits of the head

-- flags that are each allowed
each-flag : (f : ℕ → ℕ) → ((i : ℕ) → flag_allowed (f i) ≡ true) → (is : List ℕ) (place : ℕ) → flags_allowed place (map f is) ≡ (Ok tt)
unfolding flags_allowed
each-flag f h [] place = refl
each-flag f h (i ∷ is) place = rw (h i) (each-flag f h is (place + 1))

or-nine : (t : Bool) (v : ℕ) → v ≤ 1 → flag_allowed (cond t v 9) ≡ true
or-nine true v h = rw (le-leb v 1 h)
or-nine false v h = refl

-- the section's own number or 0
own-or : (t : Bool) (k : ℕ) → (eqb (cond t k 0) 0 || eqb (cond t k 0) k) ≡ true
own-or true k = rw (eq-eqb k k refl) (or-true (eqb k 0))
  where
    or-true : (t : Bool) → (t || true) ≡ true
    or-true true = refl
    or-true false = refl
own-or false k = refl

named-fine : (g : ℕ → ℕ) → ((k : ℕ) → is_empty (layout_of k) ≡ false → (eqb (g k) 0 || eqb (g k) k) ≡ true) → (ks : List ℕ) (place : ℕ)
    → Each (λ k. is_empty (layout_of k) ≡ false) ks → named_allowed ks place (map g ks) ≡ (Ok tt)
unfolding named_allowed
named-fine g h [] place e = refl
named-fine g h (k ∷ ks) place e = rw (e.0, h k e.0) (named-fine g h ks (place + 1) e.1)

-- each number has its section
sections-there : Each (λ k. is_empty (layout_of k) ≡ false) numbers
unfolding layout_of table_of
sections-there = (refl, (refl, (refl, (refl, (refl, (refl, (refl, (refl, tt))))))))

allowed-each : (x : Settings) → valid x ≡ true → Each (λ k. allowed_section x k ≡ true) numbers
unfolding allowed_settings every
allowed-each x ok =
    each-every (allowed_section x) numbers
    (both_right (every zero_or_one x.flags) (every (allowed_section x) numbers) (sym (valid_same x) ∙ ok))
  where
    each-every : (test : ℕ → Bool) (ks : List ℕ) → every test ks ≡ true → Each (λ k. test k ≡ true) ks
    each-every test [] e = tt
    each-every test (k ∷ ks) e = (both_left (test k) (every test ks) e, each-every test ks (both_right (test k) (every test ks) e))

module _ (a b : Settings) where
  abbrev pub flags_to : List ℕ
  flags_to = map (λ (i : ℕ). cond (flag_differs a b i) (get_or b.flags i 0) 9) flag_numbers

  abbrev pub marks : List ℕ
  marks = map (λ (k : ℕ). cond (section_differs a b k) k 0) numbers

  abbrev pub held_to : ℕ → List Content
  held_to k = cond (section_differs a b k) (contents_of b k) []

  -- section k is named just where it differs
  pub marks_differ : (k : ℕ) → 2 ≤ k → k ≤ 9 → marked marks k ≡ section_differs a b k
  marks_differ k lo hi = rw (mark-at (λ (i : ℕ). cond (section_differs a b i) i 0) k lo hi) (own_is k (section_differs a b k) (omega arith))

  -- so the sections that are named are those that differ
  pub settings-marked : settings_from flags_to (λ (k : ℕ). held_if (marked marks k) (contents_of b k)) ≡ (between a b).settings
  unfolding between
  settings-marked =
      settings-same flags_to (λ (k : ℕ). held_if (marked marks k) (contents_of b k)) held_to
      (each_number (λ k. held_if (marked marks k) (contents_of b k) ≡ held_to k) (λ k lo hi. rw (marks_differ k lo hi)))

  -- a section that differs is the second's
  pub held_back : Each (λ k. section_differs a b k ≡ true → contents_of (between a b).settings k ≡ contents_of b k) numbers
  unfolding between contents_of fixed_hold settings_from regions_from airports_from enroute_from ascent_from hours_from
  held_back = (λ e. rw e, (λ e. rw e, (λ e. rw e, (λ e. rw e, (λ e. rw e, (λ e. rw e, (λ e. rw e, (λ e. rw e, tt))))))))

  -- any other is nothing: zero
  unset_zero : Each (λ k. section_differs a b k ≡ false → are_zero (contents_of (between a b).settings k) ≡ true) numbers
  unfolding between
  unset_zero =
      each_map (λ k. held_to k ≡ [] → are_zero (contents_of (settings_from flags_to held_to) k) ≡ true)
      (λ k. section_differs a b k ≡ false → are_zero (contents_of (settings_from flags_to held_to) k) ≡ true) (λ k f e. f (rw e)) numbers
      (unread_zero flags_to held_to)

  names_differ : (k : ℕ) → 2 ≤ k → k ≤ 9 → names (between a b) k ≡ section_differs a b k
  unfolding between
  names_differ k lo hi = marks_differ k lo hi

  marks-fine : named_allowed numbers 13 (between a b).named ≡ (Ok tt)
  unfolding between
  marks-fine = named-fine (λ k. cond (section_differs a b k) k 0) (λ k h. own-or (section_differs a b k) k) numbers 13 sections-there

  module _ (ok : valid b ≡ true) where
    flags-ok : flags_valid b.flags ≡ true
    unfolding valid
    flags-ok = both_left (flags_valid b.flags) (sections_valid numbers b) ok

    set-differs : (j : ℕ) → j < 15 → set_at flags_to marks j ≡ by_item (flag_differs a b) (section_differs a b) (item_at j)
    set-differs j h =
        by_lt j 7
        (λ (l : j < 7).
        let one : j + 1 - 1 ≡ j = omega arith in
        let e = flag_at (λ (i : ℕ). cond (flag_differs a b i) (get_or b.flags i 0) 9) j l in
        rw (lt-ltb j 7 l, lt-ltb (j + 1) 10 (omega arith), e, one) (set_is (get_or b.flags j 0) (flag_differs a b j) (valid-flag b.flags flags-ok j)))
        (λ (l : 7 ≤ j).
        let k : j + 5 - 10 ≡ j - 7 + 2 = omega arith in
        let back : j - 7 + 2 - 2 ≡ j - 7 = omega arith in
        let e = mark-at (λ (i : ℕ). cond (section_differs a b i) i 0) (j - 7 + 2) (omega arith) (omega arith) in
        let f : get_or marks (j - 7) 0 ≡ cond (section_differs a b (j - 7 + 2)) (j - 7 + 2) 0 = ap (λ (n : ℕ). get_or marks n 0) (sym back) ∙ e in
        rw (le-ltb j 7 l, le-ltb (j + 5) 10 (omega arith), f, k) (some_is (j - 7 + 2) (section_differs a b (j - 7 + 2)) (omega arith)))

    -- the list read off the command's record is the list of what differs
    pub listed-differs : set_items (between a b).settings.flags (between a b).named 0 15 ≡ differing a b
    unfolding between settings_from differing
    listed-differs = items-set (by_item (flag_differs a b) (section_differs a b)) flags_to marks 0 15 (λ j h. set-differs j h)

    -- ---- Within its limits

    flags-fine : flags_allowed 5 (between a b).settings.flags ≡ (Ok tt)
    unfolding between settings_from
    flags-fine =
        each-flag (λ (i : ℕ). cond (flag_differs a b i) (get_or b.flags i 0) 9)
        (λ i. or-nine (flag_differs a b i) (get_or b.flags i 0) (valid-flag b.flags flags-ok i)) flag_numbers 5

    section-ok : Each (λ k. (place : ℕ) → contents_allowed (layout_of k) place (contents_of b k) ≡ (Ok tt)) numbers
    section-ok =
        each_with (λ k. (place : ℕ) → is_fine (contents_allowed (layout_of k) place (contents_of b k)) ≡ allowed_section b k)
        (λ k. allowed_section b k ≡ true) (λ k. (place : ℕ) → contents_allowed (layout_of k) place (contents_of b k) ≡ (Ok tt))
        (λ k e t place. fine-is (contents_allowed (layout_of k) place (contents_of b k)) (e place ∙ t)) numbers (sections_are b) (allowed-each b ok)

    good : Each (Good (between a b)) numbers
    good =
        each_number (Good (between a b))
        (λ k lo hi.
        let m : names (between a b) k ≡ section_differs a b k = names_differ k lo hi in
        record {
          allowed = λ n place. rw (of_number (λ j. section_differs a b j ≡ true → contents_of (between a b).settings j ≡ contents_of b j) held_back k lo hi (sym m ∙ n)) (of_number (λ j. (q : ℕ) → contents_allowed (layout_of j) q (contents_of b j) ≡ (Ok tt)) section-ok k lo hi place);
          unused = λ n. of_number (λ j. section_differs a b j ≡ false → are_zero (contents_of (between a b).settings j) ≡ true) unset_zero k lo hi (sym m ∙ n);
        })

    -- the record is refused nowhere
    pub between-allowed : command_allowed (between a b) ≡ (Ok tt)
    unfolding command_allowed between
    between-allowed =
        rw (flags-fine, marks-fine) (sections-fine numbers 22 (between a b) good)
