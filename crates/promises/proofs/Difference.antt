-- Document 02, §5, as specs/Difference says it.
use mathlib.Core.Path.{◌≡◌, refl, sym, ap, ◌∙◌}
use mathlib.Core.Logic.{◌↔◌, ◌⊎◌, inl, inr}
use mathlib.Core.Bool.{Bool, true, false, ◌&&◌}
use mathlib.Core.List.{List, [], ◌∷◌, ◌++◌}
use Prim.Native.Nat.{ℕ, zero, suc, ◌+◌, ◌-◌, ◌<◌, ◌≤◌}
use native.Mathlib.Omega.{arith}
use lib.ListN.{length, get_or, drop, replicate, length-append, length-replicate, get_or-append}
use borrow.Author.Tests.{le-leb, lt-leb}
use Rattle.text.specs.Bytes.{bytes}
use Rattle.text.specs.Over.{over}
use Rattle.text.proofs.Cases.{by_test, both_left, both_right}
use Rattle.text.specs.Equal.{same_bytes}
use Rattle.field.specs.Decimal.{all_digits, value_from, digits_before}
use Rattle.field.specs.Fields.{check_digits, check_delimiter}
use Rattle.lists.specs.Lists.{boxes_at, airfields_at}
use Rattle.section.specs.Layout.{layout_of, table_of, check_items, items_size}
use Rattle.section.specs.Contents.{contents_at, contents_text}
use Rattle.settings.specs.Settings.{contents_of, fixed_hold, settings_from, regions_from, airports_from, enroute_from, ascent_from, hours_from}
use Rattle.settings.specs.Valid.{valid, reset}
use Rattle.settings.specs.declared.Settings.{Settings}
use Rattle.command.specs.Text.{is_named, check_each, check_awr04, check_head, check_from, check_command}
use Rattle.command.specs.Record.{section_text, sections_text, command_text}
use Rattle.command.specs.Sections.{is_one_of, place_from}
use Rattle.command.proofs.Accepted.{accepted}
use Rattle.config.specs.Config.{new_flags, apply_to, kept}
use Rattle.config.proofs.Valid.{applies_valid, reset-valid}
use Rattle.join.specs.Join.{no_change_text}
use Rattle.commute.specs.Commute.{sets, flag_of}
use Rattle.commute.proofs.Numbered.{each_of}
use Rattle.difference.specs.Difference.{flag_differs, section_differs, items, by_item, those, differing, set_by, between, answered, difference, left_by}
use Rattle.difference.specs.Same.{same_regions, same_contents}
use Rattle.difference.proofs.List.{each_item, flag_item, section_item, by_flag_lem, by_section, items_rise, those-same, those-most, those_rise, rising-at, at_one, one_at, those_are}
use Rattle.difference.proofs.Makes.{flag-differs, section-differs, sets-flag, names-section, sets-fewest, same_text, text, text-digit, text-names, text-sets, text-fine, makes, none_equal, none-no-change}
use Rattle.desk.specs.Numbers.{accepted as numbered}
use Rattle.desk.specs.Differences.{difference_numbers}
use Rattle.desk.specs.declared.HostDiffering.{HostDiffering}
use Rattle.promises.specs.Difference.{difference_answer, Declared, IsListed, ListOf, Makes, SetsFlag, SetsSection, CommandOf, Written, Refused, DifferencePromises}
use Rattle.promises.proofs.Codes.{accepted-fine, fine-accepted}
use Rattle.promises.proofs.Commute.{set_is}
use Rattle.promises.proofs.Configuration.{valid-zero, zero-valid, applied-zero, applied-digit}
use Rattle.promises.proofs.Join.{kept-is}
use Rattle.std.specs.Prelude.{Ok}

-- ---- The list

past_end : (js : List ℕ) (m n : ℕ) → length js ≤ n → get_or (js ++ replicate m 0) n 0 ≡ 0
past_end [] zero n h = refl
past_end [] (suc m) zero h = refl
past_end [] (suc m) (suc n) h = past_end [] m n (omega arith)
past_end (j ∷ js) m zero h = absurd (omega arith)
past_end (j ∷ js) m (suc n) h = past_end js m n (omega arith)

-- an answer that lists js
abbrev told : List ℕ → ℕ → HostDiffering
told js n = difference_numbers (Ok (answered js n))

module _ (js : List ℕ) (n : ℕ) where
  listed-one : (j : ℕ) → IsListed (told js n) j ↔ (is_one_of js j ≡ true)
  listed-one j = (
    λ l.
        let there : get_or js l.place 0 ≡ j = sym (get_or-append js (replicate (15 - length js) 0) 0 l.place l.below) ∙ l.there in
        ap (is_one_of js) (sym there) ∙ at_one js l.place l.below,
    λ o.
        let p = one_at js j o in
        record { place = p.place; below = p.below; there = get_or-append js (replicate (15 - length js) 0) 0 p.place p.below ∙ p.there },
  )

module _ (a b : Settings) where
  abbrev differs : ℕ → Bool
  differs = by_item (flag_differs a b) (section_differs a b)

  flag_one : (i : ℕ) → i < 7 → is_one_of (differing a b) (i + 1) ≡ flag_differs a b i
  unfolding differing
  flag_one i h = those_are differs items (i + 1) ∙ rw (flag_item i h) (by_flag_lem (flag_differs a b) (section_differs a b) i h)

  section-one : (k : ℕ) → 2 ≤ k → k ≤ 9 → is_one_of (differing a b) (k + 10) ≡ section_differs a b k
  unfolding differing
  section-one k lo hi = those_are differs items (k + 10) ∙ rw (section_item k lo hi) (by_section (flag_differs a b) (section_differs a b) k)

  module _ (n : ℕ) where
    abbrev r : HostDiffering
    r = told (differing a b) n

    -- an item is listed just where it differs
    flag-listed : (i : ℕ) → i < 7 → IsListed r (i + 1) ↔ (flag_differs a b i ≡ true)
    flag-listed i h =
        let one = listed-one (differing a b) n (i + 1) in
        (λ l. sym (flag_one i h) ∙ one.0 l, λ d. one.1 (flag_one i h ∙ d))

    section-listed : (k : ℕ) → 2 ≤ k → k ≤ 9 → IsListed r (k + 10) ↔ (section_differs a b k ≡ true)
    section-listed k lo hi =
        let one = listed-one (differing a b) n (k + 10) in
        (λ l. sym (section-one k lo hi) ∙ one.0 l, λ d. one.1 (section-one k lo hi ∙ d))

    few : length (differing a b) ≤ 15
    unfolding differing
    few = those-most differs items

    is_item : (j : ℕ) → is_one_of (differing a b) j ≡ true → is_one_of items j ≡ true
    unfolding differing
    is_item j o = both_left (is_one_of items j) (differs j) (sym (those_are differs items j) ∙ o)

    rise : (m k : ℕ) → m < k → k < length (differing a b) → get_or (differing a b) m 0 < get_or (differing a b) k 0
    unfolding differing
    rise m k l h = rising-at 1 (those differs items) m k (those_rise differs 1 items items_rise) l h

    list_of : ListOf a b r
    list_of =
        let js = differing a b in
        let none : List ℕ = replicate (15 - length js) 0 in
        record {
          flags =
              λ i h.
              let l = flag-listed i h in
              let d = flag-differs a b i in
              (λ x. d.0 (l.0 x), λ x. l.1 (d.1 x));
          sections =
              λ k lo hi.
              let l = section-listed k lo hi in
              let d = section-differs a b k in
              (λ x. d.0 (l.0 x), λ x. l.1 (d.1 x));
          others =
              λ j l.
              each_of (λ j. ((1 ≤ j) × (j ≤ 7)) ⊎ ((12 ≤ j) × (j ≤ 19))) items
              (each_item (λ j. ((1 ≤ j) × (j ≤ 7)) ⊎ ((12 ≤ j) × (j ≤ 19))) (λ i h. inl (omega arith, omega arith)) (λ k lo hi. inr (omega arith, omega arith)))
              j (is_item j ((listed-one js n j).0 l));
          order =
              λ m k l h.
              let p = get_or-append js none 0 m (omega arith) in
              let q = get_or-append js none 0 k h in
              omega (arith, rise m k l h, p, q);
          room = (few, omega (arith, few, length-append js none, length-replicate {A = ℕ} (15 - length js) 0));
          unused = λ k h. past_end js (15 - length js) k h;
        }

-- ---- The command

both_ways : (s t : Bool) → (s ≡ true → t ≡ true) → (t ≡ true → s ≡ true) → s ≡ t
both_ways true t f g = sym (f refl)
both_ways false true f g = g refl
both_ways false false f g = refl

empty-is : (js : List ℕ) → length js ≡ 0 → js ≡ []
empty-is [] e = refl
empty-is (j ∷ js) e = absurd (omega arith)

spelt_out : no_change_text ≡ bytes "AWR049999999000000000/"
unfolding no_change_text
spelt_out = refl

module _ (a b : Settings) (first : Declared a) (second : Declared b) (va : valid a ≡ true) (vb : valid b ≡ true) (n : ℕ) where
  abbrev c : List ℕ
  c = text a b

  abbrev ans : HostDiffering
  ans = told (differing a b) n

  fine : check_command c ≡ Ok tt
  fine = text-fine a b vb second

  done : apply_to a c ≡ b
  done = makes a b vb second first.flags

  -- what a command that makes the first into the second does
  acts : (s : List ℕ) → Makes a b s → apply_to a s ≡ b
  acts s m = sym (kept-is a s va (accepted-fine s m.fine)) ∙ m.leaves

  every-flag : (s : List ℕ) → Makes a b s → (i : ℕ) → i < 7 → flag_differs a b i ≡ true → sets (flag_of s i) ≡ true
  every-flag s m i h d = sets-flag a b s (accepted s (accepted-fine s m.fine)) (acts s m) first.flags i h d

  every-section : (s : List ℕ) → Makes a b s → (k : ℕ) → 2 ≤ k → k ≤ 9 → section_differs a b k ≡ true → is_named s k ≡ true
  every-section s m k lo hi d = names-section a b s (accepted s (accepted-fine s m.fine)) (acts s m) k lo hi d

  counted : length (those (set_by c) items) ≡ length (differing a b)
  unfolding differing
  counted =
      ap length
      (those-same (set_by c) (differs a b) items
      (each_item (λ j. set_by c j ≡ differs a b j)
      (λ i h. by_flag_lem (λ i. sets (flag_of c i)) (is_named c) i h ∙ text-sets a b vb i h ∙ sym (by_flag_lem (flag_differs a b) (section_differs a b) i h))
      (λ k lo hi. by_section (λ i. sets (flag_of c i)) (is_named c) k ∙ text-names a b k lo hi ∙ sym (by_section (flag_differs a b) (section_differs a b) k))))

  only : (s : List ℕ) → Makes a b s → ((i : ℕ) → i < 7 → SetsFlag s i → IsListed ans (i + 1))
      → ((k : ℕ) → 2 ≤ k → k ≤ 9 → SetsSection s k → IsListed ans (k + 10)) → get_or s 12 0 ≡ 48 → s ≡ c
  only s m f g d =
      same_text a b s c (accepted s (accepted-fine s m.fine)) (accepted c fine) (acts s m) done first.flags
      (λ i h.
      both_ways (sets (flag_of s i)) (flag_differs a b i)
      (λ t. (flag-listed a b n i h).0 (f i h ((set_is (flag_of s i)).0 t)))
      (every-flag s m i h)
      ∙ sym (text-sets a b vb i h))
      (λ k lo hi.
      both_ways (is_named s k) (section_differs a b k) (λ t. (section-listed a b n k lo hi).0 (g k lo hi t)) (every-section s m k lo hi)
      ∙ sym (text-names a b k lo hi))
      (d ∙ sym (text-digit a b))

  command-of : CommandOf a b ans c
  command-of =
      let zero = (applied-zero a c).1 (va, fine) in
      let none = none_equal a b vb second first.flags in
      let plain = none-no-change a b vb second first.flags in
      record {
        makes = record { fine = fine-accepted c fine; leaves = kept-is a c va fine ∙ done };
        applied = zero;
        flags =
            λ i h.
            let l = flag-listed a b n i h in
            let s = text-sets a b vb i h in
            (λ x. l.1 (sym s ∙ (set_is (flag_of c i)).1 x), λ x. (set_is (flag_of c i)).0 (s ∙ l.0 x));
        sections =
            λ k lo hi.
            let l = section-listed a b n k lo hi in
            let s = text-names a b k lo hi in
            (λ x. l.1 (sym s ∙ x), λ x. s ∙ l.0 x);
        downlink = (text-digit a b, applied-digit a c zero ∙ rw (text-digit a b));
        every-flag = λ s m i h l. (set_is (flag_of s i)).0 (every-flag s m i h ((flag-listed a b n i h).0 l));
        every-section = λ s m k lo hi l. every-section s m k lo hi ((section-listed a b n k lo hi).0 l);
        fewest = λ s m. sets-fewest a b s (accepted s (accepted-fine s m.fine)) (acts s m) first.flags;
        count = counted;
        only = only;
        equal = (λ e. ap length (none.1 e), λ e. none.0 (empty-is (differing a b) e));
        no_change = (λ e. plain.0 (none.1 e) ∙ spelt_out, λ e. none.0 (plain.1 (e ∙ sym spelt_out)));
      }

-- ---- The answer

module _ (a b : Settings) (out : List ℕ) where
  twelve : (valid a && valid b) ≡ false → Refused a b out 12
  unfolding difference left_by
  twelve e = record { answer = rw e; buffer = rw e }

  module _ (ok : (valid a && valid b) ≡ true) where
    two : length out < length (text a b) → Refused a b out 2
    unfolding difference left_by
    two h = let t = lt-leb (length (text a b)) (length out) h in record { answer = rw (ok, t); buffer = rw (ok, t) }

    module _ (h : length (text a b) ≤ length out) where
      answer-is : difference_answer a b out ≡ told (differing a b) (length (text a b))
      unfolding difference
      answer-is = rw (ok, le-leb (length (text a b)) (length out) h)

      buffer-is : left_by a b out ≡ text a b ++ drop (length (text a b)) out
      unfolding left_by over
      buffer-is = let z : 0 + length (text a b) ≡ length (text a b) = omega arith in rw (ok, le-leb (length (text a b)) (length out) h, z)

      written : Declared a → Declared b → Written a b out (text a b)
      written first second =
          let va = both_left (valid a) (valid b) ok in
          let vb = both_right (valid a) (valid b) ok in
          record {
            answer = ap (λ (r : HostDiffering). r.answer) answer-is;
            buffer = buffer-is;
            list = rw answer-is (list_of a b (length (text a b)));
            command = rw answer-is (command-of a b first second va vb (length (text a b)));
          }

-- ---- A printed pair

abbrev sent : List ℕ
sent = bytes "AWR040999999200000009/2301/"

sent-fine : check_command sent ≡ Ok tt
unfolding check_command check_head check_awr04 same_bytes check_each check_delimiter check_from layout_of table_of check_items check_digits all_digits value_from
sent-fine = refl

abbrev made : Settings
made = apply_to reset sent

printed-list : differing reset made ≡ 1 ∷ 19 ∷ []
unfolding differing those reset apply_to settings_from contents_of fixed_hold regions_from airports_from enroute_from ascent_from hours_from new_flags same_contents same_regions same_bytes contents_at layout_of table_of items_size place_from boxes_at airfields_at value_from
printed-list = refl

printed-text : text reset made ≡ bytes "AWR040999999000000009/2301/"
unfolding command_text between sections_text section_text contents_text digits_before reset apply_to settings_from contents_of fixed_hold regions_from airports_from enroute_from ascent_from hours_from new_flags same_contents same_regions same_bytes contents_at layout_of table_of items_size place_from boxes_at airfields_at value_from
printed-text = refl

printed : (out : List ℕ) → 27 ≤ length out
    → (difference_answer reset (kept reset sent) out ≡ record { answer = numbered 27; count = 2; items = 1 ∷ 19 ∷ replicate 13 0 })
    × (left_by reset (kept reset sent) out ≡ bytes "AWR040999999000000009/2301/" ++ drop 27 out)
printed out h =
    let x = kept-is reset sent reset-valid sent-fine in
    let ok : (valid reset && valid made) ≡ true = rw reset-valid (applies_valid reset sent reset-valid sent-fine) in
    let room : length (text reset made) ≤ length out = rw printed-text h in
    rw x
    (answer-is reset made out ok room ∙ rw (printed-list, printed-text), buffer-is reset made out ok room ∙ rw printed-text)

pub difference_promises : DifferencePromises
difference_promises =
    record {
      twelve =
          λ a b out n.
          by_test (valid a && valid b)
          (λ ok. absurd (n (zero-valid (valid a) (both_left (valid a) (valid b) ok), zero-valid (valid b) (both_right (valid a) (valid b) ok))))
          (λ no. twelve a b out no);
      answers =
          λ a b first second x y.
          let ok : (valid a && valid b) ≡ true = rw (valid-zero (valid a) x) (valid-zero (valid b) y) in
          record {
            command = text a b;
            written = λ out h. written a b out ok h first second;
            two = λ out h. two a b out ok h;
          };
      printed = printed;
    }
