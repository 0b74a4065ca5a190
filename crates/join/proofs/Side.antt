-- The join by the places of the sections: each section's bytes stand between two places, and one after the other they are the join.
use mathlib.Core.Path.{◌≡◌, refl, sym, ap, ◌∙◌}
use mathlib.Core.Bool.{true, false, cond}
use mathlib.Core.List.{List, [], ◌∷◌, ◌++◌, append_assoc}
use Prim.Native.Nat.{ℕ, zero, suc, ◌+◌, ◌-◌, ◌≤◌, ◌<◌}
use native.Mathlib.Omega.{arith}
use native.Mathlib.Numerals.{add-one}
use lib.Dec.{eqb, leb}
use lib.ListN.{length, get_or, drop, length-append, length-drop, drop_of_length-le}
use lib.Seq.{length-take-le, drop-cons}
use borrow.Author.Tests.{le-leb}
use Rattle.text.specs.Over.{over}
use Rattle.text.specs.Parts.{part}
use Rattle.text.proofs.Cases.{by_test}
use Rattle.field.proofs.Local.{after-cases}
use Rattle.section.specs.Layout.{numbers, layout_of, check_section, items_size}
use Rattle.section.proofs.Own.{cut_end, cut_inside}
use Rattle.command.specs.Text.{is_named, check_from, longest, check_command}
use Rattle.command.specs.Sections.{past, place_from, place_of, bytes_of}
use Rattle.command.proofs.Accepted.{accepted}
use Rattle.command.proofs.Checking.{numbers-next}
use Rattle.join.specs.Join.{choose, join_section, join_sections, join_text}
use Rattle.join.specs.declared.walked.Walked.{Walked}
use Rattle.join.specs.Inner.{IsWalked, join_front, join_back, join_head}
use Rattle.join.proofs.Laws.{join-short}
use Rattle.std.specs.Prelude.{Ok}

-- a text that `copy` wrote, where it has room
pub copied : (d zs t u : List ℕ) → zs ≡ cond (leb (length u) (length d)) (over d 0 u) d → u ≡ t → length t ≤ length d → zs ≡ over d 0 t
copied d zs t u wrote same room = wrote ∙ rw (same, le-leb (length t) (length d) room)

-- ---- Where a section ends

-- the next section stands where this one ends
place-next : (s : List ℕ) (k : ℕ) → 2 ≤ k → k < 10 → place_of s (k + 1) ≡ past s k (place_of s k)
unfolding place_from
place-next s zero lo hi = absurd (omega arith)
place-next s (suc zero) lo hi = absurd (omega arith)
place-next s (suc (suc zero)) lo hi = refl
place-next s (suc (suc (suc zero))) lo hi = refl
place-next s (suc (suc (suc (suc zero)))) lo hi = refl
place-next s (suc (suc (suc (suc (suc zero))))) lo hi = refl
place-next s (suc (suc (suc (suc (suc (suc zero)))))) lo hi = refl
place-next s (suc (suc (suc (suc (suc (suc (suc zero))))))) lo hi = refl
place-next s (suc (suc (suc (suc (suc (suc (suc (suc zero)))))))) lo hi = refl
place-next s (suc (suc (suc (suc (suc (suc (suc (suc (suc zero))))))))) lo hi = refl
place-next s (suc (suc (suc (suc (suc (suc (suc (suc (suc (suc k)))))))))) lo hi = absurd (omega arith)

-- every place lies in the text
place_inside : (ks s : List ℕ) (at p j : ℕ) → at ≤ length s → check_from ks s at ≡ Ok p → place_from ks s at j ≤ length s
unfolding place_from check_from
place_inside [] s at p j h e = h
place_inside (k ∷ ks) s at p j h e =
    by_test (eqb j k)
    (λ (y : eqb j k ≡ true). rw y h)
    (λ (y : eqb j k ≡ false).
    by_test (is_named s k)
    (λ (n : is_named s k ≡ true).
    after-cases (check_section k s at) (check_from ks s) p (rw n at e)
    (λ q (c : check_section k s at ≡ Ok q) (d : check_from ks s q ≡ Ok p).
    rw (y, n)
    (place_inside ks s (at + items_size (layout_of k) s at) p j (cut_inside (layout_of k) s at q c) (rw (cut_end (layout_of k) s at q c) at d))))
    (λ (n : is_named s k ≡ false). rw (y, n) (place_inside ks s at p j h (rw n at e))))

-- section k of a text that was walked: its bytes stand between its place and the next
pub record Between (s places : List ℕ) (k : ℕ) : Type 0 where
  pub ordered : get_or places k 0 ≤ get_or places (k + 1) 0
  pub inside : get_or places (k + 1) 0 ≤ length s
  pub bytes : part (get_or places k 0) (get_or places (k + 1) 0 - get_or places k 0) s ≡ bytes_of s k
  pub size : get_or places (k + 1) 0 - get_or places k 0 ≡ length (bytes_of s k)
  pub head : 22 ≤ length s

pub between : (w : Walked) (k : ℕ) → IsWalked w → 2 ≤ k → k ≤ 9 → Between w.text.now w.places k
between x k w lo hi =
    let s = x.text.now in
    let places = x.places in
    let a = accepted s w.fine in
    let here = w.noted.under k lo (omega arith) in
    let there = w.noted.under (k + 1) (omega arith) (omega arith) in
    let next = place-next s k lo (omega arith) in
    let inside = place_inside numbers s 22 (length s) (k + 1) a.head.inside a.walk in
    let end : get_or places (k + 1) 0 ≡ past s k (get_or places k 0) = there ∙ next ∙ ap (past s k) (sym here) in
    let n = items_size (layout_of k) s (place_of s k) in
    by_test (is_named s k)
    (λ (m : is_named s k ≡ true).
    let e : get_or places (k + 1) 0 ≡ place_of s k + n = there ∙ next ∙ rw m in
    let size : get_or places (k + 1) 0 - get_or places k 0 ≡ n = omega (arith, e, here) in
    let bytes : part (get_or places k 0) (get_or places (k + 1) 0 - get_or places k 0) s ≡ bytes_of s k = rw (size, here, m) in
    let long : length (part (place_of s k) n s) ≡ n = length-take-le n (drop (place_of s k) s) (omega (arith, e, there, inside, length-drop (place_of s k) s)) in
    record { ordered = omega (arith, e, here); inside = omega (arith, there, inside); bytes = bytes; size = size ∙ sym (rw m long); head = a.head.inside })
    (λ (m : is_named s k ≡ false).
    let e : get_or places (k + 1) 0 ≡ place_of s k = there ∙ next ∙ rw m in
    let size : get_or places (k + 1) 0 - get_or places k 0 ≡ 0 = omega (arith, e, here) in
    record { ordered = omega (arith, e, here); inside = omega (arith, there, inside); bytes = rw (size, m); size = size ∙ rw m; head = a.head.inside })

-- ---- One section after the other

module _ (a b : List ℕ) (k : ℕ) (lo : 2 ≤ k) (hi : k < 10) where
  -- one, and then the others
  pub sections-next : join_sections (drop (k - 2) numbers) a b ≡ join_section a b k ++ join_sections (drop (k + 1 - 2) numbers) a b
  unfolding join_sections
  sections-next = rw (numbers-next k lo hi)

  pub sections-length : length (join_sections (drop (k - 2) numbers) a b)
      ≡ length (join_section a b k) + length (join_sections (drop (k + 1 - 2) numbers) a b)
  sections-length = ap length sections-next ∙ length-append (join_section a b k) (join_sections (drop (k + 1 - 2) numbers) a b)

-- behind the last
pub sections_end : (a b : List ℕ) (k : ℕ) → 10 ≤ k → join_sections (drop (k - 2) numbers) a b ≡ []
unfolding join_sections
sections_end a b k h = rw (drop_of_length-le numbers {i = k - 2} (omega arith))

-- the joined text is its 22 bytes and then the sections
pub join_sides : (a b : List ℕ) → join_text a b ≡ join_head a b ++ join_sections numbers a b
unfolding join_text join_front join_back
join_sides a b = simp append_assoc

choose-length : (n : ℕ) (fs gs : List ℕ) → length fs ≡ length gs → length (choose n fs gs) ≡ length fs
unfolding choose
choose-length n [] gs e = refl
choose-length n (f ∷ fs) [] e = absurd (omega arith)
choose-length n (f ∷ fs) (g ∷ gs) e = ap suc (choose-length n fs gs (omega arith))

-- one byte more, and all of them
pub choose_turn : (n : ℕ) (fs gs : List ℕ) (i : ℕ) → i < length fs → i < length gs
    → choose n (drop i fs) (drop i gs)
    ≡ cond (eqb (get_or gs i 0) n) (get_or fs i 0) (get_or gs i 0) ∷ choose n (drop (i + 1) fs) (drop (i + 1) gs)
unfolding choose
choose_turn n fs gs i g h = rw (drop-cons fs i 0 g, drop-cons gs i 0 h, add-one)

pub choose_done : (n : ℕ) (fs gs : List ℕ) (i : ℕ) → length fs ≤ i → choose n (drop i fs) (drop i gs) ≡ []
unfolding choose
choose_done n fs gs i h = rw (drop_of_length-le fs {i = i} h)

-- a part that lies in the text
pub part-is : (at n : ℕ) (s : List ℕ) → at + n ≤ length s → length (part at n s) ≡ n
part-is at n s h = length-take-le n (drop at s) (omega (arith, length-drop at s))

module _ (a b : List ℕ) (g : 22 ≤ length a) (h : 22 ≤ length b) where
  chosen_is : (none at n : ℕ) → at + n ≤ 22 → length (choose none (part at n a) (part at n b)) ≡ n
  chosen_is none at n l =
      let x = part-is at n a (omega arith) in
      let y = part-is at n b (omega arith) in
      choose-length none (part at n a) (part at n b) (x ∙ sym y) ∙ x

  pub flags-length : length (choose 57 (part 5 7 a) (part 5 7 b)) ≡ 7
  flags-length = chosen_is 57 5 7 (omega arith)

  pub indicators_length : length (choose 48 (part 13 8 a) (part 13 8 b)) ≡ 8
  indicators_length = chosen_is 48 13 8 (omega arith)

  pub front_length : length (join_front a b) ≡ 12
  unfolding join_front
  front_length = simp flags-length

  pub back-length : length (join_back a b) ≡ 10
  unfolding join_back
  back-length = simp (length-append, indicators_length)

  pub head-length : length (join_head a b) ≡ 22
  head-length = length-append (join_front a b) (join_back a b) ∙ rw (front_length, back-length)

-- how long the sections are
module _ (a b : List ℕ) (x : check_command a ≡ (Ok tt)) (y : check_command b ≡ (Ok tt)) where
  pub sides_length : length (join_text a b) ≡ 22 + length (join_sections numbers a b)
  sides_length =
      ap length (join_sides a b)
      ∙ length-append (join_head a b) (join_sections numbers a b)
      ∙ ap (λ (n : ℕ). n + length (join_sections numbers a b)) (head-length a b (accepted a x).head.inside (accepted b y).head.inside)

  pub sides_short : length (join_sections numbers a b) ≤ longest
  sides_short = omega (arith, sides_length, join-short a b x y)
