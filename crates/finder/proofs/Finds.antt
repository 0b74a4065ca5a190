-- What is found: a part that lies in the text, and in an accepted text the section's own bytes at its own place.
use mathlib.Core.Path.{◌≡◌, refl}
use mathlib.Core.Bool.{Bool, true, false, cond, ◌||◌}
use mathlib.Core.List.{List, [], ◌∷◌}
use Prim.Native.Nat.{ℕ, zero, suc, ◌+◌, ◌-◌, ◌≤◌}
use native.Mathlib.Omega.{arith}
use native.Mathlib.Nat.{le_trans, le-add_left}
use lib.Dec.{leb, eqb}
use lib.ListN.{length, get_or, drop}
use borrow.Author.Tests.{le-leb, eq-eqb, leb-true}
use Rattle.text.specs.Names.{between}
use Rattle.text.proofs.Cases.{by_test, both_left, both_right}
use Rattle.field.proofs.Accepted.{delimiter}
use Rattle.field.proofs.Local.{after-cases}
use Rattle.section.specs.Layout.{Item, numbers, layout_of, check_item, check_items, items_size, Accepted}
use Rattle.command.specs.Text.{check_head, is_named, longest, check_command}
use Rattle.command.specs.Sections.{is_one_of, place_of, bytes_of}
use Rattle.command.proofs.Head.{head-passes}
use Rattle.command.proofs.Accepted.{accepted}
use Rattle.command.proofs.Checking.{numbers-next}
use Rattle.command.proofs.Standing.{accepted-place}
use Rattle.finder.specs.declared.Part.{Part}
use Rattle.finder.specs.Finding.{pass_section, reach, part_at, standing, find_in, find_section, part_of}
use Rattle.finder.proofs.Passing.{items-inside, items-accepted}
use Rattle.finder.proofs.Reaching.{reach-accepted}
use Rattle.std.specs.Prelude.{Result, Ok, Err}
use Rattle.text.specs.declared.Refusal.{Refusal}
use Rattle.text.specs.declared.Code.TheVariants.{OutOfRange, WrongLength}
use Rattle.text.specs.Checks.{after, refuse}
use Rattle.text.proofs.Checks.{err_ok}

-- ---- Section numbers

-- one of the rest is one of all
one-behind : (i : ℕ) (ks : List ℕ) (j : ℕ) → is_one_of (drop i ks) j ≡ true → is_one_of ks j ≡ true
one-behind zero ks j e = e
one-behind (suc i) [] j e = e
one-behind (suc i) (k ∷ ks) j e = rw (one-behind i ks j e) (or-true (eqb j k))
  where
    or-true : (t : Bool) → (t || true) ≡ true
    or-true true = refl
    or-true false = refl

pub number-between : (k : ℕ) → 2 ≤ k → k ≤ 9 → between 2 9 k ≡ true
number-between k lo hi = rw (le-leb 2 k lo, le-leb k 9 hi)

-- 2 to 9
pub is_number : (k : ℕ) → between 2 9 k ≡ true → is_one_of numbers k ≡ true
is_number k b =
    let lo : 2 ≤ k = leb-true 2 k (both_left (leb 2 k) (leb k 9) b) in
    let hi : k ≤ 9 = leb-true k 9 (both_right (leb 2 k) (leb k 9) b) in
    one-behind (k - 2) numbers k (rw (numbers-next k lo (omega arith), eq-eqb k k refl))

-- ---- In an accepted text

-- a section that was accepted where it stands is found there
standing-accepted : (k : ℕ) (s : List ℕ) (at : ℕ) → Accepted k s at → standing k s at ≡ Ok (part_at at (items_size (layout_of k) s at))
standing-accepted k s at e =
    let n = items_size (layout_of k) s at in
    let d : at + n - at ≡ n = omega arith in
    rw (items-accepted (layout_of k) s at at (at + n) e, d)

-- the answer: where the section stands and how long it is, or nothing where it isn't named
pub found-accepted : (k : ℕ) (s : List ℕ) → between 2 9 k ≡ true → check_command s ≡ (Ok tt)
    → find_section k s ≡ cond (is_named s k) (Ok (part_at (place_of s k) (items_size (layout_of k) s (place_of s k)))) (Ok (part_at 0 0))
unfolding find_section
found-accepted k s b f =
    let a = accepted s f in
    rw (b, le-leb (length s) longest a.short, head-passes s a.head, reach-accepted numbers s 22 k (length s) a.walk)
    (by_test (is_named s k)
    (λ (n : is_named s k ≡ true).
    rw n (standing-accepted k s (place_of s k) (accepted-place numbers s 22 k (length s) (is_number k b) n a.walk)))
    (λ (n : is_named s k ≡ false). rw n))

-- a whole section, its delimiter included
items-last : (is : List Item) (s : List ℕ) (at p : ℕ) → check_items is s at ≡ Ok p → get_or s (p - 1) 0 ≡ 47
unfolding check_items
items-last [] s at p e =
    let d = delimiter s at p e in
    let z : p - 1 ≡ at = omega (arith, d.2) in
    rw z d.1
items-last (i ∷ is) s at p e =
    after-cases (check_item i s at) (check_items is s) p e
    (λ q (c : check_item i s at ≡ Ok q) (d : check_items is s q ≡ Ok p). items-last is s q p d)

module _ (k : ℕ) (s : List ℕ) (b : between 2 9 k ≡ true) (f : check_command s ≡ (Ok tt)) (n : is_named s k ≡ true) where
  -- it was accepted where it stands
  pub place-accepted : Accepted k s (place_of s k)
  place-accepted = accepted-place numbers s 22 k (length s) (is_number k b) n (accepted s f).walk

  -- its last byte is the delimiter
  pub last-accepted : get_or s (place_of s k + items_size (layout_of k) s (place_of s k) - 1) 0 ≡ 47
  last-accepted = items-last (layout_of k) s (place_of s k) _ place-accepted

-- its bytes: the same that a join copies
pub bytes-accepted : (k : ℕ) (s : List ℕ) → between 2 9 k ≡ true → check_command s ≡ (Ok tt) → part_of s (find_section k s) ≡ bytes_of s k
bytes-accepted k s b f =
    rw (found-accepted k s b f)
    (by_test (is_named s k)
    (λ (n : is_named s k ≡ true). rw n)
    (λ (n : is_named s k ≡ false). rw n))

-- ---- A part that is found lies in the text

abbrev pub Inside : List ℕ → Result Part Refusal → Type 0
Inside s (Ok p) = p.at + p.length ≤ length s
Inside s (Err r) = Unit

either : (s : List ℕ) (t : Bool) (x y : Result Part Refusal) → Inside s x → Inside s y → Inside s (cond t x y)
either s true x y a b = a
either s false x y a b = b

then : (s : List ℕ) (x : Result ℕ Refusal) (more : ℕ → Result Part Refusal) → ((at : ℕ) → x ≡ Ok at → Inside s (more at)) → Inside s (after x more)
then s (Ok at) more h = h at refl
then s (Err r) more h = tt

standing-inside : (k : ℕ) (s : List ℕ) (at : ℕ) → Inside s (standing k s at)
standing-inside k s at =
    then s (pass_section k s at) (λ end. Ok (part_at at (end - at))) (λ end e. omega (arith, items-inside (layout_of k) s at at end e))

pub finds_inside : (k : ℕ) (s : List ℕ) → Inside s (find_section k s)
unfolding find_section
finds_inside k s =
    either s (between 2 9 k) _ (refuse OutOfRange 0)
    (either s (leb (length s) longest) _ (refuse WrongLength 0)
    (then s (check_head s) (find_in k s)
    (λ at e.
    either s (is_named s k) _ (Ok (part_at 0 0)) (then s (reach numbers s at k) (standing k s) (λ p d. standing-inside k s p)) (omega arith)))
    tt)
    tt

-- the part's bounds
pub part-inside : (k : ℕ) (s : List ℕ) (p : Part) → find_section k s ≡ Ok p → p.at + p.length ≤ length s
part-inside k s p e = rw e at (finds_inside k s)

-- no longer than the longest command
pub part-short : (k : ℕ) (s : List ℕ) (p : Part) → find_section k s ≡ Ok p → p.length ≤ longest
unfolding find_section
part-short k s p e =
    let i = part-inside k s p e in
    by_test (between 2 9 k)
    (λ (b : between 2 9 k ≡ true).
    by_test (leb (length s) longest)
    (λ (l : leb (length s) longest ≡ true). le_trans (le_trans (le-add_left p.length p.at) i) (leb-true (length s) longest l))
    (λ (l : leb (length s) longest ≡ false). err_ok _ p (rw (b, l) at e)))
    (λ (b : between 2 9 k ≡ false). err_ok _ p (rw b at e))
