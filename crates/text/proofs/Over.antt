-- What a buffer holds once texts are written over parts of it, one after the other.
use Prim.Native.Nat.{ℕ, ◌+◌, ◌-◌, ◌≤◌, ◌<◌}
use native.Mathlib.Omega.{arith}
use native.Mathlib.Nat.{add_assoc, add-zero, zero-add}
use native.Mathlib.Numerals.{add-one}
use mathlib.Core.Path.{◌≡◌, refl, sym, ap, ◌∙◌}
use mathlib.Core.Bool.{cond}
use mathlib.Core.List.{List, [], ◌∷◌, ◌++◌, append_assoc, append-nil}
use lib.ListN.{length, get_or, set, take, drop, length-append, length-drop, take-append-drop}
use lib.Dec.{leb}
use lib.Seq.{drop-drop, paste, paste-suc, sets, sets-eq, length-take-le, take_at, drop_at, take-take, take-add, drop-append-le, drop-length}
use borrow.Author.Tests.{le-leb}
use borrow.Rule.Slice.PartMut.{put_mid}
use Rattle.text.specs.Over.{over}
use Rattle.text.proofs.Parts.{part_length}

-- the first n bytes of s, written over d, are lib.Seq's paste
pub over-paste : (d : List ℕ) (at : ℕ) (s : List ℕ) (n : ℕ) → n ≤ length s → over d at (take n s) ≡ paste d at s n
unfolding over
over-paste d at s n h = rw (length-take-le n s h)

-- a turn of the copying loop: one byte more of s is stored
pub over_turn : (d s : List ℕ) (i : ℕ) → i < length s → i < length d
    → set (over d 0 (take i s)) i (get_or s i 0) ≡ over d 0 (take (i + 1) s)
over_turn d s i h k =
    rw (over-paste d 0 s i (omega arith), over-paste d 0 s (i + 1) (omega arith), add-one)
    (ap (λ (n : ℕ). set (paste d 0 s i) n (get_or s i 0)) (sym (zero-add i)) ∙ paste-suc d 0 s i 0 (omega arith) h)

-- bytes stored one by one are a text written over
pub over-sets : (d : List ℕ) (at : ℕ) (t : List ℕ) → at + length t ≤ length d → sets d at t ≡ over d at t
unfolding over
over-sets d at t h = sets-eq t d at h

-- a buffer keeps its length
pub length_over : (d : List ℕ) (at : ℕ) (t : List ℕ) → at + length t ≤ length d → length (over d at t) ≡ length d
unfolding over
length_over d at t h = simp (length-append, length-drop, length-take-le at d (omega arith)) (omega arith)

-- and so does what a text was written over
pub length_then : (d D t : List ℕ) (at : ℕ) → D ≡ over d at t → at + length t ≤ length d → length D ≡ length d
length_then d D t at e h = ap length e ∙ length_over d at t h

-- nothing written yet
pub over_none : (d : List ℕ) (at : ℕ) → d ≡ over d at []
unfolding over
over_none d at = rw (add-zero, append-nil (take at d), take-append-drop)

-- all of it written
pub over-whole : (d t : List ℕ) → length t ≡ length d → over d 0 t ≡ t
unfolding over
over-whole d t e = rw (zero-add, e, drop-length, append-nil t)

-- where a text fits
module _ (d : List ℕ) (at : ℕ) (t : List ℕ) (h : at + length t ≤ length d) where
  head-length : length (take at d) ≡ at
  head-length = length-take-le at d (omega arith)

  -- what stands before the text stays
  pub before-over : take at (over d at t) ≡ take at d
  unfolding over
  before-over = rw (append_assoc) (take_at (take at d) (t ++ drop (at + length t) d) at head-length)

  -- from its place on there is the text, and then what was beyond it
  pub from-over : drop at (over d at t) ≡ t ++ drop (at + length t) d
  unfolding over
  from-over = rw (append_assoc) (drop_at (take at d) (t ++ drop (at + length t) d) at head-length)

  -- the text is found in its place
  pub found-over : take (length t) (drop at (over d at t)) ≡ t
  found-over = rw from-over (take_at t (drop (at + length t) d) (length t) refl)

  -- what stands beyond it stays
  pub after-over : drop (at + length t) (over d at t) ≡ drop (at + length t) d
  after-over =
      sym (drop-drop (length t) at (over d at t)) ∙ ap (drop (length t)) from-over ∙ drop_at t (drop (at + length t) d) (length t) refl

-- two texts, one after the other, are one
pub over-over : (d : List ℕ) (at : ℕ) (t u : List ℕ) → at + length t + length u ≤ length d
    → over (over d at t) (at + length t) u ≡ over d at (t ++ u)
unfolding over
over-over d at t u h =
    let p : List ℕ = take at d ++ t in
    let r : List ℕ = drop (at + length t) d in
    let e : length p ≡ at + length t = simp (length-append, length-take-le at d (omega arith)) in
    rw (take_at p r (at + length t) e, ← drop-drop (length u) (at + length t) (p ++ r), drop_at p r (at + length t) e, drop-drop, length-append, ← append_assoc (take at d) t u, add_assoc)

-- a part `&mut d[a..e]` comes back with a text written over it from its own place on: that is the whole with the text at a and that place.
-- `&mut d[a..]` is the part whose end e is the length.
pub part-over : (d : List ℕ) (a e at : ℕ) (t : List ℕ) → a + at + length t ≤ e → e ≤ length d
    → put_mid a (e - a) d (over (take (e - a) (drop a d)) at t) ≡ over d (a + at) t
unfolding over
part-over d a e at t h k =
    let m : List ℕ = drop a d in
    let n : length m ≡ length d - a = length-drop a d in
    let w : ℕ = e - a in
    let i : at + length t ≤ w = omega arith in
    let x : drop (at + length t) (take w m) ++ drop w m ≡ drop (at + length t) m =
    sym (drop-append-le (at + length t) (take w m) (drop w m) (rw (part_length d a e k) i)) ∙ ap (drop (at + length t)) (take-append-drop w m) in
    rw (take-take at w m (omega arith), append_assoc, append_assoc, x, take-add, drop-drop, add_assoc, append_assoc, append_assoc)

-- one text after another, each into a part: D is d with t written from `at` on, the next part runs from p, where t ends, up to e,
-- and comes back with u over its start. That is d with both texts.
pub then_part : (d D zs t u : List ℕ) (at p e : ℕ) → D ≡ over d at t → p ≡ at + length t → p + length u ≤ e → e ≤ length d
    → zs ≡ over (take (e - p) (drop p D)) 0 u → put_mid p (e - p) D zs ≡ over d at (t ++ u)
then_part d D zs t u at p e is starts fits ends wrote =
    let n : length D ≡ length d = length_then d D t at is (omega arith) in
    ap (put_mid p (e - p) D) wrote ∙ part-over D p e 0 u (omega arith) (omega arith) ∙ rw (add-zero, is, starts) (over-over d at t u (omega arith))

-- the same where `copy` wrote the next text
pub then_copy : (d D zs t u : List ℕ) (at p e : ℕ) → D ≡ over d at t → p ≡ at + length t → p + length u ≤ e → e ≤ length d
    → zs
    ≡ cond (leb (length u) (length (take (e - p) (drop p D)))) (over (take (e - p) (drop p D)) 0 u) (take (e - p) (drop p D))
    → put_mid p (e - p) D zs ≡ over d at (t ++ u)
then_copy d D zs t u at p e is starts fits ends wrote =
    let n : length D ≡ length d = length_then d D t at is (omega arith) in
    let room : length u ≤ length (take (e - p) (drop p D)) = rw (part_length D p e (omega arith)) (omega arith) in
    then_part d D zs t u at p e is starts fits ends (rw (le-leb (length u) (length (take (e - p) (drop p D))) room) at wrote)

-- the same where the next text takes up the whole part
pub then_whole : (d D zs t u : List ℕ) (at p e : ℕ) → D ≡ over d at t → p ≡ at + length t → p + length u ≡ e → e ≤ length d
    → zs ≡ u → put_mid p (e - p) D zs ≡ over d at (t ++ u)
then_whole d D zs t u at p e is starts fills ends wrote =
    let n : length D ≡ length d = length_then d D t at is (omega arith) in
    let part : List ℕ = take (e - p) (drop p D) in
    let same : length u ≡ length part = omega (arith, part_length D p e (omega arith)) in
    then_part d D zs t u at p e is starts (omega arith) ends (wrote ∙ sym (over-whole part u same))

-- one byte after a text, stored
pub then_byte : (d D t : List ℕ) (b at p : ℕ) → D ≡ over d at t → p ≡ at + length t → p < length d
    → set D p b ≡ over d at (t ++ (b ∷ []))
then_byte d D t b at p is starts fits =
    let n : length D ≡ length d = length_then d D t at is (omega arith) in
    over-sets D p (b ∷ []) (omega arith) ∙ rw (is, starts) (over-over d at t (b ∷ []) (omega arith))

-- one text and then another, the second into the part that starts where the first ends: D is d with t over its start
module _ (d D t : List ℕ) (p : ℕ) (is : D ≡ over d 0 t) (starts : p ≡ length t) where
  -- the part begins in the buffer
  pub rest-start : (n : ℕ) → p + n ≤ length d → p ≤ length D
  rest-start n fits = omega (arith, length_then d D t 0 is (omega arith))

  -- there is room for the second
  pub rest-room : (n : ℕ) → p + n ≤ length d → n ≤ length (take (length D - p) (drop p D))
  rest-room n fits =
      let l : length D ≡ length d = length_then d D t 0 is (omega arith) in
      rw (part_length D p (length D) (omega arith)) (omega arith)

  -- and the buffer then has both
  pub rest-written : (zs u : List ℕ) → p + length u ≤ length d → zs ≡ over (take (length D - p) (drop p D)) 0 u
      → put_mid p (length D - p) D zs ≡ over d 0 (t ++ u)
  rest-written zs u fits wrote =
      let l : length D ≡ length d = length_then d D t 0 is (omega arith) in
      then_part d D zs t u 0 p (length D) is (omega arith) (omega arith) (omega arith) wrote

-- a front that is a text, and what stood behind it
pub front-over : (d F t : List ℕ) → F ≡ t → F ++ drop (length t) d ≡ over d 0 t
unfolding over
front-over d F t e = rw (e, zero-add)
