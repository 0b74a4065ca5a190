-- The named sections of a text, one after the other: the walk over them finds each one's own bytes.
use mathlib.Core.Path.{◌≡◌, refl, sym, ap, ap₂, ◌∙◌}
use mathlib.Core.Bool.{true, false, ◌&&◌, not}
use mathlib.Core.List.{List, [], ◌∷◌, ◌++◌, append_assoc}
use Prim.Native.Nat.{ℕ, suc, ◌+◌, ◌≤◌, ◌<◌}
use native.Mathlib.Omega.{arith}
use native.Mathlib.Nat.{add-zero}
use lib.Dec.{eqb}
use lib.ListN.{length, get_or, take, drop, length-append, length-drop, take-append-drop}
use lib.Seq.{length-take-le, drop-drop, drop-append_seam}
use borrow.Author.Tests.{eq-eqb, ne_eqb, eqb-true, not-true}
use Rattle.text.specs.Parts.{part}
use Rattle.text.proofs.Cases.{by_test, both_left}
use Rattle.text.proofs.Parts.{part-rest}
use Rattle.field.proofs.Local.{after-cases}
use Rattle.section.specs.Layout.{numbers, layout_of, is_empty, check_section, check_items, items_size}
use Rattle.section.specs.Contents.{contents_at}
use Rattle.section.proofs.Own.{Own, own-some, put_check, put_size, put_part, cut_end, cut_own, cut_contents}
use Rattle.command.specs.Text.{is_indicator, is_named, check_from}
use Rattle.command.specs.Sections.{is_one_of, place_of, held_in}
use Rattle.command.proofs.Each.{Each, Rising, each-rising}
use Rattle.command.proofs.Parts.{present, bodies, body_from, body_of, Place, Absent, Present, holds}
use Rattle.command.proofs.Standing.{accepted-place, bytes-body, body_absent}
use Rattle.std.specs.Prelude.{Ok}

-- ---- Bodies and the walk in a list that rises

-- only sections from lo on count
pub bodies-rising : (f g : ℕ → List ℕ) (lo : ℕ) (ks : List ℕ) → Rising lo ks → ((k : ℕ) → lo ≤ k → f k ≡ g k) → bodies f ks ≡ bodies g ks
unfolding bodies
bodies-rising f g lo [] r e = refl
bodies-rising f g lo (k ∷ ks) r e =
    let h = r.0 in
    ap₂ ◌++◌ (e k h) (bodies-rising f g (suc k) ks r.1 (λ (j : ℕ) (l : suc k ≤ j). e j (omega arith)))

-- a section before all of them is not found
pub body-none : (lo : ℕ) (ks : List ℕ) (s : List ℕ) (at j : ℕ) → Rising lo ks → j < lo → body_from ks s at j ≡ []
unfolding body_from
body-none lo [] s at j r h = refl
body-none lo (k ∷ ks) s at j r h =
    let l = r.0 in
    by_test (is_named s k)
    (λ (n : is_named s k ≡ true).
    rw (n, ne_eqb j k (λ (e : j ≡ k). omega arith))
    (body-none (suc k) ks s (at + items_size (layout_of k) s at) j r.1 (omega arith)))
    (λ (n : is_named s k ≡ false). rw n (body-none (suc k) ks s at j r.1 (omega arith)))

module _ (k : ℕ) (ks s : List ℕ) (at : ℕ) where
  -- the first one, where it is named and where it is not
  pub body-first : is_named s k ≡ true → body_from (k ∷ ks) s at k ≡ part at (items_size (layout_of k) s at) s
  unfolding body_from
  body-first n = rw (n, eq-eqb k k refl)

  -- a section that is not named is passed by
  pub body-unnamed : (j : ℕ) → is_named s k ≡ false → body_from (k ∷ ks) s at j ≡ body_from ks s at j
  unfolding body_from
  body-unnamed j n = rw n

  -- the ones behind it
  pub body-later : (j : ℕ) → is_named s k ≡ true → suc k ≤ j
      → body_from (k ∷ ks) s at j ≡ body_from ks s (at + items_size (layout_of k) s at) j
  unfolding body_from
  body-later j n h = rw (n, ne_eqb j k (λ (e : j ≡ k). omega arith))

present-some : (b : List ℕ) → 1 ≤ length b → present b ≡ true
present-some [] h = absurd (omega arith)
present-some (c ∷ b) h = refl

-- bytes that are there hold what they hold by themselves
pub holds-some : (k : ℕ) (b : List ℕ) → 1 ≤ length b → contents_at (layout_of k) b 0 ≡ holds k b
holds-some k [] h = absurd (omega arith)
holds-some k (c ∷ b) h = refl

-- ---- What the check of the named sections found

-- a named section exists
indicator-some : (k b : ℕ) → 1 ≤ k → is_indicator k b ≡ true → eqb b (48 + k) ≡ true → is_empty (layout_of k) ≡ false
indicator-some k b h i e =
    let d : b ≡ 48 + k = eqb-true b (48 + k) e in
    let j : (not (is_empty (layout_of k)) && eqb b (48 + k)) ≡ true = rw (ne_eqb b 48 (λ (z : b ≡ 48). omega arith)) at i in
    not-true (is_empty (layout_of k)) (both_left (not (is_empty (layout_of k))) (eqb b (48 + k)) j)

-- the bytes from here are the sections' own bytes and what is behind; each section is one by itself; named is where bytes are
pub record Walked (ks s : List ℕ) (at p : ℕ) : Type 0 where
  pub text : drop at s ≡ bodies (body_from ks s at) ks ++ drop p s
  pub places : Each (λ k. Place k (body_from ks s at k)) ks
  pub named : Each (λ k. is_named s k ≡ present (body_from ks s at k)) ks

module _ (k : ℕ) (ks s : List ℕ) (at p : ℕ) (rises : Rising (suc k) ks) where
  -- a turn where the section is not named
  pub walked_unnamed : is_named s k ≡ false → Walked ks s at p → Walked (k ∷ ks) s at p
  unfolding bodies
  walked_unnamed n w =
      let none : body_from (k ∷ ks) s at k ≡ [] = body-unnamed k ks s at k n ∙ body-none (suc k) ks s at k rises (omega arith) in
      record {
        text =
            w.text
            ∙ rw none
            (ap (λ (l : List ℕ). l ++ drop p s)
            (bodies-rising (body_from ks s at) (body_from (k ∷ ks) s at) (suc k) ks rises (λ j h. sym (body-unnamed k ks s at j n))));
        places = (
          Absent none,
          each-rising (suc k) ks rises (λ j h (q : Place j (body_from ks s at j)). rw (body-unnamed k ks s at j n) q) w.places,
        );
        named = (
          rw (none, n),
          each-rising (suc k) ks rises (λ j h (q : is_named s j ≡ present (body_from ks s at j)). rw (body-unnamed k ks s at j n) q) w.named,
        );
      }

  -- a turn where it is
  pub walked_named : (q : ℕ) → is_named s k ≡ true → is_empty (layout_of k) ≡ false → check_items (layout_of k) s at ≡ Ok q
      → Walked ks s (at + items_size (layout_of k) s at) p → Walked (k ∷ ks) s at p
  unfolding bodies
  walked_named q n some c w =
      let m = items_size (layout_of k) s at in
      let own : Own (layout_of k) (part at m s) = cut_own (layout_of k) s at q c in
      let first : body_from (k ∷ ks) s at k ≡ part at m s = body-first k ks s at n in
      record {
        text =
            rw (first, append_assoc)
            (sym (part-rest m at s)
            ∙ ap (λ (l : List ℕ). part at m s ++ l)
            (w.text
            ∙ ap (λ (l : List ℕ). l ++ drop p s)
            (bodies-rising (body_from ks s (at + m)) (body_from (k ∷ ks) s at) (suc k) ks rises (λ j h. sym (body-later k ks s at j n h)))));
        places = (
          Present some (rw first own),
          each-rising (suc k) ks rises (λ j h (x : Place j (body_from ks s (at + m) j)). rw (body-later k ks s at j n h) x) w.places,
        );
        named = (
          n ∙ sym (ap present first ∙ present-some (part at m s) (own-some (layout_of k) (part at m s) own)),
          each-rising (suc k) ks rises (λ j h (x : is_named s j ≡ present (body_from ks s (at + m) j)). rw (body-later k ks s at j n h) x) w.named,
        );
      }

-- what the check of the sections ks found, from a place to where it came
pub walked : (lo : ℕ) (ks s : List ℕ) (at p : ℕ) → 1 ≤ lo → Rising lo ks → Each (λ k. is_indicator k (get_or s (11 + k) 0) ≡ true) ks
    → check_from ks s at ≡ Ok p → Walked ks s at p
unfolding check_from bodies
walked lo [] s at p h r i e = let d : at ≡ p = cc in record { text = rw d; places = tt; named = tt }
walked lo (k ∷ ks) s at p h r i e =
    let l = r.0 in
    by_test (is_named s k)
    (λ (n : is_named s k ≡ true).
    after-cases (check_section k s at) (check_from ks s) p (rw n at e)
    (λ q (c : check_section k s at ≡ Ok q) (d : check_from ks s q ≡ Ok p).
    walked_named k ks s at p r.1 q n (indicator-some k (get_or s (11 + k) 0) (omega arith) i.0 n) c
    (walked (suc k) ks s (at + items_size (layout_of k) s at) p (omega arith) r.1 i.1
    (rw (cut_end (layout_of k) s at q c) at d))))
    (λ (n : is_named s k ≡ false).
    walked_unnamed k ks s at p r.1 n (walked (suc k) ks s at p (omega arith) r.1 i.1 (rw n at e)))

-- what section k of an accepted text holds is what its own bytes hold
pub held-body : (s : List ℕ) (p k : ℕ) → is_one_of numbers k ≡ true → check_from numbers s 22 ≡ Ok p → held_in s k ≡ holds k (body_of s k)
held-body s p k i e =
    by_test (is_named s k)
    (λ (n : is_named s k ≡ true).
    let at = place_of s k in
    let c = accepted-place numbers s 22 k p i n e in
    let q = at + items_size (layout_of k) s at in
    let b = part at (items_size (layout_of k) s at) s in
    let body : body_of s k ≡ b = rw n at (sym (bytes-body s k i)) in
    rw (n, body) (cut_contents (layout_of k) s at q c ∙ holds-some k b (own-some (layout_of k) b (cut_own (layout_of k) s at q c))))
    (λ (n : is_named s k ≡ false). rw (n, body_absent numbers s 22 k n))

-- ---- Sections put one after the other are found again

pub record Found (f : ℕ → List ℕ) (ks s : List ℕ) (at : ℕ) : Type 0 where
  pub check : check_from ks s at ≡ Ok (at + length (bodies f ks))
  pub found : Each (λ k. body_from ks s at k ≡ f k) ks

module _ (f : ℕ → List ℕ) (k : ℕ) (ks s : List ℕ) (at : ℕ) (rises : Rising (suc k) ks) where
  -- a turn where the section has no bytes
  pub found_absent : f k ≡ [] → is_named s k ≡ false → Found f ks s at → Found f (k ∷ ks) s at
  unfolding check_from bodies
  found_absent none n g =
      record {
        check = rw (n, none) g.check;
        found = (
          body-unnamed k ks s at k n ∙ body-none (suc k) ks s at k rises (omega arith) ∙ sym none,
          each-rising (suc k) ks rises (λ j h (x : body_from ks s at j ≡ f j). body-unnamed k ks s at j n ∙ x) g.found,
        );
      }

  -- a turn where it has bytes
  pub found-present : (y : List ℕ) → Own (layout_of k) (f k) → is_named s k ≡ true → at ≤ length s → drop at s ≡ f k ++ y
      → Found f ks s (at + length (f k)) → Found f (k ∷ ks) s at
  unfolding check_from bodies
  found-present y own n h t g =
      let x = take at s in
      let text : x ++ (f k ++ y) ≡ s = rw (← t) (take-append-drop at s) in
      let starts : length x ≡ at = length-take-le at s h in
      let check : check_items (layout_of k) s at ≡ Ok (at + length (f k)) = rw text at (put_check (layout_of k) x (f k) y at starts own) in
      let size : items_size (layout_of k) s at ≡ length (f k) = rw text at (put_size (layout_of k) x (f k) y at starts own) in
      let cut : part at (items_size (layout_of k) s at) s ≡ f k = rw text at (put_part (layout_of k) x (f k) y at starts own) in
      let long : at + length (f k) + length (bodies f ks) ≡ at + length (f k ++ bodies f ks) = simp length-append (omega arith) in
      record {
        check = rw (n, check) (g.check ∙ ap Ok long);
        found = (
          body-first k ks s at n ∙ cut,
          each-rising (suc k) ks rises
              (λ j h (z : body_from ks s (at + length (f k)) j ≡ f j).
              body-later k ks s at j n h ∙ ap (λ (m : ℕ). body_from ks s (at + m) j) size ∙ z) g.found,
        );
      }

-- the own bytes of allowed places, one after the other, are accepted and found again
pub finds : (f : ℕ → List ℕ) (lo : ℕ) (ks s y : List ℕ) (at : ℕ) → Rising lo ks → Each (λ k. Place k (f k)) ks
    → Each (λ k. is_named s k ≡ present (f k)) ks → at ≤ length s → drop at s ≡ bodies f ks ++ y → Found f ks s at
unfolding check_from bodies
finds f lo [] s y at r ps ns h t = record { check = ap Ok (sym (add-zero at)); found = tt }
finds f lo (k ∷ ks) s y at r (Absent none, ps) ns h t =
    found_absent f k ks s at r.1 none (ns.0 ∙ ap present none) (finds f (suc k) ks s y at r.1 ps ns.1 h (rw none at t))
finds f lo (k ∷ ks) s y at r (Present some own, ps) ns h t =
    let whole : drop at s ≡ f k ++ (bodies f ks ++ y) = t ∙ append_assoc (f k) (bodies f ks) y in
    let long : length s ≡ at + (length (f k) + length (bodies f ks ++ y)) =
    omega (arith, length-drop at s, ap length whole, length-append (f k) (bodies f ks ++ y)) in
    let rest : drop (at + length (f k)) s ≡ bodies f ks ++ y =
    sym (drop-drop (length (f k)) at s) ∙ ap (drop (length (f k))) whole ∙ drop-append_seam (f k) (bodies f ks ++ y) in
    found-present f k ks s at r.1 (bodies f ks ++ y) own
    (ns.0 ∙ present-some (f k) (own-some (layout_of k) (f k) own)) h whole
    (finds f (suc k) ks s y (at + length (f k)) r.1 ps ns.1 (omega arith) rest)
