-- A record's sections by their pieces: named or not, all zero, valid.
use mathlib.Core.Path.{◌≡◌, refl, sym, ◌∙◌}
use mathlib.Core.Bool.{Bool, true, false, ◌&&◌, and_assoc, and-true}
use mathlib.Core.List.{List, ◌++◌}
use Prim.Native.Nat.{ℕ, suc, ◌+◌, ◌≤◌, ◌<◌}
use native.Mathlib.Omega.{arith}
use lib.Dec.{leb}
use native.Mathlib.Numerals.{add-one}
use lib.ListN.{length, get_or, take, drop, drop_of_length-le}
use lib.Seq.{take_all, drop-cons, length-take-le}
use Rattle.text.specs.Checks.{must, is_fine}
use Rattle.text.specs.Table.{values}
use Rattle.lists.proofs.Spelling.{airfields-length, boxes-length}
use Rattle.lists.proofs.RoundTrip.{airfields-held, boxes-held}
use Rattle.section.proofs.Held.{and-fine}
use Rattle.text.proofs.Checks.{fine-is}
use native.Mathlib.Nat.{mul-le-mul}
use Rattle.settings.proofs.Few.{regions-few, regions-room, airports-few, airports-room}
use Rattle.text.specs.Over.{over}
use Rattle.text.proofs.Over.{front-over, over-whole}
use Rattle.text.proofs.Parts.{part_bytes}
use Rattle.section.specs.Layout.{numbers, layout_of}
use Rattle.section.specs.Contents.{Content, contents_text, contents_allowed}
use Rattle.section.specs.Inner.{going_on, pass_contents, Reaches}
use Rattle.section.proofs.Short.{goes_reaches}
use Rattle.settings.specs.Settings.{contents_of, fixed_of, fixed_hold, regions_hold, airports_hold}
use Rattle.settings.specs.Valid.{are_zero, flags_valid, sections_valid}
use Rattle.settings.specs.Inner.{pass_section, fixed_valid}
use Rattle.settings.specs.declared.Settings.{Settings}
use Rattle.std.specs.Prelude.{Result, Ok, Err, is_ok}
use Rattle.text.specs.declared.Refusal.{Refusal}
use Rattle.text.specs.declared.Code.TheVariants.{Disagree}

-- ---- What the check of a section owes, named or not

module _ (k most at : ℕ) (cs : List Content) (r : Result ℕ Refusal) (named : Bool) where
  -- a named section
  pub pass_named : named ≡ true → (r ≡ pass_contents (layout_of k) at cs) × Reaches (at + most) r → (r ≡ pass_section named k at cs) × Reaches (at + most) r
  pass_named n e = (rw n e.0, e.1)

  -- one that isn't named
  pub pass_unnamed : named ≡ false → r ≡ going_on (must (are_zero cs) Disagree at) at → (r ≡ pass_section named k at cs) × Reaches (at + most) r
  pass_unnamed n e = (rw n e, rw e (goes_reaches (must (are_zero cs) Disagree at) at (at + most) (λ f. omega arith)))

-- ---- Valid

-- a list of seven by its entries
pub seven : (l : List ℕ) → length l ≡ 7 → l ≡ values (λ i. get_or l i 0) 0 7
seven l e = sym (take_all 7 l (omega arith)) ∙ part_bytes 7 0 l (omega arith)

-- flags, one after the other
module _ (t : Bool) (v : List ℕ) (i : ℕ) where
  pub valid_turn : i < length v → (t && flags_valid (drop i v)) ≡ (t && leb (get_or v i 0) 1 && flags_valid (drop (i + 1) v))
  unfolding flags_valid
  valid_turn h = rw (add-one, drop-cons v i 0 h) (sym (and_assoc t (leb (get_or v i 0) 1) (flags_valid (drop (suc i) v))))

  pub valid_end : length v ≤ i → (t && flags_valid (drop i v)) ≡ t
  unfolding flags_valid
  valid_end h = rw (drop_of_length-le v {i = i} h) (and-true t)

-- whether it goes on, as the library asks it
pub ok-fine : (r : Result ℕ Refusal) → is_ok r ≡ is_fine r
ok-fine (Ok p) = refl
ok-fine (Err r) = refl

-- a check that goes on was fine
next-fine : (x : Result (Unit {0}) Refusal) (q : ℕ) → is_fine (going_on x q) ≡ is_fine x
next-fine (Ok u) q = refl
next-fine (Err r) q = refl

next_contents : (k : ℕ) (cs : List Content) → is_fine (pass_contents (layout_of k) 0 cs) ≡ is_fine (contents_allowed (layout_of k) 0 cs)
next_contents k cs = next-fine (contents_allowed (layout_of k) 0 cs) (0 + length (contents_text (layout_of k) cs))

-- flags, sections 2 and 3, and those of numbers, are all there is
pub sections_are : (x : Settings)
    → sections_valid numbers x
    ≡ (is_fine (contents_allowed (layout_of 2) 0 (regions_hold x.regions))
    && (is_fine (contents_allowed (layout_of 3) 0 (airports_hold x.airports)) && fixed_valid 6 4 (fixed_of x)))
unfolding sections_valid contents_of fixed_hold fixed_valid
sections_are x =
    let f = fixed_hold (fixed_of x) in
    rw (next_contents 4 (f 4), next_contents 5 (f 5), next_contents 6 (f 6), next_contents 7 (f 7), next_contents 8 (f 8), next_contents 9 (f 9))

-- four tests from the left, and from the right
pub four : (a b d e : Bool) → (((a && b) && d) && e) ≡ (a && (b && (d && e)))
four a b d e = simp and_assoc

-- ---- Written over the front of a buffer

-- a front part with a text over it
pub front_part : (d F t : List ℕ) (n : ℕ) → n ≡ length t → n ≤ length d → F ≡ over (take n d) 0 t → F ++ drop n d ≡ over d 0 t
front_part d F t n e h wrote =
    let same : length t ≡ length (take n d) = omega (arith, length-take-le n d h) in
    rw e (front-over d F t (wrote ∙ over-whole (take n d) t same))

-- ---- For the functions' checks

-- what allowed lists hold, and how long their texts are
pub ruleset of_lists = (airfields-length, boxes-length, airfields-held, boxes-held, fine-is, and-fine)

-- what an allowed section 2 or 3 says of its lists and of the room for its text
pub ruleset room = (regions-few, regions-room, airports-few, airports-room)

-- bounds of products
pub ruleset products = (mul-le-mul)
