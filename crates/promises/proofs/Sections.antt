-- Where the members of what is read stand in a command's text.
use mathlib.Core.Path.{◌≡◌, refl, ap, ◌∙◌}
use mathlib.Core.Bool.{true, cond}
use mathlib.Core.List.{List, [], ◌∷◌, ◌++◌}
use Prim.Native.Nat.{ℕ, zero, suc, ◌+◌, ◌-◌, ◌*◌, ◌<◌}
use native.Mathlib.Omega.{arith}
use lib.ListN.{get_or, replicate, get_or-map}
use Rattle.text.specs.Parts.{part}
use Rattle.field.proofs.Local.{part-byte}
use Rattle.field.specs.Boxes.{no_region, region_at, edge_at}
use Rattle.field.specs.declared.Region.{Region}
use Rattle.lists.specs.Lists.{count_at, regions_at, boxes_at, airfields_at}
use Rattle.section.specs.Layout.{layout_of, table_of, items_size}
use Rattle.section.specs.Contents.{contents_at}
use Rattle.settings.specs.Settings.{settings_from, regions_from, airports_from, enroute_from, ascent_from, hours_from}
use Rattle.command.specs.Text.{is_named}
use Rattle.command.specs.Record.{command_of}
use Rattle.command.specs.Sections.{held_in, place_from, place_of}
use Rattle.promises.specs.Sections.{number_at, past_boxes, past_airfields, BoxStands, BoxesStand, AirfieldsStand, Regions, Airports, Ascent, Descent, Means}

-- ---- The entries of a list, each at its place

-- the i-th of n boxes, the first at a place
nth_box : (n i at : ℕ) (s : List ℕ) (rest : List Region) → i < n → get_or (regions_at n s at ++ rest) i no_region ≡ region_at s (at + 14 * i)
unfolding regions_at
nth_box zero i at s rest h = absurd (omega arith)
nth_box (suc n) zero at s rest h = let first : at + 14 * 0 ≡ at = omega arith in rw first
nth_box (suc n) (suc i) at s rest h =
    let next : at + 14 + 14 * i ≡ at + 14 * suc i = omega arith in
    nth_box n i (at + 14) s rest (omega arith) ∙ ap (region_at s) next

box-stands : (s : List ℕ) (at : ℕ) → BoxStands s at (region_at s at)
unfolding region_at edge_at
box-stands s at =
    record {
      north = record { degrees = refl; letter = refl };
      south = record { degrees = refl; letter = refl };
      west = record { degrees = refl; letter = refl };
      east = record { degrees = refl; letter = refl };
    }

boxes_stand : (s : List ℕ) (at : ℕ) → BoxesStand s at (boxes_at s at)
unfolding boxes_at
boxes_stand s at =
    record {
      count = refl;
      boxes = λ i h. rw (nth_box (count_at s at) i (at + 2) s _ h) (box-stands s (at + 2 + 14 * i));
    }

no_byte : (m i : ℕ) → ◌≡◌ {A = ℕ} (get_or (replicate m 0) i 0) 0
no_byte zero i = refl
no_byte (suc m) zero = refl
no_byte (suc m) (suc i) = no_byte m i

-- zeros behind bytes add none
zeros-behind : (xs : List ℕ) (m i : ℕ) → get_or (xs ++ replicate m 0) i 0 ≡ get_or xs i 0
zeros-behind [] m i = no_byte m i
zeros-behind (x ∷ xs) m zero = refl
zeros-behind (x ∷ xs) m (suc i) = zeros-behind xs m i

airfields_stand : (s : List ℕ) (at : ℕ) → AirfieldsStand s at (airfields_at s at)
unfolding airfields_at
airfields_stand s at =
    let n = 4 * count_at s at in
    record { count = refl; names = λ i h. zeros-behind (part (at + 2) n s) (80 - n) i ∙ part-byte n s (at + 2) i h }

module _ (s : List ℕ) where
  -- a named section holds what stands at its place
  pub held-there : (k : ℕ) → is_named s k ≡ true → held_in s k ≡ contents_at (layout_of k) s (place_of s k)
  held-there k n = rw n

  regions_stand : is_named s 2 ≡ true → Regions s (place_of s 2) (command_of s)
  unfolding command_of settings_from regions_from layout_of table_of contents_at
  regions_stand n = let h = held-there 2 n in record { reporting = rw h (boxes_stand s (place_of s 2)); inhibiting = rw h (boxes_stand s (past_boxes s (place_of s 2))) }

  airports_stand : is_named s 3 ≡ true → Airports s (place_of s 3) (command_of s)
  unfolding command_of settings_from airports_from layout_of table_of contents_at
  airports_stand n =
      let h = held-there 3 n in
      let p = place_of s 3 in
      record {
        ascent-selected = rw h (airfields_stand s p);
        descent-selected = rw h (airfields_stand s (past_airfields s p));
        ascent-inhibited = rw h (airfields_stand s (past_airfields s (past_airfields s p)));
        descent-inhibited = rw h (airfields_stand s (past_airfields s (past_airfields s (past_airfields s p))));
        routine = rw h;
      }

  ascent-stands : is_named s 5 ≡ true → Ascent s (place_of s 5) (command_of s)
  unfolding command_of settings_from ascent_from layout_of table_of contents_at
  ascent-stands n =
      let h = held-there 5 n in
      let p = place_of s 5 in
      let third : p + 1 + 2 ≡ p + 3 = omega arith in
      let fourth : p + 1 + 2 + 3 ≡ p + 6 = omega arith in
      let fifth : p + 1 + 2 + 3 + 2 ≡ p + 8 = omega arith in
      let sixth : p + 1 + 2 + 3 + 2 + 3 ≡ p + 11 = omega arith in
      let seventh : p + 1 + 2 + 3 + 2 + 3 + 3 ≡ p + 14 = omega arith in
      let eighth : p + 1 + 2 + 3 + 2 + 3 + 3 + 1 ≡ p + 15 = omega arith in
      record {
        mode = rw h;
        interval1 = rw h;
        duration = rw h (ap (λ (i : ℕ). number_at s i 3) third);
        interval2 = rw h (ap (λ (i : ℕ). number_at s i 2) fourth);
        total = rw h (ap (λ (i : ℕ). number_at s i 3) fifth);
        top = rw h (ap (λ (i : ℕ). number_at s i 3) sixth);
        list = rw h (ap (λ (i : ℕ). number_at s i 1) seventh);
        timer = rw h (ap (λ (i : ℕ). number_at s i 1) eighth);
      }

  behind-six : place_of s 7 ≡ cond (is_named s 6) (place_of s 6 + 2) (place_of s 6)
  unfolding place_from items_size layout_of table_of
  behind-six = refl

  before-eight : is_named s 7 ≡ true → place_of s 8 ≡ place_of s 7 + 10
  unfolding place_from items_size layout_of table_of
  before-eight n = rw n

  descent-stands : is_named s 7 ≡ true → Descent s (place_of s 7) (command_of s)
  unfolding command_of settings_from layout_of table_of contents_at
  descent-stands n =
      let h = held-there 7 n in
      let p = place_of s 7 in
      let third : p + 1 + 3 ≡ p + 4 = omega arith in
      let fourth : p + 1 + 3 + 3 ≡ p + 7 = omega arith in
      let fifth : p + 1 + 3 + 3 + 1 ≡ p + 8 = omega arith in
      record {
        behind = behind-six;
        before = before-eight n;
        mode = rw h;
        interval = rw h;
        top = rw h (ap (λ (i : ℕ). number_at s i 3) third);
        list = rw h (ap (λ (i : ℕ). number_at s i 1) fourth);
        timer = rw h (ap (λ (i : ℕ). number_at s i 1) fifth);
      }

  pub means : Means s (command_of s)
  unfolding command_of settings_from enroute_from hours_from layout_of table_of contents_at
  means =
      record {
        flags = λ i h. get_or-map (λ (b : ℕ). b - 48) (part 5 7 s) i 0 ∙ ap (λ (b : ℕ). b - 48) (part-byte 7 s 5 i h);
        downlink = refl;
        named = λ k a b.
            let i : 13 + (k - 2) ≡ 11 + k = omega arith in
            get_or-map (λ (v : ℕ). v - 48) (part 13 8 s) (k - 2) 0
            ∙ ap (λ (v : ℕ). v - 48) (part-byte 8 s 13 (k - 2) (omega arith) ∙ ap (λ (j : ℕ). get_or s j 0) i);
        regions = regions_stand;
        airports = airports_stand;
        enroute = λ n. let h = held-there 4 n in (rw h, rw h);
        ascent = ascent-stands;
        six = λ n. rw (held-there 6 n);
        descent = descent-stands;
        eight = λ n. rw (held-there 8 n);
        hours = λ n. let h = held-there 9 n in (rw h, rw h);
      }
