-- Boxes with other longitudes, in any order, are allowed where the boxes were.
use mathlib.Core.Path.{◌≡◌, refl, ap}
use mathlib.Core.Bool.{Bool, true, false, ◌&&◌}
use mathlib.Core.List.{List, [], ◌∷◌, map}
use Prim.Native.Nat.{ℕ, zero, suc}
use lib.Dec.{leb, eqb}
use lib.Signed.{le_z}
use lib.ListN.{length, take, drop}
use Rattle.text.proofs.Cases.{by_test, both_left, both_right}
use Rattle.field.specs.declared.Region.{Region}
use Rattle.lists.specs.Lists.{most_boxes, region_zero}
use Rattle.lists.specs.declared.Boxes.{Boxes}
use Rattle.section.specs.Layout.{numbers}
use Rattle.settings.specs.declared.Settings.{Settings}
use Rattle.command.specs.Allowed.{every, nought, allowed_edge, signed, allowed_box, allowed_boxes, zero_boxes, each_boxes, zero_or_one, allowed_flag, indicator, allowed_indicator, in_turn, allowed_section, zero_section, allowed_settings, allowed_command}
use Rattle.command.specs.declared.Command.{Command}
use Rattle.promises.specs.Dateline.{Relays, relaid, relaid_settings, relaid_command}

-- ---- Boxes

both_true : (s t : Bool) → s ≡ true → t ≡ true → (s && t) ≡ true
both_true s t p q = rw (p, q)

module _ (lay : Region → Region) (kept : Relays lay) where
  box-kept : (b : Region) → allowed_box b ≡ true → allowed_box (lay b) ≡ true
  unfolding allowed_box
  box-kept b h =
      let n = allowed_edge 90 78 83 b.north && allowed_edge 90 78 83 b.south && le_z (signed 83 b.south) (signed 83 b.north) in
      let w = allowed_edge 180 69 87 b.west && allowed_edge 180 69 87 b.east in
      rw (kept.north b, kept.south b, kept.west b h, kept.east b h, both_left n w h)

  -- what each box keeps, all keep
  module _ (test : Region → Bool) (one : (b : Region) → test b ≡ true → test (lay b) ≡ true) where
    all-kept : (bs : List Region) → every test bs ≡ true → every test (map lay bs) ≡ true
    unfolding every
    all-kept [] h = refl
    all-kept (b ∷ bs) h =
        both_true (test (lay b)) (every test (map lay bs)) (one b (both_left (test b) (every test bs) h)) (all-kept bs (both_right (test b) (every test bs) h))

    first-kept : (n : ℕ) (bs : List Region) → every test (take n bs) ≡ true → every test (take n (map lay bs)) ≡ true
    unfolding every
    first-kept zero bs h = refl
    first-kept (suc n) [] h = refl
    first-kept (suc n) (b ∷ bs) h =
        both_true (test (lay b)) (every test (take n (map lay bs))) (one b (both_left (test b) (every test (take n bs)) h))
        (first-kept n bs (both_right (test b) (every test (take n bs)) h))

    rest-kept : (n : ℕ) (bs : List Region) → every test (drop n bs) ≡ true → every test (drop n (map lay bs)) ≡ true
    unfolding every
    rest-kept zero bs h = all-kept bs h
    rest-kept (suc n) [] h = refl
    rest-kept (suc n) (b ∷ bs) h = rest-kept n bs h

  -- ---- Lists and sections

  boxes-kept : (l : Boxes) → allowed_boxes l ≡ true → allowed_boxes (relaid lay l) ≡ true
  boxes-kept l h =
      let few = leb l.count most_boxes in
      let used = every allowed_box (take l.count l.regions) in
      let rest = every region_zero (drop l.count l.regions) in
      let both = both_left (few && used) rest h in
      rw (both_left few used both, first-kept allowed_box box-kept l.count l.regions (both_right few used both), rest-kept region_zero kept.unused l.count l.regions (both_right (few && used) rest h))

  zeros-kept : (l : Boxes) → zero_boxes l ≡ true → zero_boxes (relaid lay l) ≡ true
  zeros-kept l h =
      let none = nought l.count in
      let rest = every region_zero l.regions in
      both_true none (every region_zero (map lay l.regions)) (both_left none rest h) (all-kept region_zero kept.unused l.regions (both_right none rest h))

  module _ (x : Settings) where
    lists-kept : (test : Boxes → Bool) → ((l : Boxes) → test l ≡ true → test (relaid lay l) ≡ true)
        → each_boxes test x.regions ≡ true → each_boxes test (relaid_settings lay x).regions ≡ true
    lists-kept test one h =
        let r = x.regions.reporting in
        let i = x.regions.inhibiting in
        both_true (test (relaid lay r)) (test (relaid lay i)) (one r (both_left (test r) (test i) h)) (one i (both_right (test r) (test i) h))

    section-kept : (k : ℕ) → allowed_section x k ≡ true → allowed_section (relaid_settings lay x) k ≡ true
    unfolding allowed_section
    section-kept k h =
        by_test (eqb k 2)
        (λ (t : eqb k 2 ≡ true). rw t (lists-kept allowed_boxes boxes-kept (rw t at h)))
        (λ (t : eqb k 2 ≡ false). rw t (rw t at h))

    unnamed-kept : (k : ℕ) → zero_section x k ≡ true → zero_section (relaid_settings lay x) k ≡ true
    unfolding zero_section
    unnamed-kept k h =
        by_test (eqb k 2)
        (λ (t : eqb k 2 ≡ true). rw t (lists-kept zero_boxes zeros-kept (rw t at h)))
        (λ (t : eqb k 2 ≡ false). rw t (rw t at h))

  -- what is so of every number, and makes something else so
  every-kept : (f g : ℕ → Bool) → ((k : ℕ) → f k ≡ true → g k ≡ true) → (ks : List ℕ) → every f ks ≡ true → every g ks ≡ true
  unfolding every
  every-kept f g one [] h = refl
  every-kept f g one (k ∷ ks) h =
      both_true (g k) (every g ks) (one k (both_left (f k) (every f ks) h)) (every-kept f g one ks (both_right (f k) (every f ks) h))

  pub settings-kept : (x : Settings) → allowed_settings x ≡ true → allowed_settings (relaid_settings lay x) ≡ true
  unfolding allowed_settings
  settings-kept x h =
      let flags = every zero_or_one x.flags in
      let sections = every (allowed_section x) numbers in
      both_true flags (every (allowed_section (relaid_settings lay x)) numbers) (both_left flags sections h)
      (every-kept (allowed_section x) (allowed_section (relaid_settings lay x)) (section-kept x) numbers (both_right flags sections h))

  turn_kept : (c : Command) (k : ℕ) → in_turn c k ≡ true → in_turn (relaid_command lay c) k ≡ true
  turn_kept c k h =
      by_test (eqb (indicator c k) k)
      (λ (t : eqb (indicator c k) k ≡ true). rw t (section-kept c.settings k (rw t at h)))
      (λ (t : eqb (indicator c k) k ≡ false). rw t (unnamed-kept c.settings k (rw t at h)))

  pub command-kept : (c : Command) → allowed_command c ≡ true → allowed_command (relaid_command lay c) ≡ true
  unfolding allowed_command
  command-kept c h =
      let before = every allowed_flag c.settings.flags && leb c.downlink 2 && every (allowed_indicator c) numbers && nought c.spare in
      let sections = every (in_turn c) numbers in
      both_true before (every (in_turn (relaid_command lay c)) numbers) (both_left before sections h)
      (every-kept (in_turn c) (in_turn (relaid_command lay c)) (turn_kept c) numbers (both_right before sections h))

  pub length-kept : (bs : List Region) → length (map lay bs) ≡ length bs
  length-kept [] = refl
  length-kept (b ∷ bs) = ap suc (length-kept bs)
