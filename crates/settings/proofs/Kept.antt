-- The record's sections out of what they hold and back: a section that is not named is zero, and nothing but zero.
use mathlib.Core.Path.{◌≡◌, refl, sym, ap₂}
use mathlib.Core.Bool.{Bool, true, false, cond, ◌&&◌}
use mathlib.Core.List.{List, [], ◌∷◌}
use Prim.Native.Nat.{ℕ, zero, suc}
use lib.Dec.{eqb}
use lib.ListN.{length}
use borrow.Author.Tests.{eqb-true}
use Rattle.lists.specs.Lists.{all_zero, regions_zero, no_airfields}
use Rattle.lists.specs.declared.Airfields.{Airfields}
use Rattle.lists.specs.declared.Boxes.{Boxes}
use Rattle.lists.proofs.RoundTrip.{airfields-nothing, boxes-nothing}
use Rattle.text.proofs.Cases.{both_left, both_right}
use Rattle.section.specs.Contents.{Content, Amount, Names, Areas}
use Rattle.settings.specs.Settings.{regions_hold, airports_hold, enroute_hold, ascent_hold, descent_hold, digit_hold, hours_hold, amount_in, by_phase, regions_from, airports_from, enroute_from, ascent_from, descent_from, hours_from}
use Rattle.settings.specs.Valid.{is_zero, are_zero}
use Rattle.settings.specs.declared.Regions.{Regions}
use Rattle.settings.specs.declared.ByPhase.{ByPhase}
use Rattle.settings.specs.declared.Airports.{Airports}
use Rattle.settings.specs.declared.Enroute.{Enroute}
use Rattle.settings.specs.declared.Ascent.{Ascent}
use Rattle.settings.specs.declared.Descent.{Descent}
use Rattle.settings.specs.declared.Hours.{Hours}

-- whether a list of airfields, or of boxes, is all zero
abbrev no_names : Airfields → Bool
no_names l = eqb l.count 0 && all_zero l.names

abbrev no_areas : Boxes → Bool
no_areas l = eqb l.count 0 && regions_zero l.regions

regions-of : Boxes → Boxes → Regions
regions-of a b = record { reporting = a; inhibiting = b }

-- section 2
pub regions-kept : (x : Regions) → length x.reporting.regions ≡ 16 → length x.inhibiting.regions ≡ 16 → (n : Bool) (cs : List Content)
    → cs ≡ cond n (regions_hold x) [] → (n ≡ false → (no_areas x.reporting ≡ true) × (no_areas x.inhibiting ≡ true)) → regions_from cs ≡ x
unfolding regions_from regions-of
regions-kept x a b true cs e z = rw e
regions-kept x a b false cs e z =
    rw e (ap₂ regions-of (sym (boxes-nothing x.reporting a (z refl).0)) (sym (boxes-nothing x.inhibiting b (z refl).1)))

airports-of : ByPhase → ByPhase → ℕ → Airports
airports-of a b n = record { selected = a; inhibited = b; routine = n }

phases_kept : (x : ByPhase) → length x.ascent.names ≡ 80 → length x.descent.names ≡ 80 → no_names x.ascent ≡ true
    → no_names x.descent ≡ true → x ≡ by_phase no_airfields no_airfields
phases_kept x a d y z = ap₂ by_phase (airfields-nothing x.ascent a y) (airfields-nothing x.descent d z)

-- section 3
pub airports-kept : (x : Airports) → (length x.selected.ascent.names ≡ 80) × (length x.selected.descent.names ≡ 80)
    → (length x.inhibited.ascent.names ≡ 80) × (length x.inhibited.descent.names ≡ 80) → (n : Bool) (cs : List Content)
    → cs ≡ cond n (airports_hold x) []
    → (n ≡ false
    → ((no_names x.selected.ascent ≡ true) × (no_names x.selected.descent ≡ true))
    × ((no_names x.inhibited.ascent ≡ true) × (no_names x.inhibited.descent ≡ true))
    × (eqb x.routine 0 ≡ true))
    → airports_from cs ≡ x
unfolding airports_from airports-of
airports-kept x a b true cs e z = rw e
airports-kept x a b false cs e z =
    let w = z refl in
    let s = phases_kept x.selected a.0 a.1 w.0.0 w.0.1 in
    let i = phases_kept x.inhibited b.0 b.1 w.1.0 w.1.1 in
    let r : x.routine ≡ 0 = eqb-true x.routine 0 w.2 in
    let g : airports-of (by_phase no_airfields no_airfields) (by_phase no_airfields no_airfields) 0 ≡ airports-of x.selected x.inhibited x.routine = rw (s, i, r) in
    rw e g

enroute-of : ℕ → ℕ → Enroute
enroute-of a b = record { interval = a; wind = b }

-- section 4
pub enroute-kept : (x : Enroute) (n : Bool) (cs : List Content) → cs ≡ cond n (enroute_hold x) []
    → (n ≡ false → (eqb x.interval 0 ≡ true) × (eqb x.wind 0 ≡ true)) → enroute_from cs ≡ x
unfolding enroute_from enroute-of
enroute-kept x true cs e z = rw e
enroute-kept x false cs e z =
    let w = z refl in
    rw e (ap₂ enroute-of (sym (eqb-true x.interval 0 w.0)) (sym (eqb-true x.wind 0 w.1)))

ascent-of : ℕ → ℕ → ℕ → ℕ → ℕ → ℕ → ℕ → ℕ → Ascent
ascent-of a b c d e f g h =
    record { mode = a; interval1 = b; duration = c; interval2 = d; total = e; top = f; list = g; timer = h }

-- all eight numbers of section 5
pub record NoAscent (x : Ascent) : Type 0 where
  pub mode : eqb x.mode 0 ≡ true
  pub interval1 : eqb x.interval1 0 ≡ true
  pub duration : eqb x.duration 0 ≡ true
  pub interval2 : eqb x.interval2 0 ≡ true
  pub total : eqb x.total 0 ≡ true
  pub top : eqb x.top 0 ≡ true
  pub list : eqb x.list 0 ≡ true
  pub timer : eqb x.timer 0 ≡ true

ascent-nothing : (x : Ascent) → NoAscent x → ascent-of 0 0 0 0 0 0 0 0 ≡ ascent-of x.mode x.interval1 x.duration x.interval2 x.total x.top x.list x.timer
ascent-nothing x z =
    rw (
      eqb-true x.mode 0 z.mode,
      eqb-true x.interval1 0 z.interval1,
      eqb-true x.duration 0 z.duration,
      eqb-true x.interval2 0 z.interval2,
      eqb-true x.total 0 z.total,
      eqb-true x.top 0 z.top,
      eqb-true x.list 0 z.list,
      eqb-true x.timer 0 z.timer,
    )

-- section 5
pub ascent-kept : (x : Ascent) (n : Bool) (cs : List Content) → cs ≡ cond n (ascent_hold x) [] → (n ≡ false → NoAscent x) → ascent_from cs ≡ x
unfolding ascent_from ascent-of
ascent-kept x true cs e z = rw e
ascent-kept x false cs e z = rw e (ascent-nothing x (z refl))

-- sections 6 and 8
pub digit-kept : (d : ℕ) (n : Bool) (cs : List Content) → cs ≡ cond n (digit_hold d) [] → (n ≡ false → eqb d 0 ≡ true) → amount_in cs 0 ≡ d
digit-kept d true cs e z = rw e
digit-kept d false cs e z = rw e (sym (eqb-true d 0 (z refl)))

-- what is all zero is zero at each number
zero-at : (cs : List Content) → are_zero cs ≡ true → (i : ℕ) → amount_in cs i ≡ 0
unfolding are_zero
zero-at [] e i = refl
zero-at (Amount v ∷ cs) e zero = eqb-true v 0 (both_left (eqb v 0) (are_zero cs) e)
zero-at (Names l ∷ cs) e zero = refl
zero-at (Areas l ∷ cs) e zero = refl
zero-at (c ∷ cs) e (suc i) = zero-at cs (both_right (is_zero c) (are_zero cs) e) i

descent-of : ℕ → ℕ → ℕ → ℕ → ℕ → Descent
descent-of a b c d e = record { mode = a; interval = b; top = c; list = d; timer = e }

-- section 7
pub descent-kept : (x : Descent) (n : Bool) (cs : List Content) → cs ≡ cond n (descent_hold x) [] → (n ≡ false → are_zero (descent_hold x) ≡ true)
    → descent_from cs ≡ x
unfolding descent-of
descent-kept x true cs e z = rw e
descent-kept x false cs e z =
    let w = zero-at (descent_hold x) (z refl) in
    let a : x.mode ≡ 0 = w 0 in
    let b : x.interval ≡ 0 = w 1 in
    let c : x.top ≡ 0 = w 2 in
    let d : x.list ≡ 0 = w 3 in
    let f : x.timer ≡ 0 = w 4 in
    let g : descent-of 0 0 0 0 0 ≡ descent-of x.mode x.interval x.top x.list x.timer = rw (a, b, c, d, f) in
    rw e g

hours-of : ℕ → ℕ → Hours
hours-of a b = record { start = a; end = b }

-- section 9
pub hours-kept : (x : Hours) (n : Bool) (cs : List Content) → cs ≡ cond n (hours_hold x) []
    → (n ≡ false → (eqb x.start 0 ≡ true) × (eqb x.end 0 ≡ true)) → hours_from cs ≡ x
unfolding hours_from hours-of
hours-kept x true cs e z = rw e
hours-kept x false cs e z =
    let w = z refl in
    rw e (ap₂ hours-of (sym (eqb-true x.start 0 w.0)) (sym (eqb-true x.end 0 w.1)))
