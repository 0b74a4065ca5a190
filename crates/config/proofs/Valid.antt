-- A valid configuration stays valid under every accepted command.
use mathlib.Core.Path.{◌≡◌, refl}
use mathlib.Core.Bool.{true, false}
use mathlib.Core.List.{List, [], ◌∷◌}
use Prim.Native.Nat.{ℕ, zero, suc, ◌-◌, ◌≤◌}
use native.Mathlib.Omega.{arith}
use lib.Dec.{leb, eqb}
use lib.ListN.{length, replicate}
use borrow.Author.Tests.{eqb-true}
use Rattle.text.specs.Checks.{is_fine}
use Rattle.text.specs.Parts.{part}
use Rattle.text.proofs.Cases.{by_test, both_left, both_right}
use Rattle.section.specs.Layout.{layout_of, table_of, numbers}
use Rattle.section.specs.Contents.{Content, contents_at, contents_allowed}
use Rattle.lists.specs.Lists.{all_zero, names_allowed, airfields_allowed, regions_zero, regions_allowed, boxes_allowed}
use Rattle.settings.specs.Settings.{contents_of, fixed_hold, settings_from, regions_from, airports_from, enroute_from, ascent_from, hours_from}
use Rattle.settings.specs.declared.Settings.{Settings}
use Rattle.section.proofs.Own.{own-some}
use Rattle.section.proofs.Allowed.{contents_fine}
use Rattle.command.specs.Text.{is_flag, check_command}
use Rattle.command.specs.Record.{digits_of}
use Rattle.command.proofs.Each.{Each, each_with}
use Rattle.command.proofs.Head.{passes}
use Rattle.command.proofs.Parts.{body_of, Place, Absent, Present}
use Rattle.command.proofs.Accepted.{accepted, sound}
use Rattle.config.specs.Config.{new_flag, new_flags, apply_to}
use Rattle.settings.specs.Valid.{flags_valid, sections_valid, valid, reset}
use Rattle.config.proofs.Apply.{set_by, section-own, flags-own}
use Rattle.std.specs.Prelude.{Ok}

-- ---- Flags

flag-valid : (o b : ℕ) → leb o 1 ≡ true → is_flag b ≡ true → leb (new_flag o (b - 48)) 1 ≡ true
flag-valid o b h f =
    by_test (eqb b 48)
    (λ (p : eqb b 48 ≡ true). rw (eqb-true b 48 p))
    (λ (p : eqb b 48 ≡ false).
    by_test (eqb b 49)
    (λ (q : eqb b 49 ≡ true). rw (eqb-true b 49 q))
    (λ (q : eqb b 49 ≡ false).
    let nine : eqb b 57 ≡ true = rw (p, q) at f in
    rw (eqb-true b 57 nine) h))

flags-valid : (os bs : List ℕ) (n : ℕ) → flags_valid os ≡ true → passes (replicate n is_flag) bs ≡ true
    → flags_valid (new_flags os (digits_of bs)) ≡ true
unfolding flags_valid new_flags passes
flags-valid [] bs n h f = refl
flags-valid (o ∷ os) [] n h f = h
flags-valid (o ∷ os) (b ∷ bs) zero h f = cc
flags-valid (o ∷ os) (b ∷ bs) (suc n) h f =
    rw (flag-valid o b (both_left (leb o 1) (flags_valid os) h) (both_left (is_flag b) (passes (replicate n is_flag) bs) f))
    (flags-valid os bs n (both_right (leb o 1) (flags_valid os) h) (both_right (is_flag b) (passes (replicate n is_flag) bs) f))

-- ---- Sections

-- what section k of x holds is allowed
abbrev ok : Settings → ℕ → Type 0
ok x k = is_fine (contents_allowed (layout_of k) 0 (contents_of x k)) ≡ true

each-valid : (ks : List ℕ) (x : Settings) → sections_valid ks x ≡ true → Each (ok x) ks
unfolding sections_valid
each-valid [] x e = tt
each-valid (k ∷ ks) x e =
    let here = is_fine (contents_allowed (layout_of k) 0 (contents_of x k)) in
    (both_left here (sections_valid ks x) e, each-valid ks x (both_right here (sections_valid ks x) e))

all_valid : (ks : List ℕ) (x : Settings) → Each (ok x) ks → sections_valid ks x ≡ true
unfolding sections_valid
all_valid [] x e = refl
all_valid (k ∷ ks) x e = rw e.0 (all_valid ks x e.1)

set-some : (k : ℕ) (b : List ℕ) (old : List Content) → 1 ≤ length b → set_by k b old ≡ contents_at (layout_of k) b 0
set-some k [] old h = absurd (omega arith)
set-some k (c ∷ b) old h = refl

set-valid : (k : ℕ) (b : List ℕ) (old : List Content) → is_fine (contents_allowed (layout_of k) 0 old) ≡ true → Place k b
    → is_fine (contents_allowed (layout_of k) 0 (set_by k b old)) ≡ true
set-valid k b old h (Absent none) = rw none h
set-valid k b old h (Present some own) =
    rw (set-some k b old (own-some (layout_of k) b own), contents_fine (layout_of k) b 0 (length b) 0 own)

-- ---- The whole

-- what a valid configuration becomes under an accepted command is valid
pub applies_valid : (x : Settings) (s : List ℕ) → valid x ≡ true → check_command s ≡ Ok tt → valid (apply_to x s) ≡ true
unfolding valid
applies_valid x s h e =
    let a = accepted s e in
    let y : Settings = apply_to x s in
    let before = both_right (flags_valid x.flags) (sections_valid numbers x) h in
    let flags : flags_valid y.flags ≡ true =
    rw (flags-own x s) (flags-valid x.flags (part 5 7 s) 7 (both_left (flags_valid x.flags) (sections_valid numbers x) h) (sound s a).flags) in
    let placed = each_with (ok x) (λ k. Place k (body_of s k))
    (λ k. is_fine (contents_allowed (layout_of k) 0 (set_by k (body_of s k) (contents_of x k))) ≡ true)
    (λ k v p. set-valid k (body_of s k) (contents_of x k) v p) numbers (each-valid numbers x before) (sound s a).sections in
    rw flags
    (all_valid numbers y
    (each_with (λ k. contents_of y k ≡ set_by k (body_of s k) (contents_of x k))
    (λ k. is_fine (contents_allowed (layout_of k) 0 (set_by k (body_of s k) (contents_of x k))) ≡ true) (ok y) (λ k c v. rw c v) numbers
    (section-own x s a) placed))

-- a configuration after reset is valid
pub reset-valid : valid reset ≡ true
unfolding reset valid flags_valid sections_valid settings_from contents_of fixed_hold contents_allowed layout_of table_of regions_from airports_from enroute_from ascent_from hours_from airfields_allowed all_zero names_allowed boxes_allowed regions_zero regions_allowed
reset-valid = refl
