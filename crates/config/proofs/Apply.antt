-- What a configuration is once a command was applied to it: its flags, and what each of its sections holds.
use mathlib.Core.Path.{◌≡◌, refl, sym, ap, ◌∙◌}
use mathlib.Core.Bool.{false, cond}
use mathlib.Core.List.{List, [], ◌∷◌}
use Prim.Native.Nat.{ℕ, zero, suc, ◌+◌, ◌-◌, ◌<◌}
use native.Mathlib.Omega.{arith}
use lib.Dec.{eqb}
use lib.ListN.{length, get_or, replicate, drop, length-map, length-drop}
use lib.Seq.{length-take-le}
use borrow.Author.Tests.{ne_eqb}
use Rattle.text.specs.Parts.{part}
use Rattle.text.proofs.Cases.{by_eq}
use Rattle.field.proofs.Local.{part-byte}
use Rattle.section.specs.Layout.{layout_of, table_of, numbers}
use Rattle.section.specs.Contents.{Content, contents_at}
use Rattle.settings.specs.Settings.{contents_of, fixed_hold, settings_from, regions_from, airports_from, enroute_from, ascent_from, hours_from}
use Rattle.settings.specs.declared.Settings.{Settings}
use Rattle.command.specs.Text.{is_named}
use Rattle.command.specs.Record.{digits_of, flags_of}
use Rattle.command.specs.Sections.{held_in}
use Rattle.command.proofs.Each.{Each, each_all, each_map, each_with}
use Rattle.command.proofs.Parts.{present, body_of, holds}
use Rattle.command.proofs.Accepted.{Accepted, named-present, held-each}
use Rattle.config.specs.Config.{new_flag, new_flags, apply_to}

-- ---- Settings and what their sections hold

-- settings are their flags and what each section holds
pub settings-own : (x : Settings) → settings_from x.flags (contents_of x) ≡ x
unfolding settings_from contents_of fixed_hold regions_from airports_from enroute_from ascent_from hours_from
settings-own x = refl

-- settings whose sections hold the same are the same
pub settings-same : (fs : List ℕ) (g h : ℕ → List Content) → Each (λ k. g k ≡ h k) numbers → settings_from fs g ≡ settings_from fs h
unfolding settings_from
settings-same fs g h e =
    rw (e.0, e.1.0, e.1.1.0, e.1.1.1.0, e.1.1.1.1.0, e.1.1.1.1.1.0, e.1.1.1.1.1.1.0, e.1.1.1.1.1.1.1.0)

-- contents that a section k can hold: a record's own, or read out of a text
pub data Fit (k : ℕ) (cs : List Content) : Type 0 where
  Held : (x : Settings) → cs ≡ contents_of x k → Fit k cs
  Told : (b : List ℕ) → cs ≡ contents_at (layout_of k) b 0 → Fit k cs

module _ (fs : List ℕ) (h : ℕ → List Content) where
  fit2 : Fit 2 (h 2) → contents_of (settings_from fs h) 2 ≡ h 2
  unfolding settings_from contents_of fixed_hold regions_from layout_of table_of contents_at
  fit2 (Held x e) = rw e
  fit2 (Told b e) = rw e

  fit3 : Fit 3 (h 3) → contents_of (settings_from fs h) 3 ≡ h 3
  unfolding settings_from contents_of fixed_hold airports_from layout_of table_of contents_at
  fit3 (Held x e) = rw e
  fit3 (Told b e) = rw e

  fit4 : Fit 4 (h 4) → contents_of (settings_from fs h) 4 ≡ h 4
  unfolding settings_from contents_of fixed_hold enroute_from layout_of table_of contents_at
  fit4 (Held x e) = rw e
  fit4 (Told b e) = rw e

  fit5 : Fit 5 (h 5) → contents_of (settings_from fs h) 5 ≡ h 5
  unfolding settings_from contents_of fixed_hold ascent_from layout_of table_of contents_at
  fit5 (Held x e) = rw e
  fit5 (Told b e) = rw e

  fit6 : Fit 6 (h 6) → contents_of (settings_from fs h) 6 ≡ h 6
  unfolding settings_from contents_of fixed_hold layout_of table_of contents_at
  fit6 (Held x e) = rw e
  fit6 (Told b e) = rw e

  fit7 : Fit 7 (h 7) → contents_of (settings_from fs h) 7 ≡ h 7
  unfolding settings_from contents_of fixed_hold layout_of table_of contents_at
  fit7 (Held x e) = rw e
  fit7 (Told b e) = rw e

  fit8 : Fit 8 (h 8) → contents_of (settings_from fs h) 8 ≡ h 8
  unfolding settings_from contents_of fixed_hold layout_of table_of contents_at
  fit8 (Held x e) = rw e
  fit8 (Told b e) = rw e

  fit9 : Fit 9 (h 9) → contents_of (settings_from fs h) 9 ≡ h 9
  unfolding settings_from contents_of fixed_hold hours_from layout_of table_of contents_at
  fit9 (Held x e) = rw e
  fit9 (Told b e) = rw e

  -- what was put into settings is found there again
  pub contents_back : Each (λ k. Fit k (h k)) numbers → Each (λ k. contents_of (settings_from fs h) k ≡ h k) numbers
  contents_back f = (
    fit2 f.0,
    (
      fit3 f.1.0,
      (
        fit4 f.1.1.0,
        (
          fit5 f.1.1.1.0,
          (
            fit6 f.1.1.1.1.0,
            (fit7 f.1.1.1.1.1.0, (fit8 f.1.1.1.1.1.1.0, (fit9 f.1.1.1.1.1.1.1.0, tt))),
          ),
        ),
      ),
    ),
  )

-- ---- Sections after a command

-- what section k holds once the own bytes b of a command's section were applied: nothing alters it where there are none
abbrev pub set_by : ℕ → List ℕ → List Content → List Content
set_by k [] old = old
set_by k (b ∷ bs) old = contents_at (layout_of k) (b ∷ bs) 0

-- named is where bytes are
pub set-named : (k : ℕ) (b : List ℕ) (old : List Content) → cond (present b) (holds k b) old ≡ set_by k b old
set-named k [] old = refl
set-named k (c ∷ b) old = refl

set-fits : (x : Settings) (k : ℕ) (b : List ℕ) → Fit k (set_by k b (contents_of x k))
set-fits x k [] = Held x refl
set-fits x k (c ∷ b) = Told (c ∷ b) refl

module _ (x : Settings) (s : List ℕ) (a : Accepted s) where
  -- a command by its sections' own bytes
  pub hold_own : Each (λ k. cond (is_named s k) (held_in s k) (contents_of x k) ≡ set_by k (body_of s k) (contents_of x k)) numbers
  hold_own =
      each_with (λ k. is_named s k ≡ present (body_of s k)) (λ k. held_in s k ≡ holds k (body_of s k))
      (λ k. cond (is_named s k) (held_in s k) (contents_of x k) ≡ set_by k (body_of s k) (contents_of x k))
      (λ k n h. rw (h, n) (set-named k (body_of s k) (contents_of x k))) numbers (named-present s a) (held-each s a)

  -- applying a command, by its sections' own bytes
  pub apply-own : apply_to x s ≡ settings_from (new_flags x.flags (flags_of s)) (λ k. set_by k (body_of s k) (contents_of x k))
  unfolding apply_to
  apply-own =
      settings-same (new_flags x.flags (flags_of s)) (λ k. cond (is_named s k) (held_in s k) (contents_of x k))
      (λ k. set_by k (body_of s k) (contents_of x k)) hold_own

  -- each section afterwards, by its own bytes in the command
  pub section-own : Each (λ k. contents_of (apply_to x s) k ≡ set_by k (body_of s k) (contents_of x k)) numbers
  section-own =
      rw apply-own
      (contents_back (new_flags x.flags (flags_of s)) (λ k. set_by k (body_of s k) (contents_of x k))
      (each_all (λ k. Fit k (set_by k (body_of s k) (contents_of x k))) (λ k. set-fits x k (body_of s k)) numbers))

  -- a named section holds what the command holds, any other what it held
  pub section-after : Each (λ k. contents_of (apply_to x s) k ≡ cond (is_named s k) (held_in s k) (contents_of x k)) numbers
  section-after =
      each_with (λ k. contents_of (apply_to x s) k ≡ set_by k (body_of s k) (contents_of x k))
      (λ k. cond (is_named s k) (held_in s k) (contents_of x k) ≡ set_by k (body_of s k) (contents_of x k))
      (λ k. contents_of (apply_to x s) k ≡ cond (is_named s k) (held_in s k) (contents_of x k)) (λ k e f. e ∙ sym f) numbers section-own hold_own

-- ---- Flags after a command

-- as many flags as before
pub new_length : (os vs : List ℕ) → length (new_flags os vs) ≡ length os
unfolding new_flags
new_length [] vs = refl
new_length (o ∷ os) [] = refl
new_length (o ∷ os) (v ∷ vs) = ap suc (new_length os vs)

new_at : (os vs : List ℕ) (i : ℕ) → i < length os → i < length vs → get_or (new_flags os vs) i 0 ≡ new_flag (get_or os i 0) (get_or vs i 0)
unfolding new_flags
new_at [] vs i h k = absurd (omega arith)
new_at (o ∷ os) [] i h k = absurd (omega arith)
new_at (o ∷ os) (v ∷ vs) zero h k = refl
new_at (o ∷ os) (v ∷ vs) (suc i) h k = new_at os vs i (omega arith) (omega arith)

digits-at : (l : List ℕ) (i : ℕ) → get_or (digits_of l) i 0 ≡ get_or l i 0 - 48
digits-at [] i = refl
digits-at (b ∷ l) zero = refl
digits-at (b ∷ l) (suc i) = digits-at l i

-- byte 57, `9`, is the digit 9, and no other is
pub nine-is : (b : ℕ) → eqb (b - 48) 9 ≡ eqb b 57
nine-is b =
    by_eq b 57
    (λ (e : b ≡ 57). rw e)
    (λ (n : b ≡ 57 → ⊥). rw (ne_eqb b 57 n) (ne_eqb (b - 48) 9 (λ (e : b - 48 ≡ 9). n (omega arith))))

-- the flags by the command's
pub flags-own : (x : Settings) (s : List ℕ) → (apply_to x s).flags ≡ new_flags x.flags (flags_of s)
unfolding apply_to settings_from
flags-own x s = refl

-- a configuration keeps its seven flags
pub flags-length : (x : Settings) (s : List ℕ) → length (apply_to x s).flags ≡ length x.flags
unfolding apply_to settings_from
flags-length x s = new_length x.flags (flags_of s)

-- flag i stays where the command's is 9, and else is the command's
pub flag-after : (x : Settings) (s : List ℕ) (i : ℕ) → Accepted s → length x.flags ≡ 7 → i < 7
    → get_or (apply_to x s).flags i 0 ≡ cond (eqb (get_or s (5 + i) 0) 57) (get_or x.flags i 0) (get_or s (5 + i) 0 - 48)
unfolding apply_to settings_from
flag-after x s i a n h =
    let k = a.head.inside in
    let seven : length (part 5 7 s) ≡ 7 = length-take-le 7 (drop 5 s) (omega (arith, length-drop 5 s)) in
    new_at x.flags (flags_of s) i (omega arith) (omega (arith, length-map (part 5 7 s) (λ (b : ℕ). b - 48)))
    ∙ rw (digits-at (part 5 7 s) i, part-byte 7 s 5 i h, nine-is (get_or s (5 + i) 0))

-- ---- A command that changes nothing

new_none : (n : ℕ) (os : List ℕ) → new_flags os (replicate n 9) ≡ os
unfolding new_flags
new_none zero [] = refl
new_none zero (o ∷ os) = refl
new_none (suc n) [] = refl
new_none (suc n) (o ∷ os) = ap (λ (l : List ℕ). o ∷ l) (new_none n os)

-- seven flags 9 and no section named leave a configuration as it is
pub applies_nothing : (x : Settings) (s : List ℕ) → flags_of s ≡ replicate 7 9 → Each (λ k. is_named s k ≡ false) numbers → apply_to x s ≡ x
unfolding apply_to
applies_nothing x s f e =
    settings-same (new_flags x.flags (flags_of s)) (λ k. cond (is_named s k) (held_in s k) (contents_of x k)) (contents_of x)
    (each_map (λ k. is_named s k ≡ false) (λ k. cond (is_named s k) (held_in s k) (contents_of x k) ≡ contents_of x k) (λ k n. rw n) numbers e)
    ∙ ap (λ (fs : List ℕ). settings_from fs (contents_of x)) (ap (new_flags x.flags) f ∙ new_none 7 x.flags)
    ∙ settings-own x
