-- The call's answer: no bit is set just where either way round is the same, and the bits are those of what both set differently.
use mathlib.Core.Path.{◌≡◌, refl, sym, ap, ◌∙◌}
use mathlib.Core.Logic.{◌↔◌}
use mathlib.Core.Bool.{Bool, true, false, cond, ◌&&◌, not}
use mathlib.Core.List.{List}
use Prim.Native.Nat.{ℕ, ◌-◌, ◌≤◌, ◌<◌}
use native.Mathlib.Omega.{arith}
use lib.Dec.{eqb, leb}
use lib.ListN.{length}
use borrow.Author.Tests.{eqb-true, eq-eqb, le-leb}
use Rattle.text.specs.Equal.{same_bytes}
use Rattle.section.specs.Layout.{numbers}
use Rattle.command.specs.Text.{is_named, longest, check_command}
use Rattle.command.specs.Sections.{bytes_of, held_in}
use Rattle.command.proofs.Each.{Each}
use Rattle.command.proofs.Accepted.{accepted}
use Rattle.command.proofs.Standing.{one-most}
use Rattle.join.specs.Join.{join_text, join}
use Rattle.join.specs.Join as J
use Rattle.join.specs.declared.Fault.{Fault as JoinFault}
use Rattle.join.specs.declared.Fault.TheVariants.{First as JoinFirst, Second as JoinSecond, Room}
use Rattle.join.proofs.Laws.{join-short}
use Rattle.commute.specs.Commute.{sets, flag_of, flag_apart, section_apart, flag_numbers, bits_of, bit, all_apart, by_seen, compared}
use Rattle.commute.specs.Order.{EitherWay, Agree}
use Rattle.commute.specs.declared.Apart.{Apart}
use Rattle.commute.specs.declared.Fault.{Fault}
use Rattle.commute.specs.declared.Fault.TheVariants.{First, Second}
use Rattle.commute.proofs.Numbered.{each_of, each_in, one-behind, of_number, each_number}
use Rattle.commute.proofs.Same.{same_contents_lem}
use Rattle.commute.proofs.Order.{either_way}
use Rattle.commute.proofs.Bits.{bit_is, bits_under, none_bits, bits_none}
use Rattle.commute.proofs.Turns.{flag_at, flags-next, section-at}
use Rattle.std.specs.Prelude.{Result, Ok, Err}
use Rattle.text.specs.declared.Refusal.{Refusal}

-- ---- The test of one flag or section: both set it, and not the same

-- it holds just where both do and the third does not
all_three : (s t u : Bool) → ((s && t) && not u) ≡ true → (s ≡ true) × (t ≡ true) × (u ≡ false)
all_three true true false e = (refl, refl, refl)
all_three true true true e = let z : ◌≡◌ {A = ℕ} 0 1 = cc in absurd (omega arith)
all_three true false u e = let z : ◌≡◌ {A = ℕ} 0 1 = cc in absurd (omega arith)
all_three false t u e = let z : ◌≡◌ {A = ℕ} 0 1 = cc in absurd (omega arith)

-- and fails just where both imply the third
same_where_both : (s t u : Bool) → ((s && t) && not u) ≡ false → s ≡ true → t ≡ true → u ≡ true
same_where_both s t true e m n = refl
same_where_both s t false e m n = let z : ◌≡◌ {A = Bool} true false = rw (m, n) at e in let w : ◌≡◌ {A = ℕ} 0 1 = cc in absurd (omega arith)

fails_where_same : (s t u : Bool) → (s ≡ true → t ≡ true → u ≡ true) → ((s && t) && not u) ≡ false
fails_where_same true true u h = rw (h refl refl)
fails_where_same true false u h = refl
fails_where_same false t u h = refl

-- the test and its bit
one_test : (t : Bool) → ◌≡◌ {A = ℕ} (cond t 1 0) 1 → t ≡ true
one_test true e = refl
one_test false e = absurd (omega arith)

-- a test that stands for something fails just where that is not so
test_fails : (u : Bool) {E : Type 0} → ((u ≡ true) ↔ E) → (u ≡ false) ↔ (¬ E)
test_fails true e = (λ f. let w : ◌≡◌ {A = ℕ} 0 1 = cc in absurd (omega arith), λ n. absurd (n (e.0 refl)))
test_fails false e = (λ f g. let t : ◌≡◌ {A = Bool} false true = e.1 g in let w : ◌≡◌ {A = ℕ} 0 1 = cc in absurd (omega arith), λ n. refl)

-- the bit of a test by the three things that it asks
bit_three : (n : ℕ) (s t u : Bool) {E : Type 0} → n ≡ cond ((s && t) && not u) 1 0 → (s ≡ true → t ≡ true → (u ≡ true) ↔ E)
    → (n ≡ 1) ↔ ((s ≡ true) × (t ≡ true) × (¬ E))
bit_three n s t u is e = (
  λ o.
      let h = all_three s t u (one_test ((s && t) && not u) (sym is ∙ o)) in
      (h.0, h.1, (test_fails u (e h.0 h.1)).0 h.2),
  λ h.
      let f : u ≡ false = (test_fails u (e h.0 h.1)).1 h.2 in
      is ∙ rw (h.0, h.1, f),
)

equal_test : (f g : ℕ) → (eqb f g ≡ true) ↔ (f ≡ g)
equal_test f g = (eqb-true f g, eq-eqb f g)

-- ---- Flags by their number

flag-of : (P : ℕ → Type 0) → Each P flag_numbers → (i : ℕ) → i < 7 → P i
flag-of P e i h = each_of P flag_numbers e i (one-behind i flag_numbers i (rw (flags-next i h, eq-eqb i i refl)))

each-flag : (P : ℕ → Type 0) → ((i : ℕ) → i < 7 → P i) → Each P flag_numbers
each-flag P f = each_in P flag_numbers (λ i o. f i (omega (arith, one-most 6 flag_numbers i (omega arith) o)))

-- ---- Two accepted texts

module _ (a b : List ℕ) (x : check_command a ≡ (Ok tt)) (y : check_command b ≡ (Ok tt)) where
  abbrev flags : ℕ
  flags = bits_of (flag_apart a b) flag_numbers

  abbrev sections : ℕ
  sections = bits_of (section_apart a b) numbers

  -- the answer is what both set differently
  pub compared_is : compared a b ≡ Ok (all_apart a b)
  unfolding compared
  compared_is = rw (x, y)

  -- bit i of the flags is set just where both set flag i, and differently
  pub flag-bit : (i : ℕ) → i < 7
      → (bit i flags ≡ 1) ↔ ((sets (flag_of a i) ≡ true) × (sets (flag_of b i) ≡ true) × (¬ (flag_of a i ≡ flag_of b i)))
  flag-bit i h =
      bit_three (bit i flags) (sets (flag_of a i)) (sets (flag_of b i)) (eqb (flag_of a i) (flag_of b i))
      (bit_is (flag_apart a b) flag_numbers i h ∙ ap (λ (j : ℕ). cond (flag_apart a b j) 1 0) (flag_at i h))
      (λ m n. equal_test (flag_of a i) (flag_of b i))

  -- there are seven
  pub flags-small : flags < 128
  flags-small = bits_under (flag_apart a b) flag_numbers 7 (omega arith)

  -- bit k - 2 of the sections is set just where both name section k, with other contents
  pub section-bit : (k : ℕ) → 2 ≤ k → k ≤ 9
      → (bit (k - 2) sections ≡ 1) ↔ ((is_named a k ≡ true) × (is_named b k ≡ true) × (¬ (held_in a k ≡ held_in b k)))
  section-bit k lo hi =
      bit_three (bit (k - 2) sections) (is_named a k) (is_named b k) (same_bytes (bytes_of a k) (bytes_of b k))
      (bit_is (section_apart a b) numbers (k - 2) (omega arith) ∙ ap (λ (j : ℕ). cond (section_apart a b j) 1 0) (section-at k lo hi))
      (same_contents_lem a b (accepted a x) (accepted b y) k lo hi)

  -- there are eight
  pub sections-small : sections < 256
  sections-small = bits_under (section_apart a b) numbers 8 (omega arith)

  none-agree : (flags ≡ 0) × (sections ≡ 0) → Agree a b
  none-agree z =
      record {
        flags = λ i h m n.
            eqb-true (flag_of a i) (flag_of b i)
            (same_where_both (sets (flag_of a i)) (sets (flag_of b i)) (eqb (flag_of a i) (flag_of b i))
            (flag-of (λ j. flag_apart a b j ≡ false) (bits_none (flag_apart a b) flag_numbers z.0) i h) m n);
        sections = λ k lo hi m n.
            (same_contents_lem a b (accepted a x) (accepted b y) k lo hi m n).0
            (same_where_both (is_named a k) (is_named b k) (same_bytes (bytes_of a k) (bytes_of b k))
            (of_number (λ j. section_apart a b j ≡ false) (bits_none (section_apart a b) numbers z.1) k lo hi) m n);
      }

  agree-none : Agree a b → (flags ≡ 0) × (sections ≡ 0)
  agree-none g = (
    none_bits (flag_apart a b) flag_numbers
        (each-flag (λ j. flag_apart a b j ≡ false)
        (λ i h.
        fails_where_same (sets (flag_of a i)) (sets (flag_of b i)) (eqb (flag_of a i) (flag_of b i))
        (λ m n. eq-eqb (flag_of a i) (flag_of b i) (g.flags i h m n)))),
    none_bits (section_apart a b) numbers
        (each_number (λ j. section_apart a b j ≡ false)
        (λ k lo hi.
        fails_where_same (is_named a k) (is_named b k) (same_bytes (bytes_of a k) (bytes_of b k))
        (λ m n. (same_contents_lem a b (accepted a x) (accepted b y) k lo hi m n).1 (g.sections k lo hi m n)))),
  )

  -- no bit is set just where both orders give the same configuration, from every valid one
  pub none_either : ((flags ≡ 0) × (sections ≡ 0)) ↔ EitherWay a b
  none_either = (
    λ z. (either_way a b x y).1 (none-agree z),
    λ h. agree-none ((either_way a b x y).0 h),
  )

  -- so the answer says yes exactly there
  pub yes-is : (compared a b ≡ Ok (record { flags = 0; sections = 0 })) ↔ EitherWay a b
  yes-is = (
    λ e. none_either.0 (zeros (all_apart a b) (sym compared_is ∙ e)),
    λ h. let z = none_either.1 h in compared_is ∙ rw (z.0, z.1),
  )
    where
      zeros : (x : Apart) → ◌≡◌ {A = Result Apart Fault} (Ok x) (Ok (record { flags = 0; sections = 0 })) → (x.flags ≡ 0) × (x.sections ≡ 0)
      zeros x e = let z : x ≡ record { flags = 0; sections = 0 } = cc in (ap (λ (y : Apart). y.flags) z, ap (λ (y : Apart). y.sections) z)

-- ---- Refusals

-- a join's words for the same
abbrev pub as_join : Fault → JoinFault
as_join (First r) = JoinFirst r
as_join (Second r) = JoinSecond r

module _ (a b : List ℕ) (room : ℕ) (l : longest ≤ room) where
  fits : check_command a ≡ Ok tt → check_command b ≡ Ok tt → leb (length (join_text a b)) room ≡ true
  fits x y = le-leb (length (join_text a b)) room (omega (arith, l, join-short a b x y))

  -- those of a join with room enough
  pub refuses_as_join : (f : Fault) → (compared a b ≡ Err f) ↔ (join a b room ≡ Err (as_join f))
  unfolding compared join
  refuses_as_join f = go f (check_command a) (check_command b) refl refl
    where
      go : (f : Fault) (x y : Result (Unit {0}) Refusal) → check_command a ≡ x → check_command b ≡ y
          → (by_seen x y (all_apart a b) ≡ Err f) ↔ (J.by_seen x y (join_text a b) room ≡ Err (as_join f))
      go (First r) (Err d) y e g = (λ h. cc, λ h. cc)
      go (Second r) (Err d) y e g = (λ h. cc, λ h. cc)
      go (First r) (Ok u) (Err d) e g = (λ h. cc, λ h. cc)
      go (Second r) (Ok u) (Err d) e g = (λ h. cc, λ h. cc)
      go f (Ok u) (Ok v) e g = (
        λ h. cc,
        λ h. let k : ◌≡◌ {A = J.Joined} (Ok (join_text a b)) (Err (as_join f)) = rw (fits e g) at h in cc,
      )

  -- and no others: there is room
  pub joins_in_room : ¬ (join a b room ≡ Err Room)
  unfolding join
  joins_in_room = go (check_command a) (check_command b) refl refl
    where
      go : (x y : Result (Unit {0}) Refusal) → check_command a ≡ x → check_command b ≡ y → ¬ (J.by_seen x y (join_text a b) room ≡ Err Room)
      go (Err r) y e g h = cc
      go (Ok u) (Err r) e g h = cc
      go (Ok u) (Ok v) e g h = let k : ◌≡◌ {A = J.Joined} (Ok (join_text a b)) (Err Room) = rw (fits e g) at h in cc
