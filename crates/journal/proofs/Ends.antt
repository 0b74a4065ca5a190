-- One step from the end of a journal: what it says of the bytes, and that it looks at no others.
use mathlib.Core.Path.{◌≡◌, refl, sym, ap, ◌∙◌}
use mathlib.Core.Bool.{true, ◌&&◌, and-true}
use mathlib.Core.List.{List, [], ◌∷◌}
use Prim.Native.Nat.{ℕ, ◌+◌, ◌-◌, ◌≤◌, ◌<◌}
use native.Mathlib.Omega.{arith}
use native.Mathlib.Nat.{add-zero}
use lib.Dec.{leb, eqb}
use lib.ListN.{length, get_or}
use borrow.Author.Tests.{leb-true, eqb-true, eq-eqb, ne_eqb, le-leb}
use Rattle.text.specs.Equal.{same_bytes}
use Rattle.text.specs.Parts.{part}
use Rattle.text.proofs.Cases.{by_test, both_left, both_right}
use Rattle.text.proofs.Parts.{part_bytes}
use Rattle.text.proofs.Equal.{same-equal, equal-same}
use Rattle.journal.specs.Journal.{is_entry, most, entry_at, trailer, length_in, is_trailer, before_trailer, at_trailer, last_entry, starts_at}
use Rattle.std.specs.Prelude.{Result, Ok, Err, Option, None}
use Rattle.text.specs.Checks.{refuse}
use Rattle.text.specs.declared.Code.TheVariants.{JournalBroken}
use Rattle.text.specs.declared.Refusal.{Refusal}
use Rattle.journal.specs.declared.Entry.{Entry as Found}

-- an entry that starts at a place, with a text of n bytes, and its trailer behind it, up to `end`
pub record Ends (s : List ℕ) (end at n : ℕ) : Type 0 where
  pub whole : at + (9 + n) ≡ end
  pub few : end ≤ most
  pub inside : end ≤ length s
  pub marked : part (end - 3) 3 s ≡ trailer n
  pub fine : is_entry (entry_at s at n) ≡ true

starts_same : (at n i m : ℕ) → starts_at at n ≡ starts_at i m → (at ≡ i) × (n ≡ m)
starts_same at n i m e =
    let same : ◌≡◌ {A = Found} (record { at = at; length = n }) (record { at = i; length = m }) = cc in
    (ap (λ (x : Found). x.at) same, ap (λ (x : Found). x.length) same)

nothing_starts : {P : Type 0} (at n : ℕ) → ◌≡◌ {A = Result (Option Found) Refusal} (Ok None) (starts_at at n) → P
nothing_starts at n e = let z : ◌≡◌ {A = ℕ} 0 1 = cc in absurd (omega arith)

fails_starts : {P : Type 0} (place at n : ℕ) → refuse JournalBroken place ≡ starts_at at n → P
fails_starts place at n e = let z : ◌≡◌ {A = ℕ} 0 1 = cc in absurd (omega arith)

before-found : (s : List ℕ) (place m at n : ℕ) → before_trailer s place m ≡ starts_at at n
    → (m ≡ n) × (at + (6 + n) ≡ place) × (is_entry (entry_at s at n) ≡ true)
unfolding before_trailer
before-found s place m at n e =
    by_test (leb (6 + m) place && is_entry (entry_at s (place - (6 + m)) m))
    (λ t.
    let same = starts_same (place - (6 + m)) m at n (rw t at e) in
    let room = leb-true (6 + m) place (both_left (leb (6 + m) place) (is_entry (entry_at s (place - (6 + m)) m)) t) in
    let ok = both_right (leb (6 + m) place) (is_entry (entry_at s (place - (6 + m)) m)) t in
    let p : place - (6 + m) ≡ at = same.0 in
    let q : m ≡ n = same.1 in
    (q, omega arith, rw (p, q) at ok))
    (λ t. fails_starts place at n (rw t at e))

-- what a step that finds an entry says of the bytes
pub starts : (s : List ℕ) (end at n : ℕ) → last_entry s end ≡ starts_at at n → Ends s end at n
unfolding last_entry at_trailer
starts s end at n e =
    by_test (eqb end 0)
    (λ z. nothing_starts at n (rw z at e))
    (λ z. by_test (leb 3 end && leb end most && leb end (length s))
    (λ l. by_test (is_trailer s (end - 3))
    (λ j.
    let two = both_left (leb 3 end && leb end most) (leb end (length s)) l in
    let three = leb-true 3 end (both_left (leb 3 end) (leb end most) two) in
    let found = before-found s (end - 3) (length_in s (end - 3)) at n (rw (z, l, j) at e) in
    record {
      whole = omega (arith, found.1);
      few = leb-true end most (both_right (leb 3 end) (leb end most) two);
      inside = leb-true end (length s) (both_right (leb 3 end && leb end most) (leb end (length s)) l);
      marked = same-equal (part (end - 3) 3 s) (trailer (length_in s (end - 3))) j ∙ ap trailer found.0;
      fine = found.2;
    })
    (λ j. fails_starts (end - 3) at n (rw (z, l, j) at e)))
    (λ l. fails_starts 0 at n (rw (z, l) at e)))

-- three bytes, one by one
three_bytes : (s : List ℕ) (place : ℕ) → place + 3 ≤ length s
    → part place 3 s ≡ get_or s place 0 ∷ get_or s (place + 1) 0 ∷ get_or s (place + 2) 0 ∷ []
three_bytes s place h = part_bytes 3 place s h ∙ rw (add-zero place)

same-two : (a b c x y z : ℕ) → a ∷ b ∷ c ∷ [] ≡ x ∷ y ∷ z ∷ [] → (a ≡ x) × (b ≡ y)
same-two a b c x y z e = (cc, cc)

-- the length that a trailer tells
pub told-length : (s : List ℕ) (place n : ℕ) → place + 3 ≤ length s → part place 3 s ≡ trailer n → length_in s place ≡ n
told-length s place n h e =
    let two = same-two _ _ _ _ _ _ (sym (three_bytes s place h) ∙ e) in
    rw (two.0, two.1) (omega arith)

-- and back: a step finds every entry whose bytes end there
pub finds : (s : List ℕ) (end at n : ℕ) → Ends s end at n → last_entry s end ≡ starts_at at n
unfolding last_entry at_trailer before_trailer
finds s end at n h =
    let w = h.whole in
    let p : end - 3 - (6 + n) ≡ at = omega arith in
    rw (
      ne_eqb end 0 (λ (z : end ≡ 0). omega arith),
      le-leb 3 end (omega arith),
      le-leb end most h.few,
      le-leb end (length s) h.inside,
      told-length s (end - 3) n (omega (arith, h.inside)) h.marked,
      equal-same (part (end - 3) 3 s) (trailer n) h.marked,
      le-leb (6 + n) (end - 3) (omega arith),
      p,
      h.fine,
    )

-- nothing is found at byte 0 alone
pub nothing : (s : List ℕ) (end : ℕ) → last_entry s end ≡ Ok None → end ≡ 0
unfolding last_entry at_trailer before_trailer
nothing s end e =
    by_test (eqb end 0) (λ z. eqb-true end 0 z)
    (λ z. by_test (leb 3 end && leb end most && leb end (length s))
    (λ l. by_test (is_trailer s (end - 3))
    (λ j. by_test (leb (6 + length_in s (end - 3)) (end - 3) && is_entry (entry_at s (end - 3 - (6 + length_in s (end - 3))) (length_in s (end - 3))))
    (λ t. nothing_starts _ _ (sym (rw (z, l, j, t) at e)))
    (λ t. nothing-fails _ (rw (z, l, j, t) at e)))
    (λ j. nothing-fails _ (rw (z, l, j) at e)))
    (λ l. nothing-fails 0 (rw (z, l) at e)))
  where
    nothing-fails : (place : ℕ) → ◌≡◌ {A = Result (Option Found) Refusal} (refuse JournalBroken place) (Ok None) → end ≡ 0
    nothing-fails place q = let x : ◌≡◌ {A = ℕ} 0 1 = cc in absurd (omega arith)

-- a refusal is that of a broken journal
pub refused : (s : List ℕ) (end : ℕ) (r : Refusal) → last_entry s end ≡ Err r → r ≡ record { code = JournalBroken; place = r.place }
unfolding last_entry at_trailer before_trailer
refused s end r e =
    by_test (eqb end 0)
    (λ z. let x : ◌≡◌ {A = Result (Option Found) Refusal} (Ok None) (Err r) = rw z at e in cc)
    (λ z. by_test (leb 3 end && leb end most && leb end (length s))
    (λ l. by_test (is_trailer s (end - 3))
    (λ j. by_test (leb (6 + length_in s (end - 3)) (end - 3) && is_entry (entry_at s (end - 3 - (6 + length_in s (end - 3))) (length_in s (end - 3))))
    (λ t. let x : starts_at (end - 3 - (6 + length_in s (end - 3))) (length_in s (end - 3)) ≡ Err r = rw (z, l, j, t) at e in cc)
    (λ t. broken-is _ (rw (z, l, j, t) at e)))
    (λ j. broken-is _ (rw (z, l, j) at e)))
    (λ l. broken-is 0 (rw (z, l) at e)))
  where
    broken-is : (place : ℕ) → ◌≡◌ {A = Result (Option Found) Refusal} (refuse JournalBroken place) (Err r)
        → r ≡ record { code = JournalBroken; place = r.place }
    broken-is place q =
        let same : ◌≡◌ {A = Refusal} (record { code = JournalBroken; place = place }) r = cc in
        sym same ∙ ap (λ (k : ℕ). record { code = JournalBroken; place = k }) (ap (λ (x : Refusal). x.place) same)

pub nothing-there : (s : List ℕ) → last_entry s 0 ≡ Ok None
unfolding last_entry
nothing-there s = refl

same_three : (a b c x y z : ℕ) → a ≡ x → b ≡ y → same_bytes (a ∷ b ∷ c ∷ []) (x ∷ y ∷ z ∷ []) ≡ eqb c z
unfolding same_bytes
same_three a b c x y z e f = rw (eq-eqb a x e, eq-eqb b y f) (and-true (eqb c z))

-- of bytes, the last of the three is all that a trailer is told by
pub trailer_test : (s : List ℕ) (place : ℕ) → place + 3 ≤ length s → get_or s place 0 < 256 → get_or s (place + 1) 0 < 256
    → is_trailer s place ≡ eqb (get_or s (place + 2) 0) 74
trailer_test s place h high low =
    rw (three_bytes s place h)
    (same_three (get_or s place 0) (get_or s (place + 1) 0) (get_or s (place + 2) 0) _ _ _ (omega arith) (omega arith))
