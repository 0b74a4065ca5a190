-- The accepted command: 22 bytes and then the named sections' own bytes.
use mathlib.Core.Path.{◌≡◌, refl, sym, ap, ap₂, ◌∙◌}
use mathlib.Core.Bool.{true, false, ◌&&◌}
use mathlib.Core.List.{List, ◌∷◌, ◌++◌, map, append_assoc, append-nil}
use Prim.Native.Nat.{ℕ, ◌+◌, ◌≤◌, ◌<◌}
use native.Mathlib.Omega.{arith}
use lib.Dec.{leb, eqb}
use lib.ListN.{length, get_or, drop, length-drop, take-append-drop}
use lib.Seq.{drop-cons, take-add, drop-drop, length-take-le, drop-length}
use borrow.Author.Tests.{leb-true, le-leb, eq-eqb, eqb-true}
use Rattle.text.specs.Parts.{part}
use Rattle.text.proofs.Cases.{by_test, both_left, both_right}
use Rattle.text.proofs.Parts.{part-rest}
use Rattle.text.proofs.Checks.{err_ok, must-held}
use Rattle.text.specs.Checks.{after}
use Rattle.field.proofs.Local.{after-cases, part-byte}
use Rattle.section.specs.Layout.{layout_of, table_of, items_most, numbers}
use Rattle.command.specs.Text.{is_flag, is_downlink, is_indicator, is_named, check_head, check_from, sections_most, longest, ended, check_command}
use Rattle.command.specs.Sections.{is_one_of, held_in}
use Rattle.command.proofs.Each.{Each, Rising}
use Rattle.command.proofs.Head.{Head, head-next, head-passes, passes, passes-apart, passes_at, part-cons}
use Rattle.command.proofs.Parts.{present, marks, bodies, text_of, body_of, parts_of, flag_tests, Sound, holds}
use Rattle.command.proofs.Marks.{byte_of, indicators, indicators_pass, marks_are}
use Rattle.command.proofs.Walk.{Walked, walked, held-body}
use Rattle.std.specs.Prelude.{Result, Ok, Err}
use Rattle.text.specs.declared.Refusal.{Refusal}
use Rattle.text.specs.declared.Code.TheVariants.{WrongEnd}

-- ---- What the check says

-- the longest text is 22 bytes and every section at its longest
pub longest-is : longest ≡ 22 + sections_most numbers
unfolding sections_most layout_of table_of items_most
longest-is = refl

-- the 22 bytes, then the named sections up to the end, and no more bytes than the longest has
pub record Accepted (s : List ℕ) : Type 0 where
  pub short : length s ≤ longest
  pub head : Head s
  pub walk : check_from numbers s 22 ≡ Ok (length s)

ended-next : (s : List ℕ) (r : Result ℕ Refusal) → ended s r ≡ Ok tt → r ≡ Ok (length s)
ended-next s (Ok at) e = ap Ok (eqb-true at (length s) (must-held (eqb at (length s)) WrongEnd at e))
ended-next s (Err r) e = err_ok r tt e

-- what an accepted text is
pub accepted : (s : List ℕ) → check_command s ≡ Ok tt → Accepted s
unfolding check_command
accepted s e =
    let rest = ended s (after (check_head s) (check_from numbers s)) in
    by_test (leb (length s) longest)
    (λ (l : leb (length s) longest ≡ true).
    after-cases (check_head s) (check_from numbers s) (length s) (ended-next s (after (check_head s) (check_from numbers s)) (rw l at e))
    (λ p (h : check_head s ≡ Ok p) (c : check_from numbers s p ≡ Ok (length s)).
    let k = head-next s p h in
    record { short = leb-true (length s) longest l; head = k.0; walk = rw k.1 at c }))
    (λ (l : leb (length s) longest ≡ false). err_ok _ tt (rw l at e))

-- and nothing else is asked
pub accepts : (s : List ℕ) → Accepted s → check_command s ≡ Ok tt
unfolding check_command
accepts s a =
    rw (le-leb (length s) longest a.short, head-passes s a.head, a.walk, eq-eqb (length s) (length s) refl)

-- ---- The parts of an accepted command

-- the section numbers rise
pub rising : Rising 2 numbers
rising = omega arith

-- a part in two
part_split : (n m at : ℕ) (s : List ℕ) → part at (n + m) s ≡ part at n s ++ part (at + n) m s
part_split n m at s = rw (take-add n m (drop at s), drop-drop n at s)

module _ (s : List ℕ) (a : Accepted s) where
  -- flags, downlink digit and indicators
  head_bytes_lem : part 5 16 s ≡ part 5 7 s ++ (get_or s 12 0 ∷ part 13 8 s)
  head_bytes_lem =
      let i = a.head.inside in
      part_split 7 9 5 s ∙ ap (λ (l : List ℕ). part 5 7 s ++ l) (part-cons 8 s 12 (omega arith))

  bytes_pass : (passes flag_tests (part 5 7 s) ≡ true) × (passes (is_downlink ∷ map is_indicator numbers) (get_or s 12 0 ∷ part 13 8 s) ≡ true)
  bytes_pass =
      let i = a.head.inside in
      let seven : length (part 5 7 s) ≡ 7 = length-take-le 7 (drop 5 s) (omega (arith, length-drop 5 s)) in
      passes-apart flag_tests (is_downlink ∷ map is_indicator numbers) (part 5 7 s) (get_or s 12 0 ∷ part 13 8 s) seven
      (rw head_bytes_lem at a.head.bytes)

  digit_pass : (is_downlink (get_or s 12 0) && passes (map is_indicator numbers) (part 13 8 s)) ≡ true
  unfolding passes
  digit_pass = bytes_pass.1

  -- each of the bytes 5 to 11 is a flag
  pub flag-byte : (i : ℕ) → i < 7 → is_flag (get_or s (5 + i) 0) ≡ true
  flag-byte i h = rw (part-byte 7 s 5 i h) at (passes_at is_flag 7 (part 5 7 s) i bytes_pass.0 h)

  -- byte 12 is a downlink digit
  pub downlink-byte : is_downlink (get_or s 12 0) ≡ true
  downlink-byte = both_left (is_downlink (get_or s 12 0)) (passes (map is_indicator numbers) (part 13 8 s)) digit_pass

  -- each of the bytes 13 to 20 is its section's indicator
  pub indicators_are : Each (λ k. is_indicator k (byte_of s k) ≡ true) numbers
  indicators_are =
      let i = a.head.inside in
      indicators_pass (byte_of s) numbers
      (rw (indicators s (omega arith)) at (both_right (is_downlink (get_or s 12 0)) (passes (map is_indicator numbers) (part 13 8 s)) digit_pass))

  sections_walked : Walked numbers s 22 (length s)
  sections_walked = walked 2 numbers s 22 (length s) (omega arith) rising indicators_are a.walk

  -- each flag is one, so is the downlink digit, and each named section is one by itself
  pub sound : Sound (parts_of s)
  sound =
      record {
        flags = bytes_pass.0;
        downlink = downlink-byte;
        sections = sections_walked.places;
      }

  -- the indicators are the marks of the sections that have bytes
  pub marked : part 13 8 s ≡ marks (body_of s) numbers
  marked =
      let i = a.head.inside in
      indicators s (omega arith) ∙ sym (marks_are (body_of s) (byte_of s) numbers indicators_are sections_walked.named)

  -- the text is the 22 bytes and then the named sections' own bytes
  pub spelt : s ≡ text_of (parts_of s)
  unfolding text_of
  spelt =
      let i = a.head.inside in
      let w = sections_walked in
      let f = body_of s in
      let rest : drop 22 s ≡ bodies f numbers =
      w.text ∙ ap (λ (l : List ℕ). bodies f numbers ++ l) (drop-length s) ∙ append-nil (bodies f numbers) in
      let ends : drop 21 s ≡ 47 ∷ bodies f numbers = drop-cons s 21 0 (omega arith) ∙ ap₂ ◌∷◌ a.head.ends rest in
      let middle : drop 5 s ≡ part 5 7 s ++ (get_or s 12 0 ∷ (marks f numbers ++ 47 ∷ bodies f numbers)) =
      sym (part-rest 16 5 s)
      ∙ ap₂ ◌++◌ (head_bytes_lem ∙ ap (λ (l : List ℕ). part 5 7 s ++ (get_or s 12 0 ∷ l)) marked) ends
      ∙ append_assoc (part 5 7 s) (get_or s 12 0 ∷ marks f numbers) (47 ∷ bodies f numbers) in
      sym (take-append-drop 5 s) ∙ ap₂ ◌++◌ a.head.begins middle

  -- a section is named where it has bytes
  pub named-present : Each (λ k. is_named s k ≡ present (body_of s k)) numbers
  named-present = sections_walked.named

  -- what a section holds is what its own bytes hold
  pub held-own : (k : ℕ) → is_one_of numbers k ≡ true → held_in s k ≡ holds k (body_of s k)
  held-own k i = held-body s (length s) k i a.walk

  pub held-each : Each (λ k. held_in s k ≡ holds k (body_of s k)) numbers
  held-each = (
    held-own 2 refl,
    (held-own 3 refl, (held-own 4 refl, (held-own 5 refl, (held-own 6 refl, (held-own 7 refl, (held-own 8 refl, (held-own 9 refl, tt))))))),
  )
