-- Steps of the record's own check and of the writer.
use mathlib.Core.Path.{◌≡◌, refl, sym, ap, ◌∙◌}
use mathlib.Core.Bool.{Bool, true, false, cond, not}
use mathlib.Core.List.{List, [], ◌∷◌, ◌++◌, append_assoc, append-nil}
use Prim.Native.Nat.{ℕ, zero, suc, ◌+◌, ◌-◌, ◌≤◌, ◌<◌}
use native.Mathlib.Omega.{arith}
use native.Mathlib.Numerals.{add-one}
use lib.Dec.{leb, eqb}
use lib.ListN.{length, get_or, set, take, drop, length-append, length-map, drop_of_length-le}
use lib.Seq.{drop-cons, take_all}
use borrow.Author.Tests.{eqb-true, leb-true}
use Rattle.text.specs.Checks.{must, ◌and_then◌, refuse, after}
use Rattle.text.proofs.Cases.{by_test, by_lt, both_right}
use Rattle.text.proofs.Checks.{err_ok, must-held, both-fine}
use Rattle.text.specs.Over.{over}
use Rattle.text.proofs.Over.{over_turn}
use Rattle.text.proofs.Table.{at}
use Rattle.section.specs.Layout.{layout_of, is_empty, numbers}
use Rattle.section.specs.Contents.{contents_text, contents_allowed}
use Rattle.settings.specs.Settings.{contents_of, fixed_of, fixed_hold}
use Rattle.settings.specs.declared.Fixed.{Fixed}
use Rattle.settings.proofs.ByNumber.{contents_fixed}
use Rattle.command.proofs.Each.{Each}
use Rattle.command.proofs.Checking.{numbers-next}
use Rattle.settings.specs.Inner.{pass_section, text_if}
use Rattle.section.specs.Inner.{going_on}
use Rattle.section.proofs.Short.{contents_anywhere}
use Rattle.command.specs.Text.{awr04}
use Rattle.command.specs.Record.{flag_allowed, flags_allowed, named_allowed, marks_allowed, names, section_text, sections_allowed, command_allowed, digit_bytes, sections_text, command_text, write_seen}
use Rattle.settings.specs.Valid.{are_zero}
use Rattle.command.proofs.Allowed.{indicated}
use Rattle.command_write.specs.Inner.{pass_sections, pass_numbered, numbered_text, head_text, AllNamed, Digits}
use Rattle.command.specs.declared.Command.{Command}
use Rattle.std.specs.Prelude.{Result, Ok, Err}
use Rattle.text.specs.declared.Refusal.{Refusal}
use Rattle.text.specs.declared.Code.TheVariants.{Disagree, NoRoom, NotAllowed}

-- what is left of a list, from its i-th entry on
pub left-from : (l : List ℕ) (i : ℕ) → i < length l → drop i l ≡ get_or l i 0 ∷ drop (i + 1) l
left-from l i h = rw (add-one, drop-cons l i 0)

-- ---- Flags

module _ (fs : List ℕ) (i : ℕ) (lt : i < length fs) where
  -- an allowed flag: the others decide
  pub flags-on : flag_allowed (get_or fs i 0) ≡ true → flags_allowed (5 + i) (drop i fs) ≡ flags_allowed (5 + (i + 1)) (drop (i + 1) fs)
  unfolding flags_allowed
  flags-on e = let k : 5 + i + 1 ≡ 5 + (i + 1) = omega arith in rw (left-from fs i lt, e, k)

  -- any other ends the check
  pub flags_stop : flag_allowed (get_or fs i 0) ≡ false → flags_allowed (5 + i) (drop i fs) ≡ refuse NotAllowed (5 + i)
  unfolding flags_allowed
  flags_stop e = rw (left-from fs i lt, e)

-- no flag is left
pub flags_end : (fs : List ℕ) (i at : ℕ) → length fs ≤ i → flags_allowed at (drop i fs) ≡ (Ok tt)
unfolding flags_allowed
flags_end fs i at h = rw (drop_of_length-le fs {i = i} h)

-- ---- Indicators

numbers-from : (i : ℕ) → i < 8 → drop i numbers ≡ (2 + i) ∷ drop (i + 1) numbers
numbers-from i h = left-from numbers i h ∙ rw (at (λ (j : ℕ). 2 + j) 8 i h)

module _ (vs : List ℕ) (i : ℕ) (few : i < 8) (lt : i < length vs) where
  -- an allowed indicator: the others decide
  pub named-on : indicated (2 + i) (get_or vs i 0) ≡ true
      → named_allowed (drop i numbers) (13 + i) (drop i vs) ≡ named_allowed (drop (i + 1) numbers) (13 + (i + 1)) (drop (i + 1) vs)
  unfolding named_allowed
  named-on e = let k : 13 + i + 1 ≡ 13 + (i + 1) = omega arith in rw (left-from vs i lt, numbers-from i few, e, k)

  -- any other ends the check
  pub named_stop : indicated (2 + i) (get_or vs i 0) ≡ false → named_allowed (drop i numbers) (13 + i) (drop i vs) ≡ refuse NotAllowed (13 + i)
  unfolding named_allowed
  named_stop e = rw (left-from vs i lt, numbers-from i few, e)

-- no indicator is left
pub named_end : (vs : List ℕ) (i place : ℕ) → 8 ≤ i → named_allowed (drop i numbers) place (drop i vs) ≡ (Ok tt)
unfolding named_allowed
named_end vs i place h = rw (drop_of_length-le numbers {i = i} h)

-- each allowed indicator is 0 or its own number
pub named-at : (ks vs : List ℕ) (place i : ℕ) → named_allowed ks place vs ≡ (Ok tt) → i < length ks
    → indicated (get_or ks i 0) (get_or vs i 0) ≡ true
unfolding named_allowed
named-at [] vs place i e h = absurd (omega arith)
named-at (k ∷ ks) [] place i e h = refl
named-at (k ∷ ks) (v ∷ vs) place zero e h =
    must-held (indicated k v) NotAllowed place (both-fine (must (indicated k v) NotAllowed place) (named_allowed ks (place + 1) vs) tt e).0
named-at (k ∷ ks) (v ∷ vs) place (suc i) e h =
    named-at ks vs (place + 1) i (both-fine (must (indicated k v) NotAllowed place) (named_allowed ks (place + 1) vs) tt e).1 (omega arith)

-- ---- Sections, one after the other

module _ (k : ℕ) (ks : List ℕ) (at : ℕ) (c : Command) where
  abbrev passed : Result ℕ Refusal
  passed = pass_section (names c k) k at (contents_of c.settings k)

  -- a section that is refused ends the check
  pub sections_stop : (r : Refusal) → passed ≡ Err r → pass_sections (k ∷ ks) at c ≡ Err r
  unfolding pass_sections
  sections_stop r e = rw e

  -- any other goes on from where it ends
  pub sections-on : (p : ℕ) → passed ≡ Ok p → pass_sections (k ∷ ks) at c ≡ pass_sections ks p c
  unfolding pass_sections
  sections-on p e = rw e

pub after_next : (r : Result ℕ Refusal) → after r (λ (p : ℕ). Ok p) ≡ r
after_next (Ok p) = refl
after_next (Err r) = refl

after_assoc : (r : Result ℕ Refusal) (f g : ℕ → Result ℕ Refusal) → after (after r f) g ≡ after r (λ (p : ℕ). after (f p) g)
after_assoc (Ok p) f g = refl
after_assoc (Err r) f g = refl

after_same : (r : Result ℕ Refusal) (f g : ℕ → Result ℕ Refusal) → ((p : ℕ) → f p ≡ g p) → after r f ≡ after r g
after_same (Ok p) f g e = e p
after_same (Err r) f g e = refl

pub sections-append : (xs ys : List ℕ) (at : ℕ) (c : Command) → pass_sections (xs ++ ys) at c ≡ after (pass_sections xs at c) (λ (p : ℕ). pass_sections ys p c)
unfolding pass_sections
sections-append [] ys at c = refl
sections-append (k ∷ xs) ys at c =
    let r = pass_section (names c k) k at (contents_of c.settings k) in
    after_same r (λ (p : ℕ). pass_sections (xs ++ ys) p c) (λ (p : ℕ). after (pass_sections xs p c) (λ (q : ℕ). pass_sections ys q c))
    (λ (p : ℕ). sections-append xs ys p c)
    ∙ sym (after_assoc r (λ (p : ℕ). pass_sections xs p c) (λ (q : ℕ). pass_sections ys q c))

then_seen : (x : Result (Unit {0}) Refusal) (q : ℕ) (more : ℕ → Result ℕ Refusal) (y : Result (Unit {0}) Refusal) (n : ℕ) → more q ≡ going_on y n → after (going_on x q) more ≡ going_on (x and_then y) n
then_seen (Ok u) q more y n e = e
then_seen (Err r) q more y n e = refl

-- turn by turn the sections are checked as the record's own check says, up to where their text would end
pub sections_are : (ks : List ℕ) (at : ℕ) (c : Command) → pass_sections ks at c ≡ going_on (sections_allowed ks at c) (at + length (sections_text ks c))
unfolding pass_sections sections_allowed sections_text section_text
sections_are [] at c = ap Ok (omega arith)
sections_are (k ∷ ks) at c =
    let cs = contents_of c.settings k in
    let t = contents_text (layout_of k) cs in
    by_test (names c k)
    (λ (n : names c k ≡ true).
    let m : at + length t + length (sections_text ks c) ≡ at + length (t ++ sections_text ks c) = simp length-append (omega arith) in
    rw n
    (then_seen (contents_allowed (layout_of k) at cs) (at + length t) (λ (p : ℕ). pass_sections ks p c)
    (sections_allowed ks (at + length t) c) (at + length (t ++ sections_text ks c))
    (sections_are ks (at + length t) c ∙ ap (going_on (sections_allowed ks (at + length t) c)) m)))
    (λ (n : names c k ≡ false).
    rw n
    (then_seen (must (are_zero cs) Disagree at) at (λ (p : ℕ). pass_sections ks p c) (sections_allowed ks at c)
    (at + length (sections_text ks c)) (sections_are ks at c)))

-- sections of numbers, by their own part of the record
pub numbered_are : (ks : List ℕ) (at : ℕ) (c : Command) → Each (λ k. 4 ≤ k) ks → pass_numbered ks at (fixed_of c.settings) c.named ≡ pass_sections ks at c
unfolding pass_numbered pass_sections
numbered_are [] at c h = refl
numbered_are (k ∷ ks) at c h =
    rw (← contents_fixed c.settings k h.0)
    (after_same (pass_section (names c k) k at (contents_of c.settings k)) (λ (p : ℕ). pass_numbered ks p (fixed_of c.settings) c.named)
    (λ (p : ℕ). pass_sections ks p c) (λ (p : ℕ). numbered_are ks p c h.1))

module _ (x : Fixed) (named : List ℕ) (k : ℕ) (lo : 2 ≤ k) (hi : k < 10) (at : ℕ) where
  abbrev own : Result ℕ Refusal
  own = pass_section (eqb (get_or named (k - 2) 0) k) k at (fixed_hold x k)

  -- one that is refused ends the check, any other goes on from where it ends
  pub numbered_stop : (r : Refusal) → own ≡ Err r → pass_numbered (drop (k - 2) numbers) at x named ≡ Err r
  unfolding pass_numbered
  numbered_stop r e = rw (numbers-next k lo hi, e)

  pub numbered_on : (p : ℕ) → own ≡ Ok p → pass_numbered (drop (k - 2) numbers) at x named ≡ pass_numbered (drop (k + 1 - 2) numbers) p x named
  unfolding pass_numbered
  numbered_on p e = rw (numbers-next k lo hi, e)

  -- one more is written
  pub numbered_text_lem : numbered_text (drop (k - 2) numbers) x named
      ≡ text_if (eqb (get_or named (k - 2) 0) k) k (fixed_hold x k) ++ numbered_text (drop (k + 1 - 2) numbers) x named
  unfolding numbered_text
  numbered_text_lem = rw (numbers-next k lo hi)

pub numbered_end : (x : Fixed) (named : List ℕ) (k at : ℕ) → 10 ≤ k → pass_numbered (drop (k - 2) numbers) at x named ≡ Ok at
unfolding pass_numbered
numbered_end x named k at h = rw (drop_of_length-le numbers {i = k - 2} (omega arith))

pub numbered_texts_end : (x : Fixed) (named : List ℕ) (k : ℕ) → 10 ≤ k → numbered_text (drop (k - 2) numbers) x named ≡ []
unfolding numbered_text
numbered_texts_end x named k h = rw (drop_of_length-le numbers {i = k - 2} (omega arith))

-- ---- The whole record

-- the 22 bytes, and then the sections
pub text_halves : (c : Command) → command_text c ≡ head_text c ++ sections_text numbers c
unfolding command_text head_text
text_halves c =
    let fs = digit_bytes c.settings.flags in
    let ns = digit_bytes c.named in
    let rest = sections_text numbers c in
    let one : ns ++ 47 ∷ rest ≡ (ns ++ 47 ∷ []) ++ rest = sym (append_assoc ns (47 ∷ []) rest) in
    let two : fs ++ ((48 + c.downlink) ∷ (ns ++ 47 ∷ rest)) ≡ (fs ++ ((48 + c.downlink) ∷ (ns ++ 47 ∷ []))) ++ rest =
    rw one (sym (append_assoc fs ((48 + c.downlink) ∷ (ns ++ 47 ∷ [])) rest)) in
    ap (λ (l : List ℕ). awr04 ++ l) two

-- the head is 22 bytes long
pub head-length : (c : Command) → length c.settings.flags ≡ 7 → length c.named ≡ 8 → length (head_text c) ≡ 22
unfolding head_text
head-length c seven eight =
    simp (length-append, length-map) (omega arith)

-- the whole is as long as 22 bytes and its sections
pub text-length : (c : Command) → length c.settings.flags ≡ 7 → length c.named ≡ 8
    → length (command_text c) ≡ 22 + length (sections_text numbers c)
text-length c seven eight =
    ap length (text_halves c) ∙ length-append (head_text c) (sections_text numbers c) ∙ rw (head-length c seven eight)

and_three : (x y z w : Result (Unit {0}) Refusal) → (x and_then y and_then z and_then w) ≡ ((x and_then y and_then z) and_then w)
and_three (Ok u) (Ok v) z w = refl
and_three (Ok u) (Err r) z w = refl
and_three (Err r) y z w = refl

-- flags, downlink digit and indicators
abbrev pub head_allowed : Command → Result (Unit {0}) Refusal
head_allowed c =
    flags_allowed 5 c.settings.flags and_then must (leb c.downlink 2) NotAllowed 12 and_then marks_allowed c

-- the head, then the sections
pub allowed_halves : (c : Command) → command_allowed c ≡ (head_allowed c and_then sections_allowed numbers 22 c)
unfolding command_allowed
allowed_halves c =
    and_three (flags_allowed 5 c.settings.flags) (must (leb c.downlink 2) NotAllowed 12) (marks_allowed c) (sections_allowed numbers 22 c)

marks-named : (c : Command) → marks_allowed c ≡ (Ok tt) → named_allowed numbers 13 c.named ≡ (Ok tt)
marks-named c e = (both-fine (named_allowed numbers 13 c.named) (must (eqb c.spare 0) Disagree 21) tt e).0

-- an allowed head has allowed indicators
pub head-named : (c : Command) → head_allowed c ≡ (Ok tt) → named_allowed numbers 13 c.named ≡ (Ok tt)
head-named c e =
    let x = both-fine (flags_allowed 5 c.settings.flags) (must (leb c.downlink 2) NotAllowed 12 and_then marks_allowed c) tt e in
    marks-named c (both-fine (must (leb c.downlink 2) NotAllowed 12) (marks_allowed c) tt x.1).1

-- ---- Writing

-- a check that goes on was fine, and says where to
pub goes_fine : (x : Result (Unit {0}) Refusal) (q p : ℕ) → going_on x q ≡ Ok p → (x ≡ (Ok tt)) × (q ≡ p)
goes_fine (Ok u) q p e = (refl, cc)
goes_fine (Err r) q p e = err_ok r p e

-- one that stops was refused
pub goes_bad : (x : Result (Unit {0}) Refusal) (q : ℕ) (r : Refusal) → going_on x q ≡ Err r → x ≡ Err r
goes_bad (Ok u) q r e = err_ok r q (sym e)
goes_bad (Err d) q r e = cc

digit_at : (vs : List ℕ) (i : ℕ) → i < length vs → get_or (digit_bytes vs) i 0 ≡ 48 + get_or vs i 0
digit_at [] i h = absurd (omega arith)
digit_at (v ∷ vs) zero h = refl
digit_at (v ∷ vs) (suc i) h = digit_at vs i (omega arith)

-- a turn of the loop that writes digits
pub digits_turn : (d vs : List ℕ) (i : ℕ) → i < length vs → i < length d
    → set (over d 0 (take i (digit_bytes vs))) i (48 + get_or vs i 0) ≡ over d 0 (take (i + 1) (digit_bytes vs))
digits_turn d vs i h k =
    ap (λ (b : ℕ). set (over d 0 (take i (digit_bytes vs))) i b) (sym (digit_at vs i h))
    ∙ over_turn d (digit_bytes vs) i (omega (arith, length-map vs (λ (v : ℕ). 48 + v))) k

-- a section's text where it is named, then the others'
pub text-first : (k : ℕ) (ks : List ℕ) (c : Command)
    → sections_text (k ∷ ks) c ≡ text_if (names c k) k (contents_of c.settings k) ++ sections_text ks c
unfolding sections_text section_text
text-first k ks c = go (names c k) (contents_text (layout_of k) (contents_of c.settings k)) (sections_text ks c)
  where
    go : (n : Bool) (t u : List ℕ) → cond n (t ++ u) u ≡ cond n t [] ++ u
    go true t u = refl
    go false t u = refl

-- the two sections of lists
pub text-two : (c : Command)
    → sections_text (2 ∷ 3 ∷ []) c ≡ text_if (names c 2) 2 (contents_of c.settings 2) ++ text_if (names c 3) 3 (contents_of c.settings 3)
unfolding sections_text
text-two c =
    let t = text_if (names c 3) 3 (contents_of c.settings 3) in
    text-first 2 (3 ∷ []) c ∙ ap (λ (l : List ℕ). text_if (names c 2) 2 (contents_of c.settings 2) ++ l) (text-first 3 [] c ∙ append-nil t)

-- sections of numbers, by their own part of the record
pub numbered_texts : (ks : List ℕ) (c : Command) → Each (λ k. 4 ≤ k) ks → sections_text ks c ≡ numbered_text ks (fixed_of c.settings) c.named
unfolding sections_text numbered_text
numbered_texts [] c h = refl
numbered_texts (k ∷ ks) c h =
    text-first k ks c
    ∙ rw (contents_fixed c.settings k h.0, numbered_texts ks c h.1)

-- the sections of two lists of numbers
pub text-append : (xs ys : List ℕ) (c : Command) → sections_text (xs ++ ys) c ≡ sections_text xs c ++ sections_text ys c
unfolding sections_text
text-append [] ys c = refl
text-append (k ∷ xs) ys c =
    text-first k (xs ++ ys) c
    ∙ ap (λ (l : List ℕ). text_if (names c k) k (contents_of c.settings k) ++ l) (text-append xs ys c)
    ∙ sym (append_assoc (text_if (names c k) k (contents_of c.settings k)) (sections_text xs c) (sections_text ys c))
    ∙ ap (λ (l : List ℕ). l ++ sections_text ys c) (sym (text-first k xs c))

-- ---- What an allowed record gives its writer

past_end : (l : List ℕ) (i : ℕ) → length l ≤ i → get_or l i 0 ≡ 0
past_end [] i h = refl
past_end (v ∷ l) zero h = absurd (omega arith)
past_end (v ∷ l) (suc i) h = past_end l i (omega arith)

flag-digit : (v : ℕ) → flag_allowed v ≡ true → v ≤ 9
flag-digit v e =
    by_test (leb v 1)
    (λ (l : leb v 1 ≡ true). omega (arith, leb-true v 1 l))
    (λ (l : leb v 1 ≡ false). let n : v ≡ 9 = eqb-true v 9 (rw l at e) in omega arith)

-- flags are digits
pub flags-digits : (place : ℕ) (fs : List ℕ) → flags_allowed place fs ≡ (Ok tt) → Digits fs
unfolding flags_allowed
flags-digits place [] e i = omega arith
flags-digits place (v ∷ fs) e zero =
    flag-digit v (must-held (flag_allowed v) NotAllowed place (both-fine (must (flag_allowed v) NotAllowed place) (flags_allowed (place + 1) fs) tt e).0)
flags-digits place (v ∷ fs) e (suc i) =
    flags-digits (place + 1) fs (both-fine (must (flag_allowed v) NotAllowed place) (flags_allowed (place + 1) fs) tt e).1 i

indicator-digit : (k v : ℕ) → k ≤ 9 → indicated k v ≡ true → v ≤ 9
indicator-digit k v h e =
    by_test (eqb v 0)
    (λ (z : eqb v 0 ≡ true). let n : v ≡ 0 = eqb-true v 0 z in omega arith)
    (λ (z : eqb v 0 ≡ false).
    let n : v ≡ k = eqb-true v k (both_right (not (is_empty (layout_of k))) (eqb v k) (rw z at e)) in
    omega arith)

-- so are indicators
pub named-digits : (vs : List ℕ) → length vs ≡ 8 → named_allowed numbers 13 vs ≡ (Ok tt) → Digits vs
named-digits vs eight e i =
    by_lt i 8
    (λ (h : i < 8).
    let k : get_or numbers i 0 ≡ 2 + i = at (λ (j : ℕ). 2 + j) 8 i h in
    indicator-digit (get_or numbers i 0) (get_or vs i 0) (omega arith) (named-at numbers vs 13 i e h))
    (λ (h : 8 ≤ i). omega (arith, past_end vs i (omega arith)))

-- and named sections are allowed
pub sections-named : (ks : List ℕ) (place : ℕ) (c : Command) → sections_allowed ks place c ≡ (Ok tt) → AllNamed ks c
unfolding sections_allowed
sections-named [] place c e = tt
sections-named (k ∷ ks) place c e =
    let cs = contents_of c.settings k in
    by_test (names c k)
    (λ (n : names c k ≡ true).
    let x = both-fine (contents_allowed (layout_of k) place cs) (sections_allowed ks (place + length (section_text c k)) c) tt (rw n at e) in
    (λ t. contents_anywhere (layout_of k) place 0 cs x.0, sections-named ks (place + length (section_text c k)) c x.1))
    (λ (n : names c k ≡ false).
    let x = both-fine (must (are_zero cs) Disagree place) (sections_allowed ks place c) tt (rw n at e) in
    (λ t. let z : true ≡ false = sym t ∙ n in cc, sections-named ks place c x.1))

-- what the writer asks of a record
pub record Ready (c : Command) : Type 0 where
  pub flags : Digits c.settings.flags
  pub downlink : c.downlink ≤ 9
  pub named : Digits c.named
  pub lists : AllNamed (2 ∷ 3 ∷ []) c

-- an allowed record can be written
pub ready : (c : Command) → length c.named ≡ 8 → command_allowed c ≡ (Ok tt) → Ready c
ready c eight e =
    let x = both-fine (head_allowed c) (sections_allowed numbers 22 c) tt (rw (allowed_halves c) at e) in
    let d = must (leb c.downlink 2) NotAllowed 12 in
    let y = both-fine (flags_allowed 5 c.settings.flags) (d and_then marks_allowed c) tt x.0 in
    let z = both-fine d (marks_allowed c) tt y.1 in
    let n = marks-named c z.1 in
    let low : c.downlink ≤ 2 = leb-true c.downlink 2 (must-held (leb c.downlink 2) NotAllowed 12 z.0) in
    let a = sections-named numbers 22 c x.1 in
    record {
      flags = flags-digits 5 c.settings.flags y.0;
      downlink = omega arith;
      named = named-digits c.named eight n;
      lists = (a.0, (a.1.0, tt));
    }

-- a record and its room that pass
pub room-passed : (c : Command) (room : ℕ) → write_seen c room ≡ (Ok tt) → (command_allowed c ≡ (Ok tt)) × (length (command_text c) ≤ room)
unfolding write_seen
room-passed c room e =
    let x = both-fine (command_allowed c) (must (leb (length (command_text c)) room) NoRoom 0) tt e in
    (x.0, leb-true (length (command_text c)) room (must-held (leb (length (command_text c)) room) NoRoom 0 x.1))
