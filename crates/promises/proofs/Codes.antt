-- Which code is answered where: the tables of a taking's and an adding's answers, by their tests.
use mathlib.Core.Path.{◌≡◌, refl, sym, ap, ◌∙◌}
use mathlib.Core.Logic.{◌↔◌}
use mathlib.Core.Bool.{Bool, true, false, cond, not, ◌&&◌}
use mathlib.Core.List.{List}
use Prim.Native.Nat.{ℕ}
use native.Mathlib.Omega.{arith}
use lib.Dec.{eqb}
use lib.ListN.{length}
use borrow.Author.Tests.{eqb-true, eq-eqb, ne_eqb}
use Rattle.text.specs.Names.{is_designator}
use Rattle.text.specs.Checks.{is_fine}
use Rattle.command.specs.Text.{check_command}
use Rattle.command.proofs.Codes.{check-coded}
use Rattle.decide.proofs.Tests.{Says, reworded, both-said, eq-said}
use Rattle.decide.proofs.Words.{bytes-said}
use Rattle.board.specs.Board.{unless_refused, past_refusals, placing, handing, Reply, Given, Refused}
use Rattle.board.proofs.Steps.{is-fine}
use Rattle.desk.specs.Numbers.{check_numbers}
use Rattle.desk.specs.Waiting.{reply_numbers}
use Rattle.desk.specs.declared.Answer.{Answer}
use Rattle.promises.specs.BoardRuns.{IsAccepted, SixAllowed}
use Rattle.std.specs.Prelude.{Result, Ok, Err}
use Rattle.text.specs.Codes.{number_of}
use Rattle.text.specs.declared.Refusal.{Refusal}
use Rattle.text.specs.declared.Code.{Code}
use Rattle.text.specs.declared.Code.TheVariants.{WrongLength, NoRoom, WrongFixed, NotAllowed, OutOfRange, OtherSpelling, Disagree, WrongEnd, BoardFull, BoardInvalid, NothingWaits, SettingsInvalid, NotGranted, JournalBroken}
use Rattle.text.proofs.Checks.{err_ok}

-- ---- A code is its number

abbrev numbered_by : ℕ → Code
numbered_by n =
    cond (eqb n 1) WrongLength
    (cond (eqb n 2) NoRoom
    (cond (eqb n 3) WrongFixed
    (cond (eqb n 4) NotAllowed
    (cond (eqb n 5) OutOfRange
    (cond (eqb n 6) OtherSpelling
    (cond (eqb n 7) Disagree
    (cond (eqb n 8) WrongEnd
    (cond (eqb n 9) BoardFull
    (cond (eqb n 10) BoardInvalid
    (cond (eqb n 11) NothingWaits
    (cond (eqb n 12) SettingsInvalid
    (cond (eqb n 13) NotGranted JournalBroken))))))))))))

numbered_is : (c : Code) → numbered_by (number_of c) ≡ c
numbered_is WrongLength = refl
numbered_is NoRoom = refl
numbered_is WrongFixed = refl
numbered_is NotAllowed = refl
numbered_is OutOfRange = refl
numbered_is OtherSpelling = refl
numbered_is Disagree = refl
numbered_is WrongEnd = refl
numbered_is BoardFull = refl
numbered_is BoardInvalid = refl
numbered_is NothingWaits = refl
numbered_is SettingsInvalid = refl
numbered_is NotGranted = refl
numbered_is JournalBroken = refl

pub number_apart : (c d : Code) → number_of c ≡ number_of d → c ≡ d
number_apart c d e = sym (numbered_is c) ∙ ap numbered_by e ∙ numbered_is d

-- a code is answered exactly where what its test says is so
pub told_where : {t : Bool} {P : Type 0} (code k : ℕ) → eqb code k ≡ t → Says t P → (code ≡ k) ↔ P
told_where code k e s = (λ z. s.yes_so (sym e ∙ eq-eqb code k z), λ p. eqb-true code k (e ∙ s.so_yes p))

-- ---- A designator, a command

-- whether a designator is six allowed bytes
pub designator-said : (d : List ℕ) → Says (is_designator d) (SixAllowed d)
designator-said d =
    reworded (both-said (eq-said (length d) 6) (bytes-said d))
    (λ p. record { six = p.0; allowed = λ i l. p.1 i (omega (arith, p.0)) })
    (λ f. (f.six, λ i l. f.allowed i (omega (arith, f.six))))

accepted_by : (t : List ℕ) (s : Result (Unit {0}) Refusal) → check_command t ≡ s → (check_numbers s).code ≡ 0 → s ≡ (Ok tt)
accepted_by t (Ok u) k e = refl
accepted_by t (Err r) k e = let l = (check-coded t r k).0 in absurd (omega arith)

-- a text that is answered with code 0 is accepted
pub accepted-fine : (t : List ℕ) → IsAccepted t → check_command t ≡ (Ok tt)
accepted-fine t e = accepted_by t (check_command t) refl e

-- and no other is
pub fine-accepted : (t : List ℕ) → check_command t ≡ (Ok tt) → IsAccepted t
fine-accepted t e = rw e

pub accepted-said : (t : List ℕ) → Says (is_fine (check_command t)) (IsAccepted t)
accepted-said t =
    record { yes_so = λ f. fine-accepted t (is-fine (check_command t) f); so_yes = λ a. rw (accepted-fine t a) }

-- a command's own refusal is answered as its check answers it
pub own-numbers : (s : Result (Unit {0}) Refusal) (y : Reply) → ¬ ((check_numbers s).code ≡ 0) → reply_numbers (unless_refused Refused s y) ≡ check_numbers s
own-numbers (Ok u) y n = absurd (n refl)
own-numbers (Err r) y n = refl

-- ---- A taking: whether the designator is well formed, nothing waits, and the buffer has room

abbrev taken : Bool → Bool → Bool → List ℕ → Reply
taken named none fits w = past_refusals Refused true named (Ok tt) (handing Refused (not none) fits (Given w))

pub record TakingCodes (a : Answer) (named none fits : Bool) : Type 0 where
  pub four : eqb a.code 4 ≡ not named
  pub eleven : eqb a.code 11 ≡ (named && none)
  pub two : eqb a.code 2 ≡ (named && (not none && not fits))
  pub zero : eqb a.code 0 ≡ (named && (not none && fits))
  pub ten : eqb a.code 10 ≡ false
  pub place : a.place ≡ 0

pub taking_codes : (named none fits : Bool) (w : List ℕ) → TakingCodes (reply_numbers (taken named none fits w)) named none fits
taking_codes true true fits w = record { four = refl; eleven = refl; two = refl; zero = refl; ten = refl; place = refl }
taking_codes true false true w = record { four = refl; eleven = refl; two = refl; zero = refl; ten = refl; place = refl }
taking_codes true false false w = record { four = refl; eleven = refl; two = refl; zero = refl; ten = refl; place = refl }
taking_codes false none fits w = record { four = refl; eleven = refl; two = refl; zero = refl; ten = refl; place = refl }

-- ---- An adding: whether the designator is well formed, what the check said, whether nothing waits, and whether a slot is free

abbrev added : Bool → Result (Unit {0}) Refusal → Bool → Bool → List ℕ → Reply
added named s none free w = past_refusals Refused true named s (placing Refused (not none) free (Given w) (Given w))

pub record AddingCodes (a : Answer) (named : Bool) (s : Result (Unit {0}) Refusal) (full : Bool) : Type 0 where
  pub nine : eqb a.code 9 ≡ (named && (is_fine s && full))
  pub zero : eqb a.code 0 ≡ (named && (is_fine s && not full))
  pub ten : eqb a.code 10 ≡ false
  pub place : s ≡ (Ok tt) → a.place ≡ 0

pub adding_codes : (named : Bool) (t : List ℕ) (s : Result (Unit {0}) Refusal) (none free : Bool) (w : List ℕ) → check_command t ≡ s
    → AddingCodes (reply_numbers (added named s none free w)) named s (none && not free)
adding_codes true t (Ok u) true true w k = record { nine = refl; zero = refl; ten = refl; place = λ e. refl }
adding_codes true t (Ok u) true false w k = record { nine = refl; zero = refl; ten = refl; place = λ e. refl }
adding_codes true t (Ok u) false free w k = record { nine = refl; zero = refl; ten = refl; place = λ e. refl }
adding_codes true t (Err r) none free w k =
    let l = check-coded t r k in
    let n : ℕ = number_of r.code in
    record {
      nine = ne_eqb n 9 (λ (z : n ≡ 9). omega arith);
      zero = ne_eqb n 0 (λ (z : n ≡ 0). omega arith);
      ten = ne_eqb n 10 (λ (z : n ≡ 10). omega arith);
      place = λ e. err_ok r tt e;
    }
adding_codes false t s none free w k = record { nine = refl; zero = refl; ten = refl; place = λ e. refl }
