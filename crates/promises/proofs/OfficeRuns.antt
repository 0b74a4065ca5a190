-- A run of two offices is a run of the board without offices, of the calls that are not barred; and what waits of an office's own is
-- what its own accepted commands set.
use mathlib.Core.Path.{◌≡◌, refl, sym, ap, ap₂, ◌∙◌, subst}
use mathlib.Core.Bool.{Bool, true, false, cond, ◌&&◌}
use mathlib.Core.List.{List, [], ◌∷◌, ◌++◌, foldl-append}
use Prim.Native.Nat.{ℕ}
use native.Mathlib.Omega.{arith}
use lib.Dec.{eqb}
use borrow.Author.Tests.{ne_eqb, eqb-true}
use Rattle.text.specs.Names.{is_designator}
use Rattle.text.specs.Checks.{is_fine}
use Rattle.text.specs.Equal.{same_bytes}
use Rattle.text.proofs.Cases.{by_test, both_left}
use Rattle.command.specs.Text.{check_command}
use Rattle.board.specs.Board.{Move, Stay, past_refusals, placed, add, is_valid, reply_of}
use Rattle.board.specs.History.{onto, joined}
use Rattle.board.specs.Lent.{board_of, is_shaped, is_valid_lent, add_lent, on_slots, on_area}
use Rattle.board.specs.Calls.{Lent}
use Rattle.board.proofs.Joined.{all_fine, fine_snoc, joined-fine}
use Rattle.board.proofs.Refusals.{refusals-all, refusals-shaped}
use Rattle.board.proofs.WaitingSlots.{never}
use Rattle.offices.specs.Offices.{overlap, outside}
use Rattle.offices.specs.Inner.{barred}
use Rattle.offices.specs.Own.{Full, SameOwn}
use Rattle.offices.proofs.Admitted.{free-lent, barred-lent}
use Rattle.offices.proofs.Own.{Waiting, Nothing, Text, own-onto, other-onto}
use Rattle.desk.specs.Waiting.{reply_numbers}
use Rattle.desk.specs.declared.Answer.{Answer}
use Rattle.promises.specs.BoardRuns.{Call, Add, Take, answer_to, lent_after, after_all, log_from, heard, heard_from, Run}
use Rattle.promises.specs.OfficeRuns.{
  Office,
  First,
  Second,
  is_same,
  Grants,
  grant_of,
  other_of,
  OfficeCall,
  AddFrom,
  TakeAny,
  as_base,
  call_answer,
  call_leaves,
  OfficeRun,
  leaves_all,
  both_from,
  accepted_both,
  is_from,
  own_from,
  accepted_own,
}
use Rattle.promises.proofs.OfficeWords.{apart-no, apart-turned}
use Rattle.std.specs.Prelude.{Ok}
use Rattle.text.specs.declared.Code.TheVariants.{BoardInvalid, NotGranted, NotAllowed}
use Rattle.text.specs.Codes.{number_of}
use Rattle.text.proofs.Codes.{numbered}

-- ---- One call

pub full-of : (g : Grants) (o : Office) → Full (grant_of g o)
full-of g First = g.first-full
full-of g Second = g.second-full

pub apart_of : (g : Grants) (o : Office) → overlap (grant_of g o) (other_of g o) ≡ false
apart_of g First = apart-no g.first g.second g.first-full g.second-full g.apart
apart_of g Second = apart-no g.second g.first g.second-full g.first-full (apart-turned g.first g.second g.apart)

abbrev pub is_barred : Grants → OfficeCall → Bool
is_barred g (AddFrom o d t) = barred (grant_of g o) t
is_barred g (TakeAny d out) = false

-- one that is not barred is a call of the board without offices
pub free-call : (g : Grants) (x : Lent) (c : OfficeCall) → is_barred g c ≡ false
    → (call_answer g x c ≡ answer_to x (as_base c)) × (call_leaves g x c ≡ lent_after x (as_base c))
free-call g x (AddFrom o d t) n =
    let e = free-lent (grant_of g o) (other_of g o) x.slots x.area d t (apart_of g o) n in
    (ap (λ (m : Move). reply_numbers (reply_of m)) e, ap (λ (m : Move). record { slots = on_slots m x.slots; area = on_area m x.area }) e)
free-call g x (TakeAny d out) n = (refl, refl)

-- a barred one is refused, and changes nothing
abbrev Refuses : Lent → Move → Type 0
Refuses x m = (((reply_numbers (reply_of m)).code ≡ 0) → ⊥) × (record { slots = on_slots m x.slots; area = on_area m x.area } ≡ x)

refuses : (x : Lent) (a b : Bool) → Refuses x (cond a (cond b (Stay NotGranted 0) (Stay NotAllowed 0)) (Stay BoardInvalid 0))
refuses x true true = (λ (z : ◌≡◌ {A = ℕ} 13 0). omega arith, refl)
refuses x true false = (λ (z : ◌≡◌ {A = ℕ} 4 0). omega arith, refl)
refuses x false b = (λ (z : ◌≡◌ {A = ℕ} 10 0). omega arith, refl)

pub barred-call : (g : Grants) (x : Lent) (c : OfficeCall) → is_barred g c ≡ true
    → (((call_answer g x c).code ≡ 0) → ⊥) × (call_leaves g x c ≡ x)
barred-call g x (AddFrom o d t) n =
    subst (Refuses x) (sym (barred-lent (grant_of g o) (other_of g o) x.slots x.area d t (apart_of g o) n))
    (refuses x (is_valid_lent x.slots x.area) (is_designator d))
barred-call g x (TakeAny d out) n = never n refl

-- ---- A run

unfoldable pub admitted : Grants → List OfficeCall → List Call
admitted g [] = []
admitted g (c ∷ cs) = cond (is_barred g c) (admitted g cs) (as_base c ∷ admitted g cs)

-- one call more
pub admitted-next : (g : Grants) (cs : List OfficeCall) (c : OfficeCall) → is_barred g c ≡ false → admitted g (cs ++ (c ∷ [])) ≡ admitted g cs ++ (as_base c ∷ [])
unfolding admitted
admitted-next g [] c n = rw n
admitted-next g (b ∷ cs) c n =
    by_test (is_barred g b)
    (λ (h : is_barred g b ≡ true). rw h (admitted-next g cs c n))
    (λ (h : is_barred g b ≡ false). rw h (ap (λ (l : List Call). as_base b ∷ l) (admitted-next g cs c n)))

pub admitted-same : (g : Grants) (cs : List OfficeCall) (c : OfficeCall) → is_barred g c ≡ true → admitted g (cs ++ (c ∷ [])) ≡ admitted g cs
unfolding admitted
admitted-same g [] c n = rw n
admitted-same g (b ∷ cs) c n =
    by_test (is_barred g b)
    (λ (h : is_barred g b ≡ true). rw h (admitted-same g cs c n))
    (λ (h : is_barred g b ≡ false). rw h (ap (λ (l : List Call). as_base b ∷ l) (admitted-same g cs c n)))

pub after-admitted : (g : Grants) (cs : List OfficeCall) (x : Lent) → leaves_all g x cs ≡ after_all x (admitted g cs)
unfolding leaves_all after_all admitted
after-admitted g [] x = refl
after-admitted g (c ∷ cs) x =
    by_test (is_barred g c)
    (λ (n : is_barred g c ≡ true).
    rw n (ap (λ (y : Lent). leaves_all g y cs) (barred-call g x c n).1 ∙ after-admitted g cs x))
    (λ (n : is_barred g c ≡ false).
    rw n (ap (λ (y : Lent). leaves_all g y cs) (free-call g x c n).1 ∙ after-admitted g cs (lent_after x (as_base c))))

unheard : (d : List ℕ) (ts : List (List ℕ)) (c : Call) (code : ℕ) → ((code ≡ 0) → ⊥) → heard d ts c code ≡ ts
unheard d ts (Add e t) code n = rw (ne_eqb code 0 n)
unheard d ts (Take e out) code n = rw (ne_eqb code 0 n)

pub heard-admitted : (g : Grants) (d : List ℕ) (cs : List OfficeCall) (x : Lent) (ts : List (List ℕ))
    → both_from g d ts x cs ≡ heard_from d ts (log_from x (admitted g cs))
unfolding both_from heard_from log_from admitted
heard-admitted g d [] x ts = refl
heard-admitted g d (c ∷ cs) x ts =
    by_test (is_barred g c)
    (λ (n : is_barred g c ≡ true).
    let b = barred-call g x c n in
    rw n
    (ap₂ (λ (us : List (List ℕ)) (y : Lent). both_from g d us y cs) (unheard d ts (as_base c) (call_answer g x c).code b.0) b.1
    ∙ heard-admitted g d cs x ts))
    (λ (n : is_barred g c ≡ false).
    let b = free-call g x c n in
    rw n
    (ap₂ (λ (a : Answer) (y : Lent). both_from g d (heard d ts (as_base c) a.code) y cs) b.0 b.1
    ∙ heard-admitted g d cs (lent_after x (as_base c)) (heard d ts (as_base c) (answer_to x (as_base c)).code)))

-- the run without offices
abbrev pub base : OfficeRun → Run
base r = record { board = r.board; empty = r.empty; calls = admitted r.grants r.calls }

-- ---- An adding that is answered with code 0

add-past : (x : Lent) (d t : List ℕ)
    → add_lent x.slots x.area d t
    ≡ past_refusals Stay (is_valid_lent x.slots x.area) (is_designator d) (check_command t) (placed (board_of x.slots x.area) d t)
unfolding add_lent add is_valid_lent
add-past x d t =
    refusals-shaped Stay (is_shaped x.slots x.area) (is_valid (board_of x.slots x.area)) (is_designator d) (check_command t)
    (placed (board_of x.slots x.area) d t)

added-fine : (x : Lent) (d t : List ℕ) → (answer_to x (Add d t)).code ≡ 0 → check_command t ≡ (Ok tt)
added-fine x d t =
    subst (λ (m : Move). (reply_numbers (reply_of m)).code ≡ 0 → check_command t ≡ (Ok tt)) (sym (add-past x d t))
    (refusals-all (λ m. (reply_numbers (reply_of m)).code ≡ 0 → check_command t ≡ (Ok tt)) Stay (is_valid_lent x.slots x.area) (is_designator d)
    (check_command t) (placed (board_of x.slots x.area) d t) (λ (z : ◌≡◌ {A = ℕ} 10 0). absurd (omega arith)) (λ (z : ◌≡◌ {A = ℕ} 4 0). absurd (omega arith))
    (λ code place k (z : number_of code ≡ 0). let l = (numbered code).least in absurd (omega arith)) (λ v n s z. s))

-- is an accepted command within its office's grant
accepted-inside : (g : Grants) (x : Lent) (o : Office) (d t : List ℕ) → (call_answer g x (AddFrom o d t)).code ≡ 0
    → (is_fine (check_command t) ≡ true) × (outside (grant_of g o) t ≡ false)
unfolding barred
accepted-inside g x o d t z =
    by_test (is_barred g (AddFrom o d t))
    (λ n. absurd ((barred-call g x (AddFrom o d t) n).0 z))
    (λ n.
    let f : check_command t ≡ (Ok tt) =
    added-fine x d t (ap (λ (a : Answer). a.code) (sym (free-call g x (AddFrom o d t) n).0) ∙ z) in
    (ap is_fine f, rw f at n))

-- ---- An office's own

waiting-of : (ts : List (List ℕ)) → all_fine ts ≡ true → Waiting (joined ts)
unfolding joined
waiting-of [] a = Nothing refl
waiting-of (t ∷ ts) a = Text (joined-fine t ts a)

snoc : (ts : List (List ℕ)) (t : List ℕ) → joined (ts ++ (t ∷ [])) ≡ onto (joined ts) t
unfolding joined
snoc ts t = foldl-append onto [] ts (t ∷ [])

pub record Kept (g : Grants) (o : Office) (ts us : List (List ℕ)) : Type 0 where
  pub all : all_fine ts ≡ true
  pub own : all_fine us ≡ true
  pub same : SameOwn (grant_of g o) (joined ts) (joined us)

module _ (g : Grants) (ts us : List (List ℕ)) (t : List ℕ) (f : is_fine (check_command t) ≡ true) where
  both-more : (o : Office) → Kept g o ts us → Kept g o (ts ++ (t ∷ [])) (us ++ (t ∷ []))
  both-more o k =
      record {
        all = fine_snoc ts t k.all f;
        own = fine_snoc us t k.own f;
        same =
            rw (snoc ts t, snoc us t)
            (own-onto t f (grant_of g o) (joined ts) (joined us) (waiting-of ts k.all) (waiting-of us k.own) k.same);
      }

  other-more : (o p : Office) → grant_of g p ≡ other_of g o → outside (grant_of g p) t ≡ false → Kept g o ts us → Kept g o (ts ++ (t ∷ [])) us
  other-more o p e n k =
      record {
        all = fine_snoc ts t k.all f;
        own = k.own;
        same =
            rw (snoc ts t)
            (other-onto t f (grant_of g o) (grant_of g p) (full-of g o) (full-of g p)
            (ap (overlap (grant_of g o)) e ∙ apart_of g o) n (joined ts) (joined us) (waiting-of ts k.all) k.same);
      }

  add-more : (o p : Office) → outside (grant_of g p) t ≡ false → Kept g o ts us → Kept g o (ts ++ (t ∷ [])) (cond (is_same o p) (us ++ (t ∷ [])) us)
  add-more First First n k = both-more First k
  add-more First Second n k = other-more First Second refl n k
  add-more Second First n k = other-more Second First refl n k
  add-more Second Second n k = both-more Second k

-- nothing waits: none is set
none_kept : (g : Grants) (o : Office) → Kept g o [] []
unfolding all_fine
none_kept g o = record { all = refl; own = refl; same = record { flags = λ i l a. refl; sections = λ k lo hi a. refl } }

stays_if : (a : Bool) (us : List (List ℕ)) → cond a us us ≡ us
stays_if true us = refl
stays_if false us = refl

call_kept : (g : Grants) (o : Office) (d : List ℕ) (ts us : List (List ℕ)) (x : Lent) (c : OfficeCall) → Kept g o ts us
    → Kept g o (heard d ts (as_base c) (call_answer g x c).code) (cond (is_from o c) (heard d us (as_base c) (call_answer g x c).code) us)
call_kept g o d ts us x (TakeAny e out) k =
    by_test (eqb (answer_to x (Take e out)).code 0 && same_bytes d e)
    (λ (h : (eqb (answer_to x (Take e out)).code 0 && same_bytes d e) ≡ true). rw h (none_kept g o))
    (λ (h : (eqb (answer_to x (Take e out)).code 0 && same_bytes d e) ≡ false). rw h k)
call_kept g o d ts us x (AddFrom p e t) k =
    let code : ℕ = (call_answer g x (AddFrom p e t)).code in
    by_test (eqb code 0 && same_bytes d e)
    (λ (h : (eqb code 0 && same_bytes d e) ≡ true).
    let a = accepted-inside g x p e t (eqb-true code 0 (both_left (eqb code 0) (same_bytes d e) h)) in
    rw h (add-more g ts us t a.0 o p a.1 k))
    (λ (h : (eqb code 0 && same_bytes d e) ≡ false). rw (h, stays_if (is_same o p) us) k)

pub run-kept : (g : Grants) (o : Office) (d : List ℕ) (cs : List OfficeCall) (x : Lent) (ts us : List (List ℕ)) → Kept g o ts us
    → Kept g o (both_from g d ts x cs) (own_from g o d us x cs)
unfolding both_from own_from
run-kept g o d [] x ts us k = k
run-kept g o d (c ∷ cs) x ts us k =
    run-kept g o d cs (call_leaves g x c) (heard d ts (as_base c) (call_answer g x c).code)
    (cond (is_from o c) (heard d us (as_base c) (call_answer g x c).code) us) (call_kept g o d ts us x c k)

pub own-kept : (r : OfficeRun) (o : Office) (d : List ℕ) → Kept r.grants o (accepted_both r d) (accepted_own r o d)
own-kept r o d = run-kept r.grants o d r.calls r.board [] [] (none_kept r.grants o)
