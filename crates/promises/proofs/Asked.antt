-- A run of calls is a run of board's events, and the numbers of its answers say what was heard.
use mathlib.Core.Path.{◌≡◌, refl, sym, ap, ap₂, ◌∙◌}
use mathlib.Core.List.{List, [], ◌∷◌, ◌++◌, map}
use Prim.Native.Nat.{ℕ}
use native.Mathlib.Omega.{arith}
use lib.ListN.{length}
use borrow.Author.Tests.{ne_eqb}
use Rattle.board.specs.Board.{Move, Stay, Put, Free, Reply, reply_of}
use Rattle.board.specs.History.{Event, Add as AddFor, Take as TakeFor, Entry, since_from, heard as heardOf}
use Rattle.board.specs.Lent.{take_lent, on_slots}
use Rattle.board.specs.Calls.{Lent, call, on_lent, after_calls, logged_calls}
use Rattle.board.proofs.Coded.{Coded, call-coded, take-area}
use Rattle.desk.specs.Waiting.{reply_numbers}
use Rattle.promises.specs.BoardRuns.{Call, Add, Take, move_of, answer_to, lent_after, after_all, Told, log_from, heard, heard_from}
use Rattle.text.specs.Codes.{number_of}
use Rattle.text.proofs.Codes.{numbered}

-- ---- Calls as events

abbrev pub asked : Call → Event
asked (Add d t) = AddFor d t
asked (Take d out) = TakeFor d (length out)

pub move-asked : (x : Lent) (c : Call) → move_of x c ≡ call x (asked c)
move-asked x (Add d t) = refl
move-asked x (Take d out) = refl

pub move-coded : (x : Lent) (c : Call) → Coded (move_of x c)
move-coded x c = rw (move-asked x c) (call-coded x (asked c))

-- what is lent after a call
pub lent-asked : (x : Lent) (c : Call) → lent_after x c ≡ on_lent (call x (asked c)) x
lent-asked x (Add d t) = refl
lent-asked x (Take d out) =
    ap (λ (a : List ℕ). record { slots = on_slots (take_lent x.slots x.area d (length out)) x.slots; area = a })
    (sym (take-area x d (length out)))

-- and after a run
pub after-asked : (cs : List Call) (x : Lent) → after_all x cs ≡ after_calls x (map asked cs)
unfolding after_all after_calls
after-asked [] x = refl
after-asked (c ∷ cs) x =
    after-asked cs (lent_after x c) ∙ ap (λ (y : Lent). after_calls y (map asked cs)) (lent-asked x c)

-- an answer's code says whether a call was heard
heard-move : (d : List ℕ) (ts : List (List ℕ)) (c : Call) (m : Move)
    → heard d ts c (reply_numbers (reply_of m)).code ≡ heardOf d ts (asked c) (reply_of m)
heard-move d ts (Add e t) (Stay code place) = let l = (numbered code).least in rw (ne_eqb (number_of code) 0 (λ (z : number_of code ≡ 0). omega arith))
heard-move d ts (Add e t) (Put i f u) = refl
heard-move d ts (Add e t) (Free i u) = refl
heard-move d ts (Take e out) (Stay code place) = let l = (numbered code).least in rw (ne_eqb (number_of code) 0 (λ (z : number_of code ≡ 0). omega arith))
heard-move d ts (Take e out) (Put i f u) = refl
heard-move d ts (Take e out) (Free i u) = refl

pub heard-asked : (d : List ℕ) (ts : List (List ℕ)) (x : Lent) (c : Call)
    → heard d ts c (answer_to x c).code ≡ heardOf d ts (asked c) (reply_of (call x (asked c)))
heard-asked d ts x c =
    heard-move d ts c (move_of x c) ∙ ap (λ (m : Move). heardOf d ts (asked c) (reply_of m)) (move-asked x c)

-- so do all answers of a run
pub since-asked : (d : List ℕ) (cs : List Call) (x : Lent) (ts : List (List ℕ))
    → heard_from d ts (log_from x cs) ≡ since_from d ts (logged_calls x (map asked cs))
unfolding heard_from log_from since_from logged_calls
since-asked d [] x ts = refl
since-asked d (c ∷ cs) x ts =
    since-asked d cs (lent_after x c) (heard d ts c (answer_to x c).code)
    ∙ ap₂ (λ (us : List (List ℕ)) (y : Lent). since_from d us (logged_calls y (map asked cs))) (heard-asked d ts x c) (lent-asked x c)

-- ---- One call more

pub after_next : (cs : List Call) (x : Lent) (c : Call) → after_all x (cs ++ (c ∷ [])) ≡ lent_after (after_all x cs) c
unfolding after_all
after_next [] x c = refl
after_next (a ∷ cs) x c = after_next cs (lent_after x a) c

pub heard-next : (d : List ℕ) (cs : List Call) (x : Lent) (c : Call) (ts : List (List ℕ))
    → heard_from d ts (log_from x (cs ++ (c ∷ [])))
    ≡ heard d (heard_from d ts (log_from x cs)) c (answer_to (after_all x cs) c).code
unfolding heard_from log_from after_all
heard-next d [] x c ts = refl
heard-next d (a ∷ cs) x c ts = heard-next d cs (lent_after x a) c (heard d ts a (answer_to x a).code)

-- ---- Alike

parts_same : (a b : Entry) (l k : List Entry) → a ∷ l ≡ b ∷ k → (a ≡ b) × (l ≡ k)
parts_same a b l k h = (cc, cc)

-- what replies alike to all events answers alike to all calls
pub log-alike : (cs : List Call) (x y : Lent) → ((es : List Event) → logged_calls x es ≡ logged_calls y es) → log_from x cs ≡ log_from y cs
unfolding log_from logged_calls
log-alike [] x y h = refl
log-alike (c ∷ cs) x y h =
    ap₂ (λ (r : Reply) (l : List Told). record { call = c; answer = reply_numbers r } ∷ l)
    (ap reply_of (move-asked x c) ∙ ap (λ (a : Entry). a.reply) (same []).0 ∙ ap reply_of (sym (move-asked y c)))
    (log-alike cs (lent_after x c) (lent_after y c)
    (λ es.
    ap (λ (z : Lent). logged_calls z es) (lent-asked x c) ∙ (same es).1 ∙ ap (λ (z : Lent). logged_calls z es) (sym (lent-asked y c))))
  where
    entry : Lent → Entry
    entry z = record { event = asked c; reply = reply_of (call z (asked c)) }

    rest : Lent → List Event → List Entry
    rest z es = logged_calls (on_lent (call z (asked c)) z) es

    same : (es : List Event) → (entry x ≡ entry y) × (rest x es ≡ rest y es)
    same es = parts_same (entry x) (entry y) (rest x es) (rest y es) (h (asked c ∷ es))
