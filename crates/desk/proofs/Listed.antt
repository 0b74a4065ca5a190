-- What the calls with a list beside the board answer and leave, from what their parts did.
use mathlib.Core.Path.{◌≡◌, refl, sym, ap, ◌∙◌}
use mathlib.Core.Bool.{Bool, true, false, cond, and-true}
use mathlib.Core.List.{List}
use Prim.Native.Nat.{ℕ}
use native.Mathlib.Omega.{arith}
use lib.Dec.{leb}
use lib.ListN.{length}
use lib.Seq.{set_out}
use borrow.Author.Tests.{le-ltb}
use Rattle.std.specs.Prelude.{Result, Ok, Err}
use Rattle.text.specs.declared.Refusal.{Refusal}
use Rattle.text.specs.declared.Code.TheVariants.{BoardInvalid}
use Rattle.text.proofs.Cases.{by_test}
use Rattle.board.specs.Board.{Move, Stay, reply_of}
use Rattle.board.specs.Lent.{on_slots, no_slot}
use Rattle.board.specs.Inner.{Wanted, wanted_by, scanned, add_move, take_move, done_of, stored_in}
use Rattle.board.specs.declared.Slot.{Slot}
use Rattle.board.specs.declared.Stored.{Stored}
use Rattle.board.specs.declared.Findings.{Findings}
use Rattle.tails.specs.Tails.{list_of}
use Rattle.tails.specs.Keys.{keys_of, is_list_of}
use Rattle.tails.specs.Calls.{on_list}
use Rattle.tails.specs.Inner.{keys_in, is_list_in, held_to, relisted}
use Rattle.tails.specs.declared.keys.Keys.{Keys}
use Rattle.tails.proofs.Keyed.{keys_count, list_in, list-after}
use Rattle.desk.specs.Waiting.{reply_numbers, stored_numbers, relisted_by}
use Rattle.desk.proofs.Waited.{stored_answer}

-- with a list that agrees a look is as it was
held : (v : Findings) → held_to v true ≡ v
held v = ap {B = Findings} (λ (t : Bool). record { valid = t; length = v.length; own = v.own; free = v.free }) (and-true v.valid)

-- and with one that does not, the board is not valid
unheld : (v : Findings) → (held_to v false).valid ≡ false
unheld v = by_test v.valid (λ (t : v.valid ≡ true). rw t) (λ (t : v.valid ≡ false). rw t)

-- a call that moves as `moved` says, where the list agrees as `base` does
module _ (ys : List Slot) (area ts d : List ℕ) (w : Wanted) (k : Keys) (v : Findings) (done : Result Stored Refusal) (zs : List Slot) (ls : List ℕ) (moved : Findings → Wanted → Move) (base : Move) (ten : (x : Findings) (y : Wanted) → x.valid ≡ false → moved x y ≡ Stay BoardInvalid 0) (is : moved (scanned area (wanted_by d) ys) (wanted_by d) ≡ base) (at_slots : stored_in (done_of (wanted_by d) base) ys ≡ on_slots base ys) (ew : w ≡ wanted_by d) (ek : k ≡ keys_in ys) (ev : v ≡ scanned area w ys) (es : done ≡ done_of w (moved (held_to v (is_list_in k ts)) w)) (el : ls ≡ relisted_by k ts (is_list_in k ts) done) (ez : zs ≡ stored_in done ys) where
  abbrev move : Move
  move = cond (is_list_of ys ts) base (Stay BoardInvalid 0)

  fits : is_list_in k ts ≡ is_list_of ys ts
  fits = ap (λ (x : Keys). is_list_in x ts) ek ∙ list_in ys ts

  found : v ≡ scanned area (wanted_by d) ys
  found = ev ∙ ap (λ (x : Wanted). scanned area x ys) ew

  pub listed-move : moved (held_to v (is_list_in k ts)) w ≡ move
  listed-move =
      rw fits
      (by_test (is_list_of ys ts)
      (λ (t : is_list_of ys ts ≡ true). rw t (ap (λ (x : Findings). moved x w) (held v ∙ found) ∙ ap (moved (scanned area (wanted_by d) ys)) ew ∙ is))
      (λ (t : is_list_of ys ts ≡ false). rw t (ten (held_to v false) w (unheld v))))

  done_is : done ≡ done_of (wanted_by d) move
  done_is = es ∙ ap (done_of w) listed-move ∙ ap (λ (x : Wanted). done_of x move) ew

  stored : (t : Bool) → stored_in (done_of (wanted_by d) (cond t base (Stay BoardInvalid 0))) ys ≡ on_slots (cond t base (Stay BoardInvalid 0)) ys
  stored true = at_slots
  stored false = refl

  slots : zs ≡ on_slots move ys
  slots = ez ∙ ap (λ (x : Result Stored Refusal). stored_in x ys) done_is ∙ stored (is_list_of ys ts)

  -- a slot that is stored nowhere leaves the list
  out : (t : Bool) → relisted (keys_in ys) ts t (length ys) no_slot ≡ ts
  unfolding relisted
  out false = refl
  out true =
      rw (le-ltb (length ys) (keys_in ys).count (omega (arith, keys_count ys)))
      (by_test (leb (keys_in ys).count 64) (λ t. rw t) (λ t. rw t))

  -- the list of the slots that are stored, or the list as it was
  listed : (x : Result Stored Refusal) → relisted_by (keys_in ys) ts (is_list_in k ts) x ≡ cond (is_list_of ys ts) (list_of (keys_of (stored_in x ys))) ts
  listed (Ok s) = list-after ys ts s.at s.slot (is_list_in k ts) fits
  listed (Err r) =
      sym (out (is_list_in k ts))
      ∙ list-after ys ts (length ys) no_slot (is_list_in k ts) fits
      ∙ ap (λ (x : List Slot). cond (is_list_of ys ts) (list_of (keys_of x)) ts) (set_out ys (length ys) no_slot (omega arith))

  list : ls ≡ on_list move ys ts
  unfolding on_list
  list =
      el
      ∙ ap (λ (x : Keys). relisted_by x ts (is_list_in k ts) done) ek
      ∙ listed done
      ∙ ap (λ (x : List Slot). cond (is_list_of ys ts) (list_of (keys_of x)) ts) (sym ez ∙ slots)

  pub listed_says : (stored_numbers done ≡ reply_numbers (reply_of move)) × (zs ≡ on_slots move ys) × (ls ≡ on_list move ys ts)
  listed_says = (ap stored_numbers done_is ∙ stored_answer (wanted_by d) move, slots, list)

pub no_add : (area t : List ℕ) (x : Findings) (y : Wanted) → x.valid ≡ false → add_move x y area t ≡ Stay BoardInvalid 0
unfolding add_move
no_add area t x y e = rw e

pub no-take : (area : List ℕ) (room : ℕ) (x : Findings) (y : Wanted) → x.valid ≡ false → take_move x y area room ≡ Stay BoardInvalid 0
unfolding take_move
no-take area room x y e = rw e
