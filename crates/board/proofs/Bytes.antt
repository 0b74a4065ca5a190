-- The bytes of what is lent after a call: other slots keep theirs, and the output buffer holds what is handed over.
use mathlib.Core.Path.{◌≡◌, refl, sym, ap, ◌∙◌}
use mathlib.Core.Bool.{true}
use mathlib.Core.List.{List}
use Prim.Native.Nat.{ℕ, suc, ◌+◌, ◌-◌, ◌*◌, ◌≤◌, ◌<◌}
use native.Mathlib.Omega.{arith}
use native.Mathlib.Nat.{zero-add, mul-le-mul_left}
use lib.ListN.{length, take, drop, get_or, length-drop}
use lib.Seq.{drop-drop, get_or-set_other}
use Rattle.text.specs.Over.{over}
use Rattle.text.proofs.Cases.{by_test, by_lt}
use Rattle.text.proofs.Over.{found-over, after-over}
use Rattle.command.specs.Text.{longest}
use Rattle.board.specs.Board.{Move, Stay, Put, Free}
use Rattle.board.specs.History.{Event, Take}
use Rattle.board.specs.Lent.{is_shaped, take_lent, no_slot, on_slots, on_area, on_out}
use Rattle.board.specs.Calls.{Lent, board_in, call}
use Rattle.board.specs.declared.Slot.{Slot}
use Rattle.board.proofs.Lent.{take-over, drop-over, shape, Sits}
use Rattle.board.proofs.Calls.{call_sits}
use Rattle.board.proofs.Slots.{take_own}

-- ---- Other slots

-- past a text that is written nothing changes
past-over : (d : List ℕ) (at k : ℕ) (t : List ℕ) → at + length t ≤ length d → at + length t ≤ k → drop k (over d at t) ≡ drop k d
past-over d at k t h l =
    let r : ℕ = k - (at + length t) in
    let e : at + length t + r ≡ k = omega arith in
    ap (λ (n : ℕ). drop n (over d at t)) (sym e)
    ∙ sym (drop-drop r (at + length t) (over d at t))
    ∙ ap (drop r) (after-over d at t h)
    ∙ drop-drop r (at + length t) d
    ∙ ap (λ (n : ℕ). drop n d) e

-- a text written into slot i leaves the bytes of every other slot
bytes-kept : (area : List ℕ) (n i j : ℕ) (t : List ℕ) → length area ≡ longest * n → i < n → length t ≤ longest → (j ≡ i → ⊥)
    → take longest (drop (longest * j) (over area (longest * i) t)) ≡ take longest (drop (longest * j) area)
bytes-kept area n i j t e l h q =
    let k : longest * suc i ≡ longest * i + longest = omega arith in
    let w : longest * suc i ≤ longest * n = mul-le-mul_left longest l in
    by_lt j i
    (λ (b : j < i).
    let m : ℕ = longest * i - longest * j in
    let s : longest * suc j ≡ longest * j + longest = omega arith in
    let v : longest * suc j ≤ longest * i = mul-le-mul_left longest b in
    let f : longest * i ≡ longest * j + m = omega arith in
    ap (λ (at : ℕ). take longest (drop (longest * j) (over area at t))) f
    ∙ ap (take longest) (drop-over area (longest * j) m t (omega arith))
    ∙ take-over (drop (longest * j) area) m longest t (omega arith) (rw (length-drop (longest * j) area) (omega arith)))
    (λ (b : i ≤ j).
    let c : i < j = by_lt i j (λ c. c) (λ (d : j ≤ i). absurd (q (omega arith))) in
    let v : longest * suc i ≤ longest * j = mul-le-mul_left longest c in
    ap (take longest) (past-over area (longest * i) (longest * j) t (omega arith) (omega arith)))

-- slot j is the one that a move is about
abbrev pub Touches : Move → ℕ → Type 0
Touches (Stay code place) j = ⊥
Touches (Put i d t) j = j ≡ i
Touches (Free i t) j = j ≡ i

-- slot j has the record and the bytes of the area that it had
pub record Kept (m : Move) (xs : List Slot) (area : List ℕ) (j : ℕ) : Type 0 where
  pub slot : get_or (on_slots m xs) j no_slot ≡ get_or xs j no_slot
  pub bytes : take longest (drop (longest * j) (on_area m area)) ≡ take longest (drop (longest * j) area)

others : (m : Move) (xs : List Slot) (area : List ℕ) (j : ℕ) → length area ≡ longest * length xs → Sits (length xs) m
    → (Touches m j → ⊥) → Kept m xs area j
others (Stay code place) xs area j e s q = record { slot = refl; bytes = refl }
others (Put i d t) xs area j e s q =
    record {
      slot = get_or-set_other xs i j (record { designator = d; length = length t }) no_slot q;
      bytes = bytes-kept area (length xs) i j t e s.0 s.1 q;
    }
others (Free i t) xs area j e s q =
    record { slot = get_or-set_other xs i j (record { designator = (get_or xs i no_slot).designator; length = 0 }) no_slot q; bytes = refl }

-- every other slot keeps every byte
pub others_keep : (x : Lent) (e : Event) (j : ℕ) → is_shaped x.slots x.area ≡ true → (Touches (call x e) j → ⊥)
    → Kept (call x e) x.slots x.area j
others_keep x e j h q = others (call x e) x.slots x.area j (shape x.slots x.area h).bytes (call_sits x e h) q

-- ---- The output buffer

-- it begins with exactly the text that is handed over, and its other bytes stay
pub record HandedTo (w before now : List ℕ) : Type 0 where
  pub text : take (length w) now ≡ w
  pub rest : drop (length w) now ≡ drop (length w) before

-- what a taking leaves in the output buffer
pub out_holds : (x : Lent) (d out : List ℕ) (i : ℕ) (w : List ℕ) → call x (Take d (length out)) ≡ Free i w
    → HandedTo w out (on_out (call x (Take d (length out))) out)
unfolding take_lent
out_holds x d out i w k =
    by_test (is_shaped x.slots x.area)
    (λ h.
    let l : length w ≤ length out = (take_own (board_in x) d (length out) i w (rw h at k)).fits in
    rw k
    (record {
      text = found-over out 0 w (rw zero-add l);
      rest = rw zero-add at (after-over out 0 w (rw zero-add l));
    }))
    (λ h. let z : ◌≡◌ {A = ℕ} 0 1 = cc (rw h at k) in absurd (omega arith))
