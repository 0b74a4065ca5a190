-- The order of a board's refusals: one law for each use of it.
use mathlib.Core.Path.{◌≡◌, refl}
use mathlib.Core.Bool.{Bool, true, false, cond, ◌&&◌}
use Prim.Native.Nat.{ℕ}
use Rattle.std.specs.Prelude.{Result, Ok, Err}
use Rattle.text.specs.Checks.{refuse as refusal}
use Rattle.text.specs.declared.Refusal.{Refusal}
use Rattle.text.specs.declared.Code.{Code}
use Rattle.text.specs.declared.Code.TheVariants.{NoRoom, NotAllowed, BoardFull, BoardInvalid, NothingWaits}
use Rattle.board.specs.Board.{past_refusals, placing, handing}

module _ {A : Type 0} (P : A → Type 0) (refuse : Code → ℕ → A) where
  -- what is so of each refusal that can come, and of what is done where none does, is so of a call
  pub refusals-all : (v n : Bool) (s : Result (Unit {0}) Refusal) (m : A) → P (refuse BoardInvalid 0) → P (refuse NotAllowed 0)
      → ((code : Code) (place : ℕ) → s ≡ refusal code place → P (refuse code place))
      → (v ≡ true → n ≡ true → s ≡ Ok tt → P m)
      → P (past_refusals refuse v n s m)
  refusals-all true true (Ok u) m ten four own f = f refl refl refl
  refusals-all true true (Err r) m ten four own f = own r.code r.place refl
  refusals-all true false s m ten four own f = four
  refusals-all false n s m ten four own f = ten

  -- so of adding
  pub placing-all : (waits free : Bool) (onto into : A) → P (refuse BoardFull 0) → (waits ≡ true → P onto)
      → (waits ≡ false → free ≡ true → P into)
      → P (placing refuse waits free onto into)
  placing-all true free onto into nine f g = f refl
  placing-all false true onto into nine f g = g refl refl
  placing-all false false onto into nine f g = nine

  -- and of taking
  pub handing-all : (waits fits : Bool) (out : A) → P (refuse NothingWaits 0) → P (refuse NoRoom 0) → (waits ≡ true → fits ≡ true → P out)
      → P (handing refuse waits fits out)
  handing-all true true out eleven two f = f refl refl
  handing-all true false out eleven two f = two
  handing-all false fits out eleven two f = eleven

module _ {A : Type 0} (refuse : Code → ℕ → A) where
  -- two calls that find the same, and then do the same, are the same
  pub refusals-same : (v u n k : Bool) (s : Result (Unit {0}) Refusal) (m o : A) → v ≡ u → n ≡ k → (v ≡ true → n ≡ true → s ≡ Ok tt → m ≡ o)
      → past_refusals refuse v n s m ≡ past_refusals refuse u k s o
  refusals-same true u true k (Ok y) m o e f g = rw (← e, ← f) (g refl refl refl)
  refusals-same true u true k (Err r) m o e f g = rw (← e, ← f)
  refusals-same true u false k s m o e f g = rw (← e, ← f)
  refusals-same false u n k s m o e f g = rw (← e)

  pub placing-same : (a b c d : Bool) (m n o p : A) → a ≡ b → c ≡ d → (a ≡ true → m ≡ n) → (a ≡ false → c ≡ true → o ≡ p)
      → placing refuse a c m o ≡ placing refuse b d n p
  placing-same true b c d m n o p e f g h = rw (← e) (g refl)
  placing-same false b true d m n o p e f g h = rw (← e, ← f) (h refl refl)
  placing-same false b false d m n o p e f g h = rw (← e, ← f)

  pub handing-same : (a b c d : Bool) (m n : A) → a ≡ b → (a ≡ true → c ≡ d) → (a ≡ true → c ≡ true → m ≡ n)
      → handing refuse a c m ≡ handing refuse b d n
  handing-same true b true d m n e f g = rw (← e, ← f refl) (g refl refl)
  handing-same true b false d m n e f g = rw (← e, ← f refl)
  handing-same false b c d m n e f g = rw (← e)

  -- a board that isn't shaped is refused as one that isn't valid is
  pub refusals-shaped : (a v n : Bool) (s : Result (Unit {0}) Refusal) (m : A) → cond a (past_refusals refuse v n s m) (refuse BoardInvalid 0) ≡ past_refusals refuse (a && v) n s m
  refusals-shaped true v n s m = refl
  refusals-shaped false v n s m = refl
