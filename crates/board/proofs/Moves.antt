-- What is done by what a look over the slots found: laws of the functions that do it.
use mathlib.Core.Path.{◌≡◌, refl, sym, ap, ◌∙◌}
use mathlib.Core.Bool.{Bool, true, false, cond, ◌&&◌}
use mathlib.Core.List.{List}
use Prim.Native.Nat.{ℕ, ◌+◌, ◌*◌, ◌≤◌, ◌<◌}
use native.Mathlib.Omega.{arith}
use lib.Dec.{leb, ltb}
use lib.ListN.{length, take}
use borrow.Author.Tests.{leb-true, ltb-true}
use Rattle.std.specs.Prelude.{Result, Ok, Err}
use Rattle.text.specs.Over.{over}
use Rattle.text.proofs.Cases.{both_left, both_right}
use Rattle.text.proofs.Over.{found-over, length_then}
use Rattle.text.specs.declared.Code.TheVariants.{BoardInvalid}
use Rattle.text.specs.declared.Refusal.{Refusal}
use Rattle.command.specs.Text.{longest, check_command}
use Rattle.join.specs.Join.{Joined, join_text, by_seen, join, told, joined_over}
use Rattle.join.specs.declared.Fault.{Fault}
use Rattle.join.specs.declared.Fault.TheVariants.{Room}
use Rattle.board.specs.Board.{Stay}
use Rattle.board.specs.Inner.{fits_at, joins_to}

-- what a slot's lying in the area says
pub fits : (i n bytes : ℕ) → fits_at i n bytes ≡ true → (i < 64) × (n ≤ longest) × (longest * i + longest ≤ bytes)
fits i n bytes e =
    let two = both_left (ltb i 64 && leb n longest) (leb (longest * i + longest) bytes) e in (
      ltb-true i 64 (both_left (ltb i 64) (leb n longest) two),
      leb-true n longest (both_right (ltb i 64) (leb n longest) two),
      leb-true (longest * i + longest) bytes (both_right (ltb i 64 && leb n longest) (leb (longest * i + longest) bytes) e),
    )

-- ---- What was told of a join

pub told_text : (j : Joined) (m : ℕ) → told j ≡ Ok m → (u : List ℕ) × (j ≡ Ok u) × (length u ≡ m)
told_text (Ok u) m e = (u, refl, cc)
told_text (Err f) m e = let z : ◌≡◌ {A = ℕ} 0 1 = cc in absurd (omega arith)

pub told-refused : (j : Joined) (f : Fault) (i : ℕ) (d : List ℕ) → told j ≡ Err f → joins_to j i d ≡ Stay BoardInvalid 0
told-refused (Ok u) f i d e = let z : ◌≡◌ {A = ℕ} 0 1 = cc in absurd (omega arith)
told-refused (Err g) f i d e = refl

seen-fits : (x y : Result (Unit {0}) Refusal) (t u : List ℕ) (room : ℕ) → by_seen x y t room ≡ Ok u → length u ≤ room
seen-fits (Err r) y t u room e = let z : ◌≡◌ {A = ℕ} 0 1 = cc in absurd (omega arith)
seen-fits (Ok a) (Err r) t u room e = let z : ◌≡◌ {A = ℕ} 0 1 = cc in absurd (omega arith)
seen-fits (Ok a) (Ok b) t u room e = go (leb (length t) room) refl e
  where
    go : (b : Bool) → leb (length t) room ≡ b → ◌≡◌ {A = Joined} (cond b (Ok t) (Err Room)) (Ok u) → length u ≤ room
    go true h w = let z : t ≡ u = cc in rw (← z) (leb-true (length t) room h)
    go false h w = let z : ◌≡◌ {A = ℕ} 0 1 = cc in absurd (omega arith)

-- a text that was joined fits its room
pub join-fits : (a b u : List ℕ) (room : ℕ) → join a b room ≡ Ok u → length u ≤ room
unfolding join
join-fits a b u room e = seen-fits (check_command a) (check_command b) (join_text a b) u room e

-- the text that a join told of, in the buffer that it was written over
pub record Onto (j : Joined) (m : ℕ) (l : List ℕ) : Type 0 where
  pub text : List ℕ
  pub is : j ≡ Ok text
  pub long : length text ≡ m
  pub short : m ≤ longest
  pub room : m ≤ length l
  pub found : take m l ≡ text

pub onto : (a b d l : List ℕ) (j : Joined) (m : ℕ) → length d ≡ longest → j ≡ join a b (length d) → told j ≡ Ok m
    → l ≡ joined_over j d → Onto j m l
onto a b d l j m n e f w =
    let k = told_text j m f in
    let u = k.0 in
    let h : length u ≤ length d = join-fits a b u (length d) (sym e ∙ k.1) in
    let x : l ≡ over d 0 u = rw k.1 at w in
    let g : 0 + length u ≤ length d = omega arith in
    let r : length l ≡ length d = length_then d l u 0 x g in
    let q = k.2 in
    record {
      text = u;
      is = k.1;
      long = q;
      short = omega arith;
      room = omega arith;
      found = rw x (ap (λ (n : ℕ). take n (over d 0 u)) (sym q) ∙ found-over d 0 u g);
    }
