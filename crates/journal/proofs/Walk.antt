-- The walk from the end of a journal: one step at a time, whatever it gathers.
use mathlib.Core.Path.{◌≡◌, refl}
use mathlib.Core.List.{List}
use Prim.Native.Nat.{ℕ, zero, suc, ◌<◌}
use native.Mathlib.Omega.{arith}
use Rattle.journal.specs.Journal.{last_entry, Sound, Broken, on_last, walk_back, walk, starts_at}
use Rattle.journal.proofs.Ends.{starts}
use Rattle.std.specs.Prelude.{Result, Ok, Err, Option, Some, None}
use Rattle.text.specs.declared.Refusal.{Refusal}
use Rattle.journal.specs.declared.Entry.{Entry as Found}

module _ {A : Type 0} (gather : ℕ → ℕ → A → A) (s : List ℕ) where
  -- more steps than bytes are as good as any other number of them
  enough : (m n end : ℕ) (a : A) → end < m → end < n → walk_back gather s m end a ≡ walk_back gather s n end a
  unfolding walk_back
  enough zero n end a h k = absurd (omega arith)
  enough (suc m) zero end a h k = absurd (omega arith)
  enough (suc m) (suc n) end a h k =
      go (last_entry s end) refl (λ (at i : ℕ) (l : at < end). enough m n at (gather at i a) (omega arith) (omega arith))
    where
      go : (l : Result (Option Found) Refusal) → last_entry s end ≡ l
          → ((at i : ℕ) → at < end → walk_back gather s m at (gather at i a) ≡ walk_back gather s n at (gather at i a))
          → on_last l (Sound a) (λ (at i : ℕ). walk_back gather s m at (gather at i a))
          ≡ on_last l (Sound a) (λ (at i : ℕ). walk_back gather s n at (gather at i a))
      go (Ok None) e on = refl
      go (Ok (Some f)) e on = let w = (starts s end f.at f.length e).whole in on f.at f.length (omega arith)
      go (Err r) e on = refl

  -- where an entry is found, the walk goes on before it
  pub walk_starts : (end at n : ℕ) (a : A) → last_entry s end ≡ starts_at at n → walk gather s end a ≡ walk gather s at (gather at n a)
  unfolding walk_back
  walk_starts end at n a e =
      let w = (starts s end at n e).whole in
      rw e (enough end (suc at) at (gather at n a) (omega arith) (omega arith))

  -- where no byte is left, it ends
  pub walk-nothing : (end : ℕ) (a : A) → last_entry s end ≡ Ok None → walk gather s end a ≡ Sound a
  unfolding walk_back
  walk-nothing end a e = rw e

  -- and elsewhere it fails
  pub walk-fails : (end : ℕ) (r : Refusal) (a : A) → last_entry s end ≡ Err r → walk gather s end a ≡ Broken r.place
  unfolding walk_back
  walk-fails end r a e = rw e
