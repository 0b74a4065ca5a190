-- The numbers of an answer, whichever way they are made, and the longest text that a writer, a join or a finding gives.
use mathlib.Core.Path.{◌≡◌, refl}
use mathlib.Core.List.{List}
use Prim.Native.Nat.{ℕ, ◌≤◌}
use native.Mathlib.Omega.{arith}
use lib.Dec.{leb}
use lib.ListN.{length}
use Rattle.std.specs.Prelude.{Result, Ok, Err}
use Rattle.text.specs.Checks.{must, ◌and_then◌}
use Rattle.text.specs.declared.Refusal.{Refusal}
use Rattle.text.specs.declared.Code.TheVariants.{NoRoom}
use Rattle.text.proofs.Checks.{both-fine}
use Rattle.text.proofs.Cases.{by_test}
use Rattle.command.specs.Text.{longest, check_command}
use Rattle.command.specs.Record.{command_allowed, command_text, write_seen}
use Rattle.command.specs.declared.Command.{Command}
use Rattle.command_write.specs.Filled.{Filled}
use Rattle.command_write.proofs.RoundTrip.{written-short}
use Rattle.join.specs.Join.{Joined, join_text, by_seen, join, told}
use Rattle.join.proofs.Laws.{join-short}
use Rattle.finder.specs.declared.Part.{Part}
use Rattle.finder.specs.Finding.{find_section}
use Rattle.finder.proofs.Finds.{part-short}
use Rattle.desk.specs.Numbers.{check_numbers, write_numbers, length_numbers}
use Rattle.desk.specs.Joins.{join_numbers}
use Rattle.desk.specs.Steps.{told_numbers, length_in, found_length}

-- a check's numbers are those of a writer that gives no length
pub no_length : (x : Result (Unit {0}) Refusal) → write_numbers x 0 ≡ check_numbers x
no_length (Ok u) = refl
no_length (Err r) = refl

-- ---- A command that is written

pub wrote-numbers : (x : Result (Unit {0}) Refusal) (n : ℕ) → length_numbers (x and_then Ok n) ≡ write_numbers x n
wrote-numbers (Ok u) n = refl
wrote-numbers (Err r) n = refl

pub wrote-short : (c : Command) (room : ℕ) → Filled c → length_in (write_seen c room and_then Ok (length (command_text c))) ≤ longest
unfolding write_seen
wrote-short c room full = go (write_seen c room) refl
  where
    go : (x : Result (Unit {0}) Refusal) → write_seen c room ≡ x → length_in (x and_then Ok (length (command_text c))) ≤ longest
    go (Ok u) e = written-short c full (both-fine (command_allowed c) (must (leb (length (command_text c)) room) NoRoom 0) tt e).0
    go (Err r) e = omega arith

-- ---- Two commands that are joined

pub told-numbers : (j : Joined) → told_numbers (told j) ≡ join_numbers j
told-numbers (Ok t) = refl
told-numbers (Err f) = refl

pub told-short : (a b : List ℕ) (room : ℕ) → length_in (told (join a b room)) ≤ longest
unfolding join
told-short a b room = go (check_command a) (check_command b) refl refl
  where
    go : (x y : Result (Unit {0}) Refusal) → check_command a ≡ x → check_command b ≡ y → length_in (told (by_seen x y (join_text a b) room)) ≤ longest
    go (Err r) y e f = omega arith
    go (Ok u) (Err r) e f = omega arith
    go (Ok u) (Ok v) e f =
        by_test (leb (length (join_text a b)) room) (λ t. rw t (join-short a b e f)) (λ t. rw t (omega arith))

-- ---- A section that is found

pub found-short : (k : ℕ) (s : List ℕ) → found_length (find_section k s) ≤ longest
found-short k s = go (find_section k s) refl
  where
    go : (x : Result Part Refusal) → find_section k s ≡ x → found_length x ≤ longest
    go (Ok p) e = part-short k s p e
    go (Err r) e = omega arith
