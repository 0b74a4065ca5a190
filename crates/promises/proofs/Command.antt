-- The promises of commands, kept.
use mathlib.Core.Path.{◌≡◌, refl, sym, ap, ◌∙◌}
use mathlib.Core.Bool.{true}
use mathlib.Core.List.{List, [], ◌++◌}
use Prim.Native.Nat.{ℕ, ◌≤◌}
use native.Mathlib.Omega.{arith}
use native.Mathlib.Nat.{zero-add}
use lib.ListN.{length, take, drop}
use lib.Seq.{take_at, drop_at}
use Rattle.text.specs.Checks.{◌and_then◌}
use Rattle.text.specs.Codes.{number_of}
use Rattle.text.specs.Over.{over}
use Rattle.text.proofs.Codes.{numbered}
use Rattle.section.specs.Layout.{layout_of, table_of, items_most}
use Rattle.settings.specs.Valid.{no_settings as emptySettings}
use Rattle.settings.specs.Settings.{settings_from, regions_from, airports_from, enroute_from, ascent_from, hours_from}
use Rattle.command.specs.Text.{check_awr04, check_head, sections_most, check_command}
use Rattle.command.specs.Record.{command_of, read_command, command_text, write_seen, left_by, no_command as emptyCommand}
use Rattle.command.specs.Allowed.{allowed_command}
use Rattle.command.specs.Examples.{longest_text, examples, AllReadBack}
use Rattle.command.specs.declared.Command.{Command}
use Rattle.command.proofs.Accepted.{longest-is, accepted as acceptedParts}
use Rattle.command.proofs.Examples.{examples-read, longest-text}
use Rattle.command_write.specs.Filled.{Filled}
use Rattle.command_write.proofs.RoundTrip as round
use Rattle.command_write.proofs.Allowed as written-allowed
use Rattle.desk.specs.Numbers.{accepted, answer_of, check_numbers, write_numbers}
use Rattle.desk.specs.Commands.{command_numbers}
use Rattle.desk.specs.declared.Answer.{Answer}
use Rattle.promises.specs.Command.{check, read, write, written, CommandPromises}
use Rattle.promises.specs.Zero.{no_command}
use Rattle.promises.proofs.Codes.{accepted-fine}
use Rattle.promises.proofs.Sections.{means}
use Rattle.std.specs.Prelude.{Result, Ok, Err}
use Rattle.text.specs.declared.Refusal.{Refusal}

-- ---- What was seen, by the code

fine-check : (s : List ℕ) → check_command s ≡ Ok tt → check s ≡ accepted 0
fine-check s e = rw e

write-fine : (c : Command) (out : List ℕ) → (write c out).code ≡ 0 → write_seen c (length out) ≡ Ok tt
write-fine c out e = go (write_seen c (length out)) refl e
  where
    go : (x : Result (Unit {0}) Refusal) → write_seen c (length out) ≡ x → (write_numbers x (length (command_text c))).code ≡ 0 → write_seen c (length out) ≡ Ok tt
    go (Ok u) h z = h
    go (Err r) h z = let l = (numbered r.code).least in let w : number_of r.code ≡ 0 = z in absurd (omega arith)

-- ---- Reading

one_answer : (s : List ℕ) → (read s).answer ≡ check s
unfolding command_numbers read_command
one_answer s = go (check_command s)
  where
    go : (x : Result (Unit {0}) Refusal) → (command_numbers (x and_then Ok (command_of s))).answer ≡ check_numbers x
    go (Ok u) = refl
    go (Err r) = refl

read_is : (s : List ℕ) → check_command s ≡ Ok tt → (read s).command ≡ command_of s
unfolding command_numbers read_command
read_is s e = rw e

empty-is : emptyCommand ≡ no_command
unfolding emptyCommand emptySettings settings_from regions_from airports_from enroute_from ascent_from hours_from
empty-is = refl

refused : (s : List ℕ) → ¬ ((check s).code ≡ 0) → ((read s).command ≡ no_command) × ((check s).length ≡ 0)
unfolding command_numbers read_command
refused s n = go (check_command s) n
  where
    go : (x : Result (Unit {0}) Refusal) → ¬ ((check_numbers x).code ≡ 0)
        → ((command_numbers (x and_then Ok (command_of s))).command ≡ no_command) × ((check_numbers x).length ≡ 0)
    go (Ok u) m = absurd (m refl)
    go (Err r) m = (empty-is, refl)

-- ---- Writing

module _ (c : Command) (out : List ℕ) (full : Filled c) (k : allowed_command c ≡ true) (room : length (command_text c) ≤ length out) where
  seen_it : write_seen c (length out) ≡ Ok tt
  seen_it = (written-allowed.writes-allowed c (length out) full).1 (k, room)

  wrote_it : write c out ≡ accepted (length (command_text c))
  wrote_it = rw seen_it

  left_it : written c out ≡ command_text c ++ drop (length (command_text c)) out
  unfolding over
  left_it = rw (seen_it, zero-add (length (command_text c)))

  reads-back : read (command_text c) ≡ record { answer = accepted 0; command = c }
  unfolding command_numbers read_command
  reads-back =
      let b = round.write_read c full (written-allowed.allowed-fine c full k) in rw (b.0, b.1)

  write_read : (write c out ≡ accepted (length (command_text c)))
      × (read (take (length (command_text c)) (written c out)) ≡ record { answer = accepted 0; command = c })
      × (drop (length (command_text c)) (written c out) ≡ drop (length (command_text c)) out)
  write_read =
      let t = command_text c in
      let n = length t in
      (wrote_it, rw (left_it, take_at t (drop n out) n refl) reads-back, rw (left_it, drop_at t (drop n out) n refl))

unwritten : (c : Command) (out : List ℕ) → ¬ ((write c out).code ≡ 0)
    → (written c out ≡ out) × (write c out ≡ answer_of (write c out).code (write c out).place)
unwritten c out n = go (write_seen c (length out)) n
  where
    go : (x : Result (Unit {0}) Refusal) → ¬ ((write_numbers x (length (command_text c))).code ≡ 0)
        → (left_by x (command_text c) out ≡ out)
        × (write_numbers x (length (command_text c)) ≡ answer_of (write_numbers x (length (command_text c))).code (write_numbers x (length (command_text c))).place)
    go (Ok u) m = absurd (m refl)
    go (Err r) m = (refl, refl)

-- ---- Both ways

allowed-read : (s : List ℕ) → check_command s ≡ Ok tt → (allowed_command (command_of s) ≡ true) × Filled (command_of s)
allowed-read s f =
    let full = written-allowed.read-filled s (acceptedParts s f) in
    (written-allowed.fine-allowed (command_of s) full (round.read-write s f).0, full)

read-write : (s out : List ℕ) → (check s).code ≡ 0 → length s ≤ length out
    → (write (read s).command out ≡ accepted (length s)) × (written (read s).command out ≡ s ++ drop (length s) out)
read-write s out e room =
    let f = accepted-fine s e in
    let c = command_of s in
    let a = allowed-read s f in
    let t : command_text c ≡ s = (round.read-write s f).1 in
    let fits : length (command_text c) ≤ length out = rw t room in
    rw (read_is s f) (
      wrote_it c out a.1 a.0 fits ∙ ap (λ (x : List ℕ). accepted (length x)) t,
      left_it c out a.1 a.0 fits ∙ ap (λ (x : List ℕ). x ++ drop (length x) out) t,
    )

accepts : (s : List ℕ) → (check s).code ≡ 0 → (c : Command) × (Filled c × (allowed_command c ≡ true) × (s ≡ command_text c))
accepts s e =
    let f = accepted-fine s e in
    let a = allowed-read s f in
    (command_of s, (a.1, a.0, sym (round.read-write s f).1))

accepted_by : (s : List ℕ) → (c : Command) × (Filled c × (allowed_command c ≡ true) × (s ≡ command_text c)) → (check s).code ≡ 0
accepted_by s (c, (full, k, e)) =
    ap (λ (a : Answer). a.code) (fine-check s (ap check_command e ∙ (round.write_read c full (written-allowed.allowed-fine c full k)).0))

-- ---- Examples

all_read : AllReadBack examples
all_read = examples-read

empty-refused : check [] ≡ answer_of 8 0
unfolding check_command check_head check_awr04 sections_most items_most layout_of table_of
empty-refused = refl

pub command_promises : CommandPromises
unfolding examples
command_promises =
    record {
      one_answer = one_answer;
      refused = refused;
      means = λ s e. let f = accepted-fine s e in rw (read_is s f) (means s);
      allowed = λ s e. let f = accepted-fine s e in rw (read_is s f) (allowed-read s f);
      read-write = read-write;
      write_read = write_read;
      short = λ s e. (acceptedParts s (accepted-fine s e)).short;
      longest-is = longest-is;
      accepts = λ s. (accepts s, accepted_by s);
      writes = λ c out full. (
        λ e. (written-allowed.writes-allowed c (length out) full).0 (write-fine c out e),
        λ k. ap (λ (a : Answer). a.code) (wrote_it c out full k.0 k.1),
      );
      unwritten = unwritten;
      no_change = fine-check _ all_read.0.0;
      printed = fine-check _ all_read.1.1.0.0;
      printed-descent = fine-check _ all_read.1.1.1.1.1.0.0;
      full = (fine-check longest_text all_read.1.1.1.1.0.0, longest-text);
      empty = empty-refused;
    }
