-- Document 01, "The command": what is promised of esk_command_check, esk_command_read and
-- esk_command_write.
use Rattle.std.specs.Prelude.{◌≡◌, ◌↔◌, true, List, [], ◌++◌, ℕ, ◌+◌, ◌≤◌, length, take, drop}
use Rattle.text.specs.Bytes.{bytes}
use Rattle.command.specs.Text.{sections_most, longest, check_command}
use Rattle.section.specs.Layout.{numbers}
use Rattle.command.specs.Record.{read_command, command_text, write_seen, left_by}
use Rattle.command.specs.Allowed.{allowed_command}
use Rattle.command.specs.Examples.{longest_text}
use Rattle.command.specs.declared.Command.{Command}
use Rattle.command_write.specs.Filled.{Filled}
use Rattle.desk.specs.Numbers.{accepted, answer_of, check_numbers, write_numbers}
use Rattle.desk.specs.Commands.{command_numbers}
use Rattle.desk.specs.declared.Answer.{Answer}
use Rattle.desk.specs.declared.CommandAnswer.{CommandAnswer}
use Rattle.promises.specs.Zero.{no_command}
use Rattle.promises.specs.Sections.{Means}

-- ---- The calls, by their contracts

abbrev pub check : List ℕ → Answer
check s = check_numbers (check_command s)

abbrev pub read : List ℕ → CommandAnswer
read s = command_numbers (read_command s)

abbrev pub write : Command → List ℕ → Answer
write c out = write_numbers (write_seen c (length out)) (length (command_text c))

abbrev pub written : Command → List ℕ → List ℕ
written c out = left_by (write_seen c (length out)) (command_text c) out

-- ---- The promises

pub record CommandPromises : Type 0 where
  -- the reader answers as the check does; the command of a refusal is zero in every member
  pub one_answer : (s : List ℕ) → (read s).answer ≡ check s
  pub refused : (s : List ℕ) → ¬ ((check s).code ≡ 0) → ((read s).command ≡ no_command) × ((check s).length ≡ 0)
  -- where each member stands in the text
  pub means : (s : List ℕ) → (check s).code ≡ 0 → Means s (read s).command
  -- what is read is within document 01's ranges
  pub allowed : (s : List ℕ) → (check s).code ≡ 0 → (allowed_command (read s).command ≡ true) × Filled (read s).command
  -- "Each accepted text reads to one record that writes back the same bytes"
  pub read-write : (s out : List ℕ) → (check s).code ≡ 0 → length s ≤ length out
      → (write (read s).command out ≡ accepted (length s)) × (written (read s).command out ≡ s ++ drop (length s) out)
  -- "each allowed record writes and reads back", as itself
  pub write_read : (c : Command) (out : List ℕ) → Filled c → allowed_command c ≡ true → length (command_text c) ≤ length out
      → (write c out ≡ accepted (length (command_text c)))
      × (read (take (length (command_text c)) (written c out)) ≡ record { answer = accepted 0; command = c })
      × (drop (length (command_text c)) (written c out) ≡ drop (length (command_text c)) out)
  -- in no more bytes than the longest: the first 22 and every section at its longest
  pub short : (s : List ℕ) → (check s).code ≡ 0 → length s ≤ longest
  pub longest-is : longest ≡ 22 + sections_most numbers
  -- accepted is code 0: a text is accepted just where it is what an allowed record is written as
  pub accepts : (s : List ℕ) → ((check s).code ≡ 0) ↔ ((c : Command) × (Filled c × (allowed_command c ≡ true) × (s ≡ command_text c)))
  -- a record is written just where it is allowed and there is room
  pub writes : (c : Command) (out : List ℕ) → Filled c
      → ((write c out).code ≡ 0) ↔ ((allowed_command c ≡ true) × (length (command_text c) ≤ length out))
  -- a refusal leaves the buffer, and carries nothing but code and place
  pub unwritten : (c : Command) (out : List ℕ) → ¬ ((write c out).code ≡ 0)
      → (written c out ≡ out) × (write c out ≡ answer_of (write c out).code (write c out).place)
  -- there are accepted texts: the printed ones, and one that is full
  pub no_change : check (bytes "AWR049999999000000000/") ≡ accepted 0
  pub printed : check (bytes "AWR041199999100400009/300/2301/") ≡ accepted 0
  pub printed-descent : check (bytes "AWR049999999000000700/004020011/") ≡ accepted 0
  pub full : (check longest_text ≡ accepted 0) × (length longest_text ≡ longest)
  -- "Empty command: 8 at 0."
  pub empty : check [] ≡ answer_of 8 0
