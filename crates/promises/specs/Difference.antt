-- Document 02, §5, in the numbers and bytes that the host is given: a field is a sentence.
use Rattle.std.specs.Prelude.{◌≡◌, ◌↔◌, ◌⊎◌, true, List, ◌∷◌, ◌++◌, ℕ, ◌+◌, ◌<◌, ◌≤◌, length, get_or, drop, replicate}
use Rattle.text.specs.Bytes.{bytes}
use Rattle.settings.specs.Settings.{contents_of}
use Rattle.settings.specs.Valid.{reset}
use Rattle.settings.specs.declared.Settings.{Settings}
use Rattle.command.specs.Text.{is_named}
use Rattle.command_write.specs.Filled.{Filled}
use Rattle.config.specs.Config.{kept}
use Rattle.difference.specs.Difference.{items, those, set_by, difference, left_by}
use Rattle.desk.specs.Numbers.{accepted, answer_of}
use Rattle.desk.specs.Differences.{difference_numbers}
use Rattle.desk.specs.declared.HostDiffering.{HostDiffering}
use Rattle.promises.specs.BoardRuns.{IsAccepted}
use Rattle.promises.specs.Commute.{flag_in}
use Rattle.promises.specs.Configuration.{check, apply}

-- ---- The call, by its contract

abbrev pub difference_answer : Settings → Settings → List ℕ → HostDiffering
difference_answer a b out = difference_numbers (difference a b (length out))

-- what out holds afterwards
abbrev pub difference_buffer : Settings → Settings → List ℕ → List ℕ
difference_buffer a b out = left_by a b out

-- a refusal's code; its place, its length and its list are 0
abbrev pub refusing : ℕ → HostDiffering
refusing code = record { answer = answer_of code 0; count = 0; items = replicate 15 0 }

-- a configuration as C holds it: its arrays are as long as they are declared
abbrev pub Declared : Settings → Type 0
Declared x = Filled (record { settings = x; downlink = 0; named = replicate 8 0; spare = 0 })

-- ---- The list

-- j is one of the entries below the count
pub record IsListed (r : HostDiffering) (j : ℕ) : Type 0 where
  pub place : ℕ
  pub below : place < r.count
  pub there : get_or r.items place 0 ≡ j

-- flag i of the two, from 0, and section k
abbrev pub FlagsDiffer : Settings → Settings → ℕ → Type 0
FlagsDiffer a b i = ¬ (get_or a.flags i 0 ≡ get_or b.flags i 0)

abbrev pub SectionsDiffer : Settings → Settings → ℕ → Type 0
SectionsDiffer a b k = ¬ (contents_of a k ≡ contents_of b k)

pub record ListOf (a b : Settings) (r : HostDiffering) : Type 0 where
  -- "lists each differing flag and section .. equal ones never"; flag i is i + 1, section k is 10 + k
  pub flags : (i : ℕ) → i < 7 → IsListed r (i + 1) ↔ FlagsDiffer a b i
  pub sections : (k : ℕ) → 2 ≤ k → k ≤ 9 → IsListed r (k + 10) ↔ SectionsDiffer a b k
  -- and nothing else
  pub others : (j : ℕ) → IsListed r j → ((1 ≤ j) × (j ≤ 7)) ⊎ ((12 ≤ j) × (j ≤ 19))
  -- "in the order of the command, each once"
  pub order : (m n : ℕ) → m < n → n < r.count → get_or r.items m 0 < get_or r.items n 0
  -- entries from the count on are 0
  pub room : (r.count ≤ 15) × (length r.items ≡ 15)
  pub unused : (n : ℕ) → r.count ≤ n → get_or r.items n 0 ≡ 0

-- ---- The command

-- an accepted command that makes the first into the second; what esk_apply leaves is `kept`
pub record Makes (a b : Settings) (s : List ℕ) : Type 0 where
  pub fine : IsAccepted s
  pub leaves : kept a s ≡ b

-- it sets flag i: byte 57, `9`, sets none
abbrev pub SetsFlag : List ℕ → ℕ → Type 0
SetsFlag s i = ¬ (flag_in s i ≡ 57)

abbrev pub SetsSection : List ℕ → ℕ → Type 0
SetsSection s k = is_named s k ≡ true

-- how many flags and sections it sets
abbrev pub how_many : List ℕ → ℕ
how_many s = length (those (set_by s) items)

pub record CommandOf (a b : Settings) (r : HostDiffering) (c : List ℕ) : Type 0 where
  -- "It also writes the command that makes the first into the second"
  pub makes : Makes a b c
  pub applied : (apply a c).code ≡ 0
  -- "and names exactly the listed items"
  pub flags : (i : ℕ) → i < 7 → SetsFlag c i ↔ IsListed r (i + 1)
  pub sections : (k : ℕ) → 2 ≤ k → k ≤ 9 → SetsSection c k ↔ IsListed r (k + 10)
  -- "Its downlink digit is 0": byte 48
  pub downlink : (get_or c 12 0 ≡ 48) × ((apply a c).downlink ≡ 0)
  -- "No accepted command that does the job sets fewer flags and sections": each sets every one that is listed
  pub every-flag : (s : List ℕ) → Makes a b s → (i : ℕ) → i < 7 → IsListed r (i + 1) → SetsFlag s i
  pub every-section : (s : List ℕ) → Makes a b s → (k : ℕ) → 2 ≤ k → k ≤ 9 → IsListed r (k + 10) → SetsSection s k
  pub fewest : (s : List ℕ) → Makes a b s → r.count ≤ how_many s
  pub count : how_many c ≡ r.count
  -- and one that sets nothing else and asks for no downlink is this one
  pub only : (s : List ℕ) → Makes a b s → ((i : ℕ) → i < 7 → SetsFlag s i → IsListed r (i + 1))
      → ((k : ℕ) → 2 ≤ k → k ≤ 9 → SetsSection s k → IsListed r (k + 10)) → get_or s 12 0 ≡ 48 → s ≡ c
  -- "Equal configurations give an empty list and the no-change command", and others do not
  pub equal : (a ≡ b) ↔ (r.count ≡ 0)
  pub no_change : (a ≡ b) ↔ (c ≡ bytes "AWR049999999000000000/")

-- ---- The answer

-- accepted: the command stands at the start of out, all bytes behind it stay
pub record Written (a b : Settings) (out c : List ℕ) : Type 0 where
  pub answer : (difference_answer a b out).answer ≡ accepted (length c)
  pub buffer : difference_buffer a b out ≡ c ++ drop (length c) out
  pub list : ListOf a b (difference_answer a b out)
  pub command : CommandOf a b (difference_answer a b out) c

-- a refusal, and nothing is changed
pub record Refused (a b : Settings) (out : List ℕ) (code : ℕ) : Type 0 where
  pub answer : difference_answer a b out ≡ refusing code
  pub buffer : difference_buffer a b out ≡ out

-- one command, whatever room is lent: "then 2"
pub record Answers (a b : Settings) : Type 0 where
  pub command : List ℕ
  pub written : (out : List ℕ) → length command ≤ length out → Written a b out command
  pub two : (out : List ℕ) → length out < length command → Refused a b out 2

pub record DifferencePromises : Type 0 where
  -- "Refusals: 12": for either configuration
  pub twelve : (a b : Settings) (out : List ℕ) → ¬ (((check a).code ≡ 0) × ((check b).code ≡ 0)) → Refused a b out 12
  -- two valid configurations
  pub answers : (a b : Settings) → Declared a → Declared b → (check a).code ≡ 0 → (check b).code ≡ 0 → Answers a b
  -- one pair: after reset, and after a command that also asked for a downlink
  pub printed : (out : List ℕ) → 27 ≤ length out
      → let x = kept reset (bytes "AWR040999999200000009/2301/") in
      (difference_answer reset x out ≡ record { answer = accepted 27; count = 2; items = 1 ∷ 19 ∷ replicate 13 0 })
      × (difference_buffer reset x out ≡ bytes "AWR040999999000000009/2301/" ++ drop 27 out)
