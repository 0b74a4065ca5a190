-- Document 02, §12, in the numbers and bytes that the host is given: a field is a sentence.
use Rattle.std.specs.Prelude.{◌≡◌, ◌↔◌, true, List, ℕ, ◌+◌, ◌-◌, ◌<◌, ◌≤◌, length, get_or}
use Rattle.text.specs.Bytes.{bytes}
use Rattle.section.specs.Layout.{layout_of}
use Rattle.section.specs.Contents.{Content, contents_at}
use Rattle.settings.specs.Valid.{reset}
use Rattle.settings.specs.declared.Settings.{Settings}
use Rattle.command.specs.Text.{is_named, longest, check_command}
use Rattle.command.specs.Sections.{place_of}
use Rattle.config.specs.Config.{kept}
use Rattle.join.specs.Join.{join_text}
use Rattle.commute.specs.Commute.{bit, compared}
use Rattle.desk.specs.Numbers.{check_numbers}
use Rattle.desk.specs.Orders.{commute_numbers}
use Rattle.desk.specs.declared.Answer.{Answer}
use Rattle.desk.specs.declared.HostCommute.{HostCommute}
use Rattle.promises.specs.BoardRuns.{IsAccepted}
use Rattle.promises.specs.Configuration.{check}
use Rattle.promises.specs.Join.{join_answer, buffer_joined}

-- what esk_commute answers
abbrev pub commute_answer : List ℕ → List ℕ → HostCommute
commute_answer a b = commute_numbers (compared a b)

-- a refusal's code and place, and which text is at fault; all else is 0
abbrev pub refusing : ℕ → Answer → HostCommute
refusing n r = record { place = r.place; code = r.code; text = n; yes = 0; flags = 0; sections = 0; spare = 0; rest = 0 }

-- yes or no, and what stands against it
abbrev pub answering : ℕ → ℕ → ℕ → HostCommute
answering y f s = record { place = 0; code = 0; text = 0; yes = y; flags = f; sections = s; spare = 0; rest = 0 }

-- "the same configuration in both orders, from every valid configuration"; what esk_apply leaves is `kept`
abbrev pub BothOrders : List ℕ → List ℕ → Type 0
BothOrders a b = (x : Settings) → (check x).code ≡ 0 → kept (kept x a) b ≡ kept (kept x b) a

-- flag i of a text, from 0; byte 57, `9`, sets none
abbrev pub flag_in : List ℕ → ℕ → ℕ
flag_in s i = get_or s (5 + i) 0

-- what section k of a text holds
abbrev pub contents_in : List ℕ → ℕ → List Content
contents_in s k = contents_at (layout_of k) s (place_of s k)

-- "each flag and section that both set has the same contents in both"
pub record SameContents (a b : List ℕ) : Type 0 where
  pub flags : (i : ℕ) → i < 7 → ¬ (flag_in a i ≡ 57) → ¬ (flag_in b i ≡ 57) → flag_in a i ≡ flag_in b i
  pub sections : (k : ℕ) → 2 ≤ k → k ≤ 9 → is_named a k ≡ true → is_named b k ≡ true → contents_in a k ≡ contents_in b k

-- both set flag i, and differently
pub record FlagApart (a b : List ℕ) (i : ℕ) : Type 0 where
  pub first : ¬ (flag_in a i ≡ 57)
  pub second : ¬ (flag_in b i ≡ 57)
  pub other : ¬ (flag_in a i ≡ flag_in b i)

-- both name section k, with other contents
pub record SectionApart (a b : List ℕ) (k : ℕ) : Type 0 where
  pub first : is_named a k ≡ true
  pub second : is_named b k ≡ true
  pub other : ¬ (contents_in a k ≡ contents_in b k)

-- the answer on two accepted texts
pub record Answered (a b : List ℕ) (r : HostCommute) : Type 0 where
  pub code : r.code ≡ 0
  pub place : r.place ≡ 0
  pub text : r.text ≡ 0
  pub spare : (r.spare ≡ 0) × (r.rest ≡ 0)
  -- "a yes or no for two texts that says exactly this"
  pub yes : (r.yes ≡ 1) ↔ BothOrders a b
  pub no : ¬ (r.yes ≡ 1) → r.yes ≡ 0
  -- what stands against it: exactly the flags and sections that both set differently; with none it is yes, and with any no
  pub flags : (i : ℕ) → i < 7 → (bit i r.flags ≡ 1) ↔ FlagApart a b i
  pub seven : r.flags < 128
  pub sections : (k : ℕ) → 2 ≤ k → k ≤ 9 → (bit (k - 2) r.sections ≡ 1) ↔ SectionApart a b k
  pub eight : r.sections < 256
  pub none : (r.yes ≡ 1) ↔ ((r.flags ≡ 0) × (r.sections ≡ 0))

-- the refusals of a join, but for room: code, place and text
pub record AsJoin (r : HostCommute) (j : Answer) : Type 0 where
  pub code : r.code ≡ j.code
  pub place : r.place ≡ j.place
  pub text : r.text ≡ j.text

pub record CommutePromises : Type 0 where
  -- "two accepted commands give the same configuration in both orders, from every valid configuration, exactly when each flag
  -- and section that both set has the same contents in both"
  pub exactly : (a b : List ℕ) → IsAccepted a → IsAccepted b → BothOrders a b ↔ SameContents a b
  -- where one has not, the configuration after reset, which is valid, tells the orders apart
  pub told-apart : (a b : List ℕ) → IsAccepted a → IsAccepted b → ¬ SameContents a b
      → ((check reset).code ≡ 0) × (¬ (kept (kept reset a) b ≡ kept (kept reset b) a))
  -- "In that case the joined texts are the same bytes too": by esk_join's answer and buffer, whatever is lent. The larger downlink
  -- digit is kept, and is the same either way round
  pub joined : (a b : List ℕ) → IsAccepted a → IsAccepted b → BothOrders a b → join_text a b ≡ join_text b a
  pub joined-answers : (a b out : List ℕ) → IsAccepted a → IsAccepted b → BothOrders a b
      → (join_answer a b out ≡ join_answer b a out) × (buffer_joined a b out ≡ buffer_joined b a out)
  -- "joining a command to itself gives itself"
  pub itself : (a : List ℕ) → IsAccepted a → join_text a a ≡ a
  -- "putting an earlier copy of the second in front of a join changes nothing"
  pub earlier_copy : (a b : List ℕ) → IsAccepted a → IsAccepted b → join_text b (join_text a b) ≡ join_text a b
  -- "Supply a yes or no for two texts that says exactly this"
  pub answers : (a b : List ℕ) → IsAccepted a → IsAccepted b → Answered a b (commute_answer a b)
  -- there are both: document 01's printed pair is a no, by section 4, and the second beside their join a yes
  pub printed-no : commute_answer (bytes "AWR041999999000400000/151/") (bytes "AWR049199999100400009/300/2301/") ≡ answering 0 0 4
  pub printed-yes : commute_answer (bytes "AWR049199999100400009/300/2301/") (bytes "AWR041199999100400009/300/2301/") ≡ answering 1 0 0
  -- "refusing as a join does but for room"
  pub accepts : (a b : List ℕ) → ((commute_answer a b).code ≡ 0) ↔ (IsAccepted a × IsAccepted b)
  pub first-refused : (a b : List ℕ) → ¬ IsAccepted a → commute_answer a b ≡ refusing 1 (check_numbers (check_command a))
  pub second-refused : (a b : List ℕ) → IsAccepted a → ¬ IsAccepted b → commute_answer a b ≡ refusing 2 (check_numbers (check_command b))
  pub as_join : (a b out : List ℕ) → longest ≤ length out → AsJoin (commute_answer a b) (join_answer a b out)
