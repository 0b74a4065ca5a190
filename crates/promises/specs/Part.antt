-- Document 02, §7, "Just the ascent part": what is promised of esk_section. Which section is whole and which count is on the way is
-- said in finder/specs/Words.
use Rattle.std.specs.Prelude.{◌≡◌, ◌↔◌, true, false, List, [], ◌∷◌, ◌++◌, ℕ, ◌+◌, ◌-◌, ◌≤◌, ◌<◌, length, get_or, Ok}
use Rattle.text.specs.Parts.{part}
use Rattle.section.specs.Layout.{Item, layout_of, items_size}
use Rattle.section.specs.Contents.{contents_at}
use Rattle.command.specs.Text.{check_head, is_named, longest}
use Rattle.command.specs.Sections.{place_of, bytes_of, held_in}
use Rattle.finder.specs.Finding.{find_section}
use Rattle.finder.specs.Words.{count_seen, behind, CountsFine, Whole, WholeBefore, Names, OnTheWay}
use Rattle.desk.specs.Numbers.{answer_of}
use Rattle.desk.specs.Parts.{part_or_refusal, part_numbers}
use Rattle.desk.specs.declared.HostPart.{HostPart}
use Rattle.promises.specs.BoardRuns.{IsAccepted}
use Rattle.promises.specs.Command.{check}
use Rattle.text.specs.Checks.{refuse}
use Rattle.text.specs.Codes.{number_of}
use Rattle.text.specs.declared.Code.{Code}

-- what C is told
abbrev pub told : ℕ → List ℕ → HostPart
told k s = part_numbers (find_section k s)

-- the caller's bytes that esk_part_of of the header then points to
abbrev pub given : ℕ → List ℕ → List ℕ
given k s = part (told k s).place (told k s).length s

abbrev pub refusal : ℕ → ℕ → HostPart
refusal code place = part_or_refusal place 0 code

-- code 0 with an empty part
abbrev pub nothing : HostPart
nothing = part_or_refusal 0 0 0

abbrev pub IsSection : ℕ → Type 0
IsSection k = (2 ≤ k) × (k ≤ 9)

-- "For every text that the full reader accepts it is the same section, or nothing exactly when the section isn't named."
pub record SameSection (k : ℕ) (s : List ℕ) : Type 0 where
  pub code : (told k s).code ≡ 0
  -- its own bytes, the same that a join copies
  pub own : given k s ≡ bytes_of s k
  pub none : (given k s ≡ []) ↔ (is_named s k ≡ false)
  -- at its own place, and it holds there what the full reader reads
  pub stands : is_named s k ≡ true → (told k s).place ≡ place_of s k
  pub holds : is_named s k ≡ true → contents_at (layout_of k) (given k s) 0 ≡ held_in s k
  -- "delimiter included"
  pub delimiter : is_named s k ≡ true → get_or s ((told k s).place + (told k s).length - 1) 0 ≡ 47

pub record PartPromises : Type 0 where
  pub same : (k : ℕ) (s : List ℕ) → IsSection k → IsAccepted s → SameSection k s
  -- "5 at place 0 for a section number outside 2 to 9, before all others"
  pub number : (k : ℕ) (s : List ℕ) → ¬ IsSection k → told k s ≡ refusal 5 0
  -- "code 1 and the header's refusals come as in document 01"
  pub long : (k : ℕ) (s : List ℕ) → IsSection k → longest < length s → told k s ≡ refusal 1 0
  pub header : (k : ℕ) (s : List ℕ) (code : Code) (place : ℕ) → IsSection k → length s ≤ longest → check_head s ≡ refuse code place
      → (told k s ≡ refusal (number_of code) place) × (check s ≡ answer_of (number_of code) place)
  -- "a section that the header doesn't name then gives code 0 with an empty part"
  pub unnamed : (k : ℕ) (s : List ℕ) → IsSection k → length s ≤ longest → check_head s ≡ Ok 22 → is_named s k ≡ false
      → told k s ≡ nothing
  -- "A count on the way is checked as there, 8 at the count if it begins no later than the text's end and is cut"
  pub count : (h k : ℕ) (s : List ℕ) (is rest : List Item) (i : Item) (code : Code) (place : ℕ) → OnTheWay h k s
      → layout_of h ≡ is ++ (i ∷ rest) → CountsFine is s (place_of s h) → behind is s (place_of s h) ≤ length s
      → count_seen i s (behind is s (place_of s h)) ≡ refuse code place → told k s ≡ refusal (number_of code) place
  -- "else a section passed over or asked for that runs past the end is 8 at its start": the next of its items would begin past
  -- the end, or all of them end there and its delimiter is missing
  pub past : (h k : ℕ) (s : List ℕ) (is js : List Item) → OnTheWay h k s → layout_of h ≡ is ++ js → CountsFine is s (place_of s h)
      → length s < behind is s (place_of s h) → told k s ≡ refusal 8 (place_of s h)
  pub no-delimiter : (h k : ℕ) (s : List ℕ) → OnTheWay h k s → CountsFine (layout_of h) s (place_of s h)
      → behind (layout_of h) s (place_of s h) ≡ length s → told k s ≡ refusal 8 (place_of s h)
  -- where none of these holds it is found: whole, with those before it, and what stands in them or behind is not looked at
  pub found : (k : ℕ) (s : List ℕ) → Names k s → WholeBefore k s → Whole k s (place_of s k)
      → told k s ≡ part_or_refusal (place_of s k) (items_size (layout_of k) s (place_of s k)) 0
  -- "A refusal gives an empty part too."
  pub empty : (k : ℕ) (s : List ℕ) → ¬ ((told k s).code ≡ 0) → ((told k s).length ≡ 0) × (given k s ≡ [])
  -- a part lies in the text that was lent, whatever that is
  pub inside : (k : ℕ) (s : List ℕ) → (told k s).code ≡ 0 → (told k s).place + (told k s).length ≤ length s
