-- The words of document 01, "Whether to report", each said by itself: none of what decides (Tests, Reason) is used here,
-- so that a rule that is wrong there is refused also where the code agrees with it.
use Rattle.std.specs.Prelude.{◌≡◌, ◌⊎◌, cond, ◌||◌, List, ℕ, suc, ◌+◌, ◌-◌, ◌*◌, ◌%◌, ◌≤◌, ◌<◌, eqb, ℤ, pos, neg_ℤ, ◌≤ℤ◌, length, get_or}
use Rattle.text.specs.Parts.{part}
use Rattle.packed.specs.Packed.{above}
use Rattle.field.specs.Boxes.{no_region}
use Rattle.field.specs.declared.Edge.{Edge}
use Rattle.field.specs.declared.Region.{Region}
use Rattle.lists.specs.declared.Airfields.{Airfields}
use Rattle.lists.specs.declared.Boxes.{Boxes}
use Rattle.settings.specs.declared.Settings.{Settings}
use Rattle.decide.specs.Question.{Question}

-- ---- "Seven flags: AMDAR, inhibit hours, regions, airports, ascent, enroute, descent"

pub data Flag : Type 0 where
  Amdar : Flag
  InhibitHours : Flag
  Regions : Flag
  Airports : Flag
  Ascent : Flag
  Enroute : Flag
  Descent : Flag

abbrev pub place_of : Flag → ℕ
place_of Amdar = 0
place_of InhibitHours = 1
place_of Regions = 2
place_of Airports = 3
place_of Ascent = 4
place_of Enroute = 5
place_of Descent = 6

abbrev pub flag_of : Settings → Flag → ℕ
flag_of x f = get_or x.flags (place_of f) 0

-- the flags numbered from 1
abbrev pub number_of : Flag → ℕ
number_of f = suc (place_of f)

-- ---- "Phase, hour (0-23) or position (a first observation's limits)"

pub record InRange (q : Question) : Type 0 where
  pub phase : q.phase ≤ 2
  pub hour : q.hour ≤ 23
  pub south : neg_ℤ (pos 5400) ≤ℤ q.north
  pub north : q.north ≤ℤ pos 5400
  pub west : neg_ℤ (pos 10800) ≤ℤ q.east
  pub east : q.east ≤ℤ pos 10800

-- ---- "An airfield that isn't four allowed bytes"; allowed are `A`-`Z` (65 to 90) and `0`-`9` (48 to 57)

abbrev pub AllowedByte : ℕ → Type 0
AllowedByte b = ((65 ≤ b) × (b ≤ 90)) ⊎ ((48 ≤ b) × (b ≤ 57))

pub record FourAllowed (a : List ℕ) : Type 0 where
  pub four : length a ≡ 4
  pub allowed : (i : ℕ) → i < 4 → AllowedByte (get_or a i 0)

-- ---- "The window runs from the start hour up to, not including, the end hour, over midnight if needed, and equal
-- hours mean none"

-- going on from the start hour, an hour at a time round the clock, one comes to the hour, and not to the end on the way
pub record InWindow (start end hour : ℕ) : Type 0 where
  pub steps : ℕ
  pub comes : (start + steps) % 24 ≡ hour
  pub before : (k : ℕ) → k ≤ steps → ¬ ((start + k) % 24 ≡ end)

-- ---- "Inside any inhibiting box", "reporting boxes exist and none holds the position; edges belong to a box"

-- where an edge lies, in minutes; `S` (83) and `W` (87) are below zero
abbrev pub lies_at : Edge → ℤ
lies_at e = cond (eqb e.letter 83 || eqb e.letter 87) (neg_ℤ (pos (60 * e.degrees))) (pos (60 * e.degrees))

-- Document 02, §2: "an area runs eastward from its first longitude and may wrap", "180W and 180E are the same meridian". Places
-- are minutes eastward from 180W: 180W is 0 and 180E is 21600, a whole turn.
abbrev pub from_date_line : ℤ → ℕ
from_date_line x = above x 10800

-- going on from the first edge, a minute at a time round the globe, one comes to the meridian, and not past the second edge on
-- the way: that lies a turn further on where the first is above it
pub record Eastward (first second place : ℕ) : Type 0 where
  pub steps : ℕ
  pub comes : (first + steps) % 21600 ≡ place % 21600
  pub before : (first + steps ≤ second) ⊎ ((second < first) × (first + steps ≤ second + 21600))

pub record Holds (b : Region) (latitude longitude : ℤ) : Type 0 where
  pub south : lies_at b.south ≤ℤ latitude
  pub north : latitude ≤ℤ lies_at b.north
  pub along : Eastward (from_date_line (lies_at b.west)) (from_date_line (lies_at b.east)) (from_date_line longitude)

-- one box of a list; of its entries the first, as many as its count says, are boxes
pub record SomeHolds (l : Boxes) (latitude longitude : ℤ) : Type 0 where
  pub which : ℕ
  pub counted : which < l.count
  pub there : which < length l.regions
  pub holds : Holds (get_or l.regions which no_region) latitude longitude

-- "an inhibiting box with its lowest number (from 1)": box n holds the position, and none of a lower number does
abbrev pub box_of : Boxes → ℕ → Region
box_of l n = get_or l.regions (n - 1) no_region

pub record FirstHolding (l : Boxes) (latitude longitude : ℤ) (n : ℕ) : Type 0 where
  pub from_one : 1 ≤ n
  pub counted : n ≤ l.count
  pub there : n ≤ length l.regions
  pub holds : Holds (box_of l n) latitude longitude
  pub lowest : (k : ℕ) → 1 ≤ k → k < n → ¬ Holds (box_of l k) latitude longitude

-- ---- "The airfield isn't inhibited, and the selected list is empty or has it"

-- one airfield of a list; each is four bytes behind the one before it
pub record Has (l : Airfields) (airfield : List ℕ) : Type 0 where
  pub which : ℕ
  pub counted : which < l.count
  pub same : part (4 * which) 4 l.names ≡ airfield

-- ---- "Descent alike with its own lists and section 8"

-- what ascent and descent have each of their own: the flag, the lists, and what the section says; and the numbers of the two
pub record Own : Type 0 where
  pub flag : ℕ
  pub selected : Airfields
  pub inhibited : Airfields
  pub section : ℕ
  pub flag_number : ℕ
  pub section_number : ℕ

abbrev pub of_ascent : Settings → Own
of_ascent x =
    record {
      flag = flag_of x Ascent;
      selected = x.airports.selected.ascent;
      inhibited = x.airports.inhibited.ascent;
      section = x.routine6;
      flag_number = number_of Ascent;
      section_number = 6;
    }

abbrev pub of_descent : Settings → Own
of_descent x =
    record {
      flag = flag_of x Descent;
      selected = x.airports.selected.descent;
      inhibited = x.airports.inhibited.descent;
      section = x.routine8;
      flag_number = number_of Descent;
      section_number = 8;
    }

-- that of the phase that is asked about, which is not level flight
unfoldable pub own_of : Settings → Question → Own
own_of x q = cond (eqb q.phase 0) (of_ascent x) (of_descent x)
