-- Where each member of a command's record stands in its text: "the published layouts".
use Rattle.std.specs.Prelude.{◌≡◌, true, cond, List, ℕ, ◌+◌, ◌-◌, ◌*◌, ◌<◌, ◌≤◌, get_or}
use Rattle.text.specs.Parts.{part}
use Rattle.field.specs.Decimal.{value}
use Rattle.field.specs.Boxes.{no_region}
use Rattle.field.specs.declared.Edge.{Edge}
use Rattle.field.specs.declared.Region.{Region}
use Rattle.lists.specs.declared.Airfields.{Airfields}
use Rattle.lists.specs.declared.Boxes.{Boxes}
use Rattle.command.specs.Text.{is_named}
use Rattle.command.specs.Sections.{place_of}
use Rattle.command.specs.declared.Command.{Command}

-- the number that n digits from a place on spell
abbrev pub number_at : List ℕ → ℕ → ℕ → ℕ
number_at s at n = value (part at n s)

-- behind a list: its count of two digits, and so many entries
abbrev pub past_boxes : List ℕ → ℕ → ℕ
past_boxes s at = at + (2 + 14 * number_at s at 2)

abbrev pub past_airfields : List ℕ → ℕ → ℕ
past_airfields s at = at + (2 + 4 * number_at s at 2)

-- "Each latitude or longitude with its letter": w digits and the letter behind them
pub record EdgeStands (s : List ℕ) (at w : ℕ) (e : Edge) : Type 0 where
  pub degrees : e.degrees ≡ number_at s at w
  pub letter : e.letter ≡ get_or s (at + w) 0

-- "A box is 14 bytes: two latitudes, north edge first .., two longitudes, west first"
pub record BoxStands (s : List ℕ) (at : ℕ) (b : Region) : Type 0 where
  pub north : EdgeStands s at 2 b.north
  pub south : EdgeStands s (at + 3) 2 b.south
  pub west : EdgeStands s (at + 6) 3 b.west
  pub east : EdgeStands s (at + 10) 3 b.east

-- a list from a place on: its count, and its entries in their order; that unused entries are zero is said of every record that is read
pub record BoxesStand (s : List ℕ) (at : ℕ) (l : Boxes) : Type 0 where
  pub count : l.count ≡ number_at s at 2
  pub boxes : (i : ℕ) → i < number_at s at 2 → BoxStands s (at + 2 + 14 * i) (get_or l.regions i no_region)

-- four bytes for each airfield
pub record AirfieldsStand (s : List ℕ) (at : ℕ) (l : Airfields) : Type 0 where
  pub count : l.count ≡ number_at s at 2
  pub names : (i : ℕ) → i < 4 * number_at s at 2 → get_or l.names i 0 ≡ get_or s (at + 2 + i) 0

-- section 2, which begins at p
pub record Regions (s : List ℕ) (p : ℕ) (c : Command) : Type 0 where
  pub reporting : BoxesStand s p c.settings.regions.reporting
  pub inhibiting : BoxesStand s (past_boxes s p) c.settings.regions.inhibiting

-- section 3: four lists, ascent selected, descent selected, ascent inhibited, descent inhibited; routine
pub record Airports (s : List ℕ) (p : ℕ) (c : Command) : Type 0 where
  pub ascent-selected : AirfieldsStand s p c.settings.airports.selected.ascent
  pub descent-selected : AirfieldsStand s (past_airfields s p) c.settings.airports.selected.descent
  pub ascent-inhibited : AirfieldsStand s (past_airfields s (past_airfields s p)) c.settings.airports.inhibited.ascent
  pub descent-inhibited :
      AirfieldsStand s (past_airfields s (past_airfields s (past_airfields s p))) c.settings.airports.inhibited.descent
  pub routine : c.settings.airports.routine
      ≡ number_at s (past_airfields s (past_airfields s (past_airfields s (past_airfields s p)))) 1

-- section 5: mode, series 1 interval, duration, series 2 interval, total, top, list, timer
pub record Ascent (s : List ℕ) (p : ℕ) (c : Command) : Type 0 where
  pub mode : c.settings.ascent.mode ≡ number_at s p 1
  pub interval1 : c.settings.ascent.interval1 ≡ number_at s (p + 1) 2
  pub duration : c.settings.ascent.duration ≡ number_at s (p + 3) 3
  pub interval2 : c.settings.ascent.interval2 ≡ number_at s (p + 6) 2
  pub total : c.settings.ascent.total ≡ number_at s (p + 8) 3
  pub top : c.settings.ascent.top ≡ number_at s (p + 11) 3
  pub list : c.settings.ascent.list ≡ number_at s (p + 14) 1
  pub timer : c.settings.ascent.timer ≡ number_at s (p + 15) 1

-- section 7, which stands between 6, of two bytes, and 8: mode, interval, top, list, timer
pub record Descent (s : List ℕ) (p : ℕ) (c : Command) : Type 0 where
  pub behind : p ≡ cond (is_named s 6) (place_of s 6 + 2) (place_of s 6)
  pub before : place_of s 8 ≡ p + 10
  pub mode : c.settings.descent.mode ≡ number_at s p 1
  pub interval : c.settings.descent.interval ≡ number_at s (p + 1) 3
  pub top : c.settings.descent.top ≡ number_at s (p + 4) 3
  pub list : c.settings.descent.list ≡ number_at s (p + 7) 1
  pub timer : c.settings.descent.timer ≡ number_at s (p + 8) 1

-- seven flags, a downlink digit, eight indicators, and the sections that are named, each where it stands
pub record Means (s : List ℕ) (c : Command) : Type 0 where
  pub flags : (i : ℕ) → i < 7 → get_or c.settings.flags i 0 ≡ get_or s (5 + i) 0 - 48
  pub downlink : c.downlink ≡ get_or s 12 0 - 48
  pub named : (k : ℕ) → 2 ≤ k → k ≤ 9 → get_or c.named (k - 2) 0 ≡ get_or s (11 + k) 0 - 48
  pub regions : is_named s 2 ≡ true → Regions s (place_of s 2) c
  pub airports : is_named s 3 ≡ true → Airports s (place_of s 3) c
  pub enroute : is_named s 4 ≡ true
      → (c.settings.enroute.interval ≡ number_at s (place_of s 4) 2) × (c.settings.enroute.wind ≡ number_at s (place_of s 4 + 2) 1)
  pub ascent : is_named s 5 ≡ true → Ascent s (place_of s 5) c
  pub six : is_named s 6 ≡ true → c.settings.routine6 ≡ number_at s (place_of s 6) 1
  pub descent : is_named s 7 ≡ true → Descent s (place_of s 7) c
  pub eight : is_named s 8 ≡ true → c.settings.routine8 ≡ number_at s (place_of s 8) 1
  pub hours : is_named s 9 ≡ true
      → (c.settings.hours.start ≡ number_at s (place_of s 9) 2) × (c.settings.hours.end ≡ number_at s (place_of s 9 + 2) 2)
