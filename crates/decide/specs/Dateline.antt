-- Document 02, §2, "Boxes over the date line", in its own words: which positions a box holds. A field is a sentence.
use Rattle.std.specs.Prelude.{◌≡◌, ◌↔◌, ◌⊎◌, ◌≤◌, ℤ, pos, neg_ℤ, ◌≤ℤ◌}
use Rattle.field.specs.declared.Edge.{Edge}
use Rattle.field.specs.declared.Region.{Region}
use Rattle.settings.specs.declared.Settings.{Settings}
use Rattle.decide.specs.Question.{Question}
use Rattle.decide.specs.Reason.{explained, decided}
use Rattle.decide.specs.Words.{lies_at, Holds}

-- 180E is 10800 minutes, 180W as many below zero
abbrev pub OnMeridian : ℤ → Type 0
OnMeridian x = (x ≡ pos 10800) ⊎ (x ≡ neg_ℤ (pos 10800))

-- a longitude that a question may have: "a first observation's limits"
abbrev pub Longitude : ℤ → Type 0
Longitude x = (neg_ℤ (pos 10800) ≤ℤ x) × (x ≤ℤ pos 10800)

-- its first edge is above its second
abbrev pub Wraps : Region → Type 0
Wraps b = ¬ (lies_at b.west ≤ℤ lies_at b.east)

-- the position's latitude is not outside the box's two
abbrev pub Latitudes : Region → ℤ → Type 0
Latitudes b latitude = (lies_at b.south ≤ℤ latitude) × (latitude ≤ℤ lies_at b.north)

-- what document 01 said of every box
abbrev pub Between : Region → ℤ → Type 0
Between b longitude = (lies_at b.west ≤ℤ longitude) × (longitude ≤ℤ lies_at b.east)

-- the box with other longitudes, in degrees with their letter, and their two spellings of 180: `E` is 69 and `W` is 87
abbrev pub running : Region → Edge → Edge → Region
running b first second = record { north = b.north; south = b.south; west = first; east = second }

abbrev pub e180 : Edge
e180 = record { degrees = 180; letter = 69 }

abbrev pub w180 : Edge
w180 = record { degrees = 180; letter = 87 }

-- the question, asked of another longitude
abbrev pub asked : Question → ℤ → Question
asked q longitude = record { phase = q.phase; north = q.north; east = longitude; hour = q.hour; airfield = q.airfield }

-- a box of at most 180 degrees each way, and a position
pub record BoxWords (b : Region) (latitude longitude : ℤ) : Type 0 where
  -- "A position is inside when its longitude is at or east of the first edge or at or west of the second."
  pub wrapping : Wraps b
      → Holds b latitude longitude ↔ (Latitudes b latitude × ((lies_at b.west ≤ℤ longitude) ⊎ (longitude ≤ℤ lies_at b.east)))
  -- "180W and 180E are the same meridian for the position test": any other box holds what lies between its edges, and where an
  -- edge is on that meridian, the meridian
  pub straight : ¬ Wraps b
      → Holds b latitude longitude
      ↔ (Latitudes b latitude
      × (Between b longitude ⊎ (OnMeridian longitude × (OnMeridian (lies_at b.west) ⊎ OnMeridian (lies_at b.east)))))
  -- one that neither wraps nor touches 180 holds what it held
  pub as_before : ¬ Wraps b → ¬ OnMeridian (lies_at b.west) → ¬ OnMeridian (lies_at b.east)
      → Holds b latitude longitude ↔ (Latitudes b latitude × Between b longitude)

-- "though they remain two spellings"
pub record Spellings (b : Region) (latitude longitude : ℤ) : Type 0 where
  -- of a position they are one
  pub position : Holds b latitude (pos 10800) ↔ Holds b latitude (neg_ℤ (pos 10800))
  -- and of an edge, where the other is another longitude
  pub first : (e : Edge) → e.degrees ≤ 180 → ¬ OnMeridian (lies_at e)
      → Holds (running b w180 e) latitude longitude ↔ Holds (running b e180 e) latitude longitude
  pub second : (e : Edge) → e.degrees ≤ 180 → ¬ OnMeridian (lies_at e)
      → Holds (running b e w180) latitude longitude ↔ Holds (running b e e180) latitude longitude
  -- where both edges are 180 degrees: from 180W to 180E is the globe, all others are the meridian alone
  pub globe : Holds (running b w180 e180) latitude longitude ↔ Latitudes b latitude
  pub line : Holds (running b e180 w180) latitude longitude ↔ (Latitudes b latitude × OnMeridian longitude)
  pub line-w : Holds (running b w180 w180) latitude longitude ↔ (Latitudes b latitude × OnMeridian longitude)
  pub line-e : Holds (running b e180 e180) latitude longitude ↔ (Latitudes b latitude × OnMeridian longitude)

pub record Dateline : Type 0 where
  pub boxes : (b : Region) (latitude longitude : ℤ) → b.west.degrees ≤ 180 → b.east.degrees ≤ 180 → Longitude longitude
      → BoxWords b latitude longitude
  pub spellings : (b : Region) (latitude longitude : ℤ) → Longitude longitude → Spellings b latitude longitude
  -- what is decided, and why: one answer for the two spellings of a position, whatever the boxes
  pub one-decision : (x : Settings) (q : Question) → decided x (asked q (pos 10800)) ≡ decided x (asked q (neg_ℤ (pos 10800)))
  pub one-reason : (x : Settings) (q : Question) → explained x (asked q (pos 10800)) ≡ explained x (asked q (neg_ℤ (pos 10800)))
