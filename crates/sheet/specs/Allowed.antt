-- An allowed record, by ranges alone: nothing here speaks of a text. The ranges are those of docs/STATUS-SHEET.md.
use Rattle.std.specs.Prelude.{◌≡◌, true, List, [], ◌∷◌, ℕ, ◌+◌, ◌*◌, ◌%◌, ◌<◌, ◌≤◌, length, get_or}
use Rattle.text.specs.Parts.{part}
use Rattle.text.specs.Names.{all_allowed}
use Rattle.sheet.specs.declared.Limits.{Limits}
use Rattle.sheet.specs.declared.Sheet.{Sheet}
use Rattle.sheet.specs.Number.{is_below, size_of, within}

-- from the least to the most, none below zero
abbrev pub from : ℕ → ℕ → Limits
from least most = record { below = 0; least = least; most = most }

-- minutes, so many degrees on either side of zero
abbrev pub degrees : ℕ → Limits
degrees d = record { below = 60 * d; least = 0; most = 60 * d }

abbrev pub switch : Limits
switch = from 0 1

-- hPa between two observations
abbrev pub interval : Limits
interval = from 1 99

abbrev pub seconds : Limits
seconds = from 0 999

-- hPa of a trigger level
abbrev pub level : Limits
level = from 0 9999

abbrev pub observations : Limits
observations = from 0 99

abbrev pub method : Limits
method = from 0 2

abbrev pub constant : Limits
constant = from 0 9

-- ascent and its two intervals, level flight and its interval, descent and its two intervals; two trigger levels, observations; smoothing and
-- four time constants
abbrev pub number_limits : List Limits
number_limits =
    switch
    ∷ interval
    ∷ interval
    ∷ switch
    ∷ seconds
    ∷ switch
    ∷ interval
    ∷ interval
    ∷ level
    ∷ level
    ∷ observations
    ∷ method
    ∷ constant
    ∷ constant
    ∷ constant
    ∷ constant
    ∷ []

-- two corners, latitude before longitude, anywhere on the globe, and a status
abbrev pub box_limits : List Limits
box_limits = degrees 90 ∷ degrees 180 ∷ degrees 90 ∷ degrees 180 ∷ switch ∷ []

-- a word of 16 bits, as C's int16_t has it
abbrev pub InRange : Limits → ℕ → Type 0
InRange l x = within l (is_below x) (size_of x) ≡ true

pub record Allowed (x : Sheet) : Type 0 where
  pub designator : all_allowed x.designator ≡ true
  pub numbers : (i : ℕ) → i < 16 → InRange (get_or number_limits i (from 0 0)) (get_or x.numbers i 0)
  pub boxes : (i : ℕ) → i < 50 → InRange (get_or box_limits (i % 5) (from 0 0)) (get_or x.boxes i 0)
  pub names : (n : ℕ) → n < 50 → all_allowed (part (5 * n) 4 x.airports) ≡ true
  pub statuses : (n : ℕ) → n < 50 → get_or x.airports (5 * n + 4) 0 ≤ 1

-- what C's record has by its type: so many members, numbers and edges of 16 bits
pub record Sized (x : Sheet) : Type 0 where
  pub numbers : length x.numbers ≡ 16
  pub boxes : length x.boxes ≡ 50
  pub designator : length x.designator ≡ 6
  pub airports : length x.airports ≡ 250
  pub words : (i : ℕ) → i < 16 → get_or x.numbers i 0 < 65536
  pub edges : (i : ℕ) → i < 50 → get_or x.boxes i 0 < 65536
