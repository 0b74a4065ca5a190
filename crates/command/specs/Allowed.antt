-- Which records document 01 allows, by its ranges alone: the record's own fields, in the document's order and words. How a
-- record is written, and what a writer answers, plays no part.
use Rattle.std.specs.Prelude.{Bool, true, cond, ◌&&◌, ◌||◌, not, List, [], ◌∷◌, ℕ, ◌-◌, ◌*◌, leb, eqb, ℤ, pos, neg_ℤ, take, drop, get_or}
use Rattle.std.specs.Int.Signed.{le_z}
use Rattle.text.specs.Names.{between, allowed}
use Rattle.field.specs.declared.Edge.{Edge}
use Rattle.field.specs.declared.Region.{Region}
use Rattle.lists.specs.Lists.{most_airfields, most_boxes, region_zero}
use Rattle.lists.specs.declared.Airfields.{Airfields}
use Rattle.lists.specs.declared.Boxes.{Boxes}
use Rattle.section.specs.Layout.{look, numbers}
use Rattle.settings.specs.declared.Regions.{Regions}
use Rattle.settings.specs.declared.Airports.{Airports}
use Rattle.settings.specs.declared.Ascent.{Ascent}
use Rattle.settings.specs.declared.Descent.{Descent}
use Rattle.settings.specs.declared.Settings.{Settings}
use Rattle.command.specs.declared.Command.{Command}

-- every entry of a list passes a test
unfoldable pub every : {A : Type 0} → (A → Bool) → List A → Bool
every test [] = true
every test (x ∷ xs) = test x && every test xs

abbrev pub nought : ℕ → Bool
nought v = eqb v 0

-- ---- Lists

-- an edge: at most so many degrees, the letter at and above zero or the one below it; zero has only the first
abbrev pub allowed_edge : ℕ → ℕ → ℕ → Edge → Bool
allowed_edge most above below e =
    leb e.degrees most && (eqb e.letter above || (eqb e.letter below && not (eqb e.degrees 0)))

-- degrees above zero, or below it where the letter says so
abbrev pub signed : ℕ → Edge → ℤ
signed below e = cond (eqb e.letter below) (neg_ℤ (pos e.degrees)) (pos e.degrees)

-- two latitudes (0-90, `N` is 78 and `S` is 83), north not below south; two longitudes (0-180, `E` is 69 and `W` is 87) in any
-- order
unfoldable pub allowed_box : Region → Bool
allowed_box b =
    (allowed_edge 90 78 83 b.north && allowed_edge 90 78 83 b.south && le_z (signed 83 b.south) (signed 83 b.north))
    && (allowed_edge 180 69 87 b.west && allowed_edge 180 69 87 b.east)

-- at most 16 boxes; unused entries are zero
abbrev pub allowed_boxes : Boxes → Bool
allowed_boxes l = leb l.count most_boxes && every allowed_box (take l.count l.regions) && every region_zero (drop l.count l.regions)

abbrev pub zero_boxes : Boxes → Bool
zero_boxes l = nought l.count && every region_zero l.regions

-- at most 20 airfields of four bytes, each byte `A`-`Z` or `0`-`9`; unused entries are zero
abbrev pub allowed_airfields : Airfields → Bool
allowed_airfields l = leb l.count most_airfields && every allowed (take (4 * l.count) l.names) && every nought (drop (4 * l.count) l.names)

abbrev pub zero_airfields : Airfields → Bool
zero_airfields l = nought l.count && every nought l.names

-- ---- Sections

-- a list of each, and what each must pass
abbrev pub each_boxes : (Boxes → Bool) → Regions → Bool
each_boxes test x = test x.reporting && test x.inhibiting

abbrev pub each_airfields : (Airfields → Bool) → Airports → Bool
each_airfields test x =
    test x.selected.ascent && test x.selected.descent && test x.inhibited.ascent && test x.inhibited.descent

abbrev pub allowed_ascent : Ascent → Bool
allowed_ascent x =
    between 0 1 x.mode
    && between 3 20 x.interval1
    && between 30 600 x.duration
    && between 3 60 x.interval2
    && between 51 111 x.total
    && between 150 350 x.top
    && between 1 2 x.list
    && between 0 1 x.timer

abbrev pub zero_ascent : Ascent → Bool
zero_ascent x =
    every nought
    (x.mode ∷ x.interval1 ∷ x.duration ∷ x.interval2 ∷ x.total ∷ x.top ∷ x.list ∷ x.timer ∷ [])

-- source document 003, Table 4.3.10.7-1
abbrev pub allowed_descent : Descent → Bool
allowed_descent x =
    between 0 1 x.mode
    && between 10 300 x.interval
    && between 150 350 x.top
    && between 1 2 x.list
    && between 0 1 x.timer

abbrev pub zero_descent : Descent → Bool
zero_descent x = every nought (x.mode ∷ x.interval ∷ x.top ∷ x.list ∷ x.timer ∷ [])

-- section k within its ranges
unfoldable pub allowed_section : Settings → ℕ → Bool
allowed_section x k =
    look k
    ((2, each_boxes allowed_boxes x.regions)
    ∷ (3, each_airfields allowed_airfields x.airports && between 0 1 x.airports.routine)
    ∷ (4, between 1 60 x.enroute.interval && between 0 1 x.enroute.wind)
    ∷ (5, allowed_ascent x.ascent)
    ∷ (6, between 0 1 x.routine6)
    ∷ (7, allowed_descent x.descent)
    ∷ (8, between 0 1 x.routine8)
    ∷ (9, between 0 23 x.hours.start && between 0 23 x.hours.end)
    ∷ [])
    true

-- section k zero in every member
unfoldable pub zero_section : Settings → ℕ → Bool
zero_section x k =
    look k
    ((2, each_boxes zero_boxes x.regions)
    ∷ (3, each_airfields zero_airfields x.airports && nought x.airports.routine)
    ∷ (4, every nought (x.enroute.interval ∷ x.enroute.wind ∷ []))
    ∷ (5, zero_ascent x.ascent)
    ∷ (6, nought x.routine6)
    ∷ (7, zero_descent x.descent)
    ∷ (8, nought x.routine8)
    ∷ (9, every nought (x.hours.start ∷ x.hours.end ∷ []))
    ∷ [])
    true

-- a configuration: flags 0 or 1, and every section within its ranges
abbrev pub zero_or_one : ℕ → Bool
zero_or_one v = eqb v 0 || eqb v 1

unfoldable pub allowed_settings : Settings → Bool
allowed_settings x = every zero_or_one x.flags && every (allowed_section x) numbers

-- ---- Commands

abbrev pub allowed_flag : ℕ → Bool
allowed_flag v = zero_or_one v || eqb v 9

-- the indicator of section k, E2 being the first: 0 or its own number
abbrev pub indicator : Command → ℕ → ℕ
indicator c k = get_or c.named (k - 2) 0

abbrev pub allowed_indicator : Command → ℕ → Bool
allowed_indicator c k = nought (indicator c k) || eqb (indicator c k) k

-- a section that is named is within its ranges, any other is zero
abbrev pub in_turn : Command → ℕ → Bool
in_turn c k = cond (eqb (indicator c k) k) (allowed_section c.settings k) (zero_section c.settings k)

unfoldable pub allowed_command : Command → Bool
allowed_command c =
    every allowed_flag c.settings.flags
    && leb c.downlink 2
    && every (allowed_indicator c) numbers
    && nought c.spare
    && every (in_turn c) numbers
