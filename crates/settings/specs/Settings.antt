-- The record's sections as what each holds, in the order of its layout, and back. No contents are all zero.
use Rattle.std.specs.Prelude.{List, [], ◌∷◌, ◌++◌, ℕ, get_or}
use Rattle.section.specs.Layout.{look}
use Rattle.section.specs.Contents.{Content, Amount, Names, Areas, amount_of, names_of, areas_of}
use Rattle.lists.specs.Lists.{airfields_text}
use Rattle.lists.specs.declared.Airfields.{Airfields}
use Rattle.settings.specs.declared.Regions.{Regions}
use Rattle.settings.specs.declared.ByPhase.{ByPhase}
use Rattle.settings.specs.declared.Airports.{Airports}
use Rattle.settings.specs.declared.Enroute.{Enroute}
use Rattle.settings.specs.declared.Ascent.{Ascent}
use Rattle.settings.specs.declared.Descent.{Descent}
use Rattle.settings.specs.declared.Hours.{Hours}
use Rattle.settings.specs.declared.Settings.{Settings}
use Rattle.settings.specs.declared.Fixed.{Fixed}

-- ---- From the record

abbrev pub regions_hold : Regions → List Content
regions_hold x = Areas x.reporting ∷ Areas x.inhibiting ∷ []

abbrev pub airports_hold : Airports → List Content
airports_hold x =
    Names x.selected.ascent
    ∷ Names x.selected.descent
    ∷ Names x.inhibited.ascent
    ∷ Names x.inhibited.descent
    ∷ Amount x.routine
    ∷ []

-- the text of two lists, one behind the other
abbrev pub phases_text : ByPhase → List ℕ
phases_text x = airfields_text x.ascent ++ airfields_text x.descent

abbrev pub enroute_hold : Enroute → List Content
enroute_hold x = Amount x.interval ∷ Amount x.wind ∷ []

abbrev pub ascent_hold : Ascent → List Content
ascent_hold x =
    Amount x.mode
    ∷ Amount x.interval1
    ∷ Amount x.duration
    ∷ Amount x.interval2
    ∷ Amount x.total
    ∷ Amount x.top
    ∷ Amount x.list
    ∷ Amount x.timer
    ∷ []

abbrev pub descent_hold : Descent → List Content
descent_hold x =
    Amount x.mode ∷ Amount x.interval ∷ Amount x.top ∷ Amount x.list ∷ Amount x.timer ∷ []

abbrev pub digit_hold : ℕ → List Content
digit_hold d = Amount d ∷ []

abbrev pub hours_hold : Hours → List Content
hours_hold x = Amount x.start ∷ Amount x.end ∷ []

-- the sections of numbers
abbrev pub fixed_of : Settings → Fixed
fixed_of x =
    record { enroute = x.enroute; ascent = x.ascent; descent = x.descent; routine6 = x.routine6; routine8 = x.routine8; hours = x.hours }

abbrev pub fixed_sections : Fixed → List (ℕ × List Content)
fixed_sections x =
    (4, enroute_hold x.enroute)
    ∷ (5, ascent_hold x.ascent)
    ∷ (6, digit_hold x.routine6)
    ∷ (7, descent_hold x.descent)
    ∷ (8, digit_hold x.routine8)
    ∷ (9, hours_hold x.hours)
    ∷ []

unfoldable pub fixed_hold : Fixed → ℕ → List Content
fixed_hold x k = look k (fixed_sections x) []

-- what section k of the record holds
unfoldable pub contents_of : Settings → ℕ → List Content
contents_of x k = look k ((2, regions_hold x.regions) ∷ (3, airports_hold x.airports) ∷ []) (fixed_hold (fixed_of x) k)

-- ---- Into the record

abbrev pub amount_in : List Content → ℕ → ℕ
amount_in cs i = amount_of (get_or cs i (Amount 0))

unfoldable pub regions_from : List Content → Regions
regions_from cs = record { reporting = areas_of (get_or cs 0 (Amount 0)); inhibiting = areas_of (get_or cs 1 (Amount 0)) }

abbrev pub by_phase : Airfields → Airfields → ByPhase
by_phase ascent descent = record { ascent = ascent; descent = descent }

unfoldable pub airports_from : List Content → Airports
airports_from cs =
    record {
      selected = by_phase (names_of (get_or cs 0 (Amount 0))) (names_of (get_or cs 1 (Amount 0)));
      inhibited = by_phase (names_of (get_or cs 2 (Amount 0))) (names_of (get_or cs 3 (Amount 0)));
      routine = amount_in cs 4;
    }

unfoldable pub enroute_from : List Content → Enroute
enroute_from cs = record { interval = amount_in cs 0; wind = amount_in cs 1 }

unfoldable pub ascent_from : List Content → Ascent
ascent_from cs =
    record {
      mode = amount_in cs 0;
      interval1 = amount_in cs 1;
      duration = amount_in cs 2;
      interval2 = amount_in cs 3;
      total = amount_in cs 4;
      top = amount_in cs 5;
      list = amount_in cs 6;
      timer = amount_in cs 7;
    }

abbrev pub descent_from : List Content → Descent
descent_from cs =
    record { mode = amount_in cs 0; interval = amount_in cs 1; top = amount_in cs 2; list = amount_in cs 3; timer = amount_in cs 4 }

unfoldable pub hours_from : List Content → Hours
hours_from cs = record { start = amount_in cs 0; end = amount_in cs 1 }

-- flags, and what each section holds
unfoldable pub settings_from : List ℕ → (ℕ → List Content) → Settings
settings_from flags hold =
    record {
      flags = flags;
      regions = regions_from (hold 2);
      airports = airports_from (hold 3);
      enroute = enroute_from (hold 4);
      ascent = ascent_from (hold 5);
      descent = descent_from (hold 7);
      routine6 = amount_in (hold 6) 0;
      routine8 = amount_in (hold 8) 0;
      hours = hours_from (hold 9);
    }
