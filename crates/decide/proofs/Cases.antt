-- Computed cases: one table, and one statement over it.
use mathlib.Core.Path.{◌≡◌, refl}
use mathlib.Core.Bool.{cond}
use mathlib.Core.List.{List, [], ◌∷◌, ◌++◌, map}
use Prim.Native.Nat.{ℕ}
use lib.Dec.{eqb}
use lib.IntN.{ℤ, pos}
use lib.ListN.{replicate}
use Rattle.text.specs.Equal.{same_bytes}
use Rattle.text.specs.Names.{allowed, all_allowed}
use Rattle.field.specs.Boxes.{line_of, edge_allowed, region_allowed, no_region}
use Rattle.lists.specs.Lists.{all_zero, names_allowed, airfields_allowed, no_airfields, regions_zero, regions_allowed, boxes_allowed, no_boxes}
use Rattle.lists.specs.declared.Airfields.{Airfields}
use Rattle.lists.specs.declared.Boxes.{Boxes}
use Rattle.section.specs.Layout.{layout_of, table_of}
use Rattle.section.specs.Contents.{Content, Amount, Names, Areas, contents_allowed}
use Rattle.settings.specs.Settings.{contents_of, fixed_hold, settings_from, regions_from, airports_from, enroute_from, ascent_from, hours_from}
use Rattle.settings.specs.declared.Settings.{Settings}
use Rattle.settings.specs.Valid.{reset_holds, reset, flags_valid, sections_valid, valid}
use Rattle.decide.specs.Question.{Question}
use Rattle.decide.specs.Tests.{holds, first_from, has_airfield}
use Rattle.decide.specs.Reason.{inhibiting_box, no_reporting_box, scheme_reason, phase_reason, reason_for, explained, decided}
use Rattle.std.specs.Prelude.{Result, Ok, Err}
use Rattle.text.specs.declared.Code.{Code}
use Rattle.text.specs.declared.Code.TheVariants.{NotAllowed, OutOfRange, SettingsInvalid}
use Rattle.decide.specs.declared.Decision.{Decision}
use Rattle.decide.specs.declared.Decision.TheVariants.{Silent, Routine, Scheme}

-- ---- Configurations

-- after reset, but for these flags and for what section k holds
abbrev pub but : List ℕ → ℕ → List Content → Settings
but flags k held = settings_from flags (λ (j : ℕ). cond (eqb j k) held (reset_holds j))

-- the flags after reset, with one more of them 1
abbrev pub inhibit_on : List ℕ
inhibit_on = 1 ∷ 1 ∷ 0 ∷ 0 ∷ 1 ∷ 1 ∷ 1 ∷ []

abbrev pub regions_on : List ℕ
regions_on = 1 ∷ 0 ∷ 1 ∷ 0 ∷ 1 ∷ 1 ∷ 1 ∷ []

abbrev pub airports_on : List ℕ
airports_on = 1 ∷ 0 ∷ 0 ∷ 1 ∷ 1 ∷ 1 ∷ 1 ∷ []

-- no section is 0, so nothing but the flags differs from reset
abbrev pub flagged : List ℕ → Settings
flagged flags = but flags 0 []

abbrev pub window : ℕ → ℕ → Settings
window start end = but inhibit_on 9 (Amount start ∷ Amount end ∷ [])

-- 10N-10S 010W-010E
abbrev pub square : Boxes
square =
    record {
      count = 1;
      regions =
          record {
            north = record { degrees = 10; letter = 78 };
            south = record { degrees = 10; letter = 83 };
            west = record { degrees = 10; letter = 87 };
            east = record { degrees = 10; letter = 69 };
          }
          ∷ replicate 15 no_region;
    }

abbrev pub boxed : Boxes → Boxes → Settings
boxed reporting inhibiting = but regions_on 2 (Areas reporting ∷ Areas inhibiting ∷ [])

-- ABCD, and a list that is it alone
abbrev pub abcd : List ℕ
abcd = 65 ∷ 66 ∷ 67 ∷ 68 ∷ []

abbrev pub abce : List ℕ
abce = 65 ∷ 66 ∷ 67 ∷ 69 ∷ []

abbrev pub only_abcd : Airfields
only_abcd = record { count = 1; names = abcd ++ replicate 76 0 }

-- section 3 with the ascent's two lists
abbrev pub listed : Airfields → Airfields → ℕ → Settings
listed selected inhibited routine =
    but airports_on 3 (Names selected ∷ Names no_airfields ∷ Names inhibited ∷ Names no_airfields ∷ Amount routine ∷ [])

-- ---- Questions

abbrev pub ask : ℕ → ℤ → ℤ → ℕ → List ℕ → Question
ask phase north east hour airfield = record { phase = phase; north = north; east = east; hour = hour; airfield = airfield }

abbrev pub in_phase : ℕ → Question
in_phase phase = ask phase (pos 0) (pos 0) 0 abcd

abbrev pub at_hour : ℕ → Question
at_hour hour = ask 0 (pos 0) (pos 0) hour abcd

abbrev pub at_place : ℤ → ℤ → Question
at_place north east = ask 0 north east 0 abcd

abbrev pub asked_at : ℕ → List ℕ → Question
asked_at phase airfield = ask phase (pos 0) (pos 0) 0 airfield

-- ---- The table

pub record Case : Type 0 where
  pub held : Settings
  pub asked : Question
  pub answer : Result Decision Code

abbrev case : Settings → Question → Result Decision Code → Case
case held asked answer = record { held = held; asked = asked; answer = answer }

unfoldable pub cases : List Case
cases =
    -- after reset: ascent, level, descent; with AMDAR 0; with ascent 0, section 6 saying 1
    case reset (in_phase 0) (Ok Scheme)
    ∷ case reset (in_phase 1) (Ok Routine)
    ∷ case reset (in_phase 2) (Ok Scheme)
    ∷ case (flagged (0 ∷ 0 ∷ 0 ∷ 0 ∷ 1 ∷ 1 ∷ 1 ∷ [])) (in_phase 0) (Ok Silent)
    ∷ case (flagged (1 ∷ 0 ∷ 0 ∷ 0 ∷ 0 ∷ 1 ∷ 1 ∷ [])) (in_phase 0) (Ok Routine)
    -- window 2301 silences hours 23 and 0, not 1
    ∷ case (window 23 1) (at_hour 23) (Ok Silent)
    ∷ case (window 23 1) (at_hour 0) (Ok Silent)
    ∷ case (window 23 1) (at_hour 1) (Ok Scheme)
    -- a reporting box: its north edge, and a minute beyond; both kinds: inhibiting wins
    ∷ case (boxed square no_boxes) (at_place (pos 600) (pos 0)) (Ok Scheme)
    ∷ case (boxed square no_boxes) (at_place (pos 601) (pos 0)) (Ok Silent)
    ∷ case (boxed square square) (at_place (pos 0) (pos 0)) (Ok Silent)
    -- ascent's selected list has the airfield, or has another; it plays no part in descent
    ∷ case (listed only_abcd no_airfields 1) (asked_at 0 abcd) (Ok Scheme)
    ∷ case (listed only_abcd no_airfields 1) (asked_at 0 abce) (Ok Routine)
    ∷ case (listed only_abcd no_airfields 1) (asked_at 2 abce) (Ok Scheme)
    -- refusals: 12 before 5, 5 before 4, 4 also where AMDAR is off
    ∷ case (window 24 1) (ask 3 (pos 0) (pos 0) 24 []) (Err SettingsInvalid)
    ∷ case reset (ask 0 (pos 5401) (pos 0) 0 []) (Err OutOfRange)
    ∷ case (flagged (0 ∷ 0 ∷ 0 ∷ 0 ∷ 1 ∷ 1 ∷ 1 ∷ [])) (asked_at 1 []) (Err NotAllowed)
    ∷ []

-- every case is decided as the table says
pub all-cases : map (λ (c : Case). decided c.held c.asked) cases ≡ map (λ (c : Case). c.answer) cases
unfolding cases reset decided explained reason_for phase_reason scheme_reason inhibiting_box no_reporting_box holds first_from has_airfield valid flags_valid sections_valid settings_from contents_of fixed_hold contents_allowed layout_of table_of regions_from airports_from enroute_from ascent_from hours_from airfields_allowed all_zero names_allowed boxes_allowed regions_zero regions_allowed region_allowed edge_allowed line_of same_bytes allowed all_allowed
all-cases = refl
