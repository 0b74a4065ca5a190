-- Document 02, §2, "Boxes over the date line": what is promised of the calls that take a box, and of esk_decide and esk_explain.
-- Which positions a box holds is said in decide/specs/Dateline, in document 02's words.
use Rattle.std.specs.Prelude.{◌≡◌, ◌⊎◌, true, cond, List, map, ℕ, ◌+◌, ◌-◌, ◌*◌, ◌≤◌, ◌<◌, eqb, pos, neg_ℤ, length, get_or}
use Rattle.field.specs.declared.Region.{Region}
use Rattle.lists.specs.Lists.{region_zero}
use Rattle.lists.specs.declared.Boxes.{Boxes}
use Rattle.settings.specs.declared.Settings.{Settings}
use Rattle.command.specs.Allowed.{allowed_edge, allowed_box}
use Rattle.command.specs.Record.{command_text}
use Rattle.command.specs.Sections.{place_of}
use Rattle.command.specs.Text.{longest, is_named}
use Rattle.command.specs.declared.Command.{Command}
use Rattle.command_write.specs.Filled.{Filled}
use Rattle.decide.specs.Dateline.{asked, Dateline}
use Rattle.decide.specs.Question.{Question}
use Rattle.promises.specs.Command.{check, read, write}
use Rattle.promises.specs.Configuration.{check as checkSettings}
use Rattle.promises.specs.Explain.{told, answer}
use Rattle.promises.specs.Sections.{number_at, past_boxes}

-- ---- "Code 7 is no longer given for longitudes"

-- the latitude that stands at a place of a text, in degrees from the south pole: two digits and a letter, `S` being 83
abbrev pub latitude_at : List ℕ → ℕ → ℕ
latitude_at s at = cond (eqb (get_or s (at + 2) 0) 83) (90 - number_at s at 2) (90 + number_at s at 2)

-- p is the place of a box's south edge, of one of the two lists of section 2, and it lies above the north edge before it
pub record SouthAbove (s : List ℕ) (p : ℕ) : Type 0 where
  pub named : is_named s 2 ≡ true
  pub list : ℕ
  pub which : (list ≡ place_of s 2) ⊎ (list ≡ past_boxes s (place_of s 2))
  pub box : ℕ
  pub counted : box < number_at s list 2
  pub place : p ≡ list + 2 + 14 * box + 3
  pub above : latitude_at s (list + 2 + 14 * box) < latitude_at s p

-- ---- "Accept such a box"

-- boxes laid anew: each keeps its latitudes and gets longitudes, in any order, that a box may have; an unused entry stays zero
pub record Relays (lay : Region → Region) : Type 0 where
  pub north : (b : Region) → (lay b).north ≡ b.north
  pub south : (b : Region) → (lay b).south ≡ b.south
  pub west : (b : Region) → allowed_box b ≡ true → allowed_edge 180 69 87 (lay b).west ≡ true
  pub east : (b : Region) → allowed_box b ≡ true → allowed_edge 180 69 87 (lay b).east ≡ true
  pub unused : (b : Region) → region_zero b ≡ true → region_zero (lay b) ≡ true

abbrev pub relaid : (Region → Region) → Boxes → Boxes
relaid lay l = record { count = l.count; regions = map lay l.regions }

abbrev pub relaid_settings : (Region → Region) → Settings → Settings
relaid_settings lay x =
    record {
      flags = x.flags;
      regions = record { reporting = relaid lay x.regions.reporting; inhibiting = relaid lay x.regions.inhibiting };
      airports = x.airports;
      enroute = x.enroute;
      ascent = x.ascent;
      descent = x.descent;
      routine6 = x.routine6;
      routine8 = x.routine8;
      hours = x.hours;
    }

abbrev pub relaid_command : (Region → Region) → Command → Command
relaid_command lay c =
    record { settings = relaid_settings lay c.settings; downlink = c.downlink; named = c.named; spare = c.spare }

-- ---- The promises

pub record DatelinePromises : Type 0 where
  -- every 7 of a text stands at a south edge that lies above its north edge
  pub seven : (s : List ℕ) → (check s).code ≡ 7 → SouthAbove s (check s).place
  -- a text, a record and a configuration stay accepted whichever longitudes their boxes get, and in whichever order
  pub text : (lay : Region → Region) → Relays lay → (s : List ℕ) → (check s).code ≡ 0
      → (check (command_text (relaid_command lay (read s).command))).code ≡ 0
  pub record_is : (lay : Region → Region) → Relays lay → (c : Command) (out : List ℕ) → Filled c → longest ≤ length out
      → (write c out).code ≡ 0 → (write (relaid_command lay c) out).code ≡ 0
  pub configuration : (lay : Region → Region) → Relays lay → (x : Settings) → (checkSettings x).code ≡ 0
      → (checkSettings (relaid_settings lay x)).code ≡ 0
  -- which positions a box holds
  pub positions : Dateline
  -- "180W and 180E are the same meridian for the position test": esk_decide and esk_explain answer alike for both
  pub decision : (x : Settings) (q : Question) → answer x (asked q (pos 10800)) ≡ answer x (asked q (neg_ℤ (pos 10800)))
  pub reason : (x : Settings) (q : Question) → told x (asked q (pos 10800)) ≡ told x (asked q (neg_ℤ (pos 10800)))
