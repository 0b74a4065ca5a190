-- Document 01, "The command": the configuration after reset, which one is valid, and the one empty record.
use Rattle.std.specs.Prelude.{Bool, true, ◌&&◌, List, [], ◌∷◌, ℕ, leb, eqb, replicate}
use Rattle.text.specs.Checks.{is_fine}
use Rattle.lists.specs.Lists.{all_zero, regions_zero}
use Rattle.section.specs.Layout.{numbers, look, layout_of}
use Rattle.section.specs.Contents.{Content, Amount, Names, Areas, contents_allowed}
use Rattle.settings.specs.Settings.{contents_of, settings_from}
use Rattle.settings.specs.declared.Settings.{Settings}

-- ---- After reset: flags 1 0 0 0 1 1 1; counts 00; routine 0 in section 3, 1 in 6 and 8; 4 is 07, 1; 5 is 1, 06, 090,
-- 20, 051, 200, 2, 1; 9 is 00, 00; source document 003: 7 is 1, 040, 200, 2, 1

abbrev pub reset_holds : ℕ → List Content
reset_holds k =
    look k
    ((4, Amount 7 ∷ Amount 1 ∷ [])
    ∷ (5, Amount 1 ∷ Amount 6 ∷ Amount 90 ∷ Amount 20 ∷ Amount 51 ∷ Amount 200 ∷ Amount 2 ∷ Amount 1 ∷ [])
    ∷ (6, Amount 1 ∷ [])
    ∷ (7, Amount 1 ∷ Amount 40 ∷ Amount 200 ∷ Amount 2 ∷ Amount 1 ∷ [])
    ∷ (8, Amount 1 ∷ [])
    ∷ [])
    []

unfoldable pub reset : Settings
reset = settings_from (1 ∷ 0 ∷ 0 ∷ 0 ∷ 1 ∷ 1 ∷ 1 ∷ []) reset_holds

-- ---- Valid: the flags are 0 or 1 and each section, as a section of a command, would pass the writer's checks

unfoldable pub flags_valid : List ℕ → Bool
flags_valid [] = true
flags_valid (v ∷ vs) = leb v 1 && flags_valid vs

unfoldable pub sections_valid : List ℕ → Settings → Bool
sections_valid [] x = true
sections_valid (k ∷ ks) x = is_fine (contents_allowed (layout_of k) 0 (contents_of x k)) && sections_valid ks x

unfoldable pub valid : Settings → Bool
valid x = flags_valid x.flags && sections_valid numbers x

-- ---- Zero, as a section that isn't named is

abbrev pub is_zero : Content → Bool
is_zero (Amount v) = eqb v 0
is_zero (Names l) = eqb l.count 0 && all_zero l.names
is_zero (Areas l) = eqb l.count 0 && regions_zero l.regions

unfoldable pub are_zero : List Content → Bool
are_zero [] = true
are_zero (c ∷ cs) = is_zero c && are_zero cs

-- the record that every refusal carries
unfoldable pub no_settings : Settings
no_settings = settings_from (replicate 7 0) (λ (k : ℕ). [])
