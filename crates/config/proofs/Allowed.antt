-- A configuration is valid just where document 01's ranges allow it.
use mathlib.Core.Path.{◌≡◌, refl, ap₂}
use mathlib.Core.Bool.{◌&&◌}
use mathlib.Core.List.{List, [], ◌∷◌}
use Prim.Native.Nat.{ℕ}
use Rattle.text.specs.Checks.{is_fine}
use Rattle.section.specs.Layout.{layout_of, numbers}
use Rattle.section.specs.Contents.{contents_allowed}
use Rattle.settings.specs.Settings.{contents_of}
use Rattle.settings.specs.declared.Settings.{Settings}
use Rattle.command.specs.Allowed.{every, zero_or_one, allowed_section, allowed_settings}
use Rattle.command.proofs.Each.{Each}
use Rattle.command.proofs.Allowed.{low_same, sections_are}
use Rattle.settings.specs.Valid.{flags_valid, sections_valid, valid}

flags-same : (fs : List ℕ) → flags_valid fs ≡ every zero_or_one fs
unfolding flags_valid every
flags-same [] = refl
flags-same (v ∷ fs) = ap₂ ◌&&◌ (low_same v) (flags-same fs)

sections-same : (ks : List ℕ) (x : Settings)
    → Each (λ k. (at : ℕ) → is_fine (contents_allowed (layout_of k) at (contents_of x k)) ≡ allowed_section x k) ks
    → sections_valid ks x ≡ every (allowed_section x) ks
unfolding sections_valid every
sections-same [] x e = refl
sections-same (k ∷ ks) x e = ap₂ ◌&&◌ (e.0 0) (sections-same ks x e.1)

-- a configuration is valid just where the ranges allow it
pub valid_same : (x : Settings) → valid x ≡ allowed_settings x
unfolding valid allowed_settings
valid_same x = ap₂ ◌&&◌ (flags-same x.flags) (sections-same numbers x (sections_are x))
