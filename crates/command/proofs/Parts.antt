-- A command by its parts: seven flag bytes, a downlink byte, and the own bytes of each section, none where it is not named.
use mathlib.Core.Path.{◌≡◌}
use mathlib.Core.Bool.{Bool, true, false, cond}
use mathlib.Core.List.{List, [], ◌∷◌, ◌++◌}
use Prim.Native.Nat.{ℕ, ◌+◌}
use lib.Dec.{eqb}
use lib.ListN.{get_or}
use Rattle.text.specs.Parts.{part}
use Rattle.section.specs.Layout.{layout_of, is_empty, items_size, numbers}
use Rattle.section.specs.Contents.{Content, contents_at}
use Rattle.section.proofs.Own.{Own}
use Rattle.command.specs.Text.{awr04, is_flag, is_downlink, is_named}
use Rattle.command.proofs.Each.{Each}
use Rattle.command.proofs.Head.{passes}

pub record Parts : Type 0 where
  pub flags : List ℕ
  pub downlink : ℕ
  pub sections : ℕ → List ℕ

-- ---- The text of the parts

-- whether there are bytes
abbrev pub present : List ℕ → Bool
present [] = false
present (b ∷ bs) = true

-- the indicator byte of section k
abbrev pub mark_of : ℕ → List ℕ → ℕ
mark_of k [] = 48
mark_of k (b ∷ bs) = 48 + k

-- the indicators of the sections ks
unfoldable pub marks : (ℕ → List ℕ) → List ℕ → List ℕ
marks f [] = []
marks f (k ∷ ks) = mark_of k (f k) ∷ marks f ks

-- the own bytes of the sections ks, one after the other
unfoldable pub bodies : (ℕ → List ℕ) → List ℕ → List ℕ
bodies f [] = []
bodies f (k ∷ ks) = f k ++ bodies f ks

-- `AWR04`, flags, downlink digit, indicators, `/`, sections
unfoldable pub text_of : Parts → List ℕ
text_of p =
    awr04
    ++ (p.flags
    ++ (p.downlink ∷ (marks p.sections numbers ++ 47 ∷ bodies p.sections numbers)))

-- ---- The parts of a text

-- the own bytes of section j: found by walking over the named ones before it, none where it isn't named
unfoldable pub body_from : List ℕ → List ℕ → ℕ → ℕ → List ℕ
body_from [] s at j = []
body_from (k ∷ ks) s at j =
    cond (is_named s k)
    (cond (eqb j k) (part at (items_size (layout_of k) s at) s) (body_from ks s (at + items_size (layout_of k) s at) j))
    (body_from ks s at j)

-- the own bytes of section k of a command
abbrev pub body_of : List ℕ → ℕ → List ℕ
body_of s k = body_from numbers s 22 k

-- flags from byte 5, downlink digit at 12, sections from 22
abbrev pub parts_of : List ℕ → Parts
parts_of s = record { flags = part 5 7 s; downlink = get_or s 12 0; sections = body_of s }

-- ---- What parts an accepted command has

-- nothing, or bytes that are a section by themselves, if there is such a section
pub data Place (k : ℕ) (b : List ℕ) : Type 0 where
  Absent : b ≡ [] → Place k b
  Present : is_empty (layout_of k) ≡ false → Own (layout_of k) b → Place k b

-- seven flags
abbrev pub flag_tests : List (ℕ → Bool)
flag_tests = is_flag ∷ is_flag ∷ is_flag ∷ is_flag ∷ is_flag ∷ is_flag ∷ is_flag ∷ []

pub record Sound (p : Parts) : Type 0 where
  pub flags : passes flag_tests p.flags ≡ true
  pub downlink : is_downlink p.downlink ≡ true
  pub sections : Each (λ k. Place k (p.sections k)) numbers

-- what section k's own bytes hold
abbrev pub holds : ℕ → List ℕ → List Content
holds k [] = []
holds k (b ∷ bs) = contents_at (layout_of k) (b ∷ bs) 0
