-- What the inner functions ask for and answer. No promise to a caller rests on these names.
use Rattle.std.specs.Prelude.{Bool, true, cond, ◌&&◌, List, [], ℕ, zero, suc, ◌+◌, ◌*◌, ◌≤◌, eqb, get_or, Result}
use Rattle.text.specs.Checks.{must, is_fine}
use Rattle.lists.specs.Lists.{count_at}
use Rattle.section.specs.Layout.{no_row, table_of, layout_of}
use Rattle.section.specs.Contents.{Content, contents_text}
use Rattle.section.specs.Inner.{going_on, pass_contents}
use Rattle.settings.specs.Settings.{fixed_hold}
use Rattle.settings.specs.Valid.{are_zero}
use Rattle.settings.specs.declared.Fixed.{Fixed}
use Rattle.settings.specs.declared.places.ListPlaces.{ListPlaces}
use Rattle.text.specs.declared.Refusal.{Refusal}
use Rattle.text.specs.declared.Code.TheVariants.{Disagree}

-- ---- Where the lists of section 3 stand

-- where the text goes on behind a list of airfields
abbrev pub behind_list : List ℕ → ℕ → ℕ
behind_list s at = at + (2 + 4 * count_at s at)

-- four lists, and the digit behind them
abbrev pub lists_at : List ℕ → ℕ → ListPlaces
lists_at s at =
    record {
      first = at;
      second = behind_list s at;
      third = behind_list s (behind_list s at);
      fourth = behind_list s (behind_list s (behind_list s at));
      last = behind_list s (behind_list s (behind_list s (behind_list s at)));
    }

-- ---- A section's numbers

-- the most that a member may hold: its row's; the mode of section 7 is held in 16 bits
abbrev pub held_most : ℕ → ℕ → ℕ
held_most k i = cond (eqb k 7 && eqb i 0) 65535 (get_or (table_of k).rows i no_row).most

-- those of section k are what its members hold: a byte where that is the most
abbrev pub Held : ℕ → List ℕ → Type 0
Held k v = (i : ℕ) → held_most k i ≤ 255 → get_or v i 0 ≤ 255

-- each is a byte
abbrev pub Bytes : List ℕ → Type 0
Bytes v = (i : ℕ) → get_or v i 0 ≤ 255

-- ---- A record's section, named or not

-- where what follows it would begin: a named one by its own limits, one that isn't named is zero, else 7 where it would begin
abbrev pub pass_section : Bool → ℕ → ℕ → List Content → Result ℕ Refusal
pass_section named k at cs = cond named (pass_contents (layout_of k) at cs) (going_on (must (are_zero cs) Disagree at) at)

-- its text, none where it isn't named
abbrev pub text_if : Bool → ℕ → List Content → List ℕ
text_if named k cs = cond named (contents_text (layout_of k) cs) []

-- ---- Validity of the sections of numbers

-- n sections from the k-th on
unfoldable pub fixed_valid : ℕ → ℕ → Fixed → Bool
fixed_valid zero k x = true
fixed_valid (suc n) k x = is_fine (pass_contents (layout_of k) 0 (fixed_hold x k)) && fixed_valid n (suc k) x
