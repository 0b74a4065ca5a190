-- What the inner functions answer. No promise to a caller rests on these names.
use Rattle.std.specs.Prelude.{Bool, cond, not, List, [], ◌∷◌, ℕ, zero, suc, ◌+◌, ◌-◌, ltb, eqb, get_or}
use Rattle.section.specs.Contents.{Content}
use Rattle.settings.specs.Settings.{amount_in, enroute_from, ascent_from, descent_from, hours_from, fixed_hold}
use Rattle.settings.specs.declared.Fixed.{Fixed}

-- item i, from 0
abbrev pub item_at : ℕ → ℕ
item_at i = cond (ltb i 7) (i + 1) (i + 5)

-- whether flags and indicators set it
abbrev pub set_at : List ℕ → List ℕ → ℕ → Bool
set_at flags named i = cond (ltb i 7) (not (eqb (get_or flags i 0) 9)) (not (eqb (get_or named (i - 7) 0) 0))

-- those set, of n items from the i-th on
unfoldable pub set_items : List ℕ → List ℕ → ℕ → ℕ → List ℕ
set_items flags named i zero = []
set_items flags named i (suc n) =
    cond (set_at flags named i) (item_at i ∷ set_items flags named (suc i) n) (set_items flags named (suc i) n)

-- what a section holds where it is named, else nothing
abbrev pub held_if : Bool → List Content → List Content
held_if named cs = cond named cs []

-- whether the indicators name section k
abbrev pub marked : List ℕ → ℕ → Bool
marked named k = eqb (get_or named (k - 2) 0) k

-- the sections of numbers that are named
abbrev pub fixed_if : List ℕ → Fixed → Fixed
fixed_if named x =
    record {
      enroute = enroute_from (held_if (marked named 4) (fixed_hold x 4));
      ascent = ascent_from (held_if (marked named 5) (fixed_hold x 5));
      descent = descent_from (held_if (marked named 7) (fixed_hold x 7));
      routine6 = amount_in (held_if (marked named 6) (fixed_hold x 6)) 0;
      routine8 = amount_in (held_if (marked named 8) (fixed_hold x 8)) 0;
      hours = hours_from (held_if (marked named 9) (fixed_hold x 9));
    }
