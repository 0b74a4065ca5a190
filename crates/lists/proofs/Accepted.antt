-- What the check of a counted list that goes on says of the text it passed.
use mathlib.Core.Path.{◌≡◌, sym}
use mathlib.Core.Bool.{true}
use mathlib.Core.List.{List}
use Prim.Native.Nat.{ℕ, ◌+◌, ◌*◌, ◌≤◌}
use lib.ListN.{length}
use Rattle.text.specs.Names.{all_allowed}
use Rattle.text.specs.Parts.{part}
use Rattle.field.specs.Fields.{check_number, check_airfield, repeat}
use Rattle.field.specs.Boxes.{check_box}
use Rattle.field.proofs.Accepted.{Number, number, both}
use Rattle.field.proofs.Repeat.{airfields-accepted, boxes-accepted}
use Rattle.lists.specs.Lists.{count_at, check_list, check_airfields, check_boxes}
use Rattle.std.specs.Prelude.{Result, Ok}
use Rattle.text.specs.declared.Refusal.{Refusal}
use Rattle.text.specs.declared.Code.TheVariants.{OutOfRange}

-- the count and then the entries
pub record Counted (limit : ℕ) (entry : List ℕ → ℕ → Result ℕ Refusal) (s : List ℕ) (at p : ℕ) : Type 0 where
  pub count : Number 2 0 limit s at (at + 2)
  pub entries : repeat (entry s) (count_at s at) (at + 2) ≡ Ok p

pub counted : (limit : ℕ) (entry : List ℕ → ℕ → Result ℕ Refusal) (s : List ℕ) (at p : ℕ) → check_list limit entry s at ≡ Ok p
    → Counted limit entry s at p
unfolding check_list
counted limit entry s at p e =
    let x = both (check_number 2 0 limit s at) (repeat (entry s) (count_at s at)) p e in
    let n = number OutOfRange 2 0 limit s at x.mid x.first in
    let m : x.mid ≡ at + 2 = sym n.next in
    record { count = rw m at n; entries = rw m at x.second }

pub record Named (s : List ℕ) (at p : ℕ) : Type 0 where
  pub count : Number 2 0 20 s at (at + 2)
  pub next : at + 2 + 4 * count_at s at ≡ p
  pub room : p ≤ length s
  pub allowed : all_allowed (part (at + 2) (4 * count_at s at) s) ≡ true

-- an accepted list of airfields
pub airfields : (s : List ℕ) (at p : ℕ) → check_airfields s at ≡ Ok p → Named s at p
airfields s at p e =
    let x = counted 20 check_airfield s at p e in
    let y = airfields-accepted s (count_at s at) (at + 2) p x.count.room x.entries in
    record { count = x.count; next = y.0; room = y.1; allowed = y.2 }

-- an accepted list of boxes, 14 bytes each
pub boxes-next : (s : List ℕ) (at p : ℕ) → check_boxes s at ≡ Ok p → at + 2 + 14 * count_at s at ≡ p
boxes-next s at p e = boxes-accepted s (count_at s at) (at + 2) p (counted 16 check_box s at p e).entries
