-- Document 02, §9, over what is lent: a board's slots and text area, and beside them the list.
use Rattle.std.specs.Prelude.{Bool, cond, ◌&&◌, List, ℕ, eqb, length, Option, Result, Ok, Err}
use Rattle.text.specs.Names.{is_designator}
use Rattle.text.specs.declared.Code.{Code}
use Rattle.text.specs.declared.Code.TheVariants.{BoardInvalid}
use Rattle.board.specs.Board.{Move, Stay, past_refusals}
use Rattle.board.specs.Lent.{add_lent, take_lent, on_slots}
use Rattle.board.specs.declared.Slot.{Slot}
use Rattle.tails.specs.Tails.{below, listed, list_of, find_in}
use Rattle.tails.specs.Keys.{rank_of, keys_of, is_list_of}
use Rattle.tails.specs.declared.lent.Sought.{Sought}

-- ---- Searching: 10, designator (4), then 11 where none waits: no slot

abbrev pub refused_search : Code → ℕ → Result Sought Code
refused_search code place = Err code

-- with how many of the list come before it
abbrev pub told_of : Option ℕ → ℕ → Sought
told_of found at = record { slot = found; at = at }

abbrev pub sought_by : List ℕ → ℕ → List ℕ → Result Sought Code
sought_by ks k ts = Ok (told_of (find_in ks k (listed ts)) (below ks k (listed ts)))

unfoldable pub search_lent : List Slot → List ℕ → List ℕ → Result Sought Code
search_lent ss ts d = past_refusals refused_search (is_list_of ss ts) (is_designator d) (Ok tt) (sought_by (keys_of ss) (rank_of d) ts)

-- ---- Making: a byte a slot; two used slots of one designator, or more than 64 slots, have no list

unfoldable pub has_list : List Slot → List ℕ → Bool
has_list ss ts = eqb (length ts) (length ss) && is_list_of ss (list_of (keys_of ss))

unfoldable pub made_lent : List Slot → List ℕ → List ℕ
made_lent ss ts = cond (has_list ss ts) (list_of (keys_of ss)) ts

-- ---- Adding and taking: "a list that disagrees with its board is 10", else as without it

unfoldable pub add_listed : List Slot → List ℕ → List ℕ → List ℕ → List ℕ → Move
add_listed ss area ts d t = cond (is_list_of ss ts) (add_lent ss area d t) (Stay BoardInvalid 0)

unfoldable pub take_listed : List Slot → List ℕ → List ℕ → List ℕ → ℕ → Move
take_listed ss area ts d room = cond (is_list_of ss ts) (take_lent ss area d room) (Stay BoardInvalid 0)

-- the list afterwards: that of the slots afterwards; one that disagrees stays as it is
unfoldable pub on_list : Move → List Slot → List ℕ → List ℕ
on_list m ss ts = cond (is_list_of ss ts) (list_of (keys_of (on_slots m ss))) ts
