-- What one look over the lent slots finds. No promise to a caller rests on these names.
use Rattle.std.specs.Prelude.{Bool, true, false, cond, not, ◌&&◌, ◌||◌, List, [], ◌∷◌, ℕ, suc, ◌+◌, ◌*◌, leb, ltb, eqb, length, set, take, replicate, Option, Some, None, is_some, unwrap_or, Result, Ok, Err}
use Rattle.text.specs.Names.{is_designator}
use Rattle.text.specs.Checks.{is_fine, refuse}
use Rattle.text.specs.Parts.{part}
use Rattle.text.specs.Equal.{same_bytes}
use Rattle.text.specs.declared.Refusal.{Refusal}
use Rattle.text.specs.declared.Code.TheVariants.{BoardInvalid}
use Rattle.command.specs.Text.{longest, check_command}
use Rattle.join.specs.Join.{Joined, join}
use Rattle.board.specs.Board.{most_slots, Move, Stay, Put, Free, past_refusals, placing, handing}
use Rattle.board.specs.declared.Slot.{Slot}
use Rattle.board.specs.declared.Findings.{Findings}
use Rattle.board.specs.declared.Stored.{Stored}

-- the aircraft that a call is about
abbrev pub Wanted : Type 0
Wanted = Option (List ℕ)

unfoldable pub wanted_by : List ℕ → Wanted
wanted_by d = cond (is_designator d) (Some d) None

-- its designator; where there is none, six zero bytes
abbrev pub asked : Wanted → List ℕ
asked w = unwrap_or w (replicate 6 0)

-- whether a slot's designator is that of the aircraft
abbrev pub names : Wanted → List ℕ → Bool
names w e = same_bytes (asked w) e

abbrev pub is_used : Slot → Bool
is_used x = not (eqb x.length 0)

-- whether a slot is used for an aircraft
unfoldable pub used_for : List ℕ → Slot → Bool
used_for d x = is_used x && same_bytes d x.designator

-- none of these slots is
unfoldable pub none_for : List ℕ → List Slot → Bool
none_for d [] = true
none_for d (x ∷ xs) = not (used_for d x) && none_for d xs

-- no slot before a used one is for its aircraft; not looked at where the board is not valid anyway
unfoldable pub alone_in : Findings → Slot → List Slot → Bool
alone_in a x before = cond (a.valid && is_used x) (none_for x.designator before) true

-- whether a slot was found before slot i
abbrev pub is_before : Option ℕ → ℕ → Bool
is_before (Some j) i = ltb j i
is_before None i = false

-- whether a slot has to be looked at: a free one behind a free one tells nothing new
abbrev pub is_looked_at : Findings → Slot → ℕ → Bool
is_looked_at a x i = is_used x || not (is_before a.free i)

-- before which slot that is looked at
unfoldable pub until_at : Findings → Slot → ℕ → ℕ → ℕ
until_at a x i n = cond (a.valid && is_used x) (cond (ltb i n) i n) 0

-- designator and text of the used slot i
unfoldable pub sound_at : Slot → List ℕ → ℕ → Bool
sound_at x area i =
    ltb i most_slots
    && leb x.length longest
    && leb (longest * i + x.length) (length area)
    && is_designator x.designator
    && is_fine (check_command (part (longest * i) x.length area))

-- the lower of a slot found before and slot i
abbrev pub first_of : Option ℕ → ℕ → Option ℕ
first_of found i = cond (is_before found i) found (Some i)

unfoldable pub start_of : ℕ → ℕ → Findings
start_of n bytes =
    record { valid = leb n most_slots && eqb bytes (longest * n); length = 0; own = None; free = None }

-- a free slot, and a used one
abbrev pub with_free : Findings → ℕ → Findings
with_free a i = record { valid = true; length = a.length; own = a.own; free = first_of a.free i }

abbrev pub with_used : Findings → Slot → Bool → ℕ → Wanted → Findings
with_used a x fine i w =
    cond (not (is_before a.own i) && names w x.designator)
    (record { valid = fine; length = x.length; own = Some i; free = a.free })
    (record { valid = fine; length = a.length; own = a.own; free = a.free })

unfoldable pub step_of : List ℕ → Wanted → Findings → Slot → Bool → ℕ → Findings
step_of area w a x clear i =
    cond a.valid
    (cond (is_used x) (with_used a x (clear && sound_at x area i) i w) (with_free a i))
    a

-- all slots ys, those from slot i on being left
unfoldable pub scan_from : List ℕ → Wanted → List Slot → Findings → ℕ → List Slot → Findings
scan_from area w ys a i [] = a
scan_from area w ys a i (x ∷ xs) = scan_from area w ys (step_of area w a x (alone_in a x (take i ys)) i) (suc i) xs

abbrev pub scanned : List ℕ → Wanted → List Slot → Findings
scanned area w xs = scan_from area w xs (start_of (length xs) (length area)) 0 xs

-- ---- What is then done, by what was found

abbrev pub fits_at : ℕ → ℕ → ℕ → Bool
fits_at i n bytes = ltb i most_slots && leb n longest && leb (longest * i + longest) bytes

-- the text of n bytes that waits in slot i
abbrev pub waits_at : ℕ → ℕ → List ℕ → List ℕ
waits_at i n area = part (longest * i) n area

abbrev pub joins_to : Joined → ℕ → List ℕ → Move
joins_to (Ok t) i d = Put i d t
joins_to (Err f) i d = Stay BoardInvalid 0

-- a command for the aircraft d: joined onto what waits in slot i, or put there
unfoldable pub own_move : ℕ → ℕ → List ℕ → List ℕ → List ℕ → Move
own_move i n d area t =
    cond (fits_at i n (length area)) (joins_to (join (waits_at i n area) t longest) i d) (Stay BoardInvalid 0)

unfoldable pub free_move : ℕ → List ℕ → List ℕ → List ℕ → Move
free_move i d area t = cond (fits_at i (length t) (length area)) (Put i d t) (Stay BoardInvalid 0)

-- a slot that was found
abbrev pub at : Option ℕ → ℕ
at found = unwrap_or found 0

abbrev pub placed_move : Findings → Wanted → List ℕ → List ℕ → Move
placed_move v w area t =
    placing Stay (is_some v.own) (is_some v.free) (own_move (at v.own) v.length (asked w) area t)
    (free_move (at v.free) (asked w) area t)

unfoldable pub add_move : Findings → Wanted → List ℕ → List ℕ → Move
add_move v w area t =
    past_refusals Stay v.valid (is_some w) (check_command t) (placed_move v w area t)

abbrev pub handed_move : Findings → List ℕ → ℕ → Move
handed_move v area room =
    handing Stay (is_some v.own) (leb v.length room)
    (cond (fits_at (at v.own) v.length (length area)) (Free (at v.own) (waits_at (at v.own) v.length area)) (Stay BoardInvalid 0))

unfoldable pub take_move : Findings → Wanted → List ℕ → ℕ → Move
take_move v w area room = past_refusals Stay v.valid (is_some w) (Ok tt) (handed_move v area room)

-- ---- What is answered, and which slot is stored where

-- a text of n bytes, for the aircraft d, and slot i, of which `left` bytes then wait
abbrev pub stored_for : List ℕ → ℕ → ℕ → ℕ → Stored
stored_for d i n left = record { length = n; at = i; slot = record { designator = d; length = left } }

abbrev pub done_to : List ℕ → Move → Result Stored Refusal
done_to d (Stay code place) = refuse code place
done_to d (Put i e t) = Ok (stored_for d i (length t) (length t))
done_to d (Free i t) = Ok (stored_for d i (length t) 0)

abbrev pub done_of : Wanted → Move → Result Stored Refusal
done_of w m = done_to (asked w) m

-- the slots afterwards
abbrev pub stored_in : Result Stored Refusal → List Slot → List Slot
stored_in (Ok x) xs = set xs x.at x.slot
stored_in (Err r) xs = xs
