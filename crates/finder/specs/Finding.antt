-- Document 02, §7, "Just the ascent part": one section of a command, "found from the header and the counts alone".
use Rattle.std.specs.Prelude.{cond, List, [], ◌∷◌, ℕ, ◌+◌, ◌-◌, ◌*◌, leb, eqb, length, Result, Ok, Err}
use Rattle.text.specs.Names.{between}
use Rattle.text.specs.Parts.{part}
use Rattle.field.specs.Fields.{check_number}
use Rattle.text.specs.Checks.{after, refuse}
use Rattle.lists.specs.Lists.{most_boxes, most_airfields, count_at}
use Rattle.section.specs.Layout.{Item, Digits, AirfieldList, BoxList, numbers, layout_of}
use Rattle.command.specs.Text.{check_head, is_named, longest}
use Rattle.finder.specs.declared.Part.{Part}
use Rattle.text.specs.declared.Refusal.{Refusal}
use Rattle.text.specs.declared.Code.TheVariants.{WrongLength, OutOfRange, WrongEnd}

-- ---- A section passed over, from its start on

-- "A count on the way is checked as there, 8 at the count if it begins no later than the text's end and is cut"; one that would
-- begin later belongs to a section "that runs past the end". Behind it are w bytes for each entry, which aren't looked at.
unfoldable pub pass_list : ℕ → ℕ → List ℕ → ℕ → ℕ → Result ℕ Refusal
pass_list most w s start at =
    cond (leb at (length s))
    (after (check_number 2 0 most s at) (λ first. Ok (first + w * count_at s at)))
    (refuse WrongEnd start)

-- digits aren't looked at
abbrev pub pass_item : Item → List ℕ → ℕ → ℕ → Result ℕ Refusal
pass_item (Digits r) s start at = Ok (at + r.width)
pass_item AirfieldList s start at = pass_list most_airfields 4 s start at
pass_item BoxList s start at = pass_list most_boxes 14 s start at

-- nor is the delimiter; "a section passed over or asked for that runs past the end is 8 at its start"
unfoldable pub pass_items : List Item → List ℕ → ℕ → ℕ → Result ℕ Refusal
pass_items [] s start at = cond (leb (at + 1) (length s)) (Ok (at + 1)) (refuse WrongEnd start)
pass_items (i ∷ is) s start at = after (pass_item i s start at) (pass_items is s start)

abbrev pub pass_section : ℕ → List ℕ → ℕ → Result ℕ Refusal
pass_section k s at = pass_items (layout_of k) s at at

-- ---- The way to section j: those named before it are passed over, in rising order

unfoldable pub reach : List ℕ → List ℕ → ℕ → ℕ → Result ℕ Refusal
reach [] s at j = Ok at
reach (k ∷ ks) s at j =
    cond (eqb j k) (Ok at)
    (cond (is_named s k) (after (pass_section k s at) (λ p. reach ks s p j)) (reach ks s at j))

-- ---- The answer: the part's place and length, or the refusal

abbrev pub part_at : ℕ → ℕ → Part
part_at at n = record { at = at; length = n }

-- section k where it stands, "delimiter included"
abbrev pub standing : ℕ → List ℕ → ℕ → Result Part Refusal
standing k s at = after (pass_section k s at) (λ end. Ok (part_at at (end - at)))

-- "a section that the header doesn't name then gives code 0 with an empty part"
abbrev pub find_in : ℕ → List ℕ → ℕ → Result Part Refusal
find_in k s at = cond (is_named s k) (after (reach numbers s at k) (standing k s)) (Ok (part_at 0 0))

-- "5 at place 0 for a section number outside 2 to 9, before all others"; "code 1 and the header's refusals come as in document 01"
unfoldable pub find_section : ℕ → List ℕ → Result Part Refusal
find_section k s =
    cond (between 2 9 k)
    (cond (leb (length s) longest) (after (check_head s) (find_in k s)) (refuse WrongLength 0))
    (refuse OutOfRange 0)

-- the caller's own bytes; "A refusal gives an empty part too."
abbrev pub part_of : List ℕ → Result Part Refusal → List ℕ
part_of s (Ok p) = part p.at p.length s
part_of s (Err r) = []

-- where it begins
abbrev pub place_in : Result Part Refusal → ℕ
place_in (Ok p) = p.at
place_in (Err r) = 0
