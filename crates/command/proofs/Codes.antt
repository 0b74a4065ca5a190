-- A command's refusals are codes 1 to 8.
use mathlib.Core.Path.{◌≡◌, refl, ap}
use mathlib.Core.Logic.{◌↔◌}
use mathlib.Core.Bool.{Bool, true, false, cond, ◌&&◌}
use mathlib.Core.List.{List, [], ◌∷◌}
use Prim.Native.Nat.{ℕ, zero, suc, ◌+◌, ◌≤◌}
use native.Mathlib.Omega.{arith}
use lib.Dec.{leb, eqb}
use lib.ListN.{length}
use borrow.Author.Tests.{leb-true}
use Rattle.text.proofs.Cases.{both_left, both_right}
use Rattle.text.specs.Parts.{part}
use Rattle.field.specs.Decimal.{all_digits, value}
use Rattle.field.specs.Fields.{check_digits, check_delimiter, check_airfield, repeat}
use Rattle.text.specs.Checks.{must, refuse, after, ◌and_then◌}
use Rattle.text.specs.Codes.{number_of}
use Rattle.text.proofs.Checks.{both-fine}
use Rattle.field.specs.Boxes.{check_edge, check_pair, check_box}
use Rattle.field.specs.declared.Circle.{Circle}
use Rattle.field.specs.declared.Edge.{Edge}
use Rattle.lists.specs.Lists.{count_at, check_list}
use Rattle.section.specs.Layout.{Item, Digits, AirfieldList, BoxList, layout_of, check_item, check_items, numbers}
use Rattle.section.proofs.Rows.{fits_code, codes_fit, table-coded, four-or-five}
use Rattle.command.specs.Text.{is_named, check_each, check_awr04, check_head, check_from, longest, ended, check_command}
use Rattle.command.specs.Record.{command_of, read_command}
use Rattle.command.specs.declared.Command.{Command}
use Rattle.std.specs.Prelude.{Result, Ok, Err}
use Rattle.text.specs.declared.Refusal.{Refusal}
use Rattle.text.specs.declared.Code.{Code}
use Rattle.text.specs.declared.Code.TheVariants.{NotAllowed, OutOfRange, WrongEnd, WrongLength}

abbrev code_of : Result ℕ Refusal → ℕ
code_of (Ok at) = 1
code_of (Err r) = number_of r.code

-- one refusal has one code
numbered : {A : Type 0} (d r : Refusal) → ◌≡◌ {A = Result A Refusal} (Err d) (Err r) → number_of d.code ≡ number_of r.code
numbered d r e = let z : d ≡ r = cc in ap (λ (x : Refusal). number_of x.code) z

abbrev one_to_eight : Code → Bool
one_to_eight c = leb 1 (number_of c) && leb (number_of c) 8

-- where it stops, it stops with a code from 1 to 8
record Coded (r : Result ℕ Refusal) : Type 0 where
  coded : (leb 1 (code_of r) && leb (code_of r) 8) ≡ true

either : (t : Bool) (x y : Result ℕ Refusal) → Coded x → Coded y → Coded (cond t x y)
either true x y a b = a
either false x y a b = b

then : (x : Result ℕ Refusal) (more : ℕ → Result ℕ Refusal) → Coded x → ((at : ℕ) → Coded (more at)) → Coded (after x more)
then (Ok at) more a b = b at
then (Err r) more a b = a

ruleset parts = (either, then)

-- ---- Fields

digits-coded : (code : Code) (w least most : ℕ) (s : List ℕ) (at : ℕ) → fits_code code ≡ true → Coded (check_digits code w least most s at)
unfolding check_digits
digits-coded code w least most s at e =
    let v = value (part at w s) in
    either (leb (at + w) (length s)) _ (refuse WrongEnd at)
    (either (all_digits (part at w s)) _ (refuse NotAllowed at)
    (either (leb least v && leb v most) (Ok (at + w)) (refuse code at) (record { coded = refl }) (record { coded = four-or-five one_to_eight code refl refl e })) (record { coded = refl }))
    (record { coded = refl })

delimiter-coded : (s : List ℕ) (at : ℕ) → Coded (check_delimiter s at)
unfolding check_delimiter
delimiter-coded s at = search parts depth 8

airfield-coded : (s : List ℕ) (at : ℕ) → Coded (check_airfield s at)
unfolding check_airfield
airfield-coded s at = search parts depth 8

edge-coded : (c : Circle) (s : List ℕ) (at : ℕ) → Coded (check_edge c s at)
unfolding check_edge
edge-coded c s at = search parts depth 8

pair-coded : (c : Circle) (in_order : Edge → Edge → Bool) (s : List ℕ) (at : ℕ) → Coded (check_pair c in_order s at)
unfolding check_pair
pair-coded c in_order s at = search (parts, edge-coded) depth 8

box-coded : (s : List ℕ) (at : ℕ) → Coded (check_box s at)
unfolding check_box
box-coded s at = search (parts, pair-coded, edge-coded)

repeat-coded : (check : ℕ → Result ℕ Refusal) (n at : ℕ) → ((i : ℕ) → Coded (check i)) → Coded (repeat check n at)
unfolding repeat
repeat-coded check zero at h = record { coded = refl }
repeat-coded check (suc n) at h = then (check at) (repeat check n) (h at) (λ i. repeat-coded check n i h)

list-coded : (limit : ℕ) (entry : List ℕ → ℕ → Result ℕ Refusal) (s : List ℕ) (at : ℕ) → ((i : ℕ) → Coded (entry s i)) → Coded (check_list limit entry s at)
unfolding check_list
list-coded limit entry s at h =
    then (check_digits OutOfRange 2 0 limit s at) (repeat (entry s) (count_at s at)) (digits-coded OutOfRange 2 0 limit s at refl) (λ i. repeat-coded (entry s) (count_at s at) i h)

-- ---- Sections

items-coded : (xs : List Item) (s : List ℕ) (at : ℕ) → codes_fit xs ≡ true → Coded (check_items xs s at)
unfolding check_items codes_fit
items-coded [] s at e = delimiter-coded s at
items-coded (Digits r ∷ xs) s at e =
    then (check_item (Digits r) s at) (check_items xs s) (digits-coded r.code r.width r.least r.most s at (both_left (fits_code r.code) (codes_fit xs) e))
    (λ p. items-coded xs s p (both_right (fits_code r.code) (codes_fit xs) e))
items-coded (AirfieldList ∷ xs) s at e =
    then (check_item AirfieldList s at) (check_items xs s) (list-coded 20 check_airfield s at (airfield-coded s)) (λ p. items-coded xs s p e)
items-coded (BoxList ∷ xs) s at e =
    then (check_item BoxList s at) (check_items xs s) (list-coded 16 check_box s at (box-coded s)) (λ p. items-coded xs s p e)

sections-coded : (ks s : List ℕ) (at : ℕ) → Coded (check_from ks s at)
unfolding check_from
sections-coded [] s at = record { coded = refl }
sections-coded (k ∷ ks) s at =
    either (is_named s k) (after (check_items (layout_of k) s at) (check_from ks s)) (check_from ks s at)
    (then (check_items (layout_of k) s at) (check_from ks s) (items-coded (layout_of k) s at (table-coded k)) (sections-coded ks s)) (sections-coded ks s at)

-- ---- The whole

each-coded : (tests : List (ℕ → Bool)) (s : List ℕ) (at : ℕ) → Coded (check_each tests s at)
unfolding check_each
each-coded [] s at = record { coded = refl }
each-coded (test ∷ tests) s at = let rest = each-coded tests s (at + 1) in search parts

head-coded : (s : List ℕ) → Coded (check_head s)
unfolding check_head check_awr04
head-coded s = search (parts, each-coded, delimiter-coded) depth 8

ended-coded : (s : List ℕ) (x : Result ℕ Refusal) (r : Refusal) → Coded x → ended s x ≡ Err r → (1 ≤ number_of r.code) × (number_of r.code ≤ 8)
ended-coded s (Ok at) r l e = ends (eqb at (length s)) e
  where
    ends : (t : Bool) → must t WrongEnd at ≡ Err r → (1 ≤ number_of r.code) × (number_of r.code ≤ 8)
    ends true q = cc
    ends false q = let z : 8 ≡ number_of r.code = numbered _ r q in omega arith
ended-coded s (Err d) r l e =
    let low : 1 ≤ number_of d.code = leb-true 1 (number_of d.code) (both_left (leb 1 (number_of d.code)) (leb (number_of d.code) 8) l.coded) in
    let high : number_of d.code ≤ 8 = leb-true (number_of d.code) 8 (both_right (leb 1 (number_of d.code)) (leb (number_of d.code) 8) l.coded) in
    let z : number_of d.code ≡ number_of r.code = numbered d r e in
    omega arith

-- a command that is refused is refused with a code from 1 to 8
pub check-coded : (s : List ℕ) (r : Refusal) → check_command s ≡ Err r → (1 ≤ number_of r.code) × (number_of r.code ≤ 8)
unfolding check_command
check-coded s r e = go (leb (length s) longest) e
  where
    go : (t : Bool) → cond t (ended s (after (check_head s) (check_from numbers s))) (refuse WrongLength 0) ≡ Err r
        → (1 ≤ number_of r.code) × (number_of r.code ≤ 8)
    go true q = ended-coded s (after (check_head s) (check_from numbers s)) r (then (check_head s) (check_from numbers s) (head-coded s) (sections-coded numbers s)) q
    go false q = let z : 1 ≡ number_of r.code = numbered _ r q in omega arith

-- reading gives a command just for the texts that are accepted
pub read-ok : (s : List ℕ) (c : Command) → (read_command s ≡ Ok c) ↔ ((check_command s ≡ Ok tt) × (command_of s ≡ c))
unfolding read_command
read-ok s c = (λ e. let b = both-fine (check_command s) (Ok (command_of s)) c e in (b.0, cc), λ e. rw (e.0, e.1))

-- and refuses any other as the check does
pub read-refused : (s : List ℕ) (r : Refusal) → (read_command s ≡ Err r) ↔ (check_command s ≡ Err r)
unfolding read_command
read-refused s r = (go (check_command s), λ e. rw e)
  where
    go : (x : Result (Unit {0}) Refusal) → (x and_then Ok (command_of s)) ≡ Err r → x ≡ Err r
    go (Ok u) e = cc
    go (Err d) e = cc
