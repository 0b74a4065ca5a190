-- A command that is not written is refused with a code from 2 to 7, never 0.
use mathlib.Core.Path.{◌≡◌, refl}
use mathlib.Core.Logic.{◌↔◌}
use mathlib.Core.Bool.{Bool, true, false, ◌&&◌}
use mathlib.Core.List.{List, [], ◌∷◌}
use Prim.Native.Nat.{ℕ, zero, suc, ◌+◌, ◌≤◌}
use lib.Dec.{leb}
use lib.ListN.{length, drop}
use borrow.Author.Tests.{leb-true}
use Rattle.text.specs.Checks.{must, ◌and_then◌}
use Rattle.text.specs.Codes.{number_of}
use Rattle.text.proofs.Checks.{both-fine}
use Rattle.text.proofs.Cases.{by_test, both_left, both_right}
use Rattle.field.specs.Boxes.{edge_allowed, region_allowed}
use Rattle.field.specs.declared.Circle.{Circle}
use Rattle.field.specs.declared.Edge.{Edge}
use Rattle.field.specs.declared.Region.{Region}
use Rattle.lists.specs.Lists.{names_allowed, airfields_allowed, regions_allowed, boxes_allowed}
use Rattle.lists.specs.declared.Airfields.{Airfields}
use Rattle.lists.specs.declared.Boxes.{Boxes}
use Rattle.section.specs.Layout.{Item, Digits, AirfieldList, BoxList, layout_of}
use Rattle.section.proofs.Rows.{fits_code, codes_fit, table-coded, four-or-five}
use Rattle.section.specs.Contents.{Content, amount_of, names_of, areas_of, content_text, content_allowed, contents_allowed}
use Rattle.settings.specs.Settings.{contents_of}
use Rattle.command.specs.Record.{flags_allowed, named_allowed, names, section_text, sections_allowed, command_allowed, write_seen}
use Rattle.command.specs.declared.Command.{Command}
use Rattle.command_write.specs.Writing.{wrote}
use Rattle.std.specs.Prelude.{Result, Ok, Err}
use Rattle.text.specs.declared.Refusal.{Refusal}
use Rattle.text.specs.declared.Code.{Code}

abbrev code_of : Result (Unit {0}) Refusal → ℕ
code_of (Ok u) = 2
code_of (Err r) = number_of r.code

abbrev two_to_seven : Code → Bool
two_to_seven code = leb 2 (number_of code) && leb (number_of code) 7

-- where it refuses, it refuses with a code from 2 to 7
record Coded (x : Result (Unit {0}) Refusal) : Type 0 where
  coded : (leb 2 (code_of x) && leb (code_of x) 7) ≡ true

one : (ok : Bool) (code : Code) (place : ℕ) → two_to_seven code ≡ true → Coded (must ok code place)
one true code place e = record { coded = refl }
one false code place e = record { coded = e }

then : (x y : Result (Unit {0}) Refusal) → Coded x → Coded y → Coded (x and_then y)
then (Ok u) y a b = b
then (Err r) y a b = a

-- ---- Lists

edge-coded : (c : Circle) (at : ℕ) (e : Edge) → Coded (edge_allowed c at e)
unfolding edge_allowed
edge-coded c at e = search (one, then) depth 8

region_coded : (at : ℕ) (b : Region) → Coded (region_allowed at b)
unfolding region_allowed
region_coded at b = search (one, then, edge-coded) depth 16

regions-coded : (n at : ℕ) (bs : List Region) → Coded (regions_allowed n at bs)
unfolding regions_allowed
regions-coded zero at bs = record { coded = refl }
regions-coded (suc n) at [] = record { coded = refl }
regions-coded (suc n) at (b ∷ bs) = then (region_allowed at b) (regions_allowed n (at + 14) bs) (region_coded at b) (regions-coded n (at + 14) bs)

boxes-coded : (at : ℕ) (l : Boxes) → Coded (boxes_allowed at l)
unfolding boxes_allowed
boxes-coded at l = search (one, then, regions-coded) depth 8

names-coded : (n at : ℕ) (s : List ℕ) → Coded (names_allowed n at s)
unfolding names_allowed
names-coded zero at s = record { coded = refl }
names-coded (suc n) at s = let rest = names-coded n (at + 4) (drop 4 s) in search (one, then) depth 8

airfields-coded : (at : ℕ) (l : Airfields) → Coded (airfields_allowed at l)
unfolding airfields_allowed
airfields-coded at l = search (one, then, names-coded) depth 8

-- ---- Sections

digits-coded : (ok : Bool) (code : Code) (at : ℕ) → fits_code code ≡ true → Coded (must ok code at)
digits-coded ok code at e = one ok code at (four-or-five two_to_seven code refl refl e)

contents_coded : (is : List Item) (at : ℕ) (cs : List Content) → codes_fit is ≡ true → Coded (contents_allowed is at cs)
unfolding contents_allowed codes_fit
contents_coded [] at cs e = record { coded = refl }
contents_coded (i ∷ is) at [] e = record { coded = refl }
contents_coded (Digits r ∷ is) at (c ∷ cs) e =
    let next = at + length (content_text (Digits r) c) in
    let fits = fits_code r.code in
    then (content_allowed (Digits r) at c) (contents_allowed is next cs)
    (digits-coded (leb r.least (amount_of c) && leb (amount_of c) r.most) r.code at (both_left fits (codes_fit is) e))
    (contents_coded is next cs (both_right fits (codes_fit is) e))
contents_coded (AirfieldList ∷ is) at (c ∷ cs) e =
    let next = at + length (content_text AirfieldList c) in
    then (content_allowed AirfieldList at c) (contents_allowed is next cs) (airfields-coded at (names_of c)) (contents_coded is next cs e)
contents_coded (BoxList ∷ is) at (c ∷ cs) e =
    let next = at + length (content_text BoxList c) in
    then (content_allowed BoxList at c) (contents_allowed is next cs) (boxes-coded at (areas_of c)) (contents_coded is next cs e)

sections-coded : (ks : List ℕ) (at : ℕ) (c : Command) → Coded (sections_allowed ks at c)
unfolding sections_allowed
sections-coded [] at c = record { coded = refl }
sections-coded (k ∷ ks) at c =
    let cs = contents_of c.settings k in
    by_test (names c k)
    (λ (n : names c k ≡ true).
    let next = at + length (section_text c k) in
    rw n (then (contents_allowed (layout_of k) at cs) (sections_allowed ks next c) (contents_coded (layout_of k) at cs (table-coded k)) (sections-coded ks next c)))
    (λ (n : names c k ≡ false). let rest = sections-coded ks at c in rw n (search (one, then)))

-- ---- The whole

flags-coded : (at : ℕ) (fs : List ℕ) → Coded (flags_allowed at fs)
unfolding flags_allowed
flags-coded at [] = record { coded = refl }
flags-coded at (v ∷ fs) = let rest = flags-coded (at + 1) fs in search (one, then) depth 8

named-coded : (ks : List ℕ) (at : ℕ) (vs : List ℕ) → Coded (named_allowed ks at vs)
unfolding named_allowed
named-coded [] at vs = record { coded = refl }
named-coded (k ∷ ks) at [] = record { coded = refl }
named-coded (k ∷ ks) at (v ∷ vs) = let rest = named-coded ks (at + 1) vs in search (one, then) depth 8

seen-coded : (c : Command) (room : ℕ) → Coded (write_seen c room)
unfolding write_seen command_allowed
seen-coded c room = search (one, then, flags-coded, named-coded, sections-coded) depth 12

-- a command that is not written is refused with a code from 2 to 7
pub write-coded : (c : Command) (room : ℕ) (r : Refusal) → write_seen c room ≡ Err r → (2 ≤ number_of r.code) × (number_of r.code ≤ 7)
write-coded c room r e =
    let n = number_of r.code in
    let x = rw e at (seen-coded c room) in
    (leb-true 2 n (both_left (leb 2 n) (leb n 7) x.coded), leb-true n 7 (both_right (leb 2 n) (leb n 7) x.coded))

-- the answer is a length just where the command is written
pub wrote-ok : (c : Command) (room n m : ℕ) → (wrote (write_seen c room) n ≡ Ok m) ↔ ((write_seen c room ≡ Ok tt) × (n ≡ m))
wrote-ok c room n m = (λ e. let b = both-fine (write_seen c room) (Ok n) m e in (b.0, cc), λ e. rw (e.0, e.1))

-- and the refusal where it is not
pub wrote-refused : (c : Command) (room n : ℕ) (r : Refusal) → (wrote (write_seen c room) n ≡ Err r) ↔ (write_seen c room ≡ Err r)
wrote-refused c room n r = (go (write_seen c room), λ e. rw e)
  where
    go : (x : Result (Unit {0}) Refusal) → wrote x n ≡ Err r → x ≡ Err r
    go (Ok u) e = cc
    go (Err d) e = cc
