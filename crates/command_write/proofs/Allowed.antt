-- Accepted texts and allowed records, each said without the other: a text is accepted just where it is the text of a record that
-- document 01's ranges allow; reading and writing carry one onto the other.
use mathlib.Core.Path.{◌≡◌, refl, sym, ap, ◌∙◌}
use mathlib.Core.Logic.{◌↔◌}
use mathlib.Core.Bool.{true}
use mathlib.Core.List.{List, [], ◌∷◌}
use Prim.Native.Nat.{ℕ, zero, suc, ◌+◌, ◌-◌, ◌≤◌}
use native.Mathlib.Omega.{arith}
use lib.Dec.{leb}
use borrow.Author.Tests.{leb-true, le-leb}
use lib.ListN.{length, get_or, take, drop, length-map}
use lib.Seq.{take_at}
use Rattle.text.specs.Checks.{must, is_fine}
use Rattle.text.specs.Over.{over}
use Rattle.text.specs.Parts.{part}
use Rattle.text.proofs.Checks.{must-held, both-fine, fine-is}
use Rattle.field.proofs.Decimal.{part-long}
use Rattle.field.proofs.Local.{after-cases}
use Rattle.lists.proofs.RoundTrip.{airfields-full, boxes-full}
use Rattle.section.specs.Layout.{numbers, Item, Digits, AirfieldList, BoxList, layout_of, check_item, check_items, item_size}
use Rattle.section.specs.Contents.{Content, Amount, Names, Areas, names_of, areas_of, content_at, contents_at}
use Rattle.settings.specs.Settings.{settings_from, regions_from, airports_from}
use Rattle.section.proofs.Local.{item_sized}
use Rattle.command.specs.Text.{check_command}
use Rattle.command.specs.Record.{command_of, read_command, command_allowed, command_text, write_seen, left_by}
use Rattle.command.specs.Sections.{is_one_of, held_in}
use Rattle.command.specs.Allowed.{allowed_command}
use Rattle.command.specs.declared.Command.{Command}
use Rattle.command.proofs.Parts.{body_of, Place, Absent, Present, holds}
use Rattle.command.proofs.Accepted.{Accepted, accepted, sound, held-own}
use Rattle.command.proofs.Allowed.{allowed_same}
use Rattle.command.proofs.Codes.{read-ok}
use Rattle.command_write.specs.Writing.{wrote}
use Rattle.command_write.specs.Filled.{Filled}
use Rattle.command_write.proofs.RoundTrip.{read-write, write_read}
use Rattle.command_write.proofs.Codes.{wrote-ok}
use Rattle.std.specs.Prelude.{Ok}
use Rattle.text.specs.declared.Code.TheVariants.{NoRoom}

-- ---- A record's own check and document 01's ranges

-- what the ranges allow is refused nowhere
pub allowed-fine : (c : Command) → Filled c → allowed_command c ≡ true → command_allowed c ≡ (Ok tt)
allowed-fine c full e = fine-is (command_allowed c) (allowed_same c full.named ∙ e)

-- and nothing else is
pub fine-allowed : (c : Command) → Filled c → command_allowed c ≡ (Ok tt) → allowed_command c ≡ true
fine-allowed c full e = sym (allowed_same c full.named) ∙ ap is_fine e

-- ---- What is read has arrays of their lengths

abbrev Full : Content → Type 0
Full (Amount v) = Unit
Full (Names l) = length l.names ≡ 80
Full (Areas l) = length l.regions ≡ 16

abbrev AllFull : List Content → Type 0
AllFull [] = Unit
AllFull (c ∷ cs) = Full c × AllFull cs

item_full : (i : Item) (s : List ℕ) (at p : ℕ) → check_item i s at ≡ Ok p → Full (content_at i s at)
item_full (Digits r) s at p e = tt
item_full AirfieldList s at p e = airfields-full s at p e
item_full BoxList s at p e = boxes-full s at p e

items-full : (is : List Item) (s : List ℕ) (at p : ℕ) → check_items is s at ≡ Ok p → AllFull (contents_at is s at)
unfolding check_items contents_at
items-full [] s at p e = tt
items-full (i ∷ is) s at p e =
    after-cases (check_item i s at) (check_items is s) p e
    (λ m (d : check_item i s at ≡ Ok m) (c : check_items is s m ≡ Ok p).
    (item_full i s at m d, items-full is s (at + item_size i s at) p (rw ((item_sized i).passes s at m d) at c)))

full_at : (cs : List Content) (i : ℕ) → AllFull cs → Full (get_or cs i (Amount 0))
full_at [] i f = tt
full_at (c ∷ cs) zero f = f.0
full_at (c ∷ cs) (suc i) f = full_at cs i f.1

areas_full : (c : Content) → Full c → length (areas_of c).regions ≡ 16
areas_full (Amount v) f = refl
areas_full (Names l) f = refl
areas_full (Areas l) f = f

names-full : (c : Content) → Full c → length (names_of c).names ≡ 80
names-full (Amount v) f = refl
names-full (Names l) f = f
names-full (Areas l) f = refl

holds-full : (k : ℕ) (b : List ℕ) → Place k b → AllFull (holds k b)
holds-full k [] p = tt
holds-full k (x ∷ b) (Absent none) = let z : ◌≡◌ {A = ℕ} 0 1 = cc in absurd (omega arith)
holds-full k (x ∷ b) (Present some own) = items-full (layout_of k) (x ∷ b) 0 (length (x ∷ b)) own

module _ (s : List ℕ) (a : Accepted s) where
  held-full : (k i : ℕ) → is_one_of numbers k ≡ true → Place k (body_of s k) → Full (get_or (held_in s k) i (Amount 0))
  held-full k i o p = rw (held-own s a k o) (full_at (holds k (body_of s k)) i (holds-full k (body_of s k) p))

  areas : (i : ℕ) → length (areas_of (get_or (held_in s 2) i (Amount 0))).regions ≡ 16
  areas i = areas_full (get_or (held_in s 2) i (Amount 0)) (held-full 2 i refl (sound s a).sections.0)

  names : (i : ℕ) → length (names_of (get_or (held_in s 3) i (Amount 0))).names ≡ 80
  names i = names-full (get_or (held_in s 3) i (Amount 0)) (held-full 3 i refl (sound s a).sections.1.0)

  -- as the types of its arrays say
  pub read-filled : Filled (command_of s)
  unfolding command_of settings_from regions_from airports_from
  read-filled =
      let long = a.head.inside in
      record {
        flags = length-map (part 5 7 s) (λ (b : ℕ). b - 48) ∙ part-long s 5 7 (omega arith);
        named = length-map (part 13 8 s) (λ (b : ℕ). b - 48) ∙ part-long s 13 8 (omega arith);
        reporting = areas 0;
        inhibiting = areas 1;
        selected = (names 0, names 1);
        inhibited = (names 2, names 3);
      }

-- ---- Accepted texts

-- s is the text of the record c, which the ranges allow
pub record Spells (s : List ℕ) (c : Command) : Type 0 where
  pub filled : Filled c
  pub allowed : allowed_command c ≡ true
  pub text : s ≡ command_text c

accepted_spells : (s : List ℕ) → check_command s ≡ (Ok tt) → Spells s (command_of s)
accepted_spells s e =
    let full = read-filled s (accepted s e) in
    record {
      filled = full;
      allowed = fine-allowed (command_of s) full (read-write s e).0;
      text = sym (read-write s e).1;
    }

-- a text is accepted just where it is the text of an allowed record
pub accepted-allowed : (s : List ℕ) → (check_command s ≡ (Ok tt)) ↔ ((c : Command) × Spells s c)
accepted-allowed s = (
  λ e. (command_of s, accepted_spells s e),
  λ t. let p = t.1 in rw p.text (write_read t.0 p.filled (allowed-fine t.0 p.filled p.allowed)).0,
)

-- what is read is an allowed record that is written as the same bytes
pub read_then_write : (s : List ℕ) (c : Command) → read_command s ≡ Ok c → Spells s c
read_then_write s c e = let x = (read-ok s c).0 e in rw (← x.1) (accepted_spells s x.0)

-- ---- Writing

-- a record is written just where the ranges allow it and there is room for its text
pub writes-allowed : (c : Command) (room : ℕ) → Filled c
    → (write_seen c room ≡ (Ok tt)) ↔ ((allowed_command c ≡ true) × (length (command_text c) ≤ room))
unfolding write_seen
writes-allowed c room full =
    let fits = leb (length (command_text c)) room in (
      λ e.
          let x = both-fine (command_allowed c) (must fits NoRoom 0) tt e in
          (fine-allowed c full x.0, leb-true (length (command_text c)) room (must-held fits NoRoom 0 x.1)),
      λ h. rw (allowed-fine c full h.0, le-leb (length (command_text c)) room h.1),
    )

-- the length that the answer gives is the text's
pub wrote-length : (c : Command) (room n : ℕ) → wrote (write_seen c room) (length (command_text c)) ≡ Ok n → n ≡ length (command_text c)
wrote-length c room n e = sym ((wrote-ok c room (length (command_text c)) n).0 e).1

-- what was written, as many bytes as the answer says, reads back as the record
pub write_then_read : (c : Command) (out : List ℕ) (n : ℕ) → Filled c
    → let seen = write_seen c (length out) in
    wrote seen (length (command_text c)) ≡ Ok n → read_command (take n (left_by seen (command_text c) out)) ≡ Ok c
unfolding over
write_then_read c out n full w =
    let t = command_text c in
    let e = ((wrote-ok c (length out) (length t) n).0 w).0 in
    let back = write_read c full (allowed-fine c full ((writes-allowed c (length out) full).0 e).0) in
    rw (wrote-length c (length out) n w, e, take_at t (drop (0 + length t) out) (length t) refl) ((read-ok t c).1 back)
