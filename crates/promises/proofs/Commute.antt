-- Document 02, §12, as specs/Commute says it.
use mathlib.Core.Path.{◌≡◌, refl, sym, ap, ◌∙◌}
use mathlib.Core.Logic.{◌↔◌}
use mathlib.Core.Bool.{Bool, true, false, cond, ◌&&◌, not}
use mathlib.Core.List.{List}
use Prim.Native.Nat.{ℕ, ◌-◌, ◌<◌, ◌≤◌}
use native.Mathlib.Omega.{arith}
use lib.Dec.{leb, eqb}
use lib.ListN.{length}
use borrow.Author.Tests.{eqb-true, eqb-false, ne_eqb, not-true, le-leb}
use Rattle.text.proofs.Cases.{both_left, both_right}
use Rattle.text.specs.Bytes.{bytes}
use Rattle.text.specs.Equal.{same_bytes}
use Rattle.field.specs.Decimal.{all_digits, value_from}
use Rattle.field.specs.Fields.{check_digits, check_delimiter}
use Rattle.section.specs.Layout.{numbers, layout_of, table_of, check_items, items_size}
use Rattle.settings.specs.Valid.{valid, reset}
use Rattle.settings.specs.declared.Settings.{Settings}
use Rattle.command.specs.Text.{is_named, check_each, check_awr04, check_head, check_from, longest, check_command}
use Rattle.command.specs.Sections.{held_in, place_from}
use Rattle.command.proofs.Codes.{check-coded}
use Rattle.config.specs.Config.{apply_to, kept}
use Rattle.config.proofs.Valid.{applies_valid, reset-valid}
use Rattle.join.specs.Join.{Joined, join_text, join, joined_over}
use Rattle.join.specs.Join as J
use Rattle.join.proofs.Laws.{join-short, join-same}
use Rattle.commute.specs.Commute.{sets, flag_of, flag_apart, section_apart, flag_numbers, bits_of, bit, by_seen, compared, all_apart}
use Rattle.commute.specs.Order.{EitherWay, Agree}
use Rattle.commute.proofs.Order.{either_way, either_joins, reset-agree, join_earlier}
use Rattle.commute.proofs.Answer.{compared_is, flag-bit, flags-small, section-bit, sections-small, none_either}
use Rattle.desk.specs.Numbers.{check_numbers}
use Rattle.desk.specs.Joins.{join_numbers}
use Rattle.desk.specs.Orders.{yes_number, commute_numbers}
use Rattle.promises.specs.BoardRuns.{IsAccepted}
use Rattle.promises.specs.Configuration.{check}
use Rattle.promises.specs.Join.{join_answer, buffer_joined}
use Rattle.promises.specs.Commute.{commute_answer, refusing, answering, BothOrders, contents_in, SameContents, FlagApart, SectionApart, Answered, AsJoin, CommutePromises}
use Rattle.promises.proofs.Codes.{accepted-fine, fine-accepted}
use Rattle.promises.proofs.Configuration.{valid-zero, zero-valid}
use Rattle.promises.proofs.Join.{kept-is}
use Rattle.std.specs.Prelude.{Result, Ok, Err}
use Rattle.text.specs.declared.Refusal.{Refusal}

-- ---- In the host's words

-- what esk_apply leaves after both
kept-both : (g : Settings) (a b : List ℕ) → valid g ≡ true → check_command a ≡ (Ok tt) → check_command b ≡ (Ok tt)
    → kept (kept g a) b ≡ apply_to (apply_to g a) b
kept-both g a b v x y =
    let e = kept-is g a v x in
    kept-is (kept g a) b (ap valid e ∙ applies_valid g a v x) y ∙ ap (λ (h : Settings). apply_to h b) e

-- a byte that is not `9` sets a flag
pub set_is : (f : ℕ) → (sets f ≡ true) ↔ (¬ (f ≡ 57))
set_is f = (λ m. eqb-false f 57 (not-true (eqb f 57) m), λ n. ap not (ne_eqb f 57 n))

-- what a named section holds stands at its place
held-is : (s : List ℕ) (k : ℕ) → is_named s k ≡ true → held_in s k ≡ contents_in s k
held-is s k m = rw m

module _ (a b : List ℕ) where
  agree_same : Agree a b → SameContents a b
  agree_same h =
      record {
        flags = λ i l m n. h.flags i l ((set_is (flag_of a i)).1 m) ((set_is (flag_of b i)).1 n);
        sections = λ k lo hi m n. sym (held-is a k m) ∙ h.sections k lo hi m n ∙ held-is b k n;
      }

  same-agree : SameContents a b → Agree a b
  same-agree h =
      record {
        flags = λ i l m n. h.flags i l ((set_is (flag_of a i)).0 m) ((set_is (flag_of b i)).0 n);
        sections = λ k lo hi m n. held-is a k m ∙ h.sections k lo hi m n ∙ sym (held-is b k n);
      }

-- ---- The law

module _ (a b : List ℕ) (p : IsAccepted a) (q : IsAccepted b) where
  abbrev x : check_command a ≡ (Ok tt)
  x = accepted-fine a p

  abbrev y : check_command b ≡ (Ok tt)
  y = accepted-fine b q

  orders_either : BothOrders a b → EitherWay a b
  orders_either h g v = sym (kept-both g a b v x y) ∙ h g (zero-valid (valid g) v) ∙ kept-both g b a v y x

  either_orders : EitherWay a b → BothOrders a b
  either_orders h g c =
      let v = valid-zero (valid g) c in
      kept-both g a b v x y ∙ h g v ∙ sym (kept-both g b a v y x)

  exactly : BothOrders a b ↔ SameContents a b
  exactly = (
    λ h. agree_same a b ((either_way a b x y).0 (orders_either h)),
    λ s. either_orders ((either_way a b x y).1 (same-agree a b s)),
  )

  told-apart : ¬ SameContents a b → ((check reset).code ≡ 0) × (¬ (kept (kept reset a) b ≡ kept (kept reset b) a))
  told-apart n = (
    zero-valid (valid reset) reset-valid,
    λ e.
        n
        (agree_same a b
        (reset-agree a b x y (sym (kept-both reset a b reset-valid x y) ∙ e ∙ kept-both reset b a reset-valid y x))),
  )

  joined : BothOrders a b → join_text a b ≡ join_text b a
  joined h = either_joins a b x y (orders_either h)

  join_turns : (room : ℕ) → BothOrders a b → join a b room ≡ join b a room
  unfolding join
  join_turns room h = rw (x, y, joined h)

  joined-answers : (out : List ℕ) → BothOrders a b
      → (join_answer a b out ≡ join_answer b a out) × (buffer_joined a b out ≡ buffer_joined b a out)
  joined-answers out h =
      let e = join_turns (length out) h in
      (ap join_numbers e, ap (λ (j : Joined). joined_over j out) e)

-- ---- The answer

yes-none : (f s : ℕ) → (yes_number f s ≡ 1) ↔ ((f ≡ 0) × (s ≡ 0))
yes-none f s = (
  λ e.
      let t : (eqb f 0 && eqb s 0) ≡ true = one (eqb f 0 && eqb s 0) e in
      (eqb-true f 0 (both_left (eqb f 0) (eqb s 0) t), eqb-true s 0 (both_right (eqb f 0) (eqb s 0) t)),
  λ z. rw (z.0, z.1),
)
  where
    one : (t : Bool) → ◌≡◌ {A = ℕ} (cond t 1 0) 1 → t ≡ true
    one true e = refl
    one false e = absurd (omega arith)

yes_or_no : (f s : ℕ) → ¬ (yes_number f s ≡ 1) → yes_number f s ≡ 0
yes_or_no f s = go (eqb f 0 && eqb s 0)
  where
    go : (t : Bool) → ¬ (◌≡◌ {A = ℕ} (cond t 1 0) 1) → ◌≡◌ {A = ℕ} (cond t 1 0) 0
    go true n = absurd (n refl)
    go false n = refl

module _ (a b : List ℕ) (p : IsAccepted a) (q : IsAccepted b) where
  flags-apart : (i : ℕ) → i < 7 → (bit i (bits_of (flag_apart a b) flag_numbers) ≡ 1) ↔ FlagApart a b i
  flags-apart i l =
      let e = flag-bit a b (accepted-fine a p) (accepted-fine b q) i l in (
        λ o.
            let h = e.0 o in
            record { first = (set_is (flag_of a i)).0 h.0; second = (set_is (flag_of b i)).0 h.1; other = h.2 },
        λ h. e.1 ((set_is (flag_of a i)).1 h.first, (set_is (flag_of b i)).1 h.second, h.other),
      )

  sections-apart : (k : ℕ) → 2 ≤ k → k ≤ 9 → (bit (k - 2) (bits_of (section_apart a b) numbers) ≡ 1) ↔ SectionApart a b k
  sections-apart k lo hi =
      let e = section-bit a b (accepted-fine a p) (accepted-fine b q) k lo hi in (
        λ o.
            let h = e.0 o in
            record { first = h.0; second = h.1; other = λ z. h.2 (held-is a k h.0 ∙ z ∙ sym (held-is b k h.1)) },
        λ h. e.1 (h.first, h.second, λ z. h.other (sym (held-is a k h.first) ∙ z ∙ held-is b k h.second)),
      )

  answers : Answered a b (commute_answer a b)
  answers =
      let m = accepted-fine a p in
      let n = accepted-fine b q in
      let f = bits_of (flag_apart a b) flag_numbers in
      let s = bits_of (section_apart a b) numbers in
      let either = none_either a b m n in
      rw (compared_is a b m n)
      (record {
        code = refl;
        place = refl;
        text = refl;
        spare = (refl, refl);
        yes = (
          λ e. either_orders a b p q (either.0 ((yes-none f s).0 e)),
          λ h. (yes-none f s).1 (either.1 (orders_either a b p q h)),
        );
        no = yes_or_no f s;
        flags = flags-apart;
        seven = flags-small a b m n;
        sections = sections-apart;
        eight = sections-small a b m n;
        none = yes-none f s;
      })

-- ---- The printed pair

printed-no : commute_answer (bytes "AWR041999999000400000/151/") (bytes "AWR049199999100400009/300/2301/") ≡ answering 0 0 4
unfolding compared bits_of check_command check_head check_awr04 same_bytes check_each check_delimiter check_from check_items check_digits all_digits value_from layout_of table_of items_size place_from
printed-no = refl

printed-yes : commute_answer (bytes "AWR049199999100400009/300/2301/") (bytes "AWR041199999100400009/300/2301/") ≡ answering 1 0 0
unfolding compared bits_of check_command check_head check_awr04 same_bytes check_each check_delimiter check_from check_items check_digits all_digits value_from layout_of table_of items_size place_from
printed-yes = refl

-- ---- Refusals

accepts : (a b : List ℕ) → ((commute_answer a b).code ≡ 0) ↔ (IsAccepted a × IsAccepted b)
unfolding compared
accepts a b = (
  λ z. let s = go (check_command a) (check_command b) refl refl z in (fine-accepted a s.0, fine-accepted b s.1),
  λ s. rw (accepted-fine a s.0, accepted-fine b s.1),
)
  where
    go : (x y : Result (Unit {0}) Refusal) → check_command a ≡ x → check_command b ≡ y
        → (commute_numbers (by_seen x y (all_apart a b))).code ≡ 0
        → (x ≡ (Ok tt)) × (y ≡ (Ok tt))
    go (Err r) y e f z = let l = (check-coded a r e).0 in absurd (omega arith)
    go (Ok u) (Err r) e f z = let l = (check-coded b r f).0 in absurd (omega arith)
    go (Ok u) (Ok v) e f z = (refl, refl)

first-refused : (a b : List ℕ) → ¬ IsAccepted a → commute_answer a b ≡ refusing 1 (check_numbers (check_command a))
unfolding compared
first-refused a b n = go (check_command a) n
  where
    go : (x : Result (Unit {0}) Refusal) → ¬ ((check_numbers x).code ≡ 0)
        → commute_numbers (by_seen x (check_command b) (all_apart a b))
        ≡ refusing 1 (check_numbers x)
    go (Ok u) m = absurd (m refl)
    go (Err r) m = refl

second-refused : (a b : List ℕ) → IsAccepted a → ¬ IsAccepted b → commute_answer a b ≡ refusing 2 (check_numbers (check_command b))
unfolding compared
second-refused a b x n = rw (accepted-fine a x) (go (check_command b) n)
  where
    go : (y : Result (Unit {0}) Refusal) → ¬ ((check_numbers y).code ≡ 0)
        → commute_numbers (by_seen (Ok tt) y (all_apart a b))
        ≡ refusing 2 (check_numbers y)
    go (Ok u) m = absurd (m refl)
    go (Err r) m = refl

as_join : (a b out : List ℕ) → longest ≤ length out → AsJoin (commute_answer a b) (join_answer a b out)
unfolding compared join
as_join a b out l = go (check_command a) (check_command b) refl refl
  where
    fits : check_command a ≡ (Ok tt) → check_command b ≡ (Ok tt) → leb (length (join_text a b)) (length out) ≡ true
    fits x y = le-leb (length (join_text a b)) (length out) (omega (arith, l, join-short a b x y))

    go : (x y : Result (Unit {0}) Refusal) → check_command a ≡ x → check_command b ≡ y
        → AsJoin (commute_numbers (by_seen x y (all_apart a b)))
        (join_numbers (J.by_seen x y (join_text a b) (length out)))
    go (Err r) y e f = record { code = refl; place = refl; text = refl }
    go (Ok u) (Err r) e f = record { code = refl; place = refl; text = refl }
    go (Ok u) (Ok v) e f = rw (fits e f) (record { code = refl; place = refl; text = refl })

-- ---- All of it

pub commute_promises : CommutePromises
commute_promises =
    record {
      exactly = exactly;
      told-apart = told-apart;
      joined = joined;
      joined-answers = λ a b out p q h. joined-answers a b p q out h;
      itself = λ a p. join-same a (accepted-fine a p);
      earlier_copy = λ a b p q. join_earlier a b (accepted-fine a p) (accepted-fine b q);
      answers = answers;
      printed-no = printed-no;
      printed-yes = printed-yes;
      accepts = accepts;
      first-refused = first-refused;
      second-refused = second-refused;
      as_join = as_join;
    }
