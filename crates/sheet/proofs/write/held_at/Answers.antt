use borrow.Author.Rules.{rules}
use native.Mathlib.Omega.{arith}
use Prim.Native.Nat.{ℕ, ◌-◌, ◌%◌, ◌≤◌, ◌<◌}
use mathlib.Core.Path.{◌≡◌, ap, ◌∙◌}
use lib.ListN.{length}
use mathlib.Core.List.{[], ◌∷◌}
use borrow.Author.Tests.{eq-eqb, ne_eqb, lt-ltb, le-ltb}
use Rattle.sheet.proofs.Contents.{word_held, name_held, word_cell, name_cell_lem, status-cell}
use Rattle.text.proofs.Cases.{by_eq}
use lib.Seq.{take_all}
use Rattle.sheet.specs.Sheet.{held_at}
use Rattle.sheet.specs.Layout.{cell_at}
use Rattle.sheet.specs.Inner.{held_is}
use Rattle.sheet.proofs.write.held_at.Goals as goal

pub returns-then-k-eq0 : goal.returns-then-k-eq0
unfolding held_at held_is cell_at
returns-then-k-eq0 c =
    let a = c.args in
    let six : length a.x.designator ≡ 6 = search rules in
    rw c.if-k-eq0.true (take_all 6 a.x.designator (omega (arith, six)))

pub returns-then-k-lt17 : goal.returns-then-k-lt17
unfolding held_at
returns-then-k-lt17 c =
    let k = c.args.k in
    let some : k ≡ 0 → ⊥ = c.if-k-eq0.false in
    let few : k < 17 = c.if-k-lt17.true in
    rw (ne_eqb k 0 some, lt-ltb k 17 few) (word_held _ _ (word_cell k (omega arith) (omega arith)) ∙ ap (λ (w : ℕ). w ∷ []) c.word.ensures)

pub returns-then-k-lt67 : goal.returns-then-k-lt67
unfolding held_at
returns-then-k-lt67 c =
    let k = c.args.k in
    let some : k ≡ 0 → ⊥ = c.if-k-eq0.false in
    let many : 17 ≤ k = c.if-k-lt17.false in
    let few : k < 67 = c.if-k-lt67.true in
    rw (ne_eqb k 0 some, le-ltb k 17 many, lt-ltb k 67 few) (word_held _ _ (word_cell k (omega arith) few) ∙ ap (λ (w : ℕ). w ∷ []) c.word-then-k-lt67.ensures)

pub returns : goal.returns
unfolding held_at
returns c =
    let k = c.args.k in
    let some : k ≡ 0 → ⊥ = c.if-k-eq0.false in
    let many : 67 ≤ k = c.if-k-lt67.false in
    let last : k < 167 = c.requires in
    let j : ℕ = k - 67 in
    by_eq (j % 2) 0
    (λ (e : j % 2 ≡ 0). rw (ne_eqb k 0 some, le-ltb k 17 (omega arith), le-ltb k 67 many, eq-eqb (j % 2) 0 e) (name_held _ _ (name_cell_lem k many last e) ∙ c.airport_held.ensures.0 e))
    (λ (n : j % 2 ≡ 0 → ⊥). rw (ne_eqb k 0 some, le-ltb k 17 (omega arith), le-ltb k 67 many, ne_eqb (j % 2) 0 n) (word_held _ _ (status-cell k many last n) ∙ ap (λ (w : ℕ). w ∷ []) (c.airport_held.ensures.1 n)))
