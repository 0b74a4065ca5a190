use borrow.Author.Rules.{rules}
use native.Mathlib.Omega.{arith}
use mathlib.Core.Path.{◌≡◌, refl}
use mathlib.Core.List.{[], ◌∷◌, ◌++◌}
use lib.ListN.{length, set, length-map}
use borrow.Rule.Slice.PartMut.{put_mid}
use Prim.Native.Nat.{ℕ, ◌+◌}
use Rattle.text.specs.Over.{over}
use Rattle.text.proofs.Over.{over_none, then_part, then_byte}
use Rattle.command.specs.Record.{digit_bytes}
use Rattle.command_write.proofs.write.put_indicators.Goals as goal
use Rattle.command_write.proofs.write.put_indicators.Goals.{After-put_digits, Start}

-- the array has its eight indicators
full : (c : Start) → length c.args.named ≡ 8
full c = search rules

-- the downlink digit
first : (c : Start) → let d = c.args.d.now in set d 0 (48 + c.args.downlink) ≡ over d 0 ((48 + c.args.downlink) ∷ [])
first c = then_byte c.args.d.now c.args.d.now [] (48 + c.args.downlink) 0 0 (over_none c.args.d.now 0) refl (omega (arith, c.requires.0))

-- and the indicators
second : (c : After-put_digits)
    → let d = c.args.d.now in
    put_mid 1 8 (set d 0 (48 + c.args.downlink)) c.put_digits.new.d
    ≡ over d 0 ((48 + c.args.downlink) ∷ digit_bytes c.args.named)
second c =
    let first : let d = c.args.d.now in set d 0 (48 + c.args.downlink) ≡ over d 0 ((48 + c.args.downlink) ∷ []) = then_byte c.args.d.now c.args.d.now [] (48 + c.args.downlink) 0 0 (over_none c.args.d.now 0) refl (omega (arith, c.requires.0)) in
    let full : length c.args.named ≡ 8 = search rules in
    let d = c.args.d.now in
    let b = 48 + c.args.downlink in
    then_part d (set d 0 b) c.put_digits.new.d (b ∷ []) (digit_bytes c.args.named) 0 1 9 (first) refl
    (omega (arith, length-map c.args.named (λ (v : ℕ). 48 + v), full)) (omega (arith, c.requires.0)) c.put_digits.ensures

-- nine bytes
nine : (c : Start) → 9 ≡ length ((48 + c.args.downlink) ∷ digit_bytes c.args.named)
nine c = omega (arith, length-map c.args.named (λ (v : ℕ). 48 + v), full c)

third : (c : After-put_digits)
    → let d = c.args.d.now in
    set (put_mid 1 8 (set d 0 (48 + c.args.downlink)) c.put_digits.new.d) 9 47
    ≡ over d 0 (((48 + c.args.downlink) ∷ digit_bytes c.args.named) ++ (47 ∷ []))
third c =
    let full : length c.args.named ≡ 8 = search rules in
    let nine : 9 ≡ length ((48 + c.args.downlink) ∷ digit_bytes c.args.named) = omega (arith, length-map c.args.named (λ (v : ℕ). 48 + v), full) in
    let d = c.args.d.now in
    then_byte d (put_mid 1 8 (set d 0 (48 + c.args.downlink)) c.put_digits.new.d)
    ((48 + c.args.downlink) ∷ digit_bytes c.args.named) 47 0 9 (second c) (omega (arith, nine)) (omega (arith, c.requires.0))

pub returns : goal.returns
returns c = third (goal.at.returns c).After-put_digits
