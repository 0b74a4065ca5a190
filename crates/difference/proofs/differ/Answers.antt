-- `difference::differ` meets its contract.
use mathlib.Core.Path.{◌≡◌, sym, ap, ap₂, ◌∙◌}
use mathlib.Core.Bool.{true, ◌&&◌}
use lib.ListN.{length}
use Rattle.std.specs.Prelude.{Ok, Err}
use borrow.Author.Tests.{not-true, not-false}
use Rattle.text.proofs.Cases.{both_right}
use Rattle.settings.specs.Valid.{valid}
use Rattle.command.specs.Record.{command_text, write_seen, left_by as writeLeft}
use Rattle.command.specs.declared.Command.{Command}
use Rattle.command_write.specs.Writing.{wrote}
use Rattle.difference.specs.Difference.{between, listing}
use Rattle.difference.specs.Inner.{set_items}
use Rattle.difference.proofs.Marks.{listed-differs}
use Rattle.difference.proofs.Answer.{tells_invalid, tells_refused, tells_written}
use Rattle.difference.proofs.differ.Goals as goal
use Rattle.difference.proofs.differ.Goals.{Else-not-is_valid}

-- both configurations are valid
valid-both : (c : Else-not-is_valid) → (valid c.args.a && valid c.args.b) ≡ true
valid-both c =
    ap₂ ◌&&◌ (sym c.is_valid.ensures) (sym c.is_valid-2.ensures) ∙ not-false _ c.if-not-is_valid.false-raw

pub returns-then-not-is_valid : goal.returns-then-not-is_valid
returns-then-not-is_valid c =
    tells_invalid c.args.a c.args.b c.args.out.now
    (ap₂ ◌&&◌ (sym c.is_valid.ensures) (sym c.is_valid-2.ensures) ∙ not-true _ c.if-not-is_valid.true-raw)

pub returns-in-Err : goal.returns-in-Err
returns-in-Err c =
    let a = c.args.a in
    let b = c.args.b in
    let out = c.args.out.now in
    let made = c.command_between-command.ensures in
    let w : wrote (write_seen (between a b) (length out)) (length (command_text (between a b))) ≡ Err c.in-Err.refusal =
    ap (λ (r : Command). wrote (write_seen r (length out)) (length (command_text r))) (sym made) ∙ sym c.write.ensures.0 ∙ c.in-Err.is in
    let l : c.write.new.out ≡ writeLeft (write_seen (between a b) (length out)) (command_text (between a b)) out =
    c.write.ensures.1 ∙ ap (λ (r : Command). writeLeft (write_seen r (length out)) (command_text r) out) made in
    rw l (tells_refused a b out (valid-both (goal.at.returns-in-Err c).Else-not-is_valid) _ w)

pub returns : goal.returns
returns c =
    let a = c.args.a in
    let b = c.args.b in
    let out = c.args.out.now in
    let made = c.command_between-command.ensures in
    let w : wrote (write_seen (between a b) (length out)) (length (command_text (between a b))) ≡ Ok c.in-Ok.length =
    ap (λ (r : Command). wrote (write_seen r (length out)) (length (command_text r))) (sym made) ∙ sym c.write.ensures.0 ∙ c.in-Ok.is in
    let l : c.write.new.out ≡ writeLeft (write_seen (between a b) (length out)) (command_text (between a b)) out =
    c.write.ensures.1 ∙ ap (λ (r : Command). writeLeft (write_seen r (length out)) (command_text r) out) made in
    let ok = valid-both (goal.at.returns c).Else-not-is_valid in
    let items = c.list_set-listed.ensures ∙ ap (λ (r : Command). listing (set_items r.settings.flags r.named 0 15)) made
    ∙ ap listing (listed-differs a b (both_right (valid a) (valid b) ok)) in
    rw (items, l) (tells_written a b out ok _ w)
