-- `observation::write::write_later` meets its contract: solidi, or the observation.
use borrow.Author.Rules.{rules}
use mathlib.Core.Path.{ap, ◌∙◌}
use Prim.Native.Nat.{ℕ}
use lib.ListN.{replicate}
use Rattle.observation.specs.Rows.{later_rows}
use Rattle.observation.specs.Record.{later_text}
use Rattle.observation.proofs.RoundTrip.{later-sound}
use Rattle.observation.proofs.Checked.{present-allowed, allowed-fitting}
use mathlib.Core.Bool.{false}
use Rattle.observation.proofs.write.write_later.Goals as goal

pub put_observation-requires : goal.put_observation-requires
put_observation-requires c =
    let o = c.in-Some.o in
    let ok = present-allowed false 0 o (rw c.in-Some.is at c.requires.1) in
    record { n_bound = search rules; width_bound = (search rules, search rules, search rules, allowed-fitting later_rows o later-sound ok.1) }

pub returns-in-None : goal.returns-in-None
unfolding later_text
returns-in-None c =
    rw c.in-None.is (c.fill.ensures ∙ ap (λ (n : ℕ). replicate n 47) c.requires.0)

pub returns-in-Some : goal.returns-in-Some
unfolding later_text
returns-in-Some c =
    rw c.in-Some.is c.put_observation.ensures
