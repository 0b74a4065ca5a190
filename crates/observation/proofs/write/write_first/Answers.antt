-- `observation::write::write_first` meets its contract: a record that passed its check fits.
use borrow.Author.Rules.{rules}
use Rattle.observation.specs.Rows.{first_rows}
use Rattle.observation.proofs.RoundTrip.{first-sound}
use Rattle.observation.proofs.Checked.{first-allowed, allowed-fitting}
use Rattle.observation.proofs.write.write_first.Goals as goal

pub put_observation-requires : goal.put_observation-requires
put_observation-requires c =
    let ok = first-allowed 0 c.args.o c.requires.1 in
    record { n_bound = search rules; width_bound = (search rules, search rules, search rules, allowed-fitting first_rows c.args.o first-sound ok) }
