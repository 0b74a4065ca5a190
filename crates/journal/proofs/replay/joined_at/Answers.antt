-- `journal::replay::joined_at` meets its contract: the entry's command is joined where the entry is for the aircraft.
use mathlib.Core.Path.{◌≡◌, ap, ◌∙◌}
use Prim.Native.Nat.{ℕ, ◌+◌, ◌-◌}
use native.Mathlib.Omega.{arith}
use Rattle.text.specs.Parts.{part}
use Rattle.command.specs.Text.{check_command}
use Rattle.journal.specs.Journal.{entry_at}
use Rattle.journal.proofs.Bytes.{entry-text}
use Rattle.journal.proofs.replay.joined_at.Goals as goal

pub join_before-requires : goal.join_before-requires
join_before-requires c =
    let a = c.args in
    let s = c.args.journal.now in
    let long : a.at + 6 + a.n - (a.at + 6) ≡ a.n = omega arith in (
      ap (λ (k : ℕ). check_command (part (a.at + 6) k s)) long ∙ entry-text (entry_at s a.at a.n) c.requires.n_in_bounds.1,
      c.requires.holds,
    )
