-- `command::read::short_settings` meets its contract: the record section by section.
use mathlib.Core.Path.{◌≡◌, ap, ◌∙◌}
use mathlib.Core.List.{List, []}
use Prim.Native.Nat.{ℕ}
use Rattle.settings.specs.Settings.{settings_from, contents_of, fixed_of}
use Rattle.settings.specs.Valid.{no_settings}
use Rattle.command.specs.Text.{is_named}
use Rattle.command.specs.Sections.{held_in}
use Rattle.command.specs.Inner.{fixed_over}
use Rattle.command.proofs.Placed.{over_nothing, neither_left, neither_right}
use Rattle.command.proofs.read.short_settings.Goals as goal

-- over nothing, the sections of numbers are what the text holds
alone : (s : List ℕ) → fixed_over s (fixed_of no_settings) ≡ fixed_of (settings_from [] (held_in s))
unfolding settings_from contents_of
alone s = ap fixed_of (over_nothing s [])

pub returns : goal.returns
unfolding settings_from
returns c =
    let s = c.args.s.now in
    let numbers : c.fixed_over-fixed.result ≡ fixed_of (settings_from [] (held_in s)) = c.fixed_over-fixed.ensures ∙ rw c.no_fixed.ensures (alone s) in
    rw (
      c.no_airports.ensures,
      c.no_regions.ensures,
      numbers,
      c.flags_of.ensures,
      neither_left (is_named s 2) (is_named s 3) c.requires.s_value_2,
      neither_right (is_named s 2) (is_named s 3) c.requires.s_value_2,
    )
