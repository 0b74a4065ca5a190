-- A command's record as C holds it: its arrays are as long as they are declared.
use Rattle.std.specs.Prelude.{◌≡◌, ◌*◌, length}
use Rattle.command.specs.declared.Command.{Command}
use Rattle.lists.specs.Lists.{most_boxes, most_airfields}

pub record Filled (c : Command) : Type 0 where
  pub flags : length c.settings.flags ≡ 7
  pub named : length c.named ≡ 8
  pub reporting : length c.settings.regions.reporting.regions ≡ most_boxes
  pub inhibiting : length c.settings.regions.inhibiting.regions ≡ most_boxes
  pub selected : (length c.settings.airports.selected.ascent.names ≡ 4 * most_airfields) × (length c.settings.airports.selected.descent.names ≡ 4 * most_airfields)
  pub inhibited : (length c.settings.airports.inhibited.ascent.names ≡ 4 * most_airfields) × (length c.settings.airports.inhibited.descent.names ≡ 4 * most_airfields)
