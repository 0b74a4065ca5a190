-- The command that a refusal carries, and its settings: zero in every member.
use Rattle.std.specs.Prelude.{replicate}
use Rattle.field.specs.Boxes.{no_region}
use Rattle.lists.specs.declared.Airfields.{Airfields}
use Rattle.lists.specs.declared.Boxes.{Boxes}
use Rattle.settings.specs.declared.ByPhase.{ByPhase}
use Rattle.settings.specs.declared.Settings.{Settings}
use Rattle.command.specs.declared.Command.{Command}

abbrev pub no_boxes : Boxes
no_boxes = record { count = 0; regions = replicate 16 no_region }

abbrev pub no_airfields : Airfields
no_airfields = record { count = 0; names = replicate 80 0 }

abbrev pub no_lists : ByPhase
no_lists = record { ascent = no_airfields; descent = no_airfields }

abbrev pub no_settings : Settings
no_settings =
    record {
      flags = replicate 7 0;
      regions = record { reporting = no_boxes; inhibiting = no_boxes };
      airports = record { selected = no_lists; inhibited = no_lists; routine = 0 };
      enroute = record { interval = 0; wind = 0 };
      ascent = record { mode = 0; interval1 = 0; duration = 0; interval2 = 0; total = 0; top = 0; list = 0; timer = 0 };
      descent = record { mode = 0; interval = 0; top = 0; list = 0; timer = 0 };
      routine6 = 0;
      routine8 = 0;
      hours = record { start = 0; end = 0 };
    }

abbrev pub no_command : Command
no_command = record { settings = no_settings; downlink = 0; named = replicate 8 0; spare = 0 }
