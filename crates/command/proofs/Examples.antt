-- There are accepted commands, from the shortest to the longest, and allowed records: computed.
use mathlib.Core.Path.{◌≡◌, refl}
use lib.ListN.{length}
use Rattle.text.specs.Equal.{same_bytes}
use Rattle.text.specs.Names.{allowed, all_allowed}
use Rattle.field.specs.Decimal.{all_digits, value_from, digits_before}
use Rattle.field.specs.Fields.{check_digits, check_delimiter, check_airfield, repeat}
use Rattle.field.specs.Boxes.{edge_at, check_edge, edge_text, line_of, region_at, check_pair, check_box, region_text}
use Rattle.lists.specs.Lists.{check_list, airfields_at, airfields_text, regions_at, boxes_at, regions_text, boxes_text}
use Rattle.section.specs.Layout.{layout_of, table_of, check_items, items_size, items_most}
use Rattle.section.specs.Contents.{contents_at, contents_text}
use Rattle.settings.specs.Settings.{contents_of, fixed_hold, settings_from, regions_from, airports_from, enroute_from, ascent_from, hours_from}
use Rattle.command.specs.Text.{check_each, check_awr04, check_head, check_from, sections_most, longest, check_command}
use Rattle.command.specs.Record.{command_of, no_command, read_command, section_text, sections_text, command_text}
use Rattle.settings.specs.Valid.{no_settings}
use Rattle.command.specs.Sections.{place_from}
use Rattle.command.specs.Allowed.{every, allowed_box, allowed_section, zero_section, allowed_command}
use Rattle.command.specs.Examples.{longest_text, examples, AllReadBack}

-- each example is accepted, reads to an allowed record, and is written back
pub examples-read : AllReadBack examples
unfolding examples longest_text check_command sections_most items_most check_head check_awr04 same_bytes check_each check_delimiter check_from check_items layout_of table_of items_size check_digits all_digits value_from check_list repeat check_airfield all_allowed allowed check_box check_pair check_edge edge_at line_of read_command command_of no_command no_settings settings_from place_from contents_at airfields_at boxes_at regions_at region_at regions_from airports_from enroute_from ascent_from hours_from allowed_command every allowed_section zero_section allowed_box command_text sections_text section_text contents_of fixed_hold contents_text digits_before airfields_text boxes_text regions_text region_text edge_text
examples-read =
    ((refl, refl, refl, refl), ((refl, refl, refl, refl), ((refl, refl, refl, refl), ((refl, refl, refl, refl), ((refl, refl, refl, refl), ((refl, refl, refl, refl), tt))))))

-- the longest command has as many bytes as any may have
pub longest-text : length longest_text ≡ longest
unfolding longest_text
longest-text = refl
