-- The units that the sections tell of.
use Rattle.std.specs.Prelude.{[], Option, None, Some, Ok}
use Rattle.std.specs.Option.{option_map}
use Rattle.byte_view.specs.declared.part.Part.{Part}
use Rattle.placed_view.specs.Reader.{Read, start_of}
use Rattle.unit_model.specs.Units.{Units, no_units, units}

-- The units of `.debug_info`, with the abbreviations in `.debug_abbrev`. Without `.debug_info` there are none.
abbrev pub units_told : Option Part → Option Part → Read Units
units_told None abbrevs = Ok (no_units, record { at = 0; left = [] })
units_told (Some info) abbrevs = units (option_map start_of abbrevs) (start_of info)
