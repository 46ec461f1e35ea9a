-- What attributes are wanted for, as the model names it.
use Rattle.unit_model.specs.Wanted as model
use Rattle.dwarf_info.specs.declared.wanted.Use.{Use}
use Rattle.dwarf_info.specs.declared.wanted.Use.TheVariants.{Text, Place, Address, End, Entry, Number, Ranges, Unused}

abbrev pub purpose_of : Use → model.Use
purpose_of Text = model.as_text
purpose_of Place = model.as_place
purpose_of Address = model.as_address
purpose_of End = model.as_end
purpose_of Entry = model.as_entry
purpose_of Number = model.as_number
purpose_of Ranges = model.as_ranges
purpose_of Unused = model.unused
