-- The bases of two units, of which the second has a root without bases.
use Rattle.std.proofs.Common.{◌≡◌, true, false, List, [], ◌∷◌, None, Some, Ok, Err, refl}
use Rattle.refusal.specs.declared.kind.Kind.TheVariants.{NoBase}
use Rattle.refusal.specs.Place.{in_binary}
use Rattle.byte_view.specs.Reading.{field_at}
use Rattle.value_model.specs.Value.{addr, addr_index, const, offset}
use Rattle.range_model.specs.Texts.{Sections, address_of}
use Rattle.unit_model.specs.Values.{Found}
use Rattle.unit_model.specs.Units.{Units}
use Rattle.tree_model.specs.Bases.{base_address, bases_of_unit, root_of}

-- a root of version 5, a function, and the root of a partial unit in 64-bit DWARF
abbrev three : List Found → List Found → Units
three first second = record {
  units = record { at = 100; end = 150; version = 5; wide = false; first = 0; count = 2 }
      ∷ record { at = 150; end = 170; version = 4; wide = true; first = 2; count = 1 }
      ∷ record { at = 170; end = 180; version = 4; wide = false; first = 3; count = 0 }
      ∷ [];
  entries = record { at = 112; depth = 0; tag = 0x11; unit = 0; found = first }
      ∷ record { at = 130; depth = 1; tag = 0x2e; unit = 0; found = [] }
      ∷ record { at = 160; depth = 0; tag = 0x3c; unit = 1; found = second }
      ∷ [];
  skipped = [];
}

abbrev first : List Found
first = record { name = 0x72; at = 113; value = offset 8 }
    ∷ record { name = 0x73; at = 117; value = const 8 }
    ∷ record { name = 0x74; at = 121; value = offset 12 }
    ∷ record { name = 0x11; at = 125; value = addr_index 0 }
    ∷ []

abbrev second : List Found
second = record { name = 0x11; at = 161; value = addr 0x401000 } ∷ []

abbrev sections : Sections
sections = record {
  str = None;
  line_str = None;
  str_offsets = None;
  addr = Some (0 ∷ 0 ∷ 0 ∷ 0 ∷ 0 ∷ 0 ∷ 0 ∷ 0 ∷ 0 ∷ 0x20 ∷ 0x40 ∷ 0 ∷ 0 ∷ 0 ∷ 0 ∷ 0 ∷ []);
}

bases_by_the_root : bases_of_unit (three first second) 0
    ≡ record { wide = false; str_offsets = Some 8; addr = Some 8; rnglists = Some 12 }
unfolding bases_of_unit root_of
bases_by_the_root = refl

no_bases_of_the_second : bases_of_unit (three first second) 1
    ≡ record { wide = true; str_offsets = None; addr = None; rnglists = None }
unfolding bases_of_unit root_of
no_bases_of_the_second = refl

a_base_address_by_index : base_address sections (three first second) 0 ≡ Ok 0x402000
unfolding base_address bases_of_unit root_of address_of field_at
a_base_address_by_index = refl

a_base_address : base_address sections (three first second) 1 ≡ Ok 0x401000
unfolding base_address bases_of_unit root_of address_of field_at
a_base_address = refl

no_base_address_of_an_empty_unit : base_address sections (three first second) 2 ≡ Ok 0
unfolding base_address bases_of_unit root_of address_of field_at
no_base_address_of_an_empty_unit = refl

abbrev without_base : List Found
without_base = record { name = 0x11; at = 125; value = addr_index 0 } ∷ []

an_index_without_a_base : base_address sections (three without_base second) 0 ≡ Err (in_binary 125 NoBase)
unfolding base_address bases_of_unit root_of address_of field_at
an_index_without_a_base = refl

-- a first entry that is no root says nothing
abbrev without_root : Units
without_root = record (three first second) {
  units = record { at = 100; end = 150; version = 5; wide = false; first = 1; count = 1 } ∷ [];
  entries = record { at = 112; depth = 0; tag = 0x11; unit = 0; found = first }
      ∷ record { at = 130; depth = 0; tag = 0x2e; unit = 0; found = first }
      ∷ [];
}

no_root : (bases_of_unit without_root 0 ≡ record { wide = false; str_offsets = None; addr = None; rnglists = None })
    × (base_address sections without_root 0 ≡ Ok 0)
unfolding base_address bases_of_unit root_of address_of field_at
no_root = (refl, refl)

-- a unit without entries has no root, though that of the next unit stands where its own would
no_root_of_an_empty_unit : root_of (record (three first second) { units = record { at = 140; end = 150; version = 4; wide = false; first = 2; count = 0 } ∷ [] }) 0 ≡ None
unfolding root_of
no_root_of_an_empty_unit = refl
