-- The ranges and pieces of entries in a file with one segment of code, from 0x401000 up to 0x403000.
use Rattle.std.proofs.Common.{◌≡◌, ℕ, ◌-◌, ◌^◌, false, List, [], ◌∷◌, None, Some, Ok, Err, refl}
use Rattle.refusal.specs.declared.kind.Kind.TheVariants.{NoSection, TooManyRanges}
use Rattle.refusal.specs.Place.{in_binary}
use Rattle.byte_view.specs.Reading.{field_at}
use Rattle.value_model.specs.Value.{addr, addr_index, const, offset}
use Rattle.range_model.specs.Texts.{address_of}
use Rattle.range_model.specs.Entries.{coded_entry_at, pair_entry_at}
use Rattle.range_model.specs.Lists.{bad_range, ranges_of}
use Rattle.unit_model.specs.Values.{Found}
use Rattle.unit_model.specs.Entries.{Entry}
use Rattle.elf_model.specs.Fields.{number_at}
use Rattle.elf_model.specs.Segments.{is_live}
use Rattle.tree_model.specs.Pieces.{InUnit, RangesOrPlace, pieces, spelled_ranges}

abbrev file : List ℕ
file =
    127 ∷ 69 ∷ 76 ∷ 70 ∷ 2 ∷ 1 ∷ 1 ∷ 0 ∷ 0 ∷ 0 ∷ 0 ∷ 0 ∷ 0 ∷ 0 ∷ 0 ∷ 0 ∷ 2 ∷ 0 ∷ 62 ∷ 0 ∷
    1 ∷ 0 ∷ 0 ∷ 0 ∷ 0 ∷ 0 ∷ 0 ∷ 0 ∷ 0 ∷ 0 ∷ 0 ∷ 0 ∷ 64 ∷ 0 ∷ 0 ∷ 0 ∷ 0 ∷ 0 ∷ 0 ∷ 0 ∷
    0 ∷ 0 ∷ 0 ∷ 0 ∷ 0 ∷ 0 ∷ 0 ∷ 0 ∷ 0 ∷ 0 ∷ 0 ∷ 0 ∷ 64 ∷ 0 ∷ 56 ∷ 0 ∷ 1 ∷ 0 ∷ 64 ∷ 0 ∷
    0 ∷ 0 ∷ 0 ∷ 0 ∷ 1 ∷ 0 ∷ 0 ∷ 0 ∷ 5 ∷ 0 ∷ 0 ∷ 0 ∷ 0 ∷ 0 ∷ 0 ∷ 0 ∷ 0 ∷ 0 ∷ 0 ∷ 0 ∷
    0 ∷ 16 ∷ 64 ∷ 0 ∷ 0 ∷ 0 ∷ 0 ∷ 0 ∷ 0 ∷ 16 ∷ 64 ∷ 0 ∷ 0 ∷ 0 ∷ 0 ∷ 0 ∷ 0 ∷ 0 ∷ 0 ∷ 0 ∷
    0 ∷ 0 ∷ 0 ∷ 0 ∷ 0 ∷ 32 ∷ 0 ∷ 0 ∷ 0 ∷ 0 ∷ 0 ∷ 0 ∷ 0 ∷ 16 ∷ 0 ∷ 0 ∷ 0 ∷ 0 ∷ 0 ∷ 0 ∷ []

-- two ranges that are counted from the base
abbrev ranges : List ℕ
ranges =
    0 ∷ 16 ∷ 0 ∷ 0 ∷ 0 ∷ 0 ∷ 0 ∷ 0 ∷ 16 ∷ 16 ∷ 0 ∷ 0 ∷ 0 ∷ 0 ∷ 0 ∷ 0 ∷ 0 ∷ 64 ∷ 0 ∷ 0 ∷
    0 ∷ 0 ∷ 0 ∷ 0 ∷ 16 ∷ 64 ∷ 0 ∷ 0 ∷ 0 ∷ 0 ∷ 0 ∷ 0 ∷ 0 ∷ 0 ∷ 0 ∷ 0 ∷ 0 ∷ 0 ∷ 0 ∷ 0 ∷
    0 ∷ 0 ∷ 0 ∷ 0 ∷ 0 ∷ 0 ∷ 0 ∷ 0 ∷ []

abbrev of_unit : InUnit
of_unit = record {
  sections = record {
    ranges = Some (record { at = 500; bytes = ranges });
    rnglists = None;
    texts = record { str = None; line_str = None; str_offsets = None; addr = None };
  };
  version = 4;
  base = 0x400000;
  bases = record { wide = false; str_offsets = None; addr = Some 8; rnglists = None };
}

abbrev entry : List Found → Entry
entry found = record { at = 186; depth = 1; tag = 0x2e; unit = 0; found = found }

abbrev low : Found
low = record { name = 0x11; at = 195; value = addr 0x401000 }

abbrev size : Found
size = record { name = 0x12; at = 203; value = const 0x40 }

abbrev pieces_behind : ℕ → List Found → RangesOrPlace
pieces_behind before found = pieces file of_unit before (entry found)

a_size : pieces_behind 0 (low ∷ size ∷ []) ≡ Ok ((0x401000, 0x401040) ∷ [])
unfolding pieces spelled_ranges address_of is_live number_at
a_size = refl

an_address_before_it : pieces_behind 0 (record { name = 0x12; at = 195; value = addr 0x402000 } ∷ low ∷ [])
    ≡ Ok ((0x401000, 0x402000) ∷ [])
unfolding pieces spelled_ranges address_of is_live number_at
an_address_before_it = refl

no_code_at_0 : pieces_behind 0 (record { name = 0x11; at = 195; value = addr 0 } ∷ size ∷ []) ≡ Ok []
unfolding pieces spelled_ranges address_of is_live number_at
no_code_at_0 = refl

an_end_alone : pieces_behind 0 (size ∷ []) ≡ Ok []
unfolding pieces spelled_ranges address_of is_live number_at
an_end_alone = refl

-- the start is resolved first
a_bad_start : pieces_behind 0
    (record { name = 0x12; at = 195; value = addr_index 0 }
    ∷ record { name = 0x11; at = 203; value = addr_index 1 }
    ∷ [])
    ≡ Err (in_binary 203 NoSection)
unfolding pieces spelled_ranges address_of is_live number_at
a_bad_start = refl

abbrev listed : Found
listed = record { name = 0x55; at = 191; value = offset 0 }

-- a list of ranges counts before a pair, bad as that may be
ranges_of_a_list : spelled_ranges of_unit
    (entry (record { name = 0x11; at = 190; value = addr_index 0 } ∷ size ∷ listed ∷ []))
    ≡ Ok ((0x401000, 0x401010) ∷ (0x404000, 0x404010) ∷ [])
unfolding spelled_ranges bad_range ranges_of address_of pair_entry_at coded_entry_at field_at
ranges_of_a_list = refl

pieces_of_a_list : pieces_behind (2 ^ 26 - 1) (listed ∷ []) ≡ Ok ((0x401000, 0x401010) ∷ [])
unfolding pieces spelled_ranges bad_range ranges_of address_of pair_entry_at coded_entry_at field_at is_live number_at
pieces_of_a_list = refl

one_piece_too_many : pieces_behind (2 ^ 26) (low ∷ size ∷ []) ≡ Err (in_binary 186 TooManyRanges)
unfolding pieces spelled_ranges address_of is_live number_at
one_piece_too_many = refl

no_piece_is_never_too_many : pieces_behind (2 ^ 26) (size ∷ []) ≡ Ok []
unfolding pieces spelled_ranges address_of is_live number_at
no_piece_is_never_too_many = refl

a_start_alone : pieces_behind 0 (low ∷ []) ≡ Ok []
unfolding pieces spelled_ranges address_of is_live number_at
a_start_alone = refl

-- an end that is not above its start, as it is, as a size of 0, or because the sum goes round at 2^64
no_range : (spelled_ranges of_unit (entry (low ∷ record { name = 0x12; at = 203; value = addr 0x401000 } ∷ [])) ≡ Ok [])
    × (spelled_ranges of_unit (entry (low ∷ record { name = 0x12; at = 203; value = const 0 } ∷ [])) ≡ Ok [])
    × (spelled_ranges of_unit (entry (record { name = 0x11; at = 195; value = addr (2 ^ 64 - 16) } ∷ size ∷ [])) ≡ Ok [])
unfolding spelled_ranges address_of
no_range = (refl, refl, refl)

-- a range that goes past the segment is no piece, not even in part
past_the_segment : pieces_behind 0 (low ∷ record { name = 0x12; at = 203; value = const 0x2001 } ∷ []) ≡ Ok []
unfolding pieces spelled_ranges address_of is_live number_at
past_the_segment = refl
