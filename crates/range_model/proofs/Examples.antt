-- Texts, addresses and range lists on worked bytes.
use Rattle.std.proofs.Common.{◌≡◌, ℕ, false, true, List, [], ◌∷◌, ◌++◌, None, Some, Ok, Err, refl}
use Rattle.refusal.specs.declared.kind.Kind.TheVariants.{Short, NoNul, PastSection, NoSection, BadRangeEntry, TooManyRanges}
use Rattle.byte_view.specs.Reading.{field_at, text_at, uleb_at}
use Rattle.value_model.specs.Value.{str_at, line_str_at, str_index, addr_index, range_index, const, offset}
use Rattle.range_model.specs.Texts.{Bases, Sections, text_of, address_of}
use Rattle.range_model.specs.Entries.{coded_entry_at, from_base, pair_entry_at, sets_base}
use Rattle.range_model.specs.Lists.{Listed, RangeSections, bad_in_list, bad_range, entry_item, ranges_of}

abbrev zeros : List ℕ
zeros = 0 ∷ 0 ∷ 0 ∷ 0 ∷ 0 ∷ 0 ∷ 0 ∷ 0 ∷ []

abbrev sections : Sections
sections = record {
  str = Some (97 ∷ 98 ∷ 0 ∷ 104 ∷ 105 ∷ 0 ∷ []);
  line_str = None;
  str_offsets = Some (zeros ++ 3 ∷ 0 ∷ 0 ∷ 0 ∷ []);
  addr = Some (zeros ++ 0 ∷ 0x20 ∷ 0x40 ∷ 0 ∷ 0 ∷ 0 ∷ 0 ∷ 0 ∷ []);
}

abbrev bases : Bases
bases = record { wide = false; str_offsets = Some 8; addr = Some 8; rnglists = Some 12 }

a_text_by_index : text_of sections bases (str_index 0) ≡ Ok (104 ∷ 105 ∷ [])
unfolding text_of field_at text_at
a_text_by_index = refl

an_address_by_index : address_of sections bases (addr_index 0) ≡ Ok 0x402000
unfolding address_of field_at
an_address_by_index = refl

past_the_addresses : address_of sections bases (addr_index 1) ≡ Err PastSection
unfolding address_of field_at
past_the_addresses = refl

-- a list of `.debug_rnglists` at its index 0, in a section at place 100
abbrev with_list : List ℕ → RangeSections
with_list list = record {
  ranges = None;
  rnglists = Some (record { at = 100; bytes = zeros ++ 0 ∷ 0 ∷ 0 ∷ 0 ∷ 4 ∷ 0 ∷ 0 ∷ 0 ∷ list });
  texts = sections;
}

abbrev meant : List ℕ → List (ℕ × ℕ)
meant list = ranges_of 5 0x401000 (with_list list) bases (range_index 0)

no_ranges : meant (0 ∷ []) ≡ []
unfolding ranges_of address_of coded_entry_at pair_entry_at field_at uleb_at
no_ranges = refl

from_the_units_base : meant (4 ∷ 0x10 ∷ 0x20 ∷ 0 ∷ []) ≡ (0x401010, 0x401020) ∷ []
unfolding ranges_of address_of coded_entry_at pair_entry_at field_at uleb_at
from_the_units_base = refl

from_an_indexed_base : meant (1 ∷ 0 ∷ 4 ∷ 0x10 ∷ 0x20 ∷ 0 ∷ []) ≡ (0x402010, 0x402020) ∷ []
unfolding ranges_of address_of coded_entry_at pair_entry_at field_at uleb_at
from_an_indexed_base = refl

by_index_and_length : meant (3 ∷ 0 ∷ 0x30 ∷ 0 ∷ []) ≡ (0x402000, 0x402030) ∷ []
unfolding ranges_of address_of coded_entry_at pair_entry_at field_at uleb_at
by_index_and_length = refl

by_start_and_length : meant (7 ∷ 0 ∷ 0x30 ∷ 0x40 ∷ 0 ∷ 0 ∷ 0 ∷ 0 ∷ 0 ∷ 5 ∷ 0 ∷ []) ≡ (0x403000, 0x403005) ∷ []
unfolding ranges_of address_of coded_entry_at pair_entry_at field_at uleb_at
by_start_and_length = refl

an_empty_range : meant (4 ∷ 0x20 ∷ 0x10 ∷ 0 ∷ []) ≡ []
unfolding ranges_of address_of coded_entry_at pair_entry_at field_at uleb_at
an_empty_range = refl

no_code : bad_range 7 5 (with_list (8 ∷ [])) bases (range_index 0) ≡ Some (record { file = 1; at = 116; kind = BadRangeEntry })
unfolding bad_range address_of coded_entry_at pair_entry_at field_at uleb_at
no_code = refl

cut_off : bad_range 7 5 (with_list (0 ∷ 4 ∷ 0x10 ∷ [])) bases (offset 17) ≡ Some (record { file = 1; at = 117; kind = Short })
unfolding bad_range address_of coded_entry_at pair_entry_at field_at uleb_at
cut_off = refl

no_section : bad_range 7 4 (with_list []) bases (offset 0) ≡ Some (record { file = 1; at = 7; kind = NoSection })
unfolding bad_range address_of coded_entry_at pair_entry_at field_at uleb_at
no_section = refl

good : bad_range 7 5 (with_list (4 ∷ 0x10 ∷ 0x20 ∷ 0 ∷ [])) bases (range_index 0) ≡ None
unfolding bad_range address_of coded_entry_at pair_entry_at field_at uleb_at
good = refl

-- the same with two addresses: 0x402000 and 0x402020
abbrev with_two : List ℕ → RangeSections
with_two list = record (with_list list) {
  texts = record sections { addr = Some (zeros ++ 0 ∷ 0x20 ∷ 0x40 ∷ 0 ∷ 0 ∷ 0 ∷ 0 ∷ 0 ∷ 0x20 ∷ 0x20 ∷ 0x40 ∷ 0 ∷ 0 ∷ 0 ∷ 0 ∷ 0 ∷ []) };
}

by_two_indexes : ranges_of 5 0x401000 (with_two (2 ∷ 0 ∷ 1 ∷ 0 ∷ [])) bases (range_index 0) ≡ (0x402000, 0x402020) ∷ []
unfolding ranges_of address_of coded_entry_at pair_entry_at field_at uleb_at
by_two_indexes = refl

from_a_base_that_stands_there : meant (5 ∷ 0 ∷ 0x30 ∷ 0x40 ∷ 0 ∷ 0 ∷ 0 ∷ 0 ∷ 0 ∷ 4 ∷ 0x10 ∷ 0x20 ∷ 0 ∷ []) ≡ (0x403010, 0x403020) ∷ []
unfolding ranges_of address_of coded_entry_at pair_entry_at field_at uleb_at
from_a_base_that_stands_there = refl

by_start_and_end : meant (6 ∷ 0 ∷ 0x30 ∷ 0x40 ∷ 0 ∷ 0 ∷ 0 ∷ 0 ∷ 0 ∷ 5 ∷ 0x30 ∷ 0x40 ∷ 0 ∷ 0 ∷ 0 ∷ 0 ∷ 0 ∷ 0 ∷ []) ≡ (0x403000, 0x403005) ∷ []
unfolding ranges_of address_of coded_entry_at pair_entry_at field_at uleb_at
by_start_and_end = refl

-- sums go round at 2^64
round_the_end : (meant (4 ∷ 0x80 ∷ 0xe0 ∷ 0xff ∷ 0xff ∷ 0xff ∷ 0xff ∷ 0xff ∷ 0xff ∷ 0xff ∷ 1 ∷ 0x10 ∷ 0 ∷ []) ≡ (0x400000, 0x401010) ∷ [])
    × (meant (7 ∷ 0xf0 ∷ 0xff ∷ 0xff ∷ 0xff ∷ 0xff ∷ 0xff ∷ 0xff ∷ 0xff ∷ 0x20 ∷ 0 ∷ []) ≡ [])
unfolding ranges_of address_of coded_entry_at pair_entry_at field_at uleb_at
round_the_end = (refl, refl)

-- all operands of an entry are read before its first index is resolved, and then the first one is tried first
operands_first : (bad_range 7 5 (with_list (2 ∷ 9 ∷ 0x80 ∷ [])) bases (range_index 0) ≡ Some (record { file = 1; at = 116; kind = Short }))
    × (bad_range 7 5 (with_list (2 ∷ 0 ∷ 1 ∷ 8 ∷ [])) bases (range_index 0) ≡ Some (record { file = 1; at = 116; kind = PastSection }))
unfolding bad_range address_of coded_entry_at pair_entry_at field_at uleb_at
operands_first = (refl, refl)

-- pairs, of which the base is 0x401000
abbrev pairs : List ℕ → RangeSections
pairs list = record (with_list []) { ranges = Some (record { at = 200; bytes = list }) }

abbrev meant_by_pairs : List ℕ → List (ℕ × ℕ)
meant_by_pairs list = ranges_of 4 0x401000 (pairs list) bases (offset 0)

abbrev pair : ℕ → ℕ → List ℕ
pair low high = (low ∷ 0 ∷ 0 ∷ 0 ∷ 0 ∷ 0 ∷ 0 ∷ 0 ∷ []) ++ (high ∷ 0 ∷ 0 ∷ 0 ∷ 0 ∷ 0 ∷ 0 ∷ 0 ∷ [])

-- only a pair of zeros ends a list, and what stands behind it is none of it
a_pair_from_0 : (meant_by_pairs (pair 0 0x20 ++ pair 0 0) ≡ (0x401000, 0x401020) ∷ [])
    × (meant_by_pairs (pair 0x20 0 ++ pair 0x10 0x20 ++ pair 0 0 ++ pair 1 2) ≡ (0x401010, 0x401020) ∷ [])
unfolding ranges_of address_of coded_entry_at pair_entry_at field_at uleb_at
a_pair_from_0 = (refl, refl)

a_pair_that_sets_the_base : meant_by_pairs ((0xff ∷ 0xff ∷ 0xff ∷ 0xff ∷ 0xff ∷ 0xff ∷ 0xff ∷ 0xff ∷ 0 ∷ 0x20 ∷ 0x40 ∷ 0 ∷ 0 ∷ 0 ∷ 0 ∷ 0 ∷ []) ++ pair 0x10 0x20 ++ pair 0 0) ≡ (0x402010, 0x402020) ∷ []
unfolding ranges_of address_of coded_entry_at pair_entry_at field_at uleb_at
a_pair_that_sets_the_base = refl

-- a pair that is cut off, and a list that goes on at the end of its section
no_end_of_pairs : (bad_range 7 4 (pairs (pair 1 2 ++ zeros)) bases (offset 0) ≡ Some (record { file = 1; at = 216; kind = Short }))
    × (bad_range 7 4 (pairs (pair 1 2)) bases (offset 17) ≡ Some (record { file = 1; at = 7; kind = PastSection }))
    × (bad_range 7 4 (pairs (pair 1 2)) bases (offset 16) ≡ Some (record { file = 1; at = 216; kind = Short }))
unfolding bad_range address_of coded_entry_at pair_entry_at field_at uleb_at
no_end_of_pairs = (refl, refl, refl)

-- the last entry that a list may have, and one more; one that means nothing is refused for that first
most_entries :
    (entry_item (address_of sections bases) 65535 (record { at = 9; entry = from_base 1 2 }) ≡ None)
    × (entry_item (address_of sections bases) 65536 (record { at = 9; entry = from_base 1 2 }) ≡ Some (record { file = 1; at = 9; kind = TooManyRanges }))
    × (entry_item (address_of sections bases) 65536 (record { at = 9; entry = sets_base (addr_index 1) }) ≡ Some (record { file = 1; at = 9; kind = PastSection }))
unfolding address_of field_at
most_entries = (refl, refl, refl)

-- a range of no address, by an entry of each form
no_address : (meant (4 ∷ 0x10 ∷ 0x10 ∷ 0 ∷ []) ≡ []) × (meant (2 ∷ 0 ∷ 0 ∷ 0 ∷ []) ≡ []) × (meant (3 ∷ 0 ∷ 0 ∷ 0 ∷ []) ≡ [])
unfolding ranges_of address_of coded_entry_at pair_entry_at field_at uleb_at
no_address = (refl, refl, refl)

-- each entry counts, one that sets the base and an empty range too
abbrev three_entries : Listed
three_entries = record {
  entries = record { at = 5; entry = sets_base (addr_index 0) }
      ∷ record { at = 7; entry = from_base 2 1 }
      ∷ record { at = 9; entry = from_base 1 2 }
      ∷ [];
  broken = None;
}

each_entry_counts :
    (bad_in_list (address_of sections bases) 65533 three_entries ≡ None)
    × (bad_in_list (address_of sections bases) 65534 three_entries ≡ Some (record { file = 1; at = 9; kind = TooManyRanges }))
    × (bad_in_list (address_of sections bases) 65535 three_entries ≡ Some (record { file = 1; at = 7; kind = TooManyRanges }))
unfolding address_of field_at
each_entry_counts = (refl, refl, refl)

-- Texts by offset in either section: the end of a section is a place of it, and what stands behind is not.
abbrev with_line_texts : Sections
with_line_texts = record sections { line_str = Some (120 ∷ 0 ∷ []) }

texts_by_offset :
    (text_of with_line_texts bases (str_at 3) ≡ Ok (104 ∷ 105 ∷ [])) × (text_of with_line_texts bases (line_str_at 0) ≡ Ok (120 ∷ []))
    × (text_of with_line_texts bases (str_at 6) ≡ Err NoNul) × (text_of with_line_texts bases (str_at 7) ≡ Err PastSection)
unfolding text_of text_at
texts_by_offset = (refl, refl, refl, refl)

-- In 64-bit DWARF an offset has 8 bytes: the one at index 1 stands 8 bytes further on.
abbrev wide_bases : Bases
wide_bases = record bases { wide = true; str_offsets = Some 0; rnglists = Some 0 }

wide_offsets :
    (text_of (record sections { str_offsets = Some (zeros ++ 3 ∷ 0 ∷ 0 ∷ 0 ∷ 0 ∷ 0 ∷ 0 ∷ 0 ∷ []) }) wide_bases (str_index 1) ≡ Ok (104 ∷ 105 ∷ []))
    × (ranges_of 5 0x401000 (record (with_list []) { rnglists = Some (record { at = 100; bytes = zeros ++ 16 ∷ 0 ∷ 0 ∷ 0 ∷ 0 ∷ 0 ∷ 0 ∷ 0 ∷ 4 ∷ 0x10 ∷ 0x20 ∷ 0 ∷ [] }) }) wide_bases (range_index 1) ≡ (0x401010, 0x401020) ∷ [])
unfolding text_of ranges_of address_of coded_entry_at pair_entry_at field_at text_at uleb_at
wide_offsets = (refl, refl)

-- An offset may be of class constant, as DWARF 3 spells it.
a_list_by_a_constant : ranges_of 4 0x401000 (pairs (pair 0x10 0x20 ++ pair 0 0)) bases (const 0) ≡ (0x401010, 0x401020) ∷ []
unfolding ranges_of address_of coded_entry_at pair_entry_at field_at uleb_at
a_list_by_a_constant = refl
