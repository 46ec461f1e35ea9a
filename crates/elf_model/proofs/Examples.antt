-- The definitions computed on a small file: one segment of code and, behind header 0, four sections.
use Rattle.std.proofs.Common.{◌≡◌, ℕ, true, false, List, [], ◌∷◌, map, take, set, Option, None, Some, refl}
use Rattle.std.specs.Prelude.{codes}
use Rattle.refusal.specs.declared.kind.Kind.{Kind}
use Rattle.refusal.specs.declared.kind.Kind.TheVariants.{BadHeader, BadType, Compressed, NameBad, NotElf, NotElf64Little, SectionPastEnd}
use Rattle.refusal.specs.declared.place.Place.{Place}
use Rattle.refusal.specs.Place.{first_bad, in_binary}
use Rattle.elf_model.specs.Fields.{number_at}
use Rattle.elf_model.specs.Tables.{section_headers}
use Rattle.elf_model.specs.Sections.{name_of, section, sections, start, file_size}
use Rattle.elf_model.specs.Segments.{code_loads, is_live}
use Rattle.elf_model.specs.Items.{items, lookup_item}

abbrev small_file : List ℕ
small_file =
    127 ∷ 69 ∷ 76 ∷ 70 ∷ 2 ∷ 1 ∷ 1 ∷ 0 ∷ 0 ∷ 0 ∷ 0 ∷ 0 ∷ 0 ∷ 0 ∷ 0 ∷ 0 ∷ 2 ∷ 0 ∷ 62 ∷ 0 ∷
    1 ∷ 0 ∷ 0 ∷ 0 ∷ 0 ∷ 0 ∷ 0 ∷ 0 ∷ 0 ∷ 0 ∷ 0 ∷ 0 ∷ 64 ∷ 0 ∷ 0 ∷ 0 ∷ 0 ∷ 0 ∷ 0 ∷ 0 ∷
    79 ∷ 1 ∷ 0 ∷ 0 ∷ 0 ∷ 0 ∷ 0 ∷ 0 ∷ 0 ∷ 0 ∷ 0 ∷ 0 ∷ 64 ∷ 0 ∷ 56 ∷ 0 ∷ 1 ∷ 0 ∷ 64 ∷ 0 ∷
    5 ∷ 0 ∷ 4 ∷ 0 ∷ 1 ∷ 0 ∷ 0 ∷ 0 ∷ 5 ∷ 0 ∷ 0 ∷ 0 ∷ 0 ∷ 0 ∷ 0 ∷ 0 ∷ 0 ∷ 0 ∷ 0 ∷ 0 ∷
    0 ∷ 16 ∷ 64 ∷ 0 ∷ 0 ∷ 0 ∷ 0 ∷ 0 ∷ 0 ∷ 16 ∷ 64 ∷ 0 ∷ 0 ∷ 0 ∷ 0 ∷ 0 ∷ 0 ∷ 0 ∷ 0 ∷ 0 ∷
    0 ∷ 0 ∷ 0 ∷ 0 ∷ 64 ∷ 0 ∷ 0 ∷ 0 ∷ 0 ∷ 0 ∷ 0 ∷ 0 ∷ 0 ∷ 16 ∷ 0 ∷ 0 ∷ 0 ∷ 0 ∷ 0 ∷ 0 ∷
    1 ∷ 17 ∷ 1 ∷ 16 ∷ 23 ∷ 0 ∷ 0 ∷ 2 ∷ 46 ∷ 0 ∷ 3 ∷ 8 ∷ 59 ∷ 11 ∷ 0 ∷ 0 ∷ 3 ∷ 46 ∷ 1 ∷ 3 ∷
    8 ∷ 59 ∷ 5 ∷ 17 ∷ 1 ∷ 18 ∷ 6 ∷ 0 ∷ 0 ∷ 4 ∷ 29 ∷ 0 ∷ 49 ∷ 19 ∷ 17 ∷ 1 ∷ 18 ∷ 6 ∷ 89 ∷ 5 ∷
    182 ∷ 66 ∷ 11 ∷ 0 ∷ 0 ∷ 0 ∷ 59 ∷ 0 ∷ 0 ∷ 0 ∷ 4 ∷ 0 ∷ 0 ∷ 0 ∷ 0 ∷ 0 ∷ 8 ∷ 1 ∷ 0 ∷ 0 ∷
    0 ∷ 0 ∷ 2 ∷ 103 ∷ 0 ∷ 5 ∷ 3 ∷ 102 ∷ 48 ∷ 48 ∷ 48 ∷ 48 ∷ 0 ∷ 10 ∷ 0 ∷ 0 ∷ 16 ∷ 64 ∷ 0 ∷ 0 ∷
    0 ∷ 0 ∷ 0 ∷ 64 ∷ 0 ∷ 0 ∷ 0 ∷ 4 ∷ 16 ∷ 0 ∷ 0 ∷ 0 ∷ 16 ∷ 16 ∷ 64 ∷ 0 ∷ 0 ∷ 0 ∷ 0 ∷ 0 ∷
    16 ∷ 0 ∷ 0 ∷ 0 ∷ 12 ∷ 0 ∷ 1 ∷ 0 ∷ 0 ∷ 53 ∷ 0 ∷ 0 ∷ 0 ∷ 4 ∷ 0 ∷ 20 ∷ 0 ∷ 0 ∷ 0 ∷ 1 ∷
    1 ∷ 1 ∷ 251 ∷ 14 ∷ 13 ∷ 0 ∷ 1 ∷ 1 ∷ 1 ∷ 1 ∷ 0 ∷ 0 ∷ 0 ∷ 1 ∷ 0 ∷ 0 ∷ 1 ∷ 0 ∷ 0 ∷ 0 ∷
    9 ∷ 2 ∷ 0 ∷ 16 ∷ 64 ∷ 0 ∷ 0 ∷ 0 ∷ 0 ∷ 0 ∷ 3 ∷ 9 ∷ 1 ∷ 131 ∷ 125 ∷ 0 ∷ 2 ∷ 4 ∷ 2 ∷ 248 ∷
    243 ∷ 2 ∷ 16 ∷ 0 ∷ 1 ∷ 1 ∷ 0 ∷ 46 ∷ 100 ∷ 101 ∷ 98 ∷ 117 ∷ 103 ∷ 95 ∷ 97 ∷ 98 ∷ 98 ∷ 114 ∷ 101 ∷ 118 ∷
    0 ∷ 46 ∷ 100 ∷ 101 ∷ 98 ∷ 117 ∷ 103 ∷ 95 ∷ 105 ∷ 110 ∷ 102 ∷ 111 ∷ 0 ∷ 46 ∷ 100 ∷ 101 ∷ 98 ∷ 117 ∷ 103 ∷ 95 ∷
    108 ∷ 105 ∷ 110 ∷ 101 ∷ 0 ∷ 46 ∷ 115 ∷ 104 ∷ 115 ∷ 116 ∷ 114 ∷ 116 ∷ 97 ∷ 98 ∷ 0 ∷ 0 ∷ 0 ∷ 0 ∷ 0 ∷ 0 ∷
    0 ∷ 0 ∷ 0 ∷ 0 ∷ 0 ∷ 0 ∷ 0 ∷ 0 ∷ 0 ∷ 0 ∷ 0 ∷ 0 ∷ 0 ∷ 0 ∷ 0 ∷ 0 ∷ 0 ∷ 0 ∷ 0 ∷ 0 ∷
    0 ∷ 0 ∷ 0 ∷ 0 ∷ 0 ∷ 0 ∷ 0 ∷ 0 ∷ 0 ∷ 0 ∷ 0 ∷ 0 ∷ 0 ∷ 0 ∷ 0 ∷ 0 ∷ 0 ∷ 0 ∷ 0 ∷ 0 ∷
    0 ∷ 0 ∷ 0 ∷ 0 ∷ 0 ∷ 0 ∷ 0 ∷ 0 ∷ 0 ∷ 0 ∷ 0 ∷ 0 ∷ 0 ∷ 0 ∷ 0 ∷ 0 ∷ 0 ∷ 0 ∷ 0 ∷ 1 ∷
    0 ∷ 0 ∷ 0 ∷ 1 ∷ 0 ∷ 0 ∷ 0 ∷ 0 ∷ 0 ∷ 0 ∷ 0 ∷ 0 ∷ 0 ∷ 0 ∷ 0 ∷ 0 ∷ 0 ∷ 0 ∷ 0 ∷ 0 ∷
    0 ∷ 0 ∷ 0 ∷ 120 ∷ 0 ∷ 0 ∷ 0 ∷ 0 ∷ 0 ∷ 0 ∷ 0 ∷ 46 ∷ 0 ∷ 0 ∷ 0 ∷ 0 ∷ 0 ∷ 0 ∷ 0 ∷ 0 ∷
    0 ∷ 0 ∷ 0 ∷ 0 ∷ 0 ∷ 0 ∷ 0 ∷ 1 ∷ 0 ∷ 0 ∷ 0 ∷ 0 ∷ 0 ∷ 0 ∷ 0 ∷ 0 ∷ 0 ∷ 0 ∷ 0 ∷ 0 ∷
    0 ∷ 0 ∷ 0 ∷ 15 ∷ 0 ∷ 0 ∷ 0 ∷ 1 ∷ 0 ∷ 0 ∷ 0 ∷ 0 ∷ 0 ∷ 0 ∷ 0 ∷ 0 ∷ 0 ∷ 0 ∷ 0 ∷ 0 ∷
    0 ∷ 0 ∷ 0 ∷ 0 ∷ 0 ∷ 0 ∷ 0 ∷ 166 ∷ 0 ∷ 0 ∷ 0 ∷ 0 ∷ 0 ∷ 0 ∷ 0 ∷ 63 ∷ 0 ∷ 0 ∷ 0 ∷ 0 ∷
    0 ∷ 0 ∷ 0 ∷ 0 ∷ 0 ∷ 0 ∷ 0 ∷ 0 ∷ 0 ∷ 0 ∷ 0 ∷ 1 ∷ 0 ∷ 0 ∷ 0 ∷ 0 ∷ 0 ∷ 0 ∷ 0 ∷ 0 ∷
    0 ∷ 0 ∷ 0 ∷ 0 ∷ 0 ∷ 0 ∷ 0 ∷ 27 ∷ 0 ∷ 0 ∷ 0 ∷ 1 ∷ 0 ∷ 0 ∷ 0 ∷ 0 ∷ 0 ∷ 0 ∷ 0 ∷ 0 ∷
    0 ∷ 0 ∷ 0 ∷ 0 ∷ 0 ∷ 0 ∷ 0 ∷ 0 ∷ 0 ∷ 0 ∷ 0 ∷ 229 ∷ 0 ∷ 0 ∷ 0 ∷ 0 ∷ 0 ∷ 0 ∷ 0 ∷ 57 ∷
    0 ∷ 0 ∷ 0 ∷ 0 ∷ 0 ∷ 0 ∷ 0 ∷ 0 ∷ 0 ∷ 0 ∷ 0 ∷ 0 ∷ 0 ∷ 0 ∷ 0 ∷ 1 ∷ 0 ∷ 0 ∷ 0 ∷ 0 ∷
    0 ∷ 0 ∷ 0 ∷ 0 ∷ 0 ∷ 0 ∷ 0 ∷ 0 ∷ 0 ∷ 0 ∷ 0 ∷ 39 ∷ 0 ∷ 0 ∷ 0 ∷ 3 ∷ 0 ∷ 0 ∷ 0 ∷ 0 ∷
    0 ∷ 0 ∷ 0 ∷ 0 ∷ 0 ∷ 0 ∷ 0 ∷ 0 ∷ 0 ∷ 0 ∷ 0 ∷ 0 ∷ 0 ∷ 0 ∷ 0 ∷ 30 ∷ 1 ∷ 0 ∷ 0 ∷ 0 ∷
    0 ∷ 0 ∷ 0 ∷ 49 ∷ 0 ∷ 0 ∷ 0 ∷ 0 ∷ 0 ∷ 0 ∷ 0 ∷ 0 ∷ 0 ∷ 0 ∷ 0 ∷ 0 ∷ 0 ∷ 0 ∷ 0 ∷ 1 ∷
    0 ∷ 0 ∷ 0 ∷ 0 ∷ 0 ∷ 0 ∷ 0 ∷ 0 ∷ 0 ∷ 0 ∷ 0 ∷ 0 ∷ 0 ∷ 0 ∷ 0 ∷ []

no_bad_place : first_bad (items small_file) ≡ None
unfolding number_at section items lookup_item is_live
no_bad_place = refl

five_headers : map (λ h. h.at) (section_headers small_file) ≡ 335 ∷ 399 ∷ 463 ∷ 527 ∷ 591 ∷ []
unfolding number_at section items lookup_item is_live
five_headers = refl

the_names : map (name_of small_file) (sections small_file)
    ≡ Some (codes ".debug_abbrev") ∷ Some (codes ".debug_info") ∷ Some (codes ".debug_line") ∷ Some (codes ".shstrtab") ∷ []
unfolding number_at section items lookup_item is_live
the_names = refl

the_extents : map (λ h. h.sh_offset) (sections small_file) ≡ 120 ∷ 166 ∷ 229 ∷ 286 ∷ []
unfolding number_at section items lookup_item is_live
the_extents = refl

cut_file : first_bad (items (take 400 small_file)) ≡ Some (record { file = 1; at = 40; kind = BadHeader })
unfolding number_at section items lookup_item is_live
cut_file = refl

nothing_compressed : lookup_item small_file (codes ".debug_info") ≡ None
unfolding number_at section items lookup_item is_live
nothing_compressed = refl

compressed_bytes : lookup_item (set small_file 472 8) (codes ".debug_info")
    ≡ Some (record { file = 1; at = 463; kind = Compressed })
unfolding number_at section items lookup_item is_live
compressed_bytes = refl

missing : section small_file (codes ".debug_str") ≡ None
unfolding number_at section items lookup_item is_live
missing = refl

live : is_live small_file 0x401000 0x401040 ≡ true
unfolding number_at section items lookup_item is_live
live = refl

not_live : map (λ hi. is_live small_file 0x401000 hi) (0x401000 ∷ 0x401041 ∷ []) ≡ false ∷ false ∷ []
unfolding number_at section items lookup_item is_live
not_live = refl

-- the count and the index of the names stand in header 0
abbrev escaped_file : List ℕ
escaped_file = set (set (set (set (set small_file 60 0) 367 5) 62 255) 63 255) 375 4

escaped : first_bad (items escaped_file) ≡ None
unfolding number_at section items lookup_item is_live
escaped = refl

escaped_names : map (name_of escaped_file) (sections escaped_file) ≡ map (name_of small_file) (sections small_file)
unfolding number_at section items lookup_item is_live
escaped_names = refl

-- without an index of the names all names are empty
nameless : map (name_of (set small_file 62 0)) (sections (set small_file 62 0)) ≡ Some [] ∷ Some [] ∷ Some [] ∷ Some [] ∷ []
unfolding number_at section items lookup_item is_live
nameless = refl

-- a section without bytes in the file may name any offset and size
no_bytes : map {B = ℕ × ℕ} (λ h. (start small_file h, file_size h)) (sections (set (set (set small_file 467 8) 488 255) 496 255))
    ≡ (120, 46) ∷ (655, 0) ∷ (229, 57) ∷ (286, 49) ∷ []
unfolding number_at section items lookup_item is_live
no_bytes = refl

-- of two sections of one name the first is meant
twins : section (set small_file 527 15) (codes ".debug_info") ≡ section small_file (codes ".debug_info")
unfolding number_at section items lookup_item is_live
twins = refl

-- The file with other bytes, each by its place.
abbrev changed : List (ℕ × ℕ) → List ℕ
changed [] = small_file
changed (change ∷ more) = set (changed more) change.0 change.1

abbrev places : List ℕ → List ℕ
places file = map (λ h. h.at) (sections file)

-- header 0 is no section, whatever its type and its name say
header_0_is_no_section : (places (changed ((335, 15) ∷ (339, 1) ∷ [])) ≡ 399 ∷ 463 ∷ 527 ∷ 591 ∷ [])
    × (section (changed ((335, 15) ∷ (339, 1) ∷ [])) (codes ".debug_info") ≡ section small_file (codes ".debug_info"))
    × (first_bad (items (changed ((335, 255) ∷ (339, 1) ∷ (367, 255) ∷ (374, 255) ∷ []))) ≡ None)
unfolding number_at section items lookup_item is_live
header_0_is_no_section = (refl, refl, refl)

-- nor is a header of type 0, of which neither name nor extent is judged
a_header_of_type_0 : (places (changed ((467, 0) ∷ [])) ≡ 399 ∷ 527 ∷ 591 ∷ [])
    × (first_bad (items (changed ((467, 0) ∷ (463, 255) ∷ (494, 255) ∷ []))) ≡ None)
unfolding number_at section items lookup_item is_live
a_header_of_type_0 = (refl, refl)

abbrev bad_with : List (ℕ × ℕ) → Option Place
bad_with changes = first_bad (items (changed changes))

abbrev bad : ℕ → Kind → Option Place
bad at kind = Some (in_binary at kind)

-- each cause of the file header, and with it the next one in order
header_in_order :
    map bad_with (
    ((0, 0) ∷ (4, 1) ∷ []) ∷ ((4, 1) ∷ (16, 1) ∷ []) ∷ ((5, 2) ∷ []) ∷ ((16, 1) ∷ (56, 255) ∷ (57, 255) ∷ [])
    ∷ ((56, 255) ∷ (57, 255) ∷ (54, 55) ∷ []) ∷ ((54, 55) ∷ (33, 255) ∷ []) ∷ ((33, 255) ∷ (58, 63) ∷ [])
    ∷ ((58, 63) ∷ (41, 255) ∷ []) ∷ ((41, 255) ∷ (62, 5) ∷ []) ∷ ((62, 5) ∷ (622, 255) ∷ []) ∷ [])
    ≡ bad 0 NotElf ∷ bad 4 NotElf64Little ∷ bad 4 NotElf64Little ∷ bad 16 BadType
    ∷ bad 56 BadHeader ∷ bad 54 BadHeader ∷ bad 32 BadHeader
    ∷ bad 58 BadHeader ∷ bad 40 BadHeader ∷ bad 62 BadHeader ∷ []
unfolding number_at section items lookup_item is_live
header_in_order = refl

-- the extent of the names first of all, then at each header its extent before its name
sections_in_order :
    map bad_with (
    ((622, 255) ∷ (430, 255) ∷ []) ∷ ((430, 255) ∷ (399, 255) ∷ []) ∷ ((399, 255) ∷ (494, 255) ∷ []) ∷ ((494, 255) ∷ (591, 255) ∷ []) ∷ [])
    ≡ bad 591 SectionPastEnd ∷ bad 399 SectionPastEnd ∷ bad 399 NameBad ∷ bad 463 SectionPastEnd ∷ []
unfolding number_at section items lookup_item is_live
sections_in_order = refl

-- a section may end where the file does, and no byte behind it
up_to_the_end : map bad_with (((431, 0x17) ∷ (432, 2) ∷ []) ∷ ((431, 0x18) ∷ (432, 2) ∷ []) ∷ []) ≡ None ∷ bad 399 SectionPastEnd ∷ []
unfolding number_at section items lookup_item is_live
up_to_the_end = refl

-- a section without bytes is compressed all the same, and one without the flag is not
compressed_without_bytes : map (λ changes. lookup_item (changed changes) (codes ".debug_info"))
    (((467, 8) ∷ (472, 8) ∷ []) ∷ ((472, 4) ∷ []) ∷ ((471, 255) ∷ (472, 0xf7) ∷ []) ∷ [])
    ≡ bad 463 Compressed ∷ None ∷ None ∷ []
unfolding number_at section items lookup_item is_live
compressed_without_bytes = refl

-- a segment is code where it is loaded and may be executed, and the range does not begin at 0
only_code_is_live : map (λ changes. is_live (changed changes) 0x401000 0x401040) (((64, 2) ∷ []) ∷ ((68, 6) ∷ []) ∷ ((68, 1) ∷ []) ∷ [])
    ≡ false ∷ false ∷ true ∷ []
unfolding number_at section items lookup_item is_live
only_code_is_live = refl

not_at_0 : map (λ lo. is_live (changed ((81, 0) ∷ (82, 0) ∷ [])) lo 0x40) (0 ∷ 1 ∷ []) ≡ false ∷ true ∷ []
unfolding number_at section items lookup_item is_live
not_at_0 = refl

segments_of_code : (code_loads (changed ((72, 16) ∷ (104, 0) ∷ (105, 2) ∷ [])) ≡ record { offset = 16; vaddr = 0x401000; size = 0x200 } ∷ [])
    × (code_loads (changed ((68, 6) ∷ [])) ≡ [])
unfolding number_at section items lookup_item is_live code_loads
segments_of_code = (refl, refl)

-- Without section headers there is no section, and without program headers their size says nothing. Their place does.
without_tables : (first_bad (items (changed ((40, 0) ∷ (41, 0) ∷ (58, 0) ∷ (62, 9) ∷ []))) ≡ None)
    × (sections (changed ((40, 0) ∷ (41, 0) ∷ [])) ≡ [])
    × (map bad_with (((56, 0) ∷ (54, 0) ∷ []) ∷ ((56, 0) ∷ (33, 255) ∷ []) ∷ []) ≡ None ∷ bad 32 BadHeader ∷ [])
unfolding number_at section items lookup_item is_live
without_tables = (refl, refl, refl)

-- A count in header 0 needs that header within the file, and a count of 0 has no header for the names.
a_count_in_header_0 : map bad_with (((60, 0) ∷ (40, 0x50) ∷ (41, 2) ∷ []) ∷ ((60, 0) ∷ (62, 0) ∷ []) ∷ ((60, 0) ∷ (367, 6) ∷ []) ∷ [])
    ≡ bad 40 BadHeader ∷ bad 62 BadHeader ∷ bad 40 BadHeader ∷ []
unfolding number_at section items lookup_item is_live
a_count_in_header_0 = refl

-- Header 0 alone, which has the count, may end where the file does; and flags are no part of a type.
at_the_end : map bad_with (
    ((60, 0) ∷ (62, 0) ∷ (40, 0x4f) ∷ (41, 2) ∷ (623, 1) ∷ [])
    ∷ ((467, 8) ∷ (471, 1) ∷ (494, 255) ∷ []) ∷ [])
    ≡ None ∷ None ∷ []
unfolding number_at section items lookup_item is_live
at_the_end = refl
