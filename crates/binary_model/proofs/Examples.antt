-- The definitions on worked values.
use Rattle.std.proofs.Common.{◌≡◌, ℕ, List, [], ◌∷◌, Option, None, Some, refl, true, false}
use Rattle.std.specs.Prelude.{codes, ◌++◌, ◌+◌, length, replicate, take}
use Rattle.std.specs.Int.{w32, w64, to_le_bytes}
use Rattle.std.specs.List.{flat_map}
use Rattle.elf_model.specs.Fields.{number_at}
use Rattle.elf_model.specs.Sections.{section}
use Rattle.binary_model.specs.Sections.{looked_up, range_sections, section_at}
use Rattle.line_model.specs.declared.row.Row.{Row}
use Rattle.line_model.specs.Rows.{Sequence}
use Rattle.tree_model.specs.Members.{Told}
use Rattle.profile_model.specs.Ways.{to_body, to_call, to_function}
use Rattle.binary_model.specs.Places.{at_way, nameless, no_line, outside, place_among}

row_at : ℕ → ℕ → ℕ → Row
row_at address line disc = record { address = address; line = line; disc = disc; ends = false }

-- one sequence, of a unit that stands behind one without a line program
tables : List (Option (List Sequence))
tables = None ∷ Some (record { rows = row_at 0x10 12 0 ∷ row_at 0x14 6 2 ∷ row_at 0x1c 0 0 ∷ []; end = row_at 0x30 0 0 } ∷ []) ∷ []

member : ℕ → ℕ → Option (List ℕ) → ℕ → ℕ → ℕ → ℕ → ℕ → Told
member depth unit name start line disc lo hi =
    record { depth = depth; unit = unit; name = name; start = start; line = line; disc = disc; pieces = (lo, hi) ∷ [] }

-- a function with a call of `g` and one without a name, and a function whose unit has no rows
members : List Told
members =
    member 0 1 (Some (codes "f")) 10 0 0 0x10 0x20
    ∷ member 1 1 (Some (codes "g")) 5 12 1 0x14 0x18
    ∷ member 1 1 None 5 13 0 0x18 0x1a
    ∷ member 0 0 (Some (codes "h")) 1 0 0 0x20 0x30
    ∷ []

places : (place_among tables false members 0x10 ≡ at_way (to_function (codes "f") ∷ to_body 2 0 ∷ []))
    × (place_among tables false members 0x17 ≡ at_way (to_function (codes "f") ∷ to_call 2 1 (codes "g") ∷ to_body 1 2 ∷ []))
    × (place_among tables true members 0x17 ≡ at_way (to_function (codes "f") ∷ to_call 2 0 (codes "g") ∷ to_body 1 1 ∷ []))
    × (place_among tables false members 0x18 ≡ nameless)
    × (place_among tables false members 0x1a ≡ at_way (to_function (codes "f") ∷ to_body 65532 2 ∷ []))
    × (place_among tables false members 0x1c ≡ no_line)
    × (place_among tables false members 0x20 ≡ no_line)
    × (place_among tables false members 0x30 ≡ outside)
unfolding row_at tables member members place_among
places = (refl, refl, refl, refl, refl, refl, refl, refl)

-- A file of nothing but sections: of one byte each, 1 to 9, those that are looked up, and last their names.
abbrev section_names : List (List ℕ)
section_names = [] ∷ (looked_up ++ codes ".shstrtab" ∷ [])

abbrev with_nul : List ℕ → List ℕ
with_nul text = text ++ 0 ∷ []

abbrev name_bytes : List ℕ
name_bytes = flat_map with_nul section_names

section_header : ℕ → ℕ → ℕ → List ℕ
section_header number at size =
    to_le_bytes w32 (length (flat_map with_nul (take number section_names))) ++ to_le_bytes w32 1 ++ replicate 16 0
    ++ to_le_bytes w64 at ++ to_le_bytes w64 size ++ replicate 24 0

nine_sections : List ℕ
unfolding section_header
nine_sections =
    0x7f ∷ codes "ELF" ++ 2 ∷ 1 ∷ 1 ∷ [] ++ replicate 9 0 ++ 2 ∷ 0 ∷ 62 ∷ 0 ∷ 1 ∷ 0 ∷ 0 ∷ 0 ∷ [] ++ replicate 16 0
    ++ to_le_bytes w64 (73 + length name_bytes) ++ replicate 4 0 ++ 64 ∷ 0 ∷ 56 ∷ 0 ∷ 0 ∷ 0 ∷ 64 ∷ 0 ∷ 11 ∷ 0 ∷ 10 ∷ 0 ∷ []
    ++ 1 ∷ 2 ∷ 3 ∷ 4 ∷ 5 ∷ 6 ∷ 7 ∷ 8 ∷ 9 ∷ [] ++ name_bytes ++ replicate 64 0
    ++ flat_map (λ n. section_header n (63 + n) 1) (1 ∷ 2 ∷ 3 ∷ 4 ∷ 5 ∷ 6 ∷ 7 ∷ 8 ∷ 9 ∷ []) ++ section_header 10 73 (length name_bytes)

each_by_its_name : range_sections nine_sections ≡ record {
  ranges = Some (record { at = 71; bytes = 8 ∷ [] });
  rnglists = Some (record { at = 72; bytes = 9 ∷ [] });
  texts = record { str = Some (4 ∷ []); line_str = Some (5 ∷ []); str_offsets = Some (6 ∷ []); addr = Some (7 ∷ []) };
}
unfolding nine_sections section_header section_at section number_at
each_by_its_name = refl
