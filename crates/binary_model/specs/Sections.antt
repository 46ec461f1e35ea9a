-- The sections of debugging information.
use Rattle.std.specs.Prelude.{ℕ, List, [], ◌∷◌, codes, Option}
use Rattle.std.specs.Option.{option_map}
use Rattle.byte_view.specs.Cursor.{Cursor}
use Rattle.elf_model.specs.Sections.{start, bytes_of, section}
use Rattle.range_model.specs.Lists.{Piece, RangeSections}

-- The names that are looked up, in this order.
abbrev pub looked_up : List (List ℕ)
looked_up =
    codes ".debug_abbrev"
    ∷ codes ".debug_info"
    ∷ codes ".debug_line"
    ∷ codes ".debug_str"
    ∷ codes ".debug_line_str"
    ∷ codes ".debug_str_offsets"
    ∷ codes ".debug_addr"
    ∷ codes ".debug_ranges"
    ∷ codes ".debug_rnglists"
    ∷ []

-- Where the section of a name stands, and its bytes; none without such a section.
unfoldable pub section_at : List ℕ → List ℕ → Option Cursor
section_at file name =
    option_map (λ header. record { at = start file header; left = bytes_of file header }) (section file name)

-- A section with its place, as range lists are read.
abbrev pub piece_of : Option Cursor → Option Piece
piece_of place = option_map (λ cur. record { at = cur.at; bytes = cur.left }) place

-- The bytes of a section alone, as texts and addresses are read.
abbrev pub bytes_in : Option Cursor → Option (List ℕ)
bytes_in place = option_map (λ cur. cur.left) place

-- The sections that range lists, texts and addresses stand in.
abbrev pub range_sections : List ℕ → RangeSections
range_sections file = record {
  ranges = piece_of (section_at file (codes ".debug_ranges"));
  rnglists = piece_of (section_at file (codes ".debug_rnglists"));
  texts = record {
    str = bytes_in (section_at file (codes ".debug_str"));
    line_str = bytes_in (section_at file (codes ".debug_line_str"));
    str_offsets = bytes_in (section_at file (codes ".debug_str_offsets"));
    addr = bytes_in (section_at file (codes ".debug_addr"));
  };
}
