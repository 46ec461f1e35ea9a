-- The sections that the code has found, as the definitions name them.
use Rattle.std.proofs.Common.{◌≡◌, ◌≤◌, ◌^◌, ℕ, List, length, Option, None, Some, Result, Ok, Err, refl, ap, sym, ◌∙◌, arith}
use Rattle.std.specs.Prelude.{codes, IfSome}
use Rattle.std.specs.Option.{option_map}
use Rattle.std.specs.Result.{IsErrAnd}
use Rattle.refusal.specs.declared.place.Place.{Place}
use Rattle.refusal.specs.Place.{Judges}
use Rattle.byte_view.specs.declared.part.Part.{Part}
use Rattle.byte_view.specs.Part.{bytes_of_part}
use Rattle.byte_view.specs.Cursor.{Cursor}
use Rattle.placed_view.specs.Reader.{start_of}
use Rattle.dwarf_info.specs.Told.{units_told}
use Rattle.dwarf_strings.specs.Meaning as texts
use Rattle.dwarf_ranges.specs.Meaning as range_parts
use Rattle.range_model.specs.Lists.{Piece, RangeSections}
use Rattle.elf_model.specs.Sections.{bytes_of, section, start}
use Rattle.elf_model.specs.Tables.{SectionHeader}
use Rattle.elf_sections.specs.Found.{Finds, IsPiece}
use Rattle.binary_model.specs.Sections.{bytes_in, piece_of, range_sections, section_at}
use Rattle.binary_model.specs.Binary.{units_by, units_read}
use Rattle.binary_places.specs.Sections.{IsSection}

piece-same : (found : Option Part) → range_parts.piece_of found ≡ piece_of (option_map start_of found)
piece-same None = refl
piece-same (Some part) = refl

bytes-same : (found : Option Part) → texts.bytes_of found ≡ bytes_in (option_map start_of found)
bytes-same None = refl
bytes-same (Some part) = refl

pub piece-is : (file name : List ℕ) (found : Option Part) → IsSection file name found → range_parts.piece_of found ≡ piece_of (section_at file name)
piece-is file name found is = piece-same found ∙ ap piece_of is.stands

pub bytes-are : (file name : List ℕ) (found : Option Part) → IsSection file name found → texts.bytes_of found ≡ bytes_in (section_at file name)
bytes-are file name found is = bytes-same found ∙ ap bytes_in is.stands

told-in : (info abbrevs : Option Part) → units_told info abbrevs ≡ units_by (option_map start_of info) (option_map start_of abbrevs)
told-in None abbrevs = refl
told-in (Some info) abbrevs = refl

-- The units that are read are those of the file.
pub units-are : (file : List ℕ) (info abbrevs : Option Part) → IsSection file (codes ".debug_info") info → IsSection file (codes ".debug_abbrev") abbrevs
    → units_told info abbrevs ≡ units_read file
unfolding units_read
units-are file info abbrevs is are =
    told-in info abbrevs ∙ ap (λ i. units_by i (option_map start_of abbrevs)) is.stands ∙ ap (λ a. units_by (section_at file (codes ".debug_info")) a) are.stands

-- ---- what a look-up finds

piece-stands : (file : List ℕ) (header : SectionHeader) (part : Part) → IsPiece file header part
    → start_of part ≡ record { at = start file header; left = bytes_of file header }
piece-stands file header part is =
    ap (λ n. let c : Cursor = record { at = n; left = bytes_of_part part } in c) is.at
    ∙ ap (λ bs. let c : Cursor = record { at = start file header; left = bs } in c) is.bytes

piece-small : (file : List ℕ) (header : SectionHeader) (part : Part) → length file ≤ 2 ^ 30 → IsPiece file header part → part.len ≤ 2 ^ 30
piece-small file header part small is =
    let inside = part.inside in
    let same = ap length is.of_file in
    omega (arith, inside, same)

found-by : (file : List ℕ) (header : Option SectionHeader) (found : Option Part) → length file ≤ 2 ^ 30 → Finds file header found
    → (option_map start_of found ≡ option_map (λ header. record { at = start file header; left = bytes_of file header }) header)
    × IfSome found (λ part. part.len ≤ 2 ^ 30)
found-by file None None small finds = (refl, tt)
found-by file None (Some part) small finds = absurd cc
found-by file (Some header) None small finds = absurd finds
found-by file (Some header) (Some part) small finds =
    (ap (λ c. Some c) (piece-stands file header part finds), piece-small file header part small finds)

pub found-is : (file name : List ℕ) (found : Option Part) → length file ≤ 2 ^ 30 → Finds file (section file name) found → IsSection file name found
unfolding section_at
found-is file name found small finds =
    let both = found-by file (section file name) found small finds in record { stands = both.0; small = both.1 }

pub find-judged : (file name : List ℕ) (bad : Option Place) (r : Result (Option Part) Place) → length file ≤ 2 ^ 30
    → Judges bad r (Finds file (section file name)) → Judges bad r (IsSection file name)
find-judged file name bad (Err place) small judged = judged
find-judged file name bad (Ok found) small judged = (judged.0, found-is file name found small judged.1)

-- ---- all sections

-- a refusal is handed on
pub stop : {T : Type 0} (P : T → Type 0) (bad : Option Place) (place : Place) (r : Result T Place) → bad ≡ Some place → IsErrAnd r (λ s. s ≡ place) → Judges bad r P
stop P bad place (Ok x) is stops = absurd stops
stop P bad place (Err other) is stops = is ∙ ap (λ p. Some p) (sym stops)

abbrev sections_by : Option Piece → Option Piece → Option (List ℕ) → Option (List ℕ) → Option (List ℕ) → Option (List ℕ) → RangeSections
sections_by ranges rnglists str line_str str_offsets addr = record {
  ranges = ranges;
  rnglists = rnglists;
  texts = record { str = str; line_str = line_str; str_offsets = str_offsets; addr = addr };
}

pub ranges-are : (file : List ℕ) (ranges rnglists str line_str str_offsets addr : Option Part)
    → IsSection file (codes ".debug_ranges") ranges → IsSection file (codes ".debug_rnglists") rnglists → IsSection file (codes ".debug_str") str
    → IsSection file (codes ".debug_line_str") line_str → IsSection file (codes ".debug_str_offsets") str_offsets → IsSection file (codes ".debug_addr") addr
    → sections_by (range_parts.piece_of ranges) (range_parts.piece_of rnglists) (texts.bytes_of str) (texts.bytes_of line_str) (texts.bytes_of str_offsets) (texts.bytes_of addr)
    ≡ range_sections file
ranges-are file ranges rnglists str line_str str_offsets addr r l s ls so a =
    ap (λ x. sections_by x (range_parts.piece_of rnglists) (texts.bytes_of str) (texts.bytes_of line_str) (texts.bytes_of str_offsets) (texts.bytes_of addr)) (piece-is file (codes ".debug_ranges") ranges r)
    ∙ ap (λ x. sections_by (piece_of (section_at file (codes ".debug_ranges"))) x (texts.bytes_of str) (texts.bytes_of line_str) (texts.bytes_of str_offsets) (texts.bytes_of addr)) (piece-is file (codes ".debug_rnglists") rnglists l)
    ∙ ap (λ x. sections_by (piece_of (section_at file (codes ".debug_ranges"))) (piece_of (section_at file (codes ".debug_rnglists"))) x (texts.bytes_of line_str) (texts.bytes_of str_offsets) (texts.bytes_of addr)) (bytes-are file (codes ".debug_str") str s)
    ∙ ap (λ x. sections_by (piece_of (section_at file (codes ".debug_ranges"))) (piece_of (section_at file (codes ".debug_rnglists"))) (bytes_in (section_at file (codes ".debug_str"))) x (texts.bytes_of str_offsets) (texts.bytes_of addr)) (bytes-are file (codes ".debug_line_str") line_str ls)
    ∙ ap (λ x. sections_by (piece_of (section_at file (codes ".debug_ranges"))) (piece_of (section_at file (codes ".debug_rnglists"))) (bytes_in (section_at file (codes ".debug_str"))) (bytes_in (section_at file (codes ".debug_line_str"))) x (texts.bytes_of addr)) (bytes-are file (codes ".debug_str_offsets") str_offsets so)
    ∙ ap (λ x. sections_by (piece_of (section_at file (codes ".debug_ranges"))) (piece_of (section_at file (codes ".debug_rnglists"))) (bytes_in (section_at file (codes ".debug_str"))) (bytes_in (section_at file (codes ".debug_line_str"))) (bytes_in (section_at file (codes ".debug_str_offsets"))) x) (bytes-are file (codes ".debug_addr") addr a)
