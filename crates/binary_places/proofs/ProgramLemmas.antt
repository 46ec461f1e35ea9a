-- The rest of a section.
use Rattle.std.proofs.Common.{◌≡◌, ◌≤◌, ◌+◌, ◌-◌, ℕ, take, drop, length, ap, arith}
use Rattle.std.proofs.lemmas.List.{length-drop, length-take}
use Rattle.byte_view.specs.declared.part.Part.{Part}
use Rattle.byte_view.specs.Part.{bytes_of_part}
use Rattle.byte_view.specs.Cursor.{Cursor}
use Rattle.placed_view.specs.Reader.{cursor_behind, start_of}
use Rattle.dwarf_info.proofs.PartLemmas.{drop-piece}

-- a piece is whole
pub part_length : (part : Part) → length (bytes_of_part part) ≡ part.len
part_length part =
    let inside = part.inside in
    let taken = length-take part.len (drop part.at part.file.now) in
    let dropped = length-drop part.at part.file.now in
    omega (arith, inside, taken, dropped)

pub rest_starts : (section : Part) (skip : ℕ) → skip ≤ section.len
    → ◌≡◌ {A = Cursor} (record { at = section.at + skip; left = take (section.len - skip) (drop (section.at + skip) section.file.now) }) (cursor_behind skip (start_of section))
rest_starts section skip within =
    ap (λ bs. let c : Cursor = record { at = section.at + skip; left = bs } in c) (drop-piece section.file.now section.at section.len skip within)
