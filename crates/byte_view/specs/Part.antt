use Rattle.std.specs.Prelude.{ℕ, List, take, drop}
use Rattle.byte_view.specs.declared.part.Part.{Part}

-- The bytes of a piece: as many of the file's bytes as the piece is long, from its place on.
abbrev pub bytes_of_part : Part → List ℕ
bytes_of_part part = take part.len (drop part.at part.file.now)
