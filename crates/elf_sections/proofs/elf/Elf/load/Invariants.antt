use Rattle.std.proofs.Common.{◌≡◌}
use Rattle.std.specs.Prelude.{slice_get, map, filter}
use Rattle.elf_model.specs.Segments.{is_code, load_of}
use Rattle.elf_sections.proofs.elf.Elf.load.Given as goal

-- Among the segments that are left the wanted one has fewer before it.
abbrev pub invariant-loop-segment : goal.invariant-loop-segment
invariant-loop-segment l =
    slice_get (map load_of (filter is_code l.segment-iterator)) l.before
    ≡ slice_get (map load_of (filter is_code l.initial.segment-iterator)) l.index
