use Rattle.std.proofs.Common.{◌≡◌, ◌++◌}
use Rattle.std.specs.Prelude.{map, filter}
use Rattle.elf_model.specs.Segments.{is_code, load_of}
use Rattle.elf_sections.proofs.program_header.loads_of.Given as goal

-- The segments of code so far, and those among what is left.
abbrev pub invariant-loop-segment : goal.invariant-loop-segment
invariant-loop-segment l =
    l.loads.items ++ map load_of (filter is_code l.segment-iterator)
    ≡ map load_of (filter is_code l.initial.segment-iterator)
