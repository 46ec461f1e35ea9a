-- The ranges of addresses that hold code.
use Rattle.std.specs.Prelude.{ℕ, ◌+◌, Bool, ◌&&◌, ◌==◌, nat_lt, nat_le, List, filter, map, IsTrue}
use Rattle.std.specs.List.{list_any}
use Rattle.load_model.specs.declared.load_segment.LoadSegment.{LoadSegment}
use Rattle.elf_model.specs.Fields.{has_flag}
use Rattle.elf_model.specs.Tables.{ProgramHeader, program_headers}

-- gABI, "Program Header": a PT_LOAD segment with the flag PF_X is loaded and may be executed.
abbrev pub is_code : ProgramHeader → Bool
is_code segment = segment.p_type == 1 && has_flag segment.p_flags 1

-- A segment in memory holds each address from `lo` up to `hi`.
abbrev pub holds : ℕ → ℕ → ProgramHeader → Bool
holds lo hi segment = nat_le segment.p_vaddr lo && nat_le hi (segment.p_vaddr + segment.p_memsz)

-- A range of addresses is live where it does not begin at 0, is not empty, and one segment of code holds it whole.
unfoldable pub is_live : List ℕ → ℕ → ℕ → Bool
is_live file lo hi =
    nat_lt 0 lo && nat_lt lo hi && list_any (λ segment. is_code segment && holds lo hi segment) (program_headers file)

-- The same as a fact.
abbrev pub IsLive : List ℕ → ℕ → ℕ → Type 0
IsLive file lo hi = IsTrue (is_live file lo hi)

-- How a segment is loaded.
abbrev pub load_of : ProgramHeader → LoadSegment
load_of segment = record { offset = segment.p_offset; vaddr = segment.p_vaddr; size = segment.p_memsz }

-- The segments of code as they are loaded, in the order of their headers.
unfoldable pub code_loads : List ℕ → List LoadSegment
code_loads file = map load_of (filter is_code (program_headers file))
