-- The address in a program at which the byte at an offset in its file is loaded.
use Rattle.std.specs.Prelude.{ℕ, ◌+◌, ◌-◌, ◌^◌, Bool, ◌&&◌, nat_le, nat_lt, List, find, Option, Some, None, if◌then◌else◌}
use Rattle.std.specs.Option.{option_and_then}
use Rattle.load_model.specs.declared.load_segment.LoadSegment.{LoadSegment}

-- A segment has an offset where it lies in the segment's size in memory, counted from where the segment begins in the
-- file.
abbrev pub has_offset : ℕ → LoadSegment → Bool
has_offset offset segment = nat_le segment.offset offset && nat_lt offset (segment.offset + segment.size)

-- The address of an offset that a segment has, if it is below 2^64.
abbrev pub address_in : ℕ → LoadSegment → Option ℕ
address_in offset segment =
    let address = segment.vaddr + (offset - segment.offset) in if nat_lt address (2 ^ 64) then Some address else None

-- The address of an offset: in the first segment that has it, and none where no segment does.
unfoldable pub address_of_offset : List LoadSegment → ℕ → Option ℕ
address_of_offset segments offset = option_and_then (address_in offset) (find (has_offset offset) segments)
