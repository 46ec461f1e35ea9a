-- The definitions on worked values.
use Rattle.std.proofs.Common.{◌≡◌, ℕ, List, [], ◌∷◌, refl, Some, None}
use Rattle.load_model.specs.declared.load_segment.LoadSegment.{LoadSegment}
use Rattle.load_model.specs.Segments.{address_of_offset}

segment : ℕ → ℕ → ℕ → LoadSegment
segment offset vaddr size = record { offset = offset; vaddr = vaddr; size = size }

-- Two segments share the offsets from 0x1800 up to 0x2000, and one goes past the last address.
segments : List LoadSegment
segments = segment 0x1000 0x401000 0x1000 ∷ segment 0x1800 0x602800 0x1000 ∷ segment 0x9000 0xffffffffffffff00 0x200 ∷ []

within : (address_of_offset segments 0x1000 ≡ Some 0x401000) × (address_of_offset segments 0x1fff ≡ Some 0x401fff) × (address_of_offset segments 0x27ff ≡ Some 0x6037ff)
unfolding segments segment address_of_offset
within = (refl, refl, refl)

without : (address_of_offset segments 0xfff ≡ None) × (address_of_offset segments 0x2800 ≡ None) × (address_of_offset [] 0 ≡ None)
unfolding segments segment address_of_offset
without = (refl, refl, refl)

past_the_last_address : (address_of_offset segments 0x90ff ≡ Some 0xffffffffffffffff) × (address_of_offset segments 0x9100 ≡ None)
unfolding segments segment address_of_offset
past_the_last_address = (refl, refl)
