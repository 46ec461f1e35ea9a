-- Cursors at an offset of a section, and the numbers that stand there.
use Rattle.std.proofs.Common.{◌≡◌, ◌<◌, ◌≤◌, ◌+◌, ℕ, List, length, drop, Err, arith, refl, ◌*◌, Option, Some, Bool, true, false}
use Rattle.std.proofs.lemmas.List.{length-drop}
use Rattle.refusal.specs.declared.kind.Kind.TheVariants.{PastSection}
use Rattle.range_model.specs.Texts.{slot}
use Rattle.value_model.specs.Forms.{offset_size}
use Rattle.byte_view.specs.declared.part.Part.{Part}
use Rattle.byte_view.specs.Part.{bytes_of_part}
use Rattle.dwarf_strings.specs.Meaning.{bytes_of}
use Rattle.std.proofs.lemmas.Bool.{lt-ltb, le-ltb}
use Rattle.byte_view.specs.declared.fault.ViewFault.{ViewFault}
use Rattle.byte_view.specs.Reading.{run_at, field_at}

-- as many bytes are passed as there are
pub run_at-fits : (size : ℕ) (bytes : List ℕ) (fault : ViewFault) → size ≤ length bytes → run_at size bytes ≡ Err fault → ⊥
unfolding run_at
run_at-fits size bytes fault there e = let read = rw (le-ltb (length bytes) size there) at e in cc

offset_size-pos : (wide : Bool) → 0 < offset_size wide
offset_size-pos true = omega arith
offset_size-pos false = omega arith

-- a number that begins behind the end of its section
pub slot-past : (base : Option ℕ) (section : Option Part) (wide : Bool) (index from place : ℕ) (part : Part)
    → base ≡ Some from → section ≡ Some part → place ≡ from + index * offset_size wide → length (bytes_of_part part) < place
    → slot base (bytes_of section) (offset_size wide) index ≡ Err PastSection
unfolding field_at
slot-past base section wide index from place part base_is section_is place_is past =
    let len = length-drop (from + index * offset_size wide) (bytes_of_part part) in
    let pos = offset_size-pos wide in
    let short = lt-ltb (length (drop (from + index * offset_size wide) (bytes_of_part part))) (offset_size wide) (omega (arith, len)) in
    rw (base_is, section_is, short) refl
