-- What a cursor passes when a value is read.
use Rattle.std.proofs.Common.{◌≡◌, ◌+◌, ℕ, ℤ, Bool, List, length, Result, Ok, Err, ap, arith}
use Rattle.std.specs.Prelude.{IfOk}
use Rattle.std.proofs.lemmas.List.{length-append}
use Rattle.byte_view.specs.Cursor.{Cursor, Reads}
use Rattle.value_model.specs.Value.{Value}
use Rattle.value_model.specs.Reading.{value_at}
use Rattle.value_model.specs.Spelling.{Spells}
use Rattle.value_model.proofs.Read.{value_at-spelled}
use Rattle.dwarf_forms.specs.declared.value.Value as values
use Rattle.dwarf_forms.specs.declared.value.FormFault.{FormFault}
use Rattle.dwarf_forms.specs.Meaning.{meaning_of, GivesValue}

-- the end of what is left stays where it is
pub end_kept : {X : Type 0} (Spells : List ℕ → X → Type 0) (old new : Cursor) (value : X) → Reads Spells old new value
    → new.at + length new.left ≡ old.at + length old.left
end_kept Spells old new value read = omega (arith, read.passed.at, ap length read.passed.left, length-append read.bytes new.left)

-- what is read as a value was passed, and is spelled so
pub reads_value : (form : ℕ) (implicit : ℤ) (wide : Bool) (old new : Cursor) (value : Value)
    → value_at form implicit wide old.left ≡ Ok (value, new.left) → new.at + length new.left ≡ old.at + length old.left
    → Reads (Spells implicit wide form) old new value
reads_value form implicit wide old new value exact end =
    let begins = value_at-spelled form implicit wide old.left new.left value exact in
    record {
      bytes = begins.front;
      spelled = begins.spelled;
      passed = record {
        left = begins.parts;
        at = omega (arith, end, ap length begins.parts, length-append begins.front new.left);
      };
    }

-- the same of a call that may answer a fault
pub found_from_exact : (form : ℕ) (implicit : ℤ) (wide : Bool) (old new : Cursor) (result : Result (values.Value) FormFault)
    → GivesValue result new.left (value_at form implicit wide old.left) → new.at + length new.left ≡ old.at + length old.left
    → IfOk result (λ value. Reads (Spells implicit wide form) old new (meaning_of value))
found_from_exact form implicit wide old new (Ok value) exact end = reads_value form implicit wide old new (meaning_of value) exact end
found_from_exact form implicit wide old new (Err fault) exact end = tt
