-- What a cursor read, as a reader reads it.
use Rattle.std.proofs.Common.{◌≡◌, ℕ, ◌+◌, ◌-◌, ◌<◌, ℤ, List, [], ◌∷◌, length, Ok, Err, ap, ◌∙◌, arith}
use Rattle.std.proofs.lemmas.List.{length-append}
use Rattle.byte_view.specs.declared.fault.ViewFault.{ViewFault}
use Rattle.byte_view.specs.Cursor.{Cursor, Passes, Reads}
use Rattle.byte_view.specs.Reading.{Reading, SpellsField, SpellsUleb, SpellsSleb, field_at, uleb_at, sleb_at}
use Rattle.byte_view.specs.Leb.{IsLeb}
use Rattle.refusal.specs.Place.{in_binary}
use Rattle.placed_view.specs.Reader.{placed, field, uleb, sleb, kind_of}

pub cursor_is : (old new : Cursor) (bytes : List ℕ) → Passes old new bytes → ◌≡◌ {A = Cursor} (record { at = old.at + (length old.left - length new.left); left = new.left }) new
cursor_is old new bytes passes =
    let e : old.at + (length old.left - length new.left) ≡ new.at = omega (arith, passes.at, ap length passes.left, length-append bytes new.left) in
    ap (λ (n : ℕ). record { at = n; left = new.left }) e

placed-ok : {X : Type 0} (Spells : List ℕ → X → Type 0) (reading : List ℕ → Reading X) (old new : Cursor) (x : X) → Reads Spells old new x → reading old.left ≡ Ok (x, new.left)
    → placed old (reading old.left) ≡ Ok (x, new)
placed-ok {X} Spells reading old new x reads e =
    ap (placed old) e ∙ ap (λ (c : Cursor). Ok (x, c)) (cursor_is old new reads.bytes reads.passed)

pub field-ok : (size : ℕ) (old new : Cursor) (x : ℕ) → Reads (SpellsField size) old new x → field_at size old.left ≡ Ok (x, new.left) → field size old ≡ Ok (x, new)
unfolding field
field-ok size old new x reads e = placed-ok (SpellsField size) (field_at size) old new x reads e

pub field-err : (size : ℕ) (old : Cursor) (fault : ViewFault) → field_at size old.left ≡ Err fault → field size old ≡ Err (in_binary old.at (kind_of fault))
unfolding field
field-err size old fault e = ap (placed old) e

pub uleb-ok : (old new : Cursor) (x : ℕ) → Reads SpellsUleb old new x → uleb_at old.left ≡ Ok (x, new.left) → uleb old ≡ Ok (x, new)
unfolding uleb
uleb-ok old new x reads e = placed-ok SpellsUleb uleb_at old new x reads e

pub uleb-err : (old : Cursor) (fault : ViewFault) → uleb_at old.left ≡ Err fault → uleb old ≡ Err (in_binary old.at (kind_of fault))
unfolding uleb
uleb-err old fault e = ap (placed old) e

pub sleb-ok : (old new : Cursor) (x : ℤ) → Reads SpellsSleb old new x → sleb_at old.left ≡ Ok (x, new.left) → sleb old ≡ Ok (x, new)
unfolding sleb
sleb-ok old new x reads e = placed-ok SpellsSleb sleb_at old new x reads e

pub sleb-err : (old : Cursor) (fault : ViewFault) → sleb_at old.left ≡ Err fault → sleb old ≡ Err (in_binary old.at (kind_of fault))
unfolding sleb
sleb-err old fault e = ap (placed old) e

-- what is passed is there no more
shorter : (old new : Cursor) (bytes : List ℕ) → Passes old new bytes → 0 < length bytes → length new.left < length old.left
shorter old new bytes passes some = omega (arith, ap length passes.left, length-append bytes new.left)

IsLeb-some : (bytes : List ℕ) → IsLeb bytes → 0 < length bytes
IsLeb-some [] leb = absurd leb
IsLeb-some (byte ∷ bytes) leb = omega arith

pub field-shorter : (size : ℕ) (old new : Cursor) (x : ℕ) → Reads (SpellsField size) old new x → 0 < size → length new.left < length old.left
field-shorter size old new x reads some = shorter old new reads.bytes reads.passed (omega (arith, reads.spelled.sized))

pub uleb-shorter : (old new : Cursor) (x : ℕ) → Reads SpellsUleb old new x → length new.left < length old.left
uleb-shorter old new x reads = shorter old new reads.bytes reads.passed (IsLeb-some reads.bytes reads.spelled.whole)

pub sleb-shorter : (old new : Cursor) (x : ℤ) → Reads SpellsSleb old new x → length new.left < length old.left
sleb-shorter old new x reads = shorter old new reads.bytes reads.passed (IsLeb-some reads.bytes reads.spelled.whole)
