-- The entries of a range list, and how bytes spell them.
use Rattle.std.specs.Prelude.{ℕ, ◌^◌, ◌-◌, Bool, ◌&&◌, ◌==◌, if◌then◌else◌, List, [], ◌∷◌, Option, None, Some, Result, Ok, Err}
use Rattle.refusal.specs.declared.kind.Kind.{Kind}
use Rattle.refusal.specs.declared.kind.Kind.TheVariants.{BadRangeEntry}
use Rattle.byte_view.specs.Reading.{Reading, field_at, uleb_at}
use Rattle.placed_view.specs.Reader.{kind_of}
use Rattle.value_model.specs.Value.{Value, addr, addr_index}

-- An entry of a range list but the one that ends it. An address stands in the entry, or goes by an index.
pub data Entry : Type 0 where
  -- From here on this address is the base.
  sets_base : Value → Entry
  -- A range from the first address up to the second.
  between : Value → Value → Entry
  -- A range from this address on, of this length.
  along : Value → ℕ → Entry
  -- A range between two numbers that are counted from the base.
  from_base : ℕ → ℕ → Entry

-- An entry at the front and the bytes behind it, or that the list ends there, or why there is neither.
abbrev pub EntryReading : Type 0
EntryReading = Result (Option (Entry × List ℕ)) Kind

-- A number at the front and the bytes behind it, or the kind of refusal.
abbrev pub NumberReading : Type 0
NumberReading = Result (ℕ × List ℕ) Kind

-- What a cursor answers, by the kind of its refusal.
abbrev pub by_kind : Reading ℕ → NumberReading
by_kind (Ok answer) = Ok answer
by_kind (Err fault) = Err (kind_of fault)

-- The operands of entries: an unsigned LEB128 number, and a number of 8 bytes.
abbrev pub uleb : List ℕ → NumberReading
uleb bytes = by_kind (uleb_at bytes)

abbrev pub word : List ℕ → NumberReading
word bytes = by_kind (field_at 8 bytes)

-- A number was read, and more is read behind it.
abbrev pub behind : NumberReading → (ℕ → List ℕ → EntryReading) → EntryReading
behind (Ok (n, rest)) next = next n rest
behind (Err kind) next = Err kind

-- An entry with one operand.
abbrev pub one : (List ℕ → NumberReading) → (ℕ → Entry) → List ℕ → EntryReading
one operand entry bytes = behind (operand bytes) (λ n rest. Ok (Some (entry n, rest)))

-- An entry with two operands.
abbrev pub two : (List ℕ → NumberReading) → (List ℕ → NumberReading) → (ℕ → ℕ → Entry) → List ℕ → EntryReading
two first second entry bytes =
    behind (first bytes) (λ m more. behind (second more) (λ n rest. Ok (Some (entry m n, rest))))

-- DWARF 5, section 7.25, table 7.30: what stands behind each code of an entry of `.debug_rnglists`.
abbrev pub entry_codes : List (ℕ × (List ℕ → EntryReading))
entry_codes =
    (0, λ bytes. Ok None) ∷
    (1, one uleb (λ index. sets_base (addr_index index))) ∷
    (2, two uleb uleb (λ start end. between (addr_index start) (addr_index end))) ∷
    (3, two uleb uleb (λ start size. along (addr_index start) size)) ∷
    (4, two uleb uleb (λ start end. from_base start end)) ∷
    (5, one word (λ address. sets_base (addr address))) ∷
    (6, two word word (λ start end. between (addr start) (addr end))) ∷
    (7, two word uleb (λ start size. along (addr start) size)) ∷
    []

-- What a table has for a code. A code that it has not is of no entry.
abbrev pub coded : List (ℕ × (List ℕ → EntryReading)) → ℕ → List ℕ → EntryReading
coded [] code bytes = Err BadRangeEntry
coded ((first, reading) ∷ rest) code bytes = if code == first then reading bytes else coded rest code bytes

-- The entry at the front in `.debug_rnglists`: a code of one byte, and its operands.
unfoldable pub coded_entry_at : List ℕ → EntryReading
coded_entry_at bytes = behind (by_kind (field_at 1 bytes)) (coded entry_codes)

-- A pair of numbers of `.debug_ranges` (DWARF 4, section 2.17.3): 0 and 0 end the list, a first number of all ones
-- makes the second the base, and any other pair is counted from the base.
abbrev pub pair_entry : ℕ → ℕ → List ℕ → EntryReading
pair_entry first second rest =
    if first == 0 && second == 0 then Ok None
    else if first == 2 ^ 64 - 1 then Ok (Some (sets_base (addr second), rest))
    else Ok (Some (from_base first second, rest))

-- The entry at the front in `.debug_ranges`.
unfoldable pub pair_entry_at : List ℕ → EntryReading
pair_entry_at bytes =
    behind (word bytes) (λ first more. behind (word more) (λ second rest. pair_entry first second rest))

-- The entry at the front in either section.
abbrev pub entry_at : Bool → List ℕ → EntryReading
entry_at pairs bytes = if pairs then pair_entry_at bytes else coded_entry_at bytes
