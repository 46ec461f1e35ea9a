-- What text or address a value means, or the first cause that stands in the way.
use Rattle.std.specs.Prelude.{ℕ, ◌+◌, ◌*◌, Bool, nat_lt, if◌then◌else◌, List, length, drop, Option, None, Some, Result, Ok, Err}
use Rattle.refusal.specs.declared.kind.Kind.{Kind}
use Rattle.refusal.specs.declared.kind.Kind.TheVariants.{BadClass, NoBase, NoSection, PastSection, NoNul}
use Rattle.byte_view.specs.Reading.{Reading, field_at, text_at}
use Rattle.value_model.specs.Value.{Value, addr, text, str_at, line_str_at, str_index, addr_index}
use Rattle.value_model.specs.Forms.{offset_size}

-- The bytes of the sections that texts and addresses stand in, where the file has them.
pub record Sections : Type 0 where
  pub str : Option (List ℕ)
  pub line_str : Option (List ℕ)
  pub str_offsets : Option (List ℕ)
  pub addr : Option (List ℕ)

-- What the indexes of a unit count from, where the unit says so (DWARF 5, section 7.26 to 7.28), and the size of
-- its offsets.
pub record Bases : Type 0 where
  pub wide : Bool
  pub str_offsets : Option ℕ
  pub addr : Option ℕ
  pub rnglists : Option ℕ

-- A field that is read whole, or that passes the end of its section.
abbrev pub whole_field : Reading ℕ → Result ℕ Kind
whole_field (Ok (n, rest)) = Ok n
whole_field (Err fault) = Err PastSection

-- The number at an index of a table of a section, which begins at the base. All places are whole numbers.
-- Why: A text or address by index is judged where the index stands before where it leads.
abbrev pub slot : Option ℕ → Option (List ℕ) → ℕ → ℕ → Result ℕ Kind
slot None section size index = Err NoBase
slot (Some base) None size index = Err NoSection
slot (Some base) (Some bytes) size index = whole_field (field_at size (drop (base + index * size) bytes))

-- A text that a NUL ends in its section.
abbrev pub ended_text : Reading (List ℕ) → Result (List ℕ) Kind
ended_text (Ok (run, rest)) = Ok run
ended_text (Err fault) = Err NoNul

-- The text at an offset of a section.
abbrev pub text_in : Option (List ℕ) → ℕ → Result (List ℕ) Kind
text_in None at = Err NoSection
text_in (Some bytes) at = if nat_lt (length bytes) at then Err PastSection else ended_text (text_at (drop at bytes))

-- The text at an offset that an index led to.
abbrev pub text_behind : Option (List ℕ) → Result ℕ Kind → Result (List ℕ) Kind
text_behind section (Ok at) = text_in section at
text_behind section (Err kind) = Err kind

-- The text that a value means.
unfoldable pub text_of : Sections → Bases → Value → Result (List ℕ) Kind
text_of sections bases (text run) = Ok run
text_of sections bases (str_at at) = text_in sections.str at
text_of sections bases (line_str_at at) = text_in sections.line_str at
text_of sections bases (str_index index) =
    text_behind sections.str (slot bases.str_offsets sections.str_offsets (offset_size bases.wide) index)
text_of sections bases _ = Err BadClass

-- The address that a value means.
unfoldable pub address_of : Sections → Bases → Value → Result ℕ Kind
address_of sections bases (addr address) = Ok address
address_of sections bases (addr_index index) = slot bases.addr sections.addr 8 index
address_of sections bases _ = Err BadClass
