-- One line of a branch text: whether it is a sample, and the branches of a sample, newest first.
use Rattle.std.specs.Prelude.{ℕ, ◌^◌, ◌==◌, nat_lt, Bool, not, ◌||◌, List, [], ◌∷◌, codes, Option, None, Some, is_some, if◌then◌else◌}
use Rattle.std.specs.List.{list_all, filter_map, before_first, after_first}
use Rattle.text_model.specs.Fields.{fields_of}
use Rattle.text_model.specs.LineTests.{contains, is_blank_line, is_comment}
use Rattle.text_model.specs.Numbers.{hex_of, prefixed_of}
pub use Rattle.text_model.specs.Numbers.{◌>>=◌}

-- The number, if it fits 64 bits.
abbrev pub within_64_bits : ℕ → Option ℕ
within_64_bits n = if nat_lt n (2 ^ 64) then Some n else None

-- An address as an entry holds it: hexadecimal behind 0x, within 64 bits.
unfoldable pub address_of : List ℕ → Option ℕ
address_of text = prefixed_of text >>= within_64_bits

-- The instruction pointer in front of a sample's entries is hexadecimal, with or without 0x, within 64 bits.
unfoldable pub is_ip : List ℕ → Bool
is_ip field = is_some (address_of field) || is_some (hex_of field >>= within_64_bits)

-- The byte between the parts of an entry.
abbrev pub is_slash : ℕ → Bool
is_slash b = b == 47

-- An entry is FROM/TO, where a further slash and any bytes may stand behind TO: the branch that was taken.
unfoldable pub entry_of : List ℕ → Option (ℕ × ℕ)
entry_of field = do
  from ← address_of (before_first is_slash field)
  to ← address_of (before_first is_slash (after_first is_slash field))
  Some (from, to)

-- The fields of a sample that have to be entries: all but an ip in front.
abbrev pub entry_fields : List (List ℕ) → List (List ℕ)
entry_fields [] = []
entry_fields (first ∷ others) = if is_ip first then others else first ∷ others

-- Perf's lines for events other than samples hold PERF_RECORD_ somewhere.
abbrev pub is_other_record : List ℕ → Bool
is_other_record line = contains line (codes "PERF_RECORD_")

-- Each line is a sample but blank lines, comments and records of other events.
unfoldable pub is_sample : List ℕ → Bool
is_sample line = not (is_blank_line line || (is_comment line || is_other_record line))

-- A sample is well formed where each field but an ip in front is an entry.
unfoldable pub is_well_formed : List ℕ → Bool
is_well_formed line = list_all (λ field. is_some (entry_of field)) (entry_fields (fields_of line))

-- The branches of a line, as its entries stand: newest first, and none where the line is no sample (of a sample that is
-- not well formed, those of its fields that are entries, which nothing rests on).
unfoldable pub branches_of_line : List ℕ → List (ℕ × ℕ)
branches_of_line line = if is_sample line then filter_map entry_of (entry_fields (fields_of line)) else []
