-- One line of a block text.
use Rattle.std.specs.Prelude.{ℕ, ◌^◌, nat_eq, nat_lt, Bool, true, false, ◌&&◌, List, [], ◌∷◌, drop, length, codes, Option, None, Some, if◌then◌else◌}
use Rattle.std.specs.List.{starts_with}
use Rattle.std.specs.Option.{option_map, option_or}
use Rattle.std.specs.Str.{bytes_eq}
use Rattle.text_model.specs.Fields.{fields_of}
use Rattle.text_model.specs.LineTests.{is_comment}
use Rattle.text_model.specs.Numbers.{decimal_of, prefixed_of}
pub use Rattle.text_model.specs.Numbers.{◌>>=◌, within_bits}
use Rattle.block_model.specs.declared.parts.Block.{Block}
use Rattle.block_model.specs.declared.parts.Bound.{Bound}
use Rattle.block_model.specs.Function.{unbounded}
use Rattle.block_model.specs.Limits.{bound_bits}

-- What a line says.
pub data Line : Type 0 where
  -- Nothing: it is passed over.
  passed : Line
  -- A function of this name begins.
  begins : List ℕ → Line
  -- A block of this number.
  tells_block : ℕ → Block → Line
  -- An edge between the blocks of these numbers.
  tells_edge : ℕ → ℕ → Bound → Line
  -- The function ends.
  ends : Line

-- The number of a block: decimal, within 64 bits.
unfoldable pub place_of : List ℕ → Option ℕ
place_of field = decimal_of field >>= within_bits 64

-- An address: hexadecimal behind 0x, within 64 bits.
unfoldable pub address_of : List ℕ → Option ℕ
address_of field = prefixed_of field >>= within_bits 64

-- What stands behind a front, if that is how the field begins.
abbrev pub behind : List ℕ → List ℕ → Option (List ℕ)
behind front field = if starts_with nat_eq field front then Some (drop (length front) field) else None

-- A bound on a count: decimal, within 44 bits.
unfoldable pub count_of : List ℕ → Option ℕ
count_of digits = decimal_of digits >>= within_bits bound_bits

-- The bound on a count behind such a front.
unfoldable pub bounded_by : List ℕ → List ℕ → Option ℕ
bounded_by front field = behind front field >>= count_of

-- At least so often.
abbrev pub at_least : ℕ → Bound
at_least lower = record { lower = lower; upper = None }

-- At most so often.
abbrev pub at_most : ℕ → Bound
at_most upper = record { lower = 0; upper = Some upper }

-- A bound by one number: `lo=A` or `hi=B`.
abbrev pub bound_by_number : List ℕ → Option Bound
bound_by_number field =
    option_or (option_map at_least (bounded_by (codes "lo=") field))
    (option_map at_most (bounded_by (codes "hi=") field))

-- A bound by one word: `never`, `lo=A` or `hi=B`, and for a block `ran`.
unfoldable pub bound_by_word : Bool → List ℕ → Option Bound
bound_by_word for_block field =
    if bytes_eq field (codes "never") then Some (at_most 0)
    else (if for_block && bytes_eq field (codes "ran") then Some (at_least 1) else bound_by_number field)

-- A bound by two words: `lo=A hi=B`.
unfoldable pub bound_by_words : List ℕ → List ℕ → Option Bound
bound_by_words low high = do
  lower ← bounded_by (codes "lo=") low
  upper ← bounded_by (codes "hi=") high
  Some (record { lower = lower; upper = Some upper })

-- The bound that the last fields of a line spell; without any there is none.
unfoldable pub bound_of : Bool → List (List ℕ) → Option Bound
bound_of for_block [] = Some unbounded
bound_of for_block (word ∷ []) = bound_by_word for_block word
bound_of for_block (low ∷ high ∷ []) = bound_by_words low high
bound_of for_block _ = None

-- The last fields of a block line: [exit] [bound].
abbrev pub exit_and_bound_of : List (List ℕ) → Option (Bool × Bound)
exit_and_bound_of [] = Some (false, unbounded)
exit_and_bound_of (word ∷ words) =
    if bytes_eq word (codes "exit")
    then bound_of true words >>= (λ bound. Some (true, bound))
    else bound_of true (word ∷ words) >>= (λ bound. Some (false, bound))

-- A block line behind its first word: N 0xLO 0xHI [exit] [bound].
unfoldable pub block_line_of : List (List ℕ) → Option Line
block_line_of (number ∷ lo ∷ hi ∷ words) = do
  number ← place_of number
  lo ← address_of lo
  hi ← address_of hi
  last ← exit_and_bound_of words
  Some (tells_block number (record { lo = lo; hi = hi; exit = last.0; bound = last.1 }))
block_line_of _ = None

-- An edge line behind its first word: N M [bound].
unfoldable pub edge_line_of : List (List ℕ) → Option Line
edge_line_of (from ∷ to ∷ words) = do
  from ← place_of from
  to ← place_of to
  bound ← bound_of false words
  Some (tells_edge from to bound)
edge_line_of _ = None

-- A function's first line behind its first word: NAME.
abbrev pub func_line_of : List (List ℕ) → Option Line
func_line_of (name ∷ []) = Some (begins name)
func_line_of _ = None

-- A function's last line behind its first word.
abbrev pub end_line_of : List (List ℕ) → Option Line
end_line_of [] = Some ends
end_line_of _ = None

-- What the fields of a line say, if they have the form of one.
unfoldable pub line_by_fields : List (List ℕ) → Option Line
line_by_fields [] = Some passed
line_by_fields (word ∷ words) =
    if bytes_eq word (codes "block") then block_line_of words
    else (if bytes_eq word (codes "edge") then edge_line_of words
    else (if bytes_eq word (codes "func") then func_line_of words
    else (if bytes_eq word (codes "end") then end_line_of words else None)))

-- What a line says, if it has the form of one. Comments and blank lines say nothing.
unfoldable pub line_of : List ℕ → Option Line
line_of line = if is_comment line then Some passed else line_by_fields (fields_of line)
