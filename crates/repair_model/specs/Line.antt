-- One line of a repair text: how it is written, and how it is read.
use Rattle.std.specs.Prelude.{ℕ, ◌^◌, ◌==◌, nat_lt, nat_eq, Bool, true, false, List, [], ◌∷◌, ◌++◌, codes, Option, None, Some, ℤ, pos, negsuc, if◌then◌else◌}
use Rattle.std.specs.List.{starts_with}
use Rattle.std.specs.Option.{option_map}
use Rattle.std.specs.Str.{bytes_eq}
use Rattle.text_model.specs.Fields.{fields_of}
use Rattle.text_model.specs.Numbers.{decimal_of, decimal_text, signed_of, signed_text}
use Rattle.block_model.specs.declared.parts.Weight.{Weight}
use Rattle.block_model.specs.declared.parts.Weight.TheVariants.{Unknown, Known}
use Rattle.block_model.specs.Line.{◌>>=◌, within_bits, place_of, count_of}

-- What a line says of a repair.
pub data Line : Type 0 where
  -- Counts of the function of this name begin.
  begins_flow : List ℕ → Line
  -- A cut of the function of this name begins; whether the root is in it.
  begins_cut : List ℕ → Bool → Line
  -- A block's number and weight, its count, and the prices where it is entered and left.
  tells_count : ℕ → Weight → ℕ → ℤ → ℤ → Line
  -- A block's number and weight, and whether the cut has the sides where it is entered and left.
  tells_sides : ℕ → Weight → Bool → Bool → Line
  -- The two blocks of an edge, its weight if that stands there, and its count.
  tells_edge : ℕ → ℕ → Option Weight → ℕ → Line
  -- Counts end; what they cost.
  ends_flow : ℕ → Line
  -- A cut ends; its two sums.
  ends_cut : ℕ → ℕ → Line

-- ---- writing

-- A weight, or a question mark for none.
abbrev pub weight_text : Weight → List ℕ
weight_text Unknown = codes "?"
weight_text (Known weight) = decimal_text weight

-- Whether a side is in a cut.
abbrev pub bit_text : Bool → List ℕ
bit_text false = codes "0"
bit_text true = codes "1"

-- The weight of an edge with its word, if it is told.
abbrev pub weight_fields : Option Weight → List (List ℕ)
weight_fields None = []
weight_fields (Some weight) = codes "weight" ∷ weight_text weight ∷ []

-- The fields of a line.
abbrev pub line_fields : Line → List (List ℕ)
line_fields (begins_flow name) = codes "#" ∷ codes "function" ∷ name ∷ codes "flow" ∷ []
line_fields (begins_cut name root) = codes "#" ∷ codes "function" ∷ name ∷ codes "cut" ∷ bit_text root ∷ []
line_fields (tells_count number weight count enter leave) =
    codes "#" ∷ codes "block" ∷ decimal_text number ∷ codes "weight" ∷ weight_text weight
    ∷ codes "count" ∷ decimal_text count ∷ codes "in" ∷ signed_text enter ∷ codes "out" ∷ signed_text leave ∷ []
line_fields (tells_sides number weight enter leave) =
    codes "#" ∷ codes "block" ∷ decimal_text number ∷ codes "weight" ∷ weight_text weight
    ∷ codes "in" ∷ bit_text enter ∷ codes "out" ∷ bit_text leave ∷ []
line_fields (tells_edge from to weight count) =
    codes "#" ∷ codes "edge" ∷ decimal_text from ∷ decimal_text to
    ∷ (weight_fields weight ++ codes "count" ∷ decimal_text count ∷ [])
line_fields (ends_flow cost) = codes "#" ∷ codes "end" ∷ decimal_text cost ∷ []
line_fields (ends_cut least most) = codes "#" ∷ codes "end" ∷ decimal_text least ∷ decimal_text most ∷ []

-- Fields with one space between them.
abbrev pub spaced : List (List ℕ) → List ℕ
spaced [] = []
spaced (field ∷ []) = field
spaced (field ∷ next ∷ fields) = field ++ codes " " ++ spaced (next ∷ fields)

-- How a line is written, but for the line feed that ends it.
abbrev pub line_text : Line → List ℕ
line_text line = spaced (line_fields line)

-- ---- reading

-- A weight below 2^44, or a question mark for none.
unfoldable pub weight_of : List ℕ → Option Weight
weight_of field = if bytes_eq field (codes "?") then Some Unknown else option_map Known (count_of field)

-- A price: a number of 64 bits with sign.
abbrev pub fits_price : ℤ → Bool
fits_price (pos n) = nat_lt n (2 ^ 63)
fits_price (negsuc n) = nat_lt n (2 ^ 63)

abbrev pub price_within : ℤ → Option ℤ
price_within price = if fits_price price then Some price else None

unfoldable pub price_of : List ℕ → Option ℤ
price_of field = signed_of field >>= price_within

-- A cost or a sum: 128 bits.
unfoldable pub sum_of : List ℕ → Option ℕ
sum_of field = decimal_of field >>= within_bits 128

-- 0 or 1.
abbrev pub bit_by_number : ℕ → Option Bool
bit_by_number n = if n == 0 then Some false else (if n == 1 then Some true else None)

unfoldable pub bit_of : List ℕ → Option Bool
bit_of field = place_of field >>= bit_by_number

-- The field behind this word, where the word comes next, and the fields behind that.
abbrev pub valued : List ℕ → List (List ℕ) → Option (List ℕ × List (List ℕ))
valued word (first ∷ field ∷ fields) = if bytes_eq first word then Some (field, fields) else None
valued word _ = None

-- This line, where no field is left.
abbrev pub if_over : Line → List (List ℕ) → Option Line
if_over line [] = Some line
if_over line _ = None

-- A function's first line behind its second word: NAME flow, or NAME cut R.
unfoldable pub function_line_of : List (List ℕ) → Option Line
function_line_of (name ∷ word ∷ []) = if bytes_eq word (codes "flow") then Some (begins_flow name) else None
function_line_of (name ∷ word ∷ root ∷ []) =
    if bytes_eq word (codes "cut") then option_map (begins_cut name) (bit_of root) else None
function_line_of _ = None

-- What stands behind the count of a block: in P out Q.
unfoldable pub counted_of : ℕ → Weight → List ℕ → List (List ℕ) → Option Line
counted_of number weight count fields = do
  count ← place_of count
  enter ← valued (codes "in") fields
  leave ← valued (codes "out") enter.1
  enter ← price_of enter.0
  price ← price_of leave.0
  if_over (tells_count number weight count enter price) leave.1

-- What stands behind the first side of a block in a cut: out T.
unfoldable pub sided_of : ℕ → Weight → List ℕ → List (List ℕ) → Option Line
sided_of number weight enter fields = do
  enter ← bit_of enter
  leave ← valued (codes "out") fields
  bit ← bit_of leave.0
  if_over (tells_sides number weight enter bit) leave.1

-- What stands behind the weight of a block: count C and the prices, or in S and the other side.
unfoldable pub weighed_of : ℕ → Weight → List (List ℕ) → Option Line
weighed_of number weight (word ∷ field ∷ fields) =
    if bytes_eq word (codes "count") then counted_of number weight field fields
    else (if bytes_eq word (codes "in") then sided_of number weight field fields else None)
weighed_of number weight _ = None

-- A block's line behind its second word: N weight W, and what stands behind.
unfoldable pub block_line_of : List (List ℕ) → Option Line
block_line_of (number ∷ fields) = do
  number ← place_of number
  weight ← valued (codes "weight") fields
  known ← weight_of weight.0
  weighed_of number known weight.1
block_line_of _ = None

-- An edge and its count, where nothing stands behind.
unfoldable pub taken_of : ℕ → ℕ → Option Weight → List ℕ → List (List ℕ) → Option Line
taken_of from to weight count fields = do
  count ← place_of count
  if_over (tells_edge from to weight count) fields

-- What stands behind the blocks of an edge: weight W, which may be missing, and count C.
unfoldable pub joined_of : ℕ → ℕ → List (List ℕ) → Option Line
joined_of from to (word ∷ field ∷ fields) =
    if bytes_eq word (codes "weight") then (do
      weight ← weight_of field
      count ← valued (codes "count") fields
      taken_of from to (Some weight) count.0 count.1)
    else (if bytes_eq word (codes "count") then taken_of from to None field fields else None)
joined_of from to _ = None

-- An edge's line behind its second word: N M, and what stands behind.
unfoldable pub edge_line_of : List (List ℕ) → Option Line
edge_line_of (from ∷ to ∷ fields) = do
  from ← place_of from
  to ← place_of to
  joined_of from to fields
edge_line_of _ = None

-- A function's last line behind its second word: COST, or LOWER UPPER.
unfoldable pub end_line_of : List (List ℕ) → Option Line
end_line_of (cost ∷ []) = option_map ends_flow (sum_of cost)
end_line_of (least ∷ most ∷ []) = do
  least ← sum_of least
  most ← sum_of most
  Some (ends_cut least most)
end_line_of _ = None

-- What the fields of a line behind # say, if they have the form of one.
unfoldable pub line_by_fields : List (List ℕ) → Option Line
line_by_fields (word ∷ fields) =
    if bytes_eq word (codes "block") then block_line_of fields
    else (if bytes_eq word (codes "edge") then edge_line_of fields
    else (if bytes_eq word (codes "end") then end_line_of fields
    else (if bytes_eq word (codes "function") then function_line_of fields else None)))
line_by_fields _ = None

-- The fields behind #.
abbrev pub behind_mark : List (List ℕ) → Option (List (List ℕ))
behind_mark (mark ∷ fields) = if bytes_eq mark (codes "#") then Some fields else None
behind_mark _ = None

-- What a line says, if it has the form of one.
unfoldable pub line_of : List ℕ → Option Line
line_of line = behind_mark (fields_of line) >>= line_by_fields

-- A function of a repair text begins with these very bytes; outside of functions other lines are passed over.
abbrev pub begins_function : List ℕ → Bool
begins_function line = starts_with nat_eq line (codes "# function ")
