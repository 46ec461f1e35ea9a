-- What stands at the front of some bytes, and the grammar of each kind.
use Rattle.std.specs.Prelude.{◌≡◌, ◌≢◌, ◌≤◌, ◌+◌, ℕ, ℤ, Bool, true, nat_lt, nat_le, if◌then◌else◌, List, [], ◌∷◌, ◌++◌, length, take, drop, All, Result, Ok, Err, ◌==◌}
use Rattle.std.specs.List.{prefix_len, position_or_len}
use Rattle.byteorder.specs.Endian.{little_number}
use Rattle.byte_view.specs.declared.fault.ViewFault.{ViewFault}
use Rattle.byte_view.specs.declared.fault.ViewFault.TheVariants.{Short, LebTooLong, NoNul}
use Rattle.byte_view.specs.Leb.{IsLeb, goes_on, unsigned_value, signed_value, fits_u64, fits_i64}

-- The bytes of a field of this size, lowest first, and its number.
pub record SpellsField (size : ℕ) (bytes : List ℕ) (n : ℕ) : Type 0 where
  pub sized : length bytes ≡ size
  pub value : n ≡ little_number size bytes

-- A run of bytes of this length stands for itself.
pub record SpellsRun (size : ℕ) (bytes run : List ℕ) : Type 0 where
  pub sized : length bytes ≡ size
  pub value : run ≡ bytes

-- A text is spelled by its bytes and a NUL.
pub record SpellsText (bytes text : List ℕ) : Type 0 where
  pub value : bytes ≡ text ++ 0 ∷ []
  pub no_nul : All (λ byte. byte ≢ 0) text

-- An unsigned number in one to ten bytes. A spelling may be padded by zero digits.
pub record SpellsUleb (bytes : List ℕ) (n : ℕ) : Type 0 where
  pub whole : IsLeb bytes
  pub at_most_ten : length bytes ≤ 10
  pub value : n ≡ unsigned_value bytes
  pub fits : fits_u64 n ≡ true

-- A signed number in one to ten bytes. A spelling may be padded by digits that repeat the sign.
pub record SpellsSleb (bytes : List ℕ) (z : ℤ) : Type 0 where
  pub whole : IsLeb bytes
  pub at_most_ten : length bytes ≤ 10
  pub value : z ≡ signed_value bytes
  pub fits : fits_i64 z ≡ true

-- A value at the front and the bytes behind it, or why there is none.
abbrev pub Reading : Type 0 → Type 0
Reading X = Result (X × List ℕ) ViewFault

-- The number of a field of this size.
unfoldable pub field_at : ℕ → List ℕ → Reading ℕ
field_at size bytes =
    if nat_lt (length bytes) size then Err Short else Ok (little_number size bytes, drop size bytes)

-- The first bytes, as many as are asked for.
unfoldable pub run_at : ℕ → List ℕ → Reading (List ℕ)
run_at size bytes = if nat_lt (length bytes) size then Err Short else Ok (take size bytes, drop size bytes)

-- The bytes before the first NUL. It is passed too.
unfoldable pub text_at : List ℕ → Reading (List ℕ)
text_at bytes =
    let nul = position_or_len (λ byte. byte == 0) bytes in
    if nat_lt nul (length bytes) then Ok (take nul bytes, drop (nul + 1) bytes) else Err NoNul

-- The LEB128 number of some value: its bytes are those that go on and the one behind them.
abbrev pub leb_at : {X : Type 0} → (List ℕ → X) → (X → Bool) → List ℕ → Reading X
leb_at value fits bytes =
    let before_last = prefix_len goes_on bytes in
    let n = value (take (before_last + 1) bytes) in
    if nat_le 10 before_last then Err LebTooLong
    else (if nat_le (length bytes) before_last then Err Short
    else (if fits n then Ok (n, drop (before_last + 1) bytes) else Err LebTooLong))

-- The unsigned LEB128 number.
unfoldable pub uleb_at : List ℕ → Reading ℕ
uleb_at bytes = leb_at unsigned_value fits_u64 bytes

-- The signed LEB128 number.
unfoldable pub sleb_at : List ℕ → Reading ℤ
sleb_at bytes = leb_at signed_value fits_i64 bytes

-- A call gives what is read, and left these bytes. `seen` is what clauses see of its value.
abbrev pub Gives : {X Y : Type 0} → (X → Y) → Result X ViewFault → List ℕ → Reading Y → Type 0
Gives seen (Ok value) left reading = reading ≡ Ok (seen value, left)
Gives seen (Err fault) left reading = reading ≡ Err fault
