-- What is answered for a text that spells a number, or none.
use Rattle.std.specs.Prelude.{ℕ, ◌^◌, nat_lt, Bool, ℤ, pos, negsuc, Option, None, Some, Result, Ok, Err, if◌then◌else◌}
use Rattle.text_scan.specs.declared.read.NumberFault.{NumberFault}
use Rattle.text_scan.specs.declared.read.NumberFault.TheVariants.{NotNumber, NumberTooLarge}

-- The number where there is one and it fits into that many bits, and else the fault.
abbrev pub within : ℕ → Option ℕ → Result ℕ NumberFault
within bits None = Err NotNumber
within bits (Some n) = if nat_lt n (2 ^ bits) then Ok n else Err NumberTooLarge

-- A number that fits so many bits.
abbrev pub fitting : ℕ → ℕ → Option ℕ
fitting bits n = if nat_lt n (2 ^ bits) then Some n else None

-- Whether a signed number fits 64 bits.
abbrev pub fits_signed : ℤ → Bool
fits_signed (pos n) = nat_lt n (2 ^ 63)
fits_signed (negsuc n) = nat_lt n (2 ^ 63)

-- The signed number where there is one and it fits 64 bits, and else the fault.
abbrev pub within_signed : Option ℤ → Result ℤ NumberFault
within_signed None = Err NotNumber
within_signed (Some n) = if fits_signed n then Ok n else Err NumberTooLarge
