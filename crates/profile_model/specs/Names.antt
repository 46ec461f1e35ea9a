-- The names of functions in a profile.
use Rattle.std.specs.Prelude.{ℕ, ◌==◌, nat_le, Bool, false, not, ◌&&◌, ◌||◌, List, [], ◌∷◌}
use Rattle.std.specs.Char.{is_ascii_digit}
use Rattle.std.specs.List.{list_any}

-- A byte that no name has: white space and other control bytes, DEL, and the colon that parts names in a profile.
abbrev pub parts_names : ℕ → Bool
parts_names byte = nat_le byte 0x20 || byte == 0x7f || byte == 0x3a

-- A byte that no name begins with: `#` and `!`, which begin other lines of a profile, and digits.
abbrev pub begins_no_name : ℕ → Bool
begins_no_name byte = byte == 0x23 || byte == 0x21 || is_ascii_digit byte

-- A text that a profile can have as a name.
abbrev pub is_name : List ℕ → Bool
is_name [] = false
is_name (byte ∷ bytes) = not (begins_no_name byte) && not (list_any parts_names (byte ∷ bytes))
