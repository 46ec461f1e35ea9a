-- The digits that stand first of some bytes.
use Rattle.std.specs.Prelude.{◌≡◌, ◌<◌, ◌≤◌, ◌+◌, ◌^◌, ℕ, List, length, take, slice_index}
use Rattle.std.specs.List.{prefix_len}
use Rattle.byte_view.specs.declared.leb.Front.{Front}
use Rattle.byte_view.specs.declared.leb.Front.TheVariants.{Whole, Nine}
use Rattle.byte_view.specs.Leb.{goes_on, unsigned_value}

-- All digits of a number, at most nine: all bytes but the last go on.
pub record IsWhole (bytes : List ℕ) (value count scale : ℕ) : Type 0 where
  pub last : prefix_len goes_on bytes + 1 ≡ count
  pub there : count ≤ length bytes
  pub at_most_nine : count ≤ 9
  pub value_is : value ≡ unsigned_value (take count bytes)
  pub scale_is : scale ≡ 128 ^ count

-- Nine digits that go on, and the byte behind them.
pub record IsNine (bytes : List ℕ) (value tenth : ℕ) : Type 0 where
  pub more : 9 ≤ prefix_len goes_on bytes
  pub there : 9 < length bytes
  pub value_is : value ≡ unsigned_value (take 9 bytes)
  pub tenth_is : tenth ≡ slice_index bytes 9

-- The digits that stand first, in either case.
abbrev pub IsFront : List ℕ → Front → Type 0
IsFront bytes (Whole value count scale) = IsWhole bytes value count scale
IsFront bytes (Nine value tenth) = IsNine bytes value tenth
