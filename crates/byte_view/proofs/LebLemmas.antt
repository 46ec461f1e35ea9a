-- LEB128: what the digits so far are worth, and what a read of a number answers.
use Rattle.std.proofs.Common.{◌≡◌, ◌<◌, ◌≤◌, ◌+◌, ◌*◌, ◌-◌, ◌/◌, ◌%◌, ◌^◌, ℕ, zero, suc, pos, Bool, true, false, List, [], ◌∷◌, ◌++◌, length, take, drop, get_or, Ok, Err, refl, sym, ◌∙◌, arith, add-one, ◌-ℤ◌, inl, inr, bit_and, to_z, w64}
use Rattle.std.proofs.lemmas.Int.{ints}
use Rattle.std.proofs.lemmas.Nat.{pow-add}
use Rattle.std.proofs.lemmas.Grind.{pow_more}
use Rattle.std.proofs.lemmas.Nat.Bits.{and_pow, bit_at_above, bit_at_cat_high}
use Rattle.std.specs.Int.{bit_at}
use Rattle.std.proofs.lemmas.List.{take_more, length-take-le}
use Rattle.std.proofs.lemmas.Bool.{le-leb, lt-leb, lt-ltb, le-ltb, leb-true, leb-false, cases_lt}
use Rattle.std.proofs.lemmas.List.Sums.{prefix_len-drop_all, prefix_len_passes, prefix_len_stops}
use Rattle.std.specs.List.{prefix_len}
use Rattle.byte_view.specs.declared.fault.ViewFault.TheVariants.{Short, LebTooLong}
use Rattle.byte_view.specs.Leb.{goes_on, unsigned_value, signed_value, twos_complement, IsScale, fits_u64, fits_i64}
use Rattle.byte_view.specs.Front.{IsWhole, IsNine}
use Rattle.byte_view.specs.Reading.{leb_at, uleb_at, sleb_at}
use Rattle.std.proofs.Math.Nat.{pow-suc, pow-succ', mul_left_comm, pow-le-pow_right}

-- a further digit
pub unsigned_value-push : (bytes : List ℕ) (byte : ℕ) → unsigned_value (bytes ++ byte ∷ []) ≡ unsigned_value bytes + byte % 128 * 128 ^ length bytes
unsigned_value-push [] byte = grind arith
unsigned_value-push (first ∷ rest) byte =
    let rest_is = unsigned_value-push rest byte in
    let power = pow-succ' 128 (length rest) in
    let moved = mul_left_comm (byte % 128) 128 (128 ^ length rest) in
    rw (rest_is, power, moved) (omega arith)

-- so many digits are worth less than the next power
pub unsigned_value-lt : (bytes : List ℕ) → unsigned_value bytes < 128 ^ length bytes
unsigned_value-lt [] = omega arith
unsigned_value-lt (first ∷ rest) =
    let rest_is = unsigned_value-lt rest in
    let power = pow-succ' 128 (length rest) in
    rw power (omega arith)

-- The digits before place i are worth `value`, and a digit there `scale` times its own.
pub record IsWorth (bytes : List ℕ) (i value scale : ℕ) : Type 0 where
  pub within : i ≤ length bytes
  pub value_is : value ≡ unsigned_value (take i bytes)
  pub scale_is : scale ≡ 128 ^ i

-- one digit more
pub IsWorth-more : (bytes : List ℕ) (i value scale digit : ℕ) → IsWorth bytes i value scale → i < length bytes → digit ≡ get_or bytes i 0 % 128 → IsWorth bytes (i + 1) (value + digit * scale) (scale * 128)
IsWorth-more bytes i value scale digit worth here digit_is =
    let digits = take_more bytes i 0 here in
    let pushed = unsigned_value-push (take i bytes) (get_or bytes i 0) in
    let len = length-take-le i bytes worth.within in
    let power : 128 ^ (i + 1) ≡ 128 * 128 ^ i = rw add-one (pow-succ' 128 i) in
    record {
      within = omega arith;
      value_is = rw (worth.value_is, worth.scale_is, digit_is, digits, pushed, len) refl;
      scale_is = omega (arith, worth.scale_is);
    }

pub IsWorth-lt : (bytes : List ℕ) (i value scale : ℕ) → IsWorth bytes i value scale → value < scale
IsWorth-lt bytes i value scale worth =
    let bound = unsigned_value-lt (take i bytes) in
    let len = length-take-le i bytes worth.within in
    rw (worth.value_is, worth.scale_is) (rw len at bound)

-- nine digits are worth less than 2 ^ 63
pub scale-le : (bytes : List ℕ) (i value scale : ℕ) → IsWorth bytes i value scale → i ≤ 9 → scale ≤ 2 ^ 63
scale-le bytes i value scale worth few =
    let power : 128 ^ i ≤ 128 ^ 9 = pow-le-pow_right (omega arith) few in
    rw worth.scale_is power

-- so they fit while they are read
pub record Fitting (value scale digit : ℕ) : Type 0 where
  pub sum : value + digit * scale < 2 ^ 63
  pub next : scale * 128 ≤ 2 ^ 63

pub digit_fits : (bytes : List ℕ) (i value scale digit : ℕ) → IsWorth bytes i value scale → i < length bytes → i < 9 → digit ≡ get_or bytes i 0 % 128 → Fitting value scale digit
digit_fits bytes i value scale digit worth here few digit_is =
    let more = IsWorth-more bytes i value scale digit worth here digit_is in
    let below = IsWorth-lt bytes (i + 1) (value + digit * scale) (scale * 128) more in
    let bound = scale-le bytes (i + 1) (value + digit * scale) (scale * 128) more (omega arith) in
    record { sum = omega arith; next = bound }

pub signed_value-worth : (bytes : List ℕ) (i value scale : ℕ) → IsWorth bytes i value scale → signed_value (take i bytes) ≡ twos_complement scale value
signed_value-worth bytes i value scale worth =
    let len = length-take-le i bytes worth.within in
    rw (len, worth.scale_is, worth.value_is) refl

-- two's complement in 64 bits
sign_low : (n k : ℕ) → n < 2 ^ k → bit_and n (2 ^ k) ≡ 0
sign_low n k low = rw (and_pow n k, bit_at_above n k k low (omega arith)) (omega arith)

sign_high : (n k rest : ℕ) → n ≡ 1 * 2 ^ k + rest → rest < 2 ^ k → bit_and n (2 ^ k) ≡ 2 ^ k
sign_high n k rest split below =
    let bit : bit_at n k ≡ bit_at 1 (k - k) = rw split (bit_at_cat_high 1 k rest k below (omega arith)) in
    let none : k - k ≡ 0 = omega arith in
    rw (and_pow n k, bit, none) (omega arith)

signed_low : (value scale : ℕ) → scale ≤ 2 ^ 63 → 2 * value < scale → to_z w64 ((value + (2 ^ 64 - 2 * 0)) % 2 ^ 64) ≡ twos_complement scale value
signed_low value scale bound low = grind (arith, ints)

signed_high : (value scale sign : ℕ) → value < scale → scale ≤ 2 ^ 63 → scale ≤ 2 * value → 2 * sign ≡ scale → to_z w64 ((value + (2 ^ 64 - 2 * sign)) % 2 ^ 64) ≡ twos_complement scale value
signed_high value scale sign below bound high half = grind (arith, ints)

-- twice the sign bit is what two's complement takes away
pub signed_bits : (value scale k : ℕ) → value < scale → k < 63 → scale ≡ 2 ^ (k + 1) → to_z w64 ((value + (2 ^ 64 - 2 * bit_and value (scale / 2))) % 2 ^ 64) ≡ twos_complement scale value
signed_bits value scale k below few power =
    let double = pow_more 2 k in
    let half : scale / 2 ≡ 2 ^ k = omega arith in
    let limit : 2 ^ (k + 1) ≤ 2 ^ 63 = pow-le-pow_right {n = 2} (omega arith) {i = k + 1} {j = 63} (omega arith) in
    let bound : scale ≤ 2 ^ 63 = omega arith in
    elim (cases_lt (2 * value) scale) [
      | inl low ↦ rw (half, sign_low value k (omega arith)) (signed_low value scale bound low)
      | inr high ↦
          rw (half, sign_high value k (value - 2 ^ k) (omega arith) (omega arith)) (signed_high value scale (2 ^ k) below bound high (omega arith))
    ]

-- the scale of some digits is a power of two
power_of_128 : (i : ℕ) → 128 ^ i ≡ 2 ^ (7 * i)
power_of_128 zero = refl
power_of_128 (suc i) =
    let seven : 7 * suc i ≡ 7 * i + 7 = omega arith in
    rw (pow-suc 128 i, power_of_128 i, seven, pow-add 2 (7 * i) 7) refl

pub scale_power : (i scale : ℕ) → 0 < i → i ≤ 9 → scale ≡ 128 ^ i → IsScale scale
scale_power i scale some few scale_is =
    let bits : 7 * i - 1 + 1 ≡ 7 * i = omega arith in
    (7 * i - 1, omega arith, rw bits (scale_is ∙ power_of_128 i))

pub fits_i64-low : (n : ℕ) → n < 2 ^ 63 → fits_i64 (pos n) ≡ true
fits_i64-low n below = grind (arith, ints)

pub fits_i64-high : (n : ℕ) → n < 2 ^ 63 → fits_i64 (pos n -ℤ pos (2 ^ 63)) ≡ true
fits_i64-high n below = grind (arith, ints)

pub twos_complement-fits : (n scale : ℕ) → n < scale → scale ≤ 2 ^ 63 → fits_i64 (twos_complement scale n) ≡ true
twos_complement-fits n scale below bound = grind (arith, ints)

pub twos_complement-low : (n tenth : ℕ) → n < 2 ^ 63 → tenth ≡ 0 → twos_complement (2 ^ 70) (n + tenth * 2 ^ 63) ≡ pos n
twos_complement-low n tenth below zero_is = grind (arith, ints)

pub twos_complement-high : (n tenth : ℕ) → n < 2 ^ 63 → tenth ≡ 127 → twos_complement (2 ^ 70) (n + tenth * 2 ^ 63) ≡ pos n -ℤ pos (2 ^ 63)
twos_complement-high n tenth below ones = grind (arith, ints)

pub misfits : (n tenth : ℕ) → n < 2 ^ 63 → (tenth ≡ 0 → ⊥) → (tenth ≡ 127 → ⊥) → tenth < 128 → fits_i64 (twos_complement (2 ^ 70) (n + tenth * 2 ^ 63)) ≡ false
misfits n tenth below not_zero not_ones last = grind (arith, ints)

-- a number is read where it is whole and fits
module _ {X : Type 0} (value : List ℕ → X) (fits : X → Bool) (bytes : List ℕ) where
  pub leb_at-whole : (k : ℕ) (n : X) → prefix_len goes_on bytes ≡ k → k < length bytes → k < 10 → n ≡ value (take (k + 1) bytes) → fits n ≡ true → leb_at value fits bytes ≡ Ok (n, drop (k + 1) bytes)
  leb_at-whole k n len here few n_is fit =
      rw (len, lt-leb 10 k few, lt-leb (length bytes) k here, ← n_is, fit) refl

  pub leb_at-misfit : (k : ℕ) (n : X) → prefix_len goes_on bytes ≡ k → k < length bytes → k < 10 → n ≡ value (take (k + 1) bytes) → fits n ≡ false → leb_at value fits bytes ≡ Err LebTooLong
  leb_at-misfit k n len here few n_is misfit =
      rw (len, lt-leb 10 k few, lt-leb (length bytes) k here, ← n_is, misfit) refl

  pub leb_at-long : 10 ≤ prefix_len goes_on bytes → leb_at value fits bytes ≡ Err LebTooLong
  leb_at-long long = rw (le-leb 10 (prefix_len goes_on bytes) long) refl

  pub leb_at-short : prefix_len goes_on bytes ≡ length bytes → length bytes < 10 → leb_at value fits bytes ≡ Err Short
  leb_at-short len few =
      rw (len, lt-leb 10 (length bytes) few, le-leb (length bytes) (length bytes) (omega arith)) refl

-- the piece ends before the number
pub record IsCut (bytes : List ℕ) : Type 0 where
  pub unsigned : uleb_at bytes ≡ Err Short
  pub signed : sleb_at bytes ≡ Err Short

pub cut_at : (bytes : List ℕ) (i : ℕ) → prefix_len goes_on bytes ≡ i + prefix_len goes_on (drop i bytes) → i ≡ length bytes → i < 10 → IsCut bytes
unfolding uleb_at sleb_at
cut_at bytes i passed end few =
    let none = prefix_len-drop_all goes_on bytes i (omega arith) in
    let all : prefix_len goes_on bytes ≡ length bytes = omega arith in
    record {
      unsigned = leb_at-short unsigned_value fits_u64 bytes all (omega arith);
      signed = leb_at-short signed_value fits_i64 bytes all (omega arith);
    }

-- the digits of a number of at most nine
module _ (bytes : List ℕ) (value count scale : ℕ) (whole : IsWhole bytes value count scale) where
  worth : IsWorth bytes count value scale
  worth = record { within = whole.there; value_is = whole.value_is; scale_is = whole.scale_is }

  pub whole_below : value < scale
  whole_below = IsWorth-lt bytes count value scale worth

  whole_bound : scale ≤ 2 ^ 63
  whole_bound = scale-le bytes count value scale worth whole.at_most_nine

  pub whole_scale : IsScale scale
  whole_scale = scale_power count scale (omega (arith, whole.last)) whole.at_most_nine whole.scale_is

  pub uleb_at-whole : uleb_at bytes ≡ Ok (value, drop count bytes)
  unfolding uleb_at
  uleb_at-whole =
      let there = whole.there in
      let few = whole.at_most_nine in
      let below = whole_below in
      let bound = whole_bound in
      rw (← whole.last)
      (leb_at-whole unsigned_value fits_u64 bytes (prefix_len goes_on bytes) value refl (omega (arith, whole.last)) (omega (arith, whole.last)) (rw whole.last whole.value_is) (lt-ltb value (2 ^ 64) (omega arith)))

  signed_is : signed_value (take count bytes) ≡ twos_complement scale value
  signed_is = signed_value-worth bytes count value scale worth

  pub sleb_at-whole : sleb_at bytes ≡ Ok (twos_complement scale value, drop count bytes)
  unfolding sleb_at
  sleb_at-whole =
      let there = whole.there in
      let few = whole.at_most_nine in
      rw (← whole.last)
      (leb_at-whole signed_value fits_i64 bytes (prefix_len goes_on bytes) (twos_complement scale value) refl (omega (arith, whole.last)) (omega (arith, whole.last)) (rw whole.last (sym signed_is)) (twos_complement-fits value scale whole_below whole_bound))

-- the digits of a number of ten, or more
module _ (bytes : List ℕ) (value tenth : ℕ) (nine : IsNine bytes value tenth) where
  nine_len : tenth < 128 → prefix_len goes_on bytes ≡ 9
  nine_len last =
      elim (cases_lt 9 (prefix_len goes_on bytes)) [
        | inl more ↦
            let goes = leb-true 128 _ (prefix_len_passes goes_on bytes 9 0 more) in
            absurd (omega (arith, nine.tenth_is))
        | inr less ↦ omega (arith, nine.more)
      ]

  nine_long : 128 ≤ tenth → 10 ≤ prefix_len goes_on bytes
  nine_long goes =
      elim (cases_lt 9 (prefix_len goes_on bytes)) [
        | inl more ↦ omega arith
        | inr less ↦
            let len : prefix_len goes_on bytes ≡ 9 = omega (arith, nine.more) in
            let stops = leb-false 128 _ (rw len at (prefix_len_stops goes_on bytes 0 (omega (arith, nine.there)))) in
            absurd (omega (arith, nine.tenth_is))
      ]

  worth_nine : IsWorth bytes 9 value (2 ^ 63)
  worth_nine = record { within = omega (arith, nine.there); value_is = nine.value_is; scale_is = refl }

  worth_ten : tenth < 128 → IsWorth bytes 10 (value + tenth * 2 ^ 63) (2 ^ 70)
  worth_ten last =
      IsWorth-more bytes 9 value (2 ^ 63) tenth worth_nine nine.there (omega (arith, nine.tenth_is))

  pub nine_below : value < 2 ^ 63
  nine_below = IsWorth-lt bytes 9 value (2 ^ 63) worth_nine

  pub uleb_at-ten : (n : ℕ) → n ≡ value + tenth * 2 ^ 63 → tenth ≤ 1 → uleb_at bytes ≡ Ok (n, drop 10 bytes)
  unfolding uleb_at
  uleb_at-ten n n_is small =
      let below = nine_below in
      let ten = worth_ten (omega arith) in
      leb_at-whole unsigned_value fits_u64 bytes 9 n (nine_len (omega arith)) nine.there (omega arith) (n_is ∙ ten.value_is) (lt-ltb n (2 ^ 64) (omega arith))

  pub uleb_at-too_long : 1 < tenth → uleb_at bytes ≡ Err LebTooLong
  unfolding uleb_at
  uleb_at-too_long large =
      elim (cases_lt tenth 128) [
        | inl last ↦ leb_at-misfit unsigned_value fits_u64 bytes 9 (value + tenth * 2 ^ 63) (nine_len last) nine.there (omega arith) (worth_ten last).value_is (le-ltb _ (2 ^ 64) (omega arith))
        | inr goes ↦ leb_at-long unsigned_value fits_u64 bytes (nine_long goes)
      ]

  ten_signed : tenth < 128 → twos_complement (2 ^ 70) (value + tenth * 2 ^ 63) ≡ signed_value (take 10 bytes)
  ten_signed last = sym (signed_value-worth bytes 10 (value + tenth * 2 ^ 63) (2 ^ 70) (worth_ten last))

  pub sleb_at-low : tenth ≡ 0 → sleb_at bytes ≡ Ok (pos value, drop 10 bytes)
  unfolding sleb_at
  sleb_at-low zero_is =
      let below = nine_below in
      let is = twos_complement-low value tenth below zero_is in
      leb_at-whole signed_value fits_i64 bytes 9 (pos value) (nine_len (omega arith)) nine.there (omega arith) (sym is ∙ ten_signed (omega arith)) (fits_i64-low value below)

  pub sleb_at-high : tenth ≡ 127 → sleb_at bytes ≡ Ok (pos value -ℤ pos (2 ^ 63), drop 10 bytes)
  unfolding sleb_at
  sleb_at-high ones =
      let below = nine_below in
      let is = twos_complement-high value tenth below ones in
      leb_at-whole signed_value fits_i64 bytes 9 (pos value -ℤ pos (2 ^ 63)) (nine_len (omega arith)) nine.there (omega arith) (sym is ∙ ten_signed (omega arith)) (fits_i64-high value below)

  pub sleb_at-too_long : (tenth ≡ 0 → ⊥) → (tenth ≡ 127 → ⊥) → sleb_at bytes ≡ Err LebTooLong
  unfolding sleb_at
  sleb_at-too_long not_zero not_ones =
      elim (cases_lt tenth 128) [
        | inl last ↦ leb_at-misfit signed_value fits_i64 bytes 9 _ (nine_len last) nine.there (omega arith) (ten_signed last) (misfits value tenth nine_below not_zero not_ones last)
        | inr goes ↦ leb_at-long signed_value fits_i64 bytes (nine_long goes)
      ]
