-- Numbers within so many bits.
use Rattle.std.proofs.Common.{◌≡◌, ℕ, ◌^◌, ◌<◌, ◌≤◌, Bool, true, false, nat_eq, List, length, take, drop, Option, Some, None, Ok, Err, refl, arith, inl, inr, ◌∙◌}
use Rattle.std.specs.Prelude.{nat_lt, if◌then◌else◌}
use Rattle.std.specs.Result.{result_ok}
use Rattle.std.proofs.lemmas.Bool.{lt-ltb, le-ltb, cases_lt}
use Rattle.std.specs.List.{starts_with}
use Rattle.std.specs.Cmp.Lexicographic.{pointwise}
use Rattle.std.proofs.lemmas.Cmp.{nat_list_eq_equiv}
use Rattle.text_scan.specs.Numbers.{within}
use Rattle.text_scan.specs.declared.read.NumberFault.{NumberFault}
use Rattle.text_scan.specs.declared.read.NumberFault.TheVariants.{NumberTooLarge}
use Rattle.block_model.specs.Line.{◌>>=◌, within_bits, behind}

-- a choice under `result_ok`
pub chosen : {A : Type 0} (b : Bool) (x : A) (fault : NumberFault) → result_ok (if b then Ok x else Err fault) ≡ (if b then Some x else None)
chosen true x fault = refl
chosen false x fault = refl

pub ok_within : (bits : ℕ) (o : Option ℕ) → result_ok (within bits o) ≡ o >>= within_bits bits
ok_within bits None = refl
ok_within bits (Some n) = chosen (nat_lt n (2 ^ bits)) n NumberTooLarge

-- numbers of fewer bits
pub fits_fewer : (o : Option ℕ) (n : ℕ) → Ok n ≡ within 64 o → n < 2 ^ 44 → Some n ≡ o >>= within_bits 44
fits_fewer None n told small = absurd (cc)
fits_fewer (Some m) n told small =
    elim (cases_lt m (2 ^ 64)) [
      | inl fits ↦
          let at : Ok n ≡ Ok m = rw (lt-ltb m (2 ^ 64) fits) at told in
          let same : n ≡ m = cc in
          rw (← same, lt-ltb n (2 ^ 44) small)
      | inr large ↦ let at : Ok n ≡ Err NumberTooLarge = rw (le-ltb m (2 ^ 64) large) at told in absurd (cc)
    ]

pub passes_fewer : (o : Option ℕ) (n : ℕ) → Ok n ≡ within 64 o → 2 ^ 44 ≤ n → None ≡ o >>= within_bits 44
passes_fewer None n told large = absurd (cc)
passes_fewer (Some m) n told large =
    elim (cases_lt m (2 ^ 64)) [
      | inl fits ↦
          let at : Ok n ≡ Ok m = rw (lt-ltb m (2 ^ 64) fits) at told in
          let same : n ≡ m = cc in
          rw (← same, le-ltb n (2 ^ 44) large)
      | inr over ↦ let at : Ok n ≡ Err NumberTooLarge = rw (le-ltb m (2 ^ 64) over) at told in absurd (cc)
    ]

pub no_number : (o : Option ℕ) (fault : NumberFault) → Err fault ≡ within 64 o → None ≡ o >>= within_bits 44
no_number None fault told = refl
no_number (Some m) fault told =
    elim (cases_lt m (2 ^ 64)) [
      | inl fits ↦ let at : Err fault ≡ Ok m = rw (lt-ltb m (2 ^ 64) fits) at told in absurd (cc)
      | inr over ↦ rw (le-ltb m (2 ^ 44) (omega (arith, over)))
    ]

-- ---- fronts

begins_with : (front word : List ℕ) (v : Bool) → pointwise nat_eq (take (length front) word) front ≡ v → starts_with nat_eq word front ≡ v
begins_with front word v is = nat_list_eq_equiv.symm front (take (length front) word) ∙ is

pub behind_some : (front word rest : List ℕ) → pointwise nat_eq (take (length front) word) front ≡ true → rest ≡ drop (length front) word → Some rest ≡ behind front word
behind_some front word rest is cut = rw (begins_with front word true is, cut)

pub behind_none : (front word : List ℕ) → pointwise nat_eq (take (length front) word) front ≡ false → None ≡ behind front word
behind_none front word is = rw (begins_with front word false is)
