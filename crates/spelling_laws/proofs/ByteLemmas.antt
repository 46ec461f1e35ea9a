-- Bytes of names and of numbers, and the parts of a text between others.
use Rattle.std.proofs.Common.{◌≡◌, ◌<◌, ◌^◌, ℕ, ◌==◌, ◌&&◌, not, Bool, true, false, List, [], ◌∷◌, ◌++◌, refl, sym, ap, subst, ◌∙◌, arith}
use Rattle.std.specs.Prelude.{decimal}
use Rattle.std.specs.Char.{digit_value}
use Rattle.std.specs.List.{AllByRecursion, list_any}
use Rattle.std.specs.Str.Parse.{AllDigits, IsNumeral}
use Rattle.std.proofs.lemmas.Bool.{true≢false, or_parts}
use Rattle.std.proofs.lemmas.Bool.Decides.{nat_tests}
use Rattle.std.proofs.lemmas.Fmt.{decimal_is_IsNumeral_wide}
use Rattle.std.proofs.lemmas.List.Elements.{All-from_recursion}
use Rattle.std.proofs.lemmas.List.Splits.{slice_split_at, slice_split_none}
use Rattle.list_lemmas.proofs.Each.{all_append}
use Rattle.profile_model.specs.Names.{begins_no_name, is_name, parts_names}
use Rattle.profile_model.specs.Reading.{parts_at}

-- No byte has this value.
abbrev pub Lacks : ℕ → List ℕ → Type 0
Lacks c bytes = AllByRecursion (λ b. (b == c) ≡ false) bytes

-- A byte that is no digit.
abbrev pub IsNoDigit : ℕ → Type 0
IsNoDigit c = digit_value c < 10 → ⊥

other_byte : (b c : ℕ) → (b ≡ c → ⊥) → (b == c) ≡ false
other_byte b c apart = grind (arith, nat_tests)

pub digits_lack : (c : ℕ) → IsNoDigit c → (ds : List ℕ) → AllDigits 10 ds → Lacks c ds
digits_lack c none [] all = tt
digits_lack c none (d ∷ ds) all =
    (other_byte d c (λ e. none (subst (λ (b : ℕ). digit_value b < 10) e all.0)), digits_lack c none ds all.1)

pub numeral_of : (n : ℕ) → n < 2 ^ 64 → IsNumeral 10 (decimal n)
numeral_of n small = (decimal_is_IsNumeral_wide n (omega (arith, small))).0

pub decimal_lacks : (c n : ℕ) → IsNoDigit c → n < 2 ^ 64 → Lacks c (decimal n)
decimal_lacks c n none small = digits_lack c none (decimal n) (numeral_of n small).1

name_parts : (c : ℕ) → parts_names c ≡ true → (bytes : List ℕ) → list_any parts_names bytes ≡ false → Lacks c bytes
name_parts c is [] none = tt
name_parts c is (b ∷ bytes) none =
    let neither = or_parts (parts_names b) (list_any parts_names bytes) none in
    (other_byte b c (λ e. true≢false (sym is ∙ ap parts_names (sym e) ∙ neither.0)), name_parts c is bytes neither.1)

-- What is known of a name.
pub record NameParts (name : List ℕ) : Type 0 where
  pub first : ℕ
  pub rest : List ℕ
  pub is : name ≡ first ∷ rest
  pub begins : begins_no_name first ≡ false
  pub clean : list_any parts_names name ≡ false

pub name_known : (name : List ℕ) → is_name name ≡ true → NameParts name
name_known [] is = absurd (true≢false (sym is))
name_known (b ∷ bytes) is = by (begins_no_name b) (list_any parts_names (b ∷ bytes)) refl refl is
  where
    by : (x y : Bool) → begins_no_name b ≡ x → list_any parts_names (b ∷ bytes) ≡ y → (not x && not y) ≡ true → NameParts (b ∷ bytes)
    by true y e f g = absurd (true≢false (sym g))
    by false true e f g = absurd (true≢false (sym g))
    by false false e f g = record { first = b; rest = bytes; is = refl; begins = e; clean = f }

pub name_lacks : (c : ℕ) (name : List ℕ) → parts_names c ≡ true → is_name name ≡ true → Lacks c name
name_lacks c name parts is = name_parts c parts name (name_known name is).clean

-- ---- parts

pub parts_none : (c : ℕ) (bytes : List ℕ) → Lacks c bytes → parts_at c bytes ≡ bytes ∷ []
parts_none c bytes lacks = slice_split_none (λ b. b == c) bytes (All-from_recursion (λ b. (b == c) ≡ false) bytes lacks)

pub parts_first : (c : ℕ) (bytes rest : List ℕ) → Lacks c bytes → parts_at c (bytes ++ c ∷ rest) ≡ bytes ∷ parts_at c rest
parts_first c bytes rest lacks =
    slice_split_at (λ b. b == c) bytes c rest (All-from_recursion (λ b. (b == c) ≡ false) bytes lacks) (itself c)
  where
    itself : (n : ℕ) → (n == n) ≡ true
    itself n = grind (arith, nat_tests)

pub both_lack : (c : ℕ) (xs ys : List ℕ) → Lacks c xs → Lacks c ys → Lacks c (xs ++ ys)
both_lack c xs ys one other = all_append (λ b. (b == c) ≡ false) xs ys one other
