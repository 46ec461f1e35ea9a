-- Where a text ends.
use Rattle.std.proofs.Common.{◌≡◌, ◌+◌, ◌-◌, ◌<◌, ◌≤◌, ◌==◌, ℕ, Bool, true, false, not, cond, nat_eq, nat_lt, nat_le, List, length, take, drop, get_or, Option, None, Some, is_none, refl, sym, ap, subst, ◌∙◌, length-drop, arith}
use Rattle.std.specs.Prelude.{position, slice_range}
use Rattle.std.specs.Option.{option_eq, option_map, option_map_or}
use Rattle.std.specs.Str.{bytes_eq}
use Rattle.std.specs.List.{position_or_len}
use Rattle.std.proofs.lemmas.List.{take_rest, get_or-take, get_or-drop, length-take-le, take-take}
use Rattle.std.proofs.lemmas.List.Quantifiers.{position-Some}
use Rattle.std.proofs.lemmas.List.Sums.{prefix_len_passes}
use Rattle.elf_model.specs.Sections.{text_at}
use Rattle.std.proofs.lemmas.Bool.{le-ltb, lt-ltb, ltb-true, ltb-false, leb-true, leb-false, le-leb, eqb-true, eq-eqb}
use Rattle.std.proofs.lemmas.Slice.Eq.{bytes_eq-Decides}
use Rattle.memchr.specs.Find.{IsFirstByte, IsLastByte, Nowhere, Passes, is_byte}
use Rattle.byte_view.proofs.TextLemmas.{position-of_first, position-of_none}
use Rattle.elf_sections.specs.Texts.{EndsAt}

abbrev pub is_nul : ℕ → Bool
is_nul byte = byte == 0

-- the place of the first NUL
position-from_first : (hay : List ℕ) (r : Option ℕ) → IsFirstByte (is_byte 0) hay r → position (λ byte. byte == 0) hay ≡ r
position-from_first hay None h =
    rw (position-of_none hay h, le-ltb (length hay) (length hay) (omega arith)) refl
position-from_first hay (Some k) h =
    rw (position-of_first hay k h, lt-ltb k (length hay) h.0.high) refl

-- ---- where texts end

-- no text stands where no NUL follows
text_at-none : (table : List ℕ) (at : ℕ) → Nowhere (Passes (is_byte 0) table) at (length table) → is_none (text_at table at) ≡ true
text_at-none table at nowhere =
    let len = length-drop at table in
    let none : IsFirstByte (is_byte 0) (drop at table) None =
    λ i low high nul. nowhere (at + i) (omega arith) (omega (arith, len, high)) (sym (ap (λ x. x == 0) (get_or-drop at table i 0)) ∙ nul) in
    ap (λ r. is_none (option_map (λ end. take end (drop at table)) r)) (position-from_first (drop at table) None none)

-- a text stands where a NUL follows
text_at-some : (table : List ℕ) (at k : ℕ) → at ≤ k → k < length table → Passes (is_byte 0) table k → is_none (text_at table at) ≡ false
text_at-some table at k low high nul = by (nat_lt (position_or_len is_nul rest) (length rest)) refl
  where
    rest : List ℕ
    rest = drop at table

    at_k : is_nul (get_or rest (k - at) 0) ≡ true
    at_k = let same : at + (k - at) ≡ k = omega (arith, low) in
        ap is_nul (get_or-drop at table (k - at) 0 ∙ ap (λ i. get_or table i 0) same) ∙ nul

    by : (b : Bool) → nat_lt (position_or_len is_nul rest) (length rest) ≡ b → is_none (option_map (λ end. take end rest) (cond b (Some (position_or_len is_nul rest)) None)) ≡ false
    by true e = refl
    by false e =
        let len = length-drop at table in
        let far = ltb-false (position_or_len is_nul rest) (length rest) e in
        let before = prefix_len_passes (λ byte. not (is_nul byte)) rest (k - at) 0 (omega (arith, low, high, len, far)) in
        let no : false ≡ true = sym (ap not at_k) ∙ before in absurd (cc)

-- texts end behind the last NUL
pub EndsAt-last : (table : List ℕ) (k : ℕ) → IsLastByte (is_byte 0) table (Some k) → EndsAt table (k + 1)
EndsAt-last table k is at = by (nat_le (k + 1) at) refl
  where
    by : (b : Bool) → nat_le (k + 1) at ≡ b → is_none (text_at table at) ≡ b
    by true e = let behind = leb-true (k + 1) at e in text_at-none table at (λ i low high. is.0.after i (omega (arith, low, behind)) high)
    by false e = let before = leb-false (k + 1) at e in text_at-some table at k (omega (arith, before)) is.0.high is.1

-- there are none where there is no NUL
pub EndsAt-none : (table : List ℕ) → IsLastByte (is_byte 0) table None → EndsAt table 0
EndsAt-none table nowhere at = text_at-none table at (λ i low high. nowhere i (omega arith) high) ∙ sym (le-leb 0 at (omega arith))

-- ---- whether a text is one

-- a text of another length is another
text-of_other_length : (rest name : List ℕ) (r : Option ℕ) → position is_nul rest ≡ r → (r ≡ Some (length name) → ⊥)
    → option_map_or (bytes_eq name) (option_map (λ end. take end rest) r) false ≡ false
text-of_other_length rest name None e other = refl
text-of_other_length rest name (Some k) e other =
    let found = position-Some is_nul rest k 0 e in
    let len = length-take-le k rest (omega (arith, found.0)) in
    by (bytes_eq name (take k rest)) refl len
  where
    by : (b : Bool) → bytes_eq name (take k rest) ≡ b → length (take k rest) ≡ k → b ≡ false
    by true e len = absurd (other (ap (λ n. Some n) (sym len ∙ sym (ap length ((bytes_eq-Decides name (take k rest)).0 e)))))
    by false e len = refl

module _ (rest bytes : List ℕ) (n : ℕ) (bytes_are : bytes ≡ take (n + 1) rest) (reach : n + 1 ≤ length rest) where
  get-bytes : (i : ℕ) → i < n + 1 → get_or bytes i 0 ≡ get_or rest i 0
  get-bytes i below = ap (λ xs. get_or xs i 0) bytes_are ∙ get_or-take (n + 1) rest i 0 below

  bytes_len : length bytes ≡ n + 1
  bytes_len = ap length bytes_are ∙ length-take-le (n + 1) rest reach

  -- the first NUL of the bytes up to there is the first of all
  position-in_reach : IsFirstByte (is_byte 0) bytes (Some n) → position is_nul rest ≡ Some n
  position-in_reach is = position-from_first rest (Some n) (record {
    0 = record { low = omega arith; high = omega (arith, reach); before = λ i low below nul. is.0.before i low below (ap is_nul (get-bytes i (omega (arith, below))) ∙ nul) };
    1 = sym (ap is_nul (get-bytes n (omega arith))) ∙ is.1;
  })

  -- and the first of all is found there
  position-found : (r : Option ℕ) → IsFirstByte (is_byte 0) bytes r → position is_nul rest ≡ Some n → r ≡ Some n
  position-found None nowhere e =
      let found = position-Some is_nul rest n 0 e in
      absurd (nowhere n (omega arith) (omega (arith, bytes_len)) (ap is_nul (get-bytes n (omega arith)) ∙ found.1))
  position-found (Some k) is e = by (nat_lt k n) refl
    where
      by : (b : Bool) → nat_lt k n ≡ b → Some k ≡ Some n
      by true below =
          let found = position-Some is_nul rest n 0 e in
          let before = ltb-true k n below in
          let no : false ≡ true = sym (found.2 k before) ∙ sym (ap is_nul (get-bytes k (omega (arith, before)))) ∙ is.1 in absurd (cc)
      by false above =
          let behind = ltb-false k n above in
          ap (λ i. Some i) (omega (arith, behind, is.0.high, bytes_len))

  -- the bytes before the first NUL there are the text
  pub text-in_reach : (name : List ℕ) → length name ≡ n → IsFirstByte (is_byte 0) bytes (Some n)
      → option_map_or (bytes_eq name) (option_map (λ end. take end rest) (position is_nul rest)) false ≡ bytes_eq name (take n bytes)
  text-in_reach name len is =
      let shorter = take-take n (n + 1) rest (omega arith) in
      ap (λ r. option_map_or (bytes_eq name) (option_map (λ end. take end rest) r) false) (position-in_reach is)
      ∙ ap (bytes_eq name) (sym shorter ∙ ap (take n) (sym bytes_are))

  -- it is another where they have no NUL, or one before the last of them
  pub text-other : (name : List ℕ) (r : Option ℕ) → length name ≡ n → IsFirstByte (is_byte 0) bytes r → (r ≡ Some n → ⊥)
      → option_map_or (bytes_eq name) (option_map (λ end. take end rest) (position is_nul rest)) false ≡ false
  text-other name r len is other =
      text-of_other_length rest name _ refl (λ found. other (position-found r is (found ∙ ap (λ i. Some i) len)))

-- ---- as the code asks

found-at : (r : Option ℕ) (n : ℕ) → option_eq nat_eq r (Some n) ≡ true → r ≡ Some n
found-at None n e = let no : false ≡ true = e in absurd (cc)
found-at (Some k) n e = ap (λ i. Some i) (eqb-true k n e)

not_found-at : (r : Option ℕ) (n : ℕ) → option_eq nat_eq r (Some n) ≡ false → r ≡ Some n → ⊥
not_found-at r n e is = let no : false ≡ true = sym e ∙ ap (λ x. option_eq nat_eq x (Some n)) is ∙ eq-eqb n n refl in cc

module _ (table rest bytes name : List ℕ) (at : ℕ) (r : Option ℕ) (rest_is : rest ≡ slice_range table at (length table))
    (bytes_is : bytes ≡ slice_range rest 0 (length name + 1)) (reach : length name + 1 ≤ length rest) (is : IsFirstByte (is_byte 0) bytes r) where
  follows : rest ≡ drop at table
  follows = rest_is ∙ take_rest table at

  bytes-follow : bytes ≡ take (length name + 1) rest
  bytes-follow = let all : length name + 1 - 0 ≡ length name + 1 = omega arith in bytes_is ∙ ap (λ n. take n rest) all

  -- another text stands at an index where the first NUL does not stand behind as many bytes as the text has
  pub text-is_other : not (option_eq nat_eq r (Some (length name))) ≡ true → false ≡ option_map_or (bytes_eq name) (text_at table at) false
  text-is_other e = by (option_eq nat_eq r (Some (length name))) refl e
    where
      by : (b : Bool) → option_eq nat_eq r (Some (length name)) ≡ b → not b ≡ true → false ≡ option_map_or (bytes_eq name) (text_at table at) false
      by true same differs = let not_so : false ≡ true = differs in absurd (cc)
      by false same differs =
          let other = text-other rest bytes (length name) bytes-follow reach name r refl is (not_found-at r (length name) same) in
          sym (ap (λ xs. option_map_or (bytes_eq name) (option_map (λ end. take end xs) (position is_nul xs)) false) (sym follows) ∙ other)

  -- and where it does, the bytes before it are compared
  pub text-is_compared : not (option_eq nat_eq r (Some (length name))) ≡ false
      → bytes_eq name (take (length name) bytes) ≡ option_map_or (bytes_eq name) (text_at table at) false
  text-is_compared e = by (option_eq nat_eq r (Some (length name))) refl e
    where
      by : (b : Bool) → option_eq nat_eq r (Some (length name)) ≡ b → not b ≡ false
          → bytes_eq name (take (length name) bytes) ≡ option_map_or (bytes_eq name) (text_at table at) false
      by false same equal = let not_so : true ≡ false = equal in absurd (cc)
      by true same equal =
          let found = found-at r (length name) same in
          let compared = text-in_reach rest bytes (length name) bytes-follow reach name refl (subst (λ x. IsFirstByte (is_byte 0) bytes x) found is) in
          sym (ap (λ xs. option_map_or (bytes_eq name) (option_map (λ end. take end xs) (position is_nul xs)) false) (sym follows) ∙ compared)
