-- The counts so far.
use Rattle.std.proofs.Common.{◌≡◌, ◌≢◌, ◌⊎◌, ◌≤◌, ◌<◌, ℕ, ◌+◌, ◌*◌, ◌-◌, ◌^◌, max, map, List, [], ◌∷◌, ◌++◌, drop, take, length, get_or, set, replicate, sym, ap, subst, ◌∙◌, inl, inr, arith, get_or-set_same, get_or-set_other}
use Rattle.std.specs.List.{AllByRecursion}
use Rattle.std.proofs.lemmas.List.{take_more, drop_more, length-replicate, length-set, get_or-replicate}
use Rattle.profile_model.specs.Hits.{IsLargestIn}
use Rattle.key_types.specs.declared.places.Seg.{Seg}
use Rattle.address_spans.specs.Spans.{AreBetween}
use Rattle.address_spans.proofs.SpanLemmas.{AreBetween-lower}
use Rattle.key_types.specs.Segments.{span_of}
use Rattle.profile_lists.specs.Segments.{AllFit, Attains, GivesNoMore, OneIs, IsSegmentCount, AreCounts}
use Rattle.std.proofs.Math.Nat.{mul-le-mul_right}

one_left : (P : Seg → Type 0) (xs ys : List Seg) → OneIs P xs → OneIs P (xs ++ ys)
one_left P [] ys h = absurd h
one_left P (x ∷ xs) ys h = elim h as (λ _. P x ⊎ OneIs P (xs ++ ys)) [ inl p ↦ inl p | inr q ↦ inr (one_left P xs ys q) ]

one_right : (P : Seg → Type 0) (xs : List Seg) (y : Seg) → P y → OneIs P (xs ++ y ∷ [])
one_right P [] y p = inl p
one_right P (x ∷ xs) y p = inr (one_right P xs y p)

all_push : (P : Seg → Type 0) (xs : List Seg) (y : Seg) → AllByRecursion P xs → P y → AllByRecursion P (xs ++ y ∷ [])
all_push P [] y all p = (p, tt)
all_push P (x ∷ xs) y all p = (all.0, all_push P xs y all.1 p)

all_more : (hits : ℕ → ℕ) (key low high : ℕ) (xs : List Seg) → low ≤ high → AllByRecursion (GivesNoMore hits key low) xs → AllByRecursion (GivesNoMore hits key high) xs
all_more hits key low high [] h all = tt
all_more hits key low high (x ∷ xs) h all = ((λ a f b k. let g : hits a * x.factor ≤ low = all.0 a f b k in omega arith), all_more hits key low high xs h all.1)

-- a segment of another key changes nothing
other_key : (hits : ℕ → ℕ) (key count : ℕ) (xs : List Seg) (y : Seg) → (y.key.0 ≢ key) → IsSegmentCount xs hits key count → IsSegmentCount (xs ++ y ∷ []) hits key count
other_key hits key count xs y ne is = record {
  attained = elim (is.attained) as (λ _. (count ≡ 0) ⊎ OneIs (Attains hits key count) (xs ++ y ∷ [])) [ inl z ↦ inl z | inr o ↦ inr (one_left (Attains hits key count) xs (y ∷ []) o) ];
  largest = all_push (GivesNoMore hits key count) xs y is.largest (λ a f b k. absurd (ne k));
}

-- a segment of the key raises its count
raised_key : (hits : ℕ → ℕ) (key old count : ℕ) (xs : List Seg) (y : Seg) → old ≤ count → ((count ≡ old) ⊎ Attains hits key count y) → GivesNoMore hits key count y → IsSegmentCount xs hits key old → IsSegmentCount (xs ++ y ∷ []) hits key count
raised_key hits key old count xs y h from no_more is = record {
  attained = elim from as (λ _. (count ≡ 0) ⊎ OneIs (Attains hits key count) (xs ++ y ∷ [])) [
    | inl same ↦ elim (is.attained) as (λ _. (count ≡ 0) ⊎ OneIs (Attains hits key count) (xs ++ y ∷ [])) [
      | inl z ↦ inl (same ∙ z)
      | inr o ↦ inr (one_left (Attains hits key count) xs (y ∷ []) (subst (λ n. OneIs (Attains hits key n) xs) (sym same) o))
    ]
    | inr g ↦ inr (one_right (Attains hits key count) xs y g)
  ];
  largest = all_push (GivesNoMore hits key count) xs y (all_more hits key old count xs h is.largest) no_more;
}

max_cases : (a b : ℕ) → (max a b ≡ a) ⊎ (max a b ≡ b)
max_cases a b = grind arith

same_or_not : (a b : ℕ) → (a ≡ b) ⊎ (a ≢ b)
same_or_not a b = grind arith

-- one segment more
pub one_more_segment : (hits : ℕ → ℕ) (counts : List ℕ) (xs : List Seg) (y : Seg) (largest : ℕ) → y.key.0 < length counts → IsLargestIn y.lo y.hi hits largest → AreCounts xs hits counts → AreCounts (xs ++ y ∷ []) hits (set counts y.key.0 (max (get_or counts y.key.0 0) (largest * y.factor)))
one_more_segment hits counts xs y largest h is all key below =
    let n = y.key.0 in
    let old = get_or counts n 0 in
    let new = max old (largest * y.factor) in
    let long : key < length counts = omega (arith, length-set {A = ℕ} counts n new) in
    elim (same_or_not n key) as (λ _. IsSegmentCount (xs ++ y ∷ []) hits key (get_or (set counts n new) key 0)) [
      | inl same ↦
          let value : get_or (set counts n new) key 0 ≡ new = ap (λ k. get_or (set counts n new) k 0) (sym same) ∙ get_or-set_same counts n new 0 h in
          let was : IsSegmentCount xs hits key old = subst (λ k. IsSegmentCount xs hits k old) same (all n h) in
          let no_more : GivesNoMore hits key new y = λ a f b k.
          let m : hits a * y.factor ≤ largest * y.factor = mul-le-mul_right y.factor (is.bounded a f b) in omega arith in
          let from : (new ≡ old) ⊎ Attains hits key new y = elim (max_cases old (largest * y.factor)) as (λ _. (new ≡ old) ⊎ Attains hits key new y) [
            | inl e ↦ inl e
            | inr e ↦ inr (record { at = is.attained.0; from = is.attained.1; below = is.attained.2; key_is = same; count_is = ap (λ m. m * y.factor) is.attained.3 ∙ sym e })
          ] in
          subst (λ c. IsSegmentCount (xs ++ y ∷ []) hits key c) (sym value) (raised_key hits key old new xs y (omega arith) from no_more was)
      | inr ne ↦
          let value : get_or (set counts n new) key 0 ≡ get_or counts key 0 = get_or-set_other counts n key new 0 (λ e. ne (sym e)) in
          subst (λ c. IsSegmentCount (xs ++ y ∷ []) hits key c) (sym value) (other_key hits key (get_or counts key 0) xs y ne (all key long))
    ]

pub no_segments : (hits : ℕ → ℕ) (n : ℕ) → AreCounts [] hits (replicate n 0)
no_segments hits n key below =
    let h : key < n = omega (arith, length-replicate {A = ℕ} n 0) in
    record { attained = inl (get_or-replicate {A = ℕ} n key 0 0 h); largest = tt }

-- segments lie from an address on, one behind the other
abbrev pub LieFrom : ℕ → List Seg → Type 0
LieFrom from segments = AreBetween from (2 ^ 64 - 1) (map span_of segments)

-- what is left of segments in order
pub left_in_order : (from : ℕ) (xs : List Seg) (i : ℕ) (d : Seg) → i < length xs → LieFrom from (drop i xs) → LieFrom from (get_or xs i d ∷ drop (i + 1) xs)
left_in_order from xs i d h up = subst (LieFrom from) (drop_more xs i d h) up

pub left_fit : (keys : ℕ) (xs : List Seg) (i : ℕ) (d : Seg) → i < length xs → AllFit keys (drop i xs) → AllFit keys (get_or xs i d ∷ drop (i + 1) xs)
left_fit keys xs i d h up = subst (AllFit keys) (drop_more xs i d h) up

pub record CountsSoFar (hits : ℕ → ℕ) (segments : List Seg) (keys i from : ℕ) (counts : List ℕ) : Type 0 where
  pub len : length counts ≡ keys
  pub ahead : LieFrom from (drop i segments)
  pub fit : AllFit keys (drop i segments)
  pub so_far : AreCounts (take i segments) hits counts

pub segment_step : (hits : ℕ → ℕ) (segments : List Seg) (keys i from behind largest : ℕ) (d : Seg) (counts new : List ℕ) → i < length segments → CountsSoFar hits segments keys i from counts → IsLargestIn (get_or segments i d).lo (get_or segments i d).hi hits largest → behind ≤ (get_or segments i d).hi → new ≡ set counts (get_or segments i d).key.0 (max (get_or counts (get_or segments i d).key.0 0) (largest * (get_or segments i d).factor)) → CountsSoFar hits segments keys (i + 1) behind new
segment_step hits segments keys i from behind largest d counts new h far is up e =
    let y = get_or segments i d in
    let order : LieFrom from (y ∷ drop (i + 1) segments) = left_in_order from segments i d h far.ahead in
    let fits : AllFit keys (y ∷ drop (i + 1) segments) = left_fit keys segments i d h far.fit in
    let value = max (get_or counts y.key.0 0) (largest * y.factor) in
    let in_range : y.key.0 < length counts = omega (arith, fits.0, far.len) in
    record {
      len = ap length e ∙ length-set counts y.key.0 value ∙ far.len;
      ahead = AreBetween-lower y.hi behind (2 ^ 64 - 1) (map span_of (drop (i + 1) segments)) order.2 up;
      fit = fits.2;
      so_far = subst (λ xs. AreCounts xs hits new) (sym (take_more segments i d h)) (subst (AreCounts (take i segments ++ y ∷ []) hits) (sym e) (one_more_segment hits counts (take i segments) y largest in_range is far.so_far));
    }
