-- Ways in order: each line stands below the nearest one before it that it goes on from.
use Rattle.std.proofs.Common.{◌≡◌, ◌⊎◌, ◌<◌, ℕ, suc, ◌==◌, ◌||◌, nat_lt, Bool, true, false, cond, List, [], ◌∷◌, ◌++◌, map, length, Some, refl, sym, ap, ◌∙◌, inl, inr, arith}
use Rattle.std.specs.Prelude.{⊤}
use Rattle.std.specs.Cmp.{IsTotalOrder}
use Rattle.std.specs.Cmp.Lexicographic.{slice_cmp}
use Rattle.std.specs.List.{AllByRecursion}
use Rattle.std.specs.Ordering.{ordering_reverse, ordering_then}
use Rattle.std.specs.declared.cmp.Ordering.{Ordering}
use Rattle.std.specs.declared.cmp.Ordering.TheVariants.{Less, Equal, Greater}
use Rattle.std.proofs.lemmas.Bool.{lt-ltb, le-ltb}
use Rattle.std.proofs.lemmas.Cmp.{tied_itself}
use Rattle.list_lemmas.proofs.Among.{among_all}
use Rattle.profile_model.specs.Profile.{Profile, Line, line_at}
use Rattle.profile_model.specs.Standing.{depth_of, step_of, encloses_if_any, line_above, can_stand, way_above, way_of, ways_of}
use Rattle.profile_model.specs.Ways.{Step, Way, last_step}
use Rattle.profile_laws.proofs.OnceLemmas.{nothing_above}
use Rattle.profile_laws.proofs.TotalLemmas.{Among}
use Rattle.spelling_laws.proofs.WayLemmas.{IsLineWay, but_last, but_last_length, joined, depth_is, step_is, encloses_is}

-- ---- the order of ways

less_or_not : Less ≡ Greater → ⊥
less_or_not e = cc

less_or_same : Less ≡ Equal → ⊥
less_or_same e = cc

-- What stands behind a way and before one that goes on from it by a step, goes on from it.
pub between_is_longer : (cmp : Step → Step → Ordering) → IsTotalOrder cmp → (v x : Way) (s : Step)
    → slice_cmp cmp v x ≡ Less → slice_cmp cmp x (v ++ s ∷ []) ≡ Less → length v < length x
between_is_longer cmp o [] [] s e f = absurd (less_or_same (sym e))
between_is_longer cmp o [] (b ∷ x) s e f = omega arith
between_is_longer cmp o (a ∷ v) [] s e f = absurd (less_or_not (sym e))
between_is_longer cmp o (a ∷ v) (b ∷ x) s e f =
    elim (cmp a b) as (λ r. cmp a b ≡ r → ordering_then r (slice_cmp cmp v x) ≡ Less → suc (length v) < suc (length x)) [
      | Less ↦ λ is _. absurd (less_or_not (sym f ∙ ap (λ r. ordering_then r (slice_cmp cmp x (v ++ s ∷ []))) (o.antisymm b a ∙ ap ordering_reverse is)))
      | Equal ↦ λ is rest.
          let behind : slice_cmp cmp x (v ++ s ∷ []) ≡ Less = sym (ap (λ r. ordering_then r (slice_cmp cmp x (v ++ s ∷ []))) (o.antisymm b a ∙ ap ordering_reverse is)) ∙ f in
          let longer = between_is_longer cmp o v x s rest behind in omega (arith, longer)
      | Greater ↦ λ _ rest. absurd (less_or_not (sym rest))
    ] refl e

-- a way stands before those that go on from it
pub front_is_less : (cmp : Step → Step → Ordering) → IsTotalOrder cmp → (v : Way) (s : Step) → slice_cmp cmp v (v ++ s ∷ []) ≡ Less
front_is_less cmp o [] s = refl
front_is_less cmp o (a ∷ v) s = ap (λ r. ordering_then r (slice_cmp cmp v (v ++ s ∷ []))) (tied_itself o a) ∙ front_is_less cmp o v s

-- ---- what is open

-- Of the ways before, the last one first: this one is the nearest that is no longer than itself.
abbrev pub OpensAt : Way → List Way → Type 0
OpensAt v [] = ⊥
OpensAt v (x ∷ ways) = (x ≡ v) ⊎ ((length v < length x) × OpensAt v ways)

-- What a way goes on from by its last step is open.
abbrev pub HasOpen : Way → List Way → Type 0
HasOpen [] ways = ⊥
HasOpen (s ∷ []) ways = ⊤
HasOpen (s ∷ t ∷ way) ways = OpensAt (s ∷ but_last t way) ways

abbrev pub ArePathed : List Way → Type 0
ArePathed [] = ⊤
ArePathed (way ∷ ways) = HasOpen way ways × ArePathed ways

-- Each stands behind all before it, the last one first.
abbrev pub Descend : (Way → Way → Ordering) → List Way → Type 0
Descend cmp [] = ⊤
Descend cmp (way ∷ ways) = AllByRecursion (λ x. cmp x way ≡ Less) ways × Descend cmp ways

pub opens : (cmp : Step → Step → Ordering) → IsTotalOrder cmp → (v : Way) (s : Step) (ways : List Way)
    → Descend (slice_cmp cmp) ways → AllByRecursion (λ x. slice_cmp cmp x (v ++ s ∷ []) ≡ Less) ways → Among v ways → OpensAt v ways
opens cmp o v s [] down before there = there
opens cmp o v s (x ∷ ways) down before there = elim there as (λ _. OpensAt v (x ∷ ways)) [
  | inl e ↦ inl (sym e)
  | inr r ↦ inr (between_is_longer cmp o v x s (among_all (λ y. slice_cmp cmp y x ≡ Less) v ways down.0 r) before.0, opens cmp o v s ways down.1 before.1 r)
]

-- ---- the lines of ways that have what they go on from open

-- the lines of ways
abbrev pub lines : Profile → List Way → List Line
lines p ways = map (line_at p) ways

module _ (p : Profile) where
  not_above : (x : Way) (n : ℕ) → IsLineWay x → n < length x → nat_lt (depth_of (line_at p x)) n ≡ false
  not_above [] n is longer = absurd is
  not_above (s ∷ x) n is longer = let depth = depth_is p s x is in le-ltb (depth_of (line_at p (s ∷ x))) n (omega (arith, depth, longer))

  is_above : (s : Step) (x : Way) (n : ℕ) → IsLineWay (s ∷ x) → n ≡ suc (length x) → nat_lt (depth_of (line_at p (s ∷ x))) n ≡ true
  is_above s x n is one = let depth = depth_is p s x is in lt-ltb (depth_of (line_at p (s ∷ x))) n (omega (arith, depth, one))

  -- the way of a line, where its parent's is known to be found above
  whole : (way : Way) (ways : List Way) → IsLineWay way → HasOpen way ways
      → ((v : Way) → OpensAt v ways → way_above (lines p ways) (length v) ≡ v)
      → way_above (lines p ways) (depth_of (line_at p way)) ++ step_of (line_at p way) ∷ [] ≡ way
  whole [] ways is onto found = absurd is
  whole (s ∷ []) ways is onto found =
      (λ i. way_above (lines p ways) (depth_is p s [] is i) ++ step_is p s [] is i ∷ [])
      ∙ ap (λ (w : Way). w ++ s ∷ []) (nothing_above (lines p ways))
  whole (s ∷ t ∷ way) ways is onto found =
      (λ i. way_above (lines p ways) (depth_is p s (t ∷ way) is i) ++ step_is p s (t ∷ way) is i ∷ [])
      ∙ ap (λ n. way_above (lines p ways) (suc n) ++ last_step t way ∷ []) (sym (but_last_length t way))
      ∙ ap (λ (w : Way). w ++ last_step t way ∷ []) (found (s ∷ but_last t way) onto)
      ∙ joined s (t ∷ way)

  above_is : (ways : List Way) → AllByRecursion IsLineWay ways → ArePathed ways → (v : Way) → OpensAt v ways → way_above (lines p ways) (length v) ≡ v
  unfolding way_above
  above_is [] all pathed v onto = absurd onto
  above_is (x ∷ ways) all pathed v onto = elim onto as (λ _. way_above (lines p (x ∷ ways)) (length v) ≡ v) [
    | inl e ↦
        ap (λ b. cond b (way_above (lines p ways) (depth_of (line_at p x)) ++ step_of (line_at p x) ∷ []) (way_above (lines p ways) (length v))) (here x e all.0)
        ∙ whole x ways all.0 pathed.0 (above_is ways all.1 pathed.1) ∙ e
    | inr longer ↦
        ap (λ b. cond b (way_above (lines p ways) (depth_of (line_at p x)) ++ step_of (line_at p x) ∷ []) (way_above (lines p ways) (length v)))
        (not_above x (length v) all.0 longer.0)
        ∙ above_is ways all.1 pathed.1 v longer.1
  ]
    where
      here : (x : Way) → x ≡ v → IsLineWay x → nat_lt (depth_of (line_at p x)) (length v) ≡ true
      here [] e is = absurd is
      here (s ∷ rest) e is = is_above s rest (length v) is (sym (ap length e))

  pub way_is : (way : Way) (ways : List Way) → IsLineWay way → HasOpen way ways → AllByRecursion IsLineWay ways → ArePathed ways → way_of (lines p ways) (line_at p way) ≡ way
  way_is way ways is onto all pathed = whole way ways is onto (above_is ways all pathed)

  pub ways_are : (ways : List Way) → AllByRecursion IsLineWay ways → ArePathed ways → ways_of (lines p ways) ≡ ways
  unfolding ways_of
  ways_are [] all pathed = refl
  ways_are (way ∷ ways) all pathed = λ i. way_is way ways all.0 pathed.0 all.1 pathed.1 i ∷ ways_are ways all.1 pathed.1 i

  -- ---- where a line stands

  above_line : (ways : List Way) → AllByRecursion IsLineWay ways → (v : Way) → OpensAt v ways → line_above (lines p ways) (length v) ≡ Some (line_at p v)
  above_line [] all v onto = absurd onto
  above_line (x ∷ ways) all v onto = elim onto as (λ _. line_above (lines p (x ∷ ways)) (length v) ≡ Some (line_at p v)) [
    | inl e ↦ ap (λ b. cond b (Some (line_at p x)) (line_above (lines p ways) (length v))) (here x e all.0) ∙ ap (λ w. Some (line_at p w)) e
    | inr longer ↦ ap (λ b. cond b (Some (line_at p x)) (line_above (lines p ways) (length v))) (not_above x (length v) all.0 longer.0) ∙ above_line ways all.1 v longer.1
  ]
    where
      here : (x : Way) → x ≡ v → IsLineWay x → nat_lt (depth_of (line_at p x)) (length v) ≡ true
      here [] e is = absurd is
      here (s ∷ rest) e is = is_above s rest (length v) is (sym (ap length e))

  pub stands : (way : Way) (ways : List Way) → IsLineWay way → HasOpen way ways → AllByRecursion IsLineWay ways → can_stand (lines p ways) (depth_of (line_at p way)) ≡ true
  unfolding can_stand
  stands [] ways is onto all = absurd is
  stands (s ∷ []) ways is onto all = ap (λ n. (n == 0) || encloses_if_any n (line_above (lines p ways) n)) (depth_is p s [] is)
  stands (s ∷ t ∷ way) ways is onto all =
      let v = s ∷ but_last t way in
      let n = suc (length way) in
      ap (λ n. (n == 0) || encloses_if_any n (line_above (lines p ways) n)) (depth_is p s (t ∷ way) is)
      ∙ ap (λ m. (n == 0) || encloses_if_any n (line_above (lines p ways) m)) (ap suc (sym (but_last_length t way)))
      ∙ ap (λ o. (n == 0) || encloses_if_any n o) (above_line ways all v onto)
      ∙ ap (λ b. (n == 0) || b) (encloses_is p s t way is) ∙ either (n == 0)
    where
      either : (b : Bool) → (b || true) ≡ true
      either true = refl
      either false = refl
