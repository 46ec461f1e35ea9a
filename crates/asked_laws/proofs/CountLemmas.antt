-- A count that stands once for each way, and what a kept number adds.
use Rattle.std.proofs.Common.{◌≡◌, ◌<◌, ◌*◌, ◌+◌, ℕ, zero, suc, Bool, true, false, cond, List, [], ◌∷◌, map, filter, sum_by, Option, None, Some, refl, sym, ap, subst, ◌∙◌, inl, inr, arith, add-zero, zero-add}
use Rattle.std.specs.List.Sorted.{IsStrictlySortedBy}
use Rattle.std.specs.Option.{option_map_or}
use Rattle.std.specs.declared.cmp.Ordering.{Ordering}
use Rattle.std.proofs.lemmas.Bool.{true≢false}
use Rattle.profile_laws.proofs.TotalLemmas.{Among, not_among_above}
use Rattle.profile_model.proofs.OrderedLemmas.{Above}
use Rattle.profile_model.proofs.StepLemmas.{same_ways, way_itself}
use Rattle.profile_model.specs.Laws.{TellsApart}
use Rattle.profile_model.specs.Ways.{Way, same_way}
use Rattle.asked_laws.proofs.ListLemmas.{kept_more}

-- a count that stands once for each way
other_ways : (cmp : Way → Way → Ordering) → TellsApart cmp → (count : Way → ℕ) (way : Way) (ways : List Way) → (Among way ways → ⊥)
    → sum_by (λ c. c.1) (filter (λ (c : Way × ℕ). same_way way c.0) (map (λ w. (w, count w)) ways)) ≡ 0
other_ways cmp t count way [] lacks = refl
other_ways cmp t count way (w ∷ ways) lacks =
    kept_more (λ (c : Way × ℕ). same_way way c.0) (λ c. c.1) (w, count w) (map (λ w. (w, count w)) ways)
    ∙ (λ i. by (same_way way w) refl i + other_ways cmp t count way ways (λ there. lacks (inr there)) i)
  where
    by : (b : Bool) → same_way way w ≡ b → cond (same_way way w) (count w) 0 ≡ 0
    by true e = absurd (lacks (inl (same_ways way w e)))
    by false e = ap (λ b. cond b (count w) 0) e

pub own_count : (cmp : Way → Way → Ordering) → TellsApart cmp → (count : Way → ℕ) (way : Way) (ways : List Way) → IsStrictlySortedBy cmp ways
    → ((Among way ways → ⊥) → count way ≡ 0)
    → sum_by (λ c. c.1) (filter (λ (c : Way × ℕ). same_way way c.0) (map (λ w. (w, count w)) ways)) ≡ count way
unfolding IsStrictlySortedBy
own_count cmp t count way [] up none = sym (none (λ there. there))
own_count cmp t count way (w ∷ ways) up none =
    kept_more (λ (c : Way × ℕ). same_way way c.0) (λ c. c.1) (w, count w) (map (λ w. (w, count w)) ways)
    ∙ by (same_way way w) refl (own_count cmp t count way ways up.1)
  where
    rest : ℕ
    rest = sum_by (λ c. c.1) (filter (λ (c : Way × ℕ). same_way way c.0) (map (λ w. (w, count w)) ways))

    by : (b : Bool) → same_way way w ≡ b → (((Among way ways → ⊥) → count way ≡ 0) → rest ≡ count way)
        → cond (same_way way w) (count w) 0 + rest ≡ count way
    by true e more =
        let same : way ≡ w = same_ways way w e in
        let here : cond (same_way way w) (count w) 0 ≡ count way = ap (λ b. cond b (count w) 0) e ∙ ap count (sym same) in
        let others : rest ≡ 0 = other_ways cmp t count way ways (not_among_above cmp t way ways (subst (λ z. Above cmp z ways) (sym same) up.0)) in
        (λ i. here i + others i) ∙ add-zero (count way)
    by false e more =
        let here : cond (same_way way w) (count w) 0 ≡ 0 = ap (λ b. cond b (count w) 0) e in
        let apart : way ≡ w → ⊥ = λ same. true≢false (sym (subst (λ z. same_way way z ≡ true) same (way_itself way)) ∙ e) in
        let others : rest ≡ count way = more (λ lacks. none (λ there. elim there as (λ _. ⊥) [ inl same ↦ apart same | inr r ↦ lacks r ])) in
        (λ i. here i + others i) ∙ zero-add (count way)

pub way_from : (way : Way) (o : Option Way) → option_map_or (same_way way) o false ≡ true → o ≡ Some way
way_from way None e = absurd (true≢false (sym e))
way_from way (Some w) e = ap (λ z. Some z) (sym (same_ways way w e))

pub bool_false : (b : Bool) → (b ≡ true → ⊥) → b ≡ false
bool_false true lacks = absurd (lacks refl)
bool_false false lacks = refl

-- nothing is added where nothing ran
pub part_alike : (n f g : ℕ) (b c : Bool) → (0 < n → b ≡ c) → (0 < n → f ≡ g) → cond b (n * f) 0 ≡ cond c (n * g) 0
part_alike zero f g b c same factor = none f b ∙ sym (none g c)
  where
    zero_times : (m : ℕ) → 0 * m ≡ 0
    zero_times m = omega arith

    none : (m : ℕ) (x : Bool) → cond x (0 * m) 0 ≡ 0
    none m true = zero_times m
    none m false = refl
part_alike (suc n) f g b c same factor = λ i. cond (same (omega arith) i) (suc n * factor (omega arith) i) 0
