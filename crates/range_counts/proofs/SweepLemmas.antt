-- Steps made from changes in the order of their addresses.
use Rattle.std.proofs.Common.{◌≡◌, ℕ, suc, ◌+◌, ◌-◌, ◌^◌, ◌<◌, ◌≤◌, List, [], ◌∷◌, ◌++◌, refl, sym, ap, ◌∙◌, subst, arith, All, inl, inr, length, take, get_or, nat_le, add-one, append-nil, le-leb}
use Rattle.std.specs.Prelude.{filter, sum_by}
use Rattle.std.specs.List.Sorted.{IsNonDecreasingBy}
use Rattle.std.proofs.Math.Path.{fun_ext}
use Rattle.std.proofs.lemmas.Bool.{cases_lt, le-ltb, lt-leb}
use Rattle.std.proofs.lemmas.List.{get_or_default, get_or_past}
use Rattle.std.proofs.lemmas.List.Elements.{filter-append}
use Rattle.std.proofs.lemmas.List.Sums.{sum_by_more, sum_by_more_le}
use Rattle.profile_model.specs.declared.ran_range.RanRange.{RanRange}
use Rattle.profile_model.specs.declared.step.Step.{Step}
use Rattle.profile_model.specs.Hits.{hits_at}
use Rattle.profile_model.specs.Steps.{ground, hits_by, hits_on, last_of}
use Rattle.range_counts.specs.declared.changes.Change.{Change}
use Rattle.range_counts.specs.Changes.{AreSound, address_of, no_change, running_at}
use Rattle.range_counts.specs.Steps.{Ascend, AscendBetween}
use Rattle.range_counts.proofs.ChangeLemmas.{Tell, no_hits, running-hits}
use Rattle.range_counts.proofs.PartLemmas.{filter_is_take}
use Rattle.range_counts.proofs.StepLemmas.{hits_by-is, last_of-push}

AscendBetween-further : (from mid to : ℕ) (xs : List Step) → AscendBetween from mid xs → mid ≤ to → AscendBetween from to xs
AscendBetween-further from mid to [] ascend more = omega (arith, ascend)
AscendBetween-further from mid to (x ∷ xs) ascend more = (ascend.0, AscendBetween-further (suc x.at) mid to xs ascend.1 more)

AscendBetween-push : (from to : ℕ) (xs : List Step) (x : Step) → AscendBetween from x.at xs → x.at < to → AscendBetween from to (xs ++ x ∷ [])
AscendBetween-push from to [] x ascend more = (ascend, more)
AscendBetween-push from to (y ∷ xs) x ascend more = (ascend.0, AscendBetween-push (suc y.at) to xs x ascend.1 more)

-- one more step counts from its address on
low : ℕ → List Step → List Step
low a steps = filter (λ step. nat_le step.at a) steps

hits_on-before : (xs : List Step) (x : Step) (a : ℕ) → a < x.at → hits_on (xs ++ x ∷ []) a ≡ hits_on xs a
unfolding low
hits_on-before xs x a before =
    let none : low a (x ∷ []) ≡ [] = rw (lt-leb x.at a before) refl in
    let all : low a (xs ++ x ∷ []) ≡ low a xs = filter-append (λ step. nat_le step.at a) xs (x ∷ []) ∙ ap (λ ys. low a xs ++ ys) none ∙ append-nil (low a xs) in
    ap (λ (ys : List Step). (last_of ground ys).hits) all

hits_on-from : (xs : List Step) (x : Step) (a : ℕ) → x.at ≤ a → hits_on (xs ++ x ∷ []) a ≡ x.hits
unfolding low
hits_on-from xs x a from =
    let one : low a (x ∷ []) ≡ x ∷ [] = rw (le-leb x.at a from) refl in
    let all : low a (xs ++ x ∷ []) ≡ low a xs ++ x ∷ [] = filter-append (λ step. nat_le step.at a) xs (x ∷ []) ∙ ap (λ ys. low a xs ++ ys) one in
    ap (λ (ys : List Step). (last_of ground ys).hits) all ∙ ap (λ (s : Step). s.hits) (last_of-push ground (low a xs) x)

-- so many changes were gone through: the steps tell what is running before the next one
pub record StepsSoFar (changes : List Change) (i begun ended : ℕ) (steps : List Step) : Type 0 where
  pub begun_is : begun ≡ sum_by (λ change. change.begun) (take i changes)
  pub ended_is : ended ≡ sum_by (λ change. change.ended) (take i changes)
  pub ascend : AscendBetween 0 (address_of changes i) steps
  pub told : (a : ℕ) → a < 2 ^ 64 → a < address_of changes i → hits_on steps a ≡ running_at changes a

-- between two neighbours the changes so far are those that are not above
so_far : (f : Change → ℕ) (changes : List Change) (i a : ℕ) → IsNonDecreasingBy (λ change. change.at) changes → i ≤ length changes → ((k : ℕ) (d : Change) → k < i → (get_or changes k d).at ≤ a) → a < address_of changes i
    → sum_by f (filter (λ change. nat_le change.at a) changes) ≡ sum_by f (take i changes)
so_far f changes i a rise within passed before =
    ap (sum_by f)
    (filter_is_take (λ change. change.at) changes i a (λ k d from below. passed k d below) (λ k d from inside. omega (arith, before, rise i k d from inside, ap (λ (c : Change). c.at) (get_or_default changes i d no_change (omega (arith, from, inside))))) within)

pub StepsSoFar-none : (changes : List Change) (steps : List Step) → IsNonDecreasingBy (λ change. change.at) changes → steps ≡ [] → StepsSoFar changes 0 0 0 steps
StepsSoFar-none changes steps rise none = rw none (record {
  begun_is = refl;
  ended_is = refl;
  ascend = omega arith;
  told = λ a inside before.
      let nothing : (f : Change → ℕ) → sum_by f (filter (λ change. nat_le change.at a) changes) ≡ 0 = λ f. so_far f changes 0 a rise (omega arith) (λ k d below. absurd (omega (arith, below))) before in
      omega (arith, nothing (λ change. change.begun), nothing (λ change. change.ended));
})

-- the sums so far fit, with the next change
pub sum_fits : (f : Change → ℕ) (changes : List Change) (i sum : ℕ) (d : Change) → sum_by f changes < 2 ^ 64 → sum ≡ sum_by f (take i changes) → i < length changes → sum + f (get_or changes i d) < 2 ^ 64
sum_fits f changes i sum d fits is within = omega (arith, fits, is, sum_by_more_le f changes i d within)

sum_more : (f : Change → ℕ) (changes : List Change) (i sum : ℕ) (d : Change) → i < length changes → sum ≡ sum_by f (take i changes) → sum + f (get_or changes i d) ≡ sum_by f (take (suc i) changes)
sum_more f changes i sum d within is = ap (λ n. n + f (get_or changes i d)) is ∙ sym (sum_by_more f changes i d within) ∙ ap (λ n. sum_by f (take n changes)) (add-one i)

-- at the last change of an address all that is not above it was gone through
all_at : (f : Change → ℕ) (changes : List Change) (i a sum : ℕ) (d : Change) → IsNonDecreasingBy (λ change. change.at) changes → i < length changes → sum ≡ sum_by f (take i changes) → (get_or changes i d).at ≤ a → a < address_of changes (suc i)
    → sum_by f (filter (λ change. nat_le change.at a) changes) ≡ sum + f (get_or changes i d)
all_at f changes i a sum d rise within is from before =
    so_far f changes (suc i) a rise (omega (arith, within)) (λ k e below. omega (arith, from, rise k i e (omega (arith, below)) within, ap (λ (c : Change). c.at) (get_or_default changes i e d within))) before
    ∙ sym (sum_more f changes i sum d within is)

-- what has ended has begun
pub ended_fits : (changes : List Change) (i begun ended : ℕ) (steps : List Step) (d : Change) → IsNonDecreasingBy (λ change. change.at) changes → AreSound changes → StepsSoFar changes i begun ended steps → i < length changes
    → address_of changes i < 2 ^ 64 → address_of changes i < address_of changes (i + 1) → ended + (get_or changes i d).ended ≤ begun + (get_or changes i d).begun
ended_fits changes i begun ended steps d rise sound before within inside last =
    let a = address_of changes i in
    let here : (get_or changes i d).at ≡ a = ap (λ (c : Change). c.at) (get_or_default changes i d no_change within) in
    let next = rw add-one at last in
    omega (
      arith,
      all_at (λ change. change.begun) changes i a begun d rise within before.begun_is (omega (arith, here)) next,
      all_at (λ change. change.ended) changes i a ended d rise within before.ended_is (omega (arith, here)) next,
      sound.ended_begun a inside,
    )

-- the next change is the last one of its address: a step more
pub StepsSoFar-last : (changes : List Change) (i begun ended : ℕ) (steps : List Step) (d : Change) → IsNonDecreasingBy (λ change. change.at) changes → AreSound changes → StepsSoFar changes i begun ended steps → i < length changes
    → address_of changes i < address_of changes (i + 1)
    → StepsSoFar changes (suc i) (begun + (get_or changes i d).begun) (ended + (get_or changes i d).ended)
    (steps ++ record { at = (get_or changes i d).at; hits = begun + (get_or changes i d).begun - (ended + (get_or changes i d).ended) } ∷ [])
StepsSoFar-last changes i begun ended steps d rise sound before within last =
    let here : (get_or changes i d).at ≡ address_of changes i = ap (λ (c : Change). c.at) (get_or_default changes i d no_change within) in
    let next = rw add-one at last in
    let step : Step = record { at = (get_or changes i d).at; hits = begun + (get_or changes i d).begun - (ended + (get_or changes i d).ended) } in
    record {
      begun_is = sum_more (λ change. change.begun) changes i begun d within before.begun_is;
      ended_is = sum_more (λ change. change.ended) changes i ended d within before.ended_is;
      ascend = AscendBetween-push 0 (address_of changes (suc i)) steps step (subst (λ to. AscendBetween 0 to steps) (sym here) before.ascend) (omega (arith, here, next));
      told = λ a inside under. elim (cases_lt a (get_or changes i d).at) [
        | inl less ↦ hits_on-before steps step a less ∙ before.told a inside (omega (arith, less, here))
        | inr from ↦
            hits_on-from steps step a from
            ∙ omega (arith, all_at (λ change. change.begun) changes i a begun d rise within before.begun_is from under, all_at (λ change. change.ended) changes i a ended d rise within before.ended_is from under)
      ];
    }

-- others of its address follow
pub StepsSoFar-more : (changes : List Change) (i begun ended : ℕ) (steps : List Step) (d : Change) → IsNonDecreasingBy (λ change. change.at) changes → StepsSoFar changes i begun ended steps → i < length changes
    → address_of changes i < 2 ^ 64 → address_of changes (i + 1) ≤ address_of changes i
    → StepsSoFar changes (suc i) (begun + (get_or changes i d).begun) (ended + (get_or changes i d).ended) steps
StepsSoFar-more changes i begun ended steps d rise before within inside others =
    let same = rw add-one at others in
    record {
      begun_is = sum_more (λ change. change.begun) changes i begun d within before.begun_is;
      ended_is = sum_more (λ change. change.ended) changes i ended d within before.ended_is;
      ascend = AscendBetween-further 0 (address_of changes i) (address_of changes (suc i)) steps before.ascend (elim (cases_lt (suc i) (length changes)) [
        | inl more ↦ rise i (suc i) no_change (omega arith) more
        | inr none ↦ absurd (omega (arith, same, inside, ap (λ (c : Change). c.at) (get_or_past changes (suc i) no_change none)))
      ]);
      told = λ a fits under. before.told a fits (omega (arith, under, same));
    }

pub StepsSoFar-all : (changes : List Change) (i begun ended : ℕ) (steps : List Step) → StepsSoFar changes i begun ended steps → length changes ≤ i → Ascend steps × ((a : ℕ) → a < 2 ^ 64 → hits_on steps a ≡ running_at changes a)
StepsSoFar-all changes i begun ended steps before past =
    let end : address_of changes i ≡ 2 ^ 64 = ap (λ (c : Change). c.at) (get_or_past changes i no_change past) in (
      subst (λ to. AscendBetween 0 to steps) end before.ascend,
      λ a inside. before.told a inside (omega (arith, inside, end)),
    )

-- steps that tell what is running tell the hits of all addresses
pub tell_hits : (ranges : List RanRange) (changes : List Change) (steps : List Step) → All (λ range. range.hi < 2 ^ 64) ranges → Tell (hits_at ranges) changes → ((a : ℕ) → a < 2 ^ 64 → hits_on steps a ≡ running_at changes a)
    → hits_by steps ≡ hits_at ranges
tell_hits ranges changes steps fit tell told = fun_ext (λ a. elim (cases_lt a (2 ^ 64)) [
  | inl inside ↦ hits_by-is steps a inside ∙ told a inside ∙ running-hits (hits_at ranges) changes a tell inside
  | inr behind ↦ rw (le-ltb a (2 ^ 64) behind) (sym (no_hits ranges a fit behind))
])
