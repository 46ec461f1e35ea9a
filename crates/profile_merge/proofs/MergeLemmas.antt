-- Sums by numbers are those of profiles by names.
use Rattle.std.proofs.Common.{◌≡◌, ◌⊎◌, ℕ, ◌+◌, ◌*◌, ◌^◌, ◌<◌, ◌≤◌, ◌==◌, Bool, true, false, cond, ◌&&◌, List, [], ◌∷◌, map, length, Some, refl, sym, ap, subst, ◌∙◌, inl, inr, arith, zero-add}
use Rattle.std.specs.Prelude.{find, nat_le, slice_index, sum_by}
use Rattle.std.specs.List.{AllByRecursion, IsDistinct, range_with_len}
use Rattle.std.specs.Map.{keys_of, lookup}
use Rattle.std.specs.Option.{option_map, unwrap_or}
use Rattle.std.proofs.lemmas.Bool.{cases_lt}
use Rattle.std.proofs.lemmas.Bool.Decides.{nat_tests}
use Rattle.std.proofs.lemmas.List.{get_or_past}
use Rattle.std.proofs.lemmas.List.Sums.{sum_by-cons}
use Rattle.std.specs.Cmp.Lexicographic.{bytes_decides}
use Rattle.key_types.specs.declared.ids.KeyId.{KeyId}
use Rattle.key_types.specs.declared.ids.NameId.{NameId}
use Rattle.key_types.specs.declared.key.Key.{Key}
use Rattle.refusal.specs.Place.{fails_at, first_bad}
use Rattle.profile_laws.proofs.CountLemmas.{lines_are_by_counts}
use Rattle.profile_laws.proofs.OnceLemmas.{way_told}
use Rattle.profile_model.specs.Merge.{nothing, sum_items}
use Rattle.profile_model.specs.Profile.{Profile, count_of, target_of, head_of}
use Rattle.profile_model.specs.Spelled.{What as ToldWhat, head, count, target, number_in}
use Rattle.profile_model.specs.Ways.{Way, same_name, same_way}
use Rattle.profile_tree.proofs.ListLemmas.{Among, all_among, among_range, and_first, and_second, bool_cases, one_of_range, sum_filter, sum_map, sum_none, sum_same}
use Rattle.profile_tree.proofs.WayLemmas.{same_ways}
use Rattle.profile_tree.specs.Said.{way_at}
use Rattle.profile_tree.specs.Steps.{name_at}
use Rattle.profile_text.proofs.OpenLemmas.{kept_grows}
use Rattle.profile_text.proofs.ToldLemmas.{what_grows}
use Rattle.profile_text.specs.Draft.{IsGivenWhat, number_told, what_told}
use Rattle.profile_text.specs.Numbers.{counted}
use Rattle.profile_text.specs.declared.item.Item.{Item}
use Rattle.profile_text.specs.declared.item.What.{What}
use Rattle.profile_text.specs.declared.item.What.TheVariants.{Head, Count, Target}
use Rattle.profile_merge.proofs.CalledLemmas.{targets_same}
use Rattle.profile_merge.proofs.TellLemmas.{name_is, name_told, number_in_weighed_both, number_is, told_by_items, way_is, what_once, what_same}
use Rattle.profile_merge.specs.Called.{Target as CalledFrom, IsGivenTarget, called_sum, same_target}
use Rattle.profile_merge.specs.Laws.{AreNumbered, NothingIsSummed, SumsStayWithMore, RaisedSumsCountBoth, FirstOverIsFirstBad, LinesAreOfSums, SumsAreByCounts, place_over}
use Rattle.profile_merge.specs.Sums.{AreSumsOf, Sums, first_over, is_over, sum_in}
use Rattle.profile_merge.specs.Told.{AreSumsIn, IsToldBy, no_sums, sums_told}

-- ---- nothing
pub nothing_is_summed : NothingIsSummed
unfolding IsDistinct
nothing_is_summed names keys = record {
  given = record { heads = omega arith; counts = omega arith; called = record { given = tt; once = tt } };
  each = nothing_each;
  only = nothing_only;
}
  where
    nothing_each : (what : What) → IsGivenWhat (length names) (length keys) what → sum_in no_sums what ≡ number_in nothing (what_told names keys what)
    nothing_each (Head name) given = refl
    nothing_each (Count key) given = refl
    nothing_each (Target key name) given = refl

    nothing_only : (told : ToldWhat) → 0 < number_in nothing told → IsToldBy names keys told
    nothing_only (head name) some = absurd (omega arith)
    nothing_only (count way) some = absurd (omega arith)
    nothing_only (target way name) some = absurd (omega arith)

-- ---- more names and keys
not_called : (names keys : ℕ) (k : KeyId) (n : NameId) (calls : List (CalledFrom × ℕ)) → AllByRecursion (IsGivenTarget names keys) (keys_of calls) → ((k.0 < keys) × (n.0 < names) → ⊥) → called_sum calls k n ≡ 0
not_called names keys k n [] given lacks = refl
not_called names keys k n (call ∷ calls) given lacks =
    bool_cases (same_target (k, n) call.0)
    (λ e. absurd (lacks (subst (λ (t : CalledFrom). (t.0.0 < keys) × (t.1.0 < names)) (sym (targets_same (k, n) call.0 e)) given.0)))
    (λ e. ap (λ b. unwrap_or (cond b (Some call.1) (lookup (same_target (k, n)) calls)) 0) e ∙ not_called names keys k n calls given.1 lacks)

-- what was not given has no sum
not_given : (names keys : ℕ) (sums : Sums) (what : What) → AreSumsOf names keys sums → (IsGivenWhat names keys what → ⊥) → sum_in sums what ≡ 0
not_given names keys sums (Head name) are lacks = elim (cases_lt name.0 names) [
  | inl within ↦ absurd (lacks within)
  | inr past ↦ get_or_past {X = ℕ} sums.heads name.0 0 (omega (arith, past, are.heads))
]
not_given names keys sums (Count key) are lacks = elim (cases_lt key.0 keys) [
  | inl within ↦ absurd (lacks within)
  | inr past ↦ get_or_past {X = ℕ} sums.counts key.0 0 (omega (arith, past, are.counts))
]
not_given names keys sums (Target key name) are lacks = not_called names keys key name sums.called are.called.given lacks

-- whether something was given
given_or_not : (names keys : ℕ) (what : What) → IsGivenWhat names keys what ⊎ (IsGivenWhat names keys what → ⊥)
given_or_not names keys (Head name) = elim (cases_lt name.0 names) [ inl within ↦ inl within | inr past ↦ inr (λ h. absurd (omega arith)) ]
given_or_not names keys (Count key) = elim (cases_lt key.0 keys) [ inl within ↦ inl within | inr past ↦ inr (λ h. absurd (omega arith)) ]
given_or_not names keys (Target key name) = elim (cases_lt key.0 keys) [
  | inl key_within ↦ elim (cases_lt name.0 names) [ inl within ↦ inl (key_within, within) | inr past ↦ inr (λ h. let n = h.1 in absurd (omega (arith, n, past))) ]
  | inr past ↦ inr (λ h. let k = h.0 in absurd (omega (arith, k, past)))
]

targets_grow : (m n k l : ℕ) → m ≤ n → k ≤ l → (targets : List CalledFrom) → AllByRecursion (IsGivenTarget m k) targets → AllByRecursion (IsGivenTarget n l) targets
targets_grow m n k l mn kl [] given = tt
targets_grow m n k l mn kl (t ∷ targets) given =
    let key_given = given.0.0 in
    let name_given = given.0.1 in
    ((omega (arith, key_given), omega (arith, name_given)), targets_grow m n k l mn kl targets given.1)

pub sums_stay_with_more : SumsStayWithMore
sums_stay_with_more names more keys more_keys sums profile are are_more kept keys_kept sums_are = record {
  given = record {
    heads = omega (arith, sums_are.given.heads, grown);
    counts = omega (arith, sums_are.given.counts, keys_grown);
    called = record {
      given = targets_grow (length names) (length more) (length keys) (length more_keys) grown keys_grown (keys_of sums.called) sums_are.given.called.given;
      once = sums_are.given.called.once;
    };
  };
  each = λ what given. by what given (given_or_not (length names) (length keys) what);
  only = λ told some.
      let found = sums_are.only told some in
      record { what = found.what; given = grows found.what found.given; is = same found.what found.given ∙ found.is };
}
  where
    grown : length names ≤ length more
    grown = kept_grows names more kept

    keys_grown : length keys ≤ length more_keys
    keys_grown = kept_grows keys more_keys keys_kept

    grows : (what : What) → IsGivenWhat (length names) (length keys) what → IsGivenWhat (length more) (length more_keys) what
    grows = what_grows (length names) (length more) (length keys) (length more_keys) grown keys_grown

    same : (what : What) → IsGivenWhat (length names) (length keys) what → what_told more more_keys what ≡ what_told names keys what
    same = what_same names more keys more_keys are kept keys_kept

    by : (what : What) → IsGivenWhat (length more) (length more_keys) what → IsGivenWhat (length names) (length keys) what ⊎ (IsGivenWhat (length names) (length keys) what → ⊥)
        → sum_in sums what ≡ number_in profile (what_told more more_keys what)
    by what given (inl before) = sums_are.each what before ∙ ap (number_in profile) (sym (same what before))
    by what given (inr lacks) = not_given (length names) (length keys) sums what sums_are.given lacks ∙ sym (none (cases_lt 0 (number_in profile (what_told more more_keys what))))
      where
        none : (0 < number_in profile (what_told more more_keys what)) ⊎ (number_in profile (what_told more more_keys what) ≤ 0) → number_in profile (what_told more more_keys what) ≡ 0
        none (inl some) =
            let found = sums_are.only (what_told more more_keys what) some in
            let one : found.what ≡ what = what_once more more_keys are_more found.what what (grows found.what found.given) given (same found.what found.given ∙ found.is) in
            absurd (lacks (subst (IsGivenWhat (length names) (length keys)) one found.given))
        none (inr zero) = omega arith

-- ---- a part more
pub raised_sums_count_both : RaisedSumsCountBoth
raised_sums_count_both names keys weight items old new profile are given sums_are adds stay = record {
  given = stay (length names) (length keys) sums_are.given given;
  each = λ what known.
      adds what
      ∙ (λ i. sums_are.each what known i + weight * sym (number_is names keys are items what given known) i)
      ∙ turned (number_in profile (what_told names keys what)) (weight * number_in (counted names keys items) (what_told names keys what))
      ∙ sym (number_in_weighed_both weight (counted names keys items) profile (what_told names keys what));
  only = λ told some. by told (cases_lt 0 (number_in profile told)) (subst (λ n. 0 < n) (number_in_weighed_both weight (counted names keys items) profile told) some);
}
  where
    turned : (a b : ℕ) → a + b ≡ b + a
    turned a b = omega arith

    some_part : (n : ℕ) → 0 < weight * n → 0 < n
    some_part n some = elim (cases_lt 0 n) [
      | inl more ↦ more
      | inr none ↦ let e : weight * n ≡ weight * 0 = ap (λ m. weight * m) (omega arith) in absurd (omega arith)
    ]

    by : (told : ToldWhat) → (0 < number_in profile told) ⊎ (number_in profile told ≤ 0) → 0 < weight * number_in (counted names keys items) told + number_in profile told → IsToldBy names keys told
    by told (inl some) more = sums_are.only told some
    by told (inr none) more = told_by_items names keys items told given (some_part (number_in (counted names keys items) told) (omega arith))

-- ---- the first that is too large
pub first_over_is_first_bad : FirstOverIsFirstBad
unfolding sum_items
first_over_is_first_bad names keys file weight [] sums profile given sums_are = refl
first_over_is_first_bad names keys file weight (item ∷ items) sums profile given sums_are =
    ap (λ n. first_bad (fails_at (nat_le (2 ^ 64) (weight * item.times + n)) (place_over file item.line) ∷ sum_items file weight profile (map (number_told names keys) items)))
    (sym (sums_are.each item.what given.0))
    ∙ by (is_over weight sums item) (first_over_is_first_bad names keys file weight items sums profile given.1 sums_are)
  where
    by : (b : Bool) → first_bad (sum_items file weight profile (map (number_told names keys) items)) ≡ option_map (place_over file) (first_over weight sums items)
        → first_bad (fails_at b (place_over file item.line) ∷ sum_items file weight profile (map (number_told names keys) items))
        ≡ option_map (place_over file) (option_map (λ (x : Item). x.line) (cond b (Some item) (find (is_over weight sums) items)))
    by true rest = refl
    by false rest = rest

-- ---- the lines

-- each call stands once, so its sum is its own
none_else : (t : CalledFrom) (calls : List (CalledFrom × ℕ)) → AllByRecursion (λ u. same_target t u ≡ false) (keys_of calls) → sum_by (λ c. cond (same_target t c.0) c.1 0) calls ≡ 0
none_else t [] apart = refl
none_else t (call ∷ calls) apart =
    sum_by-cons (λ (c : CalledFrom × ℕ). cond (same_target t c.0) c.1 0) call calls
    ∙ (λ i. cond (apart.0 i) call.1 0 + none_else t calls apart.1 i)

called_once : (k : KeyId) (n : NameId) (calls : List (CalledFrom × ℕ)) → IsDistinct same_target (keys_of calls) → sum_by (λ c. cond (same_target (k, n) c.0) c.1 0) calls ≡ called_sum calls k n
unfolding IsDistinct
called_once k n [] once = refl
called_once k n (call ∷ calls) once =
    sum_by-cons (λ (c : CalledFrom × ℕ). cond (same_target (k, n) c.0) c.1 0) call calls ∙ by (same_target (k, n) call.0) refl (called_once k n calls once.1)
  where
    by : (b : Bool) → same_target (k, n) call.0 ≡ b → sum_by (λ c. cond (same_target (k, n) c.0) c.1 0) calls ≡ called_sum calls k n → cond b call.1 0 + sum_by (λ (c : CalledFrom × ℕ). cond (same_target (k, n) c.0) c.1 0) calls ≡ unwrap_or (cond b (Some call.1) (lookup (same_target (k, n)) calls)) 0
    by true e rest =
        let apart = subst (λ (t : CalledFrom). AllByRecursion (λ u. same_target t u ≡ false) (keys_of calls)) (sym (targets_same (k, n) call.0 e)) once.0 in
        let none = none_else (k, n) calls apart in
        omega arith
    by false e rest = zero-add (sum_by (λ (c : CalledFrom × ℕ). cond (same_target (k, n) c.0) c.1 0) calls) ∙ rest

-- a call that stands once has its own sum
own_sum : (calls : List (CalledFrom × ℕ)) (call : CalledFrom × ℕ) → IsDistinct same_target (keys_of calls) → Among call calls → called_sum calls call.0.0 call.0.1 ≡ call.1
unfolding IsDistinct
own_sum [] call once there = absurd there
own_sum (first ∷ calls) call once (inl is) =
    ap (λ (c : CalledFrom × ℕ). called_sum (first ∷ calls) c.0.0 c.0.1) is
    ∙ ap (λ b. unwrap_or (cond b (Some first.1) (lookup (same_target first.0) calls)) 0) (itself first.0) ∙ ap (λ (c : CalledFrom × ℕ). c.1) (sym is)
  where
    itself : (t : CalledFrom) → same_target t t ≡ true
    itself t = grind (arith, nat_tests)
own_sum (first ∷ calls) call once (inr there) =
    ap (λ b. unwrap_or (cond b (Some first.1) (lookup (same_target call.0) calls)) 0) (other calls once.0 there) ∙ own_sum calls call once.1 there
  where
    turned : (t u : CalledFrom) → same_target t u ≡ false → same_target u t ≡ false
    turned t u e = grind (arith, nat_tests)

    other : (cs : List (CalledFrom × ℕ)) → AllByRecursion (λ u. same_target first.0 u ≡ false) (keys_of cs) → Among call cs → same_target call.0 first.0 ≡ false
    other [] apart h = absurd h
    other (c ∷ cs) apart (inl e) = ap (λ (d : CalledFrom × ℕ). same_target d.0 first.0) e ∙ turned first.0 c.0 apart.0
    other (c ∷ cs) apart (inr r) = other cs apart.1 r

module _ (names : List (List ℕ)) (keys : List Key) (sums : Sums) (profile : Profile) (are : AreNumbered names keys) (sums_are : AreSumsIn names keys sums profile) where
  -- the sums of keys with a way
  way_sum : (way : Way) → count_of (sums_told names keys sums) way ≡ sum_by (λ id. cond (same_way way (way_at names keys id)) (slice_index sums.counts id) 0) (range_with_len 0 (length keys))
  way_sum way =
      sum_filter (λ c. c.1) (λ c. same_way way c.0) (map (λ id. (way_at names keys id, slice_index sums.counts id)) (range_with_len 0 (length keys)))
      ∙ sum_map (λ (c : Way × ℕ). cond (same_way way c.0) c.1 0) (λ id. (way_at names keys id, slice_index sums.counts id)) (range_with_len 0 (length keys))

  same_counts : (way : Way) → count_of (sums_told names keys sums) way ≡ count_of profile way
  same_counts way = way_sum way ∙ by (cases_lt 0 (count_of profile way))
    where
      place : ℕ → ℕ
      place id = cond (same_way way (way_at names keys id)) (slice_index sums.counts id) 0

      none : count_of profile way ≤ 0 → (id : ℕ) → Among id (range_with_len 0 (length keys)) → place id ≡ 0
      none zero id there =
          let within = among_range 0 (length keys) id there in
          bool_cases (same_way way (way_at names keys id))
          (λ e.
          let own = sums_are.each (Count (record { 0 = id })) (omega (arith, within.1)) in
          let same : count_of profile way ≡ count_of profile (way_at names keys id) = ap (count_of profile) (same_ways way (way_at names keys id) e) in
          ap (λ b. cond b (slice_index sums.counts id) 0) e ∙ omega (arith, own, same, zero))
          (λ e. ap (λ b. cond b (slice_index sums.counts id) 0) e)

      found : (what : What) → IsGivenWhat (length names) (length keys) what → what_told names keys what ≡ count way → 0 < count_of profile way → sum_by place (range_with_len 0 (length keys)) ≡ count_of profile way
      found (Head name) given is some = absurd cc
      found (Target key name) given is some = absurd cc
      found (Count key) given is some =
          let same : way_at names keys key.0 ≡ way = ap way_told is in
          let own : slice_index sums.counts key.0 ≡ count_of profile way = sums_are.each (Count key) given ∙ ap (count_of profile) same in
          sum_same place (λ id. cond (id == key.0) (slice_index sums.counts id) 0) (range_with_len 0 (length keys))
          (all_among (λ id. place id ≡ cond (id == key.0) (slice_index sums.counts id) 0) (range_with_len 0 (length keys))
          (λ id there.
          let inside = among_range 0 (length keys) id there in
          ap (λ w. cond (same_way w (way_at names keys id)) (slice_index sums.counts id) 0) (sym same)
          ∙ ap (λ b. cond b (slice_index sums.counts id) 0) (way_is names keys are key.0 id given (omega (arith, inside.1)))))
          ∙ one_of_range (λ id. slice_index sums.counts id) key.0 0 (length keys) (omega arith) (omega (arith, given)) ∙ own

      by : (0 < count_of profile way) ⊎ (count_of profile way ≤ 0) → sum_by place (range_with_len 0 (length keys)) ≡ count_of profile way
      by (inl some) = let from = sums_are.only (count way) some in found from.what from.given from.is some
      by (inr zero) =
          sum_none place (range_with_len 0 (length keys)) (all_among (λ id. place id ≡ 0) (range_with_len 0 (length keys)) (none zero)) ∙ omega arith

  same_heads : (name : List ℕ) → head_of (sums_told names keys sums) name ≡ head_of profile name
  same_heads name =
      sum_filter (λ h. h.1) (λ h. same_name name h.0) (map (λ id. (name_at names id, slice_index sums.heads id)) (range_with_len 0 (length sums.heads)))
      ∙ sum_map (λ (h : List ℕ × ℕ). cond (same_name name h.0) h.1 0) (λ id. (name_at names id, slice_index sums.heads id)) (range_with_len 0 (length sums.heads))
      ∙ by (cases_lt 0 (head_of profile name))
    where
      place : ℕ → ℕ
      place id = cond (same_name name (name_at names id)) (slice_index sums.heads id) 0

      none : head_of profile name ≤ 0 → (id : ℕ) → Among id (range_with_len 0 (length sums.heads)) → place id ≡ 0
      none zero id there =
          let within = among_range 0 (length sums.heads) id there in
          bool_cases (same_name name (name_at names id))
          (λ e.
          let own = sums_are.each (Head (record { 0 = id })) (omega (arith, within.1, sums_are.given.heads)) in
          let same : head_of profile name ≡ head_of profile (name_at names id) = ap (head_of profile) ((bytes_decides name (name_at names id)).0 e) in
          ap (λ b. cond b (slice_index sums.heads id) 0) e ∙ omega (arith, own, same, zero))
          (λ e. ap (λ b. cond b (slice_index sums.heads id) 0) e)

      found : (what : What) → IsGivenWhat (length names) (length keys) what → what_told names keys what ≡ head name → 0 < head_of profile name → sum_by place (range_with_len 0 (length sums.heads)) ≡ head_of profile name
      found (Count key) given is some = absurd cc
      found (Target key callee) given is some = absurd cc
      found (Head id) given is some =
          let same : name_at names id.0 ≡ name = ap name_told is in
          let own : slice_index sums.heads id.0 ≡ head_of profile name = sums_are.each (Head id) given ∙ ap (head_of profile) same in
          elim (cases_lt id.0 (length sums.heads)) [
            | inl within ↦
                sum_same place (λ other. cond (other == id.0) (slice_index sums.heads other) 0) (range_with_len 0 (length sums.heads))
                (all_among (λ other. place other ≡ cond (other == id.0) (slice_index sums.heads other) 0) (range_with_len 0 (length sums.heads))
                (λ other there.
                let inside = among_range 0 (length sums.heads) other there in
                ap (λ n. cond (same_name n (name_at names other)) (slice_index sums.heads other) 0) (sym same)
                ∙ ap (λ b. cond b (slice_index sums.heads other) 0) (name_is names keys are id.0 other given (omega (arith, inside.1, sums_are.given.heads)))))
                ∙ one_of_range (λ other. slice_index sums.heads other) id.0 0 (length sums.heads) (omega arith) (omega arith) ∙ own
            | inr past ↦ let zero = get_or_past {X = ℕ} sums.heads id.0 0 past in absurd (omega (arith, own, some, zero))
          ]

      by : (0 < head_of profile name) ⊎ (head_of profile name ≤ 0) → sum_by place (range_with_len 0 (length sums.heads)) ≡ head_of profile name
      by (inl some) = let from = sums_are.only (head name) some in found from.what from.given from.is some
      by (inr zero) =
          sum_none place (range_with_len 0 (length sums.heads)) (all_among (λ id. place id ≡ 0) (range_with_len 0 (length sums.heads)) (none zero)) ∙ omega arith

  -- the numbers of a call were given
  call_given : (calls : List (CalledFrom × ℕ)) (call : CalledFrom × ℕ) → AllByRecursion (IsGivenTarget (length names) (length keys)) (keys_of calls) → Among call calls → IsGivenTarget (length names) (length keys) call.0
  call_given [] call given there = absurd there
  call_given (c ∷ calls) call given (inl e) = subst (λ (d : CalledFrom × ℕ). IsGivenTarget (length names) (length keys) d.0) (sym e) given.0
  call_given (c ∷ calls) call given (inr r) = call_given calls call given.1 r

  same_calls : (way : Way) (name : List ℕ) → target_of (sums_told names keys sums) way name ≡ target_of profile way name
  same_calls way name =
      sum_filter (λ c. c.2) (λ c. same_way way c.0 && same_name name c.1) (map told_call sums.called)
      ∙ sum_map (λ (c : Way × List ℕ × ℕ). cond (same_way way c.0 && same_name name c.1) c.2 0) told_call sums.called
      ∙ by (cases_lt 0 (target_of profile way name))
    where
      told_call : CalledFrom × ℕ → Way × List ℕ × ℕ
      told_call call = (way_at names keys call.0.0.0, name_at names call.0.1.0, call.1)

      place : CalledFrom × ℕ → ℕ
      place call = cond (same_way way (way_at names keys call.0.0.0) && same_name name (name_at names call.0.1.0)) call.1 0

      none : target_of profile way name ≤ 0 → (call : CalledFrom × ℕ) → Among call sums.called → place call ≡ 0
      none zero call there =
          let given = call_given sums.called call sums_are.given.called.given there in
          bool_cases (same_way way (way_at names keys call.0.0.0) && same_name name (name_at names call.0.1.0))
          (λ e.
          let own = sym (own_sum sums.called call sums_are.given.called.once there) ∙ sums_are.each (Target call.0.0 call.0.1) (given.0, given.1) in
          let same : target_of profile way name ≡ target_of profile (way_at names keys call.0.0.0) (name_at names call.0.1.0) =
          λ i. target_of profile (same_ways way (way_at names keys call.0.0.0) (and_first _ _ e) i) ((bytes_decides name (name_at names call.0.1.0)).0 (and_second (same_way way (way_at names keys call.0.0.0)) _ e) i) in
          ap (λ t. cond t call.1 0) e ∙ omega (arith, own, same, zero))
          (λ e. ap (λ t. cond t call.1 0) e)

      found : (what : What) → IsGivenWhat (length names) (length keys) what → what_told names keys what ≡ target way name → sum_by place sums.called ≡ target_of profile way name
      found (Head id) given is = absurd cc
      found (Count key) given is = absurd cc
      found (Target key id) given is =
          let way_same : way_at names keys key.0 ≡ way = ap way_told is in
          let name_same : name_at names id.0 ≡ name = ap name_told is in
          sum_same place (λ call. cond (same_target (key, id) call.0) call.1 0) sums.called
          (all_among (λ call. place call ≡ cond (same_target (key, id) call.0) call.1 0) sums.called
          (λ call there.
          let known = call_given sums.called call sums_are.given.called.given there in
          (λ i. cond (same_way (sym way_same i) (way_at names keys call.0.0.0) && same_name (sym name_same i) (name_at names call.0.1.0)) call.1 0)
          ∙ (λ i. cond (way_is names keys are key.0 call.0.0.0 given.0 known.0 i && name_is names keys are id.0 call.0.1.0 given.1 known.1 i) call.1 0)
          ∙ ap (λ b. cond b call.1 0) (turned call.0 (key, id))))
          ∙ called_once key id sums.called sums_are.given.called.once ∙ sums_are.each (Target key id) given ∙ (λ i. target_of profile (way_same i) (name_same i))
        where
          turned : (t u : CalledFrom) → same_target t u ≡ same_target u t
          turned t u = grind (arith, nat_tests)

      by : (0 < target_of profile way name) ⊎ (target_of profile way name ≤ 0) → sum_by place sums.called ≡ target_of profile way name
      by (inl some) = let from = sums_are.only (target way name) some in found from.what from.given from.is
      by (inr zero) = sum_none place sums.called (all_among (λ call. place call ≡ 0) sums.called (none zero)) ∙ omega arith

pub lines_are_of_sums : LinesAreOfSums
lines_are_of_sums names keys sums profile are sums_are =
    lines_are_by_counts (sums_told names keys sums) profile (record {
      keys = same_counts names keys sums profile are sums_are;
      targets = same_calls names keys sums profile are sums_are;
      heads = same_heads names keys sums profile are sums_are;
    })

-- ---- profiles that count the same
pub sums_are_by_counts : SumsAreByCounts
sums_are_by_counts names keys sums p q same are = record {
  given = are.given;
  each = λ what given. are.each what given ∙ number_same (what_told names keys what);
  only = λ told some. are.only told (subst (λ n. 0 < n) (sym (number_same told)) some);
}
  where
    number_same : (told : ToldWhat) → number_in p told ≡ number_in q told
    number_same (head name) = same.heads name
    number_same (count way) = same.keys way
    number_same (target way name) = same.targets way name
