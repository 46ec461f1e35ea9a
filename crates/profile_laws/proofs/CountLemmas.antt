-- Profiles that count the same have the same lines.
use Rattle.std.proofs.Common.{◌≡◌, ◌<◌, ℕ, ◌+◌, ◌-◌, nat_lt, Bool, true, false, cond, ◌&&◌, List, [], ◌∷◌, ◌++◌, map, filter, length, sum_by, refl, sym, ap, subst, ◌∙◌, inl, inr, arith, add-zero, zero-add}
use Rattle.std.proofs.lemmas.Bool.Decides.{nat_tests}
use Rattle.std.proofs.lemmas.List.Sums.{sum_by-cons}
use Rattle.std.specs.Cmp.Lexicographic.{bytes_decides}
use Rattle.std.specs.List.{flat_map}
use Rattle.std.specs.List.Sorted.{IsStrictlySortedBy}
use Rattle.std.specs.declared.cmp.Ordering.{Ordering}
use Rattle.list_lemmas.proofs.Among.{among_left, among_right, among_map, among_flat, among_filter, among_either, among_map_back, among_filter_back, among_flat_back, part_of_sum}
use Rattle.profile_model.specs.Laws.{TellsApart, has, IsInOrder}
use Rattle.profile_model.specs.Orders.{ordered, way_cmp, target_cmp}
use Rattle.profile_model.specs.Profile.{Profile, function_line, body_line, call_line, capped, count_of, target_of, head_of, total_of, total_of_function, targets_of, recorded, entered, written, line_by, line_at, lines_of}
use Rattle.profile_model.specs.Ways.{Kind, Step, Way, function, body, call, to_function, same_name, same_way, leads_to, beginnings, last_step}
use Rattle.profile_model.proofs.OrderLemmas.{ways_tell_apart, targets_tell_apart}
use Rattle.profile_model.proofs.OrderedLemmas.{Above, ordered_is_in_order, only_ordered_is_in_order}
use Rattle.profile_model.proofs.StepLemmas.{and_first, and_second, and_both, bool_same, same_ways, way_itself}
use Rattle.profile_laws.proofs.TotalLemmas.{Among, has_from_among, among_from_has, not_among_above, sum_both, sum_none}
use Rattle.profile_laws.specs.Counts.{CountTheSame, LinesAreByCounts}

-- tests of names
pub name_itself : (x : List ℕ) → same_name x x ≡ true
name_itself x = (bytes_decides x x).1 refl

-- where an item of a list comes from
unfoldable pub Inside : {T : Type 0} → List T → List T → Type 0
Inside {T} xs ys = (x : T) → Among x xs → Among x ys

pub flat_inside : {S T : Type 0} (f : S → List T) (xs ys : List S) → Inside xs ys → Inside (flat_map f xs) (flat_map f ys)
unfolding Inside
flat_inside f xs ys inside x h = let found = among_flat_back f x xs h in among_flat f x found.0 ys (inside found.0 found.1) found.2

pub append_inside : {T : Type 0} (xs ys vs ws : List T) → Inside xs vs → Inside ys ws → Inside (xs ++ ys) (vs ++ ws)
unfolding Inside
append_inside xs ys vs ws first second x h = elim (among_either x xs ys h) as (λ _. Among x (vs ++ ws)) [
  | inl l ↦ among_left x vs ws (first x l)
  | inr r ↦ among_right x vs ws (second x r)
]

-- lists with the same items are the same in order
pub ordered_alike : {T : Type 0} (cmp : T → T → Ordering) → TellsApart cmp → (xs ys : List T) → Inside xs ys → Inside ys xs → ordered cmp xs ≡ ordered cmp ys
unfolding Inside
ordered_alike {T} cmp t xs ys there back =
    let in_order = ordered_is_in_order cmp t xs in
    let alike : (x : T) → has cmp x xs ≡ has cmp x ys =
    λ x. bool_same (has cmp x xs) (has cmp x ys) (λ h. has_from_among cmp t x ys (there x (among_from_has cmp t x xs h))) (λ h. has_from_among cmp t x xs (back x (among_from_has cmp t x ys h))) in
    only_ordered_is_in_order cmp t ys (ordered cmp xs) (record { ascending = in_order.ascending; same = λ x. in_order.same x ∙ alike x })

-- sums over the items that pass a test
pub kept_is_parts : {T : Type 0} (test : T → Bool) (weight : T → ℕ) (xs : List T) → sum_by weight (filter test xs) ≡ sum_by (λ x. cond (test x) (weight x) 0) xs
kept_is_parts test weight [] = refl
kept_is_parts {T} test weight (x ∷ xs) =
    elim (test x) as (λ b. sum_by weight (cond b (x ∷ filter test xs) (filter test xs)) ≡ cond b (weight x) 0 + sum_by part xs) [
      | true ↦ sum_by-cons weight x (filter test xs) ∙ ap (λ n. weight x + n) (kept_is_parts test weight xs)
      | false ↦ kept_is_parts test weight xs ∙ sym (zero-add (sum_by part xs))
    ]
    ∙ sym (sum_by-cons part x xs)
  where
    part : T → ℕ
    part y = cond (test y) (weight y) 0

heavy : {T : Type 0} (weight : T → ℕ) (xs : List T) → 0 < sum_by weight xs → (x : T) × Among x xs × (0 < weight x)
heavy weight [] h = absurd (omega arith)
heavy {T} weight (x ∷ xs) h =
    let e = sum_by-cons weight x xs in
    elim (nat_lt 0 (weight x)) as (λ b. nat_lt 0 (weight x) ≡ b → (z : T) × Among z (x ∷ xs) × (0 < weight z)) [
      | true ↦ λ q. (x, inl refl, grind (arith, nat_tests))
      | false ↦ λ q.
          let none : weight x ≡ 0 = grind (arith, nat_tests) in
          let found = heavy weight xs (omega arith) in (found.0, inr found.1, found.2)
    ] refl

-- an item that counts is one of its own sum, and such a sum is that of an item
counts_in : {T : Type 0} (test : T → Bool) (weight : T → ℕ) (x : T) (xs : List T) → Among x (filter (λ y. nat_lt 0 (weight y)) xs) → test x ≡ true → 0 < sum_by weight (filter test xs)
counts_in test weight x xs h t =
    let found = among_filter_back (λ y. nat_lt 0 (weight y)) x xs h in
    let some : 0 < weight x = let q = found.0 in grind (arith, nat_tests) in
    let least = part_of_sum weight x (filter test xs) (among_filter test x xs t found.1) in
    omega arith

pub counted : {T : Type 0} (test : T → Bool) (weight : T → ℕ) (xs : List T) → 0 < sum_by weight (filter test xs) → (x : T) × Among x (filter (λ y. nat_lt 0 (weight y)) xs) × (test x ≡ true)
counted test weight xs h =
    let found = heavy weight (filter test xs) h in
    let kept = among_filter_back test found.0 xs found.1 in
    let some : nat_lt 0 (weight found.0) ≡ true = let q = found.2 in grind (arith, nat_tests) in
    (found.0, among_filter (λ y. nat_lt 0 (weight y)) found.0 xs some kept.1, kept.0)

-- what is counted, added up way by way
abbrev kept : Bool → ℕ → ℕ
kept b n = cond b n 0

abbrev mine : Way → Way × ℕ → ℕ
mine w c = kept (same_way w c.0) c.1

abbrev tested : (Way → Bool) → Way × ℕ → ℕ
tested f c = kept (f c.0) c.1

kept_none : (b : Bool) → kept b 0 ≡ 0
kept_none true = refl
kept_none false = refl

kept_add : (b : Bool) (m n : ℕ) → kept b m + kept b n ≡ kept b (m + n)
kept_add true m n = refl
kept_add false m n = refl

other_way : (f : Way → Bool) (w k : Way) (n : ℕ) → (w ≡ k → ⊥) → kept (f w) (mine w (k, n)) ≡ 0
other_way f w k n apart =
    elim (same_way w k) as (λ b. same_way w k ≡ b → kept (f w) (kept b n) ≡ 0) [
      | true ↦ λ e. absurd (apart (same_ways w k e))
      | false ↦ λ _. kept_none (f w)
    ] refl

no_way : (f : Way → Bool) (k : Way) (n : ℕ) (ws : List Way) → (Among k ws → ⊥) → sum_by (λ w. kept (f w) (mine w (k, n))) ws ≡ 0
no_way f k n [] lacks = refl
no_way f k n (w ∷ ws) lacks =
    sum_by-cons (λ v. kept (f v) (mine v (k, n))) w ws
    ∙ (λ i. other_way f w k n (λ e. lacks (inl (sym e))) i + no_way f k n ws (λ r. lacks (inr r)) i)

one_way : (cmp : Way → Way → Ordering) → TellsApart cmp → (f : Way → Bool) (k : Way) (n : ℕ) (ws : List Way) → IsStrictlySortedBy cmp ws → Among k ws → sum_by (λ w. kept (f w) (mine w (k, n))) ws ≡ kept (f k) n
unfolding IsStrictlySortedBy
one_way cmp t f k n [] sorted h = absurd h
one_way cmp t f k n (w ∷ ws) sorted h =
    sum_by-cons (λ v. kept (f v) (mine v (k, n))) w ws
    ∙ elim h as (λ _. kept (f w) (mine w (k, n)) + sum_by (λ v. kept (f v) (mine v (k, n))) ws ≡ kept (f k) n) [
      | inl q ↦
          let lacks : Among k ws → ⊥ = not_among_above cmp t k ws (subst (λ z. Above cmp z ws) (sym q) sorted.0) in
          let here : kept (f w) (mine w (k, n)) ≡ kept (f k) n =
          subst (λ z. kept (f z) (mine z (k, n)) ≡ kept (f k) n) q (ap (λ b. kept (f k) (kept b n)) (way_itself k)) in
          (λ i. here i + no_way f k n ws lacks i) ∙ add-zero (kept (f k) n)
      | inr r ↦
          let other : kept (f w) (mine w (k, n)) ≡ 0 =
          other_way f w k n (λ e. not_among_above cmp t w ws sorted.0 (subst (λ z. Among z ws) (sym e) r)) in
          (λ i. other i + one_way cmp t f k n ws sorted.1 r i) ∙ zero-add (kept (f k) n)
    ]

by_ways : (cmp : Way → Way → Ordering) → TellsApart cmp → (f : Way → Bool) (ws : List Way) → IsStrictlySortedBy cmp ws → (cs : List (Way × ℕ)) → ((c : Way × ℕ) → Among c cs → Among c.0 ws) → sum_by (tested f) cs ≡ sum_by (λ w. kept (f w) (sum_by (mine w) cs)) ws
by_ways cmp t f ws sorted [] inside = sym (ap (λ g. sum_by g ws) (λ i w. kept_none (f w) i) ∙ sum_none ws)
by_ways cmp t f ws sorted (c ∷ cs) inside =
    sum_by-cons (tested f) c cs
    ∙ (λ i. sym (one_way cmp t f c.0 c.1 ws sorted (inside c (inl refl))) i + by_ways cmp t f ws sorted cs (λ d h. inside d (inr h)) i)
    ∙ sym (sum_both (λ w. kept (f w) (mine w c)) (λ w. kept (f w) (sum_by (mine w) cs)) ws)
    ∙ ap (λ g. sum_by g ws) (λ i w. step w i)
  where
    step : (w : Way) → kept (f w) (mine w c) + kept (f w) (sum_by (mine w) cs) ≡ kept (f w) (sum_by (mine w) (c ∷ cs))
    step w = kept_add (f w) (mine w c) (sum_by (mine w) cs) ∙ ap (kept (f w)) (sym (sum_by-cons (mine w) c cs))

-- counts that are the same way by way are the same over the ways that pass a test
tested_alike : (cs ds : List (Way × ℕ)) → ((w : Way) → sum_by (λ c. c.1) (filter (λ c. same_way w c.0) cs) ≡ sum_by (λ c. c.1) (filter (λ c. same_way w c.0) ds)) → (f : Way → Bool) → sum_by (λ c. c.1) (filter (λ c. f c.0) cs) ≡ sum_by (λ c. c.1) (filter (λ c. f c.0) ds)
tested_alike cs ds alike f =
    parts cs ∙ by_ways cmp t f ws in_order.ascending cs (λ c h. there c (among_left c cs ds h))
    ∙ ap (λ g. sum_by g ws) (λ i w. kept (f w) (each w i))
    ∙ sym (by_ways cmp t f ws in_order.ascending ds (λ c h. there c (among_right c cs ds h))) ∙ sym (parts ds)
  where
    cmp : Way → Way → Ordering
    cmp = way_cmp (λ _. 0)

    t : TellsApart cmp
    t = ways_tell_apart (λ _. 0)

    items : List Way
    items = map (λ c. c.0) (cs ++ ds)

    ws : List Way
    ws = ordered cmp items

    in_order : IsInOrder cmp items ws
    in_order = ordered_is_in_order cmp t items

    there : (c : Way × ℕ) → Among c (cs ++ ds) → Among c.0 ws
    there c h = among_from_has cmp t c.0 ws (in_order.same c.0 ∙ has_from_among cmp t c.0 items (among_map (λ d. d.0) c (cs ++ ds) h))

    parts : (es : List (Way × ℕ)) → sum_by (λ c. c.1) (filter (λ c. f c.0) es) ≡ sum_by (tested f) es
    parts es = kept_is_parts (λ c. f c.0) (λ c. c.1) es

    each : (w : Way) → sum_by (mine w) cs ≡ sum_by (mine w) ds
    each w = sym (kept_is_parts (λ c. same_way w c.0) (λ c. c.1) cs) ∙ alike w ∙ kept_is_parts (λ c. same_way w c.0) (λ c. c.1) ds

-- the lists that the lines are made of
abbrev counted_keys : Profile → List Way
counted_keys p = map (λ c. c.0) (filter (λ c. nat_lt 0 c.1) p.counts)

abbrev callers : Profile → List Way
callers p = map (λ c. c.0) (filter (λ c. nat_lt 0 c.2) p.calls)

abbrev called_from : Profile → Way → List (List ℕ × ℕ)
called_from p way = map (λ c. (c.1, target_of p way c.1)) (filter (λ c. same_way way c.0 && nat_lt 0 c.2) p.calls)

-- the other way round
pub back : {p q : Profile} → CountTheSame p q → CountTheSame q p
back same = record { keys = λ way. sym (same.keys way); targets = λ way name. sym (same.targets way name); heads = λ name. sym (same.heads name) }

-- a call of one profile that counts stands in the other as well
called : (p q : Profile) → CountTheSame p q → (c : Way × List ℕ × ℕ) → Among c (filter (λ d. nat_lt 0 d.2) p.calls) → (d : Way × List ℕ × ℕ) × Among d (filter (λ e. nat_lt 0 e.2) q.calls) × (c.0 ≡ d.0) × (c.1 ≡ d.1)
called p q same c h =
    let is : Way × List ℕ × ℕ → Bool = λ d. same_way c.0 d.0 && same_name c.1 d.1 in
    let some : 0 < target_of q c.0 c.1 =
    subst (λ n. 0 < n) (same.targets c.0 c.1) (counts_in is (λ d. d.2) c p.calls h (and_both _ _ (way_itself c.0) (name_itself c.1))) in
    let other = counted is (λ d. d.2) q.calls some in
    let d = other.0 in
    (d, other.1, same_ways c.0 d.0 (and_first _ _ other.2), (bytes_decides c.1 d.1).0 (and_second (same_way c.0 d.0) _ other.2))

-- what each profile says of ways
pub totals_alike : (p q : Profile) → CountTheSame p q → (way : Way) → total_of p way ≡ total_of q way
totals_alike p q same way = ap capped (tested_alike p.counts q.counts same.keys (leads_to way))

keys_inside : (p q : Profile) → CountTheSame p q → Inside (counted_keys p) (counted_keys q)
unfolding Inside
keys_inside p q same k h =
    let from = among_map_back (λ c. c.0) k (filter (λ c. nat_lt 0 c.1) p.counts) h in
    let way = from.0.0 in
    let some : 0 < count_of q way = subst (λ n. 0 < n) (same.keys way) (counts_in (λ c. same_way way c.0) (λ c. c.1) from.0 p.counts from.1 (way_itself way)) in
    let other = counted (λ c. same_way way c.0) (λ c. c.1) q.counts some in
    subst (λ w. Among w (counted_keys q)) (sym (from.2 ∙ same_ways way other.0.0 other.2))
    (among_map (λ c. c.0) other.0 (filter (λ c. nat_lt 0 c.1) q.counts) other.1)

callers_inside : (p q : Profile) → CountTheSame p q → Inside (callers p) (callers q)
unfolding Inside
callers_inside p q same k h =
    let from = among_map_back (λ c. c.0) k (filter (λ c. nat_lt 0 c.2) p.calls) h in
    let other = called p q same from.0 from.1 in
    subst (λ w. Among w (callers q)) (sym (from.2 ∙ other.2)) (among_map (λ c. c.0) other.0 (filter (λ c. nat_lt 0 c.2) q.calls) other.1)

pub recorded_inside : (p q : Profile) → CountTheSame p q → Inside (recorded p) (recorded q)
recorded_inside p q same = append_inside (counted_keys p) (callers p) (counted_keys q) (callers q) (keys_inside p q same) (callers_inside p q same)

pub entered_inside : (p q : Profile) → CountTheSame p q → Inside (entered p) (entered q)
unfolding Inside
entered_inside p q same k h =
    let from = among_map_back (λ e. to_function e.0 ∷ []) k (filter (λ e. nat_lt 0 e.1) p.heads) h in
    let name = from.0.0 in
    let some : 0 < head_of q name = subst (λ n. 0 < n) (same.heads name) (counts_in (λ e. same_name name e.0) (λ e. e.1) from.0 p.heads from.1 (name_itself name)) in
    let other = counted (λ e. same_name name e.0) (λ e. e.1) q.heads some in
    let one : name ≡ other.0.0 = (bytes_decides name other.0.0).0 other.2 in
    subst (λ w. Among w (entered q)) (sym (from.2 ∙ ap (λ n. to_function n ∷ []) one))
    (among_map (λ e. to_function e.0 ∷ []) other.0 (filter (λ e. nat_lt 0 e.1) q.heads) other.1)

lines_inside : (p q : Profile) → CountTheSame p q → Inside (flat_map beginnings (recorded p ++ entered p)) (flat_map beginnings (recorded q ++ entered q))
lines_inside p q same =
    flat_inside beginnings (recorded p ++ entered p) (recorded q ++ entered q)
    (append_inside (recorded p) (entered p) (recorded q) (entered q) (recorded_inside p q same) (entered_inside p q same))

written_alike : (p q : Profile) → CountTheSame p q → written p ≡ written q
written_alike p q same =
    ap (λ total. ordered (way_cmp total) (flat_map beginnings (recorded p ++ entered p))) (λ i name. totals_alike p q same (to_function name ∷ []) i)
    ∙ ordered_alike (way_cmp (total_of_function q)) (ways_tell_apart (total_of_function q)) (flat_map beginnings (recorded p ++ entered p)) (flat_map beginnings (recorded q ++ entered q))
    (lines_inside p q same) (lines_inside q p (back same))

targets_inside : (p q : Profile) → CountTheSame p q → (way : Way) → Inside (called_from p way) (called_from q way)
unfolding Inside
targets_inside p q same way t h =
    let from = among_map_back (λ c. (c.1, target_of p way c.1)) t (filter (λ c. same_way way c.0 && nat_lt 0 c.2) p.calls) h in
    let c = from.0 in
    let here = among_filter_back (λ d. same_way way d.0 && nat_lt 0 d.2) c p.calls from.1 in
    let some : nat_lt 0 c.2 ≡ true = and_second (same_way way c.0) (nat_lt 0 c.2) here.0 in
    let other = called p q same c (among_filter (λ d. nat_lt 0 d.2) c p.calls some here.1) in
    let d = other.0 in
    let there = among_filter_back (λ e. nat_lt 0 e.2) d q.calls other.1 in
    let at_way : same_way way d.0 ≡ true = subst (λ w. same_way way w ≡ true) other.2 (and_first (same_way way c.0) (nat_lt 0 c.2) here.0) in
    let one : t ≡ (d.1, target_of q way d.1) = from.2 ∙ (λ i. (other.3 i, same.targets way (other.3 i) i)) in
    subst (λ u. Among u (called_from q way)) (sym one)
    (among_map (λ e. (e.1, target_of q way e.1)) d (filter (λ e. same_way way e.0 && nat_lt 0 e.2) q.calls)
    (among_filter (λ e. same_way way e.0 && nat_lt 0 e.2) d q.calls (and_both _ _ at_way there.0) there.1))

targets_alike : (p q : Profile) → CountTheSame p q → (way : Way) → targets_of p way ≡ targets_of q way
targets_alike p q same way =
    ordered_alike target_cmp targets_tell_apart (called_from p way) (called_from q way) (targets_inside p q same way) (targets_inside q p (back same) way)

pub line_alike : (p q : Profile) → CountTheSame p q → (way : Way) → line_at p way ≡ line_at q way
line_alike p q same [] = refl
line_alike p q same (s ∷ way) = by_kind (last_step s way) (last_step s way).kind
  where
    by_kind : (step : Step) (kind : Kind) → line_by p (s ∷ way) step kind ≡ line_by q (s ∷ way) step kind
    by_kind step function = λ i. function_line step.name (totals_alike p q same (s ∷ way) i) (same.heads step.name i)
    by_kind step body = λ i. body_line (length (s ∷ way) - 1) step.offset step.disc (same.keys (s ∷ way) i) (targets_alike p q same (s ∷ way) i)
    by_kind step call = λ i. call_line (length (s ∷ way) - 1) step.offset step.disc step.name (totals_alike p q same (s ∷ way) i)

pub lines_are_by_counts : LinesAreByCounts
unfolding lines_of
lines_are_by_counts p q same =
    ap (λ line. map line (written p)) (λ i way. line_alike p q same way i) ∙ ap (map (line_at q)) (written_alike p q same)
