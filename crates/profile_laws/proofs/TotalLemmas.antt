-- Each count lies below exactly one of the lines right below a way that it lies below.
use Rattle.std.proofs.Common.{◌≡◌, ◌⊎◌, ◌≤◌, ◌<◌, ℕ, zero, suc, ◌+◌, ◌-◌, ◌^◌, ◌==◌, nat_lt, min, Bool, true, false, cond, ◌&&◌, ◌||◌, List, [], ◌∷◌, ◌++◌, map, filter, take, length, sum_by, refl, sym, ap, subst, ◌∙◌, inl, inr, arith, add-zero, zero-add}
use Rattle.std.proofs.lemmas.Bool.{true≢false}
use Rattle.std.proofs.lemmas.Bool.Decides.{nat_tests}
use Rattle.std.proofs.lemmas.List.Sums.{sum_by-cons}
use Rattle.std.proofs.lemmas.List.Kept.{IsStrictlySortedBy-filter}
use Rattle.std.specs.List.{AllByRecursion, flat_map}
use Rattle.std.specs.List.Sorted.{IsStrictlySortedBy}
use Rattle.std.specs.Ordering.{is_eq, eq_by_cmp}
use Rattle.std.specs.declared.cmp.Ordering.{Ordering}
use Rattle.std.specs.declared.cmp.Ordering.TheVariants.{Less, Equal, Greater}
use Rattle.list_lemmas.proofs.Among.{among_left, among_map, among_flat, among_filter}
use Rattle.list_lemmas.proofs.Sums.{sum_same}
use Rattle.list_lemmas.proofs.Each.{all_then}
use Rattle.profile_model.specs.Laws.{TellsApart, has}
use Rattle.profile_model.specs.Orders.{way_cmp}
use Rattle.profile_model.specs.Profile.{Profile, capped, count_of, total_of_function, recorded, entered, written}
use Rattle.profile_model.specs.Ways.{Step, Way, function, body, call, same_step, same_way, leads_to, beginnings, last_step}
use Rattle.profile_model.proofs.OrderLemmas.{ways_tell_apart}
use Rattle.profile_model.proofs.OrderedLemmas.{Above, ordered_is_in_order, has-head}
use Rattle.profile_model.proofs.StepLemmas.{and_first, and_second, and_both, nat_refl, nat_same, same_steps, step_itself}
use Rattle.profile_laws.specs.Totals.{EndsInBody, IsKeyWay, HasKeyWays, is_next, right_below, number_by, number_of, IsAbove, TotalsAddUp}
pub use Rattle.list_lemmas.proofs.Among.{Among}

-- fronts
front_is_take : (x k : Way) → leads_to x k ≡ true → x ≡ take (length x) k
front_is_take [] k e = refl
front_is_take (s ∷ x) [] e = absurd (true≢false (sym e))
front_is_take (s ∷ x) (t ∷ k) e =
    let here : s ≡ t = same_steps s t (and_first (same_step s t) (leads_to x k) e) in
    let rest : x ≡ take (length x) k = front_is_take x k (and_second (same_step s t) (leads_to x k) e) in
    λ i. here i ∷ rest i

front_of_front : (x y k : Way) → leads_to x y ≡ true → leads_to y k ≡ true → leads_to x k ≡ true
front_of_front [] y k e f = refl
front_of_front (s ∷ x) [] k e f = absurd (true≢false (sym e))
front_of_front (s ∷ x) (t ∷ y) [] e f = absurd (true≢false (sym f))
front_of_front (s ∷ x) (t ∷ y) (u ∷ k) e f =
    let here : t ≡ u = same_steps t u (and_first (same_step t u) (leads_to y k) f) in
    and_both (same_step s u) (leads_to x k)
    (ap (λ z. same_step s z) (sym here) ∙ and_first (same_step s t) (leads_to x y) e)
    (front_of_front x y k (and_second (same_step s t) (leads_to x y) e) (and_second (same_step t u) (leads_to y k) f))

-- one step more of a longer way
goes_on : (x k : Way) → leads_to x k ≡ true → length x < length k → leads_to x (take (suc (length x)) k) ≡ true
goes_on [] k e h = refl
goes_on (s ∷ x) [] e h = absurd (true≢false (sym e))
goes_on (s ∷ x) (t ∷ k) e h =
    and_both (same_step s t) (leads_to x (take (suc (length x)) k)) (and_first (same_step s t) (leads_to x k) e) (goes_on x k (and_second (same_step s t) (leads_to x k) e) (omega arith))

take_is_front : (n : ℕ) (k : Way) → leads_to (take n k) k ≡ true
take_is_front zero k = refl
take_is_front (suc n) [] = refl
take_is_front (suc n) (t ∷ k) = and_both (same_step t t) (leads_to (take n k) k) (step_itself t) (take_is_front n k)

take_length : (n : ℕ) (k : Way) → n ≤ length k → length (take n k) ≡ n
take_length zero k h = refl
take_length (suc n) [] h = absurd (omega arith)
take_length (suc n) (t ∷ k) h = ap suc (take_length n k (omega arith))

among_beginnings : (n : ℕ) (k : Way) → n < length k → Among (take (suc n) k) (beginnings k)
among_beginnings n [] h = absurd (omega arith)
among_beginnings zero (t ∷ k) h = inl refl
among_beginnings (suc n) (t ∷ k) h = inr (among_map (λ x. t ∷ x) (take (suc n) k) (beginnings k) (among_beginnings n k (omega arith)))

pub has_from_among : {T : Type 0} (cmp : T → T → Ordering) → TellsApart cmp → (x : T) (xs : List T) → Among x xs → has cmp x xs ≡ true
has_from_among cmp t x [] h = absurd h
has_from_among cmp t x (y ∷ xs) h = elim h as (λ _. (eq_by_cmp cmp x y || has cmp x xs) ≡ true) [
  | inl e ↦ subst (λ z. has cmp x (z ∷ xs) ≡ true) e (has-head cmp t.total x xs)
  | inr r ↦ or_right (eq_by_cmp cmp x y) (has cmp x xs) (has_from_among cmp t x xs r)
]
  where
    or_right : (a b : Bool) → b ≡ true → (a || b) ≡ true
    or_right true b e = refl
    or_right false b e = e

pub among_from_has : {T : Type 0} (cmp : T → T → Ordering) → TellsApart cmp → (x : T) (xs : List T) → has cmp x xs ≡ true → Among x xs
among_from_has cmp t x [] h = absurd (true≢false (sym h))
among_from_has cmp t x (y ∷ xs) h =
    elim (cmp x y) as (λ r. cmp x y ≡ r → (is_eq r || has cmp x xs) ≡ true → (x ≡ y) ⊎ Among x xs) [
      | Less ↦ λ _ g. inr (among_from_has cmp t x xs g)
      | Equal ↦ λ e _. inl (t.apart x y e)
      | Greater ↦ λ _ g. inr (among_from_has cmp t x xs g)
    ] refl h

pub sum_both : {T : Type 0} (f g : T → ℕ) (xs : List T) → sum_by (λ x. f x + g x) xs ≡ sum_by f xs + sum_by g xs
sum_both f g [] = refl
sum_both f g (x ∷ xs) =
    let a = sum_by-cons f x xs in
    let b = sum_by-cons g x xs in
    let c = sum_by-cons (λ y. f y + g y) x xs in
    let d = sum_both f g xs in
    omega arith

pub sum_none : {T : Type 0} (xs : List T) → sum_by (λ _. 0) xs ≡ 0
sum_none [] = refl
sum_none (x ∷ xs) = sum_by-cons (λ _. 0) x xs ∙ zero-add (sum_by (λ _. 0) xs) ∙ sum_none xs

-- the part of a count that lies below a way
abbrev part : Way → Way × ℕ → ℕ
part way c = cond (leads_to way c.0) c.1 0

below_is_parts : (way : Way) (cs : List (Way × ℕ)) → sum_by (λ c. c.1) (filter (λ c. leads_to way c.0) cs) ≡ sum_by (part way) cs
below_is_parts way [] = refl
below_is_parts way (c ∷ cs) =
    elim (leads_to way c.0) as (λ b. sum_by (λ d. d.1) (cond b (c ∷ filter (λ d. leads_to way d.0) cs) (filter (λ d. leads_to way d.0) cs)) ≡ cond b c.1 0 + sum_by (part way) cs) [
      | true ↦ sum_by-cons (λ d. d.1) c (filter (λ d. leads_to way d.0) cs) ∙ ap (λ n. c.1 + n) (below_is_parts way cs)
      | false ↦ below_is_parts way cs ∙ sym (zero_more (sum_by (part way) cs))
    ]
    ∙ sym (sum_by-cons (part way) c cs)
  where
    zero_more : (n : ℕ) → 0 + n ≡ n
    zero_more n = omega arith

-- ways of one length that a way begins with are one
all_lack : (x k : Way) (xs : List Way) → AllByRecursion (λ w. (length w ≡ length x)) xs → (Among x xs → ⊥) → leads_to x k ≡ true → (n : ℕ) → sum_by (λ w. cond (leads_to w k) n 0) xs ≡ 0
all_lack x k [] all lacks e n = refl
all_lack x k (w ∷ xs) all lacks e n =
    let rest : sum_by (λ v. cond (leads_to v k) n 0) xs ≡ 0 = all_lack x k xs all.1 (λ r. lacks (inr r)) e n in
    let none : cond (leads_to w k) n 0 ≡ 0 =
    elim (leads_to w k) as (λ b. leads_to w k ≡ b → cond b n 0 ≡ 0) [
      | true ↦ λ h. absurd (lacks (inl (front_is_take x k e ∙ ap (λ m. take m k) (sym all.0) ∙ sym (front_is_take w k h))))
      | false ↦ λ _. refl
    ] refl in
    sum_by-cons (λ v. cond (leads_to v k) n 0) w xs ∙ (λ i. none i + rest i)

pub not_among_above : {T : Type 0} (cmp : T → T → Ordering) → TellsApart cmp → (x : T) (xs : List T) → Above cmp x xs → Among x xs → ⊥
not_among_above cmp t x [] above h = h
not_among_above cmp t x (y ∷ xs) above h = elim h as (λ _. ⊥) [
  | inl e ↦
      let itself : has cmp x (x ∷ []) ≡ true = has-head cmp t.total x [] in
      let less : cmp x x ≡ Less = ap (cmp x) e ∙ above.0 in
      true≢false (sym itself ∙ ap (λ r. is_eq r || false) less)
  | inr r ↦ not_among_above cmp t x xs above.1 r
]

exactly_one : (cmp : Way → Way → Ordering) → TellsApart cmp → (x k : Way) (xs : List Way) (n : ℕ) → IsStrictlySortedBy cmp xs → AllByRecursion (λ w. length w ≡ length x) xs → Among x xs → leads_to x k ≡ true → sum_by (λ w. cond (leads_to w k) n 0) xs ≡ n
unfolding IsStrictlySortedBy
exactly_one cmp t x k [] n sorted all h e = absurd h
exactly_one cmp t x k (w ∷ xs) n sorted all h e = elim h as (λ _. sum_by (λ v. cond (leads_to v k) n 0) (w ∷ xs) ≡ n) [
  | inl q ↦
      let lacks : Among x xs → ⊥ = not_among_above cmp t x xs (subst (λ z. Above cmp z xs) (sym q) sorted.0) in
      let mine : cond (leads_to w k) n 0 ≡ n = ap (λ z. cond (leads_to z k) n 0) (sym q) ∙ ap (λ b. cond b n 0) e in
      sum_by-cons (λ v. cond (leads_to v k) n 0) w xs ∙ (λ i. mine i + all_lack x k xs all.1 lacks e n i) ∙ add-zero n
  | inr r ↦
      let other : cond (leads_to w k) n 0 ≡ 0 =
      elim (leads_to w k) as (λ b. leads_to w k ≡ b → cond b n 0 ≡ 0) [
        | true ↦ λ g.
            let same : x ≡ w = front_is_take x k e ∙ ap (λ m. take m k) (sym all.0) ∙ sym (front_is_take w k g) in
            absurd (not_among_above cmp t w xs sorted.0 (subst (λ z. Among z xs) same r))
        | false ↦ λ _. refl
      ] refl in
      sum_by-cons (λ v. cond (leads_to v k) n 0) w xs ∙ (λ i. other i + exactly_one cmp t x k xs n sorted.1 all.1 r e i) ∙ zero-add n
]

-- the list of the lines right below
all_filter : {T : Type 0} (p : T → Bool) (P : T → Type 0) → ((x : T) → p x ≡ true → P x) → (xs : List T) → AllByRecursion P (filter p xs)
all_filter p P f [] = tt
all_filter {T} p P f (x ∷ xs) =
    elim (p x) as (λ b. p x ≡ b → AllByRecursion P (cond b (x ∷ filter p xs) (filter p xs))) [
      | true ↦ λ e. (f x e, all_filter p P f xs)
      | false ↦ λ _. all_filter p P f xs
    ] refl

next_length : (way w : Way) → is_next way w ≡ true → length w ≡ suc (length way)
next_length way w e = nat_same (length w) (suc (length way)) (and_second (leads_to way w) (length w == suc (length way)) e)

next_leads : (way w : Way) → is_next way w ≡ true → leads_to way w ≡ true
next_leads way w e = and_first (leads_to way w) (length w == suc (length way)) e

pub written_ascends : (p : Profile) → IsStrictlySortedBy (way_cmp (total_of_function p)) (written p)
written_ascends p = (ordered_is_in_order (way_cmp (total_of_function p)) (ways_tell_apart (total_of_function p)) (flat_map beginnings (recorded p ++ entered p))).ascending

recorded_is_written : (p : Profile) (k x : Way) → Among k (recorded p) → Among x (beginnings k) → Among x (written p)
recorded_is_written p k x h g =
    let cmp = way_cmp (total_of_function p) in
    let t : TellsApart cmp = ways_tell_apart (total_of_function p) in
    let items = flat_map beginnings (recorded p ++ entered p) in
    let there : Among x items = among_flat beginnings x k (recorded p ++ entered p) (among_left k (recorded p) (entered p) h) g in
    among_from_has cmp t x (written p) ((ordered_is_in_order cmp t items).same x ∙ has_from_among cmp t x items there)

counted_is_recorded : (p : Profile) (c : Way × ℕ) → Among c p.counts → nat_lt 0 c.1 ≡ true → Among c.0 (recorded p)
counted_is_recorded p c h e =
    among_left c.0 (map (λ d. d.0) (filter (λ d. nat_lt 0 d.1) p.counts)) (map (λ d. d.0) (filter (λ d. nat_lt 0 d.2) p.calls))
    (among_map (λ d. d.0) c (filter (λ d. nat_lt 0 d.1) p.counts) (among_filter (λ d. nat_lt 0 d.1) c p.counts e h))

-- the last step of a way
abbrev end : Way → Step
end [] = record { kind = function; offset = 0; disc = 0; name = [] }
end (u ∷ w) = last_step u w

-- a way of a key that goes through a line above goes on
longer : (way k : Way) → leads_to way k ≡ true → IsAbove way → IsKeyWay k → length way < length k
longer [] k e above key = absurd above
longer (s ∷ way) [] e above key = absurd key
longer (s ∷ way) (t ∷ k) e above key =
    let here : s ≡ t = same_steps s t (and_first (same_step s t) (leads_to way k) e) in
    elim (split (s ∷ way) (t ∷ k) e) as (λ _. suc (length way) < suc (length k)) [
      | inl h ↦ h
      | inr same ↦
          let ends : (last_step t k).kind ≡ body = key_ends t k key in
          absurd (above (ap (λ w. (end w).kind) same ∙ ends))
    ]
  where
    split : (x y : Way) → leads_to x y ≡ true → (length x < length y) ⊎ (x ≡ y)
    split [] [] f = inr refl
    split [] (u ∷ y) f = inl (omega arith)
    split (u ∷ x) [] f = absurd (true≢false (sym f))
    split (u ∷ x) (v ∷ y) f =
        let q : u ≡ v = same_steps u v (and_first (same_step u v) (leads_to x y) f) in
        elim (split x y (and_second (same_step u v) (leads_to x y) f)) as (λ _. (suc (length x) < suc (length y)) ⊎ (u ∷ x ≡ v ∷ y)) [
          | inl h ↦ inl (omega arith)
          | inr r ↦ inr (λ i. q i ∷ r i)
        ]

    body_ends : (u : Step) (y : Way) → EndsInBody (u ∷ y) → (last_step u y).kind ≡ body
    body_ends u [] f = f
    body_ends u (v ∷ y) f = body_ends v y f.1

    key_ends : (u : Step) (y : Way) → IsKeyWay (u ∷ y) → (last_step u y).kind ≡ body
    key_ends u [] f = absurd f.1
    key_ends u (v ∷ y) f = body_ends v y f.1

-- what one count adds right below a way
one_count : (p : Profile) (way : Way) (c : Way × ℕ) → Among c p.counts → IsKeyWay c.0 → IsAbove way → sum_by (λ w. part w c) (right_below p way) ≡ part way c
one_count p way c h key above =
    elim (leads_to way c.0) as (λ b. leads_to way c.0 ≡ b → sum_by (λ w. part w c) (right_below p way) ≡ cond b c.1 0) [
      | true ↦ λ e.
          elim (nat_lt 0 c.1) as (λ b. nat_lt 0 c.1 ≡ b → sum_by (λ w. part w c) (right_below p way) ≡ c.1) [
            | true ↦ λ some.
                let n = length way in
                let far : n < length c.0 = longer way c.0 e above key in
                let x = take (suc n) c.0 in
                let size : length x ≡ suc n = take_length (suc n) c.0 (omega arith) in
                let there : Among x (written p) = recorded_is_written p c.0 x (counted_is_recorded p c h some) (among_beginnings n c.0 far) in
                let next : is_next way x ≡ true = and_both (leads_to way x) (length x == suc n) (goes_on way c.0 e far) (ap (λ m. m == suc n) size ∙ nat_refl (suc n)) in
                exactly_one (way_cmp (total_of_function p)) (ways_tell_apart (total_of_function p)) x c.0 (right_below p way) c.1
                (IsStrictlySortedBy-filter (way_cmp (total_of_function p)) (is_next way) (written p) (written_ascends p))
                (all_filter (is_next way) (λ w. length w ≡ length x) (λ w q. next_length way w q ∙ sym size) (written p))
                (among_filter (is_next way) x (written p) next there) (take_is_front (suc n) c.0)
            | false ↦ λ none.
                let zero_count : c.1 ≡ 0 = grind (arith, nat_tests) in
                sum_same (λ w. part w c) (λ _. 0) (right_below p way) (all_filter (is_next way) (λ w. part w c ≡ 0) (λ w _. nothing (leads_to w c.0) c.1 zero_count) (written p))
                ∙ sum_none (right_below p way) ∙ sym zero_count
          ] refl
      | false ↦ λ e.
          sum_same (λ w. part w c) (λ _. 0) (right_below p way)
          (all_filter (is_next way) (λ w. part w c ≡ 0) (λ w q. ap (λ b. cond b c.1 0) (lacks_longer way w c.0 (next_leads way w q) e)) (written p))
          ∙ sum_none (right_below p way)
    ] refl
  where
    nothing : (b : Bool) (m : ℕ) → m ≡ 0 → cond b m 0 ≡ 0
    nothing true m e = e
    nothing false m e = refl

    lacks_longer : (way w k : Way) → leads_to way w ≡ true → leads_to way k ≡ false → leads_to w k ≡ false
    lacks_longer way w k f e =
        elim (leads_to w k) as (λ b. leads_to w k ≡ b → b ≡ false) [
          | true ↦ λ g. absurd (true≢false (sym (front_of_front way w k f g) ∙ e))
          | false ↦ λ _. refl
        ] refl

-- what counts add right below a way
sum_swapped : (p : Profile) (way : Way) (cs : List (Way × ℕ)) → ((c : Way × ℕ) → Among c cs → Among c p.counts) → AllByRecursion (λ c. IsKeyWay c.0) cs → IsAbove way → sum_by (λ w. sum_by (part w) cs) (right_below p way) ≡ sum_by (part way) cs
sum_swapped p way [] inside keys above = sum_none (right_below p way)
sum_swapped p way (c ∷ cs) inside keys above =
    sum_same (λ w. sum_by (part w) (c ∷ cs)) (λ w. part w c + sum_by (part w) cs) (right_below p way) (all_filter (is_next way) (λ w. sum_by (part w) (c ∷ cs) ≡ part w c + sum_by (part w) cs) (λ w _. sum_by-cons (part w) c cs) (written p))
    ∙ sum_both (λ w. part w c) (λ w. sum_by (part w) cs) (right_below p way)
    ∙ (λ i. one_count p way c (inside c (inl refl)) keys.0 above i + sum_swapped p way cs (λ d h. inside d (inr h)) keys.1 above i)
    ∙ sym (sum_by-cons (part way) c cs)

-- the count of a body line is all that lies below it
body_no_call : body ≡ call → ⊥
body_no_call e = cc

body_no_function : body ≡ function → ⊥
body_no_function e = cc

body_stops : (s : Step) (x k : Way) → (last_step s x).kind ≡ body → EndsInBody k → leads_to (s ∷ x) k ≡ same_way (s ∷ x) k
body_stops s x [] b key = absurd key
body_stops s [] (t ∷ []) b key = refl
body_stops s [] (t ∷ u ∷ k) b key =
    elim (same_step s t) as (λ e. same_step s t ≡ e → (e && true) ≡ (e && false)) [
      | true ↦ λ e. absurd (body_no_call (sym b ∙ ap (λ z. z.kind) (same_steps s t e) ∙ key.0))
      | false ↦ λ _. refl
    ] refl
body_stops s (v ∷ x) (t ∷ []) b key = refl
body_stops s (v ∷ x) (t ∷ u ∷ k) b key = ap (λ e. same_step s t && e) (body_stops v x (u ∷ k) b key.1)

body_is_key : (s : Step) (x k : Way) → (last_step s x).kind ≡ body → IsKeyWay k → leads_to (s ∷ x) k ≡ same_way (s ∷ x) k
body_is_key s x [] b key = absurd key
body_is_key s [] (t ∷ []) b key = absurd key.1
body_is_key s [] (t ∷ u ∷ k) b key =
    elim (same_step s t) as (λ e. same_step s t ≡ e → (e && true) ≡ (e && false)) [
      | true ↦ λ e. absurd (body_no_function (sym b ∙ ap (λ z. z.kind) (same_steps s t e) ∙ key.0))
      | false ↦ λ _. refl
    ] refl
body_is_key s (v ∷ x) (t ∷ k) b key = ap (λ e. same_step s t && e) (body_stops v x k b key.1)

pub filter_same : {T : Type 0} (p q : T → Bool) (xs : List T) → AllByRecursion (λ x. p x ≡ q x) xs → filter p xs ≡ filter q xs
filter_same p q [] all = refl
filter_same p q (x ∷ xs) all = λ i. cond (all.0 i) (x ∷ filter_same p q xs all.1 i) (filter_same p q xs all.1 i)

count_is_below : (p : Profile) (s : Step) (x : Way) → HasKeyWays p → (last_step s x).kind ≡ body → count_of p (s ∷ x) ≡ sum_by (part (s ∷ x)) p.counts
count_is_below p s x keys b =
    ap (sum_by (λ c. c.1)) (filter_same (λ c. same_way (s ∷ x) c.0) (λ c. leads_to (s ∷ x) c.0) p.counts (all_then (λ c. IsKeyWay c.0) (λ c. same_way (s ∷ x) c.0 ≡ leads_to (s ∷ x) c.0) (λ c key. sym (body_is_key s x c.0 b key)) p.counts keys))
    ∙ below_is_parts (s ∷ x) p.counts

-- numbers that stand still alike
still_twice : (m n : ℕ) → min (min n m) m ≡ min n m
still_twice m n = omega arith

still_add : (m a b s t : ℕ) → min a m ≡ min b m → min s m ≡ min t m → min (a + s) m ≡ min (b + t) m
still_add m a b s t e f = omega arith

sums_alike : {T : Type 0} (m : ℕ) (f g : T → ℕ) (xs : List T) → AllByRecursion (λ x. min (f x) m ≡ min (g x) m) xs → min (sum_by f xs) m ≡ min (sum_by g xs) m
sums_alike m f g [] all = refl
sums_alike m f g (x ∷ xs) all =
    ap (λ n. min n m) (sum_by-cons f x xs) ∙ still_add m (f x) (g x) (sum_by f xs) (sum_by g xs) all.0 (sums_alike m f g xs all.1) ∙ ap (λ n. min n m) (sym (sum_by-cons g x xs))

number_is_below : (p : Profile) (way w : Way) → HasKeyWays p → is_next way w ≡ true → capped (number_of p w) ≡ capped (sum_by (part w) p.counts)
number_is_below p way [] keys e = let n : length {A = Step} [] ≡ suc (length way) = next_length way [] e in absurd (omega arith)
number_is_below p way (s ∷ x) keys e =
    elim ((last_step s x).kind) as (λ k. (last_step s x).kind ≡ k → capped (number_by p (s ∷ x) k) ≡ capped (sum_by (part (s ∷ x)) p.counts)) [
      | function ↦ λ _. still_twice (2 ^ 64 - 1) (sum_by (λ c. c.1) (filter (λ c. leads_to (s ∷ x) c.0) p.counts)) ∙ ap capped (below_is_parts (s ∷ x) p.counts)
      | body ↦ λ b. ap capped (count_is_below p s x keys b)
      | call ↦ λ _. still_twice (2 ^ 64 - 1) (sum_by (λ c. c.1) (filter (λ c. leads_to (s ∷ x) c.0) p.counts)) ∙ ap capped (below_is_parts (s ∷ x) p.counts)
    ] refl

pub totals_add_up : TotalsAddUp
totals_add_up p way keys above =
    ap capped (below_is_parts way p.counts ∙ sym (sum_swapped p way p.counts (λ c h. h) keys above))
    ∙ sym (sums_alike (2 ^ 64 - 1) (number_of p) (λ w. sum_by (part w) p.counts) (right_below p way)
    (all_filter (is_next way) (λ w. capped (number_of p w) ≡ capped (sum_by (part w) p.counts)) (λ w e. number_is_below p way w keys e) (written p)))
