-- The numbers that are read of a written profile are its own.
use Rattle.std.proofs.Common.{◌≡◌, ◌<◌, ℕ, ◌+◌, ◌-◌, ◌&&◌, nat_lt, Bool, true, false, cond, List, [], ◌∷◌, ◌++◌, filter, filter_map, map, length, refl, sym, ap, subst, ◌∙◌, inl, inr, arith, add-zero, zero-add}
use Rattle.std.specs.Cmp.Lexicographic.{bytes_decides}
use Rattle.std.specs.List.{AllByRecursion}
use Rattle.std.specs.List.Sorted.{IsStrictlySortedBy}
use Rattle.std.proofs.lemmas.Bool.{true≢false, cases_lt}
use Rattle.std.proofs.lemmas.List.Elements.{filter_map-append}
use Rattle.list_lemmas.proofs.Among.{among_left, among_right, among_map, among_flat, among_filter, among_filter_back, among_all}
use Rattle.merge_laws.proofs.SumLemmas.{kept_sum, kept_more, number_in-both}
use Rattle.profile_model.proofs.OrderLemmas.{targets_tell_apart}
use Rattle.profile_model.proofs.OrderedLemmas.{Above, ordered_is_in_order}
use Rattle.profile_model.proofs.StepLemmas.{and_both, and_first, and_second, same_ways, way_itself}
use Rattle.profile_model.specs.Laws.{has}
use Rattle.profile_model.specs.Merge.{both}
use Rattle.profile_model.specs.Orders.{target_cmp}
use Rattle.profile_model.specs.Profile.{Profile, function_line, body_line, call_line, count_of, target_of, head_of, total_of, targets_of, recorded, entered, written, line_at}
use Rattle.profile_model.specs.Spelled.{What, head, count, target, Number, as_call, as_count, as_head, number_in, numbers_on, profile_by}
use Rattle.profile_model.specs.Ways.{Step, Way, body, call, to_function, same_name, same_way, beginnings, last_step}
use Rattle.profile_laws.proofs.CountLemmas.{counted, name_itself}
use Rattle.profile_laws.proofs.OnceLemmas.{of_targets, way_told}
use Rattle.profile_laws.proofs.TotalLemmas.{Among, among_from_has, has_from_among, not_among_above}
use Rattle.spelling_laws.specs.Told.{CanBeWritten, EndInBody, IsToldWay, IsBodyStep, IsCallStep}
use Rattle.spelling_laws.proofs.OrderLemmas.{cmp_of, tells_of, written_is}
use Rattle.spelling_laws.proofs.LineLemmas.{numbers_told, target_times, targets_ascend}
use Rattle.spelling_laws.proofs.WayLemmas.{IsLineWay, LineOf, a_function, a_body, a_call, line_of_way}

-- ---- the numbers of several lines

parts_are : (xs ys : List Number) → profile_by (xs ++ ys) ≡ both (profile_by xs) (profile_by ys)
unfolding profile_by
parts_are xs ys = λ i. record {
  counts = filter_map-append (λ (number : Number). as_count number.what number.times) xs ys i;
  calls = filter_map-append (λ (number : Number). as_call number.what number.times) xs ys i;
  heads = filter_map-append (λ (number : Number). as_head number.what number.times) xs ys i;
}

abbrev pub number_of : List Number → What → ℕ
number_of numbers what = number_in (profile_by numbers) what

numbers_both : (xs ys : List Number) (what : What) → number_of (xs ++ ys) what ≡ number_of xs what + number_of ys what
numbers_both xs ys what = ap (λ p. number_in p what) (parts_are xs ys) ∙ number_in-both (profile_by xs) (profile_by ys) what

none_of : (what : What) → number_of [] what ≡ 0
unfolding profile_by
none_of (head name) = refl
none_of (count way) = refl
none_of (target way name) = refl

abbrev share : Profile → ℕ → Way → What → ℕ
share p n way what = number_of (numbers_on n way (line_at p way)) what

none_told : (p : Profile) (what : What) (n : ℕ) (ways : List Way) → ((way : Way) → Among way ways → (m : ℕ) → share p m way what ≡ 0) → number_of (numbers_told p n ways) what ≡ 0
none_told p what n [] none = none_of what
none_told p what n (way ∷ ways) none =
    numbers_both (numbers_on n way (line_at p way)) (numbers_told p (n + 1) ways) what
    ∙ (λ i. none way (inl refl) n i + none_told p what (n + 1) ways (λ w h. none w (inr h)) i)

one_told : (p : Profile) (what : What) (x : Way) (number n : ℕ) (ways : List Way) → IsStrictlySortedBy (cmp_of p) ways → Among x ways
    → ((way : Way) → Among way ways → (way ≡ x → ⊥) → (m : ℕ) → share p m way what ≡ 0) → ((m : ℕ) → share p m x what ≡ number)
    → number_of (numbers_told p n ways) what ≡ number
unfolding IsStrictlySortedBy
one_told p what x number n [] up there none is = absurd there
one_told p what x number n (way ∷ ways) up there none is =
    numbers_both (numbers_on n way (line_at p way)) (numbers_told p (n + 1) ways) what
    ∙ elim there as (λ _. share p n way what + number_of (numbers_told p (n + 1) ways) what ≡ number) [
      | inl e ↦
          let lacks : Among x ways → ⊥ = not_among_above (cmp_of p) (tells_of p) x ways (subst (λ z. Above (cmp_of p) z ways) (sym e) up.0) in
          (λ i. (ap (λ w. share p n w what) (sym e) ∙ is n) i
          + none_told p what (n + 1) ways (λ w h. none w (inr h) (λ same. lacks (subst (λ z. Among z ways) same h))) i)
          ∙ add-zero number
      | inr r ↦
          let other : way ≡ x → ⊥ = λ same. not_among_above (cmp_of p) (tells_of p) way ways up.0 (subst (λ z. Among z ways) (sym same) r) in
          (λ i. none way (inl refl) other n i + one_told p what x number (n + 1) ways up.1 r (λ w h. none w (inr h)) is i) ∙ zero-add number
    ]

-- ---- the numbers of one line

no_heads : (at : ℕ) (way : Way) (targets : List (List ℕ × ℕ)) → filter_map (λ (number : Number). as_head number.what number.times) (of_targets at way targets) ≡ []
no_heads at way [] = refl
no_heads at way (t ∷ targets) = no_heads at way targets

no_counts : (at : ℕ) (way : Way) (targets : List (List ℕ × ℕ)) → filter_map (λ (number : Number). as_count number.what number.times) (of_targets at way targets) ≡ []
no_counts at way [] = refl
no_counts at way (t ∷ targets) = no_counts at way targets

calls_on : (at : ℕ) (way : Way) (targets : List (List ℕ × ℕ)) → filter_map (λ (number : Number). as_call number.what number.times) (of_targets at way targets) ≡ map (λ t. (way, t.0, t.1)) targets
calls_on at way [] = refl
calls_on at way (t ∷ targets) = ap (λ calls. (way, t.0, t.1) ∷ calls) (calls_on at way targets)

one_kept : (b : Bool) (n : ℕ) → b ≡ true → cond b n 0 + 0 ≡ n
one_kept true n e = add-zero n
one_kept false n e = absurd (true≢false (sym e))

none_kept : (b : Bool) (n : ℕ) → b ≡ false → cond b n 0 + 0 ≡ 0
none_kept false n e = refl
none_kept true n e = absurd (true≢false e)

-- a head, a count
head_on : (n : ℕ) (way : Way) (other : List ℕ) (total times : ℕ) (name : List ℕ) → number_of (numbers_on n way (function_line other total times)) (head name) ≡ cond (same_name name other) times 0 + 0
unfolding profile_by
head_on n way other total times name = kept_more (λ (h : List ℕ × ℕ). same_name name h.0) (λ h. h.1) (other, times) []

count_on : (n : ℕ) (way other : Way) (depth offset disc times : ℕ) (targets : List (List ℕ × ℕ)) → number_of (numbers_on n other (body_line depth offset disc times targets)) (count way) ≡ cond (same_way way other) times 0 + 0
unfolding profile_by
count_on n way other depth offset disc times targets =
    ap (λ counts. kept_sum (λ (c : Way × ℕ). same_way way c.0) (λ c. c.1) ((other, times) ∷ counts)) (no_counts n other targets)
    ∙ kept_more (λ (c : Way × ℕ). same_way way c.0) (λ c. c.1) (other, times) []

target_on : (n : ℕ) (way other : Way) (name : List ℕ) (depth offset disc times : ℕ) (targets : List (List ℕ × ℕ))
    → number_of (numbers_on n other (body_line depth offset disc times targets)) (target way name)
    ≡ kept_sum (λ (c : Way × List ℕ × ℕ). same_way way c.0 && same_name name c.1) (λ c. c.2) (map (λ t. (other, t.0, t.1)) targets)
unfolding profile_by
target_on n way other name depth offset disc times targets = ap (kept_sum (λ (c : Way × List ℕ × ℕ). same_way way c.0 && same_name name c.1) (λ c. c.2)) (calls_on n other targets)

head_on_body : (n : ℕ) (way : Way) (depth offset disc times : ℕ) (targets : List (List ℕ × ℕ)) (name : List ℕ) → number_of (numbers_on n way (body_line depth offset disc times targets)) (head name) ≡ 0
unfolding profile_by
head_on_body n way depth offset disc times targets name = ap (kept_sum (λ (h : List ℕ × ℕ). same_name name h.0) (λ h. h.1)) (no_heads n way targets)

-- what other ways' targets add
other_targets : (way other : Way) (name : List ℕ) → same_way way other ≡ false → (targets : List (List ℕ × ℕ))
    → kept_sum (λ (c : Way × List ℕ × ℕ). same_way way c.0 && same_name name c.1) (λ c. c.2) (map (λ (t : List ℕ × ℕ). (other, t.0, t.1)) targets) ≡ 0
other_targets way other name e [] = refl
other_targets way other name e (t ∷ targets) =
    kept_more (λ (c : Way × List ℕ × ℕ). same_way way c.0 && same_name name c.1) (λ c. c.2) (other, t.0, t.1) (map (λ (t : List ℕ × ℕ). (other, t.0, t.1)) targets)
    ∙ (λ i. cond (e i && same_name name t.0) t.1 0 + other_targets way other name e targets i)

-- ---- lines of other ways

not_same : (x y : Way) → (y ≡ x → ⊥) → same_way x y ≡ false
not_same x y differ = by (same_way x y) refl
  where
    by : (b : Bool) → same_way x y ≡ b → b ≡ false
    by true e = absurd (differ (sym (same_ways x y e)))
    by false e = refl

name_differs : (name other : List ℕ) → (other ≡ name → ⊥) → same_name name other ≡ false
name_differs name other differ = by (same_name name other) refl
  where
    by : (b : Bool) → same_name name other ≡ b → b ≡ false
    by true e = absurd (differ (sym ((bytes_decides name other).0 e)))
    by false e = refl

nothing_on_call : (n : ℕ) (way : Way) (depth offset disc : ℕ) (name : List ℕ) (total : ℕ) (what : What) → number_of (numbers_on n way (call_line depth offset disc name total)) what ≡ 0
nothing_on_call n way depth offset disc name total what = none_of what

no_count_on_function : (n : ℕ) (way other : Way) (name : List ℕ) (total times : ℕ) → number_of (numbers_on n other (function_line name total times)) (count way) ≡ 0
unfolding profile_by
no_count_on_function n way other name total times = refl

no_target_on_function : (n : ℕ) (way other : Way) (callee name : List ℕ) (total times : ℕ) → number_of (numbers_on n other (function_line name total times)) (target way callee) ≡ 0
unfolding profile_by
no_target_on_function n way other callee name total times = refl

nothing_elsewhere : (p : Profile) (what : What) (way : Way) → IsLineWay way → (way ≡ way_told what → ⊥) → (n : ℕ) → share p n way what ≡ 0
nothing_elsewhere p what way is differ n = by what (line_of_way p way is) differ
  where
    by : (what : What) → LineOf p way → (way ≡ way_told what → ⊥) → share p n way what ≡ 0
    by (head name) (a_function s e f line) differ =
        ap (λ l. number_of (numbers_on n way l) (head name)) line ∙ head_on n way s.name (total_of p way) (head_of p s.name) name
        ∙ none_kept (same_name name s.name) (head_of p s.name) (name_differs name s.name (λ same. differ (e ∙ ap (λ (t : Step). t ∷ []) f.0 ∙ ap (λ m. to_function m ∷ []) same)))
    by (head name) (a_body u t rest e b line) differ = ap (λ l. number_of (numbers_on n way l) (head name)) line ∙ head_on_body n way (length way - 1) (last_step t rest).offset (last_step t rest).disc (count_of p way) (targets_of p way) name
    by (head name) (a_call u t rest e c line) differ = ap (λ l. number_of (numbers_on n way l) (head name)) line ∙ none_of (head name)
    by (count other) (a_function s e f line) differ = ap (λ l. number_of (numbers_on n way l) (count other)) line ∙ no_count_on_function n other way s.name (total_of p way) (head_of p s.name)
    by (count other) (a_body u t rest e b line) differ =
        ap (λ l. number_of (numbers_on n way l) (count other)) line ∙ count_on n other way (length way - 1) (last_step t rest).offset (last_step t rest).disc (count_of p way) (targets_of p way) ∙ none_kept (same_way other way) (count_of p way) (not_same other way differ)
    by (count other) (a_call u t rest e c line) differ = ap (λ l. number_of (numbers_on n way l) (count other)) line ∙ none_of (count other)
    by (target other name) (a_function s e f line) differ = ap (λ l. number_of (numbers_on n way l) (target other name)) line ∙ no_target_on_function n other way name s.name (total_of p way) (head_of p s.name)
    by (target other name) (a_body u t rest e b line) differ =
        ap (λ l. number_of (numbers_on n way l) (target other name)) line ∙ target_on n other way name (length way - 1) (last_step t rest).offset (last_step t rest).disc (count_of p way) (targets_of p way) ∙ other_targets other way name (not_same other way differ) (targets_of p way)
    by (target other name) (a_call u t rest e c line) differ = ap (λ l. number_of (numbers_on n way l) (target other name)) line ∙ none_of (target other name)

-- ---- the line of its own way

zero_either_way : (c : Bool) (n : ℕ) → n ≡ 0 → cond c n 0 ≡ 0
zero_either_way true n e = e
zero_either_way false n e = refl

-- a name that no target has, and one that a target has
none_named : (way : Way) (name : List ℕ) (targets : List (List ℕ × ℕ)) → ((t : List ℕ × ℕ) → Among t targets → same_name name t.0 ≡ true → t.1 ≡ 0)
    → kept_sum (λ (c : Way × List ℕ × ℕ). same_way way c.0 && same_name name c.1) (λ c. c.2) (map (λ (t : List ℕ × ℕ). (way, t.0, t.1)) targets) ≡ 0
none_named way name [] none = refl
none_named way name (t ∷ targets) none =
    kept_more (λ (c : Way × List ℕ × ℕ). same_way way c.0 && same_name name c.1) (λ c. c.2) (way, t.0, t.1) (map (λ (t : List ℕ × ℕ). (way, t.0, t.1)) targets)
    ∙ (λ i. by (same_name name t.0) refl i + none_named way name targets (λ u h. none u (inr h)) i)
  where
    by : (b : Bool) → same_name name t.0 ≡ b → cond (same_way way way && same_name name t.0) t.1 0 ≡ 0
    by true e = zero_either_way (same_way way way && same_name name t.0) t.1 (none t (inl refl) e)
    by false e = ap (λ c. cond (same_way way way && c) t.1 0) e ∙ neither (same_way way way)
      where
        neither : (c : Bool) → cond (c && false) t.1 0 ≡ 0
        neither true = refl
        neither false = refl

one_named : (way : Way) (name : List ℕ) (x : List ℕ × ℕ) (targets : List (List ℕ × ℕ)) → IsStrictlySortedBy target_cmp targets → Among x targets → same_name name x.0 ≡ true
    → ((t : List ℕ × ℕ) → Among t targets → same_name name t.0 ≡ true → t ≡ x)
    → kept_sum (λ (c : Way × List ℕ × ℕ). same_way way c.0 && same_name name c.1) (λ c. c.2) (map (λ (t : List ℕ × ℕ). (way, t.0, t.1)) targets) ≡ x.1
unfolding IsStrictlySortedBy
one_named way name x [] up there is only = absurd there
one_named way name x (t ∷ targets) up there is only =
    kept_more (λ (c : Way × List ℕ × ℕ). same_way way c.0 && same_name name c.1) (λ c. c.2) (way, t.0, t.1) rest
    ∙ elim there as (λ _. cond (same_way way way && same_name name t.0) t.1 0 + rest_sum ≡ x.1) [
      | inl e ↦
          let lacks : Among x targets → ⊥ = not_among_above target_cmp targets_tell_apart x targets (subst (λ z. Above target_cmp z targets) (sym e) up.0) in
          let none : rest_sum ≡ 0 = none_named way name targets (λ u h s. absurd (lacks (subst (λ z. Among z targets) (only u (inr h) s) h))) in
          let here : same_name name t.0 ≡ true = ap (λ (u : List ℕ × ℕ). same_name name u.0) (sym e) ∙ is in
          ap (λ n. cond (same_way way way && same_name name t.0) t.1 0 + n) none
          ∙ one_kept (same_way way way && same_name name t.0) t.1 (and_both (same_way way way) (same_name name t.0) (way_itself way) here)
          ∙ ap (λ (u : List ℕ × ℕ). u.1) (sym e)
      | inr r ↦
          let other : same_name name t.0 ≡ true → ⊥ = λ s. not_among_above target_cmp targets_tell_apart t targets up.0 (subst (λ z. Among z targets) (sym (only t (inl refl) s)) r) in
          ap (λ n. n + rest_sum) (by (same_name name t.0) refl other) ∙ zero-add rest_sum ∙ one_named way name x targets up.1 r is (λ u h s. only u (inr h) s)
    ]
  where
    rest : List (Way × List ℕ × ℕ)
    rest = map (λ (t : List ℕ × ℕ). (way, t.0, t.1)) targets

    rest_sum : ℕ
    rest_sum = kept_sum (λ (c : Way × List ℕ × ℕ). same_way way c.0 && same_name name c.1) (λ c. c.2) rest

    by : (b : Bool) → same_name name t.0 ≡ b → (same_name name t.0 ≡ true → ⊥) → cond (same_way way way && same_name name t.0) t.1 0 ≡ 0
    by true e other = absurd (other e)
    by false e other = ap (λ c. cond (same_way way way && c) t.1 0) e ∙ neither (same_way way way)
      where
        neither : (c : Bool) → cond (c && false) t.1 0 ≡ 0
        neither true = refl
        neither false = refl

-- ---- what is counted is written

itself_begins : (s : Step) (way : Way) → Among (s ∷ way) (beginnings (s ∷ way))
itself_begins s [] = inl refl
itself_begins s (t ∷ way) = inr (among_map (λ front. s ∷ front) (t ∷ way) (beginnings (t ∷ way)) (itself_begins t way))

recorded_written : (p : Profile) (way : Way) → CanBeWritten p → Among way (recorded p) → Among way (written p)
recorded_written p [] can there = absurd (among_all IsToldWay [] (recorded p) can.keys there)
recorded_written p (s ∷ way) can there =
    written_is p (s ∷ way) (among_flat beginnings (s ∷ way) (s ∷ way) (recorded p ++ entered p) (among_left (s ∷ way) (recorded p) (entered p) there) (itself_begins s way))

counted_recorded : (p : Profile) (way : Way) → 0 < count_of p way → Among way (recorded p)
counted_recorded p way some =
    let from = counted (λ (c : Way × ℕ). same_way way c.0) (λ c. c.1) p.counts some in
    among_left way (map (λ c. c.0) (filter (λ c. nat_lt 0 c.1) p.counts)) (map (λ c. c.0) (filter (λ c. nat_lt 0 c.2) p.calls))
    (subst (λ w. Among w (map (λ c. c.0) (filter (λ c. nat_lt 0 c.1) p.counts))) (sym (same_ways way from.0.0 from.2))
    (among_map (λ (c : Way × ℕ). c.0) from.0 (filter (λ c. nat_lt 0 c.1) p.counts) from.1))

-- a call that counts
record IsCalled (p : Profile) (way : Way) (name : List ℕ) : Type 0 where
  call : Way × List ℕ × ℕ
  there : Among call (filter (λ c. nat_lt 0 c.2) p.calls)
  way_is : way ≡ call.0
  name_is : name ≡ call.1

is_called : (p : Profile) (way : Way) (name : List ℕ) → 0 < target_of p way name → IsCalled p way name
is_called p way name some =
    let from = counted (λ (c : Way × List ℕ × ℕ). same_way way c.0 && same_name name c.1) (λ c. c.2) p.calls some in
    record {
      call = from.0;
      there = from.1;
      way_is = same_ways way from.0.0 (and_first (same_way way from.0.0) (same_name name from.0.1) from.2);
      name_is = (bytes_decides name from.0.1).0 (and_second (same_way way from.0.0) (same_name name from.0.1) from.2);
    }

called_recorded : (p : Profile) (way : Way) (name : List ℕ) → 0 < target_of p way name → Among way (recorded p)
called_recorded p way name some =
    let from = is_called p way name some in
    among_right way (map (λ c. c.0) (filter (λ c. nat_lt 0 c.1) p.counts)) (map (λ c. c.0) (filter (λ c. nat_lt 0 c.2) p.calls))
    (subst (λ w. Among w (map (λ c. c.0) (filter (λ c. nat_lt 0 c.2) p.calls))) (sym from.way_is)
    (among_map (λ (c : Way × List ℕ × ℕ). c.0) from.call (filter (λ c. nat_lt 0 c.2) p.calls) from.there))

entered_written : (p : Profile) (name : List ℕ) → 0 < head_of p name → Among (to_function name ∷ []) (written p)
entered_written p name some =
    let from = counted (λ (h : List ℕ × ℕ). same_name name h.0) (λ h. h.1) p.heads some in
    let same : name ≡ from.0.0 = (bytes_decides name from.0.0).0 from.2 in
    let there : Among (to_function from.0.0 ∷ []) (entered p) = among_map (λ (h : List ℕ × ℕ). to_function h.0 ∷ []) from.0 (filter (λ h. nat_lt 0 h.1) p.heads) from.1 in
    subst (λ n. Among (to_function n ∷ []) (written p)) (sym same)
    (written_is p (to_function from.0.0 ∷ [])
    (among_flat beginnings (to_function from.0.0 ∷ []) (to_function from.0.0 ∷ []) (recorded p ++ entered p)
    (among_right (to_function from.0.0 ∷ []) (recorded p) (entered p) there) (inl refl)))

-- What has a number above 0 is on the line of its way.
counted_is_written : (p : Profile) (what : What) → CanBeWritten p → 0 < number_in p what → Among (way_told what) (written p)
counted_is_written p (head name) can some = entered_written p name some
counted_is_written p (count way) can some = recorded_written p way can (counted_recorded p way some)
counted_is_written p (target way name) can some = recorded_written p way can (called_recorded p way name some)

-- ---- a key's line is a body line

ends_in_body : (s : Step) (way : Way) → EndInBody (s ∷ way) → IsBodyStep (last_step s way)
ends_in_body s [] ends = ends
ends_in_body s (t ∷ way) ends = ends_in_body t way ends.1

call_is_no_body : call ≡ body → ⊥
call_is_no_body e = cc

key_is_longer : (s : Step) → IsToldWay (s ∷ []) → ⊥
key_is_longer s told = told.1

key_ends : (s t : Step) (way : Way) → IsToldWay (s ∷ t ∷ way) → (last_step t way).kind ≡ body
key_ends s t way told = ap (λ (u : Step). u.kind) (ends_in_body t way told.1).0

-- the line of a function or of a call is that of no key
no_key_on_function : (way : Way) (s : Step) → way ≡ s ∷ [] → IsToldWay way → ⊥
no_key_on_function way s e told = key_is_longer s (subst IsToldWay e told)

no_key_on_call : (way : Way) (s t : Step) (rest : Way) → way ≡ s ∷ t ∷ rest → IsCallStep (last_step t rest) → IsToldWay way → ⊥
no_key_on_call way s t rest e c told = call_is_no_body (sym (ap (λ (u : Step). u.kind) c.0) ∙ key_ends s t rest (subst IsToldWay e told))

zero_or_more : (n : ℕ) → (0 < n → ⊥) → n ≡ 0
zero_or_more n none = elim (cases_lt 0 n) as (λ _. n ≡ 0) [ inl some ↦ absurd (none some) | inr least ↦ omega arith ]

told_key : (p : Profile) (way : Way) → CanBeWritten p → Among way (recorded p) → IsToldWay way
told_key p way can there = among_all IsToldWay way (recorded p) can.keys there

-- the targets of a body line
target_there : (p : Profile) (way : Way) (name : List ℕ) → 0 < target_of p way name → Among (name, target_of p way name) (targets_of p way)
target_there p way name some =
    let from = is_called p way name some in
    let c = from.call in
    let kept = among_filter_back (λ (d : Way × List ℕ × ℕ). nat_lt 0 d.2) c p.calls from.there in
    let items : List (List ℕ × ℕ) = map (λ c. (c.1, target_of p way c.1)) (filter (λ c. same_way way c.0 && nat_lt 0 c.2) p.calls) in
    let here : Among c (filter (λ c. same_way way c.0 && nat_lt 0 c.2) p.calls) =
    among_filter (λ (d : Way × List ℕ × ℕ). same_way way d.0 && nat_lt 0 d.2) c p.calls
    (and_both (same_way way c.0) (nat_lt 0 c.2) (ap (same_way way) (sym from.way_is) ∙ way_itself way) kept.0) kept.1 in
    let item : Among (c.1, target_of p way c.1) items = among_map (λ (c : Way × List ℕ × ℕ). (c.1, target_of p way c.1)) c (filter (λ c. same_way way c.0 && nat_lt 0 c.2) p.calls) here in
    subst (λ n. Among (n, target_of p way n) (targets_of p way)) (sym from.name_is)
    (among_from_has target_cmp targets_tell_apart (c.1, target_of p way c.1) (targets_of p way)
    ((ordered_is_in_order target_cmp targets_tell_apart items).same (c.1, target_of p way c.1) ∙ has_from_among target_cmp targets_tell_apart (c.1, target_of p way c.1) items item))

targets_sum : (p : Profile) (way : Way) (name : List ℕ)
    → kept_sum (λ (c : Way × List ℕ × ℕ). same_way way c.0 && same_name name c.1) (λ c. c.2) (map (λ (t : List ℕ × ℕ). (way, t.0, t.1)) (targets_of p way)) ≡ target_of p way name
targets_sum p way name = elim (cases_lt 0 (target_of p way name)) [
  | inl some ↦
      one_named way name (name, target_of p way name) (targets_of p way) (targets_ascend p way) (target_there p way name some) (name_itself name)
      (λ t there same. let is : name ≡ t.0 = (bytes_decides name t.0).0 same in λ i. (sym is i, (target_times p way t there ∙ ap (target_of p way) (sym is)) i))
  | inr least ↦
      none_named way name (targets_of p way) (λ t there same. target_times p way t there ∙ ap (target_of p way) (sym ((bytes_decides name t.0).0 same)) ∙ omega (arith, least))
      ∙ omega (arith, least)
]

its_own : (p : Profile) (what : What) → CanBeWritten p → IsLineWay (way_told what) → (n : ℕ) → share p n (way_told what) what ≡ number_in p what
its_own p (head name) can is n = head_on n (to_function name ∷ []) name (total_of p (to_function name ∷ [])) (head_of p name) name ∙ one_kept (same_name name name) (head_of p name) (name_itself name)
its_own p (count way) can is n = by (line_of_way p way is)
  where
    none : (IsToldWay way → ⊥) → 0 ≡ count_of p way
    none lacks = sym (zero_or_more (count_of p way) (λ some. lacks (told_key p way can (counted_recorded p way some))))

    by : LineOf p way → share p n way (count way) ≡ count_of p way
    by (a_function s e f line) = ap (λ l. number_of (numbers_on n way l) (count way)) line ∙ no_count_on_function n way way s.name (total_of p way) (head_of p s.name) ∙ none (no_key_on_function way s e)
    by (a_body u t rest e b line) =
        ap (λ l. number_of (numbers_on n way l) (count way)) line
        ∙ count_on n way way (length way - 1) (last_step t rest).offset (last_step t rest).disc (count_of p way) (targets_of p way) ∙ one_kept (same_way way way) (count_of p way) (way_itself way)
    by (a_call u t rest e c line) = ap (λ l. number_of (numbers_on n way l) (count way)) line ∙ none_of (count way) ∙ none (no_key_on_call way u t rest e c)
its_own p (target way name) can is n = by (line_of_way p way is)
  where
    none : (IsToldWay way → ⊥) → 0 ≡ target_of p way name
    none lacks = sym (zero_or_more (target_of p way name) (λ some. lacks (told_key p way can (called_recorded p way name some))))

    by : LineOf p way → share p n way (target way name) ≡ target_of p way name
    by (a_function s e f line) = ap (λ l. number_of (numbers_on n way l) (target way name)) line ∙ no_target_on_function n way way name s.name (total_of p way) (head_of p s.name) ∙ none (no_key_on_function way s e)
    by (a_body u t rest e b line) =
        ap (λ l. number_of (numbers_on n way l) (target way name)) line
        ∙ target_on n way way name (length way - 1) (last_step t rest).offset (last_step t rest).disc (count_of p way) (targets_of p way) ∙ targets_sum p way name
    by (a_call u t rest e c line) = ap (λ l. number_of (numbers_on n way l) (target way name)) line ∙ none_of (target way name) ∙ none (no_key_on_call way u t rest e c)

-- ---- all lines

pub numbers_are_own : (p : Profile) (what : What) (n : ℕ) → CanBeWritten p → AllByRecursion IsLineWay (written p) → IsStrictlySortedBy (cmp_of p) (written p)
    → number_of (numbers_told p n (written p)) what ≡ number_in p what
numbers_are_own p what n can all up =
    elim (has (cmp_of p) (way_told what) (written p)) as (λ b. has (cmp_of p) (way_told what) (written p) ≡ b → number_of (numbers_told p n (written p)) what ≡ number_in p what) [
      | true ↦ λ e.
          let there = among_from_has (cmp_of p) (tells_of p) (way_told what) (written p) e in
          one_told p what (way_told what) (number_in p what) n (written p) up there
          (λ way h differs m. nothing_elsewhere p what way (among_all IsLineWay way (written p) all h) differs m)
          (λ m. its_own p what can (among_all IsLineWay (way_told what) (written p) all there) m)
      | false ↦ λ e.
          let lacks : Among (way_told what) (written p) → ⊥ = λ h. true≢false (sym (has_from_among (cmp_of p) (tells_of p) (way_told what) (written p) h) ∙ e) in
          none_told p what n (written p) (λ way h m. nothing_elsewhere p what way (among_all IsLineWay way (written p) all h) (λ same. lacks (subst (λ w. Among w (written p)) same h)) m)
          ∙ sym (zero_or_more (number_in p what) (λ some. lacks (counted_is_written p what can some)))
    ] refl
