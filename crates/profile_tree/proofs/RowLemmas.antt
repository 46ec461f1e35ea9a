-- The rows of items tell the lines of a profile.
use Rattle.std.proofs.Common.{◌≡◌, ◌<◌, ℕ, ◌+◌, ◌==◌, nat_lt, Bool, ◌&&◌, true, false, cond, List, [], ◌∷◌, ◌++◌, map, filter, length, get_or, sum_by, All, Option, None, Some, refl, sym, ap, subst, ◌∙◌, inl, inr, arith, IsPermutation, add-zero}
use Rattle.std.proofs.lemmas.Bool.{true≢false}
use Rattle.std.proofs.lemmas.Bool.Decides.{nat_tests}
use Rattle.std.proofs.lemmas.List.{map-append}
use Rattle.std.proofs.lemmas.List.Sorted.{sum_by-IsPermutation, list_any-IsPermutation}
use Rattle.std.proofs.lemmas.List.Sums.{sum_by-append}
use Rattle.std.specs.List.{AllByRecursion, flat_map, last_or, list_any, range_with_len}
use Rattle.std.specs.declared.cmp.Ordering.{Ordering}
use Rattle.std.specs.Ordering.{eq_by_cmp}
use Rattle.key_types.specs.declared.ids.KeyId.{KeyId}
use Rattle.key_types.specs.declared.key.Frame.{Frame}
use Rattle.key_types.specs.declared.key.Key.{Key}
use Rattle.profile_model.proofs.OrderLemmas.{ways_tell_apart}
use Rattle.cold_model.specs.Cold.{written_with}
use Rattle.profile_model.specs.Laws.{TellsApart, has}
use Rattle.profile_model.specs.Orders.{ordered, way_cmp}
use Rattle.profile_model.specs.Profile.{capped, total_of, recorded, entered}
use Rattle.profile_model.specs.Ways.{Step, Way, beginnings, last_step, is_front, leads_to, same_step, to_function, to_body}
use Rattle.profile_tree.proofs.ListLemmas.{and_first, and_second, and_both, or_left, or_right, or_first, or_other, bool_cases, nat_same, nat_refl, Among, among_left, among_right, among_either, among_map_back, among_filter, among_filter_back, among_map, among_permuted, among_all, all_among, SomeAll, map_map, filter_map, sum_map, sum_filter, sum_same, sum_none, any_flat, any_map, any_among, among_any, any_alike, ordered_map, ordered_same, ordered_alike, all_ordered, all_beginnings, all_beginnings_map, among_range, range_among}
use Rattle.profile_tree.proofs.SumLemmas.{Given, all_to_each, steps_are_named, total_is}
use Rattle.profile_tree.proofs.WayLemmas.{IsNamed, Ranked, same_steps, ways_agree, fronts_agree}
use Rattle.profile_tree.specs.Items.{Source, Told, entered as entered_sources, has_count, is_besides, is_caller, is_marked, is_written, of_count, of_head, ranked, ranked_source, sources, told_item, was_entered, written}
use Rattle.profile_tree.specs.Known.{IsGiven}
use Rattle.profile_tree.specs.Said.{said, way_at, ways_said}
use Rattle.profile_tree.specs.Steps.{NumberedStep, at_function, at_line, at_call, frame_step, name_at, named, steps_of, steps_of_given}
use Rattle.profile_tree.specs.declared.head.Head.{Head}
use Rattle.profile_lists.specs.Pairs.{was_made}
use Rattle.profile_lists.specs.declared.pairs.Call.{Call}
use Rattle.profile_lists.proofs.FrontLemmas.{lists_tell_apart}
use Rattle.profile_lists.proofs.OrderLemmas.{steps_tell_apart}
use Rattle.profile_lists.specs.Rows.{IsRowOf, OneIs, Tells, leads_to as row_leads_to, same_step as same_rank, ways_of}
use Rattle.profile_lists.specs.Ways.{step_cmp as rank_cmp, way_cmp as ranks_cmp}
use Rattle.profile_lists.specs.declared.item.Item.{Item}
use Rattle.profile_lists.specs.declared.item.Step.{Step as RankedStep}
use Rattle.profile_lists.specs.declared.rows.Row.{Row}

-- the last step of a way by numbers
abbrev pub last_of : NumberedStep → List NumberedStep → NumberedStep
last_of s [] = s
last_of s (t ∷ w) = last_of t w

pub last_named : (names : List (List ℕ)) (s : NumberedStep) (w : List NumberedStep) → last_step (named names s) (map (named names) w) ≡ named names (last_of s w)
last_named names s [] = refl
last_named names s (t ∷ w) = last_named names t w

pub last_ranked : (tr nr : List ℕ) (s : NumberedStep) (w : List NumberedStep) → last_or (Some (ranked tr nr s)) (map (ranked tr nr) w) ≡ Some (ranked tr nr (last_of s w))
last_ranked tr nr s [] = refl
last_ranked tr nr s (t ∷ w) = last_ranked tr nr t w

pub last_is_named : (n : ℕ) (s : NumberedStep) (w : List NumberedStep) → IsNamed n s → AllByRecursion (IsNamed n) w → IsNamed n (last_of s w)
last_is_named n s [] h all = h
last_is_named n s (t ∷ w) h all = last_is_named n t w all.0 all.1

-- a way that ends in a line and begins a key's is that key's
rank_no : (s t : Step) → s ≡ t → s.kind ≡ t.kind
rank_no s t e = ap (λ x. x.kind) e

line_no_call : (names : List (List ℕ)) (s : NumberedStep) (o d p q i : ℕ) → s ≡ at_line o d → same_step (named names s) (named names (at_call p q i)) ≡ true → ⊥
line_no_call names s o d p q i e f = true≢false (sym f ∙ ap (λ x. same_step (named names x) (named names (at_call p q i))) e)

line_no_function : (names : List (List ℕ)) (s : NumberedStep) (o d i : ℕ) → s ≡ at_line o d → same_step (named names s) (named names (at_function i)) ≡ true → ⊥
line_no_function names s o d i e f = true≢false (sym f ∙ ap (λ x. same_step (named names x) (named names (at_function i))) e)

tail_whole : (names : List (List ℕ)) (s : NumberedStep) (w : List NumberedStep) (calls : List Frame) (o d p q : ℕ) → last_of s w ≡ at_line o d → leads_to (map (named names) (s ∷ w)) (map (named names) (map frame_step calls ++ at_line p q ∷ [])) ≡ true → map (named names) (s ∷ w) ≡ map (named names) (map frame_step calls ++ at_line p q ∷ [])
tail_whole names s [] [] o d p q e f = let first : named names s ≡ to_body p q = same_steps (named names s) (to_body p q) (and_first _ _ f) in λ i. first i ∷ []
tail_whole names s [] (g ∷ calls) o d p q e f = absurd (line_no_call names s o d g.offset g.disc g.name.0 e (and_first _ _ f))
tail_whole names s (t ∷ w) [] o d p q e f = absurd (true≢false (sym (and_second (same_step (named names s) (to_body p q)) false f)))
tail_whole names s (t ∷ w) (g ∷ calls) o d p q e f =
    let first : named names s ≡ named names (frame_step g) = same_steps (named names s) (named names (frame_step g)) (and_first _ _ f) in
    let rest : map (named names) (t ∷ w) ≡ map (named names) (map frame_step calls ++ at_line p q ∷ []) = tail_whole names t w calls o d p q e (and_second (same_step (named names s) (named names (frame_step g))) _ f) in
    λ i. first i ∷ rest i

key_whole : (names : List (List ℕ)) (s : NumberedStep) (w : List NumberedStep) (key : Key) (o d : ℕ) → last_of s w ≡ at_line o d → leads_to (map (named names) (s ∷ w)) (map (named names) (steps_of key)) ≡ true → map (named names) (s ∷ w) ≡ map (named names) (steps_of key)
key_whole names s [] key o d e f = absurd (line_no_function names s o d key.root.0 e (and_first _ _ f))
key_whole names s (t ∷ w) key o d e f =
    let first : named names s ≡ named names (at_function key.root.0) = same_steps (named names s) (named names (at_function key.root.0)) (and_first _ _ f) in
    let rest : map (named names) (t ∷ w) ≡ map (named names) (map frame_step key.calls ++ at_line key.offset key.disc ∷ []) = tail_whole names t w key.calls o d key.offset key.disc e (and_second (same_step (named names s) (named names (at_function key.root.0))) _ f) in
    λ i. first i ∷ rest i

given_whole : (names : List (List ℕ)) (s : NumberedStep) (w : List NumberedStep) (key : Option Key) (o d : ℕ) → last_of s w ≡ at_line o d → leads_to (map (named names) (s ∷ w)) (map (named names) (steps_of_given key)) ≡ true → map (named names) (s ∷ w) ≡ map (named names) (steps_of_given key)
given_whole names s w None o d e f = absurd (true≢false (sym f))
given_whole names s w (Some key) o d e f = key_whole names s w key o d e f

function_whole : (names : List (List ℕ)) (s : NumberedStep) (w : List NumberedStep) (i o d : ℕ) → last_of s w ≡ at_line o d → leads_to (map (named names) (s ∷ w)) (map (named names) (at_function i ∷ [])) ≡ true → ⊥
function_whole names s [] i o d e f = line_no_function names s o d i e (and_first _ _ f)
function_whole names s (t ∷ w) i o d e f = true≢false (sym (and_second (same_step (named names s) (to_function (name_at names i))) false f))

-- a way is that of a key
pub record IsKeyWay (names : List (List ℕ)) (keys : List Key) (way : Way) (key : ℕ) : Type 0 where
  pub given : key < length keys
  pub is : way ≡ way_at names keys key

one_among : (P : Item → Type 0) (items : List Item) → OneIs P items → (item : Item) × (Among item items) × P item
one_among P [] h = absurd h
one_among P (x ∷ items) h = elim h as (λ _. (item : Item) × (Among item (x ∷ items)) × P item) [
  | inl p ↦ (x, inl refl, p)
  | inr r ↦ let b = one_among P items r in (b.0, inr b.1, b.2)
]

module _ (names : List (List ℕ)) (keys : List Key) (counts : List ℕ) (calls : List Call) (besides : List KeyId) (heads : List Head) (besides_given : All (λ key. key.0 < length keys) besides) (totals tr ti nr ni : List ℕ)
    (g : Given names keys calls heads) (r : Ranked names (λ name. total_of (said names keys counts calls heads) (to_function name ∷ [])) totals tr ti nr ni)
    (items sorted : List Item) (told : map told_item items ≡ map (ranked_source tr nr) (sources keys counts calls besides heads)) (permuted : IsPermutation items sorted) where
  all_sources : List Source
  all_sources = sources keys counts calls besides heads

  function_named : (head : Head) → Among head heads → head.name.0 < length names
  function_named head h = all_to_each (λ x. x.name.0 < length names) head heads g.given.entered h

  sources_named : AllByRecursion (λ s. AllByRecursion (IsNamed (length names)) s.way) all_sources
  unfolding all_sources
  sources_named = all_among (λ s. AllByRecursion (IsNamed (length names)) s.way) (sources keys counts calls besides heads) (λ s h.
      elim (among_either s (written keys counts calls besides) (entered_sources heads) h) as (λ _. AllByRecursion (IsNamed (length names)) s.way) [
        | inl a ↦
            let b = among_map_back (of_count keys counts) s (filter (is_written counts calls besides) (range_with_len 0 (length keys))) a in
            subst (λ x. AllByRecursion (IsNamed (length names)) x.way) (sym b.2) (steps_are_named names keys counts calls heads g b.0)
        | inr a ↦
            let b = among_map_back of_head s (filter was_entered heads) a in
            subst (λ x. AllByRecursion (IsNamed (length names)) x.way) (sym b.2) (function_named b.0 (among_filter_back was_entered b.0 heads b.1).1, tt)
      ])

  -- the item that a row tells of is that of a source
  source_of : (item : Item) → Among item sorted → (s : Source) × (Among s all_sources) × (told_item item ≡ ranked_source tr nr s)
  unfolding all_sources
  source_of item h =
      let there : Among (told_item item) (map (ranked_source tr nr) (sources keys counts calls besides heads)) = subst (Among (told_item item)) told (among_map told_item item items (among_permuted item items sorted permuted h)) in
      among_map_back (ranked_source tr nr) (told_item item) (sources keys counts calls besides heads) there

  key_of_source : (s : NumberedStep) (w : List NumberedStep) (o d : ℕ) (x : Source) → last_of s w ≡ at_line o d → Among x all_sources → leads_to (map (named names) (s ∷ w)) (map (named names) x.way) ≡ true → IsKeyWay names keys (map (named names) (s ∷ w)) x.key
  unfolding all_sources
  key_of_source s w o d x e h f =
      elim (among_either x (written keys counts calls besides) (entered_sources heads) h) as (λ _. IsKeyWay names keys (map (named names) (s ∷ w)) x.key) [
        | inl a ↦
            let b = among_map_back (of_count keys counts) x (filter (is_written counts calls besides) (range_with_len 0 (length keys))) a in
            let low = among_range 0 (length keys) b.0 (among_filter_back (is_written counts calls besides) b.0 (range_with_len 0 (length keys)) b.1).1 in
            let leads : leads_to (map (named names) (s ∷ w)) (way_at names keys b.0) ≡ true = ap (λ y. leads_to (map (named names) (s ∷ w)) (map (named names) y.way)) (sym b.2) ∙ f in
            subst (λ y. IsKeyWay names keys (map (named names) (s ∷ w)) y.key) (sym b.2) (record { given = omega (arith, low.1); is = given_whole names s w _ o d e leads })
        | inr a ↦
            let b = among_map_back of_head x (filter was_entered heads) a in
            absurd (function_whole names s w b.0.name.0 o d e (ap (λ y. leads_to (map (named names) (s ∷ w)) (map (named names) y.way)) (sym b.2) ∙ f))
      ]

  pub key_of_row : (s : NumberedStep) (w : List NumberedStep) (o d : ℕ) (row : Row) → AllByRecursion (IsNamed (length names)) (s ∷ w) → last_of s w ≡ at_line o d → IsRowOf sorted (map (ranked tr nr) (s ∷ w)) row → IsKeyWay names keys (map (named names) (s ∷ w)) row.key
  key_of_row s w o d row known e is =
      let one = one_among (Tells (map (ranked tr nr) (s ∷ w)) row) sorted is.told in
      let src = source_of one.0 one.1 in
      let named_way : AllByRecursion (IsNamed (length names)) src.0.way = among_all (λ x. AllByRecursion (IsNamed (length names)) x.way) src.0 all_sources sources_named src.1 in
      let leads : leads_to (map (named names) (s ∷ w)) (map (named names) src.0.way) ≡ true =
      sym (fronts_agree names _ totals tr ti nr ni r (s ∷ w) src.0.way known named_way)
      ∙ ap (λ x. is_front same_rank (map (ranked tr nr) (s ∷ w)) x.way) (sym src.2) ∙ one.2.leads in
      subst (IsKeyWay names keys (map (named names) (s ∷ w))) (sym (one.2.key ∙ ap (λ x. x.key) src.2)) (key_of_source s w o d src.0 e src.1 leads)

  -- totals
  below : Way → Source → ℕ
  below x s = cond (leads_to x (map (named names) s.way)) s.count 0

  either_way : (b : Bool) (n : ℕ) → n ≡ 0 → cond b n 0 ≡ 0
  either_way true n e = e
  either_way false n e = refl

  written_below : (x : Way) → sum_by (below x) (written keys counts calls besides) ≡ sum_by (λ id. cond (leads_to x (way_at names keys id)) (get_or counts id 0) 0) (range_with_len 0 (length keys))
  unfolding below
  written_below x =
      sum_map (below x) (of_count keys counts) (filter (is_written counts calls besides) (range_with_len 0 (length keys)))
      ∙ sum_filter (λ id. below x (of_count keys counts id)) (is_written counts calls besides) (range_with_len 0 (length keys))
      ∙ sum_same (λ id. cond (is_written counts calls besides id) (below x (of_count keys counts id)) 0) (λ id. cond (leads_to x (way_at names keys id)) (get_or counts id 0) 0) (range_with_len 0 (length keys))
      (all_among (λ id. cond (is_written counts calls besides id) (below x (of_count keys counts id)) 0 ≡ cond (leads_to x (way_at names keys id)) (get_or counts id 0) 0) (range_with_len 0 (length keys))
      (λ id h. bool_cases (is_written counts calls besides id)
      (λ e. ap (λ b. cond b (below x (of_count keys counts id)) 0) e)
      (λ e.
      let few : has_count counts id ≡ false = or_first (has_count counts id) (is_marked calls besides id) e in
      let none : get_or counts id 0 ≡ 0 = grind (arith, nat_tests) in
      ap (λ b. cond b (below x (of_count keys counts id)) 0) e ∙ sym (either_way (leads_to x (way_at names keys id)) (get_or counts id 0) none))))

  entered_below : (x : Way) → sum_by (below x) (entered_sources heads) ≡ 0
  unfolding below
  entered_below x = sum_map (below x) of_head (filter was_entered heads) ∙ sum_none (λ h. below x (of_head h)) (filter was_entered heads) (all_among (λ h. below x (of_head h) ≡ 0) (filter was_entered heads) (λ h _. either_way (leads_to x (to_function (name_at names h.name.0) ∷ [])) 0 refl))

  sources_below : (x : Way) → sum_by (below x) all_sources ≡ sum_by (λ id. cond (leads_to x (way_at names keys id)) (get_or counts id 0) 0) (range_with_len 0 (length keys))
  unfolding all_sources
  sources_below x =
      sum_by-append (below x) (written keys counts calls besides) (entered_sources heads)
      ∙ (λ i. written_below x i + entered_below x i)
      ∙ add-zero _

  pub total_of_row : (w : List NumberedStep) (row : Row) → AllByRecursion (IsNamed (length names)) w → IsRowOf sorted (map (ranked tr nr) w) row → row.total ≡ total_of (said names keys counts calls heads) (map (named names) w)
  unfolding below all_sources
  total_of_row w row known is =
      let front = map (ranked tr nr) w in
      let part : Told → ℕ = λ t. cond (is_front same_rank front t.way) t.count 0 in
      is.total
      ∙ ap capped
      (sum_filter (λ i. i.count) (row_leads_to front) sorted
      ∙ sum_by-IsPermutation (λ i. part (told_item i)) items sorted permuted
      ∙ sym (sum_map part told_item items)
      ∙ ap (sum_by part) told
      ∙ sum_map part (ranked_source tr nr) (sources keys counts calls besides heads)
      ∙ sum_same (λ s. part (ranked_source tr nr s)) (below (map (named names) w)) (sources keys counts calls besides heads)
      (all_among (λ s. part (ranked_source tr nr s) ≡ below (map (named names) w) s) (sources keys counts calls besides heads)
      (λ s h. ap (λ b. cond b s.count 0) (fronts_agree names _ totals tr ti nr ni r w s.way known (among_all (λ x. AllByRecursion (IsNamed (length names)) x.way) s (sources keys counts calls besides heads) sources_named h))))
      ∙ sources_below (map (named names) w))
      ∙ sym (total_is names keys counts calls heads g (map (named names) w))

  -- the ways that are written
  source_ways : List (List NumberedStep)
  source_ways = map (λ s. s.way) (sources keys counts calls besides heads)

  id_cmp : List NumberedStep → List NumberedStep → Ordering
  id_cmp v w = way_cmp (λ name. total_of (said names keys counts calls heads) (to_function name ∷ [])) (map (named names) v) (map (named names) w)

  pub fronts : List (List NumberedStep)
  fronts = ordered id_cmp (flat_map beginnings source_ways)

  ways_named : AllByRecursion (AllByRecursion (IsNamed (length names))) source_ways
  unfolding source_ways all_sources
  ways_named = all_among (AllByRecursion (IsNamed (length names))) source_ways (λ w h.
      let b = among_map_back (λ s. s.way) w (sources keys counts calls besides heads) h in
      subst (AllByRecursion (IsNamed (length names))) (sym b.2) (among_all (λ s. AllByRecursion (IsNamed (length names)) s.way) b.0 (sources keys counts calls besides heads) sources_named b.1))

  pub fronts_named : AllByRecursion (SomeAll (IsNamed (length names))) fronts
  unfolding fronts
  fronts_named = all_ordered (SomeAll (IsNamed (length names))) id_cmp (flat_map beginnings source_ways) (all_beginnings (IsNamed (length names)) source_ways ways_named)

  all_of_some : (w : List NumberedStep) → SomeAll (IsNamed (length names)) w → AllByRecursion (IsNamed (length names)) w
  all_of_some [] h = absurd h
  all_of_some (s ∷ w) h = h

  -- by names
  entered_is : entered (said names keys counts calls heads) ≡ map (λ s. map (named names) s.way) (entered_sources heads)
  entered_is =
      ap (map (λ h. to_function h.0 ∷ [])) (filter_map (λ h. nat_lt 0 h.1) (λ head. (name_at names head.name.0, head.times)) heads)
      ∙ map_map (λ h. to_function h.0 ∷ []) (λ head. (name_at names head.name.0, head.times)) (filter was_entered heads)
      ∙ sym (map_map (λ s. map (named names) s.way) of_head (filter was_entered heads))

  -- the keys that have a count
  counted : List Source
  counted = map (of_count keys counts) (filter (has_count counts) (range_with_len 0 (length keys)))

  counted_is : map (λ (c : Way × ℕ). c.0) (filter (λ (c : Way × ℕ). nat_lt 0 c.1) (map (λ id. (way_at names keys id, get_or counts id 0)) (range_with_len 0 (length keys)))) ≡ map (λ s. map (named names) s.way) counted
  unfolding counted
  counted_is =
      ap (map (λ (c : Way × ℕ). c.0)) (filter_map (λ (c : Way × ℕ). nat_lt 0 c.1) (λ id. (way_at names keys id, get_or counts id 0)) (range_with_len 0 (length keys)))
      ∙ map_map (λ (c : Way × ℕ). c.0) (λ id. (way_at names keys id, get_or counts id 0)) (filter (has_count counts) (range_with_len 0 (length keys)))
      ∙ sym (map_map (λ s. map (named names) s.way) (of_count keys counts) (filter (has_count counts) (range_with_len 0 (length keys))))

  -- the keys that have a target, once for each call
  of_call : Call → Source
  of_call call = of_count keys counts call.key.0

  made : List Source
  made = map of_call (filter was_made calls)

  called_is : map (λ (c : Way × List ℕ × ℕ). c.0) (filter (λ (c : Way × List ℕ × ℕ). nat_lt 0 c.2) (map (λ call. (way_at names keys call.key.0, name_at names call.callee.0, call.times)) calls)) ≡ map (λ s. map (named names) s.way) made
  unfolding made of_call
  called_is =
      ap (map (λ (c : Way × List ℕ × ℕ). c.0)) (filter_map (λ (c : Way × List ℕ × ℕ). nat_lt 0 c.2) (λ call. (way_at names keys call.key.0, name_at names call.callee.0, call.times)) calls)
      ∙ map_map (λ (c : Way × List ℕ × ℕ). c.0) (λ call. (way_at names keys call.key.0, name_at names call.callee.0, call.times)) (filter was_made calls)
      ∙ sym (map_map (λ s. map (named names) s.way) of_call (filter was_made calls))

  append_assoc : {T : Type 0} (xs ys zs : List T) → (xs ++ ys) ++ zs ≡ xs ++ (ys ++ zs)
  append_assoc [] ys zs = refl
  append_assoc (x ∷ xs) ys zs = ap (λ l. x ∷ l) (append_assoc xs ys zs)

  way_of_source : Source → Way
  way_of_source s = map (named names) s.way

  -- the keys that have lines besides
  of_besides : KeyId → Source
  of_besides key = of_count keys counts key.0

  more : List Source
  more = map of_besides besides

  more_is : ways_said names keys besides ≡ map (λ s. map (named names) s.way) more
  unfolding more of_besides
  more_is = sym (map_map (λ s. map (named names) s.way) (λ (key : KeyId). of_count keys counts key.0) besides)

  told_sources : List Source
  told_sources = counted ++ (made ++ (entered_sources heads ++ more))

  ways_are : recorded (said names keys counts calls heads) ++ (entered (said names keys counts calls heads) ++ ways_said names keys besides) ≡ map way_of_source told_sources
  unfolding way_of_source told_sources
  ways_are =
      let way : Source → Way = λ s. map (named names) s.way in
      (λ i. (counted_is i ++ called_is i) ++ (entered_is i ++ more_is i))
      ∙ append_assoc (map way counted) (map way made) (map way (entered_sources heads) ++ map way more)
      ∙ ap (λ l. map way counted ++ (map way made ++ l)) (sym (map-append way (entered_sources heads) more))
      ∙ ap (λ l. map way counted ++ l) (sym (map-append way made (entered_sources heads ++ more)))
      ∙ sym (map-append way counted (made ++ (entered_sources heads ++ more)))

  -- a key that has a line has it once
  is_there : (id : ℕ) → id < length keys → is_written counts calls besides id ≡ true → Among (way_of_source (of_count keys counts id)) (map way_of_source (sources keys counts calls besides heads))
  is_there id low is =
      among_map way_of_source (of_count keys counts id) (sources keys counts calls besides heads) (among_left (of_count keys counts id) (written keys counts calls besides) (entered_sources heads)
      (among_map (of_count keys counts) id (filter (is_written counts calls besides) (range_with_len 0 (length keys)))
      (among_filter (is_written counts calls besides) id (range_with_len 0 (length keys)) is (range_among 0 (length keys) id (omega arith) (omega (arith, low))))))

  called_there : (call : Call) → Among call calls → was_made call ≡ true → Among (way_of_source (of_call call)) (map way_of_source (sources keys counts calls besides heads))
  unfolding of_call
  called_there call h was =
      let known = all_to_each (IsGiven (length keys) (length names)) call calls g.given.called h in
      is_there call.key.0 known.0
      (or_right (has_count counts call.key.0) (is_marked calls besides call.key.0)
      (or_left (is_caller calls call.key.0) (is_besides besides call.key.0)
      (among_any (λ c. was_made c && c.key.0 == call.key.0) call calls h (and_both (was_made call) (call.key.0 == call.key.0) was (nat_refl call.key.0)))))

  more_there : (key : KeyId) → Among key besides → Among (way_of_source (of_besides key)) (map way_of_source (sources keys counts calls besides heads))
  unfolding of_besides
  more_there key h =
      is_there key.0 (all_to_each (λ (k : KeyId). k.0 < length keys) key besides besides_given h)
      (or_right (has_count counts key.0) (is_marked calls besides key.0)
      (or_right (is_caller calls key.0) (is_besides besides key.0)
      (among_any (λ (k : KeyId). k.0 == key.0) key besides h (nat_refl key.0))))

  -- each source that is told is one, and the other way round
  abbrev IsOne : Source → Type 0
  IsOne s = Among (way_of_source s) (map way_of_source (sources keys counts calls besides heads))

  counted_one : (s : Source) → Among s counted → IsOne s
  unfolding counted
  counted_one s a =
      let b = among_map_back (of_count keys counts) s (filter (has_count counts) (range_with_len 0 (length keys))) a in
      let at = among_filter_back (has_count counts) b.0 (range_with_len 0 (length keys)) b.1 in
      let low = among_range 0 (length keys) b.0 at.1 in
      subst IsOne (sym b.2) (is_there b.0 (omega (arith, low.1)) (or_left (has_count counts b.0) (is_marked calls besides b.0) at.0))

  made_one : (s : Source) → Among s made → IsOne s
  unfolding made
  made_one s a =
      let b = among_map_back of_call s (filter was_made calls) a in
      let at = among_filter_back was_made b.0 calls b.1 in
      subst IsOne (sym b.2) (called_there b.0 at.1 at.0)

  entered_one : (s : Source) → Among s (entered_sources heads) → IsOne s
  entered_one s a =
      among_map way_of_source s (sources keys counts calls besides heads) (among_right s (written keys counts calls besides) (entered_sources heads) a)

  more_one : (s : Source) → Among s more → IsOne s
  unfolding more
  more_one s a = let b = among_map_back of_besides s besides a in subst IsOne (sym b.2) (more_there b.0 b.1)

  told_there : (s : Source) → Among s told_sources → IsOne s
  unfolding told_sources
  told_there s h =
      elim (among_either s counted (made ++ (entered_sources heads ++ more)) h) as (λ _. IsOne s) [
        | inl a ↦ counted_one s a
        | inr rest ↦ elim (among_either s made (entered_sources heads ++ more) rest) as (λ _. IsOne s) [
          | inl a ↦ made_one s a
          | inr last ↦ elim (among_either s (entered_sources heads) more last) as (λ _. IsOne s) [
            | inl a ↦ entered_one s a
            | inr a ↦ more_one s a
          ]
        ]
      ]

  marked_back : (id : ℕ) → is_marked calls besides id ≡ true → Among (of_count keys counts id) (made ++ (entered_sources heads ++ more))
  unfolding made of_call more of_besides
  marked_back id is =
      bool_cases (is_caller calls id)
      (λ some.
      let one = any_among (λ call. was_made call && call.key.0 == id) calls some in
      let same : one.0.key.0 ≡ id = nat_same one.0.key.0 id (and_second (was_made one.0) (one.0.key.0 == id) one.2) in
      among_left (of_count keys counts id) made (entered_sources heads ++ more)
      (subst (λ k. Among (of_count keys counts k) made) same
      (among_map of_call one.0 (filter was_made calls) (among_filter was_made one.0 calls (and_first (was_made one.0) (one.0.key.0 == id) one.2) one.1))))
      (λ none.
      let one = any_among (λ (key : KeyId). key.0 == id) besides (or_other (is_caller calls id) (is_besides besides id) is none) in
      let same : one.0.0 ≡ id = nat_same one.0.0 id one.2 in
      among_right (of_count keys counts id) made (entered_sources heads ++ more) (among_right (of_count keys counts id) (entered_sources heads) more
      (subst (λ k. Among (of_count keys counts k) more) same (among_map of_besides one.0 besides one.1))))

  written_back : (id : ℕ) → id < length keys → is_written counts calls besides id ≡ true → Among (of_count keys counts id) told_sources
  unfolding told_sources counted
  written_back id low is =
      bool_cases (has_count counts id)
      (λ some. among_left (of_count keys counts id) counted (made ++ (entered_sources heads ++ more))
      (among_map (of_count keys counts) id (filter (has_count counts) (range_with_len 0 (length keys)))
      (among_filter (has_count counts) id (range_with_len 0 (length keys)) some (range_among 0 (length keys) id (omega arith) (omega (arith, low))))))
      (λ none. among_right (of_count keys counts id) counted (made ++ (entered_sources heads ++ more))
      (marked_back id (or_other (has_count counts id) (is_marked calls besides id) is none)))

  told_back : (s : Source) → Among s (sources keys counts calls besides heads) → Among (way_of_source s) (map way_of_source told_sources)
  unfolding told_sources
  told_back s h =
      among_map way_of_source s told_sources
      (elim (among_either s (written keys counts calls besides) (entered_sources heads) h) as (λ _. Among s told_sources) [
        | inl a ↦
            let b = among_map_back (of_count keys counts) s (filter (is_written counts calls besides) (range_with_len 0 (length keys))) a in
            let at = among_filter_back (is_written counts calls besides) b.0 (range_with_len 0 (length keys)) b.1 in
            let low = among_range 0 (length keys) b.0 at.1 in
            subst (λ x. Among x told_sources) (sym b.2) (written_back b.0 (omega (arith, low.1)) at.0)
        | inr a ↦ among_right s counted (made ++ (entered_sources heads ++ more)) (among_right s made (entered_sources heads ++ more) (among_left s (entered_sources heads) more a))
      ])

  named_ways : map way_of_source (sources keys counts calls besides heads) ≡ map (map (named names)) source_ways
  unfolding way_of_source source_ways
  named_ways = sym (map_map (map (named names)) (λ s. s.way) (sources keys counts calls besides heads))

  same_written : (total : List ℕ → ℕ) (z : Way) → has (way_cmp total) z (flat_map beginnings (map way_of_source told_sources)) ≡ has (way_cmp total) z (flat_map beginnings (map way_of_source (sources keys counts calls besides heads)))
  same_written total z =
      let p : Way → Bool = λ w. list_any (eq_by_cmp (way_cmp total) z) (beginnings w) in
      any_flat (eq_by_cmp (way_cmp total) z) beginnings (map way_of_source told_sources)
      ∙ any_alike way_of_source p told_sources (sources keys counts calls besides heads) told_there told_back
      ∙ sym (any_flat (eq_by_cmp (way_cmp total) z) beginnings (map way_of_source (sources keys counts calls besides heads)))

  pub written_is : written_with (ways_said names keys besides) (said names keys counts calls heads) ≡ map (map (named names)) fronts
  unfolding fronts id_cmp
  written_is =
      let total : List ℕ → ℕ = λ name. total_of (said names keys counts calls heads) (to_function name ∷ []) in
      let cmp = way_cmp total in
      ap (λ ws. ordered cmp (flat_map beginnings ws)) ways_are
      ∙ ordered_alike cmp (ways_tell_apart total) (flat_map beginnings (map way_of_source told_sources)) (flat_map beginnings (map way_of_source (sources keys counts calls besides heads))) (same_written total)
      ∙ ap (λ ws. ordered cmp (flat_map beginnings ws)) named_ways
      ∙ ap (ordered cmp) (all_beginnings_map (named names) source_ways)
      ∙ ordered_map cmp (map (named names)) (flat_map beginnings source_ways)

  -- by ranks
  ranked_ways : ways_of items ≡ map (map (ranked tr nr)) source_ways
  unfolding source_ways
  ranked_ways =
      sym (map_map (λ t. t.way) told_item items)
      ∙ ap (map (λ t. t.way)) told
      ∙ map_map (λ t. t.way) (ranked_source tr nr) (sources keys counts calls besides heads)
      ∙ sym (map_map (map (ranked tr nr)) (λ s. s.way) (sources keys counts calls besides heads))

  rank_order : TellsApart ranks_cmp
  rank_order = lists_tell_apart rank_cmp steps_tell_apart

  same_beginnings : (z : List RankedStep) → has ranks_cmp z (flat_map beginnings (ways_of sorted)) ≡ has ranks_cmp z (flat_map beginnings (ways_of items))
  same_beginnings z =
      let p : List RankedStep → Bool = λ w. list_any (eq_by_cmp ranks_cmp z) (beginnings w) in
      any_flat (eq_by_cmp ranks_cmp z) beginnings (ways_of sorted)
      ∙ any_map p (λ item. item.way.items) sorted
      ∙ sym (list_any-IsPermutation (λ item. p item.way.items) items sorted permuted)
      ∙ sym (any_map p (λ item. item.way.items) items)
      ∙ sym (any_flat (eq_by_cmp ranks_cmp z) beginnings (ways_of items))

  pub rows_are : ordered ranks_cmp (flat_map beginnings (ways_of sorted)) ≡ map (map (ranked tr nr)) fronts
  unfolding fronts id_cmp
  rows_are =
      ordered_alike ranks_cmp rank_order (flat_map beginnings (ways_of sorted)) (flat_map beginnings (ways_of items)) same_beginnings
      ∙ ap (λ ws. ordered ranks_cmp (flat_map beginnings ws)) ranked_ways
      ∙ ap (ordered ranks_cmp) (all_beginnings_map (ranked tr nr) source_ways)
      ∙ ordered_map ranks_cmp (map (ranked tr nr)) (flat_map beginnings source_ways)
      ∙ ap (map (map (ranked tr nr)))
      (ordered_same (SomeAll (IsNamed (length names))) (λ v w. ranks_cmp (map (ranked tr nr) v) (map (ranked tr nr) w)) id_cmp
      (λ v w h k. ways_agree names (λ name. total_of (said names keys counts calls heads) (to_function name ∷ [])) totals tr ti nr ni r v w (all_of_some v h) (all_of_some w k))
      (flat_map beginnings source_ways) (all_beginnings (IsNamed (length names)) source_ways ways_named))
