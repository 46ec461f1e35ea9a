-- The count of each way is the largest hits times factor over all addresses.
use Rattle.std.proofs.Common.{◌≡◌, ◌≤◌, ◌<◌, ℕ, ◌*◌, ◌^◌, nat_lt, nat_le, max, Bool, true, false, cond, ◌&&◌, List, [], ◌∷◌, map, length, get_or, sum_by, Option, None, Some, refl, sym, ap, subst, ◌∙◌, inl, inr, arith}
use Rattle.std.specs.Prelude.{filter, count_by, IsSome}
use Rattle.std.specs.List.{filter_map, range_with_len}
use Rattle.std.specs.Option.{option_map, option_map_or}
use Rattle.std.specs.declared.cmp.Ordering.{Ordering}
use Rattle.std.proofs.lemmas.Bool.{true≢false}
use Rattle.profile_model.specs.Hits.{hits_at, times_of}
use Rattle.profile_model.specs.declared.ran_range.RanRange.{RanRange}
use Rattle.profile_lists.specs.Laws.{factor_by, place_by}
use Rattle.key_types.specs.Segments.{key_told, segment_at}
use Rattle.key_types.specs.declared.ids.KeyId.{KeyId}
use Rattle.key_types.specs.declared.ids.NameId.{NameId}
use Rattle.key_types.specs.declared.key.Key.{Key}
use Rattle.key_types.specs.declared.places.Seg.{Seg}
use Rattle.key_types.specs.declared.places.Where.{Where}
use Rattle.sample_model.specs.declared.pair.Pair.{Pair}
use Rattle.branch_counts.specs.Table.{Tallies}
use Rattle.report_model.specs.declared.class.RangeClass.{RangeClass}
use Rattle.report_model.specs.declared.class.RangeClass.TheVariants.{Ran, Reversed, RangeOutside, Crossing}
use Rattle.report_model.specs.Ranges.{is_class, range_class}
use Rattle.binary_model.specs.Places.{Place, outside, nameless, no_line, at_way}
use Rattle.profile_model.specs.Counts.{IsCount, weighed}
use Rattle.profile_model.specs.Laws.{TellsApart, has}
use Rattle.profile_model.specs.Orders.{way_cmp}
use Rattle.profile_model.specs.Profile.{count_of}
use Rattle.profile_model.specs.Ways.{Way, same_way}
use Rattle.profile_model.proofs.OrderLemmas.{ways_tell_apart}
use Rattle.profile_model.proofs.OrderedLemmas.{ordered_is_in_order}
use Rattle.profile_report.specs.Classed.{classed_by}
use Rattle.profile_report.specs.declared.classed.Classed.{Classed}
use Rattle.profile_tree.proofs.ListLemmas.{Among, all_among, among_filter, among_filter_back, among_has, among_map, among_map_back, among_range, bool_cases, has_among, nat_same, sum_filter, sum_map, sum_none}
use Rattle.profile_tree.proofs.SumLemmas.{Given, count_is, no_way_among, one_way_among, ways_apart}
use Rattle.profile_tree.proofs.WayLemmas.{same_ways, way_itself}
use Rattle.profile_tree.specs.Said.{AreCountsOfPlaces, said, way_at}
use Rattle.profile_tree.specs.declared.head.Head.{Head}
use Rattle.profile_lists.specs.declared.pairs.Call.{Call}
use Rattle.report_model.specs.Report.{Sampled}
use Rattle.output_model.specs.Program.{Program, way_of_place}
use Rattle.output_model.specs.Program as program_told
use Rattle.output_model.specs.Built.{ran_past}
use Rattle.output_model.specs.Sampled.{class_of_range, count_among, has_way, hits_of, largest, profile_among, ways_among}
use Rattle.weight_model.specs.Edges.{passed}
use Rattle.profile_writer.proofs.SumLemmas.{kept_among, kept_from, kept_sum, members}
use Rattle.profile_writer.specs.Items.{ran_by, ran_in}
use Rattle.profile_writer.specs.Told.{TellsPlace, TellsProgram, key_of}

-- ---- the largest of some numbers

at_most_largest : (n : ℕ) (numbers : List ℕ) → Among n numbers → n ≤ largest numbers
at_most_largest n [] h = absurd h
at_most_largest n (m ∷ numbers) h = elim h as (λ _. n ≤ max m (largest numbers)) [
  | inl e ↦ omega arith
  | inr r ↦ let rest = at_most_largest n numbers r in omega arith
]

largest_at_most : (bound : ℕ) (numbers : List ℕ) → ((n : ℕ) → Among n numbers → n ≤ bound) → largest numbers ≤ bound
largest_at_most bound [] each = omega arith
largest_at_most bound (m ∷ numbers) each =
    let here = each m (inl refl) in
    let rest = largest_at_most bound numbers (λ n h. each n (inr h)) in
    omega arith

-- ---- hits

-- what ran, by a test of first and last addresses
abbrev ran_weight : (ℕ → ℕ → Bool) → RanRange → ℕ
ran_weight test range = cond (test range.lo range.hi) range.times 0

ran_row : (test : ℕ → ℕ → Bool) (class : RangeClass) (lo hi times : ℕ)
    → option_map_or (ran_weight test) (ran_by class lo hi times) 0 ≡ cond (is_class Ran class && test lo hi) times 0
ran_row test Ran lo hi times = refl
ran_row test Reversed lo hi times = refl
ran_row test RangeOutside lo hi times = refl
ran_row test Crossing lo hi times = refl

module _ (program : Program) (sampled : Sampled) (function : ℕ → Option ℕ) (rows : List Pair) (functions : (address : ℕ) → function address ≡ program.function address) (tallied : Tallies sampled.ranges rows) where
  abbrev classed : List (Classed RangeClass)
  classed = map (classed_by (range_class function)) rows

  ran_alike : (test : ℕ → ℕ → Bool) → times_of (filter (λ range. test range.lo range.hi) (filter_map ran_in classed))
      ≡ count_by (λ range. is_class Ran (class_of_range program range) && test range.0 range.1) sampled.ranges
  ran_alike test =
      sum_filter (λ range. range.times) (λ range. test range.lo range.hi) (filter_map ran_in classed)
      ∙ kept_sum ran_in (ran_weight test) classed
      ∙ sum_map (λ r. option_map_or (ran_weight test) (ran_in r) 0) (classed_by (range_class function)) rows
      ∙ (λ i. sum_by (λ row. ran_row test (range_class function row.from row.to) row.from row.to row.times i) rows)
      ∙ (λ i. sum_by (λ (row : Pair). cond (is_class Ran (range_class (λ a. functions a i) row.from row.to) && test row.from row.to) row.times 0) rows)
      ∙ members sampled.ranges rows (λ range. is_class Ran (class_of_range program range) && test range.0 range.1) tallied

  pub hits_alike : (address : ℕ) → hits_at (filter_map ran_in classed) address ≡ hits_of program sampled address
  hits_alike address = ran_alike (λ lo hi. nat_le lo address && nat_le address hi)

  pub passed_alike : passed (filter_map ran_in classed) ≡ ran_past program sampled
  passed_alike = λ i address. ran_alike (λ lo hi. nat_lt lo address && nat_le address hi) i

-- ---- places

way_there : (way w : Way) → Some w ≡ Some way → w ≡ way
way_there way w e = cc

no_way : (way : Way) → None ≡ Some way → ⊥
no_way way e = cc

no_number : (n : ℕ) → None ≡ Some n → ⊥
no_number n e = cc

number_there : (m n : ℕ) → Some m ≡ Some n → m ≡ n
number_there m n e = cc

-- a place with a way has the number of a key of that way
pub key_of_way : (all : List (List ℕ)) (keys : List Key) (place : Place) (answer : Where) → TellsPlace all keys place answer → (way : Way) → way_of_place place ≡ Some way
    → (id : KeyId) × (key_of answer ≡ Some id.0) × (id.0 < length keys) × (way_at all keys id.0 ≡ way)
key_of_way all keys outside answer shown way e = absurd (no_way way e)
key_of_way all keys nameless answer shown way e = absurd (no_way way e)
key_of_way all keys no_line answer shown way e = absurd (no_way way e)
key_of_way all keys (at_way w) answer shown way e = (shown.0, ap key_of shown.1, shown.2.inside, shown.2.way_is ∙ way_there way w e)

-- a place with the number of a key has the way of that key
pub way_of_key : (all : List (List ℕ)) (keys : List Key) (place : Place) (answer : Where) → TellsPlace all keys place answer → (n : ℕ) → key_of answer ≡ Some n
    → way_of_place place ≡ Some (way_at all keys n)
way_of_key all keys outside answer shown n e = absurd (no_number n (sym (ap key_of shown) ∙ e))
way_of_key all keys nameless answer shown n e = absurd (no_number n (sym (ap key_of shown) ∙ e))
way_of_key all keys no_line answer shown n e = absurd (no_number n (sym (ap key_of shown) ∙ e))
way_of_key all keys (at_way w) answer shown n e =
    let same : shown.0.0 ≡ n = number_there shown.0.0 n (sym (ap key_of shown.1) ∙ e) in
    ap (λ z. Some z) (sym shown.2.way_is ∙ ap (way_at all keys) same)

has_from : (way : Way) (o : Option Way) → o ≡ Some way → option_map_or (same_way way) o false ≡ true
has_from way o e = ap (λ x. option_map_or (same_way way) x false) e ∙ way_itself way

way_from : (way : Way) (o : Option Way) → option_map_or (same_way way) o false ≡ true → o ≡ Some way
way_from way None e = absurd (true≢false (sym e))
way_from way (Some w) e = ap (λ z. Some z) (sym (same_ways way w e))

is_there : (o : Option ℕ) (n : ℕ) → o ≡ Some n → IsSome o
is_there None n e = absurd (no_number n e)
is_there (Some m) n e = refl

module _ (program : Program) (sampled : Sampled) (all : List (List ℕ)) (keys : List Key) (segments : List Seg) (place : ℕ → Where) (function : ℕ → Option ℕ) (entered : ℕ → Option NameId)
    (shown : TellsProgram program all keys segments place function entered)
    (addresses : List ℕ) (inside : (address : ℕ) → nat_lt address (2 ^ 64) ≡ true → Among address addresses)
    (beyond : (address : ℕ) → nat_lt address (2 ^ 64) ≡ false → hits_of program sampled address ≡ 0)
    (counts : List ℕ) (calls : List Call) (heads : List Head) (given : Given all keys calls heads)
    (len : length counts ≡ length keys) (told : AreCountsOfPlaces segments (hits_of program sampled) counts) where
  abbrev hits : ℕ → ℕ
  hits = hits_of program sampled

  abbrev way_here : ℕ → Option Way
  way_here address = way_of_place (program.place address)

  -- the number of the key of an address with a way
  key_there : (address : ℕ) (way : Way) → way_here address ≡ Some way → (id : KeyId) × (place_by segments address ≡ Some id.0) × (id.0 < length keys) × (way_at all keys id.0 ≡ way)
  key_there address way e =
      let key = key_of_way all keys (program.place address) (place address) (shown.places address) way e in
      (key.0, shown.keys_told address ∙ key.1, key.2, key.3)

  -- the way of an address with a key
  way_by_key : (address n : ℕ) → place_by segments address ≡ Some n → way_here address ≡ Some (way_at all keys n)
  way_by_key address n e = way_of_key all keys (program.place address) (place address) (shown.places address) n (sym (shown.keys_told address) ∙ e)

  none_beyond : (address : ℕ) → nat_lt address (2 ^ 64) ≡ false → weighed hits (factor_by segments) address ≡ 0
  none_beyond address far = let none = beyond address far in ap (λ (n : ℕ). n * factor_by segments address) none ∙ zero_times (factor_by segments address)
    where
      zero_times : (n : ℕ) → 0 * n ≡ 0
      zero_times n = omega arith

  -- the counts of a key and of its way, both ways
  count_at_most : (n : ℕ) → n < length counts → get_or counts n 0 ≤ count_among addresses program sampled (way_at all keys n)
  count_at_most n low =
      let is : IsCount (place_by segments) hits (factor_by segments) n (get_or counts n 0) = told n low in
      elim is.attained as (λ _. get_or counts n 0 ≤ count_among addresses program sampled (way_at all keys n)) [
        | inl none ↦ omega arith
        | inr found ↦
            let address = found.0 in
            bool_cases (nat_lt address (2 ^ 64))
            (λ near.
            let way : way_here address ≡ Some (way_at all keys n) = way_by_key address n found.1 in
            let kept : Among address (filter (has_way program (way_at all keys n)) addresses) = among_filter (has_way program (way_at all keys n)) address addresses (has_from (way_at all keys n) (way_here address) way) (inside address near) in
            let there : Among (weighed hits program.factor address) (map (weighed hits program.factor) (filter (has_way program (way_at all keys n)) addresses)) = among_map (weighed hits program.factor) address (filter (has_way program (way_at all keys n)) addresses) kept in
            let factor : factor_by segments address ≡ program.factor address = shown.factors_told address (is_there (place_by segments address) n found.1) in
            let count : weighed hits program.factor address ≡ get_or counts n 0 = ap (λ (f : ℕ). hits address * f) (sym factor) ∙ found.2 in
            let least = at_most_largest (weighed hits program.factor address) (map (weighed hits program.factor) (filter (has_way program (way_at all keys n)) addresses)) there in
            subst (λ (m : ℕ). m ≤ count_among addresses program sampled (way_at all keys n)) count least)
            (λ far. let none : get_or counts n 0 ≡ 0 = sym found.2 ∙ none_beyond address far in omega (arith, none))
      ]

  count_at_least : (n : ℕ) → n < length counts → count_among addresses program sampled (way_at all keys n) ≤ get_or counts n 0
  count_at_least n low =
      let is : IsCount (place_by segments) hits (factor_by segments) n (get_or counts n 0) = told n low in
      largest_at_most (get_or counts n 0) (map (weighed hits program.factor) (filter (has_way program (way_at all keys n)) addresses))
      (λ m h.
      let from = among_map_back (weighed hits program.factor) m (filter (has_way program (way_at all keys n)) addresses) h in
      let address = from.0 in
      let kept = among_filter_back (has_way program (way_at all keys n)) address addresses from.1 in
      let way : way_here address ≡ Some (way_at all keys n) = way_from (way_at all keys n) (way_here address) kept.0 in
      let key = key_there address (way_at all keys n) way in
      let same : key.0.0 ≡ n =
      sym (nat_same n key.0.0 (sym (ways_apart all keys counts calls heads given key.0.0 n key.2 (subst (λ (l : ℕ). n < l) len low)) ∙ subst (λ (w : Way). same_way (way_at all keys key.0.0) w ≡ true) key.3 (way_itself (way_at all keys key.0.0)))) in
      let there : place_by segments address ≡ Some n = key.1 ∙ ap (λ z. Some z) same in
      let factor : factor_by segments address ≡ program.factor address = shown.factors_told address (is_there (place_by segments address) n there) in
      let most : hits address * factor_by segments address ≤ get_or counts n 0 = is.largest address there in
      subst (λ (k : ℕ). k ≤ get_or counts n 0) (ap (λ (f : ℕ). hits address * f) factor ∙ sym from.2) most)

  count_same : (n : ℕ) → n < length counts → get_or counts n 0 ≡ count_among addresses program sampled (way_at all keys n)
  count_same n low = let a = count_at_most n low in let b = count_at_least n low in omega arith

  -- an address has a key where it has a way, and both count the same
  count_here : (n address : ℕ) (way : Way) → place_by segments address ≡ Some n → way_here address ≡ Some way → get_or counts n 0 ≡ count_among addresses program sampled way
  count_here n address way by_number e =
      let key = key_there address way e in
      let same : key.0.0 ≡ n = number_there key.0.0 n (sym key.1 ∙ by_number) in
      count_same n (omega (arith, key.2, len, same)) ∙ ap (count_among addresses program sampled) (ap (way_at all keys) (sym same) ∙ key.3)

  counted_by : (address : ℕ) (segment : Option Seg) (o : Option Way) → segment_at segments address ≡ segment → way_here address ≡ o
      → option_map (λ key. get_or counts key.0 0) (option_map (λ s. s.key) segment) ≡ option_map (count_among addresses program sampled) o
  counted_by address None None there e = refl
  counted_by address None (Some way) there e =
      let key = key_there address way e in
      absurd (no_number key.0.0 (sym (ap (option_map (λ s. s.key.0)) there) ∙ key.1))
  counted_by address (Some s) None there e =
      absurd (no_way (way_at all keys s.key.0) (sym e ∙ way_by_key address s.key.0 (ap (option_map (λ s. s.key.0)) there)))
  counted_by address (Some s) (Some way) there e = ap (λ n. Some n) (count_here s.key.0 address way (ap (option_map (λ s. s.key.0)) there) e)

  pub counted_alike : (address : ℕ) → option_map (λ key. get_or counts key.0 0) (key_told segments address) ≡ option_map (count_among addresses program sampled) (way_here address)
  counted_alike address = counted_by address (segment_at segments address) (way_here address) refl refl

  abbrev cmp : Way → Way → Ordering
  cmp = way_cmp (λ _. 0)

  apart : TellsApart cmp
  apart = ways_tell_apart (λ _. 0)

  abbrev items : List Way
  items = filter_map (program_told.way_at program) addresses

  abbrev ws : List Way
  ws = ways_among addresses program

  -- what the definition counts of a way
  told_of_way : (way : Way) → count_of (profile_among addresses program sampled) way ≡ sum_by (λ w. cond (same_way way w) (count_among addresses program sampled w) 0) ws
  told_of_way way =
      sum_filter (λ c. c.1) (λ c. same_way way c.0) (map (λ w. (w, count_among addresses program sampled w)) ws)
      ∙ sum_map (λ c. cond (same_way way c.0) c.1 0) (λ w. (w, count_among addresses program sampled w)) ws

  there_in_order : (way : Way) → has cmp way ws ≡ true → (address : ℕ) × (Among address addresses) × (way_here address ≡ Some way)
  there_in_order way e =
      let unordered : has cmp way items ≡ true = sym ((ordered_is_in_order cmp apart items).same way) ∙ e in
      kept_from (program_told.way_at program) way addresses (has_among cmp apart way items unordered)

  way_counted : (way : Way) → has cmp way ws ≡ true → count_of (said all keys counts calls heads) way ≡ count_of (profile_among addresses program sampled) way
  way_counted way e =
      let found = there_in_order way e in
      let key = key_there found.0 way found.2 in
      let low : key.0.0 < length counts = subst (λ (l : ℕ). key.0.0 < l) (sym len) key.2 in
      ap (count_of (said all keys counts calls heads)) (sym key.3)
      ∙ count_is all keys counts calls heads given key.0.0 key.2
      ∙ count_same key.0.0 low
      ∙ ap (count_among addresses program sampled) key.3
      ∙ sym (one_way_among cmp apart (count_among addresses program sampled) way ws (ordered_is_in_order cmp apart items).ascending (has_among cmp apart way ws e))
      ∙ sym (told_of_way way)

  -- a key whose way no address has was not counted
  none_of : (way : Way) → has cmp way ws ≡ false → (n : ℕ) → n < length counts → way ≡ way_at all keys n → get_or counts n 0 ≡ 0
  none_of way lacks n low same =
      let is : IsCount (place_by segments) hits (factor_by segments) n (get_or counts n 0) = told n low in
      elim is.attained as (λ _. get_or counts n 0 ≡ 0) [
        | inl none ↦ none
        | inr found ↦
            let address = found.0 in
            bool_cases (nat_lt address (2 ^ 64))
            (λ near.
            let way_is : way_here address ≡ Some way = way_by_key address n found.1 ∙ ap (λ z. Some z) (sym same) in
            let there : Among way items = kept_among (program_told.way_at program) address way addresses (inside address near) way_is in
            let in_order : has cmp way ws ≡ true = (ordered_is_in_order cmp apart items).same way ∙ among_has cmp apart way items there in
            absurd (true≢false (sym in_order ∙ lacks)))
            (λ far. sym found.2 ∙ none_beyond address far)
      ]

  way_not_counted : (way : Way) → has cmp way ws ≡ false → count_of (said all keys counts calls heads) way ≡ count_of (profile_among addresses program sampled) way
  way_not_counted way lacks =
      sum_filter (λ c. c.1) (λ c. same_way way c.0) (map (λ id. (way_at all keys id, get_or counts id 0)) (range_with_len 0 (length keys)))
      ∙ sum_map (λ c. cond (same_way way c.0) c.1 0) (λ id. (way_at all keys id, get_or counts id 0)) (range_with_len 0 (length keys))
      ∙ sum_none (λ id. cond (same_way way (way_at all keys id)) (get_or counts id 0) 0) (range_with_len 0 (length keys))
      (all_among (λ id. cond (same_way way (way_at all keys id)) (get_or counts id 0) 0 ≡ 0) (range_with_len 0 (length keys))
      (λ id h. bool_cases (same_way way (way_at all keys id))
      (λ e.
      let bound = among_range 0 (length keys) id h in
      let low : id < length counts = omega (arith, bound.1, len) in
      ap (λ b. cond b (get_or counts id 0) 0) e ∙ none_of way lacks id low (same_ways way (way_at all keys id) e))
      (λ e. ap (λ b. cond b (get_or counts id 0) 0) e)))
      ∙ sym (no_way_among (count_among addresses program sampled) way ws (λ h. true≢false (sym (among_has cmp apart way ws h) ∙ lacks)))
      ∙ sym (told_of_way way)

  pub counts_alike : (way : Way) → count_of (said all keys counts calls heads) way ≡ count_of (profile_among addresses program sampled) way
  counts_alike way = bool_cases (has cmp way ws) (way_counted way) (way_not_counted way)
