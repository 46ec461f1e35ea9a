-- The keys of a binary are the places of its addresses.
use Rattle.std.proofs.Common.{◌≡◌, ℕ, zero, suc, ◌<◌, ◌≤◌, ◌+◌, ◌-◌, ◌^◌, Bool, ◌||◌, List, [], ◌∷◌, ◌++◌, map, filter, length, Option, Some, Result, refl, sym, ap, subst, ◌∙◌, arith}
use Rattle.std.specs.Prelude.{if◌then◌else◌}
use Rattle.std.specs.List.{filter_map, range_with_len}
use Rattle.std.specs.Option.{option_map}
use Rattle.std.specs.Ordering.{eq_by_cmp}
use Rattle.std.proofs.lemmas.List.Folds.{list_any-append}
use Rattle.std.specs.Global.{Vec}
use Rattle.refusal.specs.declared.place.Place.{Place}
use Rattle.refusal.specs.declared.place.Stop.{Stop}
use Rattle.refusal.specs.Place.{JudgesUnlessNoMemory}
use Rattle.address_spans.proofs.SpanLemmas.{held, missed-behind, reach}
use Rattle.address_spans.specs.Spans.{AreBetween}
use Rattle.binary_model.specs.Addresses.{function_of_address}
use Rattle.binary_model.specs.Places.{place_of_address}
use Rattle.binary_places.specs.Binary.{IsPlaced}
use Rattle.binary_places.specs.declared.binary.Placed.{Placed}
use Rattle.context_map.specs.Maps.{place_told}
use Rattle.cold_model.proofs.ColdLemmas.{same_lines}
use Rattle.cold_model.specs.Cold.{cold_lines_of, standing_lines_of, stands_in, told_cold}
use Rattle.key_types.specs.Segments.{HasSegment, segment_at, span_of}
use Rattle.key_types.specs.declared.key.Key.{Key}
use Rattle.key_types.specs.declared.places.Seg.{Seg}
use Rattle.output_model.specs.Cold.{cold_lines, cold_output, sampled_lines, sampled_text}
use Rattle.output_model.specs.Program.{program_of}
use Rattle.output_model.specs.Program as program_told
use Rattle.output_model.specs.Sampled.{all_addresses, profile_of}
use Rattle.profile_laws.proofs.OnceLemmas.{way_told}
use Rattle.profile_lists.specs.Laws.{place_by}
use Rattle.profile_maker.specs.Asked.{lack_of}
use Rattle.profile_maker.proofs.ShownLemmas.{programs_shown}
use Rattle.profile_merge.proofs.TellLemmas.{what_same}
use Rattle.profile_merge.specs.Laws.{AreNumbered}
use Rattle.profile_model.proofs.OrderLemmas.{ways_tell_apart}
use Rattle.profile_model.specs.Laws.{has}
use Rattle.profile_model.specs.Orders.{way_cmp}
use Rattle.profile_model.specs.Profile.{Profile, total_of_function}
use Rattle.profile_model.specs.Spelled.{profile_by, spelled}
use Rattle.profile_model.specs.Text.{text_of_lines}
use Rattle.profile_model.specs.Ways.{Way}
use Rattle.profile_report.specs.Told.{Tells}
use Rattle.profile_text.specs.Draft.{Kept}
use Rattle.profile_text.specs.Text.{TellText}
use Rattle.profile_text.specs.declared.item.Item.{Item}
use Rattle.profile_text.specs.declared.item.What.TheVariants.{Count}
use Rattle.profile_tree.proofs.ListLemmas.{Among, among_filter, among_filter_back, among_has, among_map, among_map_back, among_range, bool_same, has_among, kept_among, kept_from, range_among}
use Rattle.profile_tree.specs.Said.{way_at}
use Rattle.profile_tree.specs.Told.{told}
use Rattle.profile_writer.proofs.CountLemmas.{key_of_way, way_of_key}
use Rattle.profile_writer.specs.Profile.{IsProfileWithCold, Parts}
use Rattle.profile_writer.specs.Told.{TellsPlace}
use Rattle.report_model.specs.Report.{Classes, Sampled, report_text}
use Rattle.cold_maker.specs.Besides.{counted, first_ways}
use Rattle.span_cover.proofs.AskedLemmas.{asks-all}

-- ---- each key has an address

-- an address whose segment has the key of a number
pub record HasAddress (n from to : ℕ) (segments : List Seg) : Type 0 where
  pub at : ℕ
  pub low : from ≤ at
  pub high : at < to
  pub is : place_by segments at ≡ Some n

first : (s : Seg) (segments : List Seg) → s.lo < s.hi → segment_at (s ∷ segments) s.lo ≡ Some s
first s segments some = rw (held (span_of s) s.lo (omega arith) some) refl

later : (s : Seg) (segments : List Seg) (a : ℕ) → s.hi ≤ a → segment_at (s ∷ segments) a ≡ segment_at segments a
later s segments a behind = rw (missed-behind (span_of s) a behind) refl

address_of_key : (n from to : ℕ) (segments : List Seg) → AreBetween from to (map span_of segments) → HasSegment segments n → HasAddress n from to segments
address_of_key n from to [] ascend (i, within, is) = absurd (omega (arith, within))
address_of_key n from to (s ∷ segments) ascend (zero, within, is) =
    let ends = reach s.hi to (map span_of segments) ascend.2 in
    record { at = s.lo; low = ascend.0; high = omega (arith, ascend.1, ends); is = ap (option_map (λ (x : Seg). x.key.0)) (first s segments ascend.1) ∙ ap (λ k. Some k) is }
address_of_key n from to (s ∷ segments) ascend (suc i, within, is) =
    let r = address_of_key n s.hi to segments ascend.2 (i, omega (arith, within), is) in
    record { at = r.at; low = omega (arith, r.low, ascend.0, ascend.1); high = r.high; is = ap (option_map (λ (x : Seg). x.key.0)) (later s segments r.at r.low) ∙ r.is }

inside : (address : ℕ) → address < 2 ^ 64 - 1 → Among address all_addresses
unfolding all_addresses
inside address near = range_among 0 (2 ^ 64) address (omega arith) (omega (arith, near))

-- ---- all places are asked for

module _ (bytes : List ℕ) (base : Bool) (placed : Placed) (is : IsPlaced bytes base [] placed) where
  place_shown : (address : ℕ) → TellsPlace placed.names placed.keys (place_of_address bytes base address) (place_told placed.map address)
  place_shown address =
      subst (λ (b : Bool). TellsPlace placed.names placed.keys (if b then place_of_address bytes base address else lack_of (place_told placed.map address)) (place_told placed.map address))
      (asks-all (function_of_address bytes address)) ((programs_shown bytes base [] placed is).places address)

  abbrev way_here : ℕ → Option Way
  way_here = program_told.way_at (program_of bytes base)

  -- the way of each key is that of some address
  key_among : (n : ℕ) → n < length placed.keys → Among (way_at placed.names placed.keys n) (filter_map way_here all_addresses)
  key_among n given =
      let shown = programs_shown bytes base [] placed is in
      let there = address_of_key n 0 (2 ^ 64 - 1) placed.map.segments is.map.ascend (is.used n (omega arith) given) in
      kept_among way_here there.at (way_at placed.names placed.keys n) all_addresses (inside there.at there.high)
      (way_of_key placed.names placed.keys (place_of_address bytes base there.at) (place_told placed.map there.at) (place_shown there.at) n (sym (shown.keys_told there.at) ∙ there.is))

  -- ---- the lines of a profile

  module _ (p : Profile) where
    abbrev ways : List Way
    ways = first_ways placed.names placed.keys (length placed.keys)

    abbrev places : List Way
    places = filter_map way_here all_addresses

    -- the ways of the keys are those of all addresses
    there : (z : Way) → Among z ways → Among z places
    there z h =
        let key = among_map_back (way_at placed.names placed.keys) z (range_with_len 0 (length placed.keys)) h in
        let range = among_range 0 (length placed.keys) key.0 key.1 in
        subst (λ w. Among w places) (sym key.2) (key_among key.0 (omega (arith, range.1)))

    back : (z : Way) → Among z places → Among z ways
    back z h =
        let from = kept_from way_here z all_addresses h in
        let key = key_of_way placed.names placed.keys (place_of_address bytes base from.0) (place_told placed.map from.0) (place_shown from.0) z from.2 in
        subst (λ w. Among w ways) key.3
        (among_map (way_at placed.names placed.keys) key.0.0 (range_with_len 0 (length placed.keys))
        (range_among 0 (length placed.keys) key.0.0 (omega arith) (omega (arith, key.2))))

    kept_both : (test : Way → Bool) (xs ys : List Way) → ((z : Way) → Among z xs → Among z ys) → (z : Way) → Among z (filter test xs) → Among z (filter test ys)
    kept_both test xs ys inside z h = let kept = among_filter_back test z xs h in among_filter test z ys kept.0 (inside z kept.1)

    -- What has lines besides is what the definition says.
    pub lines_are : cold_lines_of ways p ≡ cold_lines (program_of bytes base) p
    unfolding cold_lines
    lines_are =
        let cmp = way_cmp (total_of_function p) in
        let t = ways_tell_apart (total_of_function p) in
        let told = told_cold p in
        let one = filter (stands_in p) ways in
        let all = filter (stands_in p) places in
        same_lines p (told ++ one) (told ++ all)
        (λ z. list_any-append (eq_by_cmp cmp z) told one
        ∙ ap (λ b. has cmp z told || b)
        (bool_same (has cmp z one) (has cmp z all)
        (λ e. among_has cmp t z all (kept_both (stands_in p) ways places there z (has_among cmp t z one e)))
        (λ e. among_has cmp t z one (kept_both (stands_in p) places ways back z (has_among cmp t z all e))))
        ∙ sym (list_any-append (eq_by_cmp cmp z) told all))

    -- So are the lines of those alone whose functions stand there.
    pub standing_are : standing_lines_of ways p ≡ standing_lines_of places p
    standing_are =
        let cmp = way_cmp (total_of_function p) in
        let t = ways_tell_apart (total_of_function p) in
        let one = filter (stands_in p) ways in
        let all = filter (stands_in p) places in
        same_lines p one all
        (λ z. bool_same (has cmp z one) (has cmp z all)
        (λ e. among_has cmp t z all (kept_both (stands_in p) ways places there z (has_among cmp t z one e)))
        (λ e. among_has cmp t z one (kept_both (stands_in p) places ways back z (has_among cmp t z all e))))

  -- What is written of samples is what the definition says.
  pub sampled_is : (sampled : Sampled) (parts : Parts) (text : List ℕ) → IsProfileWithCold (program_of bytes base) sampled placed.names placed.keys parts
      → ((classes : Classes) (s : Sampled) → Tells classes s parts.branches parts.ranges parts.units → text ≡ text_of_lines (map (told placed.names) parts.lines) ++ report_text classes s)
      → text ≡ sampled_text (program_of bytes base) sampled
  unfolding sampled_lines sampled_text
  sampled_is sampled parts text made spelled =
      spelled made.classes sampled made.classed
      ∙ (λ i. text_of_lines ((made.written ∙ standing_are (profile_of (program_of bytes base) sampled)) i) ++ made.reported i)

  pub output_is : (text : List ℕ) → text_of_lines (cold_lines_of (first_ways placed.names placed.keys (length placed.keys)) (spelled text)) ≡ cold_output base bytes text
  output_is text = ap text_of_lines (lines_are (spelled text))

-- ---- behind the names and keys of a binary

same_in_range : {T : Type 0} (f g : ℕ → T) (from n : ℕ) → ((k : ℕ) → from ≤ k → k < from + n → f k ≡ g k) → map f (range_with_len from n) ≡ map g (range_with_len from n)
same_in_range f g from zero same = refl
same_in_range f g from (suc n) same =
    λ i. same from (omega arith) (omega arith) i ∷ same_in_range f g (from + 1) n (λ k low high. same k (omega (arith, low)) (omega (arith, high))) i

module _ (names : List (List ℕ)) (keys : List Key) (text : List ℕ) (items : List Item) (more : List (List ℕ)) (more_keys : List Key)
    (before : AreNumbered names keys) (tells : TellText names keys text items more more_keys) where
  way_stays : (n : ℕ) → n < length keys → way_at more more_keys n ≡ way_at names keys n
  way_stays n given = ap way_told (what_same names more keys more_keys before tells.names_kept tells.keys_kept (Count (record { 0 = n })) given)

  ways_stay : first_ways more more_keys (length keys) ≡ first_ways names keys (length keys)
  ways_stay = same_in_range (way_at more more_keys) (way_at names keys) 0 (length keys) (λ k low high. way_stays k (omega (arith, high)))

  kept_itself : {T : Type 0} (xs : List T) → Kept xs xs
  kept_itself xs = λ n x h. h

  told_is : counted more more_keys items ≡ spelled text
  told_is = ap profile_by (tells.told.tell more more_keys (kept_itself more) (kept_itself more_keys))

  -- What was read of a text is what it spells, and the ways of the keys before it stay.
  pub read_behind : (known : ℕ) → known ≡ length keys
      → text_of_lines (cold_lines_of (first_ways more more_keys known) (counted more more_keys items))
      ≡ text_of_lines (cold_lines_of (first_ways names keys (length keys)) (spelled text))
  read_behind known is_known =
      ap (λ n. text_of_lines (cold_lines_of (first_ways more more_keys n) (counted more more_keys items))) is_known
      ∙ (λ i. text_of_lines (cold_lines_of (ways_stay i) (told_is i)))

-- The same is judged by the same.
pub judges_same : (bad : Option Place) (r : Result (Vec ℕ) Stop) (text other : List ℕ) → text ≡ other → JudgesUnlessNoMemory bad r (λ out. out.items ≡ text)
    → JudgesUnlessNoMemory bad r (λ out. out.items ≡ other)
judges_same bad r text other same judged = subst (λ t. JudgesUnlessNoMemory bad r (λ out. out.items ≡ t)) same judged

-- What was appended to nothing stands alone.
pub stands_alone : (out front more text : List ℕ) → out ≡ front ++ more → front ≡ [] → more ≡ text → out ≡ text
stands_alone out front more text appended empty is = appended ∙ (λ i. empty i ++ is i)
