-- Programs that answer samples alike have profiles that count the same.
use Rattle.std.proofs.Common.{◌≡◌, ℕ, nat_le, false, cond, ◌&&◌, List, map, filter, filter_map, sum_by, Some, sym, ◌∙◌}
use Rattle.std.specs.Prelude.{count_by}
use Rattle.std.specs.Option.{option_map, option_map_or}
use Rattle.std.specs.declared.cmp.Ordering.{Ordering}
use Rattle.profile_laws.proofs.CountLemmas.{lines_are_by_counts}
use Rattle.profile_laws.proofs.TotalLemmas.{Among, among_from_has, has_from_among}
use Rattle.profile_laws.specs.Counts.{CountTheSame}
use Rattle.profile_model.proofs.OrderLemmas.{ways_tell_apart}
use Rattle.profile_model.proofs.OrderedLemmas.{ordered_is_in_order}
use Rattle.profile_model.specs.Counts.{weighed}
use Rattle.profile_model.specs.Laws.{IsInOrder, TellsApart}
use Rattle.profile_model.specs.Orders.{ordered, way_cmp}
use Rattle.profile_model.specs.Profile.{count_of, lines_of}
use Rattle.profile_model.specs.Ways.{Way, same_name, same_way}
use Rattle.report_model.specs.declared.class.RangeClass.TheVariants.{Ran}
use Rattle.report_model.specs.Ranges.{is_class, range_class}
use Rattle.report_model.specs.Report.{Sampled}
use Rattle.output_model.specs.Program.{Program, way_at, way_of_place}
use Rattle.output_model.specs.Sampled.{all_addresses, call_by, call_of, class_of_range, count_among, has_way, head_of, hits_of, largest, profile_among, profile_of, ways_among}
use Rattle.asked_laws.specs.Alike.{AnswerAlike}
use Rattle.asked_laws.proofs.CountLemmas.{bool_false, own_count, part_alike, way_from}
use Rattle.asked_laws.proofs.ListLemmas.{all_of, among_found, found_alike, largest_alike, largest_none}

-- ---- the count of a way in a profile

pub count_is : (addresses : List ℕ) (program : Program) (sampled : Sampled) (way : Way)
    → count_of (profile_among addresses program sampled) way ≡ count_among addresses program sampled way
count_is addresses program sampled way =
    own_count cmp t (count_among addresses program sampled) way (ways_among addresses program) in_order.ascending
    (λ lacks. largest_none (weighed (hits_of program sampled) program.factor) (has_way program way) addresses
    (λ a there. bool_false (has_way program way a) (λ has. lacks (among_ways a there (way_from way (way_at program a) has)))))
  where
    cmp : Way → Way → Ordering
    cmp = way_cmp (λ _. 0)

    t : TellsApart cmp
    t = ways_tell_apart (λ _. 0)

    items : List Way
    items = filter_map (way_at program) addresses

    in_order : IsInOrder cmp items (ordered cmp items)
    in_order = ordered_is_in_order cmp t items

    among_ways : (a : ℕ) → Among a addresses → way_at program a ≡ Some way → Among way (ways_among addresses program)
    among_ways a there is =
        among_from_has cmp t way (ordered cmp items)
        (in_order.same way ∙ has_from_among cmp t way items (among_found (way_at program) a way addresses there is))

-- ---- two programs

module _ (sampled : Sampled) (program other : Program) (alike : AnswerAlike sampled program other) where
  pub range_classes_alike : class_of_range program ≡ class_of_range other
  range_classes_alike = λ i range. range_class (λ a. alike.function a i) range.0 range.1

  hits_alike : hits_of program sampled ≡ hits_of other sampled
  hits_alike = λ i address. count_by (λ range. is_class Ran (range_classes_alike i range) && (nat_le range.0 address && nat_le address range.1)) sampled.ranges

  pub counts_alike : (addresses : List ℕ) (way : Way) → count_among addresses program sampled way ≡ count_among addresses other sampled way
  counts_alike addresses way =
      largest_alike (weighed (hits_of program sampled) program.factor) (weighed (hits_of program sampled) other.factor) (has_way program way) (has_way other way) addresses same
      ∙ (λ i. largest (map (weighed (hits_alike i) other.factor) (filter (has_way other way) addresses)))
    where
      same : (a : ℕ) → cond (has_way program way a) (weighed (hits_of program sampled) program.factor a) 0 ≡ cond (has_way other way a) (weighed (hits_of program sampled) other.factor a) 0
      same a =
          part_alike (hits_of program sampled a) (program.factor a) (other.factor a) (has_way program way a) (has_way other way a)
          (λ ran i. option_map_or (same_way way) (way_of_place (alike.ran a ran i)) false)
          (alike.factor a)

  calls_alike : filter_map (call_of program) sampled.branches ≡ filter_map (call_of other) sampled.branches
  calls_alike =
      found_alike (call_of program) (call_of other) sampled.branches
      (all_of (λ branch. call_of program branch ≡ call_of other branch) sampled.branches
      (λ branch there i. call_by (way_of_place (alike.from branch there i)) (alike.entered branch there i)))

  heads_alike : filter_map (head_of program) sampled.branches ≡ filter_map (head_of other) sampled.branches
  heads_alike =
      found_alike (head_of program) (head_of other) sampled.branches
      (all_of (λ branch. head_of program branch ≡ head_of other branch) sampled.branches
      (λ branch there i. option_map (λ name. (name, 1)) (alike.entered branch there i)))

  among_alike : (addresses : List ℕ) → CountTheSame (profile_among addresses program sampled) (profile_among addresses other sampled)
  among_alike addresses = record {
    keys = λ way. count_is addresses program sampled way ∙ counts_alike addresses way ∙ sym (count_is addresses other sampled way);
    targets = λ way name i. sum_by (λ c. c.2) (filter (λ c. same_way way c.0 && same_name name c.1) (calls_alike i));
    heads = λ name i. sum_by (λ h. h.1) (filter (λ h. same_name name h.0) (heads_alike i));
  }

  pub profiles_alike : CountTheSame (profile_of program sampled) (profile_of other sampled)
  unfolding profile_of
  profiles_alike = among_alike all_addresses

  pub lines_alike : lines_of (profile_of program sampled) ≡ lines_of (profile_of other sampled)
  lines_alike = lines_are_by_counts (profile_of program sampled) (profile_of other sampled) profiles_alike
