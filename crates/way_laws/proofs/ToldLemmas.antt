-- The profile of a binary and a good branch text can be told.
use Rattle.std.proofs.Common.{◌≡◌, ◌<◌, ◌≤◌, ◌^◌, ℕ, Bool, true, List, [], ◌∷◌, filter_map, length, Option, None, Some, option_map, refl, arith}
use Rattle.std.specs.List.{AllByRecursion}
use Rattle.list_lemmas.proofs.Each.{all_append}
use Rattle.text_model.specs.Lines.{lines_of}
use Rattle.asked_laws.proofs.ProfileLemmas.{count_is}
use Rattle.profile_model.specs.Names.{is_name}
use Rattle.profile_model.specs.Orders.{way_cmp}
use Rattle.profile_model.specs.Profile.{recorded}
use Rattle.profile_model.specs.Ways.{Way, to_function}
use Rattle.profile_model.proofs.OrderedLemmas.{all_ordered}
use Rattle.report_model.specs.Report.{Sampled}
use Rattle.spelling_laws.specs.Told.{CanBeWritten, IsFunctionWay, IsToldWay}
use Rattle.binary_model.specs.Places.{Place, at_way, nameless, no_line, outside}
use Rattle.output_model.specs.Output.{loading_of, sampled_by}
use Rattle.output_model.specs.Program.{program_of, way_at, way_of_place}
use Rattle.output_model.specs.Sampled.{all_addresses, call_by, call_of, count_among, head_of as entry_of, profile_among, profile_of, ways_among}
use Rattle.way_laws.specs.Told.{ProfilesCanBeTold}
use Rattle.way_laws.proofs.CountLemmas.{calls_few, count_low, heads_few}
use Rattle.way_laws.proofs.EachLemmas.{OfSome, all_filtered, all_found, all_mapped}
use Rattle.way_laws.proofs.NameLemmas.{IsNameIfAny}
use Rattle.way_laws.proofs.PlaceLemmas.{IsToldPlace, entries_are_named, places_are_told}
use Rattle.way_laws.proofs.SampleLemmas.{branches_are_few, branches_by_few, ranges_by_few}

-- ---- ways, calls and entries of a binary

way_told : (place : Place) → IsToldPlace place → OfSome IsToldWay (way_of_place place)
way_told outside is = tt
way_told nameless is = tt
way_told no_line is = tt
way_told (at_way way) is = is

abbrev IsCall : Way × List ℕ × ℕ → Type 0
IsCall c = IsToldWay c.0 × (is_name c.1 ≡ true)

module _ (file : List ℕ) (base : Bool) where
  way_is : (address : ℕ) → OfSome IsToldWay (way_at (program_of file base) address)
  way_is address = way_told _ (places_are_told file base address)

  ways_are : (addresses : List ℕ) → AllByRecursion IsToldWay (ways_among addresses (program_of file base))
  ways_are addresses =
      all_ordered IsToldWay (way_cmp (λ _. 0)) (filter_map (way_at (program_of file base)) addresses) (all_found IsToldWay (way_at (program_of file base)) addresses way_is)

  call_is : (way : Option Way) (name : Option (List ℕ)) → OfSome IsToldWay way → IsNameIfAny name → OfSome IsCall (call_by way name)
  call_is None name is named = tt
  call_is (Some way) None is named = tt
  call_is (Some way) (Some name) is named = (is, named)

  calls_are : (branches : List (ℕ × ℕ)) → AllByRecursion IsCall (filter_map (call_of (program_of file base)) branches)
  calls_are branches = all_found IsCall (call_of (program_of file base)) branches each
    where
      each : (branch : ℕ × ℕ) → OfSome IsCall (call_of (program_of file base) branch)
      each (from, to) = call_is _ _ (way_is from) (entries_are_named file to)

  head_is : (name : Option (List ℕ)) → IsNameIfAny name → OfSome (λ (h : List ℕ × ℕ). is_name h.0 ≡ true) (option_map (λ name. (name, 1)) name)
  head_is None named = tt
  head_is (Some name) named = named

  heads_are : (branches : List (ℕ × ℕ)) → AllByRecursion (λ (h : List ℕ × ℕ). is_name h.0 ≡ true) (filter_map (entry_of (program_of file base)) branches)
  heads_are branches = all_found (λ (h : List ℕ × ℕ). is_name h.0 ≡ true) (entry_of (program_of file base)) branches each
    where
      each : (branch : ℕ × ℕ) → OfSome (λ (h : List ℕ × ℕ). is_name h.0 ≡ true) (entry_of (program_of file base) branch)
      each (from, to) = head_is _ (entries_are_named file to)

  recorded_are : (addresses : List ℕ) (sampled : Sampled) → AllByRecursion IsToldWay (recorded (profile_among addresses (program_of file base) sampled))
  recorded_are addresses sampled =
      all_append IsToldWay _ _
      (all_mapped (λ (c : Way × ℕ). IsToldWay c.0) IsToldWay (λ c. c.0) _ (λ c is. is)
      (all_filtered (λ (c : Way × ℕ). IsToldWay c.0) _ _
      (all_mapped IsToldWay (λ (c : Way × ℕ). IsToldWay c.0) (λ way. (way, count_among addresses (program_of file base) sampled way)) (ways_among addresses (program_of file base)) (λ way is. is) (ways_are addresses))))
      (all_mapped IsCall IsToldWay (λ c. c.0) _ (λ c is. is.0) (all_filtered IsCall _ _ (calls_are sampled.branches)))

  can_among : (addresses : List ℕ) (sampled : Sampled) → length sampled.branches < 2 ^ 64 → length sampled.ranges ≤ 2 ^ 32
      → CanBeWritten (profile_among addresses (program_of file base) sampled)
  can_among addresses sampled few few_ranges = record {
    keys = recorded_are addresses sampled;
    functions =
        all_mapped (λ (h : List ℕ × ℕ). is_name h.0 ≡ true) IsFunctionWay (λ h. to_function h.0 ∷ []) _ (λ h is. (refl, is))
        (all_filtered (λ (h : List ℕ × ℕ). is_name h.0 ≡ true) _ _ (heads_are sampled.branches));
    callees = only_names _ (all_filtered IsCall _ _ (calls_are sampled.branches));
    counts_fit = λ way.
        let own = count_is addresses (program_of file base) sampled way in
        let low = count_low addresses file base sampled way few_ranges in
        omega (arith, own, low);
    targets_fit = λ way name. let some = calls_few (program_of file base) way name sampled.branches in omega (arith, some, few);
    heads_fit = λ name. let some = heads_few (program_of file base) name sampled.branches in omega (arith, some, few);
  }
    where
      only_names : (calls : List (Way × List ℕ × ℕ)) → AllByRecursion IsCall calls → AllByRecursion (λ (c : Way × List ℕ × ℕ). is_name c.1 ≡ true) calls
      only_names [] all = tt
      only_names (c ∷ calls) all = (all.0.1, only_names calls all.1)

  can_be_told : (sampled : Sampled) → length sampled.branches < 2 ^ 64 → length sampled.ranges ≤ 2 ^ 32
      → CanBeWritten (profile_of (program_of file base) sampled)
  unfolding profile_of
  can_be_told sampled few few_ranges = can_among all_addresses sampled few few_ranges

pub profiles_can_be_told : ProfilesCanBeTold
profiles_can_be_told name base binary text file good =
    let lines = lines_of text in
    let few = branches_are_few file text good in
    let same = branches_by_few (loading_of name binary) lines in
    let fewer = ranges_by_few (loading_of name binary) lines in
    can_be_told binary base (sampled_by (loading_of name binary) binary lines) (omega (arith, few, same)) (omega (arith, few, fewer))
