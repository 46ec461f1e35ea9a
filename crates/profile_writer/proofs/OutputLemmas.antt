-- The profile of what was counted is that of the program and its samples.
use Rattle.std.proofs.Common.{◌≡◌, ℕ, ◌+◌, ◌^◌, nat_lt, true, false, List, [], ◌∷◌, map, length, sum_by, Option, refl, sym, ap, subst, ◌∙◌, arith}
use Rattle.std.proofs.lemmas.List.Sums.{sum_by-cons}
use Rattle.std.specs.List.{All, filter_map}
use Rattle.std.proofs.lemmas.Bool.{ltb-true}
use Rattle.cold_model.proofs.ColdLemmas.{none_besides}
use Rattle.cold_model.specs.Cold.{standing_lines_of}
use Rattle.profile_model.specs.Hits.{hits_at}
use Rattle.key_types.specs.Numbers.{IsNumbered}
use Rattle.key_types.specs.declared.ids.NameId.{NameId}
use Rattle.key_types.specs.declared.key.Key.{Key}
use Rattle.key_types.specs.declared.places.Seg.{Seg}
use Rattle.key_types.specs.declared.places.Where.{Where}
use Rattle.sample_model.specs.declared.pair.Pair.{Pair}
use Rattle.report_model.specs.declared.class.Class.{Class}
use Rattle.report_model.specs.declared.class.RangeClass.{RangeClass}
use Rattle.report_model.specs.Branches.{branch_class}
use Rattle.report_model.specs.Ranges.{range_class}
use Rattle.profile_laws.specs.Counts.{CountTheSame}
use Rattle.profile_model.specs.Text.{text_of_lines}
use Rattle.profile_model.specs.Ways.{Way}
use Rattle.profile_report.specs.Classed.{classed_by}
use Rattle.profile_report.specs.declared.classed.Classed.{Classed}
use Rattle.profile_report.specs.declared.report.BranchUnits.{BranchUnits}
use Rattle.profile_tree.proofs.ListLemmas.{Among, range_among}
use Rattle.profile_tree.proofs.StandingLemmas.{standing_lines_by_counts}
use Rattle.profile_tree.proofs.SumLemmas.{Given}
use Rattle.profile_tree.specs.Known.{HasNames}
use Rattle.profile_tree.specs.Said.{AreCountsOfPlaces, said}
use Rattle.profile_tree.specs.Standing.{first_ways}
use Rattle.profile_tree.specs.Told.{told}
use Rattle.profile_tree.specs.declared.line.Line.{Line}
use Rattle.profile_tree.specs.declared.line.Line.TheVariants.{Function, Body, Call}
use Rattle.weight_model.specs.Edges.{passed}
use Rattle.report_model.specs.Report.{Sampled}
use Rattle.output_model.specs.Program.{Program}
use Rattle.output_model.specs.Sampled.{all_addresses, hits_of, profile_of}
use Rattle.output_model.specs.Summary.{function_total, totals_in}
use Rattle.profile_writer.proofs.BranchLemmas.{heads_alike, rows_given, targets_alike}
use Rattle.profile_writer.proofs.ClassLemmas.{classes_told, report_alike}
use Rattle.profile_writer.proofs.CountLemmas.{counted_alike, counts_alike, hits_alike, passed_alike}
use Rattle.profile_writer.specs.Items.{call_in, head_in, ran_in}
use Rattle.profile_writer.specs.Profile.{IsProfileOf, IsProfileWith, IsProfileWithCold, Parts, total_of_line}
use Rattle.profile_writer.specs.Told.{TellsProgram, TellsSampled}

-- a line has its total as it is told
total_told : (names : List (List ℕ)) (line : Line) → total_of_line line ≡ function_total (told names line)
total_told names (Function name total head) = refl
total_told names (Body depth offset disc count targets) = refl
total_told names (Call depth offset disc name total) = refl

totals_told : (names : List (List ℕ)) (lines : List Line) → sum_by total_of_line lines ≡ totals_in (map (told names) lines)
totals_told names [] = refl
totals_told names (line ∷ lines) =
    sum_by-cons total_of_line line lines
    ∙ ap (λ (n : ℕ). n + sum_by total_of_line lines) (total_told names line)
    ∙ ap (λ (n : ℕ). function_total (told names line) + n) (totals_told names lines)
    ∙ sym (sum_by-cons function_total (told names line) (map (told names) lines))

-- every address is among all
address_inside : (address : ℕ) → nat_lt address (2 ^ 64) ≡ true → Among address all_addresses
unfolding all_addresses
address_inside address near = range_among 0 (2 ^ 64) address (omega arith) (ltb-true address (2 ^ 64) near)

module _ (program : Program) (sampled : Sampled) (all : List (List ℕ)) (keys : List Key) (segments : List Seg) (place : ℕ → Where) (function : ℕ → Option ℕ) (entered : ℕ → Option NameId)
    (shown : TellsProgram program all keys segments place function entered)
    (branch_rows range_rows : List Pair) (units : BranchUnits) (rows : TellsSampled sampled branch_rows range_rows units) where
  abbrev branches : List (Classed Class)
  branches = map (classed_by (branch_class place entered)) branch_rows

  abbrev ranges : List (Classed RangeClass)
  ranges = map (classed_by (range_class function)) range_rows

  hits_are : hits_at (filter_map ran_in ranges) ≡ hits_of program sampled
  hits_are = λ i address. hits_alike program sampled function range_rows shown.functions rows.of_ranges address i

  said_the_same : (counts : List ℕ) → Given all keys (filter_map (call_in place) branches) (filter_map head_in branches)
      → length counts ≡ length keys → AreCountsOfPlaces segments (hits_at (filter_map ran_in ranges)) counts
      → ((address : ℕ) → nat_lt address (2 ^ 64) ≡ false → hits_at (filter_map ran_in ranges) address ≡ 0)
      → CountTheSame (said all keys counts (filter_map (call_in place) branches) (filter_map head_in branches)) (profile_of program sampled)
  unfolding profile_of
  said_the_same counts given len are beyond =
      let calls = filter_map (call_in place) branches in
      let heads = filter_map head_in branches in
      record {
        keys = counts_alike program sampled all keys segments place function entered shown all_addresses address_inside (λ address far. sym (ap (λ f. f address) hits_are) ∙ beyond address far) counts calls heads given len
            (subst (λ f. AreCountsOfPlaces segments f counts) hits_are are);
        targets = targets_alike program all keys segments place function entered shown sampled.branches branch_rows rows.of_branches counts heads;
        heads = heads_alike program all keys segments place function entered shown sampled.branches branch_rows rows.of_branches counts calls;
      }

  -- what is made is the profile, with lines for some ways besides
  pub profile_alike : (besides : List Way) (bs : List (Classed Class)) → bs ≡ branches → (rs : List (Classed RangeClass)) → rs ≡ ranges
      → IsNumbered all → IsNumbered keys → All (HasNames (length all)) keys
      → (lines : List Line) (counts : List ℕ)
      → map (told all) lines ≡ standing_lines_of besides (said all keys counts (filter_map (call_in place) bs) (filter_map head_in bs))
      → length counts ≡ length keys → AreCountsOfPlaces segments (hits_at (filter_map ran_in rs)) counts
      → ((address : ℕ) → nat_lt address (2 ^ 64) ≡ false → hits_at (filter_map ran_in rs) address ≡ 0)
      → (cs : List (Classed Class)) → cs ≡ branches → (ds : List (Classed RangeClass)) → ds ≡ ranges
      → IsProfileWith program sampled all segments besides (record { lines = lines; counts = counts; branches = cs; ranges = ds; units = units })
  profile_alike besides bs bs_are rs rs_are names_apart keys_apart key_names lines counts lines_are len counts_are beyond cs cs_are ds ds_are =
      let given : Given all keys (filter_map (call_in place) branches) (filter_map head_in branches) = record {
        names_apart = names_apart;
        keys_apart = keys_apart;
        given = rows_given program all keys segments place function entered shown branch_rows key_names branches refl;
      } in
      let counts_told : AreCountsOfPlaces segments (hits_at (filter_map ran_in ranges)) counts =
      subst (λ (xs : List (Classed RangeClass)). AreCountsOfPlaces segments (hits_at (filter_map ran_in xs)) counts) rs_are counts_are in
      let none_beyond : (address : ℕ) → nat_lt address (2 ^ 64) ≡ false → hits_at (filter_map ran_in ranges) address ≡ 0 =
      λ address far. ap (λ (xs : List (Classed RangeClass)). hits_at (filter_map ran_in xs) address) (sym rs_are) ∙ beyond address far in
      record {
        written = lines_are
            ∙ ap (λ (xs : List (Classed Class)). standing_lines_of besides (said all keys counts (filter_map (call_in place) xs) (filter_map head_in xs))) bs_are
            ∙ standing_lines_by_counts besides (said all keys counts (filter_map (call_in place) branches) (filter_map head_in branches)) (profile_of program sampled)
            (said_the_same counts given len counts_told none_beyond);
        classes = classes_told place function entered;
        classed = record {
          branch_rows = branch_rows;
          range_rows = range_rows;
          branches_are = cs_are;
          ranges_are = ds_are;
          of_branches = rows.of_branches;
          of_ranges = rows.of_ranges;
          in_order = rows.in_order;
          read = rows.read;
          passed = rows.passed;
        };
        reported = report_alike program all keys segments place function entered shown sampled;
        counted = counted_alike program sampled all keys segments place function entered shown all_addresses address_inside (λ address far. sym (ap (λ f. f address) hits_are) ∙ none_beyond address far) counts
            (filter_map (call_in place) branches) (filter_map head_in branches) given len (subst (λ f. AreCountsOfPlaces segments f counts) hits_are counts_told);
        passing = ap (λ (xs : List (Classed RangeClass)). passed (filter_map ran_in xs)) ds_are ∙ passed_alike program sampled function range_rows shown.functions rows.of_ranges;
      }

-- with none besides it is the profile itself
pub with_none : (program : Program) (sampled : Sampled) (names : List (List ℕ)) (segments : List Seg) (parts : Parts)
    → IsProfileWith program sampled names segments [] parts → IsProfileOf program sampled names segments parts
with_none program sampled names segments parts is =
    let lines_are = is.written ∙ none_besides (profile_of program sampled) in
    record {
      written = ap text_of_lines lines_are;
      totalled = totals_told names parts.lines ∙ ap totals_in lines_are;
      classes = is.classes;
      classed = is.classed;
      reported = is.reported;
      counted = is.counted;
      passing = is.passing;
    }

-- with the ways of all keys it is that with the lines that never ran
pub with_all : (program : Program) (sampled : Sampled) (names : List (List ℕ)) (keys : List Key) (segments : List Seg) (known : ℕ) (parts : Parts) → known ≡ length keys
    → IsProfileWith program sampled names segments (first_ways names keys known) parts → IsProfileWithCold program sampled names keys parts
with_all program sampled names keys segments known parts all is = record {
  written = is.written ∙ ap (λ n. standing_lines_of (first_ways names keys n) (profile_of program sampled)) all;
  classes = is.classes;
  classed = is.classed;
  reported = is.reported;
}
