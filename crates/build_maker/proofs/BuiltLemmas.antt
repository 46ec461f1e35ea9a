-- What is built of a profile and of repairs by its counts.
use Rattle.std.proofs.Common.{◌≡◌, ◌≤◌, ◌<◌, ℕ, ◌^◌, Bool, true, List, [], ◌++◌, Some, ap, ◌∙◌, arith}
use Rattle.std.specs.Prelude.{if◌then◌else◌, None}
use Rattle.std.specs.Borrow.{Bor}
use Rattle.std.proofs.lemmas.List.{append_assoc}
use Rattle.block_model.specs.Function.{Function}
use Rattle.block_weights.specs.Counts.{count_in}
use Rattle.block_weights.specs.Sampled as edge_samples
use Rattle.branch_counts.specs.Table.{Tallies}
use Rattle.key_types.specs.Segments.{key_told}
use Rattle.key_types.specs.declared.places.Seg.{Seg}
use Rattle.sample_model.specs.Limits.{max_branches}
use Rattle.sample_model.specs.declared.pair.Pair.{Pair}
use Rattle.profile_model.specs.Hits.{times_of}
use Rattle.profile_model.specs.Text.{profile_text}
use Rattle.profile_model.specs.declared.ran_range.RanRange.{RanRange}
use Rattle.profile_report.specs.Told.{Tells}
use Rattle.report_model.specs.Report.{Classes, Sampled, report_text}
use Rattle.repair_model.specs.Made.{AreRepairsOf}
use Rattle.repair_maker.specs.Told.{edges_told}
use Rattle.output_model.specs.declared.options.RepairOptions.{RepairOptions}
use Rattle.output_model.specs.Built.{IsBuilt, count_of_way, edges_of}
use Rattle.output_model.specs.Program.{Program, way_at}
use Rattle.output_model.specs.Sampled.{profile_of}
use Rattle.output_model.specs.Scaled.{AreAllAugmentations, IsBuiltBy, augmentations_line}
use Rattle.profile_writer.specs.Profile.{IsProfileOf, Parts, lines_text, ran}
use Rattle.build_maker.specs.Edges.{edges_by}
use Rattle.build_maker.proofs.RepairLemmas.{all_augmentations_alike, repairs_alike, taken_alike}

-- ---- edges

-- Samples in order tell what the rows do that were put in order.
pub told_same : (branches : List Pair) (rows others : List RanRange) (samples : Bor edge_samples.Sampled) → edge_samples.Tell branches rows samples.now → rows ≡ others
    → edges_told (Some samples) ≡ edges_by true branches others
told_same branches rows others samples tell same =
    (λ i. Some (record { taken = tell.taken_same i; passed = tell.passed_same i })) ∙ ap (edges_by true branches) same

pub few : (rows others : List RanRange) → rows ≡ others → times_of others ≤ max_branches → times_of rows < 2 ^ 32
few rows others same small = omega (arith, small, ap times_of same)

-- What rows tell of edges is what was sampled of them.
edges_alike : (program : Program) (sampled : Sampled) (names : List (List ℕ)) (segments : List Seg) (parts : Parts) (asked : Bool) (branches : List Pair)
    → IsProfileOf program sampled names segments parts → Tallies sampled.branches branches → edges_by asked branches (ran parts) ≡ edges_of asked program sampled
edges_alike program sampled names segments parts asked branches is tallied =
    λ i. if asked then Some (record { taken = taken_alike sampled branches tallied i; passed = is.passing i }) else None

-- ---- all together

pub built_of : (program : Program) (sampled : Sampled) (names : List (List ℕ)) (segments : List Seg) (parts : Parts) (asked : Bool) (branches : List Pair) (funs : List Function)
    → IsProfileOf program sampled names segments parts → Tallies sampled.branches branches
    → (none before between repairs after : List ℕ) → none ≡ [] → before ≡ none ++ lines_text names parts → between ≡ before ++ repairs
    → AreRepairsOf (key_told segments) (count_in parts.counts) (edges_by asked branches (ran parts)) funs repairs
    → ((classes : Classes) (s : Sampled) → Tells classes s parts.branches parts.ranges parts.units → after ≡ between ++ report_text classes s)
    → IsBuilt asked program sampled funs after
built_of program sampled names segments parts asked branches funs is tallied none before between repairs after none_is before_is between_is repaired after_is =
    let lines : before ≡ profile_text (profile_of program sampled) = before_is ∙ ap (λ (t : List ℕ). t ++ lines_text names parts) none_is ∙ is.written in
    let report : List ℕ = report_text is.classes sampled in
    let same = edges_alike program sampled names segments parts asked branches is tallied in
    record {
      repairs = repairs;
      repaired = repairs_alike (key_told segments) (count_in parts.counts) (way_at program) (count_of_way program sampled) is.counted (edges_by asked branches (ran parts)) (edges_of asked program sampled) same funs repairs repaired;
      spelled = after_is is.classes sampled is.classed
          ∙ ap (λ (t : List ℕ). t ++ report) between_is
          ∙ append_assoc before repairs report
          ∙ ap (λ (t : List ℕ). t ++ (repairs ++ report)) lines
          ∙ ap (λ (t : List ℕ). profile_text (profile_of program sampled) ++ (repairs ++ t)) is.reported;
    }

-- The number of augmentations behind it, where it is asked for.
pub built_by : (program : Program) (sampled : Sampled) (names : List (List ℕ)) (segments : List Seg) (parts : Parts) (options : RepairOptions) (branches : List Pair) (funs : List Function)
    → IsProfileOf program sampled names segments parts → Tallies sampled.branches branches → (built after : List ℕ) (augmentations : ℕ)
    → IsBuilt options.edges program sampled funs built → AreAllAugmentations (key_told segments) (count_in parts.counts) (edges_by options.edges branches (ran parts)) funs augmentations
    → after ≡ built ++ (if options.scaled then augmentations_line augmentations else []) → IsBuiltBy options program sampled funs after
built_by program sampled names segments parts options branches funs is tallied built after augmentations is_built counted spelled = record {
  built = built;
  is_built = is_built;
  augmentations = augmentations;
  counted = all_augmentations_alike (key_told segments) (count_in parts.counts) (way_at program) (count_of_way program sampled) is.counted (edges_by options.edges branches (ran parts)) (edges_of options.edges program sampled)
      (edges_alike program sampled names segments parts options.edges branches is tallied) funs augmentations counted;
  spelled = spelled;
}
