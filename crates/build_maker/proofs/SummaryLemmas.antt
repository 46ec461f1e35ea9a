-- What a profile and the costs of repairs by its counts come to.
use Rattle.std.proofs.Common.{◌≡◌, ℕ, List, length, Option, ◌∙◌}
use Rattle.std.specs.List.{AllZip}
use Rattle.block_model.specs.Function.{Function}
use Rattle.block_weights.specs.Counts.{count_in}
use Rattle.inline_tree.proofs.StepLemmas.{AllZip-mono}
use Rattle.key_types.specs.Segments.{key_told}
use Rattle.key_types.specs.declared.places.Seg.{Seg}
use Rattle.report_model.specs.Report.{Sampled}
use Rattle.output_model.specs.Built.{count_of_way}
use Rattle.output_model.specs.Program.{Program, way_at}
use Rattle.output_model.specs.Summary.{IsRepairCost, IsSummary, costs_in, cuts_in, summary_text}
use Rattle.profile_writer.specs.Profile.{IsProfileOf, Parts, total_of}
use Rattle.build_maker.proofs.RepairLemmas.{cost_alike}

pub summarized : (program : Program) (sampled : Sampled) (names : List (List ℕ)) (segments : List Seg) (parts : Parts) (funs : List Function)
    → IsProfileOf program sampled names segments parts
    → (functions branches total cost cuts : ℕ) → functions ≡ length funs → branches ≡ length sampled.branches → total ≡ total_of parts
    → (costs : List (Option ℕ)) → AllZip (IsRepairCost (key_told segments) (count_in parts.counts)) funs costs → cost ≡ costs_in costs → cuts ≡ cuts_in costs
    → (text : List ℕ) → text ≡ summary_text (record { functions = functions; branches = branches; total = total; cost = cost; cuts = cuts })
    → IsSummary program sampled funs text
summarized program sampled names segments parts funs is functions branches total cost cuts functions_are branches_are total_is costs each cost_is cuts_are text spelled = record {
  costs = costs;
  each = AllZip-mono (IsRepairCost (key_told segments) (count_in parts.counts)) (IsRepairCost (way_at program) (count_of_way program sampled))
      (cost_alike (key_told segments) (count_in parts.counts) (way_at program) (count_of_way program sampled) is.counted) funs costs each;
  spelled = spelled ∙ (λ i. summary_text (record {
    functions = functions_are i;
    branches = branches_are i;
    total = (total_is ∙ is.totalled) i;
    cost = cost_is i;
    cuts = cuts_are i;
  }));
}
