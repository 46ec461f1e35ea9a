-- What is built, and its summary, ask for the places in blocks besides.
use Rattle.std.proofs.Common.{◌≡◌, ℕ, nat_le, nat_lt, ◌&&◌, Bool, List, [], ◌∷◌, ◌++◌, length, Option, None, Some, sym, ap, subst, ◌∙◌}
use Rattle.std.specs.Prelude.{count_by, if◌then◌else◌}
use Rattle.std.specs.List.{AllByRecursion}
use Rattle.block_model.specs.declared.parts.Block.{Block}
use Rattle.block_model.specs.declared.parts.Weight.{Weight}
use Rattle.block_model.specs.declared.parts.Weight.TheVariants.{Unknown, Known}
use Rattle.block_model.specs.Function.{Function}
use Rattle.profile_model.specs.Text.{text_of_lines}
use Rattle.profile_model.specs.Ways.{Way}
use Rattle.report_model.specs.declared.class.RangeClass.TheVariants.{Ran}
use Rattle.report_model.specs.Ranges.{is_class}
use Rattle.report_model.specs.Report.{Sampled}
use Rattle.weight_model.specs.Blocks.{IsWeightOf}
use Rattle.repair_model.specs.Made.{AreRepairsOf, EdgeTold, IsRepairOf}
use Rattle.output_model.specs.declared.options.RepairOptions.{RepairOptions}
use Rattle.output_model.specs.Built.{IsBuilt, branches_from, count_of_way, edges_of, ran_past}
use Rattle.output_model.specs.Program.{Program, way_at, way_of_place}
use Rattle.output_model.specs.Sampled.{all_addresses}
use Rattle.output_model.specs.Scaled.{AreAllAugmentations, AreAugmentationsOf, IsBuiltBy}
use Rattle.output_model.specs.Summary.{IsRepairCost, IsSummary, costs_in, cuts_in, summary_text, totals_in}
use Rattle.asked_laws.specs.Alike.{AnswerAlike, AreAlikeIn, AreAlikeInBlocks}
use Rattle.asked_laws.specs.Laws.{BuildsAskNoMore, SummariesAskNoMore}
use Rattle.asked_laws.proofs.ListLemmas.{zip_within}
use Rattle.asked_laws.proofs.ProfileLemmas.{counts_alike, lines_alike, range_classes_alike}
use Rattle.asked_laws.proofs.ReportLemmas.{reports_alike}

-- ---- weights, and what hangs on them

module _ (program other : Program) (count : Way → ℕ) where
  abbrev InBlocks : Function → Type 0
  InBlocks fun = AllByRecursion (AreAlikeIn program other) fun.blocks

  weight_within : (block : Block) (weight : Weight) → AreAlikeIn program other block → IsWeightOf (way_at program) count block weight → IsWeightOf (way_at other) count block weight
  weight_within block Unknown same is = λ a low high. ap way_of_place (sym (same a low high)) ∙ is a low high
  weight_within block (Known weight) same is =
      let (a, k, low, high, here, counted) = is.attained in
      record {
        attained = (a, k, low, high, ap way_of_place (sym (same a low high)) ∙ here, counted);
        bounded = λ b l from to e. is.bounded b l from to (ap way_of_place (same b from to) ∙ e);
      }

  repair_within : (edges : Option EdgeTold) (fun : Function) (text : List ℕ) → InBlocks fun
      → IsRepairOf (way_at program) count edges fun text → IsRepairOf (way_at other) count edges fun text
  repair_within edges fun text same is = record {
    repair = is.repair;
    weighed = zip_within (AreAlikeIn program other) (IsWeightOf (way_at program) count) (IsWeightOf (way_at other) count) weight_within fun.blocks is.repair.weights same is.weighed;
    repairs = is.repairs;
    edges_weighed = is.edges_weighed;
    told = is.told;
    spelled = is.spelled;
  }

  repairs_within : (edges : Option EdgeTold) (funs : List Function) (text : List ℕ) → AreAlikeInBlocks program other funs
      → AreRepairsOf (way_at program) count edges funs text → AreRepairsOf (way_at other) count edges funs text
  repairs_within edges [] text same are = are
  repairs_within edges (fun ∷ funs) text same are =
      (are.0, are.1, are.2, repair_within edges fun are.0 same.0 are.3, repairs_within edges funs are.1 same.1 are.4)

  cost_within : (fun : Function) (cost : Option ℕ) → InBlocks fun
      → IsRepairCost (way_at program) count fun cost → IsRepairCost (way_at other) count fun cost
  cost_within fun cost same is = record {
    weights = is.weights;
    weighed = zip_within (AreAlikeIn program other) (IsWeightOf (way_at program) count) (IsWeightOf (way_at other) count) weight_within fun.blocks is.weights same is.weighed;
    least = is.least;
  }

  augmentations_within : (edges : Option EdgeTold) (fun : Function) (n : ℕ) → InBlocks fun
      → AreAugmentationsOf (way_at program) count edges fun n → AreAugmentationsOf (way_at other) count edges fun n
  augmentations_within edges fun n same is = record {
    weights = is.weights;
    weighed = zip_within (AreAlikeIn program other) (IsWeightOf (way_at program) count) (IsWeightOf (way_at other) count) weight_within fun.blocks is.weights same is.weighed;
    within = is.within;
  }

  all_augmentations_within : (edges : Option EdgeTold) (funs : List Function) (n : ℕ) → AreAlikeInBlocks program other funs
      → AreAllAugmentations (way_at program) count edges funs n → AreAllAugmentations (way_at other) count edges funs n
  all_augmentations_within edges [] n same are = are
  all_augmentations_within edges (fun ∷ funs) n same are =
      (are.0, are.1, are.2, augmentations_within edges fun are.0 same.0 are.3, all_augmentations_within edges funs are.1 same.1 are.4)

-- ---- what samples say

module _ (sampled : Sampled) (program other : Program) (alike : AnswerAlike sampled program other) where
  counted_alike : count_of_way program sampled ≡ count_of_way other sampled
  counted_alike = λ i way. counts_alike sampled program other alike all_addresses way i

  passed_alike : ran_past program sampled ≡ ran_past other sampled
  passed_alike = λ i address.
      count_by (λ range. is_class Ran (range_classes_alike sampled program other alike i range) && (nat_lt range.0 address && nat_le address range.1)) sampled.ranges

  edges_alike : (asked : Bool) → edges_of asked program sampled ≡ edges_of asked other sampled
  edges_alike asked = λ i. if asked then Some (record { taken = branches_from sampled; passed = passed_alike i }) else None

  built_alike : (edges : Bool) (funs : List Function) (text : List ℕ) → AreAlikeInBlocks program other funs
      → IsBuilt edges program sampled funs text → IsBuilt edges other sampled funs text
  built_alike edges funs text same is = record {
    repairs = is.repairs;
    repaired =
        subst (λ (count : Way → ℕ). AreRepairsOf (way_at other) count (edges_of edges other sampled) funs is.repairs) counted_alike
        (subst (λ (told : Option EdgeTold). AreRepairsOf (way_at other) (count_of_way program sampled) told funs is.repairs) (edges_alike edges)
        (repairs_within program other (count_of_way program sampled) (edges_of edges program sampled) funs is.repairs same is.repaired));
    spelled = is.spelled ∙ (λ i. text_of_lines (lines_alike sampled program other alike i) ++ (is.repairs ++ reports_alike sampled program other alike i));
  }

  asked_alike : (options : RepairOptions) (funs : List Function) (text : List ℕ) → AreAlikeInBlocks program other funs
      → IsBuiltBy options program sampled funs text → IsBuiltBy options other sampled funs text
  asked_alike options funs text same is = record {
    built = is.built;
    is_built = built_alike options.edges funs is.built same is.is_built;
    augmentations = is.augmentations;
    counted =
        subst (λ (count : Way → ℕ). AreAllAugmentations (way_at other) count (edges_of options.edges other sampled) funs is.augmentations) counted_alike
        (subst (λ (told : Option EdgeTold). AreAllAugmentations (way_at other) (count_of_way program sampled) told funs is.augmentations) (edges_alike options.edges)
        (all_augmentations_within program other (count_of_way program sampled) (edges_of options.edges program sampled) funs is.augmentations same is.counted));
    spelled = is.spelled;
  }

  summary_alike : (funs : List Function) (text : List ℕ) → AreAlikeInBlocks program other funs
      → IsSummary program sampled funs text → IsSummary other sampled funs text
  summary_alike funs text same is = record {
    costs = is.costs;
    each =
        zip_within (λ fun. AllByRecursion (AreAlikeIn program other) fun.blocks) (IsRepairCost (way_at program) (count_of_way program sampled)) (IsRepairCost (way_at other) (count_of_way other sampled))
        (λ fun cost same is. subst (λ (count : Way → ℕ). IsRepairCost (way_at other) count fun cost) counted_alike (cost_within program other (count_of_way program sampled) fun cost same is))
        funs is.costs same is.each;
    spelled = is.spelled ∙ (λ i. summary_text (record {
      functions = length funs;
      branches = length sampled.branches;
      total = totals_in (lines_alike sampled program other alike i);
      cost = costs_in is.costs;
      cuts = cuts_in is.costs;
    }));
  }

pub builds_ask_no_more : BuildsAskNoMore
builds_ask_no_more options sampled program other funs text alike same is = asked_alike sampled program other alike options funs text same is

pub summaries_ask_no_more : SummariesAskNoMore
summaries_ask_no_more sampled program other funs text alike same is = summary_alike sampled program other alike funs text same is
