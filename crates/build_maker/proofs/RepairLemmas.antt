-- Repairs by the numbers of keys are repairs by ways.
use Rattle.std.proofs.Common.{◌≡◌, ◌≤◌, ℕ, nat_eq, nat_le, nat_lt, ◌&&◌, List, [], ◌∷◌, Option, None, Some, refl, sym, ap, subst, ◌∙◌}
use Rattle.std.specs.Option.{option_map, unwrap_or}
use Rattle.std.proofs.lemmas.Option.{none-some}
use Rattle.block_model.specs.declared.parts.Weight.{Weight}
use Rattle.block_model.specs.declared.parts.Weight.TheVariants.{Unknown, Known}
use Rattle.block_model.specs.Function.{Function}
use Rattle.sample_model.specs.declared.pair.Pair.{Pair}
use Rattle.branch_counts.specs.Table.{Tallies}
use Rattle.branch_counts.proofs.TallyLemmas.{tables_count_members}
use Rattle.weight_model.specs.Blocks.{IsWeightIn, IsWeightOf}
use Rattle.weight_model.specs.Edges.{taken}
use Rattle.repair_model.specs.Made.{AreRepairsOf, EdgeTold, IsRepairOf}
use Rattle.report_model.specs.Report.{Sampled}
use Rattle.inline_tree.proofs.StepLemmas.{AllZip-mono}
use Rattle.output_model.specs.Built.{branches_from}
use Rattle.output_model.specs.Scaled.{AreAllAugmentations, AreAugmentationsOf}
use Rattle.output_model.specs.Summary.{IsRepairCost}

-- ---- weights of blocks

is_none : {K : Type 0} (f : K → ℕ) (o : Option K) → option_map f o ≡ None → o ≡ None
is_none f None is = refl
is_none f (Some x) is = absurd (none-some (f x) (sym is))

is_some_of : {K : Type 0} (f : K → ℕ) (o : Option K) (n : ℕ) → option_map f o ≡ Some n → (x : K) × (o ≡ Some x) × (f x ≡ n)
is_some_of f None n is = absurd (none-some n is)
is_some_of f (Some x) n is = (x, refl, ap (λ o. unwrap_or o 0) is)

module _ {K L : Type 0} (key : ℕ → Option K) (count : K → ℕ) (way : ℕ → Option L) (count_of : L → ℕ)
    (alike : (address : ℕ) → option_map count (key address) ≡ option_map count_of (way address)) where
  weight_alike : (lo hi : ℕ) (weight : Weight) → IsWeightIn key count lo hi weight → IsWeightIn way count_of lo hi weight
  weight_alike lo hi Unknown is = λ a low high. is_none count_of (way a) (sym (alike a) ∙ ap (option_map count) (is a low high))
  weight_alike lo hi (Known weight) is =
      let (a, k, low, high, here, counted) = is.attained in
      let there = is_some_of count_of (way a) (count k) (sym (alike a) ∙ ap (option_map count) here) in
      record {
        attained = (a, there.0, low, high, there.1, there.2 ∙ counted);
        bounded = λ b l from to e.
            let k = is_some_of count (key b) (count_of l) (alike b ∙ ap (option_map count_of) e) in
            let least = is.bounded b k.0 from to k.1 in
            subst (λ (n : ℕ). n ≤ weight) k.2 least;
      }

  repair_alike : (edges other : Option EdgeTold) → edges ≡ other → (fun : Function) (text : List ℕ)
      → IsRepairOf key count edges fun text → IsRepairOf way count_of other fun text
  repair_alike edges other same fun text is =
      subst (λ (e : Option EdgeTold). IsRepairOf way count_of e fun text) same (record {
        repair = is.repair;
        weighed = AllZip-mono (IsWeightOf key count) (IsWeightOf way count_of) (λ block. weight_alike block.lo block.hi) fun.blocks is.repair.weights is.weighed;
        repairs = is.repairs;
        edges_weighed = is.edges_weighed;
        told = is.told;
        spelled = is.spelled;
      })

  pub repairs_alike : (edges other : Option EdgeTold) → edges ≡ other → (funs : List Function) (text : List ℕ)
      → AreRepairsOf key count edges funs text → AreRepairsOf way count_of other funs text
  repairs_alike edges other same [] text are = are
  repairs_alike edges other same (fun ∷ funs) text are =
      (are.0, are.1, are.2, repair_alike edges other same fun are.0 are.3, repairs_alike edges other same funs are.1 are.4)

  -- what they cost is the same too
  pub cost_alike : (fun : Function) (cost : Option ℕ) → IsRepairCost key count fun cost → IsRepairCost way count_of fun cost
  cost_alike fun cost is = record {
    weights = is.weights;
    weighed = AllZip-mono (IsWeightOf key count) (IsWeightOf way count_of) (λ block. weight_alike block.lo block.hi) fun.blocks is.weights is.weighed;
    least = is.least;
  }

  -- and so are the augmentations that they took
  augmentations_alike : (edges other : Option EdgeTold) → edges ≡ other → (fun : Function) (n : ℕ)
      → AreAugmentationsOf key count edges fun n → AreAugmentationsOf way count_of other fun n
  augmentations_alike edges other same fun n is =
      subst (λ (e : Option EdgeTold). AreAugmentationsOf way count_of e fun n) same (record {
        weights = is.weights;
        weighed = AllZip-mono (IsWeightOf key count) (IsWeightOf way count_of) (λ block. weight_alike block.lo block.hi) fun.blocks is.weights is.weighed;
        within = is.within;
      })

  pub all_augmentations_alike : (edges other : Option EdgeTold) → edges ≡ other → (funs : List Function) (n : ℕ)
      → AreAllAugmentations key count edges funs n → AreAllAugmentations way count_of other funs n
  all_augmentations_alike edges other same [] n are = are
  all_augmentations_alike edges other same (fun ∷ funs) n are =
      (are.0, are.1, are.2, augmentations_alike edges other same fun are.0 are.3, all_augmentations_alike edges other same funs are.1 are.4)

-- ---- weights of edges

pub taken_alike : (sampled : Sampled) (rows : List Pair) → Tallies sampled.branches rows → taken rows ≡ branches_from sampled
taken_alike sampled rows tallied =
    λ i block to. tables_count_members sampled.branches rows (λ branch. nat_le block.lo branch.0 && nat_lt branch.0 block.hi && nat_eq branch.1 to) tallied i
