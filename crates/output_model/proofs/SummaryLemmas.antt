-- A summary is determined: weights are, and least costs.
use Rattle.std.proofs.Common.{◌≡◌, ℕ, List, [], ◌∷◌, length, Option, None, Some, refl, sym, ap, subst, ◌∙◌, arith}
use Rattle.std.specs.List.{AllZip}
use Rattle.std.proofs.lemmas.Option.{none-some}
use Rattle.block_model.specs.declared.parts.Weight.{Weight}
use Rattle.block_model.specs.declared.parts.Weight.TheVariants.{Unknown, Known}
use Rattle.block_model.specs.Function.{Function}
use Rattle.flow_model.specs.Network.{Network, network_of}
use Rattle.profile_model.specs.Profile.{lines_of}
use Rattle.weight_model.specs.Blocks.{IsWeightIn, IsWeightOf}
use Rattle.repair_model.specs.Made.{weighed_edges}
use Rattle.output_model.specs.Built.{count_of_way}
use Rattle.output_model.specs.Laws.{SummariesAreDetermined}
use Rattle.output_model.specs.Program.{way_at}
use Rattle.output_model.specs.Sampled.{profile_of}
use Rattle.output_model.specs.Summary.{IsLeastCost, IsRepairCost, costs_in, cuts_in, summary_text, totals_in}

-- there is one list where there is one of each
one_list : {A B : Type 0} (R : A → B → Type 0) → ((x : A) (y z : B) → R x y → R x z → y ≡ z) → (xs : List A) (ys zs : List B) → AllZip R xs ys → AllZip R xs zs → ys ≡ zs
one_list R one [] [] [] all others = refl
one_list R one [] (y ∷ ys) zs all others = absurd all
one_list R one [] [] (z ∷ zs) all others = absurd others
one_list R one (x ∷ xs) [] zs all others = absurd all
one_list R one (x ∷ xs) (y ∷ ys) [] all others = absurd others
one_list R one (x ∷ xs) (y ∷ ys) (z ∷ zs) all others =
    let first = one x y z all.0 others.0 in let rest = one_list R one xs ys zs all.1 others.1 in λ i. first i ∷ rest i

one_weight : {K : Type 0} (key : ℕ → Option K) (count : K → ℕ) (lo hi : ℕ) (weight other : Weight) → IsWeightIn key count lo hi weight → IsWeightIn key count lo hi other → weight ≡ other
one_weight key count lo hi Unknown Unknown is same = refl
one_weight key count lo hi Unknown (Known n) is same =
    let (a, k, low, high, here, counted) = same.attained in absurd (none-some k (sym (is a low high) ∙ here))
one_weight key count lo hi (Known n) Unknown is same =
    let (a, k, low, high, here, counted) = is.attained in absurd (none-some k (sym (same a low high) ∙ here))
one_weight key count lo hi (Known n) (Known m) is same =
    let (a, k, low, high, here, counted) = is.attained in
    let (b, l, from, to, there, counted_there) = same.attained in
    let below = same.bounded a k low high here in
    let above = is.bounded b l from to there in
    let both : n ≡ m = omega (arith, below, above, counted, counted_there) in
    ap Known both

one_cost : (net : Network) (cost other : Option ℕ) → IsLeastCost net cost → IsLeastCost net other → cost ≡ other
one_cost net None None none same = refl
one_cost net None (Some other) none (counts, least, is) = absurd (none counts least.conserve)
one_cost net (Some cost) None (counts, least, is) none = absurd (none counts least.conserve)
one_cost net (Some cost) (Some other) (counts, least, is) (others, least_too, is_too) =
    let below = least.least others least_too.conserve in
    let above = least_too.least counts least.conserve in
    let both : cost ≡ other = omega (arith, below, above, is, is_too) in
    ap (λ c. Some c) both

one_repair_cost : {K : Type 0} (key : ℕ → Option K) (count : K → ℕ) (fun : Function) (cost other : Option ℕ) → IsRepairCost key count fun cost → IsRepairCost key count fun other → cost ≡ other
one_repair_cost key count fun cost other is same =
    let weights = one_list (IsWeightOf key count) (λ block. one_weight key count block.lo block.hi) fun.blocks same.weights is.weights same.weighed is.weighed in
    one_cost (network_of fun.blocks fun.edges is.weights (weighed_edges None fun.blocks fun.edges is.weights)) cost other is.least
    (subst (λ ws. IsLeastCost (network_of fun.blocks fun.edges ws (weighed_edges None fun.blocks fun.edges ws)) other) weights same.least)

pub summaries_are_determined : SummariesAreDetermined
summaries_are_determined program sampled funs text other is same =
    let costs = one_list (IsRepairCost (way_at program) (count_of_way program sampled)) (one_repair_cost (way_at program) (count_of_way program sampled)) funs is.costs same.costs is.each same.each in
    is.spelled
    ∙ ap (λ (cs : List (Option ℕ)). summary_text (record {
      functions = length funs;
      branches = length sampled.branches;
      total = totals_in (lines_of (profile_of program sampled));
      cost = costs_in cs;
      cuts = cuts_in cs;
    })) costs
    ∙ sym same.spelled
