-- What repairs cost, added up one function behind the other.
use Rattle.std.proofs.Common.{◌≡◌, ◌<◌, ◌≤◌, ◌+◌, ℕ, List, [], ◌∷◌, ◌++◌, length, map, take, Option, None, Some, cond, refl, sym, ap, subst, ◌∙◌, arith, get_or}
use Rattle.std.specs.Prelude.{is_none}
use Rattle.std.specs.List.{AllZip}
use Rattle.std.specs.Option.{unwrap_or}
use Rattle.std.proofs.lemmas.List.{map_push, take_all, take_more}
use Rattle.std.proofs.lemmas.List.Sums.{sum_by_push}
use Rattle.block_model.specs.declared.parts.Weight.{Weight}
use Rattle.block_model.specs.Function.{Function}
use Rattle.flow_model.specs.Network.{Network, network_of}
use Rattle.flow_model.specs.Repair.{cost_of}
use Rattle.flow_network.specs.Flow.{counts_of}
use Rattle.flow_network.specs.declared.flow.Flow.{Flow as TheFlow}
use Rattle.flow_network.specs.declared.flow.Nodes.{Nodes}
use Rattle.flow_network.specs.declared.flow.Prices.{Prices}
use Rattle.flow_network.specs.declared.flow.Solved.{Solved}
use Rattle.flow_network.specs.declared.flow.Solved.TheVariants.{Flow, Cut}
use Rattle.flow_solver.specs.Solved.{Solves}
use Rattle.cfg_text.specs.declared.fun.Fun.{Fun}
use Rattle.cfg_text.specs.Fun.{function_of}
use Rattle.output_model.specs.Summary.{IsLeastCost, IsRepairCost, costs_in, cuts_in}
use Rattle.repair_maker.specs.Repaired.{IsRepaired}

-- ---- one function

-- Least counts cost what the network's least cost is, and a cut shows that there is none.
pub flow_cost : (net : Network) (solved : Solved) (flow : TheFlow) (prices : Prices) (cost : ℕ)
    → Solves net solved → solved ≡ Flow flow prices → cost ≡ cost_of net (counts_of flow) → IsLeastCost net (Some cost)
flow_cost net solved flow prices cost solves is costs =
    let by : Solves net (Flow flow prices) = subst (Solves net) is solves in (counts_of flow, by.least, costs)

pub cut_cost : (net : Network) (solved : Solved) (nodes : Nodes) → Solves net solved → solved ≡ Cut nodes → IsLeastCost net None
cut_cost net solved nodes solves is = let by : Solves net (Cut nodes) = subst (Solves net) is solves in by.none

pub repair_cost : {K : Type 0} (key : ℕ → Option K) (count : K → ℕ) (fun : Function) (weights edge_weights : List Weight) (net : Network) (solved : Solved) (cost : Option ℕ)
    → IsRepaired key count None fun weights edge_weights net solved → IsLeastCost net cost → IsRepairCost key count fun cost
repair_cost key count fun weights edge_weights net solved cost is least = record {
  weights = weights;
  weighed = is.weighed;
  least = subst (λ n. IsLeastCost n cost) (is.net_is ∙ ap (network_of fun.blocks fun.edges weights) is.edges_weighed) least;
}

-- ---- one function behind the other

each_behind : {A B : Type 0} (R : A → B → Type 0) (xs : List A) (ys : List B) (x : A) (y : B) → AllZip R xs ys → R x y → AllZip R (xs ++ x ∷ []) (ys ++ y ∷ [])
each_behind R [] [] x y all is = (is, tt)
each_behind R [] (b ∷ ys) x y all is = absurd all
each_behind R (a ∷ xs) [] x y all is = absurd all
each_behind R (a ∷ xs) (b ∷ ys) x y all is = (all.0, each_behind R xs ys x y all.1 is)

at_most_one : (cost : Option ℕ) → cond (is_none cost) 1 0 ≤ 1
at_most_one None = omega arith
at_most_one (Some cost) = omega arith

-- The costs of so many functions were added up.
pub record AddedSoFar {K : Type 0} (key : ℕ → Option K) (count : K → ℕ) (funs : List Fun) (n cost cuts : ℕ) : Type 0 where
  pub costs : List (Option ℕ)
  pub each : AllZip (IsRepairCost key count) (map function_of (take n funs)) costs
  pub cost_is : cost ≡ costs_in costs
  pub cuts_are : cuts ≡ cuts_in costs
  pub few : cuts ≤ n

pub AddedSoFar-start : {K : Type 0} (key : ℕ → Option K) (count : K → ℕ) (funs : List Fun) → AddedSoFar key count funs 0 0 0
AddedSoFar-start key count funs = record { costs = []; each = tt; cost_is = refl; cuts_are = refl; few = omega arith }

pub AddedSoFar-more : {K : Type 0} (key : ℕ → Option K) (count : K → ℕ) (funs : List Fun) (n cost cuts cost_after cuts_after : ℕ) (one : Option ℕ) (fun : Fun)
    → AddedSoFar key count funs n cost cuts → n < length funs → fun ≡ get_or funs n fun → IsRepairCost key count (function_of fun) one
    → cost_after ≡ cost + unwrap_or one 0 → cuts_after ≡ cuts + cond (is_none one) 1 0 → AddedSoFar key count funs (n + 1) cost_after cuts_after
AddedSoFar-more key count funs n cost cuts cost_after cuts_after one fun so_far within here is cost_more cuts_more = record {
  costs = so_far.costs ++ one ∷ [];
  each = subst (λ fs. AllZip (IsRepairCost key count) fs (so_far.costs ++ one ∷ []))
      (sym (ap (map function_of) (take_more funs n fun within ∙ ap (λ (f : Fun). take n funs ++ f ∷ []) (sym here)) ∙ map_push function_of (take n funs) fun))
      (each_behind (IsRepairCost key count) (map function_of (take n funs)) so_far.costs (function_of fun) one so_far.each is);
  cost_is = cost_more ∙ ap (λ (c : ℕ). c + unwrap_or one 0) so_far.cost_is ∙ sym (sum_by_push (λ (c : Option ℕ). unwrap_or c 0) so_far.costs one);
  cuts_are = cuts_more ∙ ap (λ (c : ℕ). c + cond (is_none one) 1 0) so_far.cuts_are ∙ sym (sum_by_push (λ (c : Option ℕ). cond (is_none c) 1 0) so_far.costs one);
  few = let few = so_far.few in let least = at_most_one one in omega (arith, few, cuts_more, least);
}

pub AddedSoFar-end : {K : Type 0} (key : ℕ → Option K) (count : K → ℕ) (funs : List Fun) (n cost cuts : ℕ)
    → AddedSoFar key count funs n cost cuts → length funs ≤ n
    → (costs : List (Option ℕ)) × AllZip (IsRepairCost key count) (map function_of funs) costs × (cost ≡ costs_in costs) × (cuts ≡ cuts_in costs)
AddedSoFar-end key count funs n cost cuts so_far past =
    (so_far.costs, subst (λ fs. AllZip (IsRepairCost key count) (map function_of fs) so_far.costs) (take_all n funs past) so_far.each, so_far.cost_is, so_far.cuts_are)
