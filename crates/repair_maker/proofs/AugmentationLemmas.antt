-- Augmentations, counted for one function and added up one behind the other.
use Rattle.std.proofs.Common.{◌≡◌, ◌<◌, ◌≤◌, ◌+◌, ◌-◌, ◌*◌, ◌^◌, ℕ, List, [], ◌∷◌, ◌++◌, length, map, take, Option, Result, Ok, Err, refl, sym, ap, subst, ◌∙◌, arith, get_or}
use Rattle.std.specs.Prelude.{OnOk}
use Rattle.std.proofs.lemmas.List.{map_push, take_all, take_more}
use Rattle.block_model.specs.declared.parts.Weight.{Weight}
use Rattle.block_model.specs.Function.{Function}
use Rattle.cfg_text.specs.declared.fun.Fun.{Fun}
use Rattle.cfg_text.specs.Fun.{function_of}
use Rattle.flow_model.specs.Network.{Network, network_of}
use Rattle.flow_model.specs.Sound.{IsSound}
use Rattle.flow_network.specs.declared.flow.Solved.{Solved}
use Rattle.scaling_model.specs.Bound.{AreFew, StartWithin, most_digits, phase_bound}
use Rattle.repair_model.specs.Made.{EdgeTold}
use Rattle.output_model.specs.Scaled.{AreAllAugmentations, AreAugmentations, AreAugmentationsOf}
use Rattle.repair_maker.specs.Repaired.{IsRepaired}
use Rattle.repair_maker.specs.Solver.{TookFew}
use Rattle.repair_maker.proofs.RepairLemmas.{repaired_blocks, repaired_edges}

-- ---- one network

at_most : (after before most : ℕ) → after ≤ before + most → after - before ≤ most
at_most after before most within = omega (arith, within)

-- What was counted by a ledger took few augmentations.
pub took_few : (net : Network) (before was after : ℕ) → was ≡ before → StartWithin most_digits net → AreFew net was after → TookFew net before after
took_few net before was after same fits few =
    let later = (few most_digits fits).later in (
      after - before,
      omega (arith, later, same),
      record {
        few = λ digits starts. let within = (few digits starts).few in at_most after before ((digits + 1) * phase_bound net) (subst (λ (n : ℕ). after ≤ n + (digits + 1) * phase_bound net) same within);
        none = λ no. absurd (no fits);
      },
    )

pub took_most : (net : Network) (before was after : ℕ) → was ≡ before → StartWithin most_digits net → AreFew net was after → after ≤ before + (most_digits + 1) * phase_bound net
took_most net before was after same fits few = subst (λ (n : ℕ). after ≤ n + (most_digits + 1) * phase_bound net) same (few most_digits fits).few

-- ---- one function

-- What holds in any case holds of a good answer.
pub on_any : {T E P : Type 0} (r : Result T E) → P → OnOk r P
on_any (Ok x) p = p
on_any (Err e) p = tt

-- What solving the network of a function took is within its bound.
pub took_of : {K : Type 0} (key : ℕ → Option K) (count : K → ℕ) (edges : Option EdgeTold) (fun : Function) (weights edge_weights : List Weight) (net : Network) (solved : Solved) (before after : ℕ)
    → IsRepaired key count edges fun weights edge_weights net solved → TookFew net before after
    → (n : ℕ) × (after ≡ before + n) × AreAugmentationsOf key count edges fun n
took_of key count edges fun weights edge_weights net solved before after is took = (
  took.0,
  took.1,
  record {
    weights = weights;
    weighed = is.weighed;
    within = subst (λ (n : Network). AreAugmentations n took.0) (is.net_is ∙ ap (network_of fun.blocks fun.edges weights) is.edges_weighed) took.2;
  },
)

-- A function has so few blocks and edges that these are below 2^29.
pub few_of : {K : Type 0} (key : ℕ → Option K) (count : K → ℕ) (edges : Option EdgeTold) (fun : Function) (weights edge_weights : List Weight) (net : Network) (solved : Solved) (before after : ℕ)
    → IsRepaired key count edges fun weights edge_weights net solved → IsSound fun.blocks fun.edges → after ≤ before + (most_digits + 1) * phase_bound net → after ≤ before + 2 ^ 29
few_of key count edges fun weights edge_weights net solved before after is sound few =
    let blocks = repaired_blocks key count edges fun weights edge_weights net solved is in
    let edges_are = repaired_edges key count edges fun weights edge_weights net solved is in
    let few_blocks : length fun.blocks ≤ 65536 = sound.few_blocks in
    let few_edges : length fun.edges ≤ 262144 = sound.few_edges in
    let most : after ≤ before + (most_digits + 1) * (32 * (length net.blocks + length net.edges + 1)) = few in
    omega (arith, blocks, edges_are, few_blocks, few_edges, most)

-- ---- one function behind the other

one_behind : {K : Type 0} (key : ℕ → Option K) (count : K → ℕ) (edges : Option EdgeTold) (funs : List Function) (fun : Function) (all one : ℕ)
    → AreAllAugmentations key count edges funs all → AreAugmentationsOf key count edges fun one → AreAllAugmentations key count edges (funs ++ fun ∷ []) (all + one)
one_behind key count edges [] fun all one are is = (one, 0, omega (arith, are), is, refl)
one_behind key count edges (first ∷ funs) fun all one are is =
    let e = are.2 in
    (are.0, are.1 + one, omega (arith, e), are.3, one_behind key count edges funs fun are.1 one are.4 is)

-- The augmentations of so many functions were counted.
pub record CountedSoFar {K : Type 0} (key : ℕ → Option K) (count : K → ℕ) (edges : Option EdgeTold) (funs : List Fun) (n counted : ℕ) : Type 0 where
  pub are : AreAllAugmentations key count edges (map function_of (take n funs)) counted
  pub low : counted ≤ n * 2 ^ 29

pub CountedSoFar-start : {K : Type 0} (key : ℕ → Option K) (count : K → ℕ) (edges : Option EdgeTold) (funs : List Fun) (counted : ℕ) → counted ≡ 0 → CountedSoFar key count edges funs 0 counted
CountedSoFar-start key count edges funs counted none = record { are = none; low = omega (arith, none) }

pub CountedSoFar-more : {K : Type 0} (key : ℕ → Option K) (count : K → ℕ) (edges : Option EdgeTold) (funs : List Fun) (n before after one : ℕ) (fun : Fun)
    → CountedSoFar key count edges funs n before → n < length funs → fun ≡ get_or funs n fun → after ≡ before + one → AreAugmentationsOf key count edges (function_of fun) one → after ≤ before + 2 ^ 29
    → CountedSoFar key count edges funs (n + 1) after
CountedSoFar-more key count edges funs n before after one fun so_far within here more is few =
    let low : before ≤ n * 536870912 = so_far.low in
    let step : after ≤ before + 536870912 = few in
    record {
      are = subst (λ (a : ℕ). AreAllAugmentations key count edges (map function_of (take (n + 1) funs)) a) (sym more)
          (subst (λ fs. AreAllAugmentations key count edges fs (before + one))
          (sym (ap (map function_of) (take_more funs n fun within ∙ ap (λ (f : Fun). take n funs ++ f ∷ []) (sym here)) ∙ map_push function_of (take n funs) fun))
          (one_behind key count edges (map function_of (take n funs)) (function_of fun) before one so_far.are is));
      low = let both : after ≤ n * 536870912 + 536870912 = omega (arith, low, step) in omega (arith, both);
    }

pub CountedSoFar-room : {K : Type 0} (key : ℕ → Option K) (count : K → ℕ) (edges : Option EdgeTold) (funs : List Fun) (n counted : ℕ)
    → CountedSoFar key count edges funs n counted → n < length funs → length funs ≤ 2 ^ 29 → counted ≤ 2 ^ 63
CountedSoFar-room key count edges funs n counted so_far within few =
    let low : counted ≤ n * 536870912 = so_far.low in
    let most : length funs ≤ 536870912 = few in
    omega (arith, low, most, within)

pub CountedSoFar-end : {K : Type 0} (key : ℕ → Option K) (count : K → ℕ) (edges : Option EdgeTold) (funs : List Fun) (n counted : ℕ)
    → CountedSoFar key count edges funs n counted → length funs ≤ n → AreAllAugmentations key count edges (map function_of funs) counted
CountedSoFar-end key count edges funs n counted so_far past =
    subst (λ fs. AreAllAugmentations key count edges (map function_of fs) counted) (take_all n funs past) so_far.are
