-- Repairs, made for one function and put one behind the other.
use Rattle.std.proofs.Common.{◌≡◌, ◌<◌, ◌≤◌, ◌+◌, ℕ, Bool, true, List, [], ◌∷◌, ◌++◌, length, map, take, Option, None, Some, Result, Ok, Err, refl, sym, ap, subst, ◌∙◌, arith, get_or}
use Rattle.std.specs.Prelude.{is_some, OnOk}
use Rattle.std.specs.List.{AllByRecursion, AllZip}
use Rattle.std.specs.Option.{unwrap_or}
use Rattle.std.proofs.lemmas.List.{append-nil, append_assoc, map_push, take_all, take_more}
use Rattle.block_model.specs.declared.parts.Block.{Block}
use Rattle.block_model.specs.declared.parts.Edge.{Edge}
use Rattle.block_model.specs.declared.parts.Weight.{Weight}
use Rattle.block_model.specs.Function.{Function}
use Rattle.flow_model.specs.Sound.{AreWeights}
use Rattle.flow_model.proofs.NetLemmas.{length-block_arcs, length-edge_arcs}
use Rattle.cfg_text.specs.declared.fun.Fun.{Fun}
use Rattle.cfg_text.specs.Fun.{function_of}
use Rattle.flow_model.specs.Cut.{most_out}
use Rattle.flow_model.specs.Network.{Network, arcs_of, network_of}
use Rattle.flow_network.specs.Flow.{holds}
use Rattle.flow_network.specs.declared.flow.Solved.{Solved}
use Rattle.flow_network.specs.declared.flow.Solved.TheVariants.{Flow, Cut}
use Rattle.flow_solver.specs.Solved.{Solves}
use Rattle.repair_model.specs.Bits.{FitsBits}
use Rattle.repair_model.specs.Text.{lines_of_repair, repair_text}
use Rattle.repair_text.specs.Repair.{IsOf, repair_by}
use Rattle.weight_model.specs.Blocks.{IsWeightOf}
use Rattle.repair_model.specs.Made.{AreRepairsOf, EdgeTold, IsRepairOf, Repairs, weighed_edges}
use Rattle.repair_maker.specs.Repaired.{IsRepaired}

-- What holds of a good answer, by what the answer says.
pub on_both : {T E P Q R : Type 0} (r : Result T E) → OnOk r P → OnOk r Q → (P → Q → R) → OnOk r R
on_both (Ok x) p q leads = leads p q
on_both (Err e) p q leads = tt

-- ---- one function

-- A network has an arc for each block and each edge.
block_arcs_are : (blocks : List Block) (edges : List Edge) (weights edge_weights : List Weight) (net : Network)
    → net ≡ network_of blocks edges weights edge_weights → AreWeights (length blocks) weights → length blocks ≡ length net.blocks
block_arcs_are blocks edges weights edge_weights net is weighed =
    subst (λ (n : Network). length blocks ≡ length n.blocks) (sym is) (sym (length-block_arcs 0 blocks weights weighed.each))

edge_arcs_are : (blocks : List Block) (edges : List Edge) (weights edge_weights : List Weight) (net : Network)
    → net ≡ network_of blocks edges weights edge_weights → AreWeights (length edges) edge_weights → length edges ≡ length net.edges
edge_arcs_are blocks edges weights edge_weights net is weighed =
    subst (λ (n : Network). length edges ≡ length n.edges) (sym is) (sym (length-edge_arcs edges edge_weights weighed.each))

pub repaired_blocks : {K : Type 0} (key : ℕ → Option K) (count : K → ℕ) (edges : Option EdgeTold) (fun : Function) (weights edge_weights : List Weight) (net : Network) (solved : Solved)
    → IsRepaired key count edges fun weights edge_weights net solved → length fun.blocks ≡ length net.blocks
repaired_blocks key count edges fun weights edge_weights net solved is = block_arcs_are fun.blocks fun.edges weights edge_weights net is.net_is is.small

pub repaired_edges : {K : Type 0} (key : ℕ → Option K) (count : K → ℕ) (edges : Option EdgeTold) (fun : Function) (weights edge_weights : List Weight) (net : Network) (solved : Solved)
    → IsRepaired key count edges fun weights edge_weights net solved → length fun.edges ≡ length net.edges
repaired_edges key count edges fun weights edge_weights net solved is = edge_arcs_are fun.blocks fun.edges weights edge_weights net is.net_is is.edges_small

-- What was solved is of the network.
pub solved_of : (net : Network) (solved : Solved) → Solves net solved → IsOf net solved
solved_of net (Flow flow prices) is = (is.least.conserve.each, is.priced)
solved_of net (Cut nodes) is = (is.sides, λ none. let e : None ≡ Some is.cut.0 = sym none ∙ is.cut.1 in absurd cc)

-- The repair of a function, by its weights and what was solved.
pub made_of : {K : Type 0} (key : ℕ → Option K) (count : K → ℕ) (edges : Option EdgeTold) (fun : Function) (weights edge_weights told : List Weight) (net : Network) (solved : Solved) (weighed : Bool) (text : List ℕ)
    → is_some edges ≡ weighed → AllZip (IsWeightOf key count) fun.blocks weights
    → edge_weights ≡ weighed_edges edges fun.blocks fun.edges weights → (is_some edges ≡ true → told ≡ edge_weights)
    → net ≡ network_of fun.blocks fun.edges weights edge_weights → Solves net solved
    → AllByRecursion FitsBits (lines_of_repair weighed fun (repair_by net weights told solved))
    → text ≡ repair_text weighed fun (repair_by net weights told solved)
    → IsRepairOf key count edges fun text
made_of key count edges fun weights edge_weights told net (Flow flow prices) asked text by are_weights same are is solves fits spelled = record {
  repair = repair_by net weights told (Flow flow prices);
  weighed = are_weights;
  repairs = subst (λ n. Repairs n (repair_by net weights told (Flow flow prices)).solution (repair_by net weights told (Flow flow prices)).first 0)
      (is ∙ ap (network_of fun.blocks fun.edges weights) same) (solves.priced, solves.least, solves.fit, refl, refl);
  edges_weighed = λ counts edges_are. are edges_are ∙ same;
  told = subst (λ b. AllByRecursion FitsBits (lines_of_repair b fun (repair_by net weights told (Flow flow prices)))) (sym by) fits;
  spelled = spelled ∙ ap (λ b. repair_text b fun (repair_by net weights told (Flow flow prices))) (sym by);
}
made_of key count edges fun weights edge_weights told net (Cut nodes) asked text by are_weights same are is solves fits spelled =
    let most : most_out (holds nodes) (arcs_of net) ≡ Some solves.cut.0 = solves.cut.1 in
    let second : unwrap_or (most_out (holds nodes) (arcs_of net)) 0 ≡ solves.cut.0 = ap (λ o. unwrap_or o 0) most in
    record {
      repair = repair_by net weights told (Cut nodes);
      weighed = are_weights;
      repairs = subst (λ n. Repairs n (repair_by net weights told (Cut nodes)).solution (repair_by net weights told (Cut nodes)).first (repair_by net weights told (Cut nodes)).second)
          (is ∙ ap (network_of fun.blocks fun.edges weights) same)
          (solves.sides, refl, most ∙ ap (λ m. Some m) (sym second), let below = solves.cut.2 in omega (arith, below, second));
      edges_weighed = λ counts edges_are. absurd cc;
      told = subst (λ b. AllByRecursion FitsBits (lines_of_repair b fun (repair_by net weights told (Cut nodes)))) (sym by) fits;
      spelled = spelled ∙ ap (λ b. repair_text b fun (repair_by net weights told (Cut nodes))) (sym by);
    }

-- ---- one function behind the other

one_behind : {K : Type 0} (key : ℕ → Option K) (count : K → ℕ) (edges : Option EdgeTold) (funs : List Function) (fun : Function) (text one : List ℕ)
    → AreRepairsOf key count edges funs text → IsRepairOf key count edges fun one → AreRepairsOf key count edges (funs ++ fun ∷ []) (text ++ one)
one_behind key count edges [] fun text one are is = (one, [], ap (λ t. t ++ one) are ∙ sym (append-nil one), is, refl)
one_behind key count edges (first ∷ funs) fun text one are is =
    (are.0, are.1 ++ one, ap (λ t. t ++ one) are.2 ∙ append_assoc are.0 are.1 one, are.3, one_behind key count edges funs fun are.1 one are.4 is)

-- The repairs of so many functions were written.
pub record WrittenSoFar {K : Type 0} (key : ℕ → Option K) (count : K → ℕ) (edges : Option EdgeTold) (funs : List Fun) (n : ℕ) (before now : List ℕ) : Type 0 where
  pub text : List ℕ
  pub all : now ≡ before ++ text
  pub are : AreRepairsOf key count edges (map function_of (take n funs)) text

pub WrittenSoFar-start : {K : Type 0} (key : ℕ → Option K) (count : K → ℕ) (edges : Option EdgeTold) (funs : List Fun) (before : List ℕ)
    → WrittenSoFar key count edges funs 0 before before
WrittenSoFar-start key count edges funs before = record { text = []; all = sym (append-nil before); are = refl }

pub WrittenSoFar-more : {K : Type 0} (key : ℕ → Option K) (count : K → ℕ) (edges : Option EdgeTold) (funs : List Fun) (n : ℕ) (before now after one : List ℕ) (fun : Fun)
    → WrittenSoFar key count edges funs n before now → n < length funs → fun ≡ get_or funs n fun → after ≡ now ++ one → IsRepairOf key count edges (function_of fun) one
    → WrittenSoFar key count edges funs (n + 1) before after
WrittenSoFar-more key count edges funs n before now after one fun so_far within here more is = record {
  text = so_far.text ++ one;
  all = more ∙ ap (λ t. t ++ one) so_far.all ∙ append_assoc before so_far.text one;
  are = subst (λ fs. AreRepairsOf key count edges fs (so_far.text ++ one))
      (sym (ap (map function_of) (take_more funs n fun within ∙ ap (λ (f : Fun). take n funs ++ f ∷ []) (sym here)) ∙ map_push function_of (take n funs) fun))
      (one_behind key count edges (map function_of (take n funs)) (function_of fun) so_far.text one so_far.are is);
}

pub WrittenSoFar-end : {K : Type 0} (key : ℕ → Option K) (count : K → ℕ) (edges : Option EdgeTold) (funs : List Fun) (n : ℕ) (before now : List ℕ)
    → WrittenSoFar key count edges funs n before now → length funs ≤ n
    → (text : List ℕ) × (now ≡ before ++ text) × AreRepairsOf key count edges (map function_of funs) text
WrittenSoFar-end key count edges funs n before now so_far past =
    (so_far.text, so_far.all, subst (λ fs. AreRepairsOf key count edges (map function_of fs) so_far.text) (take_all n funs past) so_far.are)
