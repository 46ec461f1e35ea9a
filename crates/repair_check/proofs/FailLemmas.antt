-- The first test that fails, by the first arc that fails.
use Rattle.std.proofs.Common.{◌≡◌, ℕ, zero, suc, ◌+◌, ◌<◌, Bool, true, false, List, [], ◌∷◌, ◌++◌, length, map, take, get_or, refl, arith, ap, sym, ◌∙◌, Option, Some, None, subst}
use Rattle.std.specs.Prelude.{◌==◌, ℤ, pos, is_some, slice_get}
use Rattle.std.proofs.lemmas.Bool.{eqb-true, eq-eqb}
use Rattle.std.specs.List.{AllZip}
use Rattle.std.specs.Option.{option_or}
use Rattle.refusal.proofs.PlaceLemmas.{option_or-none}
use Rattle.block_model.specs.Function.{Function}
use Rattle.repair_model.specs.Laws.{IsToldOf}
use Rattle.repair_model.specs.Repair.{Repair, flow, cut}
use Rattle.cfg_text.specs.Fun.{function_of}
use Rattle.cfg_text.specs.declared.fun.Fun.{Fun}
use Rattle.flow_model.specs.declared.arc.Arc.{Arc}
use Rattle.block_model.specs.declared.parts.Weight.{Weight}
use Rattle.block_model.specs.declared.parts.Weight.TheVariants.{Unknown}
use Rattle.flow_model.specs.Circulation.{EachArc}
use Rattle.flow_model.specs.Network.{Network, Counts, network_of}
use Rattle.flow_model.specs.Passing.{AllTestsPass, PassesBlock, PassesEdge}
use Rattle.flow_model.specs.Repair.{AreCounts, cost_of}
use Rattle.flow_model.specs.Sides.{AreSides, at_side}
use Rattle.flow_model.specs.Sound.{AreWeights}
use Rattle.flow_model.proofs.NetLemmas.{length-block_arcs, length-edge_arcs}
use Rattle.flow_network.specs.Flow.{counts_of}
use Rattle.flow_network.specs.declared.flow.Flow.{Flow}
use Rattle.flow_network.specs.declared.flow.Nodes.{Nodes}
use Rattle.flow_network.specs.declared.flow.Prices.{Prices}
use Rattle.flow_network.specs.declared.flow.Solved.{Solved}
use Rattle.flow_network.specs.declared.flow.Solved.TheVariants as solved
use Rattle.repair_model.specs.Laws.{HasShape}
use Rattle.repair_model.proofs.CheckLemmas.{block_true, block_from, edge_true, edge_from}
use Rattle.repair_text.specs.Repair.{numbered, repair_of, solution_of}
use Rattle.repair_text.specs.declared.repair.Repair as read
use Rattle.repair_model.specs.Checking.{each_test, failed_in, failed_line, first_failing, passes_block, passes_edge, tests_of, weights_of_edges}
use Rattle.dual_check.specs.First.{FailsFirst}

-- all arcs pass, and what follows them counts on
pub behind_arcs : (P : Arc → ℕ → Type 0) (p : Arc → ℕ → Bool) (number : ℕ) (arcs : List Arc) (counts : List ℕ) (rest : List Bool)
    → ((arc : Arc) (n : ℕ) → P arc n → p arc n ≡ true) → EachArc P arcs counts
    → first_failing number (each_test p arcs counts ++ rest) ≡ first_failing (number + length arcs) rest
behind_arcs P p number [] [] rest gives each = let z : number ≡ number + 0 = omega arith in ap (λ (m : ℕ). first_failing m rest) z
behind_arcs P p number [] (n ∷ counts) rest gives each = absurd each
behind_arcs P p number (arc ∷ arcs) [] rest gives each = absurd each
behind_arcs P p number (arc ∷ arcs) (n ∷ counts) rest gives each =
    let more = behind_arcs P p (number + 1) arcs counts rest gives each.1 in
    let same : number + 1 + length arcs ≡ number + suc (length arcs) = omega arith in
    rw (gives arc n each.0) (more ∙ ap (λ (m : ℕ). first_failing m rest) same)

false_from : (P : Type 0) (b : Bool) → (b ≡ true → P) → (P → ⊥) → b ≡ false
false_from P true gives no_p = absurd (no_p (gives refl))
false_from P false gives no_p = refl

-- the first arc that fails
pub at_arc : (P : Arc → ℕ → Type 0) (p : Arc → ℕ → Bool) (number k : ℕ) (arcs : List Arc) (counts : List ℕ) (rest : List Bool)
    → ((arc : Arc) (n : ℕ) → P arc n → p arc n ≡ true) → ((arc : Arc) (n : ℕ) → p arc n ≡ true → P arc n)
    → length counts ≡ length arcs → FailsFirst P arcs counts k
    → first_failing number (each_test p arcs counts ++ rest) ≡ Some (number + k)
at_arc P p number k [] counts rest gives says long fails = let there = fails.there in absurd (cc)
at_arc P p number k (arc ∷ arcs) [] rest gives says long fails = absurd (omega (arith, long))
at_arc P p number zero (arc ∷ arcs) (n ∷ counts) rest gives says long fails =
    let same : arc ≡ fails.arc = let there = fails.there in cc in
    let not_so : p arc n ≡ false = false_from (P arc n) (p arc n) (says arc n) (λ so. fails.fails (subst (λ (a : Arc). P a n) same so)) in
    rw not_so (ap Some (let z : number ≡ number + 0 = omega arith in z))
at_arc P p number (suc k) (arc ∷ arcs) (n ∷ counts) rest gives says long fails =
    let later = at_arc P p (number + 1) k arcs counts rest gives says (omega (arith, long))
    (record { before = fails.before.1; arc = fails.arc; there = fails.there; fails = fails.fails }) in
    let same : number + 1 + k ≡ number + suc k = omega arith in
    rw (gives arc n fails.before.0) (later ∙ ap Some same)

-- blocks say nothing beside a cut
pub behind_blocks : (number : ℕ) (arcs : List Arc) (rest : List Bool)
    → first_failing number (map (λ arc. true) arcs ++ rest) ≡ first_failing (number + length arcs) rest
behind_blocks number [] rest = let z : number ≡ number + 0 = omega arith in ap (λ (m : ℕ). first_failing m rest) z
behind_blocks number (arc ∷ arcs) rest =
    let same : number + 1 + length arcs ≡ number + suc (length arcs) = omega arith in
    behind_blocks (number + 1) arcs rest ∙ ap (λ (m : ℕ). first_failing m rest) same

-- ---- one repair behind the other

pub as_many : (funs : List Function) (repairs : List (ℕ × Repair)) → AllZip IsToldOf funs repairs → length repairs ≡ length funs
as_many [] [] all = refl
as_many [] (repair ∷ repairs) all = absurd all
as_many (fun ∷ funs) [] all = absurd all
as_many (fun ∷ funs) (repair ∷ repairs) all = ap suc (as_many funs repairs all.1)

-- ---- the lines of counts

pub block_fails : (net : Network) (counts : Counts) (ins outs : List ℤ) (number first second k : ℕ) → AreCounts net counts
    → FailsFirst (PassesBlock net counts (at_side (pos 0) ins outs)) net.blocks counts.blocks k
    → Some (number + k) ≡ first_failing number (tests_of net (flow counts ins outs) first second)
block_fails net counts ins outs number first second k are fails =
    let price = at_side (pos 0) ins outs in
    sym (at_arc (PassesBlock net counts price) (passes_block net counts price) number k net.blocks counts.blocks _
    (block_from net counts price) (block_true net counts price) are.blocks fails)

pub edge_fails : (net : Network) (counts : Counts) (ins outs : List ℤ) (number first second k : ℕ) → AreCounts net counts
    → EachArc (PassesBlock net counts (at_side (pos 0) ins outs)) net.blocks counts.blocks
    → FailsFirst (PassesEdge (at_side (pos 0) ins outs)) net.edges counts.edges k
    → Some (number + length net.blocks + k) ≡ first_failing number (tests_of net (flow counts ins outs) first second)
edge_fails net counts ins outs number first second k are blocks fails =
    let price = at_side (pos 0) ins outs in
    sym (behind_arcs (PassesBlock net counts price) (passes_block net counts price) number net.blocks counts.blocks _ (block_from net counts price) blocks
    ∙ at_arc (PassesEdge price) (passes_edge price) (number + length net.blocks) k net.edges counts.edges _
    (edge_from price) (edge_true price) are.edges fails)

behind_all : (net : Network) (counts : Counts) (ins outs : List ℤ) (number first second : ℕ)
    → AllTestsPass net counts (at_side (pos 0) ins outs)
    → first_failing number (tests_of net (flow counts ins outs) first second)
    ≡ first_failing (number + length net.blocks + length net.edges) ((first == cost_of net counts) ∷ [])
behind_all net counts ins outs number first second all =
    let price = at_side (pos 0) ins outs in
    behind_arcs (PassesBlock net counts price) (passes_block net counts price) number net.blocks counts.blocks _ (block_from net counts price) all.blocks
    ∙ behind_arcs (PassesEdge price) (passes_edge price) (number + length net.blocks) net.edges counts.edges _ (edge_from price) all.edges

pub none_fails : (net : Network) (counts : Counts) (ins outs : List ℤ) (number first second : ℕ)
    → AllTestsPass net counts (at_side (pos 0) ins outs) → cost_of net counts ≡ first
    → None ≡ first_failing number (tests_of net (flow counts ins outs) first second)
none_fails net counts ins outs number first second all same =
    sym (behind_all net counts ins outs number first second all ∙ rw (eq-eqb first (cost_of net counts) (sym same)) refl)

pub cost_fails : (net : Network) (counts : Counts) (ins outs : List ℤ) (number first second : ℕ)
    → AllTestsPass net counts (at_side (pos 0) ins outs) → (cost_of net counts ≡ first → ⊥)
    → Some (number + length net.blocks + length net.edges) ≡ first_failing number (tests_of net (flow counts ins outs) first second)
cost_fails net counts ins outs number first second all not_same =
    sym (behind_all net counts ins outs number first second all
    ∙ rw (false_from (cost_of net counts ≡ first) (first == cost_of net counts) (λ so. sym (eqb-true first (cost_of net counts) so)) not_same) refl)

-- ---- a repair that was read

abbrev net_by : Function → read.Repair → List Weight → Network
net_by fun repair edge_weights = network_of fun.blocks fun.edges repair.weights edge_weights

pub counts_are : (fun : Function) (repair : read.Repair) (f : Flow) (p : Prices) (net : Network) → IsToldOf fun (numbered repair)
    → repair.solved ≡ solved.Flow f p → net ≡ net_by fun repair repair.edge_weights → AreCounts net (counts_of f) × AreSides net p.ins p.outs
counts_are fun repair f p net is same by =
    let shape : HasShape (length fun.blocks) (length fun.edges) (repair_of repair) (flow (counts_of f) p.ins p.outs) =
    subst (λ (s : Solved). HasShape (length fun.blocks) (length fun.edges) (repair_of repair) (solution_of s)) same is.whole.shape in
    let weighed : AreWeights (length fun.edges) repair.edge_weights =
    subst (λ (s : Solved). AreWeights (length fun.edges) (weights_of_edges fun.edges repair.edge_weights (solution_of s))) same is.whole.edges_weighed in
    let blocks : length net.blocks ≡ length fun.blocks =
    ap (λ (n : Network). length n.blocks) by ∙ length-block_arcs 0 fun.blocks repair.weights is.whole.weighed.each in
    let edges : length net.edges ≡ length fun.edges =
    ap (λ (n : Network). length n.edges) by ∙ length-edge_arcs fun.edges repair.edge_weights weighed.each in (
      record { blocks = shape.0 ∙ sym blocks; edges = shape.3 ∙ sym edges },
      (shape.1 ∙ sym blocks, shape.2 ∙ sym blocks),
    )

pub sides_are : (fun : Function) (repair : read.Repair) (nodes : Nodes) (net : Network) (edge_weights : List Weight) → IsToldOf fun (numbered repair)
    → repair.solved ≡ solved.Cut nodes → net ≡ net_by fun repair edge_weights → AreSides net nodes.ins nodes.outs
sides_are fun repair nodes net edge_weights is same by =
    let shape : HasShape (length fun.blocks) (length fun.edges) (repair_of repair) (cut nodes.root nodes.ins nodes.outs) =
    subst (λ (s : Solved). HasShape (length fun.blocks) (length fun.edges) (repair_of repair) (solution_of s)) same is.whole.shape in
    let blocks : length net.blocks ≡ length fun.blocks =
    ap (λ (n : Network). length n.blocks) by ∙ length-block_arcs 0 fun.blocks repair.weights is.whole.weighed.each in
    (shape.0 ∙ sym blocks, shape.1 ∙ sym blocks)

pub counts_failed : (fun : Function) (repair : read.Repair) (f : Flow) (p : Prices) (net : Network)
    → repair.solved ≡ solved.Flow f p → net ≡ net_by fun repair repair.edge_weights
    → first_failing (repair.line + 1) (tests_of net (flow (counts_of f) p.ins p.outs) repair.first repair.second)
    ≡ failed_in fun repair.line (repair_of repair)
counts_failed fun repair f p net same by =
    ap (λ (n : Network). first_failing (repair.line + 1) (tests_of n (flow (counts_of f) p.ins p.outs) repair.first repair.second)) by
    ∙ ap (λ (s : Solved). first_failing (repair.line + 1) (tests_of (net_by fun repair (weights_of_edges fun.edges repair.edge_weights (solution_of s)))
    (solution_of s) repair.first repair.second)) (sym same)

pub cut_failed : (fun : Function) (repair : read.Repair) (nodes : Nodes) (net : Network) (edge_weights : List Weight)
    → repair.solved ≡ solved.Cut nodes → edge_weights ≡ map (λ edge. Unknown) fun.edges → net ≡ net_by fun repair edge_weights
    → first_failing (repair.line + 1) (tests_of net (cut nodes.root nodes.ins nodes.outs) repair.first repair.second)
    ≡ failed_in fun repair.line (repair_of repair)
cut_failed fun repair nodes net edge_weights same unknown by =
    ap (λ (n : Network). first_failing (repair.line + 1) (tests_of n (cut nodes.root nodes.ins nodes.outs) repair.first repair.second))
    (by ∙ ap (λ (ws : List Weight). net_by fun repair ws) unknown)
    ∙ ap (λ (s : Solved). first_failing (repair.line + 1) (tests_of (net_by fun repair (weights_of_edges fun.edges repair.edge_weights (solution_of s)))
    (solution_of s) repair.first repair.second)) (sym same)

-- ---- repairs that were read, at their places

abbrev functions_of : List Fun → List Function
functions_of funs = map function_of funs

pub told_at_index : (at : ℕ) (funs : List Fun) (repairs : List read.Repair) (d : Fun) (e : read.Repair) → at < length funs
    → AllZip IsToldOf (functions_of funs) (map numbered repairs) → IsToldOf (function_of (get_or funs at d)) (numbered (get_or repairs at e))
told_at_index at [] repairs d e within told = absurd (omega (arith, within))
told_at_index at (fun ∷ funs) [] d e within told = absurd told
told_at_index zero (fun ∷ funs) (repair ∷ repairs) d e within told = told.0
told_at_index (suc at) (fun ∷ funs) (repair ∷ repairs) d e within told = told_at_index at funs repairs d e (omega (arith, within)) told.1

some_first : (x y : Option ℕ) → is_some x ≡ true → x ≡ option_or x y
some_first None y some = absurd (cc)
some_first (Some n) y some = refl

no_first : (x : Option ℕ) → is_some x ≡ false → x ≡ None
no_first None none = refl
no_first (Some n) none = absurd (cc)

pub fails_at_index : (at : ℕ) (funs : List Fun) (repairs : List read.Repair) (d : Fun) (e : read.Repair) (failed : Option ℕ) → at < length funs
    → AllZip IsToldOf (functions_of funs) (map numbered repairs) → failed_line (take at (functions_of funs)) (take at (map numbered repairs)) ≡ None
    → failed ≡ failed_in (function_of (get_or funs at d)) (get_or repairs at e).line (repair_of (get_or repairs at e)) → is_some failed ≡ true
    → failed ≡ failed_line (functions_of funs) (map numbered repairs)
fails_at_index at [] repairs d e failed within told before is some = absurd (omega (arith, within))
fails_at_index at (fun ∷ funs) [] d e failed within told before is some = absurd told
fails_at_index zero (fun ∷ funs) (repair ∷ repairs) d e failed within told before is some =
    is ∙ some_first (failed_in (function_of fun) repair.line (repair_of repair)) _ (sym (ap is_some is) ∙ some)
fails_at_index (suc at) (fun ∷ funs) (repair ∷ repairs) d e failed within told before is some =
    let both = option_or-none (failed_in (function_of fun) repair.line (repair_of repair)) _ before in
    rw both.0 (fails_at_index at funs repairs d e failed (omega (arith, within)) told.1 both.1 is some)

passes_next : (at : ℕ) (funs : List Fun) (repairs : List read.Repair) (d : Fun) (e : read.Repair) (failed : Option ℕ) → at < length funs
    → AllZip IsToldOf (functions_of funs) (map numbered repairs) → failed_line (take at (functions_of funs)) (take at (map numbered repairs)) ≡ None
    → failed ≡ failed_in (function_of (get_or funs at d)) (get_or repairs at e).line (repair_of (get_or repairs at e)) → is_some failed ≡ false
    → failed_line (take (suc at) (functions_of funs)) (take (suc at) (map numbered repairs)) ≡ None
passes_next at [] repairs d e failed within told before is none = absurd (omega (arith, within))
passes_next at (fun ∷ funs) [] d e failed within told before is none = absurd told
passes_next zero (fun ∷ funs) (repair ∷ repairs) d e failed within told before is none =
    rw (sym is ∙ no_first failed none) refl
passes_next (suc at) (fun ∷ funs) (repair ∷ repairs) d e failed within told before is none =
    let both = option_or-none (failed_in (function_of fun) repair.line (repair_of repair)) _ before in
    rw both.0 (passes_next at funs repairs d e failed (omega (arith, within)) told.1 both.1 is none)

pub passes_at_index : (at : ℕ) (funs : List Fun) (repairs : List read.Repair) (d : Fun) (e : read.Repair) (failed : Option ℕ) → at < length funs
    → AllZip IsToldOf (functions_of funs) (map numbered repairs) → failed_line (take at (functions_of funs)) (take at (map numbered repairs)) ≡ None
    → failed ≡ failed_in (function_of (get_or funs at d)) (get_or repairs at e).line (repair_of (get_or repairs at e)) → is_some failed ≡ false
    → failed_line (take (at + 1) (functions_of funs)) (take (at + 1) (map numbered repairs)) ≡ None
passes_at_index at funs repairs d e failed within told before is none =
    let next : suc at ≡ at + 1 = omega arith in
    subst (λ (n : ℕ). failed_line (take n (functions_of funs)) (take n (map numbered repairs)) ≡ None) next
    (passes_next at funs repairs d e failed within told before is none)
