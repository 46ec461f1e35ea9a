-- Balance at the arcs of a function is balance at its blocks and edges by number.
use Rattle.std.proofs.Common.{◌≡◌, ℕ, zero, suc, ◌+◌, ◌-◌, ◌<◌, ◌≤◌, ◌==◌, Bool, true, false, List, [], ◌∷◌, length, get_or, if◌then◌else◌, refl, arith, sym, subst, Some, ◌∙◌}
use Rattle.std.specs.Prelude.{slice_get}
use Rattle.std.specs.List.{list_any}
use Rattle.std.proofs.lemmas.Bool.{ne_eqb, eq-eqb, cond_both, or_left}
use Rattle.block_model.specs.declared.parts.Block.{Block}
use Rattle.block_model.specs.declared.parts.Edge.{Edge}
use Rattle.block_model.specs.declared.parts.Weight.{Weight}
use Rattle.flow_model.specs.declared.arc.Arc.{Arc}
use Rattle.flow_model.specs.Circulation.{EachArc, IsWithin, inflow, outflow}
use Rattle.flow_model.specs.Network.{in_side, out_side, block_arc, block_arcs, edge_arc, edge_arcs, return_arcs, some_sampled, network_of, Counts}
use Rattle.flow_model.specs.Repair.{AreCounts}
use Rattle.flow_model.specs.Balance.{came_to, went_from, IsBalanced}
use Rattle.flow_model.specs.BalanceLaws.{BalanceIsConservation, TestsAreByNumber}
use Rattle.flow_model.specs.Sound.{IsNet}
use Rattle.flow_model.proofs.NetLemmas.{IsWoven, same_in_side, same_out_side, tail_count, length-block_arcs, length-edge_arcs, no_return_before}
use Rattle.flow_model.proofs.BalanceLemmas.{ArcBalances, ArcsBalance, arcs_balance, woven_from}

-- ---- sums over edges

came_is : (edges : List Edge) (weights : List Weight) (ns : List ℕ) (b : ℕ) → length weights ≡ length edges
    → inflow (edge_arcs edges weights) ns (in_side b) ≡ came_to edges ns b
came_is [] weights ns b same = refl
came_is (edge ∷ edges) [] ns b same = absurd (omega (arith, same))
came_is (edge ∷ edges) (weight ∷ weights) [] b same = refl
came_is (edge ∷ edges) (weight ∷ weights) (n ∷ ns) b same =
    let more = came_is edges weights ns b (omega (arith, same)) in
    rw (same_in_side edge.to b) (omega (arith, more))

went_is : (edges : List Edge) (weights : List Weight) (ns : List ℕ) (b : ℕ) → length weights ≡ length edges
    → outflow (edge_arcs edges weights) ns (out_side b) ≡ went_from edges ns b
went_is [] weights ns b same = refl
went_is (edge ∷ edges) [] ns b same = absurd (omega (arith, same))
went_is (edge ∷ edges) (weight ∷ weights) [] b same = refl
went_is (edge ∷ edges) (weight ∷ weights) (n ∷ ns) b same =
    let more = went_is edges weights ns b (omega (arith, same)) in
    rw (same_out_side edge.from b) (omega (arith, more))

-- ---- exits

exit_is : (number : ℕ) (blocks : List Block) (k b : ℕ) (block : Block) → b ≡ number + k → slice_get blocks k ≡ Some block
    → list_any (λ arc. arc.tail == out_side b) (return_arcs number blocks) ≡ block.exit
exit_is number [] k b block e at = absurd (cc)
exit_is number (first ∷ blocks) zero b block e at =
    let is : first ≡ block = cc in
    let here : out_side number ≡ out_side b = omega (arith, e) in
    let P : Bool → List Arc → Type 0 = λ exit arcs. list_any (λ arc. arc.tail == out_side b) arcs ≡ exit in
    let none = no_return_before (number + 1) blocks b (omega (arith, e)) in
    subst (λ (block : Block). list_any (λ arc. arc.tail == out_side b) (return_arcs number (first ∷ blocks)) ≡ block.exit) is
    (cond_both first.exit _ _ (P first.exit)
    (λ exits. or_left (out_side number == out_side b) _ (eq-eqb (out_side number) (out_side b) here) ∙ sym exits)
    (λ not. none ∙ sym not))
exit_is number (first ∷ blocks) (suc k) b block e at =
    let more = exit_is (number + 1) blocks k b block (omega (arith, e)) at in
    let apart : (out_side number == out_side b) ≡ false = ne_eqb (out_side number) (out_side b) (λ same. omega (arith, e, same)) in
    let P : List Arc → Type 0 = λ arcs. list_any (λ arc. arc.tail == out_side b) arcs ≡ block.exit in
    cond_both first.exit _ _ P (λ _. rw apart more) (λ _. more)

-- ---- facts of each block and each edge, by number

block_at : (P : Arc → ℕ → Type 0) (number : ℕ) (blocks : List Block) (weights : List Weight) (ns : List ℕ)
    → EachArc P (block_arcs number blocks weights) ns → length weights ≡ length blocks
    → (k b : ℕ) (block : Block) → b ≡ number + k → slice_get blocks k ≡ Some block
    → (weight : Weight) × P (block_arc b block weight) (get_or ns k 0)
block_at P number [] weights ns each same k b block e at = absurd (cc)
block_at P number (first ∷ blocks) [] ns each same k b block e at = absurd (omega (arith, same))
block_at P number (first ∷ blocks) (weight ∷ weights) [] each same k b block e at = absurd each
block_at P number (first ∷ blocks) (weight ∷ weights) (n ∷ ns) each same zero b block e at =
    let is : first ≡ block = cc in
    let number_is : number ≡ b = omega (arith, e) in
    (weight, subst (λ (one : Block). P (block_arc b one weight) n) is (subst (λ (m : ℕ). P (block_arc m first weight) n) number_is each.0))
block_at P number (first ∷ blocks) (weight ∷ weights) (n ∷ ns) each same (suc k) b block e at =
    block_at P (number + 1) blocks weights ns each.1 (omega (arith, same)) k b block (omega (arith, e)) at

each_block : (P : Arc → ℕ → Type 0) (number : ℕ) (blocks : List Block) (weights : List Weight) (ns : List ℕ)
    → length weights ≡ length blocks → length ns ≡ length blocks
    → ((k b : ℕ) (block : Block) (weight : Weight) → b ≡ number + k → slice_get blocks k ≡ Some block → P (block_arc b block weight) (get_or ns k 0))
    → EachArc P (block_arcs number blocks weights) ns
each_block P number [] weights [] same also f = tt
each_block P number [] weights (n ∷ ns) same also f = absurd (omega (arith, also))
each_block P number (block ∷ blocks) [] ns same also f = absurd (omega (arith, same))
each_block P number (block ∷ blocks) (weight ∷ weights) [] same also f = absurd (omega (arith, also))
each_block P number (block ∷ blocks) (weight ∷ weights) (n ∷ ns) same also f = (
  f 0 number block weight (omega arith) refl,
  each_block P (number + 1) blocks weights ns (omega (arith, same)) (omega (arith, also))
      (λ k b one heavy e at. f (suc k) b one heavy (omega (arith, e)) at),
)

edge_at : (P : Arc → ℕ → Type 0) (edges : List Edge) (weights : List Weight) (ns : List ℕ)
    → EachArc P (edge_arcs edges weights) ns → length weights ≡ length edges
    → (k : ℕ) (edge : Edge) → slice_get edges k ≡ Some edge → (weight : Weight) × P (edge_arc edge weight) (get_or ns k 0)
edge_at P [] weights ns each same k edge at = absurd (cc)
edge_at P (first ∷ edges) [] ns each same k edge at = absurd (omega (arith, same))
edge_at P (first ∷ edges) (weight ∷ weights) [] each same k edge at = absurd each
edge_at P (first ∷ edges) (weight ∷ weights) (n ∷ ns) each same zero edge at =
    let is : first ≡ edge = cc in
    (weight, subst (λ (one : Edge). P (edge_arc one weight) n) is each.0)
edge_at P (first ∷ edges) (weight ∷ weights) (n ∷ ns) each same (suc k) edge at =
    edge_at P edges weights ns each.1 (omega (arith, same)) k edge at

each_edge : (P : Arc → ℕ → Type 0) (edges : List Edge) (weights : List Weight) (ns : List ℕ)
    → length weights ≡ length edges → length ns ≡ length edges
    → ((k : ℕ) (edge : Edge) (weight : Weight) → slice_get edges k ≡ Some edge → P (edge_arc edge weight) (get_or ns k 0))
    → EachArc P (edge_arcs edges weights) ns
each_edge P [] weights [] same also f = tt
each_edge P [] weights (n ∷ ns) same also f = absurd (omega (arith, also))
each_edge P (edge ∷ edges) [] ns same also f = absurd (omega (arith, same))
each_edge P (edge ∷ edges) (weight ∷ weights) [] same also f = absurd (omega (arith, also))
each_edge P (edge ∷ edges) (weight ∷ weights) (n ∷ ns) same also f = (
  f 0 edge weight refl,
  each_edge P edges weights ns (omega (arith, same)) (omega (arith, also)) (λ k one heavy at. f (suc k) one heavy at),
)

entry_is : (b : ℕ) → (in_side b == in_side 0) ≡ (b == 0)
entry_is b = same_in_side b 0

-- ---- the calls

calls_below : (sampled : Bool) (in_ x : ℕ) → (if sampled then 1 else 0) ≤ x - in_ → sampled ≡ true → in_ < x
calls_below true in_ x enough is = omega (arith, enough)
calls_below false in_ x enough is = absurd (cc)

calls_enough : (sampled : Bool) (in_ x : ℕ) → (sampled ≡ true → in_ < x) → (if sampled then 1 else 0) ≤ x - in_
calls_enough true in_ x called = let below = called refl in omega (arith, below)
calls_enough false in_ x called = omega arith

-- ---- both ways

balanced_from : (blocks : List Block) (edges : List Edge) (weights edge_weights : List Weight) (counts : Counts)
    → IsWoven blocks edges weights edge_weights counts → length edge_weights ≡ length edges
    → ArcsBalance (network_of blocks edges weights edge_weights) counts → IsBalanced blocks edges weights counts
balanced_from blocks edges weights edge_weights counts woven weighed arcs =
    let net = network_of blocks edges weights edge_weights in
    let came = λ (b : ℕ). came_is edges edge_weights counts.edges b weighed in
    let went = λ (b : ℕ). went_is edges edge_weights counts.edges b weighed in
    record {
      block_counts = woven.counted;
      edge_counts = arcs.each.edges ∙ length-edge_arcs edges edge_weights weighed;
      balance = λ b block at.
          let here = (block_at (ArcBalances net counts) 0 blocks weights counts.blocks arcs.blocks woven.weighed b b block (omega arith) at).1 in
          record {
            entered = rw (entry_is b, came b) at here.entered;
            left = rw (exit_is 0 blocks b b block (omega arith) at, went b) at here.left;
            within = here.within;
          };
      within = λ k edge at. (edge_at IsWithin edges edge_weights counts.edges arcs.edges weighed k edge at).1;
      called =
          let here = tail_count blocks edges weights edge_weights counts woven 0 in
          calls_below (some_sampled weights) (came_to edges counts.edges 0) (get_or counts.blocks 0 0) (rw (here, came 0) at arcs.called);
    }

arcs_from : (blocks : List Block) (edges : List Edge) (weights edge_weights : List Weight) (counts : Counts)
    → IsWoven blocks edges weights edge_weights counts → length edge_weights ≡ length edges
    → IsBalanced blocks edges weights counts → ArcsBalance (network_of blocks edges weights edge_weights) counts
arcs_from blocks edges weights edge_weights counts woven weighed is =
    let net = network_of blocks edges weights edge_weights in
    let came = λ (b : ℕ). came_is edges edge_weights counts.edges b weighed in
    let went = λ (b : ℕ). went_is edges edge_weights counts.edges b weighed in
    let here = tail_count blocks edges weights edge_weights counts woven 0 in
    record {
      each = woven.are;
      blocks = each_block (ArcBalances net counts) 0 blocks weights counts.blocks woven.weighed woven.counted
          (λ k b block weight e at.
          let same : k ≡ b = omega (arith, e) in
          let this = is.balance k block at in
          rw (sym same) (record {
            within = this.within;
            entered = rw (entry_is k, came k) this.entered;
            left = rw (exit_is 0 blocks k k block (omega arith) at, went k) this.left;
          }));
      edges = each_edge IsWithin edges edge_weights counts.edges weighed is.edge_counts (λ k edge weight at. is.within k edge at);
      called = rw (here, came 0) (calls_enough (some_sampled weights) (came_to edges counts.edges 0) (get_or counts.blocks 0 0) is.called);
    }

pub balance_is_conservation : BalanceIsConservation
balance_is_conservation blocks edges weights edge_weights counts sound weighed edges_weighed =
    let net = network_of blocks edges weights edge_weights in
    let this : IsNet net = record {
      blocks = blocks;
      edges = edges;
      weights = weights;
      edge_weights = edge_weights;
      sound = sound;
      block_weighed = weighed;
      edge_weighed = edges_weighed;
      same = refl;
    } in
    let both = arcs_balance net counts this in
    let woven = λ (are : AreCounts net counts). woven_from blocks edges weights edge_weights counts sound weighed are in (
      (λ conserve. balanced_from blocks edges weights edge_weights counts (woven conserve.each) edges_weighed.each (both.0 conserve)),
      (λ is.
          let are : AreCounts net counts = record {
            blocks = is.block_counts ∙ sym (length-block_arcs 0 blocks weights weighed.each);
            edges = is.edge_counts ∙ sym (length-edge_arcs edges edge_weights edges_weighed.each);
          } in
          both.1 (arcs_from blocks edges weights edge_weights counts (woven are) edges_weighed.each is)),
    )

pub tests_are_by_number : TestsAreByNumber
tests_are_by_number blocks edges weights edge_weights counts weighed number block weight at = record {
  came = came_is edges edge_weights counts.edges number weighed.each;
  went = went_is edges edge_weights counts.edges number weighed.each;
  entry = entry_is number;
  exit = exit_is 0 blocks number number block (omega arith) at;
}
