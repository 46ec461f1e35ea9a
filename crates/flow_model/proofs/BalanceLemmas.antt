-- Balance at the arc of each block is conservation.
use Rattle.std.proofs.Common.{◌≡◌, ℕ, ◌+◌, ◌-◌, ◌≤◌, ◌==◌, Bool, true, false, List, ◌++◌, length, get_or, map, if◌then◌else◌, refl, arith, sym, subst, inl, inr, ◌∙◌}
use Rattle.std.specs.Prelude.{◌↔◌}
use Rattle.std.specs.List.{list_any}
use Rattle.std.proofs.lemmas.Bool.{ne_eqb, cases_eq, cases_lt}
use Rattle.std.proofs.lemmas.List.{get_or_past}
use Rattle.std.proofs.lemmas.List.Elements.{recursion_from_All}
use Rattle.block_model.specs.declared.parts.Block.{Block}
use Rattle.block_model.specs.declared.parts.Edge.{Edge}
use Rattle.block_model.specs.declared.parts.Weight.{Weight}
use Rattle.flow_model.specs.declared.arc.Arc.{Arc}
use Rattle.flow_model.specs.Circulation.{EachArc, IsWithin, inflow, outflow, Conserve}
use Rattle.flow_model.specs.Network.{in_side, out_side, Network, arcs_of, network_of, Counts, calls, returns, loads}
use Rattle.flow_model.specs.Repair.{AreCounts, ConserveWithinBounds}
use Rattle.flow_model.specs.Balance.{MakesUp}
use Rattle.flow_model.specs.Passing.{came_by_edges, went_by_edges, is_entry, is_exit}
use Rattle.flow_model.specs.Sound.{JoinsBlocks, IsSound, AreWeights, IsNet}
use Rattle.flow_model.proofs.ArcLemmas.{each_split, each_join, each_from, each_from_both, sum_where_none}
use Rattle.flow_model.proofs.NetLemmas.{IsWoven, into_in_side, out_of_in_side, into_out_side, out_of_out_side, tail_count, each_by_number, each_at_number, length-block_arcs, side_of, returns_within, no_edge_to, no_edge_from}

-- the count on a block's arc is within its bounds, and balances at both sides
pub record ArcBalances (net : Network) (counts : Counts) (arc : Arc) (n : ℕ) : Type 0 where
  pub within : IsWithin arc n
  pub entered : MakesUp (is_entry net arc) (came_by_edges net counts arc) n
  pub left : MakesUp (is_exit net arc) (went_by_edges net counts arc) n

-- all blocks do, each edge's count is within its bounds, and there are enough calls
pub record ArcsBalance (net : Network) (counts : Counts) : Type 0 where
  pub each : AreCounts net counts
  pub blocks : EachArc (ArcBalances net counts) net.blocks counts.blocks
  pub edges : EachArc IsWithin net.edges counts.edges
  pub called : net.calls.lower ≤ calls net counts

makes_up_from : (more : Bool) (part n : ℕ) → (if more then n - part else 0) + part ≡ n → MakesUp more part n
makes_up_from true part n e = omega (arith, e)
makes_up_from false part n e = omega (arith, e)

from_makes_up : (more : Bool) (part n : ℕ) → MakesUp more part n → (if more then n - part else 0) + part ≡ n
from_makes_up true part n e = omega (arith, e)
from_makes_up false part n e = omega (arith, e)

nothing_makes_up : (more : Bool) (part n : ℕ) → part ≡ 0 → n ≡ 0 → MakesUp more part n
nothing_makes_up true part n none also = omega (arith, none, also)
nothing_makes_up false part n none also = omega (arith, none, also)

-- the calls are what is left at the entry
called : (blocks : List Block) (edges : List Edge) (weights edge_weights : List Weight) (counts : Counts)
    → IsWoven blocks edges weights edge_weights counts → (b : ℕ)
    → let net = network_of blocks edges weights edge_weights in
    (if in_side 0 == in_side b then calls net counts else 0)
    ≡ (if in_side b == in_side 0 then get_or counts.blocks b 0 - inflow net.edges counts.edges (in_side b) else 0)
called blocks edges weights edge_weights counts woven b =
    elim (cases_eq b 0) [
      | inl e ↦ rw e (let all = tail_count blocks edges weights edge_weights counts woven 0 in rw all refl)
      | inr apart ↦ rw (ne_eqb (in_side 0) (in_side b) (λ e. apart (omega (arith, e))), ne_eqb (in_side b) (in_side 0) (λ e. apart (omega (arith, e)))) refl
    ]

-- both sides of a block, by its number
record SidesMakeUp (net : Network) (counts : Counts) (b : ℕ) : Type 0 where
  pub entered : MakesUp (in_side b == net.calls.head) (inflow net.edges counts.edges (in_side b)) (get_or counts.blocks b 0)
  pub left : MakesUp (list_any (λ back. back.tail == out_side b) net.returns) (outflow net.edges counts.edges (out_side b)) (get_or counts.blocks b 0)

sides_from : (blocks : List Block) (edges : List Edge) (weights edge_weights : List Weight) (counts : Counts)
    → IsWoven blocks edges weights edge_weights counts
    → let net = network_of blocks edges weights edge_weights in
    Conserve (arcs_of net) (loads net counts) → (b : ℕ) → SidesMakeUp net counts b
sides_from blocks edges weights edge_weights counts woven conserve b =
    let net = network_of blocks edges weights edge_weights in
    let at_in = conserve (in_side b) (λ e. omega (arith, e)) in
    let at_out = conserve (out_side b) (λ e. omega (arith, e)) in
    record {
      entered = makes_up_from (in_side b == in_side 0) (inflow net.edges counts.edges (in_side b)) (get_or counts.blocks b 0)
          (omega (arith, at_in, into_in_side blocks edges weights edge_weights counts woven b, out_of_in_side blocks edges weights edge_weights counts woven b, called blocks edges weights edge_weights counts woven b));
      left = makes_up_from (list_any (λ back. back.tail == out_side b) net.returns) (outflow net.edges counts.edges (out_side b)) (get_or counts.blocks b 0)
          (omega (arith, at_out, into_out_side blocks edges weights edge_weights counts woven b, out_of_out_side blocks edges weights edge_weights counts woven b));
    }

conserve_from : (blocks : List Block) (edges : List Edge) (weights edge_weights : List Weight) (counts : Counts)
    → IsWoven blocks edges weights edge_weights counts
    → let net = network_of blocks edges weights edge_weights in
    ((b : ℕ) → SidesMakeUp net counts b) → Conserve (arcs_of net) (loads net counts)
conserve_from blocks edges weights edge_weights counts woven sides node apart =
    let net = network_of blocks edges weights edge_weights in
    let side = side_of node apart in
    let b = side.0 in
    let P : ℕ → Type 0 = λ at. inflow (arcs_of net) (loads net counts) at ≡ outflow (arcs_of net) (loads net counts) at in
    elim side.1 [
      | inl e ↦ subst P (sym e) (
          let up = from_makes_up (in_side b == in_side 0) (inflow net.edges counts.edges (in_side b)) (get_or counts.blocks b 0) (sides b).entered in
          omega (arith, up, into_in_side blocks edges weights edge_weights counts woven b, out_of_in_side blocks edges weights edge_weights counts woven b, called blocks edges weights edge_weights counts woven b))
      | inr e ↦ subst P (sym e) (
          let up = from_makes_up (list_any (λ back. back.tail == out_side b) net.returns) (outflow net.edges counts.edges (out_side b)) (get_or counts.blocks b 0) (sides b).left in
          omega (arith, up, into_out_side blocks edges weights edge_weights counts woven b, out_of_out_side blocks edges weights edge_weights counts woven b))
    ]

-- what each block's arc shows of its sides; behind the last block there is nothing
sides_at : (blocks : List Block) (edges : List Edge) (weights edge_weights : List Weight) (counts : Counts)
    → IsWoven blocks edges weights edge_weights counts
    → let net = network_of blocks edges weights edge_weights in
    EachArc (ArcBalances net counts) net.blocks counts.blocks → (b : ℕ) → SidesMakeUp net counts b
sides_at blocks edges weights edge_weights counts woven each b =
    let net = network_of blocks edges weights edge_weights in
    let balances = ArcBalances net counts in
    let counted = woven.counted in
    elim (cases_lt b (length counts.blocks)) [
      | inl within ↦
          let here = each_at_number balances 0 blocks weights counts.blocks each b b (omega arith) within in
          record { entered = here.2.entered; left = here.2.left }
      | inr behind ↦
          let none = get_or_past counts.blocks b 0 behind in
          let no_in = sum_where_none (λ arc. arc.head == in_side b) net.edges counts.edges
          (no_edge_to (length blocks) edges edge_weights b woven.joined (omega (arith, behind, counted))) in
          let no_out = sum_where_none (λ arc. arc.tail == out_side b) net.edges counts.edges
          (no_edge_from (length blocks) edges edge_weights b woven.joined (omega (arith, behind, counted))) in
          record {
            entered = nothing_makes_up (in_side b == in_side 0) (inflow net.edges counts.edges (in_side b)) (get_or counts.blocks b 0) no_in none;
            left = nothing_makes_up (list_any (λ back. back.tail == out_side b) net.returns) (outflow net.edges counts.edges (out_side b)) (get_or counts.blocks b 0) no_out none;
          }
    ]

balanced_from : (blocks : List Block) (edges : List Edge) (weights edge_weights : List Weight) (counts : Counts)
    → IsWoven blocks edges weights edge_weights counts
    → let net = network_of blocks edges weights edge_weights in
    ConserveWithinBounds net counts → ArcsBalance net counts
balanced_from blocks edges weights edge_weights counts woven conserve =
    let net = network_of blocks edges weights edge_weights in
    let backs = map (returns net counts) net.returns in
    let within = conserve.circulation.within in
    let front = each_split IsWithin net.blocks (net.edges ++ net.returns) counts.blocks (counts.edges ++ backs) woven.are.blocks within.1 in
    let back = each_split IsWithin net.edges net.returns counts.edges backs woven.are.edges front.1 in
    let sides = sides_from blocks edges weights edge_weights counts woven conserve.circulation.conserve in
    let Sides : Arc → ℕ → Type 0 = λ arc n.
    MakesUp (arc.tail == net.calls.head) (inflow net.edges counts.edges arc.tail) n
    × MakesUp (list_any (λ back. back.tail == arc.head) net.returns) (outflow net.edges counts.edges arc.head) n in
    let each = each_by_number Sides 0 blocks weights counts.blocks woven.weighed woven.counted
    (λ b k block weight e. let same : k ≡ b = omega (arith, e) in rw same ((sides b).entered, (sides b).left)) in
    record {
      each = conserve.each;
      blocks = each_from_both IsWithin Sides (ArcBalances net counts) (λ arc n bounded both. record { within = bounded; entered = both.0; left = both.1 })
          net.blocks counts.blocks front.0 each;
      edges = back.0;
      called = within.0.0;
    }

conserving_from : (blocks : List Block) (edges : List Edge) (weights edge_weights : List Weight) (counts : Counts)
    → IsWoven blocks edges weights edge_weights counts
    → let net = network_of blocks edges weights edge_weights in
    ArcsBalance net counts → ConserveWithinBounds net counts
conserving_from blocks edges weights edge_weights counts woven balanced =
    let net = network_of blocks edges weights edge_weights in
    let backs = map (returns net counts) net.returns in
    let balances = ArcBalances net counts in
    let bounded = each_from balances IsWithin (λ arc n here. here.within) net.blocks counts.blocks balanced.blocks in
    let back = each_join IsWithin net.edges net.returns counts.edges backs balanced.edges (returns_within (returns net counts) 0 blocks) in
    let all = each_join IsWithin net.blocks (net.edges ++ net.returns) counts.blocks (counts.edges ++ backs) bounded back in
    record {
      each = balanced.each;
      circulation = record {
        within = ((balanced.called, tt), all);
        conserve = conserve_from blocks edges weights edge_weights counts woven (sides_at blocks edges weights edge_weights counts woven balanced.blocks);
      };
    }

-- what sound functions and counts for them give
pub woven_from : (blocks : List Block) (edges : List Edge) (weights edge_weights : List Weight) (counts : Counts)
    → IsSound blocks edges → AreWeights (length blocks) weights → AreCounts (network_of blocks edges weights edge_weights) counts
    → IsWoven blocks edges weights edge_weights counts
woven_from blocks edges weights edge_weights counts sound weighed are = record {
  some = sound.some;
  joined = recursion_from_All (JoinsBlocks (length blocks)) edges sound.joined;
  weighed = weighed.each;
  are = are;
  counted = are.blocks ∙ length-block_arcs 0 blocks weights weighed.each;
}

pub arcs_balance : (net : Network) (counts : Counts) → IsNet net → ConserveWithinBounds net counts ↔ ArcsBalance net counts
arcs_balance net counts is =
    let here = network_of is.blocks is.edges is.weights is.edge_weights in
    let woven = λ (are : AreCounts here counts). woven_from is.blocks is.edges is.weights is.edge_weights counts is.sound is.block_weighed are in
    rw is.same (
      (λ conserve. balanced_from is.blocks is.edges is.weights is.edge_weights counts (woven conserve.each) conserve),
      (λ balanced. conserving_from is.blocks is.edges is.weights is.edge_weights counts (woven balanced.each) balanced),
    )
