-- The first that fails, one arc at a time.
use Rattle.std.proofs.Common.{◌≡◌, ℕ, zero, suc, ◌+◌, ◌<◌, ◌≤◌, List, [], ◌∷◌, ◌++◌, length, get_or, take, refl, arith, subst}
use Rattle.std.proofs.lemmas.List.{take_more, take_all, take_at}
use Rattle.std.specs.Prelude.{◌↔◌, slice_get, Option, Some, None, ℤ}
use Rattle.std.proofs.lemmas.Option.{slice_get-get_or}
use Rattle.std.specs.List.{All}
use Rattle.std.proofs.lemmas.List.Elements.{All-tail, All-take}
use Rattle.flow_model.specs.Network.{Network, Counts}
use Rattle.flow_model.specs.Sound.{IsNet, IsLimitedArc}
use Rattle.flow_model.proofs.LimitLemmas.{nets_are_limited}
use Rattle.flow_model.specs.declared.arc.Arc.{Arc}
use Rattle.flow_model.specs.Circulation.{EachArc}
use Rattle.flow_model.specs.Repair.{AreLeast, ConserveWithinBounds, FitCounts}
use Rattle.flow_model.proofs.ArcLemmas.{each_join}
use Rattle.flow_model.proofs.PassLemmas.{tests_are_exact, tests_show_least}
use Rattle.flow_model.specs.Passing.{AllTestsPass, PassesBlock, PassesEdge}
use Rattle.dual_check.specs.declared.spot.Spot.{Spot}
use Rattle.dual_check.specs.declared.spot.Spot.TheVariants.{Block, Edge}
use Rattle.dual_check.specs.First.{FailsFirst, IsFirstBad}

pub each_more : (P : Arc → ℕ → Type 0) (arcs : List Arc) (counts : List ℕ) (i : ℕ) (d : Arc) → i < length arcs → length counts ≡ length arcs
    → EachArc P (take i arcs) (take i counts) → P (get_or arcs i d) (get_or counts i 0) → EachArc P (take (i + 1) arcs) (take (i + 1) counts)
each_more P arcs counts i d within same before here =
    let also : i < length counts = omega (arith, within, same) in
    rw (take_more arcs i d within, take_more counts i 0 also) (each_join P (take i arcs) (get_or arcs i d ∷ []) (take i counts) (get_or counts i 0 ∷ []) before (here, tt))

pub first_fails : (P : Arc → ℕ → Type 0) (arcs : List Arc) (counts : List ℕ) (i : ℕ) (d : Arc) → i < length arcs → length counts ≡ length arcs
    → EachArc P (take i arcs) (take i counts) → (P (get_or arcs i d) (get_or counts i 0) → ⊥) → FailsFirst P arcs counts i
first_fails P arcs counts i d within same before not_here =
    let also : i < length counts = omega (arith, within, same) in
    record {
      before = before;
      arc = get_or arcs i d;
      there = slice_get-get_or arcs i d within;
      fails = not_here;
    }

pub all_pass : (P : Arc → ℕ → Type 0) (arcs : List Arc) (counts : List ℕ) (i : ℕ) → length arcs ≤ i → length counts ≡ length arcs
    → EachArc P (take i arcs) (take i counts) → EachArc P arcs counts
all_pass P arcs counts i past same before = rw (take_all i arcs past, take_all i counts (omega (arith, past, same))) at before

-- where all pass, the arc of a place does
pass_at : (P : Arc → ℕ → Type 0) (arcs : List Arc) (counts : List ℕ) (k : ℕ) (arc : Arc) → EachArc P arcs counts → slice_get arcs k ≡ Some arc → P arc (get_or counts k 0)
pass_at P [] counts k arc all there = absurd (cc)
pass_at P (first ∷ arcs) [] k arc all there = absurd all
pass_at P (first ∷ arcs) (n ∷ counts) zero arc all there = let is : first ≡ arc = cc in subst (λ (one : Arc). P one n) is all.0
pass_at P (first ∷ arcs) (n ∷ counts) (suc k) arc all there = pass_at P arcs counts k arc all.1 there

-- where one fails, not all pass
not_all : (P : Arc → ℕ → Type 0) (arcs : List Arc) (counts : List ℕ) (k : ℕ) → FailsFirst P arcs counts k → EachArc P arcs counts → ⊥
not_all P arcs counts k fails all = fails.fails (pass_at P arcs counts k fails.arc all fails.there)

-- what shows that all pass tells that none is the first
none_where_all : (net : Network) (counts : Counts) (price : ℕ → ℤ) (o : Option Spot) → IsFirstBad net counts price o → AllTestsPass net counts price → o ≡ None
none_where_all net counts price None first all = refl
none_where_all net counts price (Some (Block k)) first all = absurd (not_all (PassesBlock net counts price) net.blocks counts.blocks k first all.blocks)
none_where_all net counts price (Some (Edge k)) first all = absurd (not_all (PassesEdge price) net.edges counts.edges k first.1 all.edges)

all_where_none : (net : Network) (counts : Counts) (price : ℕ → ℤ) (o : Option Spot) → IsFirstBad net counts price o → o ≡ None → AllTestsPass net counts price
all_where_none net counts price None first none = first
all_where_none net counts price (Some spot) first none = absurd (cc)

-- the arcs of blocks join sides
pub limited_blocks : (net : Network) → IsNet net → All (IsLimitedArc (length net.blocks)) net.blocks
limited_blocks net is =
    let P = IsLimitedArc (length net.blocks) in
    let rest = net.edges ++ net.returns in
    let all = All-tail P net.calls (net.blocks ++ rest) (nets_are_limited net is).arcs in
    subst (λ (list : List Arc). All P list) (take_at net.blocks rest (length net.blocks) refl) (All-take P (length net.blocks) (net.blocks ++ rest) all)

-- none is bad exactly where counts conserve and prices fit them, and then they are least
pub none_is_exact : (net : Network) (counts : Counts) (price : ℕ → ℤ) (o : Option Spot) → IsNet net → IsFirstBad net counts price o
    → (o ≡ None) ↔ (ConserveWithinBounds net counts × FitCounts price net counts)
none_is_exact net counts price o is first =
    let tests = tests_are_exact net counts price is in (
      (λ none. tests.0 (all_where_none net counts price o first none)),
      (λ both. none_where_all net counts price o first (tests.1 both)),
    )

pub none_shows_least : (net : Network) (counts : Counts) (price : ℕ → ℤ) (o : Option Spot) → IsNet net → IsFirstBad net counts price o
    → o ≡ None → AreLeast net counts
none_shows_least net counts price o is first none = tests_show_least net counts price is (all_where_none net counts price o first none)
