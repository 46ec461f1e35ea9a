-- The lines of a repair pass their tests exactly where it repairs its network.
use Rattle.std.proofs.Common.{◌≡◌, ℕ, ◌+◌, ◌-◌, ◌<◌, ◌==◌, Bool, true, false, List, [], ◌∷◌, ◌++◌, length, map, refl, arith, ap, sym, ◌∙◌, Option, Some, None, inl, inr, ◌⊎◌}
use Rattle.std.specs.Prelude.{◌↔◌, ◌&&◌, ◌||◌, not, nat_le, nat_lt, ℤ, pos, ◌-ℤ◌, ◌≤ℤ◌, int_le}
use Rattle.std.specs.Bool.{OnTrue}
use Rattle.std.specs.List.{AllByRecursion}
use Rattle.std.proofs.lemmas.Bool.{and_parts, and_from, or_cases, or_left, or_right, not-true, leb-true, le-leb, ltb-true, lt-ltb, eqb-true, eq-eqb, cases_lt, cases_Bool, ltb-false, le-ltb}
use Rattle.std.proofs.lemmas.Int.{ints}
use Rattle.block_model.specs.Judging.{exceeds}
use Rattle.flow_model.specs.declared.arc.Arc.{Arc}
use Rattle.flow_model.specs.Circulation.{root, EachArc, IsAtMost, IsWithin, cost_on}
use Rattle.block_model.specs.declared.parts.Block.{Block}
use Rattle.block_model.specs.declared.parts.Edge.{Edge}
use Rattle.block_model.specs.declared.parts.Weight.{Weight}
use Rattle.block_model.specs.declared.parts.Weight.TheVariants.{Unknown}
use Rattle.block_model.specs.Function.{Function}
use Rattle.flow_model.specs.Cut.{least_in, most_out}
use Rattle.flow_model.specs.Repair.{cost_of}
use Rattle.flow_model.specs.Sound.{AreWeights, IsNet, IsSound}
use Rattle.flow_model.proofs.NetLemmas.{length-block_arcs, length-edge_arcs}
use Rattle.flow_model.proofs.PassLemmas.{tests_are_exact, tests_show_least}
use Rattle.repair_model.specs.Laws.{HasShape, PassingLinesRepair}
use Rattle.repair_model.specs.Made.{Repairs}
use Rattle.repair_model.specs.Repair.{Solution, flow, cut}
use Rattle.flow_model.specs.Network.{Network, Counts, arcs_of, free_arc, network_of}
use Rattle.flow_model.specs.Passing.{AllTestsPass, AreCalls, IsEntered, IsLeft, PassesBlock, PassesEdge, came_by_edges, went_by_edges, is_entry, is_exit}
use Rattle.flow_model.specs.Sides.{at_side}
use Rattle.flow_model.specs.Prices.{FitsOn, IsBelow}
use Rattle.flow_model.specs.Balance.{MakesUp}
use Rattle.repair_model.specs.Checking.{is_within, is_full, fits_more, fits_less, fits, makes_up, are_calls, is_entered, is_left, passes_block, passes_edge, each_test, first_failing, is_cut_of, tests_of, failed_in, weights_of_edges}

int_le-true : (x y : ℤ) → int_le x y ≡ true → x ≤ℤ y
int_le-true x y is = omega (arith, ints, is)

le-int_le : (x y : ℤ) → x ≤ℤ y → int_le x y ≡ true
le-int_le x y is = elim (cases_Bool (int_le x y)) [
  | inl so ↦ so
  | inr not_so ↦ absurd (omega (arith, ints, not_so, is))
]

-- ---- one arc

at_most_true : (o : Option ℕ) (n : ℕ) → not (exceeds n o) ≡ true → IsAtMost o n
at_most_true None n is = tt
at_most_true (Some upper) n is = ltb-false upper n (not-true (nat_lt upper n) is)

at_most_from : (o : Option ℕ) (n : ℕ) → IsAtMost o n → not (exceeds n o) ≡ true
at_most_from None n is = refl
at_most_from (Some upper) n is = ap not (le-ltb upper n is)

within_true : (arc : Arc) (n : ℕ) → is_within arc n ≡ true → IsWithin arc n
within_true arc n is =
    let both = and_parts (nat_le arc.lower n) (not (exceeds n arc.upper)) is in
    (leb-true arc.lower n both.0, at_most_true arc.upper n both.1)

within_from : (arc : Arc) (n : ℕ) → IsWithin arc n → is_within arc n ≡ true
within_from arc n is = and_from (nat_le arc.lower n) (not (exceeds n arc.upper)) (le-leb arc.lower n is.0) (at_most_from arc.upper n is.1)

full_not_below : (o : Option ℕ) (n : ℕ) → is_full o n ≡ true → IsBelow o n → ⊥
full_not_below None n is below = absurd (cc)
full_not_below (Some upper) n is below = omega (arith, leb-true upper n is, below)

full_or_below : (o : Option ℕ) (n : ℕ) → (is_full o n ≡ true) ⊎ IsBelow o n
full_or_below None n = inr tt
full_or_below (Some upper) n = elim (cases_lt n upper) [
  | inl below ↦ inr below
  | inr past ↦ inl (le-leb upper n past)
]

more_true : (price : ℕ → ℤ) (arc : Arc) (n : ℕ) → fits_more price arc n ≡ true → IsBelow arc.upper n
    → (price arc.head -ℤ price arc.tail) ≤ℤ (pos (cost_on arc (n + 1)) -ℤ pos (cost_on arc n))
more_true price arc n is below = elim (or_cases (is_full arc.upper n) _ is) [
  | inl full ↦ absurd (full_not_below arc.upper n full below)
  | inr cheap ↦ int_le-true _ _ cheap
]

more_from : (price : ℕ → ℤ) (arc : Arc) (n : ℕ)
    → (IsBelow arc.upper n → (price arc.head -ℤ price arc.tail) ≤ℤ (pos (cost_on arc (n + 1)) -ℤ pos (cost_on arc n)))
    → fits_more price arc n ≡ true
more_from price arc n gives =
    let cheap = int_le (price arc.head -ℤ price arc.tail) (pos (cost_on arc (n + 1)) -ℤ pos (cost_on arc n)) in
    elim (full_or_below arc.upper n) [
      | inl full ↦ or_left (is_full arc.upper n) cheap full
      | inr below ↦ or_right (is_full arc.upper n) cheap (le-int_le _ _ (gives below))
    ]

less_true : (price : ℕ → ℤ) (arc : Arc) (n : ℕ) → fits_less price arc n ≡ true → arc.lower < n
    → (price arc.tail -ℤ price arc.head) ≤ℤ (pos (cost_on arc (n - 1)) -ℤ pos (cost_on arc n))
less_true price arc n is above = elim (or_cases (nat_le n arc.lower) _ is) [
  | inl least ↦ absurd (let at_most = leb-true n arc.lower least in omega (arith, at_most, above))
  | inr cheap ↦ int_le-true _ _ cheap
]

less_from : (price : ℕ → ℤ) (arc : Arc) (n : ℕ)
    → (arc.lower < n → (price arc.tail -ℤ price arc.head) ≤ℤ (pos (cost_on arc (n - 1)) -ℤ pos (cost_on arc n)))
    → fits_less price arc n ≡ true
less_from price arc n gives =
    let cheap = int_le (price arc.tail -ℤ price arc.head) (pos (cost_on arc (n - 1)) -ℤ pos (cost_on arc n)) in
    elim (cases_lt arc.lower n) [
      | inl above ↦ or_right (nat_le n arc.lower) cheap (le-int_le _ _ (gives above))
      | inr least ↦ or_left (nat_le n arc.lower) cheap (le-leb n arc.lower least)
    ]

fits_true : (price : ℕ → ℤ) (arc : Arc) (n : ℕ) → fits price arc n ≡ true → FitsOn price arc n
fits_true price arc n is =
    let both = and_parts (fits_more price arc n) (fits_less price arc n) is in
    record { more = more_true price arc n both.0; less = less_true price arc n both.1 }

fits_from : (price : ℕ → ℤ) (arc : Arc) (n : ℕ) → FitsOn price arc n → fits price arc n ≡ true
fits_from price arc n is =
    and_from (fits_more price arc n) (fits_less price arc n) (more_from price arc n is.more) (less_from price arc n is.less)

-- ---- the test of a line

made_true : (rest : Bool) (part n : ℕ) → makes_up rest part n ≡ true → MakesUp rest part n
made_true true part n is = leb-true part n is
made_true false part n is = eqb-true part n is

made_from : (rest : Bool) (part n : ℕ) → MakesUp rest part n → makes_up rest part n ≡ true
made_from true part n is = le-leb part n is
made_from false part n is = eq-eqb part n is

-- what is asked where a test holds
asked_true : (b x : Bool) (P : Type 0) → (x ≡ true → P) → (not b || x) ≡ true → OnTrue b P
asked_true true x P gives is = gives is
asked_true false x P gives is = tt

asked_from : (b x : Bool) (P : Type 0) → (P → x ≡ true) → OnTrue b P → (not b || x) ≡ true
asked_from true x P gives is = gives is
asked_from false x P gives is = refl

calls_true : (net : Network) (price : ℕ → ℤ) (n : ℕ) → are_calls net price n ≡ true → AreCalls net price n
calls_true net price n is =
    let both = and_parts (nat_le net.calls.lower n) (fits price net.calls n) is in
    record { enough = leb-true net.calls.lower n both.0; fits = fits_true price net.calls n both.1 }

calls_from : (net : Network) (price : ℕ → ℤ) (n : ℕ) → AreCalls net price n → are_calls net price n ≡ true
calls_from net price n is = and_from (nat_le net.calls.lower n) (fits price net.calls n) (le-leb net.calls.lower n is.enough) (fits_from price net.calls n is.fits)

entered_true : (net : Network) (counts : Counts) (price : ℕ → ℤ) (arc : Arc) (n : ℕ)
    → is_entered net counts price arc n ≡ true → IsEntered net counts price arc n
entered_true net counts price arc n is =
    let came = came_by_edges net counts arc in
    let both = and_parts (makes_up (is_entry net arc) came n) _ is in
    record {
      made_up = made_true (is_entry net arc) came n both.0;
      called = asked_true (is_entry net arc) (are_calls net price (n - came)) _ (calls_true net price (n - came)) both.1;
    }

entered_from : (net : Network) (counts : Counts) (price : ℕ → ℤ) (arc : Arc) (n : ℕ)
    → IsEntered net counts price arc n → is_entered net counts price arc n ≡ true
entered_from net counts price arc n is =
    let came = came_by_edges net counts arc in
    and_from (makes_up (is_entry net arc) came n) _ (made_from (is_entry net arc) came n is.made_up)
    (asked_from (is_entry net arc) (are_calls net price (n - came)) _ (calls_from net price (n - came)) is.called)

left_true : (net : Network) (counts : Counts) (price : ℕ → ℤ) (arc : Arc) (n : ℕ)
    → is_left net counts price arc n ≡ true → IsLeft net counts price arc n
left_true net counts price arc n is =
    let went = went_by_edges net counts arc in
    let both = and_parts (makes_up (is_exit net arc) went n) _ is in
    record {
      made_up = made_true (is_exit net arc) went n both.0;
      returned = asked_true (is_exit net arc) (fits price (free_arc arc.head root 0) (n - went)) _
          (fits_true price (free_arc arc.head root 0) (n - went)) both.1;
    }

left_from : (net : Network) (counts : Counts) (price : ℕ → ℤ) (arc : Arc) (n : ℕ)
    → IsLeft net counts price arc n → is_left net counts price arc n ≡ true
left_from net counts price arc n is =
    let went = went_by_edges net counts arc in
    and_from (makes_up (is_exit net arc) went n) _ (made_from (is_exit net arc) went n is.made_up)
    (asked_from (is_exit net arc) (fits price (free_arc arc.head root 0) (n - went)) _
    (fits_from price (free_arc arc.head root 0) (n - went)) is.returned)

pub block_true : (net : Network) (counts : Counts) (price : ℕ → ℤ) (arc : Arc) (n : ℕ)
    → passes_block net counts price arc n ≡ true → PassesBlock net counts price arc n
block_true net counts price arc n is =
    let both = and_parts (is_within arc n && fits price arc n) _ is in
    let one = and_parts (is_within arc n) (fits price arc n) both.0 in
    let two = and_parts (is_entered net counts price arc n) (is_left net counts price arc n) both.1 in
    record {
      within = within_true arc n one.0;
      fits = fits_true price arc n one.1;
      entered = entered_true net counts price arc n two.0;
      left = left_true net counts price arc n two.1;
    }

pub block_from : (net : Network) (counts : Counts) (price : ℕ → ℤ) (arc : Arc) (n : ℕ)
    → PassesBlock net counts price arc n → passes_block net counts price arc n ≡ true
block_from net counts price arc n is =
    and_from (is_within arc n && fits price arc n) (is_entered net counts price arc n && is_left net counts price arc n)
    (and_from (is_within arc n) (fits price arc n) (within_from arc n is.within) (fits_from price arc n is.fits))
    (and_from (is_entered net counts price arc n) (is_left net counts price arc n)
    (entered_from net counts price arc n is.entered) (left_from net counts price arc n is.left))

pub edge_true : (price : ℕ → ℤ) (arc : Arc) (n : ℕ) → passes_edge price arc n ≡ true → PassesEdge price arc n
edge_true price arc n is =
    let both = and_parts (is_within arc n) (fits price arc n) is in
    record { within = within_true arc n both.0; fits = fits_true price arc n both.1 }

pub edge_from : (price : ℕ → ℤ) (arc : Arc) (n : ℕ) → PassesEdge price arc n → passes_edge price arc n ≡ true
edge_from price arc n is = and_from (is_within arc n) (fits price arc n) (within_from arc n is.within) (fits_from price arc n is.fits)

-- ---- the lines of a repair

-- one test of each arc and all of them
each_true : (P : Arc → ℕ → Type 0) (p : Arc → ℕ → Bool) (arcs : List Arc) (counts : List ℕ) → length counts ≡ length arcs
    → ((arc : Arc) (n : ℕ) → p arc n ≡ true → P arc n) → AllByRecursion (λ b. b ≡ true) (each_test p arcs counts) → EachArc P arcs counts
each_true P p [] [] long gives all = tt
each_true P p [] (n ∷ counts) long gives all = absurd (omega (arith, long))
each_true P p (arc ∷ arcs) [] long gives all = absurd (omega (arith, long))
each_true P p (arc ∷ arcs) (n ∷ counts) long gives all =
    (gives arc n all.0, each_true P p arcs counts (omega (arith, long)) gives all.1)

each_from : (P : Arc → ℕ → Type 0) (p : Arc → ℕ → Bool) (arcs : List Arc) (counts : List ℕ)
    → ((arc : Arc) (n : ℕ) → P arc n → p arc n ≡ true) → EachArc P arcs counts → AllByRecursion (λ b. b ≡ true) (each_test p arcs counts)
each_from P p [] [] gives each = tt
each_from P p [] (n ∷ counts) gives each = absurd each
each_from P p (arc ∷ arcs) [] gives each = absurd each
each_from P p (arc ∷ arcs) (n ∷ counts) gives each = (gives arc n each.0, each_from P p arcs counts gives each.1)

-- none fails exactly where all pass
none_failing : (number : ℕ) (tests : List Bool) → first_failing number tests ≡ None → AllByRecursion (λ b. b ≡ true) tests
none_failing number [] none = tt
none_failing number (true ∷ tests) none = (refl, none_failing (number + 1) tests none)
none_failing number (false ∷ tests) none = absurd (cc)

all_passing : (number : ℕ) (tests : List Bool) → AllByRecursion (λ b. b ≡ true) tests → first_failing number tests ≡ None
all_passing number [] all = refl
all_passing number (true ∷ tests) all = all_passing (number + 1) tests all.1
all_passing number (false ∷ tests) all = absurd (cc all.0)

all_split : (xs ys : List Bool) → AllByRecursion (λ b. b ≡ true) (xs ++ ys)
    → AllByRecursion (λ b. b ≡ true) xs × AllByRecursion (λ b. b ≡ true) ys
all_split [] ys all = (tt, all)
all_split (x ∷ xs) ys all = let rest = all_split xs ys all.1 in ((all.0, rest.0), rest.1)

all_join : (xs ys : List Bool) → AllByRecursion (λ b. b ≡ true) xs → AllByRecursion (λ b. b ≡ true) ys
    → AllByRecursion (λ b. b ≡ true) (xs ++ ys)
all_join [] ys xs_all ys_all = ys_all
all_join (x ∷ xs) ys xs_all ys_all = (xs_all.0, all_join xs ys xs_all.1 ys_all)

-- ---- counts

is_net : (blocks : List Block) (edges : List Edge) (weights edge_weights : List Weight) → IsSound blocks edges
    → AreWeights (length blocks) weights → AreWeights (length edges) edge_weights → IsNet (network_of blocks edges weights edge_weights)
is_net blocks edges weights edge_weights sound weighed edges_weighed = record {
  blocks = blocks;
  edges = edges;
  weights = weights;
  edge_weights = edge_weights;
  sound = sound;
  block_weighed = weighed;
  edge_weighed = edges_weighed;
  same = refl;
}

passing_counts : (net : Network) (number : ℕ) (counts : Counts) (ins outs : List ℤ) (first : ℕ) → IsNet net
    → length counts.blocks ≡ length net.blocks → length counts.edges ≡ length net.edges
    → first_failing number (tests_of net (flow counts ins outs) first 0) ≡ None
    → AllTestsPass net counts (at_side (pos 0) ins outs) × (first ≡ cost_of net counts)
passing_counts net number counts ins outs first is blocks edges none =
    let price = at_side (pos 0) ins outs in
    let all = none_failing number _ none in
    let one = all_split (each_test (passes_block net counts price) net.blocks counts.blocks) _ all in
    let two = all_split (each_test (passes_edge price) net.edges counts.edges) _ one.1 in (
      record {
        blocks = each_true (PassesBlock net counts price) (passes_block net counts price) net.blocks counts.blocks blocks (block_true net counts price) one.0;
        edges = each_true (PassesEdge price) (passes_edge price) net.edges counts.edges edges (edge_true price) two.0;
      },
      eqb-true first (cost_of net counts) two.1.0,
    )

counts_passing : (net : Network) (number : ℕ) (counts : Counts) (ins outs : List ℤ) (first : ℕ)
    → AllTestsPass net counts (at_side (pos 0) ins outs) → first ≡ cost_of net counts
    → first_failing number (tests_of net (flow counts ins outs) first 0) ≡ None
counts_passing net number counts ins outs first tests cost =
    let price = at_side (pos 0) ins outs in
    all_passing number _
    (all_join (each_test (passes_block net counts price) net.blocks counts.blocks) _
    (each_from (PassesBlock net counts price) (passes_block net counts price) net.blocks counts.blocks (block_from net counts price) tests.blocks)
    (all_join (each_test (passes_edge price) net.edges counts.edges) _
    (each_from (PassesEdge price) (passes_edge price) net.edges counts.edges (edge_from price) tests.edges)
    (eq-eqb first (cost_of net counts) cost, tt)))

-- ---- a cut

all_said : (arcs : List Arc) → AllByRecursion (λ b. b ≡ true) (map (λ arc. true) arcs)
all_said [] = tt
all_said (arc ∷ arcs) = (refl, all_said arcs)

cut_true : (most : Option ℕ) (least first second : ℕ) → is_cut_of most least first second ≡ true
    → (first ≡ least) × (most ≡ Some second) × (second < first)
cut_true None least first second is = absurd (cc)
cut_true (Some most) least first second is =
    let both = and_parts (first == least) _ is in
    let more = and_parts (second == most) (nat_lt second first) both.1 in
    let same : most ≡ second = sym (eqb-true second most more.0) in
    (eqb-true first least both.0, ap Some same, ltb-true second first more.1)

cut_from : (most : Option ℕ) (least first second : ℕ) → first ≡ least → most ≡ Some second → second < first
    → is_cut_of most least first second ≡ true
cut_from most least first second sum bound above =
    rw (bound) (and_from (first == least) _ (eq-eqb first least sum)
    (and_from (second == second) (nat_lt second first) (eq-eqb second second refl) (lt-ltb second first above)))

-- ---- a repair

pub passing_lines_repair : PassingLinesRepair
passing_lines_repair fun line repair sound whole =
    by_solution fun line repair.weights repair.edge_weights repair.solution repair.first repair.second sound
    whole.weighed whole.edges_weighed whole.shape
  where
    by_solution : (fun : Function) (line : ℕ) (weights edge_weights : List Weight) (solution : Solution) (first second : ℕ) → IsSound fun.blocks fun.edges
        → AreWeights (length fun.blocks) weights → AreWeights (length fun.edges) (weights_of_edges fun.edges edge_weights solution)
        → HasShape (length fun.blocks) (length fun.edges) (record { weights = weights; edge_weights = edge_weights; solution = solution; first = first; second = second }) solution
        → failed_in fun line (record { weights = weights; edge_weights = edge_weights; solution = solution; first = first; second = second }) ≡ None
        ↔ Repairs (network_of fun.blocks fun.edges weights (weights_of_edges fun.edges edge_weights solution)) solution first second
    by_solution fun line weights edge_weights (flow counts ins outs) first second sound weighed edges_weighed shape =
        let net = network_of fun.blocks fun.edges weights edge_weights in
        let is = is_net fun.blocks fun.edges weights edge_weights sound weighed edges_weighed in
        let blocks : length net.blocks ≡ length fun.blocks = length-block_arcs 0 fun.blocks weights weighed.each in
        let edges : length net.edges ≡ length fun.edges = length-edge_arcs fun.edges edge_weights edges_weighed.each in
        let price = at_side (pos 0) ins outs in
        let exact = tests_are_exact net counts price is in
        rw shape.5 (
          (λ none.
              let passing = passing_counts net (line + 1) counts ins outs first is (shape.0 ∙ sym blocks) (shape.3 ∙ sym edges) none in
              let both = exact.0 passing.0 in
              ((shape.1 ∙ sym blocks, shape.2 ∙ sym blocks), tests_show_least net counts price is passing.0, both.1, passing.1, refl)),
          (λ repairs. counts_passing net (line + 1) counts ins outs first (exact.1 (repairs.1.conserve, repairs.2)) repairs.3),
        )
    by_solution fun line weights edge_weights (cut at_root ins outs) first second sound weighed edges_weighed shape =
        let net = network_of fun.blocks fun.edges weights (map (λ edge. Unknown) fun.edges) in
        let blocks : length net.blocks ≡ length fun.blocks = length-block_arcs 0 fun.blocks weights weighed.each in
        let set = at_side at_root ins outs in
        let said = all_said net.blocks in (
          (λ none.
              let all = all_split (map (λ arc. true) net.blocks) _ (none_failing (line + 1) _ none) in
              let is = cut_true (most_out set (arcs_of net)) (least_in set (arcs_of net)) first second all.1.0 in
              ((shape.0 ∙ sym blocks, shape.1 ∙ sym blocks), is.0, is.1, is.2)),
          (λ repairs. all_passing (line + 1) _ (all_join (map (λ arc. true) net.blocks) _ said
              (cut_from (most_out set (arcs_of net)) (least_in set (arcs_of net)) first second repairs.1 repairs.2 repairs.3, tt))),
        )
