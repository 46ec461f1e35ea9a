-- A tree of largest values, node by node.
use Rattle.std.proofs.Common.{◌≡◌, ℕ, ◌+◌, ◌-◌, ◌*◌, ◌<◌, max, List, [], ◌∷◌, ◌++◌, refl, ap, subst, ◌∙◌, arith, inl, inr, length}
use Rattle.std.specs.Prelude.{slice_index}
use Rattle.std.proofs.lemmas.Bool.{cases_lt}
use Rattle.std.proofs.lemmas.List.{get_or_append_left, get_or_push, length_push}
use Rattle.block_weights.specs.Largest.{ArePairs, largest_in}

-- the leaves of so many runs
pub record LeavesSoFar (values : List ℕ) (runs : ℕ) (made : List ℕ) : Type 0 where
  pub size : length made ≡ runs
  pub largest : (run : ℕ) → run < runs → slice_index made run ≡ largest_in values (run * 16) (run * 16 + 16)

pub LeavesSoFar-none : (values : List ℕ) → LeavesSoFar values 0 []
LeavesSoFar-none values = record { size = refl; largest = λ run below. absurd (omega arith) }

pub LeavesSoFar-more : (values made : List ℕ) (runs leaf : ℕ) → LeavesSoFar values runs made → leaf ≡ largest_in values (runs * 16) (runs * 16 + 16)
    → LeavesSoFar values (runs + 1) (made ++ leaf ∷ [])
LeavesSoFar-more values made runs leaf so_far is = record {
  size = omega (arith, so_far.size, length_push made leaf);
  largest = λ run below. elim (cases_lt run runs) [
    | inl less ↦ get_or_append_left made (leaf ∷ []) 0 run (omega (arith, so_far.size, less)) ∙ so_far.largest run less
    | inr not ↦
        let same : runs ≡ run = omega (arith, not, below) in
        get_or_push made leaf 0 run (omega (arith, so_far.size, same)) ∙ is ∙ ap (λ (r : ℕ). largest_in values (r * 16) (r * 16 + 16)) same
  ];
}

-- the larger ones of so many pairs stand behind the leaves
pub record PairsSoFar (leaves : List ℕ) (pairs : ℕ) (tree : List ℕ) : Type 0 where
  pub size : length tree ≡ length leaves + pairs
  pub kept : (place : ℕ) → place < length leaves → slice_index tree place ≡ slice_index leaves place
  pub larger : (pair : ℕ) → pair < pairs → slice_index tree (length leaves + pair) ≡ max (slice_index tree (2 * pair)) (slice_index tree (2 * pair + 1))

pub PairsSoFar-none : (leaves : List ℕ) → PairsSoFar leaves 0 leaves
PairsSoFar-none leaves = record { size = omega arith; kept = λ place below. refl; larger = λ pair below. absurd (omega arith) }

pub PairsSoFar-more : (leaves tree : List ℕ) (pairs node : ℕ) → PairsSoFar leaves pairs tree → pairs + 1 < length leaves
    → node ≡ max (slice_index tree (2 * pairs)) (slice_index tree (2 * pairs + 1)) → PairsSoFar leaves (pairs + 1) (tree ++ node ∷ [])
PairsSoFar-more leaves tree pairs node so_far more is =
    let stays = λ (place : ℕ) (within : place < length tree). get_or_append_left tree (node ∷ []) 0 place within in
    record {
      size = omega (arith, so_far.size, length_push tree node);
      kept = λ place below. stays place (omega (arith, so_far.size, below)) ∙ so_far.kept place below;
      larger = λ pair below. elim (cases_lt pair pairs) [
        | inl less ↦
            let above = stays (length leaves + pair) (omega (arith, so_far.size, less)) in
            let one = stays (2 * pair) (omega (arith, so_far.size, less, more)) in
            let other = stays (2 * pair + 1) (omega (arith, so_far.size, less, more)) in
            omega (arith, so_far.larger pair less, above, one, other)
        | inr not ↦
            let same : pairs ≡ pair = omega (arith, not, below) in
            let node_is = subst (λ (p : ℕ). node ≡ max (slice_index tree (2 * p)) (slice_index tree (2 * p + 1))) same is in
            let above = get_or_push tree node 0 (length leaves + pair) (omega (arith, so_far.size, same)) in
            let one = stays (2 * pair) (omega (arith, so_far.size, same, more)) in
            let other = stays (2 * pair + 1) (omega (arith, so_far.size, same, more)) in
            omega (arith, node_is, above, one, other)
      ];
    }

pub PairsSoFar-all : (leaves tree : List ℕ) (pairs : ℕ) → PairsSoFar leaves pairs tree → pairs ≡ length leaves - 1 → ArePairs (length leaves) tree
PairsSoFar-all leaves tree pairs so_far all = record {
  size = omega (arith, so_far.size);
  larger = λ pair below. so_far.larger pair (omega (arith, below, all));
}
