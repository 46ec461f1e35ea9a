-- A heap's entries as distances and sides, behind a list of others.
use Rattle.std.proofs.Common.{◌≡◌, ℕ, ◌-◌, ◌<◌, ◌≤◌, ◌^◌, List, ◌∷◌, ◌++◌, map, arith, subst}
use Rattle.std.specs.List.{All}
use Rattle.std.specs.List.Sorted.{IsPermutation}
use Rattle.std.proofs.lemmas.List.Sorted.{IsPermutation-map, IsPermutation-middle, IsPermutation-sym, IsPermutation-trans, IsPermutation-append_right}
use Rattle.std.proofs.lemmas.List.Elements.{All-append, All-map}
use Rattle.std.proofs.lemmas.List.Sorted.{first_le_from_greatest}
use Rattle.std.specs.BinaryHeap.{IsUpperBound}
use Rattle.std.specs.Ordering.{nat_cmp, ordering_then}
use Rattle.reached_sides.specs.Nearness.{by_distance}

-- An entry more behind a list.
pub pushed_behind : (front old new : List (ℕ × ℕ)) (entry : ℕ × ℕ) → IsPermutation (entry ∷ old) new → IsPermutation (entry ∷ (front ++ old)) (front ++ new)
pushed_behind front old new entry moves =
    IsPermutation-trans (entry ∷ (front ++ old)) (front ++ entry ∷ old) (front ++ new)
    (IsPermutation-sym (front ++ entry ∷ old) (entry ∷ (front ++ old)) (IsPermutation-middle front entry old))
    (IsPermutation-append_right front (entry ∷ old) new moves)

-- An entry less behind a list.
pub popped_behind : (front old new : List (ℕ × ℕ)) (entry : ℕ × ℕ) → IsPermutation old (entry ∷ new) → IsPermutation (front ++ old) (entry ∷ (front ++ new))
popped_behind front old new entry moves =
    IsPermutation-trans (front ++ old) (front ++ entry ∷ new) (entry ∷ (front ++ new))
    (IsPermutation-append_right front old (entry ∷ new) moves) (IsPermutation-middle front entry new)

pub pushed_far : (near : List (ℕ × ℕ)) (distance side : ℕ) (old new : List (ℕ × ℕ)) → distance < 2 ^ 64
    → IsPermutation ((18446744073709551615 - distance, side) ∷ old) new
    → IsPermutation ((distance, side) ∷ (near ++ map by_distance old)) (near ++ map by_distance new)
pushed_far near distance side old new small moves =
    let back : 18446744073709551615 - (18446744073709551615 - distance) ≡ distance = omega (arith, small) in
    let mapped = IsPermutation-map by_distance ((18446744073709551615 - distance, side) ∷ old) new moves in
    pushed_behind near (map by_distance old) (map by_distance new) (distance, side)
    (subst (λ (d : ℕ). IsPermutation ((d, side) ∷ map by_distance old) (map by_distance new)) back mapped)

pub popped_far : (near : List (ℕ × ℕ)) (first : ℕ × ℕ) (old new : List (ℕ × ℕ)) → IsPermutation old (first ∷ new)
    → IsPermutation (near ++ map by_distance old) (by_distance first ∷ (near ++ map by_distance new))
popped_far near first old new moves =
    popped_behind near (map by_distance old) (map by_distance new) (by_distance first) (IsPermutation-map by_distance old (first ∷ new) moves)

-- None is nearer than a distance, neither in the list nor in the heap.
pub none_nearer : (distance limit : ℕ) (near far : List (ℕ × ℕ)) → distance ≤ limit → All (λ (other : ℕ × ℕ). distance ≤ other.0) near
    → All (λ (entry : ℕ × ℕ). limit ≤ (by_distance entry).0) far
    → All (λ (other : ℕ × ℕ). distance ≤ other.0) (near ++ map by_distance far)
none_nearer distance limit near far within ahead behind =
    All-append (λ (other : ℕ × ℕ). distance ≤ other.0) near (map by_distance far) ahead
    (All-map (λ (other : ℕ × ℕ). distance ≤ other.0) by_distance far
    (λ k d inside. omega (arith, within, behind k d inside)))

pub none_nearer_than_first : (first : ℕ × ℕ) (distance : ℕ) (near far : List (ℕ × ℕ)) → distance ≡ (by_distance first).0
    → All (λ (other : ℕ × ℕ). distance ≤ other.0) near
    → IsUpperBound (λ x y. ordering_then (nat_cmp x.0 y.0) (nat_cmp x.1 y.1)) first far
    → All (λ (other : ℕ × ℕ). distance ≤ other.0) (near ++ map by_distance far)
none_nearer_than_first first distance near far same ahead bound =
    let least = first_le_from_greatest nat_cmp first far bound in
    none_nearer distance distance near far (omega arith) ahead (λ k d inside. omega (arith, same, least k d inside))
