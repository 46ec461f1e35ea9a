-- The largest of some values, in parts and by a tree.
use Rattle.std.proofs.Common.{◌≡◌, ℕ, zero, suc, ◌+◌, ◌-◌, ◌*◌, ◌<◌, ◌≤◌, max, List, refl, sym, ap, ◌∙◌, arith, inl, inr}
use Rattle.std.specs.Prelude.{slice_index}
use Rattle.std.proofs.lemmas.Bool.{cases_lt}
use Rattle.block_weights.specs.Largest.{ArePairs, IsTree, largest_in, largest_of}

pub largest-none : (v : List ℕ) (first end : ℕ) → end ≤ first → largest_in v first end ≡ 0
largest-none v first end none =
    let no : end - first ≡ 0 = omega arith in
    ap (largest_of v first) no

of_parts : (v : List ℕ) (first m n k at : ℕ) → k ≡ m + n → at ≡ first + m → largest_of v first k ≡ max (largest_of v first m) (largest_of v at n)
of_parts v first zero n k at is here =
    let all : k ≡ n = omega arith in
    let same : at ≡ first = omega arith in
    omega (arith, ap (largest_of v first) all, ap (λ (a : ℕ). largest_of v a n) same)
of_parts v first (suc m) n zero at is here = absurd (omega arith)
of_parts v first (suc m) n (suc k) at is here =
    let more = of_parts v (suc first) m n k at (omega arith) (omega arith) in
    omega (arith, more)

-- the larger one of what two parts have
pub largest-parts : (v : List ℕ) (first mid end : ℕ) → first ≤ mid → mid ≤ end → largest_in v first end ≡ max (largest_in v first mid) (largest_in v mid end)
largest-parts v first mid end low high = of_parts v first (mid - first) (end - mid) (end - first) mid (omega arith) (omega arith)

one : (v : List ℕ) (first n : ℕ) → n ≡ 1 → largest_of v first n ≡ slice_index v first
one v first zero is = absurd (omega arith)
one v first (suc zero) is = omega arith
one v first (suc (suc n)) is = absurd (omega arith)

pub largest-last : (v : List ℕ) (first last end : ℕ) → end ≡ last + 1 → first ≤ last → largest_in v first end ≡ max (slice_index v last) (largest_in v first last)
largest-last v first last end is some =
    let parts = largest-parts v first last end some (omega arith) in
    let single = one v last (end - last) (omega arith) in
    omega (arith, parts, single)

halved : (t : List ℕ) (leaves a n : ℕ)
    → ((pair : ℕ) → a ≤ pair → pair < a + n → slice_index t (leaves + pair) ≡ max (slice_index t (2 * pair)) (slice_index t (2 * pair + 1)))
    → (first m at : ℕ) → first ≡ 2 * a → m ≡ 2 * n → at ≡ leaves + a → largest_of t first m ≡ largest_of t at n
halved t leaves a zero pairs first m at is all here =
    let none : m ≡ 0 = omega arith in
    ap (largest_of t first) none
halved t leaves a (suc n) pairs first zero at is all here = absurd (omega arith)
halved t leaves a (suc n) pairs first (suc zero) at is all here = absurd (omega arith)
halved t leaves a (suc n) pairs first (suc (suc m)) at is all here =
    let more = halved t leaves (suc a) n (λ pair low high. pairs pair (omega arith) (omega arith)) (suc (suc first)) m (suc at) (omega arith) (omega arith) (omega arith) in
    let two = pairs a (omega arith) (omega arith) in
    let next : suc first ≡ 2 * a + 1 = omega arith in
    omega (arith, more, two, ap (slice_index t) is, ap (slice_index t) next, ap (slice_index t) here)

-- the largest of whole pairs of nodes is that of what stands above them
pub largest-halved : (t : List ℕ) (leaves first end a e : ℕ) → ArePairs leaves t → first < end → end + 1 < 2 * leaves → first ≡ 2 * a → end ≡ 2 * e
    → largest_in t first end ≡ largest_in t (leaves + a) (leaves + e)
largest-halved t leaves first end a e pairs some within is_first is_end =
    let width : (leaves + e) - (leaves + a) ≡ e - a = omega arith in
    halved t leaves a (e - a) (λ pair low high. pairs.larger pair (omega arith)) first (end - first) (leaves + a) is_first (omega arith) refl
    ∙ ap (largest_of t (leaves + a)) (sym width)

by_runs : (t v : List ℕ) (at : ℕ → ℕ) (a n e : ℕ) → ((p q : ℕ) → p ≤ q → at p ≤ at q)
    → ((p : ℕ) → a ≤ p → p < a + n → slice_index t p ≡ largest_in v (at p) (at (suc p)))
    → e ≡ a + n → largest_of t a n ≡ largest_in v (at a) (at e)
by_runs t v at a zero e rise leaves is =
    let same : e ≡ a = omega arith in
    sym (largest-none v (at a) (at e) (omega (arith, ap at same)))
by_runs t v at a (suc n) e rise leaves is =
    let more = by_runs t v at (suc a) n e rise (λ p low high. leaves p (omega arith) (omega arith)) (omega arith) in
    let here = leaves a (omega arith) (omega arith) in
    let parts = largest-parts v (at a) (at (suc a)) (at e) (rise a (suc a) (omega arith)) (rise (suc a) e (omega arith)) in
    omega (arith, more, here, parts)

-- the largest of some leaves is that of their runs
pub largest-runs : (t v : List ℕ) (runs a e : ℕ) → IsTree v runs t → a ≤ e → e ≤ runs → largest_in t a e ≡ largest_in v (a * 16) (e * 16)
largest-runs t v runs a e tree low high =
    by_runs t v (λ (p : ℕ). p * 16) a (e - a) e (λ p q less. omega arith)
    (λ p from below.
    let next : p * 16 + 16 ≡ suc p * 16 = omega arith in
    tree.leaves p (omega arith) ∙ ap (largest_in v (p * 16)) next)
    (omega arith)

-- some values, of which those in the middle are whole runs
pub largest-three : (t v : List ℕ) (runs first end a e : ℕ) → IsTree v runs t → e ≤ runs → a ≤ e → first ≤ a * 16 → e * 16 ≤ end
    → largest_in v first end ≡ max (max (largest_in v first (a * 16)) (largest_in t a e)) (largest_in v (e * 16) end)
largest-three t v runs first end a e tree within some low high =
    let front = largest-parts v first (a * 16) end low (omega arith) in
    let rest = largest-parts v (a * 16) (e * 16) end (omega arith) high in
    let middle = largest-runs t v runs a e tree some within in
    omega (arith, front, rest, middle)

attained : (v : List ℕ) (first n : ℕ) → (place : ℕ) × (first ≤ place) × (place ≤ first + n) × (slice_index v place ≡ largest_of v first (suc n))
attained v first zero = (first, omega arith, omega arith, omega arith)
attained v first (suc n) =
    let rest = attained v (suc first) n in
    elim (cases_lt (slice_index v first) (largest_of v (suc first) (suc n))) [
      | inl less ↦ (rest.0, omega (arith, rest.1), omega (arith, rest.2), omega (arith, rest.3, less))
      | inr not ↦ (first, omega arith, omega arith, omega (arith, not))
    ]

-- one of the values is the largest
pub largest-attained : (v : List ℕ) (first end : ℕ) → first < end → (place : ℕ) × (first ≤ place) × (place < end) × (slice_index v place ≡ largest_in v first end)
largest-attained v first end some =
    let found = attained v first (end - first - 1) in
    let all : suc (end - first - 1) ≡ end - first = omega arith in
    (found.0, found.1, omega (arith, found.2), found.3 ∙ ap (largest_of v first) all)

bounds : (v : List ℕ) (first n place : ℕ) → first ≤ place → place < first + n → slice_index v place ≤ largest_of v first n
bounds v first zero place low high = absurd (omega arith)
bounds v first (suc n) place low high = elim (cases_lt first place) [
  | inl more ↦ let rest = bounds v (suc first) n place (omega arith) (omega arith) in omega (arith, rest)
  | inr not ↦ let same : place ≡ first = omega (arith, not) in omega (arith, ap (slice_index v) same)
]

pub largest-bounds : (v : List ℕ) (first end place : ℕ) → first ≤ place → place < end → slice_index v place ≤ largest_in v first end
largest-bounds v first end place low high = bounds v first (end - first) place low (omega arith)
