-- The definitions on worked values.
use Rattle.std.proofs.Common.{◌≡◌, ◌≤◌, ◌<◌, ℕ, zero, suc, ◌∷◌, [], List, Option, None, Some, refl, map, arith}
use Rattle.block_model.specs.declared.parts.Block.{Block}
use Rattle.block_model.specs.declared.parts.Edge.{Edge}
use Rattle.block_model.specs.declared.parts.Weight.{Weight}
use Rattle.block_model.specs.declared.parts.Weight.TheVariants.{Unknown, Known}
use Rattle.block_model.specs.Function.{unbounded}
use Rattle.sample_model.specs.declared.pair.Pair.{Pair}
use Rattle.profile_model.specs.declared.ran_range.RanRange.{RanRange}
use Rattle.weight_model.specs.Blocks.{IsWeightOf}
use Rattle.weight_model.specs.Edges.{weight_by, passed, taken}
use Rattle.std.proofs.Common.{false}

block : ℕ → ℕ → Block
block lo hi = record { lo = lo; hi = hi; exit = false; bound = unbounded }

edge : ℕ → ℕ → Edge
edge from to = record { from = from; to = to; bound = unbounded }

branch : ℕ → ℕ → ℕ → Pair
branch from to times = record { from = from; to = to; times = times }

range : ℕ → ℕ → RanRange
range lo hi = record { lo = lo; hi = hi; times = 1 }

-- a function whose block 0 goes to block 1 or 2, and either of these to block 3
blocks : List Block
unfolding block
blocks = block 0x401000 0x401008 ∷ block 0x401008 0x401010 ∷ block 0x401010 0x401020 ∷ block 0x401020 0x401040 ∷ []

edges : List Edge
unfolding edge
edges = edge 0 1 ∷ edge 0 2 ∷ edge 1 3 ∷ edge 2 3 ∷ []

-- two samples: through block 1 once, and through block 2 once
branches : List Pair
unfolding branch
branches = branch 0x401038 0x401036 2 ∷ branch 0x40100c 0x401020 1 ∷ branch 0x401034 0x401000 1 ∷ branch 0x401004 0x401010 1 ∷ []

ran : List RanRange
unfolding range
ran = range 0x401020 0x401038 ∷ range 0x401000 0x40100c ∷ range 0x401010 0x401038 ∷ []

-- the weight of an edge by sampled branches and the ranges that ran
abbrev edge_weight : List Pair → List RanRange → List Block → List Weight → Edge → Weight
edge_weight branches ran blocks weights edge = weight_by (taken branches) (passed ran) blocks weights edge

each_edge_once : map (edge_weight branches ran blocks (Known 1 ∷ Known 1 ∷ Known 1 ∷ Known 2 ∷ [])) edges ≡ Known 1 ∷ Known 1 ∷ Known 1 ∷ Known 1 ∷ []
unfolding block edge branch range blocks edges branches ran
each_edge_once = refl

-- without a weight of block 2 its edges have none
one_unknown : map (edge_weight branches ran blocks (Known 1 ∷ Known 1 ∷ Unknown ∷ Known 2 ∷ [])) edges ≡ Known 1 ∷ Unknown ∷ Known 1 ∷ Unknown ∷ []
unfolding block edge branch range blocks edges branches ran
one_unknown = refl

-- known edges over which nothing went
none_went : map (edge_weight [] [] blocks (Known 100 ∷ Known 60 ∷ Known 0 ∷ Known 100 ∷ [])) edges ≡ Known 0 ∷ Known 0 ∷ Known 0 ∷ Known 0 ∷ []
unfolding block edge blocks edges
none_went = refl

-- block 0 ends before 0x401008: a branch from there is block 1's, and one from its first address is its own
from_the_end : map (λ from. taken (branch from 0x401010 1 ∷ []) (block 0x401000 0x401008) 0x401010) (0x400fff ∷ 0x401000 ∷ 0x401007 ∷ 0x401008 ∷ []) ≡ 0 ∷ 1 ∷ 1 ∷ 0 ∷ []
unfolding block branch
from_the_end = refl

-- a branch to another address of block 2 than its first
past_the_start : taken (branch 0x401000 0x401011 1 ∷ []) (block 0x401000 0x401008) 0x401010 ≡ 0
unfolding block branch
past_the_start = refl

-- a branch and a range count as often as they were sampled
as_often : (taken (branch 0x401000 0x401010 3 ∷ branch 0x401004 0x401010 2 ∷ []) (block 0x401000 0x401008) 0x401010 ≡ 5)
    × (passed (record { lo = 0x401000; hi = 0x401010; times = 4 } ∷ range 0x401000 0x401010 ∷ []) 0x401008 ≡ 5)
unfolding block branch range
as_often = (refl, refl)

-- ranges that end before an address, end there, begin there, and begin before it
run_past : map (λ one. passed (one ∷ []) 0x401008) (range 0x401000 0x401007 ∷ range 0x401000 0x401008 ∷ range 0x401008 0x401010 ∷ range 0x401007 0x401010 ∷ []) ≡ 0 ∷ 1 ∷ 0 ∷ 1 ∷ []
unfolding range
run_past = refl

-- ---- the weight of a block: the addresses 1, 2 and 3 have keys that count 3, 7 and 9

keyed : ℕ → Option ℕ
keyed zero = None
keyed (suc zero) = Some 3
keyed (suc (suc zero)) = Some 7
keyed (suc (suc (suc zero))) = Some 9
keyed (suc (suc (suc (suc a)))) = None

itself : ℕ → ℕ
itself key = key

-- the largest of the first two, and no more, since the block ends before address 3
largest_of_two : IsWeightOf keyed itself (block 1 3) (Known 7)
unfolding block keyed itself
largest_of_two = record { attained = (2, 7, omega arith, omega arith, refl, refl); bounded = bounded }
  where
    bounded : (a k : ℕ) → 1 ≤ a → a < 3 → keyed a ≡ Some k → k ≤ 7
    bounded zero k from below is = absurd (omega (arith, from))
    bounded (suc zero) k from below is = let same : 3 ≡ k = cc in omega (arith, same)
    bounded (suc (suc zero)) k from below is = let same : 7 ≡ k = cc in omega (arith, same)
    bounded (suc (suc (suc a))) k from below is = absurd (omega (arith, below))

not_the_smaller : IsWeightOf keyed itself (block 1 3) (Known 3) → ⊥
unfolding block keyed itself
not_the_smaller is = let most = is.bounded 2 7 (omega arith) (omega arith) refl in omega (arith, most)

some_is_not_none : (key : Option ℕ) → key ≡ Some 3 → key ≡ None → ⊥
some_is_not_none key some none = absurd (cc)

not_unknown : IsWeightOf keyed itself (block 1 3) Unknown → ⊥
unfolding block keyed itself
not_unknown none = some_is_not_none (Some 3) refl (none 1 (omega arith) (omega arith))

-- a block that ends where the first key stands
unknown_before_a_key : IsWeightOf keyed itself (block 0 1) Unknown
unfolding block keyed itself
unknown_before_a_key zero from below = refl
unknown_before_a_key (suc a) from below = absurd (omega (arith, below))
