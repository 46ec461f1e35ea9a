-- A function that is being read.
use Rattle.std.specs.Prelude.{◌≡◌, ℕ, ◌+◌, ◌*◌, ◌<◌, ◌≤◌, nat_eq, List, length, take, drop, map}
use Rattle.std.specs.BTreeSet.{BTreeSet, contains}
use Rattle.std.specs.List.{AllByRecursion, list_any}
use Rattle.std.specs.List.Sorted.{IsNonDecreasingBy}
use Rattle.std.specs.Ordering.{nat_cmp}
use Rattle.block_model.specs.declared.parts.Block.{Block}
use Rattle.block_model.specs.declared.parts.Edge.{Edge}
use Rattle.block_model.specs.Limits.{max_blocks}
use Rattle.cfg_text.specs.Taken.{AreApart, meets, span_of}

-- An edge as one number: its two ends are below 65536.
abbrev pub way_of : ℕ → ℕ → ℕ
way_of from to = from * 65536 + to

-- The number of an edge.
abbrev pub way_by : Edge → ℕ
way_by edge = way_of edge.from edge.to

-- The first blocks stand behind one another, and the spans are those of the others. The first edges stand by their
-- ways, and the ways are those of the others. Edges end at blocks.
pub record IsDraft
    (blocks : List Block) (edges : List Edge) (rising : ℕ) (spans : List (ℕ × ℕ)) (sorted : ℕ) (ways : BTreeSet ℕ)
    : Type 0 where
  pub few : length blocks ≤ max_blocks
  pub within : rising ≤ length blocks
  pub rise : AreApart 0 (map span_of (take rising blocks))
  pub taken : (lo hi : ℕ)
      → list_any (meets lo hi) spans ≡ list_any (λ block. meets lo hi (span_of block)) (drop rising blocks)
  pub ends : AllByRecursion (λ edge. edge.to < 65536) edges
  pub inside : sorted ≤ length edges
  pub ascend : IsNonDecreasingBy way_by (take sorted edges)
  pub joined : (way : ℕ) → contains nat_cmp ways way ≡ list_any (λ edge. nat_eq way (way_by edge)) (drop sorted edges)
