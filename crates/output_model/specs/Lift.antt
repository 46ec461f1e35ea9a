-- A profile in which repaired counts stand on the lines.
use Rattle.std.specs.Prelude.{ℕ, ◌-◌, Bool, not, List, [], ◌++◌, map, filter, Option}
use Rattle.std.specs.List.{filter_map, flat_map, list_any, range_with_len, zip}
use Rattle.block_model.specs.declared.parts.Block.{Block}
use Rattle.block_model.specs.Function.{Function}
use Rattle.block_model.specs.Text.{functions_of}
use Rattle.profile_model.specs.Orders.{ordered, way_cmp}
use Rattle.profile_model.specs.Profile.{Profile}
use Rattle.profile_model.specs.Spelled.{spelled}
use Rattle.profile_model.specs.Text.{profile_text}
use Rattle.profile_model.specs.Ways.{Way, same_way}
use Rattle.repair_model.specs.Repair.{Repair, Solution, flow, cut}
use Rattle.repair_model.specs.Text.{repairs_of}
use Rattle.output_model.specs.Program.{program_of, way_at}
use Rattle.output_model.specs.Sampled.{largest}

-- The blocks of a function with their repaired counts; none where there is a cut.
abbrev pub counted_blocks : Function → Solution → List (Block × ℕ)
counted_blocks fun (flow counts ins outs) = zip fun.blocks counts.blocks
counted_blocks fun (cut root ins outs) = []

-- The addresses of a block.
abbrev pub addresses_of : Block → List ℕ
addresses_of block = range_with_len block.lo (block.hi - block.lo)

-- The ways of a block's addresses, each with the count of the block.
abbrev pub ways_in : (ℕ → Option Way) → Block × ℕ → List (Way × ℕ)
ways_in way (block, count) = map (λ it. (it, count)) (filter_map way (addresses_of block))

-- The ways that the blocks of some functions hold, with their counts.
unfoldable pub held_by : (ℕ → Option Way) → List (Function × Repair) → List (Way × ℕ)
held_by way repaired =
    flat_map (λ it. flat_map (ways_in way) (counted_blocks it.0 it.1.solution)) repaired

-- Whether a way is held.
abbrev pub is_held : List (Way × ℕ) → Way → Bool
is_held held way = list_any (λ it. same_way way it.0) held

-- The largest count with which a way is held.
abbrev pub held_count : List (Way × ℕ) → Way → ℕ
held_count held way = largest (map (λ it. it.1) (filter (λ it. same_way way it.0) held))

-- The ways that are held, each once.
abbrev pub held_ways : List (Way × ℕ) → List Way
held_ways held = ordered (way_cmp (λ name. 0)) (map (λ it. it.0) held)

-- A profile in which each way that is held has the largest of its repaired counts. All other numbers stay.
abbrev pub lifted : List (Way × ℕ) → Profile → Profile
lifted held p = record p {
  counts = map (λ way. (way, held_count held way)) (held_ways held) ++ filter (λ it. not (is_held held it.0)) p.counts;
}

-- The repairs that a text tells of functions, each with its function.
abbrev pub repaired_in : List Function → List ℕ → List (Function × Repair)
repaired_in funs out = zip funs (map (λ it. it.1) (repairs_of funs out))

-- What is written of a good binary, a good block text and what `build` wrote.
abbrev pub lift_output : Bool → List ℕ → List ℕ → List ℕ → List ℕ
lift_output base binary blocks out =
    profile_text
    (lifted (held_by (way_at (program_of binary base)) (repaired_in (functions_of blocks) out)) (spelled out))
