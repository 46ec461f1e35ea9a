-- The definitions on worked values.
use Rattle.std.proofs.Common.{◌≡◌, ℕ, ◌+◌, false, List, [], ◌∷◌, refl}
use Rattle.std.specs.Prelude.{codes}
use Rattle.std.specs.Fmt.{digits}
use Rattle.block_model.specs.declared.parts.Block.{Block}
use Rattle.block_model.specs.Function.{Function, unbounded}
use Rattle.key_types.specs.declared.key.Key.{Key}
use Rattle.key_types.specs.declared.places.Seg.{Seg}
use Rattle.output_model.specs.Lift.{held_by}
use Rattle.profile_model.specs.Profile.{lines_of}
use Rattle.profile_model.specs.Spelled.{profile_by}
use Rattle.profile_model.specs.Text.{profile_text, text_of_lines}
use Rattle.profile_text.specs.declared.item.Item.{Item}
use Rattle.profile_text.specs.declared.item.What.{What}
use Rattle.profile_text.specs.declared.item.What.TheVariants.{Head, Count, Target}
use Rattle.repair_model.specs.Repair.{Repair, Solution, cut, flow}
use Rattle.line_lift.specs.Lift.{lifted_by}

names : List (List ℕ)
names = codes "f" ∷ codes "g" ∷ []

line : ℕ → Key
line offset = record { root = record { 0 = 0 }; calls = []; offset = offset; disc = 0 }

-- lines of `f`; the last one stands nowhere in the binary
keys : List Key
keys = line 1 ∷ line 2 ∷ line 3 ∷ line 4 ∷ line 5 ∷ line 9 ∷ []

segment : ℕ → ℕ → Seg
segment lo key = record { lo = lo; hi = lo + 4; key = record { 0 = key }; factor = 1 }

block : ℕ → ℕ → Block
block lo hi = record { lo = lo; hi = hi; exit = false; bound = unbounded }

repaired_by : Solution → Repair
repaired_by solution = record { weights = []; edge_weights = []; solution = solution; first = 0; second = 0 }

-- a key under blocks of two functions, one under two blocks, two under blocks of 0, and one under a cut
funs : List (Function × Repair)
funs = (
  record { name = codes "f"; blocks = block 16 22 ∷ block 22 24 ∷ []; edges = [] },
  repaired_by (flow (record { blocks = 5 ∷ 0 ∷ []; edges = [] }) [] []),
)
    ∷ (
      record { name = codes "h"; blocks = block 18 20 ∷ block 24 28 ∷ block 32 36 ∷ []; edges = [] },
      repaired_by (flow (record { blocks = 9 ∷ 0 ∷ 0 ∷ []; edges = [] }) [] []),
    )
    ∷ (record { name = codes "k"; blocks = block 16 36 ∷ []; edges = [] }, repaired_by (cut false [] [])) ∷ []

item : What → ℕ → Item
item what times = record { line = 1; what = what; times = times }

count : ℕ → What
count key = Count (record { 0 = key })

items : List Item
items =
    item (Head (record { 0 = 0 })) 3 ∷ item (count 0) 10 ∷ item (count 2) 7 ∷ item (Target (record { 0 = 2 }) (record { 0 = 1 })) 2 ∷ item (count 3) 6
    ∷ item (count 4) 8 ∷ item (count 5) 4 ∷ []

-- a held key with 0 has a line for its target alone; without one it vanishes
lift : profile_text (lifted_by names keys (segment 16 0 ∷ segment 20 1 ∷ segment 24 2 ∷ segment 28 3 ∷ segment 32 4 ∷ []) funs items)
    ≡ codes "f:24:3\n 1: 9\n 2: 5\n 3: 0 g:2\n 4: 6\n 9: 4\n"
unfolding lines_of text_of_lines digits held_by profile_by names line keys segment block repaired_by funs item count items
lift = refl
