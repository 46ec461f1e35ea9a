-- What it shows that `check` finds nothing.
use Rattle.std.specs.Prelude.{◌≡◌, ℕ, List, Some}
use Rattle.std.specs.List.{AllZip}
use Rattle.io_edge.specs.Inputs.{Store}
use Rattle.block_model.specs.Function.{Function}
use Rattle.block_model.specs.Text.{functions_of}
use Rattle.flow_model.specs.Network.{Counts, Network}
use Rattle.flow_model.specs.Repair.{AreLeast, ConserveWithinBounds, cost_of}
use Rattle.repair_model.specs.Checking.{network_by}
use Rattle.repair_model.specs.Repair.{Repair, Solution, flow, cut}
use Rattle.repair_model.specs.Text.{repairs_of}
use Rattle.command_model.specs.Answer.{answer_of_command, writes}
use Rattle.command_model.specs.Command.{check}

-- What a repair tells of a network: counts that conserve within bounds and cost least, with their cost; or a cut, where
-- no counts conserve within bounds.
abbrev pub TellsLeast : Network → Solution → ℕ → Type 0
TellsLeast net (flow counts ins outs) first = AreLeast net counts × (first ≡ cost_of net counts)
TellsLeast net (cut root ins outs) first = (counts : Counts) → ConserveWithinBounds net counts → ⊥

-- The same of a function, for the weights that stand in the repair. The number of its first line stands before it.
abbrev pub IsLeastOf : Function → ℕ × Repair → Type 0
IsLeastOf fun numbered = TellsLeast (network_by fun numbered.1) numbered.1.solution numbered.1.first

-- Where `check` answers that all is well, both files are there, and each function of the block text has in the repair
-- text, in order, least counts with their cost, or a cut where there are none.
abbrev pub CheckedIsLeast : Type 0
CheckedIsLeast =
    (files : Store) (cfg out : List ℕ) (contents : List (List ℕ))
    → answer_of_command files (check cfg out) ≡ writes (check cfg out) contents
    → (blocks : List ℕ) × (text : List ℕ) × (files cfg ≡ Some blocks) × (files out ≡ Some text)
    × AllZip IsLeastOf (functions_of blocks) (repairs_of (functions_of blocks) text)
