-- What is told of the sides of a network: the root, and where each block is entered and left.
use Rattle.std.specs.Prelude.{◌≡◌, ℕ, ◌-◌, ◌/◌, ◌%◌, ◌==◌, List, length, slice_index_or, if◌then◌else◌}
use Rattle.flow_model.specs.Network.{Network}

-- What is told of a side, by what is told of the root, of where blocks are entered, and of where they are left.
abbrev pub at_side : {A : Type 0} → A → List A → List A → ℕ → A
at_side at_root ins outs side =
    if side == 0 then at_root
    else (if side % 2 == 1 then slice_index_or ins (side / 2) at_root else slice_index_or outs (side / 2 - 1) at_root)

-- Both sides of each block are told of.
abbrev pub AreSides : {A : Type 0} → Network → List A → List A → Type 0
AreSides net ins outs = (length ins ≡ length net.blocks) × (length outs ≡ length net.blocks)
