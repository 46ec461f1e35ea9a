-- How many augmentations are enough, by the greatest count to start from.
use Rattle.std.specs.Prelude.{ℕ, ◌+◌, ◌*◌, ◌^◌, ◌<◌, ◌≤◌, length}
use Rattle.std.specs.List.{All}
use Rattle.flow_model.specs.Network.{Network, arcs_of}
use Rattle.residual_model.specs.Residual.{starting}

-- The most binary digits of a count to start from: with so many, all counts on the way are numbers of 64 bits.
-- Why: Counts to start from have at most 44 binary digits, so 45 phases are the most. Each doubles the counts and adds
-- at most one unit an arc, of fewer than 2^19: they stay below 2^64, and prices, which are not brought back to 0
-- between phases, below 2^30. A ledger counts networks below 2^36, as `--scaled` promises.
abbrev pub most_digits : ℕ
most_digits = 36

-- Each count to start from, a weight moved into its bounds, has at most so many binary digits.
abbrev pub StartWithin : ℕ → Network → Type 0
StartWithin digits net = All (λ arc. starting arc < 2 ^ digits) (arcs_of net)

-- The size by which the augmentations of a network are bounded. A network has at most twice as many arcs.
abbrev pub size_of : Network → ℕ
size_of net = length net.blocks + length net.edges + 1

-- The most augmentations of a phase.
-- Why: A phase begins with an excess of at most one unit an arc, so it needs at most two for each block and edge; the
-- promise leaves room for another solver.
abbrev pub phase_bound : Network → ℕ
phase_bound net = 32 * size_of net

-- A ledger was told of so many augmentations more at most, and took none back.
pub record RisesWithin (most before after : ℕ) : Type 0 where
  pub later : before ≤ after
  pub few : after ≤ before + most

-- There were at most the augmentations of one phase for each binary digit of the greatest count to start from, and of
-- one phase more.
abbrev pub AreFew : Network → ℕ → ℕ → Type 0
AreFew net before after =
    (digits : ℕ) → StartWithin digits net → RisesWithin ((digits + 1) * phase_bound net) before after
