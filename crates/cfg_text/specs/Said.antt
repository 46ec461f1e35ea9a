-- What the code has read of a line.
use Rattle.block_model.specs.Line.{Line, passed, begins, tells_block, tells_edge, ends}
use Rattle.cfg_text.specs.declared.said.BlockLine.{BlockLine}
use Rattle.cfg_text.specs.declared.said.BlockLine.TheVariants as said

-- The line that it says.
abbrev pub meaning_of : BlockLine → Line
meaning_of said.Nothing = passed
meaning_of (said.Begins name) = begins name.now
meaning_of (said.Block number block) = tells_block number block
meaning_of (said.Edge from to bound) = tells_edge from to bound
meaning_of said.Ends = ends
