-- What the code has read of a line.
use Rattle.repair_model.specs.Line.{Line, begins_flow, begins_cut, tells_count, tells_sides, tells_edge, ends_flow, ends_cut}
use Rattle.repair_text.specs.declared.said.RepairLine.{RepairLine}
use Rattle.repair_text.specs.declared.said.RepairLine.TheVariants as said

-- The line that it says.
abbrev pub meaning_of : RepairLine → Line
meaning_of (said.Flow name) = begins_flow name.now
meaning_of (said.Cut name root) = begins_cut name.now root
meaning_of (said.Count number weight count enter leave) = tells_count number weight count enter leave
meaning_of (said.Sides number weight enter leave) = tells_sides number weight enter leave
meaning_of (said.Edge from to weight count) = tells_edge from to weight count
meaning_of (said.EndOfFlow cost) = ends_flow cost
meaning_of (said.EndOfCut least most) = ends_cut least most
