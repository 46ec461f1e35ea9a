use Rattle.std.proofs.Common.{ap}
use Rattle.profile_model.specs.Text.{text_of_lines}
use Rattle.cold_maker.proofs.ColdLemmas.{stands_alone}
use Rattle.cold_maker.proofs.maker.text_of.Goals as goal

pub returns : goal.returns
returns c =
    stands_alone _ _ _ _ c.in_ok-write.ensures.appended c.new-out.ensures.items (ap text_of_lines c.in_ok-tree.ensures.lines)
