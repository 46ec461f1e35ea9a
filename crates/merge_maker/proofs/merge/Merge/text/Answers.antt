use Rattle.std.proofs.Common.{◌∙◌, sym, ap, subst}
use Rattle.profile_model.specs.Text.{text_of_lines}
use Rattle.profile_merge.proofs.MergeLemmas.{lines_are_of_sums}
use Rattle.merge_maker.specs.Merge.{IsMergeOf, State}
use Rattle.merge_maker.proofs.MergeLemmas.{stands_alone}
use Rattle.merge_maker.proofs.merge.Merge.text.Goals as goal

pub returns : goal.returns
returns c = λ texts so_far.
    let is = subst (λ (s : State). IsMergeOf s texts) (sym c.self.view_is) so_far in
    stands_alone _ _ _ _ c.in_ok-write.ensures.appended c.new-out.ensures.items
    (ap text_of_lines (c.in_ok-tree.ensures.lines ∙ lines_are_of_sums _ _ _ _ is.numbered is.sums))
