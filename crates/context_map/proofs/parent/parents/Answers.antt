use Rattle.std.proofs.Common.{◌≡◌, ◌-◌, ap, ◌∙◌, take, length, add-one}
use Rattle.std.specs.Prelude.{slice_get}
use Rattle.context_map.specs.Paths.{member_at}
use Rattle.context_map.proofs.ParentLemmas.{ParentsSoFar-more, member-is}
use Rattle.context_map.proofs.parent.parents.Goals as goal

pub loop-number-preserved : goal.loop-number-preserved
loop-number-preserved c =
    let members = c.args.members.now in
    let i = c.loop-number.number in
    let member = member-is members i c.index-members-number.result c.loop-number-test.true c.index-members-number.is in
    let cut : c.truncate.new.self.items ≡ take (member_at members i).depth c.loop-number.path.items =
    c.truncate.ensures.items ∙ ap (λ n. take n c.loop-number.path.items) (c.from.ensures ∙ ap (λ m. m.depth) member)
    in
    let parent = c.copied.ensures ∙ c.last.ensures.value ∙ ap (λ ns. slice_get ns (length ns - 1)) c.deref.ensures.value in
    rw add-one
    (ParentsSoFar-more members i c.loop-number.path.items c.truncate.new.self.items _ c.loop-number.parents.items _ c.copied.result c.loop-number.invariant c.loop-number-test.true cut
    parent c.in_ok-push-2.ensures.items c.in_ok-push.ensures.items)
