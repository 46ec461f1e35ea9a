use Rattle.std.proofs.Common.{◌≡◌, ◌∷◌, length, ap, sym, ◌∙◌, arith}
use Rattle.std.specs.Vec.Iter.{into_iter_items}
use Rattle.member_lists.proofs.ListLemmas.{joined-more, joined-all}
use Rattle.member_lists.proofs.functions.FunctionMembers.into_members.Goals as goal

pub loop-list-preserved : goal.loop-list-preserved
loop-list-preserved c =
    let at = c.loop-list in
    let steps : into_iter_items at.list-iterator ≡ c.in-Some.list ∷ into_iter_items c.next.new.self = c.in-Some.ensures.steps.0 in
    let gone = c.in-Some.ensures.steps.1 in
    let short = ap length steps in
    let was = at.invariant.long in
    record {
      joined = joined-more (λ list. list.items) _ _ _ _ _ _ steps c.in_ok-append.ensures.items at.invariant.joined;
      long = omega arith;
    }

pub returns : goal.returns
returns c =
    let at = c.loop-list in
    joined-all (λ list. list.items) (into_iter_items at.list-iterator) _ c.self.inside.lists.items _ _ (sym at.invariant.long ∙ c.in-None.ensures.steps.0)
    at.invariant.joined c.into_iter-list-iterator.ensures.into_iter_gives.0 c.self.view_is
