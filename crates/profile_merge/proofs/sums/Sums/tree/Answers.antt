-- The sums are numbers of a profile, each once.
use Rattle.std.proofs.Common.{◌∙◌, length, ap, subst, sym}
use Rattle.std.proofs.lemmas.Result.{IfOk-weaker}
use Rattle.cold_model.proofs.ColdLemmas.{none_besides}
use Rattle.profile_model.specs.Profile.{lines_of}
use Rattle.profile_tree.specs.Numbers.{numbers_said}
use Rattle.profile_tree.specs.Said.{said}
use Rattle.profile_merge.proofs.TreeLemmas.{said_is, sums_summed}
use Rattle.profile_merge.specs.Sums.{AreSumsOf}
use Rattle.profile_merge.specs.Told.{sums_told}
use Rattle.profile_merge.proofs.sums.Sums.tree.Goals as goal

pub each_once-requires-clause-calls_once : goal.each_once-requires-clause-calls_once
each_once-requires-clause-calls_once c =
    (sums_summed (length c.args.names.now) c.args.keys.now (record { heads = c.self.inside.heads; counts = c.self.inside.counts; called = c.self.inside.called })
    c.in_ok-calls.calls.items c.in_ok-heads.heads.items c.requires.key_names (subst (AreSumsOf (length c.args.names.now) (length c.args.keys.now)) (sym c.self.view_is) c.requires.given)
    c.in_ok-calls.ensures c.in_ok-heads.ensures).calls_once

pub each_once-requires-clause-heads_once : goal.each_once-requires-clause-heads_once
each_once-requires-clause-heads_once c =
    (sums_summed (length c.args.names.now) c.args.keys.now (record { heads = c.self.inside.heads; counts = c.self.inside.counts; called = c.self.inside.called })
    c.in_ok-calls.calls.items c.in_ok-heads.heads.items c.requires.key_names (subst (AreSumsOf (length c.args.names.now) (length c.args.keys.now)) (sym c.self.view_is) c.requires.given)
    c.in_ok-calls.ensures c.in_ok-heads.ensures).heads_once

pub tree_of-requires-clause-numbers : goal.tree_of-requires-clause-numbers
tree_of-requires-clause-numbers c = record {
  len = ap length c.each_once.ensures.counts ∙ c.in_ok-counts.ensures.len ∙ c.len.ensures;
  given = (sums_summed (length c.args.names.now) c.args.keys.now (record { heads = c.self.inside.heads; counts = c.self.inside.counts; called = c.self.inside.called })
      c.each_once.result.calls c.each_once.result.heads c.requires.key_names (subst (AreSumsOf (length c.args.names.now) (length c.args.keys.now)) (sym c.self.view_is) c.requires.given)
      (c.each_once.ensures.calls ∙ c.in_ok-calls.ensures) (c.each_once.ensures.heads ∙ c.in_ok-heads.ensures)).given;
}

pub returns-clause-lines : goal.returns-clause-lines
returns-clause-lines c =
    let names = c.args.names.now in
    let keys = c.args.keys.now in
    let made = c.each_once.ensures in
    IfOk-weaker c.tree_of.result _ _
    (λ tree is. is ∙ none_besides (numbers_said names keys c.each_once.result)
    ∙ ap lines_of
    ((λ i. said names keys (made.counts i) ((made.calls ∙ c.in_ok-calls.ensures) i) ((made.heads ∙ c.in_ok-heads.ensures) i))
    ∙ said_is names keys (record { heads = c.self.inside.heads; counts = c.self.inside.counts; called = c.self.inside.called }) c.in_ok-counts.counts.items c.in_ok-counts.ensures.reads
    ∙ ap (sums_told names keys) c.self.view_is)) c.tree_of.ensures.lines
