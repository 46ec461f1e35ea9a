use Rattle.std.proofs.Common.{◌∙◌, [], subst}
use Rattle.std.proofs.lemmas.Result.{IfOk-weaker}
use Rattle.cold_model.proofs.ColdLemmas.{none_besides}
use Rattle.profile_model.specs.Profile.{lines_of}
use Rattle.profile_tree.proofs.StatedLemmas.{stated_lines}
use Rattle.profile_tree.specs.Said.{stated}
use Rattle.profile_tree.specs.Sums.{AreEach, count_stated}
use Rattle.profile_tree.proofs.counted.from_counts.Goals as goal

pub returns-clause-lines : goal.returns-clause-lines
returns-clause-lines c =
    let names = c.args.names.now in
    let keys = c.args.keys.now in
    let numbers = c.in_ok-numbers.numbers in
    let calls_are = c.in_ok-numbers.ensures.calls ∙ c.in_ok-calls.ensures.items in
    let heads_are = c.in_ok-numbers.ensures.heads ∙ c.in_ok-heads.ensures.items in
    IfOk-weaker c.tree_of.result _ _
    (λ tree is.
    is
    ∙ stated_lines names keys c.args.counts.now numbers.counts numbers.calls numbers.heads c.requires.counted
    (subst (λ n. AreEach n (count_stated c.args.counts.now) numbers.counts) c.len.ensures c.in_ok-numbers.ensures.counts) []
    ∙ none_besides (stated names keys c.args.counts.now numbers.calls numbers.heads)
    ∙ (λ i. lines_of (stated names keys c.args.counts.now (calls_are i) (heads_are i)))) c.tree_of.ensures.lines
