use Rattle.std.proofs.Common.{Option, ap, ◌∙◌}
use Rattle.refusal.specs.declared.place.Stop.{Stop}
use Rattle.branch_stacks.specs.Reader.{Reading}
use Rattle.branch_stacks.proofs.FeedLemmas.{Feeds-kept}
use Rattle.branch_stacks.proofs.reader.Reader.feed.Goals as goal

pub returns-clause-judged : goal.returns-clause-judged
returns-clause-judged c =
    let new = c.read-result.new.self in
    Feeds-kept _ new _ _ _ _ _ (ap (λ (r : Reading). record r { stop = c.err-self-inside.result }) c.self-2.view_is ∙ ap (λ (s : Option Stop). record new { stop = s }) c.err-self-inside.ensures.value)
    c.read-result.ensures.judged
