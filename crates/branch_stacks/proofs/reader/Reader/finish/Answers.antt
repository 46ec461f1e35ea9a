use Rattle.std.proofs.Common.{Option, ap, ◌∙◌}
use Rattle.refusal.specs.declared.place.Stop.{Stop}
use Rattle.branch_stacks.specs.Reader.{Reading}
use Rattle.branch_stacks.proofs.FeedLemmas.{Finishes-kept}
use Rattle.branch_stacks.proofs.reader.Reader.finish.Goals as goal

pub returns-clause-judged : goal.returns-clause-judged
returns-clause-judged c =
    let new = c.end_text-result.new.self in
    Finishes-kept _ new _ _ _ _ (ap (λ (r : Reading). record r { stop = c.err-self-inside.result }) c.self-2.view_is ∙ ap (λ (s : Option Stop). record new { stop = s }) c.err-self-inside.ensures.value)
    c.end_text-result.ensures.judged
