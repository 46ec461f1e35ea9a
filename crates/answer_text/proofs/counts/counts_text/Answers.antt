use Rattle.std.proofs.Common.{◌≡◌, ◌++◌, List, ℕ, ap, ◌∙◌, take, arith}
use Rattle.std.proofs.lemmas.List.{take_all}
use Rattle.std.specs.List.{flat_map}
use Rattle.sample_model.specs.declared.pair.Pair.{Pair}
use Rattle.command_model.specs.Counts.{total_line}
use Rattle.answer_text.proofs.CountsLemmas.{row_line, rows_text}
use Rattle.answer_text.proofs.counts.counts_text.Goals as goal

pub returns : goal.returns
returns c = λ lines tells.
    let rows : List Pair = c.deref-row-items.result.now in
    let all : take c.loop-row.row-index rows ≡ c.in_ok-rows.rows.items = take_all _ _ (omega arith) ∙ c.deref-row-items.ensures.value in
    c.in_ok-push_total.ensures
    ∙ ap (λ (front : List ℕ). front ++ total_line c.total-total.result) (c.loop-row.invariant ∙ ap (flat_map row_line) all)
    ∙ rows_text _ _ _ _ tells.branches c.in_ok-rows.ensures.same c.in_ok-rows.ensures.sorted c.total-total.ensures.value
