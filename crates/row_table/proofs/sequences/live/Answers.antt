use Rattle.std.proofs.Common.{◌≡◌, ◌∷◌, [], suc, drop, drop-cons, false, get_or, add-one, ap, ◌∙◌, ◌++◌, filter}
use Rattle.std.proofs.lemmas.List.{drop_all}
use Rattle.line_model.specs.declared.row.Row.{Row}
use Rattle.line_model.specs.Rows.{is_live_sequence}
use Rattle.row_table.proofs.SequenceLemmas.{LiveSoFar-ended, LiveSoFar-all}
use Rattle.row_table.proofs.sequences.live.Goals as goal

-- what a place past the end of a slice reads as
none : Row
none = record { address = 0; line = 0; disc = 0; ends = false }

pub loop-row-preserved : goal.loop-row-preserved
unfolding none
loop-row-preserved c =
    let rows = c.args.rows.now in
    let i = c.loop-row.row-index in
    let next : drop i rows ≡ get_or rows i none ∷ drop (suc i) rows = drop-cons rows i none c.loop-row-test.true in
    let after : c.replace-rows.new.dest.items ≡ [] = ap (λ v. v.items) c.replace-rows.ensures.after ∙ c.new.ensures.items in
    let pushed = c.in_ok-push_if_live.ensures ∙ ap (λ v. c.loop-row.sequences.items ++ filter (is_live_sequence c.args.elf.now) (record { rows = v.items; end = get_or rows i none } ∷ [])) c.replace-rows.ensures.value in
    rw (add-one, after)
    (LiveSoFar-ended _ _ _ _ _ _ _ c.loop-row.invariant next c.if-not-row.false pushed)

pub returns : goal.returns
returns c = LiveSoFar-all _ _ _ _ _ c.loop-row.invariant (drop_all _ _ c.loop-row-test.false)
