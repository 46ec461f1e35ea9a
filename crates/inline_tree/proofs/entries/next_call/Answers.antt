use Rattle.std.proofs.Common.{◌≡◌, ◌<◌, length, ap, ◌∙◌, arith, rules}
use Rattle.unit_model.specs.Entries.{Entry}
use Rattle.entry_facts.specs.Told.{in_unit}
use Rattle.member_lists.specs.Frames.{frame_above}
use Rattle.inline_tree.specs.Told.{source_of}
use Rattle.inline_tree.proofs.StepLemmas.{few_pieces}
use Rattle.inline_tree.proofs.CallLemmas.{call-none, call-some, call-stop_calls, call-stop_origin, call-stop_pieces}
use Rattle.inline_tree.proofs.entries.next_call.Goals as goal

pub returns-in_err-calls-clause-read : goal.returns-in_err-calls-clause-read
returns-in_err-calls-clause-read c = λ told is.
    let frame = c.frame_above-above.ensures ∙ ap (λ (e : Entry). frame_above e.depth c.args.all.now.members.frames) c.entry.view_is in
    call-stop_calls (source_of c.args.source.now) (in_unit c.args.of.now) c.args.entry.now _ _ told c.args.all.now.members _ _ _ is frame c.in_err-calls.ensures
    c.from_residual.ensures.1

pub returns-in_err-pieces-clause-read : goal.returns-in_err-pieces-clause-read
returns-in_err-pieces-clause-read c = λ told is.
    let frame = c.frame_above-above.ensures ∙ ap (λ (e : Entry). frame_above e.depth c.args.all.now.members.frames) c.entry.view_is in
    call-stop_pieces (source_of c.args.source.now) (in_unit c.args.of.now) c.args.entry.now _ _ told c.args.all.now.members _ _ _ _ is frame c.in_ok-calls.ensures
    c.in_err-pieces.ensures.told c.from_residual-in_err-pieces.ensures.1

pub returns-then-is_empty-clause-read : goal.returns-then-is_empty-clause-read
returns-then-is_empty-clause-read c = λ told is.
    let frame = c.frame_above-above.ensures ∙ ap (λ (e : Entry). frame_above e.depth c.args.all.now.members.frames) c.entry.view_is in
    let none : length c.in_ok-pieces.pieces.items ≡ 0 = search rules in
    call-none (source_of c.args.source.now) (in_unit c.args.of.now) c.args.entry.now _ _ told c.args.all.now.members _ _ _ _ is frame c.in_ok-calls.ensures
    c.in_ok-pieces.ensures.told none (ap (λ (e : Entry). e.depth) c.entry.view_is) c.in_ok-pass.ensures

pub returns-in_err-origin-clause-read : goal.returns-in_err-origin-clause-read
returns-in_err-origin-clause-read c = λ told is.
    let frame = c.frame_above-above.ensures ∙ ap (λ (e : Entry). frame_above e.depth c.args.all.now.members.frames) c.entry.view_is in
    let some : 0 < length c.in_ok-pieces.pieces.items = search rules in
    call-stop_origin (source_of c.args.source.now) (in_unit c.args.of.now) c.args.entry.now _ _ _ told c.args.all.now.members _ _ _ _ _ is frame c.in_ok-calls.ensures
    c.in_ok-pieces.ensures.told some c.in_err-origin.ensures.told c.from_residual-in_err-origin.ensures.1

pub returns-clause-read : goal.returns-clause-read
returns-clause-read c = λ told is.
    let frame = c.frame_above-above.ensures ∙ ap (λ (e : Entry). frame_above e.depth c.args.all.now.members.frames) c.entry.view_is in
    let some : 0 < length c.in_ok-pieces.pieces.items = search rules in
    let count : c.len-count.result ≡ length c.in_ok-pieces.pieces.items = search rules in
    call-some (source_of c.args.source.now) (in_unit c.args.of.now) c.args.entry.now _ _ _ told c.args.all.now.members _ _ _ _ _ _ _ is frame c.in_ok-calls.ensures
    c.in_ok-pieces.ensures.told some c.in_ok-origin.ensures.told c.in_ok-origin.ensures.names (ap (λ (e : Entry). e.depth) c.entry.view_is)
    c.call_of-call.ensures count c.in_ok-add_call.ensures

pub returns-clause-few : goal.returns-clause-few
returns-clause-few c =
    let few = few_pieces (source_of c.args.source.now).file (in_unit c.args.of.now) c.args.all.now.members.pieces c.args.entry.now _ c.in_ok-pieces.ensures.told in
    let count : c.len-count.result ≡ length c.in_ok-pieces.pieces.items = search rules in
    let now = ap (λ s. s.pieces) c.in_ok-add_call.ensures in
    omega arith
