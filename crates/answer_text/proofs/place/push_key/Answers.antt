use Rattle.std.proofs.Common.{ap, ◌∙◌, ◌++◌}
use Rattle.std.specs.List.{flat_map}
use Rattle.answer_text.specs.Calls.{call_text}
use Rattle.answer_text.proofs.PlaceLemmas.{key-text, on_ok}
use Rattle.answer_text.proofs.place.push_key.Goals as goal

pub returns : goal.returns
returns c = on_ok c.push_location.result c.push_location.ensures (λ last.
    key-text c.args.names.now c.args.key.now c.args.out.now.items c.push.new.out.items c.push_calls.new.out.items c.push_location.new.out.items
    (c.in_ok-push.ensures ∙ ap (λ bs. c.args.out.now.items ++ bs) c.name_of.ensures)
    (c.in_ok-push_calls.ensures ∙ ap (λ calls. c.push.new.out.items ++ flat_map (call_text c.args.names.now) calls) c.as_slice.ensures)
    last)
