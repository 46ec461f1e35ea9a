use Rattle.std.proofs.Common.{◌≡◌, Some, ap, sym, ◌∙◌, arith, map}
use Rattle.std.proofs.lemmas.List.{length-map}
use Rattle.std.specs.Option.{option_map}
use Rattle.profile_model.specs.Profile.{function_line, body_line, call_line}
use Rattle.profile_model.specs.Reading.{line_of}
use Rattle.profile_text.specs.Said.{meaning_of, pair_of}
use Rattle.profile_text.proofs.LineLemmas.{taken}
use Rattle.profile_text.proofs.RoomLemmas.{line_fits}
use Rattle.profile_text.proofs.reading.take_line.Goals as goal

pub add_body-requires-clause-deep : goal.add_body-requires-clause-deep
add_body-requires-clause-deep c =
    (line_fits c.args.line.bytes.now (body_line c.in-Body.depth c.in-Body.location.offset c.in-Body.location.disc c.in-Body.count (map pair_of c.in-Body.targets.items))
    (sym c.in_ok-said.ensures ∙ ap (option_map meaning_of) c.in-Some.is ∙ ap (λ said. Some (meaning_of said)) c.in-Body.is)).1

pub add_body-requires-clause-names : goal.add_body-requires-clause-names
add_body-requires-clause-names c =
    let fits = (line_fits c.args.line.bytes.now (body_line c.in-Body.depth c.in-Body.location.offset c.in-Body.location.disc c.in-Body.count (map pair_of c.in-Body.targets.items))
    (sym c.in_ok-said.ensures ∙ ap (option_map meaning_of) c.in-Some.is ∙ ap (λ said. Some (meaning_of said)) c.in-Body.is)).0 in
    rw c.deref.ensures.value (omega (arith, fits, length-map c.in-Body.targets.items pair_of, c.requires.names))

pub add_call-requires-clause-deep : goal.add_call-requires-clause-deep
add_call-requires-clause-deep c =
    (line_fits c.args.line.bytes.now (call_line c.in-Call.depth c.in-Call.location.offset c.in-Call.location.disc c.in-Call.callee.name.now c.in-Call.callee.times)
    (sym c.in_ok-said.ensures ∙ ap (option_map meaning_of) c.in-Some.is ∙ ap (λ said. Some (meaning_of said)) c.in-Call.is)).1

pub returns-in-Function : goal.returns-in-Function
returns-in-Function c =
    let is : line_of c.args.line.bytes.now ≡ Some (function_line c.in-Function.name.now c.in-Function.field-1 c.in-Function.head) =
    sym c.in_ok-said.ensures ∙ ap (option_map meaning_of) c.in-Some.is ∙ ap (λ said. Some (meaning_of said)) c.in-Function.is in
    taken c.args.names.now c.add_function.new.names c.args.keys.now c.args.keys.now c.args.draft.now c.add_function.new.self c.args.line c.add_function.result
    (function_line c.in-Function.name.now c.in-Function.field-1 c.in-Function.head) is (line_fits c.args.line.bytes.now _ is).0
    (c.add_function.ensures.read c.args.keys.now c.in-Function.field-1)

pub returns-in-Body : goal.returns-in-Body
returns-in-Body c =
    let is : line_of c.args.line.bytes.now ≡ Some (body_line c.in-Body.depth c.in-Body.location.offset c.in-Body.location.disc c.in-Body.count (map pair_of c.in-Body.targets.items)) =
    sym c.in_ok-said.ensures ∙ ap (option_map meaning_of) c.in-Some.is ∙ ap (λ said. Some (meaning_of said)) c.in-Body.is in
    let takes = rw c.deref.ensures.value at c.add_body.ensures in
    taken c.args.names.now c.add_body.new.names c.args.keys.now c.add_body.new.keys c.args.draft.now c.add_body.new.self c.args.line c.add_body.result
    (body_line c.in-Body.depth c.in-Body.location.offset c.in-Body.location.disc c.in-Body.count (map pair_of c.in-Body.targets.items)) is (line_fits c.args.line.bytes.now _ is).0
    takes

pub returns-in-Call : goal.returns-in-Call
returns-in-Call c =
    let is : line_of c.args.line.bytes.now ≡ Some (call_line c.in-Call.depth c.in-Call.location.offset c.in-Call.location.disc c.in-Call.callee.name.now c.in-Call.callee.times) =
    sym c.in_ok-said.ensures ∙ ap (option_map meaning_of) c.in-Some.is ∙ ap (λ said. Some (meaning_of said)) c.in-Call.is in
    taken c.args.names.now c.add_call.new.names c.args.keys.now c.args.keys.now c.args.draft.now c.add_call.new.self c.args.line c.add_call.result
    (call_line c.in-Call.depth c.in-Call.location.offset c.in-Call.location.disc c.in-Call.callee.name.now c.in-Call.callee.times) is (line_fits c.args.line.bytes.now _ is).0
    (c.add_call.ensures.read c.args.keys.now c.args.line.number)
