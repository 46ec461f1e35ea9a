use Rattle.std.proofs.Common.{◌≡◌, ◌<◌, length, ap, ◌∙◌, arith, rules}
use Rattle.member_lists.specs.declared.frame.EntryFrame.{EntryFrame}
use Rattle.member_lists.specs.Frames.{behind_other}
use Rattle.unit_model.specs.Entries.{Entry}
use Rattle.entry_facts.specs.Told.{in_unit}
use Rattle.inline_tree.specs.Told.{source_of}
use Rattle.inline_tree.proofs.StepLemmas.{few_pieces, function-none, function-some, function-stop_origin, function-stop_pieces}
use Rattle.inline_tree.proofs.entries.next_function.Goals as goal

pub returns-in_err-pieces-clause-read : goal.returns-in_err-pieces-clause-read
returns-in_err-pieces-clause-read c = λ told is.
    function-stop_pieces (source_of c.args.source.now) (in_unit c.args.of.now) c.args.entry.now _ told c.args.all.now.members _ _ _ is c.in_err-pieces.ensures.told c.from_residual.ensures.1

pub returns-then-is_empty-clause-read : goal.returns-then-is_empty-clause-read
returns-then-is_empty-clause-read c = λ told is.
    let none : length c.in_ok-pieces.pieces.items ≡ 0 = search rules in
    function-none (source_of c.args.source.now) (in_unit c.args.of.now) c.args.entry.now _ told c.args.all.now.members _ _ _ is c.in_ok-pieces.ensures.told none
    (ap (λ (e : Entry). e.depth) c.entry.view_is)
    (c.in_ok-pass.ensures ∙ ap (λ (f : EntryFrame). behind_other c.entry.inside.depth f 0 c.args.all.now.members) c.outside.ensures)

pub returns-in_err-origin-clause-read : goal.returns-in_err-origin-clause-read
returns-in_err-origin-clause-read c = λ told is.
    let some : 0 < length c.in_ok-pieces.pieces.items = search rules in
    function-stop_origin (source_of c.args.source.now) (in_unit c.args.of.now) c.args.entry.now _ _ told c.args.all.now.members _ _ _ _ is c.in_ok-pieces.ensures.told some
    c.in_err-origin.ensures.told c.from_residual-in_err-origin.ensures.1

pub returns-clause-read : goal.returns-clause-read
returns-clause-read c = λ told is.
    let some : 0 < length c.in_ok-pieces.pieces.items = search rules in
    let count : c.len-count.result ≡ length c.in_ok-pieces.pieces.items = search rules in
    function-some (source_of c.args.source.now) (in_unit c.args.of.now) c.args.entry.now _ _ told c.args.all.now.members _ _ _ _ _ _ is c.in_ok-pieces.ensures.told some
    c.in_ok-origin.ensures.told c.in_ok-origin.ensures.names (ap (λ (e : Entry). e.depth) c.entry.view_is) c.function_of-function.ensures count
    c.in_ok-add_function.ensures

pub returns-clause-few : goal.returns-clause-few
returns-clause-few c =
    let few = few_pieces (source_of c.args.source.now).file (in_unit c.args.of.now) c.args.all.now.members.pieces c.args.entry.now _ c.in_ok-pieces.ensures.told in
    let count : c.len-count.result ≡ length c.in_ok-pieces.pieces.items = search rules in
    let now = ap (λ s. s.pieces) c.in_ok-add_function.ensures in
    omega arith
