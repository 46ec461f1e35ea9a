use Rattle.std.proofs.Common.{◌≡◌, ℕ, Option, Some, None, sym, ap, ◌∙◌, arith}
use Rattle.std.specs.Option.{option_map}
use Rattle.key_types.specs.declared.key.Key.{Key}
use Rattle.row_table.specs.declared.row_data.RowData.{RowData}
use Rattle.chain_model.specs.Places.{key}
use Rattle.context_map.specs.Parts.{line_and_disc, shown}
use Rattle.context_map.proofs.PartLemmas.{Extends-none, Extends-one, shown-row, shown-no_line}
use Rattle.context_map.proofs.UsedLemmas.{KeepUp-push, KeepUp-same}
use Rattle.context_map.proofs.part.push_part.Goals as goal

pub returns-in_default-clause-told : goal.returns-in_default-clause-told
returns-in_default-clause-told c =
    let none : shown c.args.rules.base (Some c.args.named.now) (option_map line_and_disc c.args.row) ≡ None =
    ap (λ (r : Option RowData). shown c.args.rules.base (Some c.args.named.now) (option_map line_and_disc r)) c.in_default.is
    in
    Extends-none _ _ (λ _. shown c.args.rules.base (Some c.args.named.now) (option_map line_and_disc c.args.row)) _ _ (omega (arith, c.requires.full)) (λ a low high. none)

pub returns-then-row-eq0-clause-told : goal.returns-then-row-eq0-clause-told
returns-then-row-eq0-clause-told c =
    let none : shown c.args.rules.base (Some c.args.named.now) (option_map line_and_disc c.args.row) ≡ None =
    ap (λ (r : Option RowData). shown c.args.rules.base (Some c.args.named.now) (option_map line_and_disc r)) c.in-Some.is
    ∙ shown-no_line c.args.rules.base c.args.named.now c.in-Some.row c.if-row-eq0.true
    in
    Extends-none _ _ (λ _. shown c.args.rules.base (Some c.args.named.now) (option_map line_and_disc c.args.row)) _ _ (omega (arith, c.requires.full)) (λ a low high. none)

pub returns-clause-told : goal.returns-clause-told
returns-clause-told c =
    let named = c.args.named.now in
    let row = c.in-Some.row in
    let the_key : Key = key c.args.rules.base named.root named.calls.items named.start (line_and_disc row) in
    let here : shown c.args.rules.base (Some named) (option_map line_and_disc c.args.row) ≡ Some (the_key, c.factor.result) =
    ap (λ (r : Option RowData). shown c.args.rules.base (Some named) (option_map line_and_disc r)) c.in-Some.is
    ∙ shown-row c.args.rules.base named row c.if-row-eq0.false
    ∙ ap (λ (f : ℕ). Some (the_key, f)) (sym c.factor.ensures)
    in
    Extends-one _ _ _ _ _ the_key (λ _. shown c.args.rules.base (Some named) (option_map line_and_disc c.args.row)) c.requires.full c.in_ok-key.ensures.kept c.in_ok-key.ensures.number c.in_ok-push.ensures.items (λ a. here)

pub returns-in_default-clause-used : goal.returns-in_default-clause-used
returns-in_default-clause-used c = KeepUp-same _ _

pub returns-then-row-eq0-clause-used : goal.returns-then-row-eq0-clause-used
returns-then-row-eq0-clause-used c = KeepUp-same _ _

pub returns-clause-used : goal.returns-clause-used
returns-clause-used c = KeepUp-push _ _ _ _ _ c.in_ok-key.ensures.new c.in_ok-push.ensures.items
