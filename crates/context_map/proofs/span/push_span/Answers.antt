use Rattle.std.proofs.Common.{◌≡◌, Option, Some, None, sym, ap, ◌∙◌, arith}
use Rattle.std.specs.Option.{option_map}
use Rattle.std.proofs.lemmas.Result.{on_ok_weaker}
use Rattle.row_table.specs.Told.{told}
use Rattle.context_map.specs.declared.named.NamedPath.{NamedPath}
use Rattle.context_map.specs.Parts.{line_and_disc, shown}
use Rattle.context_map.proofs.PartLemmas.{Extends-none}
use Rattle.context_map.specs.Maps.{rows_of, table_of}
use Rattle.context_map.proofs.PartsLemmas.{show-nameless, show-rowless, rowless, rows-by, Extends-same}
use Rattle.context_map.proofs.span.push_span.Goals as goal

pub returns-in_default-clause-told : goal.returns-in_default-clause-told
returns-in_default-clause-told c =
    Extends-none _ _ (λ a. shown c.args.rules.base c.args.context.now.named (rows_of c.args.rows.now c.args.context.now.unit a)) _ _ (omega (arith, c.requires.full))
    (λ a low high. show-nameless c.args.rules.base c.args.context.now.named (rows_of c.args.rows.now c.args.context.now.unit a) c.in_default.is)

pub returns-in_default-table_of-clause-told : goal.returns-in_default-table_of-clause-told
returns-in_default-table_of-clause-told c =
    let none : table_of c.args.rows.now c.args.context.now.unit ≡ None = sym c.in_default-table_of.ensures in
    Extends-none _ _ (λ a. shown c.args.rules.base c.args.context.now.named (rows_of c.args.rows.now c.args.context.now.unit a)) _ _ (omega (arith, c.requires.full))
    (λ a low high. show-rowless c.args.rules.base c.args.context.now.named c.in-Some.named (rows_of c.args.rows.now c.args.context.now.unit a) c.in-Some.is (rowless c.args.rows.now c.args.context.now.unit a none))

pub returns-clause-told : goal.returns-clause-told
returns-clause-told c =
    let base = c.args.rules.base in
    let named = c.in-Some.named in
    let table : table_of c.args.rows.now c.args.context.now.unit ≡ Some c.in-Some-table_of.table.now = sym c.in-Some-table_of.ensures in
    on_ok_weaker c.push_segments.result
    (Extends-same _ _ (λ a. shown base c.args.context.now.named (rows_of c.args.rows.now c.args.context.now.unit a)) (λ a. shown base (Some named) (option_map line_and_disc (told c.in-Some-table_of.table.now a))) _ _ _ _
    (λ a.
    ap (λ (n : Option NamedPath). shown base n (rows_of c.args.rows.now c.args.context.now.unit a)) c.in-Some.is
    ∙ ap (shown base (Some named)) (rows-by c.args.rows.now c.in-Some-table_of.table.now c.args.context.now.unit a table)))
    c.push_segments.ensures.told
