use Rattle.std.proofs.Common.{◌<◌, List, Option, length, ap, arith, subst, sym, ◌∙◌}
use Rattle.std.specs.Option.{option_map}
use Rattle.placed_view.specs.Reader.{start_of}
use Rattle.line_model.specs.Rows.{Sequence}
use Rattle.binary_places.specs.Shared.{HasTable, IsTable}
use Rattle.binary_places.proofs.SharedLemmas.{AreKnown-more, AreKnown-none, has_table, is_unit}
use Rattle.binary_places.proofs.TableLemmas.{TablesSoFar-more, TablesSoFar-start, TablesSoFar-stop}
use Rattle.binary_places.proofs.tables.read_tables.Goals as goal

pub loop-index-init : goal.loop-index-init
loop-index-init c = (
  TablesSoFar-start c.args.elf.now (option_map start_of c.args.line) c.args.units.now c.new-tables.result.items c.new-tables.ensures.items,
  AreKnown-none c.args.elf.now (option_map start_of c.args.line) c.new-tables.result.items c.new-known.result c.new-known.ensures.empty,
)

pub returns-in_err-rows : goal.returns-in_err-rows
returns-in_err-rows c =
    let section = option_map start_of c.args.line in
    let units = ap length c.units-index-end.ensures.units in
    let within : c.loop-index.index < length c.args.units.now.units = omega (arith, units, c.loop-index-test.true) in
    TablesSoFar-stop c.args.elf.now section c.args.units.now c.loop-index.index c.loop-index.before c.loop-index.tables.items c.loop-index.known
    c.program_of-program.result c.in_err-rows.field-0.0 _ c.from_residual.result c.loop-index.invariant.0 within
    (c.program_of-program.ensures section c.loop-index.before) c.in_err-rows.ensures c.from_residual.ensures.1

pub table_of-requires : goal.table_of-requires
table_of-requires c =
    subst (λ (ts : List (Option (List Sequence))). HasTable (length ts) c.in_ok-rows.rows) (sym c.deref.ensures.value)
    (has_table c.args.elf.now (option_map start_of c.args.line) c.loop-index.tables.items c.loop-index.known c.loop-index.invariant.1 c.loop-index.before
    c.program_of-program.result c.in_ok-rows.rows c.in_ok-rows.ensures)

pub loop-index-preserved : goal.loop-index-preserved
loop-index-preserved c =
    let section = option_map start_of c.args.line in
    let units = ap length c.units-index-end.ensures.units in
    let within : c.loop-index.index < length c.args.units.now.units = omega (arith, units, c.loop-index-test.true) in
    let table : IsTable c.args.elf.now c.loop-index.tables.items c.in_ok-rows.rows c.in_ok-table.table =
    subst (λ (ts : List (Option (List Sequence))). IsTable c.args.elf.now ts c.in_ok-rows.rows c.in_ok-table.table) c.deref.ensures.value c.in_ok-table.ensures in
    let unit = is_unit c.args.elf.now section c.loop-index.tables.items c.loop-index.known c.loop-index.invariant.1 c.loop-index.before
    c.program_of-program.result c.in_ok-rows.rows c.in_ok-table.table c.in_ok-rows.ensures table in
    rw (c.in_ok-push.ensures, c.count-before.ensures) (
      TablesSoFar-more c.args.elf.now section c.args.units.now c.loop-index.index c.loop-index.before _ c.loop-index.tables.items unit.all c.in_ok-table.table
          c.loop-index.invariant.0 within (c.program_of-program.ensures section c.loop-index.before ∙ unit.told) unit.table_is unit.count_is,
      AreKnown-more c.args.elf.now section c.loop-index.tables.items c.loop-index.known c.loop-index.invariant.1 c.loop-index.before
          c.loop-index.index c.loop-index.invariant.0.long c.in_ok-table.table _ c.program_of-program.result c.in_ok-rows.rows
          c.in_ok-rows.ensures table c.in_ok-keep.ensures,
    )
