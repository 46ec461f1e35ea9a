use Rattle.std.proofs.Common.{◌≡◌, Ok, length, ◌-◌, refl, subst, arith}
use Rattle.unit_model.specs.Abbrev.{Abbrev}
use Rattle.unit_model.specs.Entries.{entry_of}
use Rattle.dwarf_info.specs.Entries.{all_of, ReadsSoFar}
use Rattle.dwarf_info.proofs.EntryLemmas.{entry-read, entry-full, entry-stop}
use Rattle.dwarf_info.proofs.entries.read_entry.Goals as goal

pub returns-in_err-refuse_if-2-clause-read : goal.returns-in_err-refuse_if-2-clause-read
returns-in_err-refuse_if-2-clause-read c =
    let count : c.len-is_full.result ≡ length c.args.entries.now.rows.items = omega (arith, c.len-is_full.ensures, c.args.entries.now.rows.ok.0) in
    entry-full (record { unit = c.args.of.unit; wide = c.args.of.shape.wide }) c.args.at c.args.abbrev.now c.args.entries.now c.args.entries.now c.args.depth c.len-is_full.result
    c.args.cur.now c.args.cur.now _ _ _ c.from_residual-in_err-refuse_if-2.result c.in_ok-refuse_if.ensures.0 c.in_binary-2.ensures c.in_err-refuse_if-2.ensures count c.from_residual-in_err-refuse_if-2.ensures.1

pub returns-in_err-read_values-clause-read : goal.returns-in_err-read_values-clause-read
returns-in_err-read_values-clause-read c =
    let count : c.len-is_full.result ≡ length c.args.entries.now.rows.items = omega (arith, c.len-is_full.ensures, c.args.entries.now.rows.ok.0) in
    subst (λ (k : Abbrev). ReadsSoFar c.from_residual-in_err-read_values.result (record { rows = c.args.entries.now.rows; found = c.read_values.new.found }) c.read_values.new.cur
    (entry_of (record { unit = c.args.of.unit; wide = c.args.of.shape.wide }) c.args.at k (record { depth = c.args.depth; entries = all_of c.args.entries.now }) c.args.cur.now)) c.abbrev.view_is
    (entry-stop (record { unit = c.args.of.unit; wide = c.args.of.shape.wide }) c.args.at
    (record { code = c.abbrev.inside.code; tag = c.abbrev.inside.tag; children = c.abbrev.inside.children; attrs = c.abbrev.inside.attrs.now })
    c.args.entries.now (record { rows = c.args.entries.now.rows; found = c.read_values.new.found }) c.args.entries.now.found c.read_values.new.found c.args.depth c.len-is_full.result
    c.args.cur.now c.read_values.new.cur c.read_values.new.cur _ _ c.in_err-read_values.field-0.0 c.from_residual-in_err-read_values.result c.in_ok-refuse_if.ensures.0 c.in_ok-refuse_if-2.ensures.0 count
    c.in_err-read_values.ensures.read c.from_residual-in_err-read_values.ensures.1)

pub returns-clause-read : goal.returns-clause-read
returns-clause-read c =
    let count : c.len-is_full.result ≡ length c.args.entries.now.rows.items = omega (arith, c.len-is_full.ensures, c.args.entries.now.rows.ok.0) in
    let first : c.len-first.result ≡ length c.args.entries.now.found = c.len-first.ensures in
    let own : c.saturating_sub-count.result ≡ length c.read_values.new.found - c.len-first.result = omega (arith, c.saturating_sub-count.ensures, c.len.ensures) in
    let read = entry-read (record { unit = c.args.of.unit; wide = c.args.of.shape.wide }) c.args.at
    (record { code = c.abbrev.inside.code; tag = c.abbrev.inside.tag; children = c.abbrev.inside.children; attrs = c.abbrev.inside.attrs.now })
    c.args.entries.now (record { rows = c.push.new.rows; found = c.read_values.new.found }) c.args.depth c.depth_behind.result c.len-is_full.result c.len-first.result c.saturating_sub-count.result _
    c.args.cur.now c.read_values.new.cur _ c.read_values.new.found _ _ c.requires c.in_ok-refuse_if.ensures.0 c.in_ok-refuse_if-2.ensures.0 count
    c.in_ok-read_values.ensures.read.2 c.in_ok-read_values.ensures.read.1 refl c.in_ok-push.ensures c.in_ok-row.ensures first own c.depth_behind.ensures in (
      read.0,
      subst (λ (k : Abbrev). entry_of (record { unit = c.args.of.unit; wide = c.args.of.shape.wide }) c.args.at k (record { depth = c.args.depth; entries = all_of c.args.entries.now }) c.args.cur.now
          ≡ Ok ((record { depth = c.depth_behind.result; entries = all_of (record { rows = c.push.new.rows; found = c.read_values.new.found }) }), c.read_values.new.cur)) c.abbrev.view_is read.1,
    )
