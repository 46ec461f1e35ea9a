use Rattle.std.proofs.Common.{◌≡◌, length, refl, rules, arith}
use Rattle.unit_model.specs.Table.{abbrev_of}
use Rattle.dwarf_abbrev.proofs.RowLemmas.{AddsAbbrev-row}
use Rattle.dwarf_abbrev.proofs.rows.AbbrevRows.read_abbrev.Goals as goal

pub returns-clause-read : goal.returns-clause-read
unfolding abbrev_of
returns-clause-read c =
    let first : c.len-first.result ≡ length c.args.self.now.attrs.items = omega (arith, c.args.self.now.attrs.ok.0, c.len-first.ensures) in
    let end : c.len-end.result ≡ length c.read_attrs.new.attrs.items = omega (arith, c.read_attrs.new.attrs.ok.0, c.len-end.ensures) in (
      record { code = c.args.code; tag = c.in_ok-tag.tag; children = c.in_ok-children.children; attrs = c.in_ok-read_attrs.ensures.read.0 },
      AddsAbbrev-row c.args.self.now _ c.add.new.self _ _ c.requires.whole refl refl c.in_ok-read_attrs.ensures.read.1 first end c.in_ok-add.ensures,
      search rules,
    )
