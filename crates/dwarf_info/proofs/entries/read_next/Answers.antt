use Rattle.std.proofs.Common.{sym, subst}
use Rattle.placed_view.specs.Reader.{Read}
use Rattle.unit_model.specs.Entries.{SoFar}
use Rattle.dwarf_info.specs.Entries.{all_of, ReadsSoFar}
use Rattle.dwarf_info.specs.Tails.{list_of}
use Rattle.dwarf_info.proofs.TellingLemmas.{next-known}
use Rattle.dwarf_info.proofs.entries.read_next.Goals as goal

pub returns-clause-read : goal.returns-clause-read
returns-clause-read c =
    subst (λ (r : Read SoFar). ReadsSoFar c.read_entry.result c.read_entry.new.entries c.read_entry.new.cur r)
    (sym (next-known (record { unit = c.args.of.unit; wide = c.args.of.shape.wide }) (list_of c.args.table.now) (record { depth = c.args.depth; entries = all_of c.args.entries.now }) c.args.cur.now c.uleb.new.cur
    c.in_ok-code.code c.at-at.result c.in-Some.abbrev c.in_ok-code.ensures.read c.if-code-eq0.false c.at-at.ensures.place c.in-Some.ensures))
    c.read_entry.ensures.read
