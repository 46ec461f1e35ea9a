use Rattle.std.proofs.Common.{Option, sym, subst, arith}
use Rattle.std.proofs.lemmas.Grind.{common_steps}
use Rattle.std.specs.Option.{option_map}
use Rattle.byte_view.specs.Cursor.{Cursor}
use Rattle.placed_view.specs.Reader.{start_of}
use Rattle.dwarf_info.specs.Tables.{IsTableAt}
use Rattle.dwarf_info.proofs.TableLemmas.{HoldsTables-more}
use Rattle.dwarf_info.proofs.tables.Tables.keep.Goals as goal

pub invariant_of-self-2 : goal.invariant_of-self-2
invariant_of-self-2 c = (
  HoldsTables-more (option_map start_of c.self.inside.section) c.self.inside.kept c.insert.new.self c.args.table.within.home c.args.table.kinds c.self.invariant.0
      (subst (λ (s : Option Cursor). IsTableAt s c.args.table.within.home c.args.table.kinds) (sym c.self.view_is) c.requires) c.in_ok-insert.ensures.updates.1
      (λ other apart. let h = c.in_ok-insert.ensures.updates.0 other in grind (arith, common_steps)),
  c.self.invariant.1,
)
