use Rattle.std.proofs.Common.{Option, sym, subst}
use Rattle.byte_view.specs.Cursor.{Cursor}
use Rattle.dwarf_info.specs.Tails.{IsBehind}
use Rattle.dwarf_info.proofs.tables.Tables.within.Goals as goal

pub returns-in-Some : goal.returns-in-Some
returns-in-Some c =
    subst (λ (s : Option Cursor). IsBehind s c.in-Some.within c.args.at) c.self.view_is (c.self.invariant.1.each c.args.at c.in-Some.within (sym c.in-Some.ensures))
