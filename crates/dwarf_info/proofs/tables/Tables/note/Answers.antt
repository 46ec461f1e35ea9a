use Rattle.std.proofs.Common.{Option, sym, subst, arith}
use Rattle.std.proofs.lemmas.Grind.{common_steps}
use Rattle.std.specs.Option.{option_map}
use Rattle.byte_view.specs.Cursor.{Cursor}
use Rattle.placed_view.specs.Reader.{start_of}
use Rattle.dwarf_info.specs.Tails.{IsBehind}
use Rattle.dwarf_info.proofs.TailLemmas.{HoldsTails-more}
use Rattle.dwarf_info.proofs.tables.Tables.note.Goals as goal

pub invariant_of-self-2 : goal.invariant_of-self-2
invariant_of-self-2 c = (
  c.self.invariant.0,
  HoldsTails-more (option_map start_of c.self.inside.section) c.self.inside.tails c.insert.new.self c.args.at c.args.within c.self.invariant.1
      (subst (λ (s : Option Cursor). IsBehind s c.args.within c.args.at) (sym c.self.view_is) c.requires) c.in_ok-insert.ensures.updates.1
      (λ other apart. let h = c.in_ok-insert.ensures.updates.0 other in grind (arith, common_steps)),
)
