use Rattle.std.proofs.Common.{sym, ◌∙◌}
use Rattle.entry_facts.specs.Told.{in_unit}
use Rattle.inline_tree.specs.Told.{source_of}
use Rattle.inline_tree.proofs.LoopLemmas.{EntriesSoFar-end, EntriesSoFar-more, EntriesSoFar-start, EntriesSoFar-stop, Grows-end, GrowsSoFar-more, GrowsSoFar-start}
use Rattle.inline_tree.proofs.tree.next_entries.Goals as goal

pub loop-entry-init : goal.loop-entry-init
loop-entry-init c =
    let all = c.into_iter-entry-iterator.ensures.into_iter_gives ∙ c.entries_of-entry-items.ensures in
    record {
      read = EntriesSoFar-start (source_of c.args.source.now) (in_unit c.args.of.now) _ _ _ _ (sym all);
      grown = GrowsSoFar-start _ c.args.unit.now.first c.args.source.now.units.now.entries _ _ all;
      few = c.requires.few;
      known = c.requires.known;
      lists = c.requires.lists;
    }

pub loop-entry-preserved : goal.loop-entry-preserved
loop-entry-preserved c = record {
  read = EntriesSoFar-more (source_of c.args.source.now) (in_unit c.args.of.now) _ _ _ _ _ _ _ _ _ _ c.loop-entry.invariant.read c.in-Some.ensures.steps
      c.in_ok-next_entry.ensures.read;
  grown = GrowsSoFar-more _ _ _ _ _ _ _ c.loop-entry.invariant.grown c.in-Some.ensures.steps c.in_ok-next_entry.ensures.names;
  few = c.in_ok-next_entry.ensures.few;
  known = c.in_ok-next_entry.ensures.known;
  lists = c.in_ok-next_entry.ensures.lists;
}

pub returns-in_err-next_entry-clause-read : goal.returns-in_err-next_entry-clause-read
returns-in_err-next_entry-clause-read c =
    EntriesSoFar-stop (source_of c.args.source.now) (in_unit c.args.of.now) _ _ _ _ _ _ _ _ _ _ _ _ c.loop-entry.invariant.read c.in-Some.ensures.steps
    c.in_err-next_entry.ensures.read c.from_residual.ensures.1

pub returns-in_err-next_entry-clause-names : goal.returns-in_err-next_entry-clause-names
returns-in_err-next_entry-clause-names c =
    Grows-end _ _ _ _ (GrowsSoFar-more _ _ _ _ _ _ _ c.loop-entry.invariant.grown c.in-Some.ensures.steps c.in_err-next_entry.ensures.names)

pub returns-clause-read : goal.returns-clause-read
returns-clause-read c =
    EntriesSoFar-end (source_of c.args.source.now) (in_unit c.args.of.now) _ _ _ _ _ _ c.loop-entry.invariant.read c.in-None.ensures.steps.0

pub returns-clause-names : goal.returns-clause-names
returns-clause-names c = Grows-end _ _ _ _ c.loop-entry.invariant.grown
