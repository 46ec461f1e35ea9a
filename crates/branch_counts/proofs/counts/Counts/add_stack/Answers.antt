use Rattle.std.proofs.Common.{◌≡◌, ap, sym, ◌∙◌, arith}
use Rattle.branch_counts.specs.Tally.{Tally, counted}
use Rattle.branch_counts.proofs.TableLemmas.{IsCounted-stack}
use Rattle.branch_counts.proofs.counts.Counts.add_stack.Goals as goal

pub invariant_of-self-2 : goal.invariant_of-self-2
invariant_of-self-2 c = (
  IsCounted-stack _ _ _ _ _ _ _ _ c.self.invariant.0 c.reserve.ensures.rows c.add_pairs.ensures.added
      c.reserve-2.ensures.rows (c.ranged-ranged.ensures ∙ ap (λ (t : Tally). counted t.with_ranges c.args.entries.now) (sym c.self.view_is)) c.add_ranges.ensures (omega arith),
  λ none. let none_before : c.self.inside.total ≡ 0 = omega arith in omega (arith, c.self.invariant.1 none_before, c.reserve.ensures.kept, c.add_pairs.ensures.room),
)
