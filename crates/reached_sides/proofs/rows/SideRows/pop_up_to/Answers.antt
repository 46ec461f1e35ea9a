use Rattle.std.proofs.Common.{arith, ◌<◌, ◌+◌, ℕ, refl, ◌∙◌}
use Rattle.std.proofs.lemmas.List.{length-set}
use Rattle.std.proofs.lemmas.List.Elements.{All-nil, All-same}
use Rattle.reached_sides.proofs.RowLemmas.{popped_row, none_nearer, no_sides, empty_kept, distances_kept}
use Rattle.reached_sides.proofs.rows.SideRows.pop_up_to.Goals as goal

pub returns-then-self-eq-ROWS-clause-beyond : goal.returns-then-self-eq-ROWS-clause-beyond
returns-then-self-eq-ROWS-clause-beyond c =
    let none = no_sides c.self.inside.here c.first_filled-self-inside.result c.self.inside.rows.items
    (omega (arith, c.self.invariant.all, c.if-self-eq-ROWS.true)) (rw (← c.deref.ensures.value) c.first_filled-self-inside.ensures.empty) in
    All-same (λ (other : ℕ × ℕ). c.args.limit < other.0) _ _ none (All-nil (λ (other : ℕ × ℕ). c.args.limit < other.0))

pub returns-then-self-eq-ROWS-clause-none : goal.returns-then-self-eq-ROWS-clause-none
returns-then-self-eq-ROWS-clause-none c = λ most.
    no_sides c.self.inside.here c.first_filled-self-inside.result c.self.inside.rows.items
    (omega (arith, c.self.invariant.all, c.if-self-eq-ROWS.true)) (rw (← c.deref.ensures.value) c.first_filled-self-inside.ensures.empty)

pub returns-then-limit-distance-clause-beyond : goal.returns-then-limit-distance-clause-beyond
returns-then-limit-distance-clause-beyond c =
    let farther = none_nearer (c.args.limit + 1) c.self.inside.here c.first_filled-self-inside.result c.self.inside.rows.items
    (omega (arith, c.if-limit-distance.true)) (rw (← c.deref.ensures.value) c.first_filled-self-inside.ensures.empty) in
    (λ k d within. omega (arith, farther k d within))

pub invariant_of-self-2 : goal.invariant_of-self-2
invariant_of-self-2 c =
    let old = c.self.invariant in
    let first = c.first_filled-self-inside in
    let rows = c.self.inside.rows.items in
    let read = c.deref.ensures.value in
    let row = first.result in
    let filled = rw read at (first.ensures.filled (omega (arith, first.ensures.low, c.if-self-eq-ROWS.false))) in
    record {
      all = length-set rows row c.take_first.new.self ∙ old.all;
      low = first.ensures.low;
      empty = empty_kept row row row rows _ (omega arith) (omega arith) (rw (← read) first.ensures.empty);
      fit = distances_kept c.self.inside.here row rows _ (old.fit row filled) old.fit;
    }

pub returns-clause-taken : goal.returns-clause-taken
returns-clause-taken c =
    let first = c.first_filled-self-inside in
    let rows = c.self.inside.rows.items in
    rw (← c.self.view_is)
    (popped_row c.self.inside.here _ first.result c.in_ok-side.side rows c.index_mut.result.now c.take_first.new.self
    (omega (arith, c.self.invariant.all, first.ensures.low, c.if-self-eq-ROWS.false)) refl c.index_mut.ensures.value c.in_ok-side.ensures.taken)

pub returns-clause-nearest : goal.returns-clause-nearest
returns-clause-nearest c =
    let first = c.first_filled-self-inside in
    let row = first.result in
    none_nearer _ c.self.inside.here row _ (omega arith)
    (empty_kept row row row c.self.inside.rows.items _ (omega arith) (omega arith)
    (rw (← c.deref.ensures.value) first.ensures.empty))
