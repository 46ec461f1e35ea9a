use Rattle.std.proofs.Common.{◌<◌, ◌≤◌, ◌-◌, List, length, slice_index_or, ap, arith, subst, ◌∙◌}
use Rattle.std.specs.BTreeSet.{contains}
use Rattle.std.specs.Ordering.{nat_cmp}
use Rattle.block_model.specs.declared.parts.Edge.{Edge}
use Rattle.cfg_text.specs.Draft.{way_by, way_of}
use Rattle.cfg_text.proofs.DraftLemmas.{good_edge, way_added, with_edge_is, with_sorted_is}
use Rattle.cfg_text.proofs.draft.Draft.add_edge.Goals as goal

pub way-way-requires-clause-from_fits : goal.way-way-requires-clause-from_fits
way-way-requires-clause-from_fits c =
    let none = rw (← c.self.view_is) at c.in_default.ensures in
    let good = good_edge _ c.args.from c.args.to c.args.bound none in
    omega (arith, good.from_block, c.self.invariant.few)

pub way-way-requires-clause-to_fits : goal.way-way-requires-clause-to_fits
way-way-requires-clause-to_fits c =
    let none = rw (← c.self.view_is) at c.in_default.ensures in
    let good = good_edge _ c.args.from c.args.to c.args.bound none in
    omega (arith, good.to_block, c.self.invariant.few)

pub overflow_cast-edge : goal.overflow_cast-edge
overflow_cast-edge c =
    let none = rw (← c.self.view_is) at c.in_default.ensures in
    let good = good_edge _ c.args.from c.args.to c.args.bound none in
    omega (arith, good.from_block, c.self.invariant.few)

pub overflow_cast-edge-2 : goal.overflow_cast-edge-2
overflow_cast-edge-2 c =
    let none = rw (← c.self.view_is) at c.in_default.ensures in
    let good = good_edge _ c.args.from c.args.to c.args.bound none in
    omega (arith, good.to_block, c.self.invariant.few)

pub invariant_of-self-then-all_go_by : goal.invariant_of-self-then-all_go_by
invariant_of-self-then-all_go_by c =
    let none = rw (← c.self.view_is) at c.in_default.ensures in
    let good = good_edge _ c.args.from c.args.to c.args.bound none in
    let same = c.deref.ensures.value ∙ c.in_ok-try_reserve.ensures.items in
    let last = subst (λ (edges : List Edge). (edge : Edge) → 0 < length edges → way_by (slice_index_or edges (length edges - 1) edge) ≤ c.way-way.result) same
    (c.all_go_by.ensures.before c.if-all_go_by.true) in
    rw (c.push_reserved.ensures.items, c.in_ok-try_reserve.ensures.items)
    (with_sorted_is c.self.inside.blocks.items c.self.inside.edges.items c.self.inside.rising c.self.inside.taken c.self.inside.sorted c.self.inside.ways
    (record { from = c.args.from; to = c.args.to; bound = c.args.bound }) c.self.invariant (omega (arith, good.to_block, c.self.invariant.few))
    (c.all_go_by.ensures.all c.if-all_go_by.true ∙ ap length same) (λ edge some. omega (arith, c.way-way.ensures, last edge some)))

pub invariant_of-self-2 : goal.invariant_of-self-2
invariant_of-self-2 c =
    let none = rw (← c.self.view_is) at c.in_default.ensures in
    let good = good_edge _ c.args.from c.args.to c.args.bound none in
    rw (c.push_reserved-2.ensures.items, c.in_ok-try_reserve.ensures.items)
    (with_edge_is c.self.inside.blocks.items c.self.inside.edges.items c.self.inside.rising c.self.inside.taken c.self.inside.sorted c.self.inside.ways c.insert.new.self
    (record { from = c.args.from; to = c.args.to; bound = c.args.bound }) c.self.invariant (omega (arith, good.to_block, c.self.invariant.few))
    (λ way. (rw c.way-way.ensures at c.in_ok-insert.ensures.updates.0 way) ∙ way_added (way_of c.args.from c.args.to) way (contains nat_cmp c.self.inside.ways way)))
