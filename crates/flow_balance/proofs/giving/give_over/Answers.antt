use Rattle.std.proofs.Common.{arith}
use Rattle.path_search.proofs.RowLemmas.{placed}
use Rattle.flow_balance.proofs.GiveLemmas.{given_over}
use Rattle.flow_balance.proofs.StateLemmas.{spent_one}
use Rattle.flow_balance.proofs.giving.give_over.Goals as goal

pub slice_copy_out-gathers : goal.slice_copy_out-gathers
slice_copy_out-gathers c =
    let here = placed _ _ _ c.arcs.ensures.of_a_function c.requires.state.ground _ c.requires.inside in
    let starts = here.starts in
    let told = c.requires.state.told in
    rw c.arcs.ensures.arcs (omega (arith, starts, told))

pub slice_copy_out-lacks : goal.slice_copy_out-lacks
slice_copy_out-lacks c =
    let here = placed _ _ _ c.arcs.ensures.of_a_function c.requires.state.ground _ c.requires.inside in
    let leads = here.leads in
    let told = c.requires.state.told in
    rw c.arcs.ensures.arcs (omega (arith, leads, told))

pub is_tight_along-requires-clause-cheap : goal.is_tight_along-requires-clause-cheap
is_tight_along-requires-clause-cheap c =
    rw c.arcs.ensures.arcs (placed _ _ _ c.arcs.ensures.of_a_function c.requires.state.ground _ c.requires.inside).cheap

pub is_tight_along-requires-clause-fits : goal.is_tight_along-requires-clause-fits
is_tight_along-requires-clause-fits c =
    rw c.arcs.ensures.arcs (placed _ _ _ c.arcs.ensures.of_a_function c.requires.state.ground _ c.requires.inside).fits

pub returns-clause-given : goal.returns-clause-given
returns-clause-given c =
    let tight = rw c.arcs.ensures.arcs at c.is_tight_along.ensures.0 c.if-not-is_tight_along.false in
    let has = rw c.arcs.ensures.arcs at c.move_counts.ensures in
    (given_over _ _ _ _ c.args.place _ _ _ c.requires.state c.requires.inside tight has).given

pub returns-clause-spent : goal.returns-clause-spent
returns-clause-spent c =
    let tight = rw c.arcs.ensures.arcs at c.is_tight_along.ensures.0 c.if-not-is_tight_along.false in
    let has = rw c.arcs.ensures.arcs at c.move_counts.ensures in
    spent_one _ _ _ _ c.spend_one.ensures (given_over _ _ _ _ c.args.place _ _ _ c.requires.state c.requires.inside tight has).less
