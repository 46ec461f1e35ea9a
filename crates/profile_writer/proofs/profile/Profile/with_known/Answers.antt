use Rattle.std.proofs.Common.{◌∙◌}
use Rattle.profile_tree.specs.Standing.{first_ways}
use Rattle.profile_writer.proofs.BranchLemmas.{rows_given}
use Rattle.profile_writer.proofs.OutputLemmas.{profile_alike}
use Rattle.profile_writer.proofs.RanLemmas.{ran_in_forward}
use Rattle.profile_writer.proofs.profile.Profile.with_known.Goals as goal

pub tree_of-requires-clause-given : goal.tree_of-requires-clause-given
tree_of-requires-clause-given g c =
    let map = c.args.places.now in
    rows_given c.requires.shown.0 c.args.names.now c.args.keys.now c.args.segments.now (g.P.Places.place_of map) (g.P.Places.function_of map) (g.P.Places.entry_name_of map) c.requires.shown.1
    c.args.samples.now.branches.now c.requires.key_names c.deref.result.now (c.deref.ensures.value ∙ c.in_ok-branches.ensures)

pub tree_of-requires-clause-forward : goal.tree_of-requires-clause-forward
tree_of-requires-clause-forward g c =
    ran_in_forward (g.P.Places.function_of c.args.places.now) c.args.samples.now.ranges.now c.deref-2.result.now (c.deref-2.ensures.value ∙ c.in_ok-ranges.ensures)

pub returns-clause-told : goal.returns-clause-told
returns-clause-told g c = λ program sampled shown rows.
    let map = c.args.places.now in
    profile_alike program sampled c.args.names.now c.args.keys.now c.args.segments.now (g.P.Places.place_of map) (g.P.Places.function_of map) (g.P.Places.entry_name_of map) shown
    c.args.samples.now.branches.now c.args.samples.now.ranges.now c.args.samples.now.units rows (first_ways c.args.names.now c.args.keys.now c.args.known)
    c.deref.result.now (c.deref.ensures.value ∙ c.in_ok-branches.ensures) c.deref-2.result.now (c.deref-2.ensures.value ∙ c.in_ok-ranges.ensures)
    c.each_once-2.ensures c.each_once.ensures c.requires.key_names
    c.in_ok-tree.tree.lines c.in_ok-tree.tree.counts c.in_ok-tree.ensures.lines c.in_ok-tree.ensures.len
    c.in_ok-tree.ensures.counts c.in_ok-tree.ensures.beyond
    c.in_ok-branches.branches.items c.in_ok-branches.ensures c.in_ok-ranges.ranges.items c.in_ok-ranges.ensures
