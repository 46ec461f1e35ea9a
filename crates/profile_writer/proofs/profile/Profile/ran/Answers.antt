use Rattle.std.proofs.Common.{ap, ◌∙◌}
use Rattle.std.specs.List.{filter_map}
use Rattle.std.proofs.lemmas.Result.{IfOk-weaker}
use Rattle.profile_writer.proofs.RanLemmas.{ran_few}
use Rattle.profile_writer.specs.Items.{ran_in}
use Rattle.profile_writer.proofs.profile.Profile.ran.Goals as goal

pub returns-clause-few : goal.returns-clause-few
returns-clause-few c =
    IfOk-weaker c.ran_of.result _ _
    (λ ran is. ran_few ran.items c.self.inside.ranges.items (is ∙ ap (filter_map ran_in) c.deref.ensures.value) c.self.invariant.few_ranges) c.ran_of.ensures
