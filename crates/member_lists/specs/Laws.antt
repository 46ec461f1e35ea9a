-- What follows from the definitions.
use Rattle.std.specs.Prelude.{◌≡◌}
use Rattle.tree_model.specs.Tree.{Source, members}
use Rattle.member_lists.specs.Collecting.{collected}

-- Collecting with frames gives the members that the depths of the entries say, or the same first bad place.
abbrev pub CollectedAreMembers : Type 0
CollectedAreMembers = (source : Source) → collected source ≡ members source
