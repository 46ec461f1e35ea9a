-- The entries that are sorted.
use Rattle.profile_lists.specs.Ranks.{Weighed}
use Rattle.profile_lists.specs.declared.ranks.WeighedName.{WeighedName}

-- What an entry tells.
abbrev pub told : WeighedName → Weighed
told entry = (entry.weight, entry.name.now, entry.id)
