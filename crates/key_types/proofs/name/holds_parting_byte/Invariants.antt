use Rattle.std.proofs.Common.{◌≡◌, take}
use Rattle.std.specs.List.{list_any}
use Rattle.profile_model.specs.Names.{parts_names}
use Rattle.key_types.proofs.name.holds_parting_byte.Given as goal

-- Whether a byte up to here parts names.
abbrev pub invariant-loop-byte : goal.invariant-loop-byte
invariant-loop-byte l = list_any parts_names (take l.byte-index l.text) ≡ l.held
