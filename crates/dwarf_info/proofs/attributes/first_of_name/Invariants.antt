use Rattle.std.proofs.Common.{◌≡◌, drop}
use Rattle.std.specs.Prelude.{◌==◌, find}
use Rattle.dwarf_info.specs.Packed.{all_found, texts_of}
use Rattle.dwarf_info.proofs.attributes.first_of_name.Given as goal

-- The attributes that are left answer as all of them do.
abbrev pub invariant-loop-packed : goal.invariant-loop-packed
invariant-loop-packed l =
    find (λ other. other.name == l.name) (all_found (texts_of l.texts) (drop l.packed-index l.all))
    ≡ find (λ other. other.name == l.name) (all_found (texts_of l.texts) l.all)
