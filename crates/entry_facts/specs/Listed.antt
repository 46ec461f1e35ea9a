-- Attributes on a way whose entries were found by the offsets at which they begin.
use Rattle.std.specs.Prelude.{◌≡◌, IfSome, Some}
use Rattle.std.specs.Option.{option_to_list}
use Rattle.unit_model.specs.Units.{Units}
use Rattle.tree_model.specs.Way.{entry_beginning_at}
use Rattle.tree_model.specs.Origin.{first_on}
use Rattle.entry_facts.specs.Meaning.{held_of}
use Rattle.entry_facts.specs.declared.findings.Held.{Held}
use Rattle.entry_facts.specs.declared.findings.Findings.{Findings}

-- Where an attribute says in which entry it stands, it is the first of its name there.
abbrev pub IsListed : Units → Held → Type 0
IsListed units held =
    IfSome held.stands_in
    (λ at. first_on held.name (option_to_list (entry_beginning_at units.entries at)) ≡ Some (held_of held))

-- So are the attributes that may name an entry.
pub record AreListed (units : Units) (findings : Findings) : Type 0 where
  pub linkage : IfSome findings.linkage (IsListed units)
  pub mips_linkage : IfSome findings.mips_linkage (IsListed units)
  pub name : IfSome findings.name (IsListed units)
