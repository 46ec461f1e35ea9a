use Rattle.std.proofs.Common.{◌≡◌, rules, to_z, of_z, w64}
use Rattle.dwarf_forms.proofs.read.read_value.Goals as goal

pub returns-in-Some-clause-found : goal.returns-in-Some-clause-found
returns-in-Some-clause-found c =
    let is : to_z w64 (of_z w64 c.args.implicit) ≡ c.args.implicit = search rules in
    let code_is = c.in-Some.ensures in
    rw (is, code_is) at c.read_kind.ensures.found
