use Rattle.std.proofs.Common.{◌≡◌, rules, to_z, of_z, w64}
use Rattle.dwarf_forms.specs.Meaning.{code_of}
use Rattle.dwarf_forms.proofs.ReadLemmas.{found_from_exact}
use Rattle.dwarf_forms.proofs.read.read_kind.Goals as goal

pub returns-clause-found : goal.returns-clause-found
returns-clause-found c =
    let is : to_z w64 (of_z w64 c.args.implicit) ≡ c.args.implicit = search rules in
    found_from_exact (code_of c.args.kind) c.args.implicit c.args.shape.wide c.args.cur.now c.read_form.new.cur c.read_form.result
    (rw is at c.read_form.ensures.exact) c.read_form.ensures.end
