use Rattle.std.proofs.Common.{◌≡◌, Ok, Err, ap}
use Rattle.dwarf_ranges.specs.Meaning.{start_of}
use Rattle.range_model.specs.Lists.{list_of}
use Rattle.unit_model.specs.Values.{Found}
use Rattle.entry_facts.specs.Told.{in_unit}
use Rattle.entry_facts.proofs.ListLemmas.{list_stands, told_none}
use Rattle.entry_facts.proofs.lists.list_at.Goals as goal

pub returns-in-Ok : goal.returns-in-Ok
returns-in-Ok c = λ file.
    let of = in_unit c.args.of.now in
    let found = c.args.found.now in
    let value = ap (λ (f : Found). f.value) c.found.view_is in
    let is : list_of of.version of.sections of.bases found.value ≡ Ok (start_of c.in-Ok.list) = cc (value, c.in-Ok.ensures) in
    (is, list_stands of.version of.sections of.bases found.value (start_of c.in-Ok.list) is)

pub returns-in-Err : goal.returns-in-Err
returns-in-Err c = λ file.
    let of = in_unit c.args.of.now in
    let found = c.args.found.now in
    let value = ap (λ (f : Found). f.value) c.found.view_is in
    let at = ap (λ (f : Found). f.at) c.found.view_is in
    let is : list_of of.version of.sections of.bases found.value ≡ Err c.in-Err.kind = cc (value, c.in-Err.ensures) in
    let told = told_none file of found c.in-Err.kind is in
    cc (told, at, c.in_binary.ensures)
