use Rattle.std.proofs.Common.{◌≡◌, rules}
use Rattle.std.proofs.lemmas.List.Elements.{same_from_all_zip}
use Rattle.row_table.proofs.table.RowTable.try_clone.Goals as goal

pub invariant_of-result : goal.invariant_of-result
invariant_of-result c =
    let sequences : c.in_ok-sequences.sequences.items ≡ c.self.inside.sequences.items = search (rules, same_from_all_zip) in
    let spans : c.in_ok-spans.spans.items ≡ c.self.inside.spans.items = search (rules, same_from_all_zip) in
    let cuts : c.in_ok-cuts.cuts.items ≡ c.self.inside.cuts.items = search (rules, same_from_all_zip) in
    rw (sequences, spans, cuts) c.self.invariant

pub returns : goal.returns
returns c = search (rules, same_from_all_zip)
