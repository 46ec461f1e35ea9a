use Rattle.std.proofs.Common.{◌∙◌, ap, sym}
use Rattle.cold_model.specs.Cold.{lines_with, standing_lines_of}
use Rattle.profile_tree.specs.Numbers.{numbers_said}
use Rattle.profile_tree.specs.Said.{said, ways_said}
use Rattle.profile_tree.specs.Standing.{first_ways}
use Rattle.profile_writer.proofs.tree.tree_of.Goals as goal

pub standing_keys-requires-clause-numbers : goal.standing_keys-requires-clause-numbers
standing_keys-requires-clause-numbers g c = record {
  len = c.in_ok-numbers.ensures.len ∙ c.len.ensures;
  given = rw (c.in_ok-numbers.ensures.calls, c.in_ok-numbers.ensures.heads) c.requires.given;
}

pub tree_of-requires-clause-numbers : goal.tree_of-requires-clause-numbers
tree_of-requires-clause-numbers g c = record {
  len = c.in_ok-numbers.ensures.len ∙ c.len.ensures;
  given = rw (c.in_ok-numbers.ensures.calls, c.in_ok-numbers.ensures.heads) c.requires.given;
}

pub returns-clause-lines : goal.returns-clause-lines
returns-clause-lines g c =
    let names = c.args.names.now in
    let keys = c.args.keys.now in
    let numbers = c.in_ok-numbers.numbers in
    c.in_ok-tree.ensures.lines
    ∙ ap (λ ids. lines_with (ways_said names keys ids) (numbers_said names keys numbers)) c.deref.ensures.value
    ∙ ap (λ ways. lines_with ways (numbers_said names keys numbers)) c.in_ok-besides.ensures.ways
    ∙ (λ i. standing_lines_of (first_ways names keys c.args.known)
    (said names keys (sym c.in_ok-tree.ensures.counts i) (c.in_ok-numbers.ensures.calls i) (c.in_ok-numbers.ensures.heads i)))
