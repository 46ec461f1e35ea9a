use Rattle.std.proofs.Common.{◌≡◌, ◌∙◌}
use Rattle.profile_model.specs.Reading.{spaces_of}
use Rattle.profile_text.proofs.SaidLemmas.{spaces_found, spaces_are_within}
use Rattle.profile_text.proofs.said.spaces.Goals as goal

pub returns-clause-count : goal.returns-clause-count
returns-clause-count c = rw c.first_other.ensures at c.unwrap_or.ensures ∙ spaces_found c.args.line.now

pub returns-clause-within : goal.returns-clause-within
returns-clause-within c =
    let is : c.unwrap_or.result ≡ spaces_of c.args.line.now =
    rw c.first_other.ensures at c.unwrap_or.ensures ∙ spaces_found c.args.line.now in
    spaces_are_within c.args.line.now c.unwrap_or.result is
