use Rattle.std.proofs.Common.{[]}
use Rattle.profile_maker.proofs.NameLemmas.{keys_have_names}
use Rattle.profile_model.specs.Judging.{first_bad_of_profile}
use Rattle.cold_maker.proofs.ColdLemmas.{judges_same, output_is}
use Rattle.cold_maker.proofs.maker.cold_of.Goals as goal

pub cold_behind-requires-clause-key_names : goal.cold_behind-requires-clause-key_names
cold_behind-requires-clause-key_names c =
    let is = c.requires.placed in keys_have_names is.0 is.1 [] c.args.placed is.2

pub returns : goal.returns
returns c = λ bytes base is.
    judges_same (first_bad_of_profile c.args.file c.args.text.now) c.cold_behind.result _ _ (output_is bytes base c.args.placed is c.args.text.now) c.cold_behind.ensures
