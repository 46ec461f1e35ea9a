use Rattle.std.proofs.Common.{◌∙◌, arith}
use Rattle.binary_places.proofs.ReadLemmas.{lacks}
use Rattle.profile_model.specs.Judging.{first_bad_of_profile}
use Rattle.profile_text.proofs.OpenLemmas.{kept_grows}
use Rattle.cold_maker.proofs.ColdLemmas.{read_behind}
use Rattle.cold_maker.proofs.maker.cold_behind.Goals as goal

pub text_of-requires-clause-known : goal.text_of-requires-clause-known
text_of-requires-clause-known c =
    let grown = kept_grows _ _ c.in_ok-part.ensures.1.keys_kept in
    let counted = c.len-known.ensures in omega (arith, counted, grown)

pub text_of-requires-clause-numbers : goal.text_of-requires-clause-numbers
text_of-requires-clause-numbers c =
    let tells = c.in_ok-part.ensures.1 in record { key_names = tells.named; given = tells.told.given; once = tells.once }

pub returns-in_err-out : goal.returns-in_err-out
returns-in_err-out c =
    lacks _ (first_bad_of_profile c.args.file c.args.text.now) c.from_residual-in_err-out.result c.from_residual-in_err-out.ensures.1

pub returns : goal.returns
returns c =
    let tells = c.in_ok-part.ensures.1 in (
      c.in_ok-part.ensures.0,
      c.in_ok-out.ensures
          ∙ read_behind _ _ c.args.text.now c.in_ok-part.part.items _ _ (record { names_once = c.each_once.ensures; keys_once = c.each_once-2.ensures; key_names = c.requires.key_names }) tells
          c.len-known.result c.len-known.ensures,
    )
