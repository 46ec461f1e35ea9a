use Rattle.std.proofs.Common.{◌≡◌, rules, to_z, of_z, w64, ◌∙◌}
use Rattle.byte_view.proofs.LebLemmas.{signed_bits}
use Rattle.byte_view.proofs.leb.signed.Goals as goal

pub returns : goal.returns
returns c =
    let is : to_z w64 (of_z w64 c.cast_signed.result) ≡ c.cast_signed.result = search rules in
    let power = c.requires.power in
    is ∙ c.cast_signed.ensures ∙ signed_bits c.args.value c.args.scale power.0 c.requires.below power.1 power.2
