use Rattle.std.proofs.Common.{◌≡◌, Option, Some, None, refl, ap, ◌∙◌}
use Rattle.std.specs.Prelude.{ℤ}
use Rattle.std.specs.Result.{result_ok}
use Rattle.text_model.specs.Numbers.{signed_of}
use Rattle.text_scan.specs.Numbers.{within_signed, fits_signed}
use Rattle.text_scan.specs.declared.read.NumberFault.TheVariants.{NumberTooLarge}
use Rattle.block_model.specs.Line.{◌>>=◌}
use Rattle.cfg_text.proofs.SaidLemmas.{chosen}
use Rattle.repair_model.specs.Line.{price_of, price_within}
use Rattle.repair_text.proofs.said.price.Goals as goal

ok_within_signed : (o : Option ℤ) → result_ok (within_signed o) ≡ o >>= price_within
ok_within_signed None = refl
ok_within_signed (Some n) = chosen (fits_signed n) n NumberTooLarge

pub returns : goal.returns
unfolding price_of
returns c = c.ok.ensures.value ∙ ap result_ok c.signed.ensures ∙ ok_within_signed (signed_of c.args.field.now)
