-- Each form of an upper bound asks one thing.
use Rattle.std.proofs.Common.{None, Some, refl, arith}
use Rattle.std.proofs.lemmas.Bool.{ltb-false, le-ltb}
use Rattle.residual_model.specs.Bounds.{UpperBoundsAgree}

pub upper_bounds_agree : UpperBoundsAgree
upper_bounds_agree None n = record {
  not_exceeds = (λ _. tt, λ _. refl);
  below = (λ _. tt, λ _. tt);
  capped_bounded = (omega arith, tt);
  capped_largest = λ m within most. within;
  sound = λ _. tt;
}
upper_bounds_agree (Some upper) n = record {
  not_exceeds = (λ not. ltb-false upper n not, λ most. le-ltb upper n most);
  below = (λ below. omega (arith, below), λ most. omega (arith, most));
  capped_bounded = (omega arith, omega arith);
  capped_largest = λ m within most. omega (arith, within, most);
  sound = λ sound. sound.0;
}
