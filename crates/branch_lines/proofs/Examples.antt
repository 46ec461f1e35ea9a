-- The definitions on worked values.
use Rattle.std.proofs.Common.{◌≡◌, Some, None, refl}
use Rattle.refusal.specs.declared.kind.Kind.TheVariants.{TooManyBranches}
use Rattle.branch_lines.specs.Line.{cause_of_total}

last_branch : cause_of_total 4294967294 1 ≡ None
last_branch = refl

one_too_many : cause_of_total 4294967294 2 ≡ Some TooManyBranches
one_too_many = refl
