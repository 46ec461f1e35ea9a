use Rattle.std.proofs.Common.{◌≡◌, ◌++◌}
use Rattle.profile_model.specs.Text.{indent}
use Rattle.profile_text.proofs.line.push_indent.Given as goal

abbrev pub invariant-loop : goal.invariant-loop
invariant-loop l = l.out.items ≡ l.initial.out.items ++ indent l.counter
