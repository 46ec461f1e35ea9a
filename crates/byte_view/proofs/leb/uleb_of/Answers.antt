use Rattle.std.proofs.Common.{arith}
use Rattle.byte_view.proofs.LebLemmas.{uleb_at-whole, uleb_at-ten, uleb_at-too_long}
use Rattle.byte_view.proofs.leb.uleb_of.Goals as goal

pub returns-in-Whole-clause-found : goal.returns-in-Whole-clause-found
returns-in-Whole-clause-found c =
    let whole = rw c.in-Whole.is at c.in_ok-value.ensures.found in
    uleb_at-whole _ _ _ _ whole

pub returns-in-Nine-default-eq0-clause-found : goal.returns-in-Nine-default-eq0-clause-found
returns-in-Nine-default-eq0-clause-found c =
    let nine = rw c.in-Nine-default-eq0.is at c.in_ok-value.ensures.found in
    uleb_at-ten _ _ _ nine _ (omega arith) (omega arith)

pub returns-in-Nine-default-eq1-clause-found : goal.returns-in-Nine-default-eq1-clause-found
returns-in-Nine-default-eq1-clause-found c =
    let nine = rw c.in-Nine-default-eq1.is at c.in_ok-value.ensures.found in
    uleb_at-ten _ _ _ nine _ (omega arith) (omega arith)

pub returns-in-Nine-clause-refused : goal.returns-in-Nine-clause-refused
returns-in-Nine-clause-refused c =
    let nine = rw c.in-Nine.is at c.in_ok-value.ensures.found in
    uleb_at-too_long _ _ _ nine (omega arith)
