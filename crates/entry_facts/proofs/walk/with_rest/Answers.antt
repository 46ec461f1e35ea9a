use Rattle.std.proofs.Common.{◌+◌, ℕ, List, sym, subst}
use Rattle.entry_facts.specs.Walk.{IsWalked}
use Rattle.entry_facts.proofs.WalkLemmas.{reading-rest}
use Rattle.entry_facts.proofs.walk.with_rest.Goals as goal

pub returns : goal.returns
returns c = λ file sections resolve pairs start first_base reading known.
    let walk = c.args.walk in
    let rest = c.args.rest in
    subst (λ (l : List (ℕ × ℕ)). IsWalked file sections resolve pairs start first_base (walk.passed + rest.entries) l walk.marks.items)
    (sym c.in_ok-append.ensures.items)
    (reading-rest file sections resolve pairs start first_base walk rest.entries rest.live.items reading known c.requires)
