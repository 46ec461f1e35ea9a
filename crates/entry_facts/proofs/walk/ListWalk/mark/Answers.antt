use Rattle.std.proofs.Common.{◌≡◌, length, refl, sym, arith}
use Rattle.entry_facts.proofs.WalkLemmas.{reading-marked}
use Rattle.entry_facts.proofs.walk.ListWalk.mark.Goals as goal

pub returns-clause-reading : goal.returns-clause-reading
returns-clause-reading c = λ file sections resolve pairs start first_base reading.
    let walk = c.args.self.now in
    let found : length walk.live.items ≡ c.len.result = omega (arith, walk.live.ok.0, c.len.ensures) in
    reading-marked file sections resolve pairs start first_base walk _ c.push.new.self reading c.in_ok-push.ensures.items
    (sym c.at.ensures.place) refl refl found
