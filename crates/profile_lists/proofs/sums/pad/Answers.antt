use Rattle.std.proofs.Common.{◌≡◌, ◌-◌, ◌++◌, length, replicate, ap, ◌∙◌, arith}
use Rattle.profile_lists.proofs.LoopLemmas.{pad_more}
use Rattle.profile_lists.proofs.sums.pad.Goals as goal

pub loop-preserved : goal.loop-preserved
loop-preserved c =
    (omega arith, c.in_ok-push.ensures.items ∙ pad_more c.args.sums.now.items c.loop.sums.items c.loop.counter (omega arith) c.loop.invariant.1)

pub returns : goal.returns
returns c =
    let e : c.loop.counter - length c.args.sums.now.items ≡ c.args.len - length c.args.sums.now.items = omega arith in
    c.loop.invariant.1 ∙ ap (λ n. c.args.sums.now.items ++ replicate n 0) e
