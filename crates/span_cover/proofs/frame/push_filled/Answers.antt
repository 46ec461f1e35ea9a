use Rattle.span_cover.proofs.FrameLemmas.{filled}
use Rattle.span_cover.proofs.frame.push_filled.Goals as goal

pub returns-in_ok-push : goal.returns-in_ok-push
returns-in_ok-push c = filled c.args.spans.now.items c.push.new.self.items (record { lo = c.args.lo; hi = c.args.hi; owner = c.args.owner }) c.in_ok-push.ensures.items
