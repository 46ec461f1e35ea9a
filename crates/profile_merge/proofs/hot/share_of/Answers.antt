use Rattle.profile_merge.proofs.HotLemmas.{is_share}
use Rattle.profile_merge.proofs.hot.share_of.Goals as goal

pub returns : goal.returns
returns c = rw (c.from-million.ensures, c.from-cutoff.ensures) (is_share c.args.total c.args.cutoff)
