use Rattle.profile_text.proofs.PathLemmas.{closed}
use Rattle.profile_text.proofs.path.Path.close.Goals as goal

pub returns : goal.returns
returns c =
    rw (c.truncate.ensures.items, ← c.self.view_is)
    (closed c.self.inside.begun c.self.inside.root c.self.inside.frames.items c.args.depth c.requires)
