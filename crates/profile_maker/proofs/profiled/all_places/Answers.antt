use Rattle.std.proofs.Common.{subst}
use Rattle.std.proofs.lemmas.Result.{IfOk-weaker}
use Rattle.binary_places.specs.Binary.{IsPlaced}
use Rattle.profile_maker.proofs.profiled.all_places.Goals as goal

pub returns : goal.returns
returns c =
    IfOk-weaker c.places.result _ _
    (λ placed is_placed file base is. subst (λ marks. IsPlaced file base marks placed) c.all-asked.ensures (is_placed file base is)) c.places.ensures
