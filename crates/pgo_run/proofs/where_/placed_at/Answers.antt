use Rattle.binary_places.proofs.ShownLemmas.{asked_of_file}
use Rattle.pgo_run.proofs.where_.placed_at.Goals as goal

pub places-requires : goal.places-requires
places-requires c = c.requires

pub returns : goal.returns
returns c = λ file base is. (
  c.ask.new.self,
  c.in_ok-placed.ensures file base is,
  asked_of_file file base c.args.binary is c.ask.new.self c.args.address c.ask.ensures.asked,
)
