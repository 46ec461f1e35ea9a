use Rattle.refusal.proofs.PlaceLemmas.{first_bad-append}
use Rattle.refusal.proofs.laws.places_come_in_order.Goals as goal

pub returns : goal.returns
returns c = first_bad-append
