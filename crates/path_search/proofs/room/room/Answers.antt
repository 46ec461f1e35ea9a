use Rattle.path_search.proofs.room.room.Goals as goal

pub returns-in-Against-clause-greatest : goal.returns-in-Against-clause-greatest
returns-in-Against-clause-greatest c = rw c.in-Against.is c.room_against.ensures.greatest
