use Rattle.clause_uses.proofs.apart.shared_places_are_bad.Goals as goal

pub returns-clause-places : goal.returns-clause-places
returns-clause-places c file text n fun i j block a inside before within one other good =
    (c.good_texts_are_sound.ensures.apart file text good n fun inside).blocks_apart i j block before within a one.0 one.1 other.0 other.1

pub returns-clause-edges : goal.returns-clause-edges
returns-clause-edges c file text n fun i j edge inside before within alike good =
    (c.good_texts_are_sound.ensures.apart file text good n fun inside).edges_apart i j edge before within alike.0 alike.1
