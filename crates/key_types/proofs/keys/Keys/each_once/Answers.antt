use Rattle.std.proofs.Common.{List, subst}
use Rattle.key_types.specs.Numbers.{IsNumbered}
use Rattle.key_types.specs.declared.key.Key.{Key}
use Rattle.key_types.proofs.KeyLemmas.{same_key}
use Rattle.key_types.proofs.NumberLemmas.{numbered}
use Rattle.key_types.specs.contracts.key.KeyPartialEq.TheImpl as the_key
use Rattle.key_types.proofs.keys.Keys.each_once.Goals as goal

pub returns : goal.returns
returns c =
    subst (λ (keys : List Key). IsNumbered keys) c.self.view_is
    (numbered the_key.ghosts.eq same_key c.self.inside.keys.keys c.len-len.ensures.unique)
