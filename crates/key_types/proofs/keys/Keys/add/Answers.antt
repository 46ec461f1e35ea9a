use Rattle.std.proofs.Common.{◌≡◌, List, Some, ap, sym, subst, ◌∙◌}
use Rattle.indexmap.specs.IndexSet.{insert_key}
use Rattle.key_types.specs.declared.key.Key.{Key}
use Rattle.key_types.specs.Numbers.{Adds}
use Rattle.key_types.proofs.KeyLemmas.{same_key}
use Rattle.key_types.proofs.NumberLemmas.{adds, numbered}
use Rattle.key_types.specs.contracts.key.KeyPartialEq.TheImpl as the_key
use Rattle.key_types.proofs.keys.Keys.add.Goals as goal

pub returns-in_err-index-clause-numbered : goal.returns-in_err-index-clause-numbered
returns-in_err-index-clause-numbered c =
    numbered the_key.ghosts.eq same_key c.insert.new.table.keys c.insert.ensures.unique

pub returns-clause-added : goal.returns-clause-added
returns-clause-added c =
    let is : c.insert.new.table.keys ≡ insert_key the_key.ghosts.eq c.args.self.now c.args.key =
    c.in_ok-index.ensures.keys ∙ ap (λ (items : List Key). insert_key the_key.ghosts.eq items c.args.key) c.self.view_is in
    subst (λ (new : List Key). Adds c.args.self.now new c.args.key) (sym is) (adds the_key.ghosts.eq same_key c.args.self.now c.args.key)

pub returns-clause-number : goal.returns-clause-number
returns-clause-number c =
    c.in_ok-index.ensures.stored.1 ∙ ap Some (sym ((same_key _ _).0 c.in_ok-index.ensures.stored.2))

pub returns-clause-numbered : goal.returns-clause-numbered
returns-clause-numbered c =
    numbered the_key.ghosts.eq same_key c.insert.new.table.keys c.insert.ensures.unique
