use Rattle.std.proofs.Common.{◌≡◌, ◌++◌, ap, sym, subst, ◌∙◌, OnOk}
use Rattle.profile_lists.specs.Pairs.{with_pair, joined}
use Rattle.profile_lists.proofs.PairLemmas.{with_last}
use Rattle.profile_lists.proofs.pairs.add.Goals as goal

pub returns-in-Some : goal.returns-in-Some
returns-in-Some c =
    let e : c.pop.new.self.items ++ joined c.in-Some.last c.args.pair.now ≡ with_pair c.args.merged.now.items c.args.pair.now =
    sym (with_last c.pop.new.self.items c.in-Some.last c.args.pair.now) ∙ ap (λ xs. with_pair xs c.args.pair.now) (sym c.in-Some.ensures.items) in
    subst (λ xs. OnOk c.push_joined.result (c.push_joined.new.merged.items ≡ xs)) e c.push_joined.ensures
