use Rattle.std.proofs.Common.{◌≡◌, length, refl, ap, arith}
use Rattle.entry_facts.specs.Lists.{LongLists}
use Rattle.entry_facts.proofs.ListLemmas.{tail_kept}
use Rattle.entry_facts.proofs.lists.Lists.keep_mark.Goals as goal

pub overflow_add-tail : goal.overflow_add-tail
overflow_add-tail c =
    let end : c.len-to.result ≡ length c.args.self.now.live =
    omega (arith, c.self.inside.live.ok.0, c.len-to.ensures, ap (λ (l : LongLists). length l.live) c.self.view_is) in
    omega arith

pub returns-clause-known : goal.returns-clause-known
returns-clause-known c = λ file sections marked known.
    let end : c.len-to.result ≡ length c.args.self.now.live =
    omega (arith, c.self.inside.live.ok.0, c.len-to.ensures, ap (λ (l : LongLists). length l.live) c.self.view_is) in
    tail_kept file sections c.args.self.now c.keep_tail.new.self c.args.pairs c.args.entries c.args.from c.args.of.now.bases c.args.mark.now _
    c.keep_tail.ensures refl refl refl refl end c.requires.within marked known
