use Rattle.std.proofs.Common.{◌≡◌, [], ap, sym, ◌∙◌, map, get_or, slice_get}
use Rattle.std.specs.Option.{unwrap_or}
use Rattle.profile_lists.specs.Ranks.{entry_of}
use Rattle.profile_lists.specs.Told.{told}
use Rattle.profile_lists.specs.declared.ranks.WeighedName.{WeighedName}
use Rattle.profile_lists.proofs.RankLemmas.{one_more_entry}
use Rattle.profile_lists.proofs.ranks.entries_of.Goals as goal

pub loop-i-preserved : goal.loop-i-preserved
loop-i-preserved c =
    let names = c.args.names.now in
    let weights = c.args.weights.now in
    let i = c.loop-i.i in
    let e : WeighedName = record { weight = get_or weights i 0; name = c.get.result; id = i } in
    let name : c.get.result.now ≡ unwrap_or (slice_get names i) [] = sym (ap (λ o. unwrap_or o []) c.get.ensures) in
    let is : told e ≡ entry_of names weights i = λ m. (get_or weights i 0, name m, i) in
    ap (map told) c.in_ok-push.ensures.items ∙ one_more_entry names weights i c.loop-i.entries.items e c.loop-i.invariant is
