use Rattle.std.proofs.Common.{IsPermutation, map, subst}
use Rattle.std.proofs.lemmas.List.Sorted.{IsPermutation-map, IsPermutation-sym}
use Rattle.profile_tree.proofs.items.written_of.Goals as goal

pub returns : goal.returns
returns c =
    let old = c.in_ok-written.written.items in
    let new = c.sort_written.new.written.items in
    subst (IsPermutation (map (λ w. w.id) new)) c.in_ok-written.ensures
    (IsPermutation-sym (map (λ w. w.id) old) (map (λ w. w.id) new) (IsPermutation-map (λ w. w.id) old new c.in_ok-sort_written.ensures))
