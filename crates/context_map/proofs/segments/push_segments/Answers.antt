use Rattle.std.proofs.Common.{◌≡◌, ◌∷◌, suc, ℕ, List, subst, drop, drop-cons, get_or, add-one, rules}
use Rattle.std.proofs.lemmas.List.{drop_all}
use Rattle.std.proofs.lemmas.Result.{on_ok_weaker}
use Rattle.row_table.specs.Told.{told}
use Rattle.context_map.proofs.PartLemmas.{SoFar, SoFar-none, SoFar-on, SoFar-more, SoFar-all}
use Rattle.context_map.proofs.UsedLemmas.{KeepUp-more}
use Rattle.context_map.proofs.segments.push_segments.Goals as goal

pub loop-cut-init : goal.loop-cut-init
loop-cut-init c = (c.args.span.now.lo, SoFar-none _ _ _ _ _ _ _ _ _ _ c.cuts_between-cut-items.ensures c.row_at-row.ensures)

pub loop-cut-preserved-then-eq : goal.loop-cut-preserved-then-eq
loop-cut-preserved-then-eq c =
    let cuts = c.cuts_between-cut-items.result.now in
    let i = c.loop-cut.cut-index in
    let next : drop i cuts ≡ get_or cuts i 0 ∷ drop (suc i) cuts = drop-cons cuts i 0 c.loop-cut-test.true in
    let so_far = subst (λ (left : List ℕ). SoFar (told c.args.table.now) c.args.rules.base c.args.named.now c.args.span.now.lo c.args.span.now.hi c.args.rules.most left c.loop-cut.part.lo c.loop-cut.row c.args.keys.now c.loop-cut.keys c.args.segments.now.items c.loop-cut.segments.items c.loop-cut.invariant.0) next c.loop-cut.invariant.1 in
    let equal : c.row_at-next.result ≡ c.loop-cut.row = search rules in
    rw add-one (get_or cuts i 0, SoFar-on _ _ _ _ _ _ _ _ _ _ _ _ _ _ _ _ so_far c.row_at-next.ensures equal)

pub loop-cut-preserved : goal.loop-cut-preserved
loop-cut-preserved c =
    let cuts = c.cuts_between-cut-items.result.now in
    let i = c.loop-cut.cut-index in
    let next : drop i cuts ≡ get_or cuts i 0 ∷ drop (suc i) cuts = drop-cons cuts i 0 c.loop-cut-test.true in
    let so_far = subst (λ (left : List ℕ). SoFar (told c.args.table.now) c.args.rules.base c.args.named.now c.args.span.now.lo c.args.span.now.hi c.args.rules.most left c.loop-cut.part.lo c.loop-cut.row c.args.keys.now c.loop-cut.keys c.args.segments.now.items c.loop-cut.segments.items c.loop-cut.invariant.0) next c.loop-cut.invariant.1 in
    rw add-one
    (get_or cuts i 0, SoFar-more _ _ _ _ _ _ _ _ _ _ _ _ _ _ _ _ _ _ so_far c.row_at-next.ensures c.in_ok-push_part.ensures.told c.in_ok-push_part.ensures.used c.in_ok-push_part.ensures.kept c.in_ok-push_part.ensures.most)

pub returns-clause-told : goal.returns-clause-told
returns-clause-told c =
    on_ok_weaker c.push_part-2.result
    (SoFar-all _ _ _ _ _ _ _ _ _ _ _ _ _ _ _ _ c.loop-cut.invariant.1 (drop_all _ _ c.loop-cut-test.false))
    c.push_part-2.ensures.told

pub returns-clause-used : goal.returns-clause-used
returns-clause-used c = on_ok_weaker c.push_part-2.result (KeepUp-more _ _ _ _ _ _ c.loop-cut.invariant.1.used) c.push_part-2.ensures.used
