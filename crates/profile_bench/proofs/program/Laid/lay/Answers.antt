use Rattle.std.proofs.Common.{◌<◌, List, length, map, subst, sym, arith}
use Rattle.address_spans.specs.Spans.{AreBetween}
use Rattle.profile_lists.specs.Segments.{AllFit}
use Rattle.key_types.specs.Segments.{span_of}
use Rattle.key_types.specs.declared.places.Seg.{Seg}
use Rattle.profile_bench.proofs.LaidLemmas.{all_added, not_fewer, laid_more, fit_more}
use Rattle.profile_tree.specs.Known.{HasNames}
use Rattle.profile_bench.proofs.program.Laid.lay.Goals as goal

pub returns-clause-laid : goal.returns-clause-laid
returns-clause-laid c =
    let old = c.args.self.now in
    let new = c.add.new.self in
    let segments = old.segments.items in
    let s : Seg = record { lo = c.args.lo; hi = c.args.hi; key = c.in_ok-key.key; factor = 1 } in
    let few : s.factor < 4096 = omega arith in
    record {
      numbered = c.in_ok-key.ensures.numbered;
      named = all_added (HasNames (length c.args.names.now)) old.keys new c.args.key c.in_ok-key.key.0 c.in_ok-key.ensures.added c.in_ok-key.ensures.number c.in_ok-key.ensures.one_more c.requires.laid.named c.requires.named;
      fit = subst (AllFit (length new)) (sym c.in_ok-push.ensures.items)
          (fit_more (length old.keys) (length new) segments s (not_fewer old.keys new c.args.key c.in_ok-key.ensures.added) c.requires.laid.fit c.in_ok-key.ensures.given few);
      lie = subst (λ (xs : List Seg). AreBetween 0 c.args.hi (map span_of xs)) (sym c.in_ok-push.ensures.items) (laid_more 0 c.args.lo segments s c.requires.laid.lie (omega arith) c.requires.some);
    }
