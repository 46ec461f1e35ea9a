use Rattle.std.proofs.Common.{◌≡◌, ◌<◌, ◌^◌, List, [], ap, length, false, subst, sym, true, ◌∙◌}
use Rattle.std.specs.Prelude.{is_some}
use Rattle.std.specs.List.{AllByRecursion}
use Rattle.std.proofs.lemmas.List.Elements.{All-nil}
use Rattle.block_model.specs.declared.parts.Weight.{Weight}
use Rattle.block_model.specs.Limits.{bound_bits}
use Rattle.block_weights.specs.Counts.{count_in}
use Rattle.cfg_text.specs.Fun.{function_of}
use Rattle.key_types.specs.Segments.{key_told}
use Rattle.flow_model.specs.Network.{weight_of}
use Rattle.repair_model.specs.Bits.{FitsBits}
use Rattle.repair_model.specs.Text.{lines_of_repair, repair_text}
use Rattle.repair_text.specs.Repair.{AreSmall, repair_by}
use Rattle.repair_maker.specs.Told.{edges_told}
use Rattle.repair_maker.proofs.AugmentationLemmas.{few_of, on_any, took_of}
use Rattle.repair_maker.proofs.RepairLemmas.{made_of, on_both, repaired_blocks, repaired_edges}
use Rattle.repair_maker.proofs.maker.write_one.Goals as goal

pub write-requires-clause-blocks : goal.write-requires-clause-blocks
write-requires-clause-blocks c = repaired_blocks _ _ _ (function_of c.args.fun.now) _ _ c.in_ok-made.made.net _ c.in_ok-made.ensures.repaired

pub write-requires-clause-edges : goal.write-requires-clause-edges
write-requires-clause-edges c = repaired_edges _ _ _ (function_of c.args.fun.now) _ _ c.in_ok-made.made.net _ c.in_ok-made.ensures.repaired

pub write-requires-clause-weighed : goal.write-requires-clause-weighed
write-requires-clause-weighed c =
    ap (λ (ws : List Weight). length ws) c.deref.ensures.value ∙ c.in_ok-made.ensures.repaired.small.each
    ∙ repaired_blocks _ _ _ (function_of c.args.fun.now) _ _ c.in_ok-made.made.net _ c.in_ok-made.ensures.repaired

pub write-requires-clause-edges_weighed : goal.write-requires-clause-edges_weighed
write-requires-clause-edges_weighed c =
    ap (λ (ws : List Weight). length ws) c.deref-in-Some.ensures.value ∙ c.in_ok-made.ensures.repaired.edges_small.each
    ∙ repaired_edges _ _ _ (function_of c.args.fun.now) _ _ c.in_ok-made.made.net _ c.in_ok-made.ensures.repaired

pub returns-in-Some-clause-written : goal.returns-in-Some-clause-written
returns-in-Some-clause-written c =
    let made = c.in_ok-made.made in
    let is = c.in_ok-made.ensures.repaired in
    on_both c.write.result c.write.ensures.written c.write.ensures.fits (λ appended fits. (
      repair_text true (function_of c.args.fun.now) (repair_by made.net c.deref.result.now c.deref-in-Some.result.now made.solved),
      appended,
      made_of (key_told c.args.counted.now.segments) (count_in c.args.counted.now.counts) (edges_told c.args.edges) (function_of c.args.fun.now) made.weights.items made.edge_weights.items c.deref-in-Some.result.now made.net made.solved true
          (repair_text true (function_of c.args.fun.now) (repair_by made.net c.deref.result.now c.deref-in-Some.result.now made.solved))
          (ap (λ edges. is_some (edges_told edges)) c.in-Some.is) is.weighed is.edges_weighed (λ asked. c.deref-in-Some.ensures.value) is.net_is is.solves
          (subst (λ ws. AllByRecursion FitsBits (lines_of_repair true (function_of c.args.fun.now) (repair_by made.net ws c.deref-in-Some.result.now made.solved))) c.deref.ensures.value
          (fits (subst AreSmall (sym c.deref.ensures.value) is.small.small) (subst AreSmall (sym c.deref-in-Some.ensures.value) is.edges_small.small)))
          (ap (λ ws. repair_text true (function_of c.args.fun.now) (repair_by made.net ws c.deref-in-Some.result.now made.solved)) c.deref.ensures.value),
    ))

pub write-requires-in-None-clause-blocks : goal.write-requires-in-None-clause-blocks
write-requires-in-None-clause-blocks c = repaired_blocks _ _ _ (function_of c.args.fun.now) _ _ c.in_ok-made.made.net _ c.in_ok-made.ensures.repaired

pub write-requires-in-None-clause-edges : goal.write-requires-in-None-clause-edges
write-requires-in-None-clause-edges c = repaired_edges _ _ _ (function_of c.args.fun.now) _ _ c.in_ok-made.made.net _ c.in_ok-made.ensures.repaired

pub write-requires-in-None-clause-weighed : goal.write-requires-in-None-clause-weighed
write-requires-in-None-clause-weighed c =
    ap (λ (ws : List Weight). length ws) c.deref-in-None.ensures.value ∙ c.in_ok-made.ensures.repaired.small.each
    ∙ repaired_blocks _ _ _ (function_of c.args.fun.now) _ _ c.in_ok-made.made.net _ c.in_ok-made.ensures.repaired

pub returns-clause-written : goal.returns-clause-written
returns-clause-written c =
    let made = c.in_ok-made.made in
    let is = c.in_ok-made.ensures.repaired in
    let none : is_some (edges_told c.args.edges) ≡ false = ap (λ edges. is_some (edges_told edges)) c.in-None.is in
    on_both c.write-in-None.result c.write-in-None.ensures.written c.write-in-None.ensures.fits (λ appended fits. (
      repair_text false (function_of c.args.fun.now) (repair_by made.net c.deref-in-None.result.now [] made.solved),
      appended,
      made_of (key_told c.args.counted.now.segments) (count_in c.args.counted.now.counts) (edges_told c.args.edges) (function_of c.args.fun.now) made.weights.items made.edge_weights.items [] made.net made.solved false
          (repair_text false (function_of c.args.fun.now) (repair_by made.net c.deref-in-None.result.now [] made.solved))
          none is.weighed is.edges_weighed (λ asked. let both : false ≡ true = sym none ∙ asked in absurd cc) is.net_is is.solves
          (subst (λ ws. AllByRecursion FitsBits (lines_of_repair false (function_of c.args.fun.now) (repair_by made.net ws [] made.solved))) c.deref-in-None.ensures.value
          (fits (subst AreSmall (sym c.deref-in-None.ensures.value) is.small.small) (All-nil (λ (weight : Weight). weight_of weight < 2 ^ bound_bits))))
          (ap (λ ws. repair_text false (function_of c.args.fun.now) (repair_by made.net ws [] made.solved)) c.deref-in-None.ensures.value),
    ))

pub returns-in-Some-clause-counted : goal.returns-in-Some-clause-counted
returns-in-Some-clause-counted c = on_any c.write.result
    (took_of (key_told c.args.counted.now.segments) (count_in c.args.counted.now.counts) (edges_told c.args.edges) (function_of c.args.fun.now) c.in_ok-made.made.weights.items c.in_ok-made.made.edge_weights.items
    c.in_ok-made.made.net c.in_ok-made.made.solved c.args.solver.now c.repair.new.solver c.in_ok-made.ensures.repaired c.in_ok-made.ensures.counted)

pub returns-in-Some-clause-few : goal.returns-in-Some-clause-few
returns-in-Some-clause-few c = on_any c.write.result
    (few_of (key_told c.args.counted.now.segments) (count_in c.args.counted.now.counts) (edges_told c.args.edges) (function_of c.args.fun.now) c.in_ok-made.made.weights.items c.in_ok-made.made.edge_weights.items
    c.in_ok-made.made.net c.in_ok-made.made.solved c.args.solver.now c.repair.new.solver c.in_ok-made.ensures.repaired c.requires.sound c.in_ok-made.ensures.few)

pub returns-clause-counted : goal.returns-clause-counted
returns-clause-counted c = on_any c.write-in-None.result
    (took_of (key_told c.args.counted.now.segments) (count_in c.args.counted.now.counts) (edges_told c.args.edges) (function_of c.args.fun.now) c.in_ok-made.made.weights.items c.in_ok-made.made.edge_weights.items
    c.in_ok-made.made.net c.in_ok-made.made.solved c.args.solver.now c.repair.new.solver c.in_ok-made.ensures.repaired c.in_ok-made.ensures.counted)

pub returns-clause-few : goal.returns-clause-few
returns-clause-few c = on_any c.write-in-None.result
    (few_of (key_told c.args.counted.now.segments) (count_in c.args.counted.now.counts) (edges_told c.args.edges) (function_of c.args.fun.now) c.in_ok-made.made.weights.items c.in_ok-made.made.edge_weights.items
    c.in_ok-made.made.net c.in_ok-made.made.solved c.args.solver.now c.repair.new.solver c.in_ok-made.ensures.repaired c.requires.sound c.in_ok-made.ensures.few)
