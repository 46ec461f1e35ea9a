use Rattle.std.proofs.Common.{◌≡◌, ◌++◌, ℕ, List, map, subst}
use Rattle.std.specs.Prelude.{IfOk, OnOk}
use Rattle.block_weights.specs.Counts.{count_in}
use Rattle.cfg_text.specs.Fun.{function_of}
use Rattle.key_types.specs.declared.places.Seg.{Seg}
use Rattle.key_types.specs.Segments.{key_told}
use Rattle.output_model.specs.Scaled.{AreAllAugmentations}
use Rattle.repair_model.specs.Made.{AreRepairsOf}
use Rattle.repair_maker.specs.Told.{edges_told}
use Rattle.repair_maker.proofs.maker.write.Goals as goal

pub returns-clause-written : goal.returns-clause-written
returns-clause-written c =
    let is = c.in_ok-counted.ensures in
    subst (λ (counts : List ℕ). OnOk c.write_all.result ((text : List ℕ) × (c.write_all.new.out.items ≡ c.args.out.now.items ++ text)
    × AreRepairsOf (key_told c.args.segments.now) (count_in counts) (edges_told c.args.edges) (map function_of c.args.funs.now) text)) is.counts
    (subst (λ (segments : List Seg). OnOk c.write_all.result ((text : List ℕ) × (c.write_all.new.out.items ≡ c.args.out.now.items ++ text)
    × AreRepairsOf (key_told segments) (count_in c.in_ok-counted.counted.counts) (edges_told c.args.edges) (map function_of c.args.funs.now) text)) is.segments
    c.write_all.ensures.written)

pub returns-clause-counted : goal.returns-clause-counted
returns-clause-counted c =
    let is = c.in_ok-counted.ensures in
    subst (λ (counts : List ℕ). IfOk c.write_all.result (λ augmentations. AreAllAugmentations (key_told c.args.segments.now) (count_in counts) (edges_told c.args.edges) (map function_of c.args.funs.now) augmentations)) is.counts
    (subst (λ (segments : List Seg). IfOk c.write_all.result (λ augmentations. AreAllAugmentations (key_told segments) (count_in c.in_ok-counted.counted.counts) (edges_told c.args.edges) (map function_of c.args.funs.now) augmentations)) is.segments
    c.write_all.ensures.counted)
