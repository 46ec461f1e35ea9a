use Rattle.std.proofs.Common.{◌<◌, ◌≡◌, ◌+◌, length, map, refl, ◌∙◌, arith}
use Rattle.std.specs.Slice.Iter.{iter_mut_rest}
use Rattle.std.proofs.lemmas.List.{length-map}
use Rattle.command_model.specs.Files.{weighed_texts}
use Rattle.command_words.specs.Words.{told_weighed}
use Rattle.pgo_run.proofs.MergeLemmas.{Merging-all, Merging-lacks, Merging-more, Merging-room, Merging-start, Merging-stop, one-is-left, one-less, told_at}
use Rattle.pgo_run.proofs.merge.merged_text.Goals as goal

pub loop-part-init : goal.loop-part-init
loop-part-init g c = record {
  number = refl;
  free = omega (arith, c.iter_mut-free.ensures.len, c.told-buffers);
  done = Merging-start (map told_weighed c.args.parts.now) _ _ _ c.requires.none;
  store = refl;
  faults = refl;
}

pub unwrap-buffer-requires : goal.unwrap-buffer-requires
unwrap-buffer-requires g c = one-is-left _ _ _ _ c.next.ensures.steps (omega (arith, c.loop-part.invariant.free, c.loop-part-test.true, c.requires.few))

pub add_file-requires : goal.add_file-requires
add_file-requires g c =
    let long = length-map c.args.parts.now told_weighed in
    Merging-room (map told_weighed c.args.parts.now) _ c.loop-part.part-index _ _ _ c.loop-part.invariant.done
    (omega (arith, long, c.loop-part-test.true)) (omega (arith, long, c.requires.few))

pub returns-in_err-add_file-clause-carried : goal.returns-in_err-add_file-clause-carried
returns-in_err-add_file-clause-carried g c =
    let parts = map told_weighed c.args.parts.now in
    let so_far = c.loop-part.invariant.done in
    let number : c.loop-part.k + 1 ≡ c.loop-part.part-index + 1 = omega (arith, c.loop-part.invariant.number) in
    Merging-stop parts _ _ c.loop-part.part-index (c.loop-part.k + 1) (told_weighed c.part-item.result) c.in_err-add_file.field-0.0 _ _ _ _ _ _ _ _ so_far
    (told_at c.args.parts.now c.loop-part.part-index c.part-item.result c.loop-part-test.true c.part-item.is) c.loop-part.invariant.store number
    (c.in_err-add_file.ensures.file (weighed_texts parts so_far.before) so_far.summed) c.in_err-add_file.ensures.opens
    c.in_err-add_file.ensures.cause c.loop-part.invariant.faults c.from_residual.ensures.1

pub loop-part-preserved : goal.loop-part-preserved
loop-part-preserved g c =
    let parts = map told_weighed c.args.parts.now in
    let so_far = c.loop-part.invariant.done in
    let number : c.loop-part.k + 1 ≡ c.loop-part.part-index + 1 = omega (arith, c.loop-part.invariant.number) in
    record {
      number = number;
      free =
          let here : 0 < length (iter_mut_rest c.loop-part.free) = omega (arith, c.loop-part.invariant.free, c.loop-part-test.true, c.requires.few) in
          let less = one-less _ _ _ _ c.next.ensures.steps here in
          omega (arith, c.loop-part.invariant.free, less);
      done =
          Merging-more parts _ _ c.loop-part.part-index (c.loop-part.k + 1) (told_weighed c.part-item.result) _ _ _ _ _ so_far
          (told_at c.args.parts.now c.loop-part.part-index c.part-item.result c.loop-part-test.true c.part-item.is) c.loop-part.invariant.store number
          (c.in_ok-add_file.ensures.file (weighed_texts parts so_far.before) so_far.summed) c.in_ok-add_file.ensures.opens;
      store = c.in_ok-add_file.ensures.store ∙ c.loop-part.invariant.store;
      faults = c.in_ok-add_file.ensures.cause.0 ∙ c.loop-part.invariant.faults;
    }

pub returns-in_err-text-clause-carried : goal.returns-in_err-text-clause-carried
returns-in_err-text-clause-carried g c =
    Merging-lacks (map told_weighed c.args.parts.now) _ c.loop-part.part-index _ _ _ _ _ _ c.loop-part.invariant.done c.loop-part.invariant.faults
    c.from_residual-in_err-text.ensures.1

pub returns-clause-carried : goal.returns-clause-carried
returns-clause-carried g c =
    let parts = map told_weighed c.args.parts.now in
    let so_far = c.loop-part.invariant.done in
    let long = length-map c.args.parts.now told_weighed in
    Merging-all parts _ c.loop-part.part-index c.in_ok-text.text _ _ _ _ _ so_far (omega (arith, long, c.loop-part-test.false))
    (c.in_ok-text.ensures (weighed_texts parts so_far.before) so_far.summed) c.loop-part.invariant.faults
