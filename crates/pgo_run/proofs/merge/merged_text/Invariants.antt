use Rattle.std.specs.Slice.Iter.{iter_mut_rest}
use Rattle.std.proofs.Common.{◌+◌, length, ◌≡◌, map}
use Rattle.command_words.specs.Words.{told_weighed}
use Rattle.pgo_run.proofs.MergeLemmas.{Merging}
use Rattle.pgo_run.proofs.merge.merged_text.Given as goal

abbrev pub invariant-loop-part : goal.invariant-loop-part
invariant-loop-part g l = record {
  number : l.k ≡ l.part-index;
  free : length (iter_mut_rest l.free) + l.part-index ≡ 8;
  done : Merging (map told_weighed l.parts) (g.I.Inputs.store l.initial.inputs) l.part-index (g.I.Inputs.opens l.initial.inputs) (g.I.Inputs.opens l.inputs) l.merge;
  store : g.I.Inputs.store l.inputs ≡ g.I.Inputs.store l.initial.inputs;
  faults : g.I.Inputs.faults l.inputs ≡ g.I.Inputs.faults l.initial.inputs;
}
