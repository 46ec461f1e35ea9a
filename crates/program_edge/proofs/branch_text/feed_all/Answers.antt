use Rattle.std.proofs.Common.{refl, sym, ◌∙◌}
use Rattle.program_edge.proofs.BranchTextLemmas.{ReadSoFar-none, ReadSoFar-fed, ReadSoFar-ends, new_by}
use Rattle.program_edge.proofs.branch_text.feed_all.Goals as goal

pub loop-n-init : goal.loop-n-init
loop-n-init g c = record { done = ReadSoFar-none _ _ _ _ _ (new_by _ c.args.k c.requires.reader) c.requires.counts; store = refl; ranged = refl; opens = refl; faults = refl }

pub loop-n-preserved : goal.loop-n-preserved
loop-n-preserved g c = record {
  done = ReadSoFar-fed _ _ _ _ _ _ c.loop-n.reader c.feed.new.self c.loop-n.counts c.feed.new.counts c.feed.result c.loop-n.invariant.done c.in-Ok.ensures.bytes.0
      c.feed.ensures.judged c.feed.ensures.goes_on (sym c.in_file.ensures ∙ c.in_ok-in_file.was);
  store = c.read.ensures.store ∙ c.loop-n.invariant.store;
  opens = c.read.ensures.opens ∙ c.loop-n.invariant.opens;
  ranged = c.feed.ensures.ranged ∙ c.loop-n.invariant.ranged;
  faults = c.in-Ok.ensures.cause ∙ c.loop-n.invariant.faults;
}

pub returns-in_err-in_file-clause-text : goal.returns-in_err-in_file-clause-text
returns-in_err-in_file-clause-text g c =
    ReadSoFar-ends _ _ _ _ _ _ c.loop-n.reader c.feed.new.self c.loop-n.counts c.feed.new.counts c.feed.result _ _ c.loop-n.invariant.done c.in-Ok.ensures.bytes.0
    c.feed.ensures.judged (sym c.in_file.ensures ∙ c.in_err-in_file.was) c.from_residual.ensures.1
