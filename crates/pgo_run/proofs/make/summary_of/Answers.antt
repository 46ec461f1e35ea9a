use Rattle.std.proofs.Common.{None, ap, false, map, subst, sym, ◌∙◌}
use Rattle.std.specs.List.{All}
use Rattle.text_model.specs.Lines.{lines_of}
use Rattle.cfg_text.specs.Fun.{function_of}
use Rattle.flow_model.specs.Sound.{IsSound}
use Rattle.output_model.specs.Output.{sampled_by}
use Rattle.output_model.specs.Program.{program_of}
use Rattle.output_model.specs.Summary.{IsSummary}
use Rattle.pgo_run.proofs.MakeLemmas.{sound-funs}
use Rattle.pgo_run.proofs.make.summary_of.Goals as goal

pub summarize-requires-clause-binary : goal.summarize-requires-clause-binary
summarize-requires-clause-binary c = (c.requires.0, false, c.requires.1)

pub summarize-requires-clause-sound : goal.summarize-requires-clause-sound
summarize-requires-clause-sound c =
    subst (λ fs. All (λ fun. IsSound fun.blocks fun.edges) fs) (sym c.deref.ensures.value)
    (sound-funs c.args.block_text.now c.in_ok-funs.funs.items c.in_ok-funs.ensures.0 c.in_ok-funs.ensures.1)

pub returns : goal.returns
returns c = (
  c.in_ok-funs.ensures.0,
  λ file perf is ranged tells.
      subst (λ fs. IsSummary (program_of file false) (sampled_by None file (lines_of perf)) fs c.in_ok-text.text.items)
      (ap (map function_of) c.deref.ensures.value ∙ c.in_ok-funs.ensures.1) (c.in_ok-text.ensures file false None (lines_of perf) is ranged tells),
)
