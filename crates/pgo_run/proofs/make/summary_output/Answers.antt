use Rattle.std.proofs.Common.{ℕ, ap, sym, ◌∙◌}
use Rattle.std.specs.Global.{Vec}
use Rattle.binary_model.specs.Binary.{first_bad_of_binary}
use Rattle.sample_model.specs.Judging.{first_bad_of_text}
use Rattle.command_model.specs.Command.{make_sum, perf_file}
use Rattle.command_model.specs.Files.{first_bad_of_blocks}
use Rattle.command_model.specs.Make.{case_file}
use Rattle.pgo_run.proofs.MakeLemmas.{Sums, binary-stops, blocks-stop, made-lacks, made-summary, samples-stop, summed}
use Rattle.program_edge.proofs.ReachedLemmas.{judged-good}
use Rattle.pgo_run.proofs.make.summary_output.Goals as goal

pub returns-in_err-file : goal.returns-in_err-file
returns-in_err-file c = λ store opens faults. made-lacks (make_sum c.args.functions) store _ opens faults c.from_residual.ensures.1

pub returns-in_err-binary : goal.returns-in_err-binary
returns-in_err-binary c = λ store opens faults.
    binary-stops c.args.functions store c.deref.result.now c.binary_in.result _ c.in_err-binary.field-0.0 _ opens faults (c.deref.ensures.value ∙ c.in_ok-file.ensures)
    c.binary_in.ensures (sym c.in_file.ensures ∙ c.in_err-binary.was) c.from_residual-in_err-binary.ensures.1

pub returns-in_err-counts : goal.returns-in_err-counts
returns-in_err-counts c = λ store opens faults.
    let first = judged-good 1 (first_bad_of_binary c.deref.result.now) c.binary_in.result _ c.in_ok-binary.binary c.binary_in.ensures (sym c.in_file.ensures ∙ c.in_ok-binary.was) in
    samples-stop c.args.functions store c.samples_of.result _ c.in_err-counts.field-0.0 _ opens faults (ap first_bad_of_binary (sym (c.deref.ensures.value ∙ c.in_ok-file.ensures)) ∙ first.0)
    c.samples_of.ensures (sym c.in_file-2.ensures ∙ c.in_err-counts.was) c.from_residual-in_err-counts.ensures.1

pub returns-in_err-block_text : goal.returns-in_err-block_text
returns-in_err-block_text c = λ store opens faults. made-lacks (make_sum c.args.functions) store _ opens faults c.from_residual-in_err-block_text.ensures.1

pub summary_of-requires : goal.summary_of-requires
summary_of-requires c =
    let first = judged-good 1 (first_bad_of_binary c.deref.result.now) c.binary_in.result _ c.in_ok-binary.binary c.binary_in.ensures (sym c.in_file.ensures ∙ c.in_ok-binary.was) in
    (c.deref.result.now, first.1)

pub returns-in_err-text : goal.returns-in_err-text
returns-in_err-text c = λ store opens faults.
    let first = judged-good 1 (first_bad_of_binary c.deref.result.now) c.binary_in.result _ c.in_ok-binary.binary c.binary_in.ensures (sym c.in_file.ensures ∙ c.in_ok-binary.was) in
    let second = judged-good 2 (first_bad_of_text 2 (case_file perf_file c.args.functions)) c.samples_of.result _ c.in_ok-counts.counts c.samples_of.ensures (sym c.in_file-2.ensures ∙ c.in_ok-counts.was) in
    blocks-stop {T = Vec ℕ} c.args.functions store c.deref-2.result.now c.summary_of.result (Sums c.in_ok-binary.binary c.in_ok-counts.counts c.deref-2.result.now) c.in_err-text.field-0.0 _ opens faults
    (ap first_bad_of_binary (sym (c.deref.ensures.value ∙ c.in_ok-file.ensures)) ∙ first.0) second.0
    (c.deref-2.ensures.value ∙ c.in_ok-block_text.ensures) c.summary_of.ensures (sym c.in_file-3.ensures ∙ c.in_err-text.was) c.from_residual-in_err-text.ensures.1

pub returns : goal.returns
returns c = λ store opens faults.
    let n = c.args.functions in
    let bytes = c.deref.ensures.value ∙ c.in_ok-file.ensures in
    let blocks = c.deref-2.ensures.value ∙ c.in_ok-block_text.ensures in
    let first = judged-good 1 (first_bad_of_binary c.deref.result.now) c.binary_in.result _ c.in_ok-binary.binary c.binary_in.ensures (sym c.in_file.ensures ∙ c.in_ok-binary.was) in
    let second = judged-good 2 (first_bad_of_text 2 (case_file perf_file n)) c.samples_of.result _ c.in_ok-counts.counts c.samples_of.ensures (sym c.in_file-2.ensures ∙ c.in_ok-counts.was) in
    let third = judged-good {T = Vec ℕ} 3 (first_bad_of_blocks 3 c.deref-2.result.now) c.summary_of.result (Sums c.in_ok-binary.binary c.in_ok-counts.counts c.deref-2.result.now) c.in_ok-text.text
    c.summary_of.ensures (sym c.in_file-3.ensures ∙ c.in_ok-text.was) in
    made-summary n store c.in_ok-text.text opens faults
    (ap first_bad_of_binary (sym bytes) ∙ first.0) second.0 (ap (first_bad_of_blocks 3) (sym blocks) ∙ third.0)
    (summed n c.deref.result.now c.deref-2.result.now c.in_ok-text.text.items bytes blocks (third.1 c.deref.result.now (case_file perf_file n) first.1 second.1.0 second.1.1))
