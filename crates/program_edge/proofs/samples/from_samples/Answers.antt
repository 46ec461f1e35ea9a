use Rattle.std.proofs.Common.{refl, sym, ◌∙◌}
use Rattle.command_words.specs.Words.{told_options}
use Rattle.output_model.specs.Output.{sampled_by}
use Rattle.output_model.specs.Program.{program_of}
use Rattle.program_edge.proofs.ReachedLemmas.{where-told}
use Rattle.program_edge.proofs.SamplesLemmas.{counted, written_by}
use Rattle.program_edge.proofs.SizedLemmas.{sized-binary}
use Rattle.program_edge.proofs.WalkLemmas.{all, bad, good, lacks, start-at, stops, unread}
use Rattle.program_edge.proofs.samples.from_samples.Goals as goal

pub returns-in_err-file-clause-carried : goal.returns-in_err-file-clause-carried
returns-in_err-file-clause-carried g c =
    let asks = g.met.C.FromSamples.asks (told_options c.args.options) c.args.binary.now c.args.perf.now in
    unread (start-at _ asks) c.in_err-file.ensures.read sized-binary refl c.from_residual.ensures.1

pub returns-in_err-binary-clause-carried : goal.returns-in_err-binary-clause-carried
returns-in_err-binary-clause-carried g c =
    let asks = g.met.C.FromSamples.asks (told_options c.args.options) c.args.binary.now c.args.perf.now in
    bad c.read.result _ (start-at _ asks) c.in_ok-file.ensures.read c.in_ok-file.ensures.within c.deref.ensures.value sized-binary c.read.ensures (sym c.in_file.ensures ∙ c.in_err-binary.was) refl
    c.from_residual-in_err-binary.ensures.1

pub returns-in_err-counts-clause-carried : goal.returns-in_err-counts-clause-carried
returns-in_err-counts-clause-carried g c =
    let asks = g.met.C.FromSamples.asks (told_options c.args.options) c.args.binary.now c.args.perf.now in
    let first = good c.read.result _ (start-at _ asks) c.in_ok-file.ensures.read c.in_ok-file.ensures.within c.read_file.ensures.store c.deref.ensures.value sized-binary c.read.ensures (sym c.in_file.ensures ∙ c.in_ok-binary.was) in
    stops first.0 c.in_err-counts.ensures.read (λ file ends. ends) refl c.from_residual-in_err-counts.ensures.1

pub make-requires : goal.make-requires
make-requires g c =
    let asks = g.met.C.FromSamples.asks (told_options c.args.options) c.args.binary.now c.args.perf.now in
    let first = good c.read.result _ (start-at _ asks) c.in_ok-file.ensures.read c.in_ok-file.ensures.within c.read_file.ensures.store c.deref.ensures.value sized-binary c.read.ensures (sym c.in_file.ensures ∙ c.in_ok-binary.was) in
    (c.deref.result.now, c.args.options.base, first.1)

pub returns-in_err-text-clause-carried : goal.returns-in_err-text-clause-carried
returns-in_err-text-clause-carried g c =
    let asks = g.met.C.FromSamples.asks (told_options c.args.options) c.args.binary.now c.args.perf.now in
    let first = good c.read.result _ (start-at _ asks) c.in_ok-file.ensures.read c.in_ok-file.ensures.within c.read_file.ensures.store c.deref.ensures.value sized-binary c.read.ensures (sym c.in_file.ensures ∙ c.in_ok-binary.was) in
    let second = counted first.0 c.in_ok-counts.ensures.read c.sampled.ensures.store in
    lacks second.1 c.from_residual-in_err-text.ensures.1

pub returns-clause-carried : goal.returns-clause-carried
returns-clause-carried g c =
    let options = told_options c.args.options in
    let asks = g.met.C.FromSamples.asks options c.args.binary.now c.args.perf.now in
    let first = good c.read.result _ (start-at _ asks) c.in_ok-file.ensures.read c.in_ok-file.ensures.within c.read_file.ensures.store c.deref.ensures.value sized-binary c.read.ensures (sym c.in_file.ensures ∙ c.in_ok-binary.was) in
    let second = counted first.0 c.in_ok-counts.ensures.read c.sampled.ensures.store in
    all second.1 (g.met.C.FromSamples.passes options c.args.binary.now c.args.perf.now _)
    (where-told _ second.2 (λ files tells. g.met.C.FromSamples.writes options c.args.binary.now c.args.perf.now c.deref.result.now second.0 c.in_ok-text.text.items
    (written_by (λ file base loading lines. g.C.FromSamples.text (program_of file base) (sampled_by loading file lines)) c.deref.result.now c.args.options.base c.in_ok-binary.binary
    c.args.options.map c.deref-2.result.now c.in_ok-counts.counts second.0 c.in_ok-text.text.items first.1 c.deref-2.ensures.value c.in_ok-text.ensures c.in_ok-counts.ensures.ranged tells)))
