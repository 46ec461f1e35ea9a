use Rattle.std.proofs.Common.{◌∙◌, sym, arith}
use Rattle.dwarf_ranges.specs.Meaning.{start_of}
use Rattle.entry_facts.specs.Told.{in_unit}
use Rattle.entry_facts.proofs.ListLemmas.{told_live, told_stop}
use Rattle.entry_facts.proofs.lists.Lists.live_ranges.Goals as goal

pub read_list-requires-clause-stands : goal.read_list-requires-clause-stands
read_list-requires-clause-stands c = let led = c.in_ok-list.ensures c.args.elf.now in led.1

pub returns-in_err-walked-clause-live : goal.returns-in_err-walked-clause-live
returns-in_err-walked-clause-live c =
    let led = c.in_ok-list.ensures c.args.elf.now in
    told_stop (λ live. live.items) c.args.elf.now (in_unit c.args.of.now) c.args.found.now (start_of c.in_ok-list.list) c.in_err-walked.field-0.0
    c.from_residual-in_err-walked.result led.0 c.in_err-walked.ensures c.from_residual-in_err-walked.ensures.1

pub returns-clause-live : goal.returns-clause-live
returns-clause-live c =
    let led = c.in_ok-list.ensures c.args.elf.now in
    let read = c.in_ok-walked.ensures in
    let few = read.few in
    told_live c.args.elf.now (in_unit c.args.of.now) c.args.found.now (start_of c.in_ok-list.list) c.shrink_to_fit.new.self.items led.0
    (read.all.good 0 (omega arith)) (read.all.live_is ∙ sym c.shrink_to_fit.ensures.items)
