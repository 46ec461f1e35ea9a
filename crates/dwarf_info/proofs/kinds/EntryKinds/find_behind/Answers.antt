use Rattle.std.proofs.Common.{List, Some, drop, ap, sym, ◌∙◌, arith}
use Rattle.std.specs.Option.{option_map}
use Rattle.unit_model.specs.Abbrev.{Abbrev, find_code}
use Rattle.dwarf_abbrev.proofs.RowLemmas.{found-none}
use Rattle.dwarf_info.specs.Telling.{shortened}
use Rattle.dwarf_info.proofs.TellingLemmas.{kind-found}
use Rattle.dwarf_info.proofs.TailLemmas.{none-behind, before-skip, behind-skip}
use Rattle.dwarf_info.proofs.kinds.EntryKinds.find_behind.Goals as goal

pub returns-in_err-index : goal.returns-in_err-index
returns-in_err-index c =
    c.from_residual.ensures ∙ ap (option_map shortened) (sym (none-behind c.self.inside.table c.args.skip c.args.code (found-none c.self.inside.table c.args.code (sym c.in_err-index.ensures))))
    ∙ ap (λ (t : List Abbrev). option_map shortened (find_code (drop c.args.skip t) c.args.code)) c.self.view_is

pub returns-then-index-skip : goal.returns-then-index-skip
returns-then-index-skip c =
    ap (option_map shortened) (sym (before-skip c.self.inside.table c.args.skip c.args.code c.in_ok-index.index c.self.invariant.2 (sym c.in_ok-index.ensures) c.if-index-skip.true))
    ∙ ap (λ (t : List Abbrev). option_map shortened (find_code (drop c.args.skip t) c.args.code)) c.self.view_is

pub returns : goal.returns
returns c =
    ap Some c.lend.ensures
    ∙ kind-found c.self.inside.table c.self.inside.kinds.items c.args.code c.in_ok-index.index c.index.result.now c.self.invariant.0 (sym c.in_ok-index.ensures) c.index.ensures
    ∙ ap (option_map shortened) (sym (behind-skip c.self.inside.table c.args.skip c.args.code c.in_ok-index.index (sym c.in_ok-index.ensures) (omega (arith, c.if-index-skip.false))))
    ∙ ap (λ (t : List Abbrev). option_map shortened (find_code (drop c.args.skip t) c.args.code)) c.self.view_is
