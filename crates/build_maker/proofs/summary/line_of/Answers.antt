use Rattle.std.proofs.Common.{ℕ, List, map, subst, sym}
use Rattle.std.specs.List.{AllZip}
use Rattle.std.proofs.lemmas.List.{length-map}
use Rattle.std.proofs.lemmas.Result.{IfOk-weaker}
use Rattle.block_weights.specs.Counts.{count_in}
use Rattle.cfg_text.specs.Fun.{function_of}
use Rattle.key_types.specs.Segments.{key_told}
use Rattle.key_types.specs.declared.places.Seg.{Seg}
use Rattle.output_model.specs.Summary.{IsRepairCost}
use Rattle.profile_writer.specs.Profile.{IsProfileOf}
use Rattle.build_maker.proofs.SummaryLemmas.{summarized}
use Rattle.build_maker.proofs.summary.line_of.Goals as goal

pub returns : goal.returns
returns c =
    IfOk-weaker c.text_of.result _ _ (λ out spelled program sampled is.
    let names = c.args.made.now.placed.names in
    let funs = map function_of c.args.funs.now in
    let profile = c.args.made.now.profile in
    let told : IsProfileOf program sampled names c.segments-segments.result.now profile =
    subst (λ (segments : List Seg). IsProfileOf program sampled names segments profile) (sym c.segments-segments.ensures) is.profile in
    let (costs, each, cost_is, cuts_are) = c.in_ok-costs.ensures in
    summarized program sampled names c.segments-segments.result.now profile funs told
    _ _ _ _ _ (sym (length-map c.args.funs.now function_of)) is.total_is c.total.ensures costs
    (subst (λ (counts : List ℕ). AllZip (IsRepairCost (key_told c.segments-segments.result.now) (count_in counts)) funs costs) c.counts.ensures.same each)
    cost_is cuts_are out.items spelled) c.text_of.ensures
