use Rattle.std.proofs.lemmas.Result.{IfOk-weaker}
use Rattle.binary_model.specs.Addresses.{function_of_address}
use Rattle.binary_places.proofs.ShownLemmas.{functions_told}
use Rattle.span_cover.specs.Stretches.{function_at}
use Rattle.profile_maker.proofs.AlikeLemmas.{blocks_alike, blocks_same}
use Rattle.lift_maker.proofs.maker.placed_for.Goals as goal

pub returns : goal.returns
returns c =
    IfOk-weaker c.places.result _ _ (λ placed told bytes base is.
    let marks = c.ask_blocks.new.asked in
    record {
      marks = marks;
      of_binary = told bytes base is;
      alike = blocks_alike bytes base marks placed c.args.funs.now
          (blocks_same (function_at c.args.binary.functions.stretches) (function_of_address bytes) (functions_told bytes base c.args.binary is) marks c.args.funs.now c.ask_blocks.ensures.asked);
    }) c.places.ensures
