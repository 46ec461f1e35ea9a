use Rattle.std.proofs.lemmas.Result.{IfOk-weaker}
use Rattle.span_cover.specs.Stretches.{function_at}
use Rattle.binary_model.specs.Addresses.{function_of_address}
use Rattle.binary_places.proofs.ShownLemmas.{functions_told}
use Rattle.profile_maker.proofs.AlikeLemmas.{blocks_same, rows_same}
use Rattle.profile_maker.proofs.profiled.places_of.Goals as goal

pub returns : goal.returns
returns c =
    IfOk-weaker c.places.result _ _ (λ placed is_placed file base is.
    let marks = c.in_ok-asked.asked in
    let function = function_at c.args.binary.functions.stretches in
    let same = functions_told file base c.args.binary is in
    record {
      marks = marks;
      is_placed = is_placed file base is;
      of_branches = rows_same function (function_of_address file) same marks c.args.branches.now c.in_ok-asked.ensures.branches;
      of_ranges = rows_same function (function_of_address file) same marks c.args.ranges.now c.in_ok-asked.ensures.ranges;
      in_blocks = blocks_same function (function_of_address file) same marks c.args.funs.now c.in_ok-asked.ensures.blocks;
    }) c.places.ensures
