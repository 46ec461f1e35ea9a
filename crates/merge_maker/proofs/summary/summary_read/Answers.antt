use Rattle.std.proofs.Common.{ap}
use Rattle.profile_model.specs.Summary.{summary_text}
use Rattle.merge_maker.proofs.MergeLemmas.{part_is_spelled, stands_alone}
use Rattle.merge_maker.proofs.summary.summary_read.Goals as goal

pub returns : goal.returns
returns c =
    let tells = c.in_ok-part.ensures.1 in (
      c.in_ok-part.ensures.0,
      stands_alone _ _ _ _
          (c.in_ok-summary.ensures.appended _ (record { names_once = c.each_once.ensures; keys_once = c.each_once-2.ensures; key_names = tells.named }) tells.told.given)
          c.new-out.ensures.items (ap summary_text (part_is_spelled _ _ _ _ _ _ tells)),
    )
