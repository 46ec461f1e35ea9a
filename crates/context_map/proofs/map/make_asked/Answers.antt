use Rattle.std.proofs.Common.{◌∙◌, sym}
use Rattle.context_map.proofs.MapLemmas.{tells, no-segment, wanted-asked}
use Rattle.context_map.proofs.map.make_asked.Goals as goal

pub returns-clause-map : goal.returns-clause-map
returns-clause-map c =
    let members = c.args.members.now in
    let are = c.in_ok-parts.ensures.parts in
    let function = c.requires.functions.function in
    record {
      place = λ a asked. tells _ _ _ members _ _ _ a _ are asked (sym (function a));
      function = function;
      entry = c.requires.functions.entry;
      ascend = are.ascend;
      given = are.given;
      tell = λ a asked. are.tell a ∙ wanted-asked _ _ _ members a asked;
      nothing = λ a unasked. no-segment _ _ _ members _ _ _ a are unasked;
    }
