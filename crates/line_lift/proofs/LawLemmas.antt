-- What is lifted by numbers, seen by names.
use Rattle.std.proofs.Common.{◌≡◌, map, sym, ap, ◌∙◌}
use Rattle.std.specs.List.{zip}
use Rattle.output_model.specs.Lift.{held_by, lifted}
use Rattle.profile_tree.proofs.ListLemmas.{map_map}
use Rattle.repair_text.specs.Repair.{numbered, repair_of}
use Rattle.line_lift.specs.Laws.{LinesAreLifted}

pub lines_are_lifted : LinesAreLifted
lines_are_lifted names keys segments funs repairs items way blocks out ways functions told spelled =
    let repaired : map repair_of repairs ≡ map (λ it. it.1) (map numbered repairs) = sym (map_map (λ it. it.1) numbered repairs) in
    λ i. lifted (held_by (λ address. ways address i) (zip (functions i) ((repaired ∙ ap (map (λ it. it.1)) told) i))) (spelled i)
