use Rattle.std.proofs.Common.{List, [], subst, sym}
use Rattle.std.proofs.lemmas.Result.{IfOk-weaker}
use Rattle.profile_lists.specs.Segments.{AllFit}
use Rattle.key_types.specs.Segments.{AreSegments}
use Rattle.key_types.specs.declared.places.Seg.{Seg}
use Rattle.context_map.specs.Maps.{entry_told, place_told}
use Rattle.span_cover.specs.Stretches.{function_at}
use Rattle.output_model.specs.Program.{program_of}
use Rattle.profile_writer.specs.Told.{TellsProgram}
use Rattle.profile_maker.proofs.AllLemmas.{program_shown}
use Rattle.profile_maker.proofs.NameLemmas.{keys_have_names}
use Rattle.profile_maker.proofs.SegmentLemmas.{segments_fit}
use Rattle.profile_maker.proofs.profiled.profile_over_all.Goals as goal

pub make_with_cold-requires-clause-segments : goal.make_with_cold-requires-clause-segments
make_with_cold-requires-clause-segments c =
    let is = c.requires.placed in subst AreSegments (sym c.segments.ensures) is.2.map.ascend

pub make_with_cold-requires-clause-fit : goal.make_with_cold-requires-clause-fit
make_with_cold-requires-clause-fit c =
    let is = c.requires.placed in subst (AllFit _) (sym c.segments.ensures) (segments_fit is.0 is.1 [] c.args.placed.now is.2)

pub make_with_cold-requires-clause-key_names : goal.make_with_cold-requires-clause-key_names
make_with_cold-requires-clause-key_names c =
    let is = c.requires.placed in keys_have_names is.0 is.1 [] c.args.placed.now is.2

pub make_with_cold-requires-clause-shown : goal.make_with_cold-requires-clause-shown
make_with_cold-requires-clause-shown c =
    let is = c.requires.placed in
    let placed = c.args.placed.now in (
      program_of is.0 is.1,
      subst (λ (segments : List Seg). TellsProgram (program_of is.0 is.1) placed.names placed.keys segments (place_told placed.map) (λ address. function_at placed.map.stretches address) (entry_told placed.map))
          (sym c.segments.ensures) (program_shown is.0 is.1 placed is.2),
    )

pub returns-clause-told : goal.returns-clause-told
returns-clause-told c =
    IfOk-weaker c.make_with_cold.result _ _ (λ profile told file base sampled is shown.
    let placed = c.args.placed.now in
    told (program_of file base) sampled
    (subst (λ (segments : List Seg). TellsProgram (program_of file base) placed.names placed.keys segments (place_told placed.map) (λ address. function_at placed.map.stretches address) (entry_told placed.map))
    (sym c.segments.ensures) (program_shown file base placed is))
    shown) c.make_with_cold.ensures.told
