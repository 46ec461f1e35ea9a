use Rattle.std.proofs.Common.{List, subst, sym}
use Rattle.std.proofs.lemmas.Result.{IfOk-weaker}
use Rattle.profile_lists.specs.Segments.{AllFit}
use Rattle.key_types.specs.Segments.{AreSegments}
use Rattle.key_types.specs.declared.places.Seg.{Seg}
use Rattle.context_map.specs.Maps.{entry_told, place_told}
use Rattle.span_cover.specs.Stretches.{function_at}
use Rattle.profile_writer.specs.Profile.{IsProfileOf}
use Rattle.profile_writer.specs.Told.{TellsProgram}
use Rattle.profile_maker.specs.Asked.{program_asked}
use Rattle.profile_maker.proofs.NameLemmas.{keys_have_names}
use Rattle.profile_maker.proofs.SegmentLemmas.{segments_fit}
use Rattle.profile_maker.proofs.ShownLemmas.{programs_shown}
use Rattle.profile_maker.proofs.profiled.profile_over.Goals as goal

pub make-requires-clause-segments : goal.make-requires-clause-segments
make-requires-clause-segments c =
    let is = c.requires.placed in subst AreSegments (sym c.segments.ensures) is.3.map.ascend

pub make-requires-clause-fit : goal.make-requires-clause-fit
make-requires-clause-fit c =
    let is = c.requires.placed in subst (AllFit _) (sym c.segments.ensures) (segments_fit is.0 is.1 is.2 c.args.placed.now is.3)

pub make-requires-clause-key_names : goal.make-requires-clause-key_names
make-requires-clause-key_names c =
    let is = c.requires.placed in keys_have_names is.0 is.1 is.2 c.args.placed.now is.3

pub make-requires-clause-shown : goal.make-requires-clause-shown
make-requires-clause-shown c =
    let is = c.requires.placed in
    let placed = c.args.placed.now in
    let program = program_asked is.0 is.1 is.2 placed in (
      program,
      subst (λ (segments : List Seg). TellsProgram program placed.names placed.keys segments (place_told placed.map) (λ address. function_at placed.map.stretches address) (entry_told placed.map))
          (sym c.segments.ensures) (programs_shown is.0 is.1 is.2 placed is.3),
    )

pub returns-clause-told : goal.returns-clause-told
returns-clause-told c =
    IfOk-weaker c.make.result _ _ (λ profile told file base marks sampled is shown.
    let placed = c.args.placed.now in
    let program = program_asked file base marks placed in
    subst (λ (segments : List Seg). IsProfileOf program sampled placed.names segments profile) c.segments.ensures
    (told program sampled
    (subst (λ (segments : List Seg). TellsProgram program placed.names placed.keys segments (place_told placed.map) (λ address. function_at placed.map.stretches address) (entry_told placed.map))
    (sym c.segments.ensures) (programs_shown file base marks placed is))
    shown)) c.make.ensures.told
