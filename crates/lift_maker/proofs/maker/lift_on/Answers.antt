use Rattle.std.proofs.Common.{◌≡◌, [], ◌∷◌, map, None, ap, refl, subst, sym, ◌∙◌}
use Rattle.refusal.specs.Place.{first_bad}
use Rattle.binary_places.proofs.ReadLemmas.{lacks, stops_with}
use Rattle.block_model.specs.Text.{functions_of}
use Rattle.cfg_text.specs.Fun.{function_of}
use Rattle.line_lift.proofs.LawLemmas.{lines_are_lifted}
use Rattle.line_lift.specs.Lift.{way_in}
use Rattle.profile_model.specs.Text.{profile_text}
use Rattle.profile_text.proofs.OpenLemmas.{kept_grows}
use Rattle.repair_model.specs.Checking.{failed_line}
use Rattle.repair_model.specs.Judging.{first_bad_of_repairs}
use Rattle.repair_model.specs.Text.{repairs_of}
use Rattle.repair_text.specs.Repair.{numbered}
use Rattle.lift_maker.specs.Lift.{first_bad_of_lines}
use Rattle.lift_maker.proofs.JudgeLemmas.{both_good, lifts_same, part_is_spelled, told_whole}
use Rattle.lift_maker.proofs.WayLemmas.{more_have_keys}
use Rattle.lift_maker.proofs.maker.lift_on.Goals as goal

pub returns-in_err-repairs : goal.returns-in_err-repairs
returns-in_err-repairs c = λ blocks same.
    stops_with _ _ (first_bad_of_lines c.args.file (functions_of blocks) c.args.text.now) _ _
    c.from_residual-in_err-repairs.result
    (λ place bad. λ i. first_bad (c.in_ok-part.ensures.0 i ∷ (ap (λ fs. first_bad_of_repairs c.args.file fs c.args.text.now) (sym same) ∙ bad) i ∷ []))
    c.in_err-repairs.ensures c.from_residual-in_err-repairs.ensures.1

pub lift_read-requires-clause-known : goal.lift_read-requires-clause-known
lift_read-requires-clause-known c =
    more_have_keys _ _ (kept_grows _ _ c.in_ok-part.ensures.1.keys_kept) c.args.segments.now c.requires.known

pub lift_read-requires-clause-numbers : goal.lift_read-requires-clause-numbers
lift_read-requires-clause-numbers c =
    let tells = c.in_ok-part.ensures.1 in record { key_names = tells.named; given = tells.told.given; once = tells.once }

pub lift_read-requires-clause-told : goal.lift_read-requires-clause-told
lift_read-requires-clause-told c =
    told_whole c.args.file (map function_of c.args.funs.now) c.args.text.now (map numbered c.deref.result.now) c.requires.size
    c.in_ok-repairs.ensures.0 (ap (map numbered) c.deref.ensures.value ∙ c.in_ok-repairs.ensures.1)

pub returns-in_err-lifted : goal.returns-in_err-lifted
returns-in_err-lifted c = λ blocks same.
    lacks _ (first_bad_of_lines c.args.file (functions_of blocks) c.args.text.now)
    c.from_residual-in_err-lifted.result c.from_residual-in_err-lifted.ensures.1

pub returns : goal.returns
returns c = λ blocks same.
    let tells = c.in_ok-part.ensures.1 in
    let are = ap (map numbered) c.deref.ensures.value ∙ c.in_ok-repairs.ensures.1 ∙ ap (λ fs. repairs_of fs c.args.text.now) same in (
      both_good _ _ c.in_ok-part.ensures.0 (subst (λ fs. first_bad_of_repairs c.args.file fs c.args.text.now ≡ None) same c.in_ok-repairs.ensures.0),
      (
        tells.names_kept,
        tells.keys_kept,
        lifts_same _ _ _ _ c.in_ok-lifted.lifted
            (λ i. failed_line (same i) (are i))
            (ap profile_text
            (lines_are_lifted c.read_behind.new.names c.read_behind.new.keys c.args.segments.now c.args.funs.now c.deref.result.now c.in_ok-part.part.items
            (way_in c.read_behind.new.names c.read_behind.new.keys c.args.segments.now) blocks c.args.text.now
            (λ address. refl) same are (part_is_spelled _ _ _ _ _ _ tells)))
            c.in_ok-lifted.ensures,
      ),
    )
