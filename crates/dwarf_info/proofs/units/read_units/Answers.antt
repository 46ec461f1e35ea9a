use Rattle.std.proofs.Common.{◌≡◌, Option, [], Ok, sym, ap, subst, ◌∙◌}
use Rattle.byte_view.specs.declared.part.Part.{Part}
use Rattle.byte_view.specs.Cursor.{Cursor}
use Rattle.placed_view.specs.Reader.{Read, refused_at}
use Rattle.unit_model.specs.Units as model
use Rattle.dwarf_info.specs.Told.{units_told}
use Rattle.dwarf_info.specs.Units.{units_of}
use Rattle.dwarf_info.specs.Kept.{AreKept}
use Rattle.dwarf_info.proofs.UnitLemmas.{kept-none}
use Rattle.dwarf_info.proofs.units.read_units.Goals as goal

pub returns-in-None : goal.returns-in-None
returns-in-None c =
    let nowhere : Cursor = record { at = 0; left = [] } in
    let P : model.Units → Read model.Units = λ u. Ok (u, nowhere) in
    let told : units_told c.args.info c.args.abbrev ≡ Ok (units_of c.new.result, nowhere) =
    ap (λ (i : Option Part). units_told i c.args.abbrev) c.in-None.is ∙ ap P (sym c.new.ensures.none) in
    (ap refused_at told, (nowhere, told))

pub invariant_of-result : goal.invariant_of-result
invariant_of-result c = (c.new.ensures.whole, subst AreKept (sym c.new.ensures.none) kept-none)
