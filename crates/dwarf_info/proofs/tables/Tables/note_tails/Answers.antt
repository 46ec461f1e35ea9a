use Rattle.std.proofs.Common.{ℕ, ◌+◌, List, Option, Ok, sym, ap, subst, ◌∙◌}
use Rattle.byte_view.specs.Cursor.{Cursor}
use Rattle.unit_model.specs.Abbrev.{Abbrev}
use Rattle.dwarf_info.specs.declared.tables.Within.{Within}
use Rattle.dwarf_info.specs.Tails.{IsBehind}
use Rattle.dwarf_info.proofs.TailLemmas.{StandsBehind-more, StandsBehind-is}
use Rattle.dwarf_info.proofs.tables.Tables.note_tails.Goals as goal

pub note-requires : goal.note-requires
note-requires c =
    let within : Within = record { home = c.args.piece.at; skip = c.loop-before.before + 1 } in
    let more = StandsBehind-more c.args.self.now c.args.piece.at c.loop-before.before c.loop-before.cur c.read_first.new.cur _ c.loop-before.invariant.1
    (c.in-Ok-Some.ensures.read ∙ ap (λ (o : Option (List Abbrev)). Ok (o, c.read_first.new.cur)) c.in-Ok-Some.field-0-is) in
    subst (λ (n : ℕ). IsBehind c.loop-before.self within n) (sym c.at-at.ensures.place)
    (subst (λ (s : Option Cursor). IsBehind s within c.read_first.new.cur.at) (sym c.loop-before.invariant.0) (StandsBehind-is c.args.self.now within c.read_first.new.cur more))

pub loop-before-preserved : goal.loop-before-preserved
loop-before-preserved c = (
  c.in_ok-note.ensures ∙ c.loop-before.invariant.0,
  StandsBehind-more c.args.self.now c.args.piece.at c.loop-before.before c.loop-before.cur c.read_first.new.cur _ c.loop-before.invariant.1
      (c.in-Ok-Some.ensures.read ∙ ap (λ (o : Option (List Abbrev)). Ok (o, c.read_first.new.cur)) c.in-Ok-Some.field-0-is),
)
