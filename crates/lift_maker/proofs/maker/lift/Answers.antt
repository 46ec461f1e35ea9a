use Rattle.std.proofs.Common.{length, subst, sym}
use Rattle.asked_laws.specs.Alike.{AreAlikeInBlocks}
use Rattle.block_model.specs.Text.{functions_of}
use Rattle.line_lift.specs.Lift.{HaveKeys}
use Rattle.output_model.specs.Program.{program_of}
use Rattle.profile_maker.specs.Asked.{program_asked}
use Rattle.profile_maker.proofs.NameLemmas.{keys_have_names}
use Rattle.lift_maker.specs.Lift.{first_bad_of_lines}
use Rattle.lift_maker.proofs.JudgeLemmas.{judges_of}
use Rattle.lift_maker.proofs.WayLemmas.{keys_told, lifts_of_binary}
use Rattle.lift_maker.proofs.maker.lift.Goals as goal

pub lift_on-requires-clause-known : goal.lift_on-requires-clause-known
lift_on-requires-clause-known c =
    let is = c.requires.binary in
    let at = c.in_ok-placed.ensures is.0 is.1 is.2 in
    let placed = c.in_ok-placed.placed in
    subst (HaveKeys (length placed.keys)) (sym c.segments-segments.ensures) (keys_told is.0 is.1 at.marks placed at.of_binary)

pub lift_on-requires-clause-key_names : goal.lift_on-requires-clause-key_names
lift_on-requires-clause-key_names c =
    let is = c.requires.binary in
    let at = c.in_ok-placed.ensures is.0 is.1 is.2 in
    keys_have_names is.0 is.1 at.marks c.in_ok-placed.placed at.of_binary

pub returns : goal.returns
returns c = λ bytes base blocks is same.
    let placed = c.in_ok-placed.placed in
    let at = c.in_ok-placed.ensures bytes base is in
    let alike = subst (AreAlikeInBlocks (program_asked bytes base at.marks placed) (program_of bytes base)) same at.alike in
    judges_of (first_bad_of_lines c.args.file (functions_of blocks) c.args.text.now) c.lift_on.result _ _
    (λ lifted on. lifts_of_binary bytes base at.marks placed c.lift_on.new.names c.lift_on.new.keys at.of_binary on.0 on.1
    c.segments-segments.result.now c.segments-segments.ensures blocks c.args.text.now alike lifted on.2)
    (c.lift_on.ensures blocks same)
