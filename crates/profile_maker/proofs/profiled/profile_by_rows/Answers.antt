use Rattle.std.proofs.Common.{List, subst, sym}
use Rattle.std.specs.List.{All}
use Rattle.sample_model.specs.declared.pair.Pair.{Pair}
use Rattle.binary_model.specs.Addresses.{function_of_address}
use Rattle.profile_writer.specs.Told.{TellsSampled}
use Rattle.profile_maker.specs.Asked.{AsksEnds, program_asked}
use Rattle.profile_maker.proofs.AlikeLemmas.{answers_alike, blocks_alike}
use Rattle.profile_maker.proofs.profiled.profile_by_rows.Goals as goal

pub profile_over-requires-clause-placed : goal.profile_over-requires-clause-placed
profile_over-requires-clause-placed c =
    let is = c.requires.binary in
    let have = c.in_ok-placed.ensures is.0 is.1 is.2 in (is.0, is.1, have.marks, have.is_placed)

pub returns-clause-segments : goal.returns-clause-segments
returns-clause-segments c =
    let is = c.requires.binary in
    let have = c.in_ok-placed.ensures is.0 is.1 is.2 in have.is_placed.map.ascend

pub returns-clause-told : goal.returns-clause-told
returns-clause-told c = λ file base sampled is shown total_is.
    let placed = c.in_ok-placed.placed in
    let have = c.in_ok-placed.ensures file base is in
    record {
      program = program_asked file base have.marks placed;
      answers = answers_alike file base have.marks placed sampled c.args.branches.items c.args.ranges.now shown.of_branches shown.of_ranges
          (subst (All (AsksEnds (function_of_address file) have.marks)) c.deref.ensures.value have.of_branches) have.of_ranges;
      in_blocks = blocks_alike file base have.marks placed c.args.funs.now have.in_blocks;
      profiled = record {
        profile = c.in_ok-profile.ensures.told file base have.marks sampled have.is_placed
            (subst (λ (rows : List Pair). TellsSampled sampled rows c.args.ranges.now c.args.units) (sym c.deref-2.ensures.value) shown);
        tallied = shown.of_branches;
        total_is = total_is;
      };
    }
