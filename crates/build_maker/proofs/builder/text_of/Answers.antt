use Rattle.std.proofs.Common.{List, map, subst, sym}
use Rattle.cfg_text.specs.Fun.{function_of}
use Rattle.key_types.specs.declared.places.Seg.{Seg}
use Rattle.profile_writer.specs.Profile.{IsProfileOf}
use Rattle.build_maker.proofs.BuiltLemmas.{built_by, built_of}
use Rattle.build_maker.proofs.builder.text_of.Goals as goal

pub returns : goal.returns
returns c = λ program sampled is tallied.
    let names = c.args.placed.now.names in
    let branches = c.args.branches.items in
    let funs = map function_of c.args.funs.now in
    let profile = c.args.profile.now in
    let told : IsProfileOf program sampled names c.segments-segments.result.now profile =
    subst (λ (segments : List Seg). IsProfileOf program sampled names segments profile) (sym c.segments-segments.ensures) is in
    let (repairs, appended, repaired) = c.in_ok-augmentations.ensures.repaired in
    let built = built_of program sampled names c.segments-segments.result.now profile c.args.options.edges branches funs told tallied
    c.new-out.result.items c.push_lines.new.out.items c.push_repairs.new.out.items repairs c.push_report.new.out.items c.new-out.ensures.items c.in_ok-push_lines.ensures.appended appended repaired
    c.in_ok-push_report.ensures.appended in
    built_by program sampled names c.segments-segments.result.now profile c.args.options branches funs told tallied
    c.push_report.new.out.items c.push_augmentations.new.out.items c.in_ok-augmentations.augmentations built c.in_ok-augmentations.ensures.counted c.in_ok-push_augmentations.ensures
