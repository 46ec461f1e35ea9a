use Rattle.profile_maker.proofs.OutputLemmas.{output_alike}
use Rattle.profile_maker.proofs.maker.text_of.Goals as goal

pub returns : goal.returns
returns c = λ program sampled is.
    let placed = c.args.made.now.placed in
    output_alike program sampled placed.names placed.map.segments c.args.made.now.profile is.profile
    c.new-out.result.items c.push_lines.new.out.items c.push_report.new.out.items c.new-out.ensures.items c.in_ok-push_lines.ensures.appended c.in_ok-push_report.ensures.appended
