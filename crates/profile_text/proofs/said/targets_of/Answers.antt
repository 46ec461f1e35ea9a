use Rattle.std.proofs.Common.{map, ap, sym, ◌∙◌}
use Rattle.std.proofs.lemmas.List.{map-append}
use Rattle.std.specs.Option.{option_map}
use Rattle.profile_model.specs.Reading.{targets_of}
use Rattle.profile_text.specs.Said.{pair_of}
use Rattle.profile_text.proofs.TargetLemmas.{after, no_more, one_more, none_read}
use Rattle.profile_text.proofs.said.targets_of.Goals as goal

pub returns-in_default-read_named : goal.returns-in_default-read_named
returns-in_default-read_named c =
    none_read (map pair_of c.loop-word.targets.items) (targets_of c.args.words) c.in-Some.word.now c.next.new.self
    (c.loop-word.invariant ∙ ap (λ words. after (map pair_of c.loop-word.targets.items) (targets_of words)) c.in-Some.ensures.steps)
    (sym c.read_named.ensures ∙ ap (option_map pair_of) c.in_default-read_named.is)

pub loop-word-preserved : goal.loop-word-preserved
loop-word-preserved c =
    rw (c.in_ok-push.ensures.items, map-append)
    (one_more (map pair_of c.loop-word.targets.items) (targets_of c.args.words) c.in-Some.word.now c.next.new.self _
    (c.loop-word.invariant ∙ ap (λ words. after (map pair_of c.loop-word.targets.items) (targets_of words)) c.in-Some.ensures.steps)
    (sym c.read_named.ensures ∙ ap (option_map pair_of) c.in-Some-read_named.is))

pub returns : goal.returns
returns c =
    no_more (map pair_of c.loop-word.targets.items) (targets_of c.args.words)
    (c.loop-word.invariant ∙ ap (λ words. after (map pair_of c.loop-word.targets.items) (targets_of words)) c.in_default.ensures.steps.0)
