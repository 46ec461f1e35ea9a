use Rattle.std.proofs.Common.{sym, ◌∙◌, length, map, refl}
use Rattle.profile_text.proofs.BodyLemmas.{body_again, body_twice, body_read, old_stamps, judged_by_targets}
use Rattle.profile_text.proofs.CauseLemmas.{cause_by_depth, stands_free}
use Rattle.profile_text.specs.Said.{pair_of}
use Rattle.profile_text.proofs.draft.ProfileDraft.add_body.Goals as goal

pub returns-in-Some : goal.returns-in-Some
returns-in-Some c = λ before numbers is.
    cause_by_depth before _ (length c.args.self.now.path) c.in-Some.kind (is.path.stands c.args.depth) (sym c.in-Some.is ∙ c.cause_of_depth.ensures)

pub returns-then-branch : goal.returns-then-branch
returns-then-branch c = λ before numbers is.
    let free = stands_free (length c.args.self.now.path) c.args.depth (sym c.in_default.is ∙ c.cause_of_depth.ensures) in
    let at = rw c.close.ensures at c.in_ok-key.ensures in
    body_again c.args.names.now c.args.keys.now c.add.new.self c.args.self.now before numbers c.args.depth c.args.location c.in_ok-key.field-0 c.in_ok-key-2.key
    c.args.count (map pair_of c.args.targets.now) is free at c.in_ok-key-2.ensures.added.kept c.in_ok-key-2.ensures.numbered c.in_ok-key-2.ensures.number
    (sym c.if-branch.true ∙ c.in_ok-stamp.ensures.told)

pub returns : goal.returns
returns c = λ before numbers is.
    let free = stands_free (length c.args.self.now.path) c.args.depth (sym c.in_default.is ∙ c.cause_of_depth.ensures) in
    let at = rw c.close.ensures at c.in_ok-key.ensures in
    let old = old_stamps c.args.names.now c.args.keys.now c.args.self.now before numbers c.put.new.items.items _ is c.in_ok-put.ensures in
    judged_by_targets _ c.args.names.now c.put.new.items.items c.args.at c.in_ok-key-2.key (map pair_of c.args.targets.now) c.put_targets.result
    c.put_targets.new.names c.put_targets.new.called c.put_targets.new.items.items _ (c.put_targets.ensures old)
    (λ once put.
    body_read c.args.names.now c.put_targets.new.names c.args.keys.now c.add.new.self c.args.self.now _ before numbers c.args.depth c.args.location c.in_ok-key.field-0
    c.in_ok-key-2.key c.args.at c.args.count (map pair_of c.args.targets.now) c.put.new.items.items is free at c.each_once.ensures
    c.in_ok-key-2.ensures.added c.in_ok-key-2.ensures.one_more c.in_ok-key-2.ensures.numbered c.in_ok-key-2.ensures.number (sym c.if-branch.false ∙ c.in_ok-stamp.ensures.told)
    c.in_ok-stamp.ensures.stamped c.in_ok-put.ensures c.close.ensures refl once put)
    (λ twice. body_twice c.args.names.now c.args.keys.now c.args.self.now before numbers c.args.depth c.args.location c.args.count (map pair_of c.args.targets.now) is free twice)
