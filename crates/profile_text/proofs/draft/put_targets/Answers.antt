use Rattle.std.proofs.Common.{◌≡◌, length, arith, ap, sym, ◌∙◌}
use Rattle.std.proofs.lemmas.List.{length_push}
use Rattle.std.proofs.lemmas.Result.{err_from_is_err_and}
use Rattle.profile_text.proofs.PutLemmas.{put_again_at, put_more_at, put_all}
use Rattle.profile_text.proofs.draft.put_targets.Goals as goal

pub returns-in_err-name : goal.returns-in_err-name
returns-in_err-name c = λ old.
    let p = err_from_is_err_and c.from_residual.result c.from_residual.ensures.1 in
    rw (p.1, p.2) tt

pub returns-in_err-stamp : goal.returns-in_err-stamp
returns-in_err-stamp c = λ old.
    let p = err_from_is_err_and c.from_residual-in_err-stamp.result c.from_residual-in_err-stamp.ensures.1 in
    rw (p.1, p.2) tt

pub returns-in_err-put : goal.returns-in_err-put
returns-in_err-put c = λ old.
    let p = err_from_is_err_and c.from_residual-in_err-put.result c.from_residual-in_err-put.ensures.1 in
    rw (p.1, p.2) tt

pub returns-then-branch : goal.returns-then-branch
returns-then-branch c = λ old.
    let stamp : c.len-stamp.result ≡ length c.args.items.now.items = omega (arith, c.len-stamp.ensures) in
    put_again_at c.args.names.now c.args.items.now.items c.args.at c.args.key c.args.targets.now c.loop-target.target-index
    c.loop-target.names c.add.new.self c.args.called.now c.loop-target.called c.loop-target.items.items c.in_ok-name.name c.len-stamp.result _
    old (c.loop-target.invariant.kept old) (omega arith) c.in_ok-name.ensures.added.kept c.in_ok-name.ensures.numbered c.in_ok-name.ensures.number
    stamp (sym c.if-branch.true ∙ c.in_ok-stamp.ensures.told)

pub loop-target-preserved : goal.loop-target-preserved
loop-target-preserved c =
    let stamp : c.len-stamp.result ≡ length c.args.items.now.items = omega (arith, c.len-stamp.ensures) in
    record {
      few = omega (arith, c.loop-target.invariant.few, c.in_ok-name.ensures.one_more);
      longer = omega (arith, c.loop-target.invariant.longer, simp length_push at (ap length c.in_ok-put.ensures));
      kept = λ old. rw c.in_ok-put.ensures
          (put_more_at c.args.names.now c.args.items.now.items c.args.at c.args.key c.args.targets.now c.loop-target.target-index
          c.loop-target.names c.add.new.self c.args.called.now c.loop-target.called c.stamp.new.self c.loop-target.items.items c.in_ok-name.name c.len-stamp.result _
          old (c.loop-target.invariant.kept old) (omega arith) c.in_ok-name.ensures.added.kept c.in_ok-name.ensures.numbered c.in_ok-name.ensures.one_more c.in_ok-name.ensures.number
          stamp (sym c.if-branch.false ∙ c.in_ok-stamp.ensures.told) c.loop-target.invariant.longer c.in_ok-stamp.ensures.stamped);
    }

pub returns : goal.returns
returns c = λ old.
    put_all c.args.names.now c.args.items.now.items c.args.at c.args.key c.args.targets.now c.loop-target.target-index c.loop-target.names c.loop-target.called
    c.loop-target.items.items (c.loop-target.invariant.kept old) c.loop-target-test.false
