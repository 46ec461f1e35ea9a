use Rattle.std.proofs.Common.{◌≡◌, ◌<◌, ◌≤◌, ◌%◌, length, get_or, arith, rules}
use Rattle.std.proofs.lemmas.Grind.{common_steps}
use Rattle.byte_view.proofs.leb.long_front_of.Goals as goal
use Rattle.byte_view.proofs.LebLemmas.{IsWorth-more, digit_fits, cut_at}

pub overflow_mul-value : goal.overflow_mul-value
overflow_mul-value c =
    let here : c.loop-i.i < length c.args.bytes.now = search rules in
    let digit_is : c.from.result ≡ get_or c.args.bytes.now c.loop-i.i 0 % 128 = search rules in
    let fits = digit_fits _ _ _ _ _ c.loop-i.invariant.worth here (omega arith) digit_is in
    omega arith

pub overflow_add-value : goal.overflow_add-value
overflow_add-value c =
    let here : c.loop-i.i < length c.args.bytes.now = search rules in
    let digit_is : c.from.result ≡ get_or c.args.bytes.now c.loop-i.i 0 % 128 = search rules in
    let fits = digit_fits _ _ _ _ _ c.loop-i.invariant.worth here (omega arith) digit_is in
    omega arith

pub overflow_mul-scale : goal.overflow_mul-scale
overflow_mul-scale c =
    let here : c.loop-i.i < length c.args.bytes.now = search rules in
    let digit_is : c.from.result ≡ get_or c.args.bytes.now c.loop-i.i 0 % 128 = search rules in
    let fits = digit_fits _ _ _ _ _ c.loop-i.invariant.worth here (omega arith) digit_is in
    omega arith

pub returns-then-byte-lt128-clause-found : goal.returns-then-byte-lt128-clause-found
returns-then-byte-lt128-clause-found c =
    let here : c.loop-i.i < length c.args.bytes.now = search rules in
    let digit_is : c.from.result ≡ get_or c.args.bytes.now c.loop-i.i 0 % 128 = search rules in
    let more = IsWorth-more _ _ _ _ _ c.loop-i.invariant.worth here digit_is in
    record {
      last = grind (arith, common_steps);
      there = omega arith;
      at_most_nine = omega arith;
      value_is = more.value_is;
      scale_is = more.scale_is;
    }

pub loop-i-preserved : goal.loop-i-preserved
loop-i-preserved c =
    let here : c.loop-i.i < length c.args.bytes.now = search rules in
    let digit_is : c.from.result ≡ get_or c.args.bytes.now c.loop-i.i 0 % 128 = search rules in
    record {
      worth = IsWorth-more _ _ _ _ _ c.loop-i.invariant.worth here digit_is;
      passed = grind (arith, common_steps);
    }

pub returns-in_default-clause-unsigned_cut : goal.returns-in_default-clause-unsigned_cut
returns-in_default-clause-unsigned_cut c =
    let past : length c.args.bytes.now ≤ c.loop-i.i = search rules in
    let end : c.loop-i.i ≡ length c.args.bytes.now = omega arith in
    let cut = cut_at _ _ c.loop-i.invariant.passed end (omega arith) in
    cut.unsigned

pub returns-in_default-clause-signed_cut : goal.returns-in_default-clause-signed_cut
returns-in_default-clause-signed_cut c =
    let past : length c.args.bytes.now ≤ c.loop-i.i = search rules in
    let end : c.loop-i.i ≡ length c.args.bytes.now = omega arith in
    let cut = cut_at _ _ c.loop-i.invariant.passed end (omega arith) in
    cut.signed

pub returns-in_default-get-clause-unsigned_cut : goal.returns-in_default-get-clause-unsigned_cut
returns-in_default-get-clause-unsigned_cut c =
    let past : length c.args.bytes.now ≤ 9 = search rules in
    let end : c.loop-i.i ≡ length c.args.bytes.now = omega arith in
    let cut = cut_at _ _ c.loop-i.invariant.passed end (omega arith) in
    cut.unsigned

pub returns-in_default-get-clause-signed_cut : goal.returns-in_default-get-clause-signed_cut
returns-in_default-get-clause-signed_cut c =
    let past : length c.args.bytes.now ≤ 9 = search rules in
    let end : c.loop-i.i ≡ length c.args.bytes.now = omega arith in
    let cut = cut_at _ _ c.loop-i.invariant.passed end (omega arith) in
    cut.signed
