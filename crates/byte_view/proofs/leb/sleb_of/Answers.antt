use Rattle.std.proofs.Common.{◌≡◌, ◌<◌, ◌^◌, ◌-ℤ◌, ◌+ℤ◌, ◌-◌, ℕ, pos, negsuc, rules, arith, to_z, of_z, w64}
use Rattle.std.proofs.lemmas.Int.{ints, to_z_pos}
use Rattle.byte_view.proofs.LebLemmas.{sleb_at-whole, sleb_at-low, sleb_at-high, sleb_at-too_long, whole_below, whole_scale, nine_below}
use Rattle.byte_view.proofs.leb.sleb_of.Goals as goal

-- what the sum of the low 63 bits and the least number is
high_bits : (n : ℕ) → n < 2 ^ 63 → to_z w64 (of_z w64 (to_z w64 n +ℤ negsuc (2 ^ 63 - 1))) ≡ pos n -ℤ pos (2 ^ 63)
high_bits n below = omega (arith, ints)

pub signed-requires-clause-below : goal.signed-requires-clause-below
signed-requires-clause-below c =
    let whole = rw c.in-Whole.is at c.in_ok-value.ensures.found in
    whole_below _ _ _ _ whole

pub signed-requires-clause-power : goal.signed-requires-clause-power
signed-requires-clause-power c =
    let whole = rw c.in-Whole.is at c.in_ok-value.ensures.found in
    whole_scale _ _ _ _ whole

pub returns-in-Whole-clause-found : goal.returns-in-Whole-clause-found
returns-in-Whole-clause-found c =
    let whole = rw c.in-Whole.is at c.in_ok-value.ensures.found in
    let read = sleb_at-whole _ _ _ _ whole in
    let is : to_z w64 (of_z w64 c.signed.result) ≡ c.signed.result = search rules in
    rw (is, c.signed.ensures) read

pub returns-in-Nine-default-eq0-clause-found : goal.returns-in-Nine-default-eq0-clause-found
returns-in-Nine-default-eq0-clause-found c =
    let nine = rw c.in-Nine-default-eq0.is at c.in_ok-value.ensures.found in
    let below = nine_below _ _ _ nine in
    let is = to_z_pos w64 c.in-Nine-default-eq0.value below in
    rw is (sleb_at-low _ _ _ nine (omega arith))

pub returns-in-Nine-default-eq127-clause-found : goal.returns-in-Nine-default-eq127-clause-found
returns-in-Nine-default-eq127-clause-found c =
    let nine = rw c.in-Nine-default-eq127.is at c.in_ok-value.ensures.found in
    let below = nine_below _ _ _ nine in
    let is = high_bits c.in-Nine-default-eq127.value below in
    rw is (sleb_at-high _ _ _ nine (omega arith))

pub returns-in-Nine-clause-refused : goal.returns-in-Nine-clause-refused
returns-in-Nine-clause-refused c =
    let nine = rw c.in-Nine.is at c.in_ok-value.ensures.found in
    sleb_at-too_long _ _ _ nine c.in-Nine.tenth-test.0.1 c.in-Nine.tenth-test.1
