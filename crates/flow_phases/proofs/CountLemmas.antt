-- How many augmentations are counted.
use Rattle.std.proofs.Common.{◌≡◌, ℕ, ◌+◌, ◌*◌, ◌^◌, ◌<◌, ◌≤◌, arith, mul-le-mul_right}
use Rattle.flow_model.specs.Network.{Network}
use Rattle.flow_model.specs.Sound.{IsNet}
use Rattle.flow_network.proofs.NetLemmas.{blocks_few, edges_few}
use Rattle.scaling_model.specs.Bound.{RisesWithin, StartWithin, AreFew, size_of}

pub rises_none : (most taken : ℕ) → RisesWithin most taken taken
rises_none most taken = record { later = omega arith; few = omega arith }

pub rises_more : (most more taken taken_then taken_now : ℕ) → RisesWithin most taken taken_then → RisesWithin more taken_then taken_now
    → RisesWithin (most + more) taken taken_now
rises_more most more taken taken_then taken_now before now =
    let a = before.later in let b = now.later in let c = before.few in let d = now.few in
    record { later = omega (arith, a, b); few = omega (arith, c, d) }

pub rises_weaker : (most more taken taken_now : ℕ) → most ≤ more → RisesWithin most taken taken_now → RisesWithin more taken taken_now
rises_weaker most more taken taken_now fewer rises =
    let few = rises.few in record { later = rises.later; few = omega (arith, fewer, few) }

-- one phase more
pub phase_more : (step size taken taken_then taken_now : ℕ) → RisesWithin ((step + 1) * (2 * size)) taken taken_then
    → RisesWithin (2 * size) taken_then taken_now → RisesWithin ((step + 1 + 1) * (2 * size)) taken taken_now
phase_more step size taken taken_then taken_now before now =
    let next : (step + 1) * (2 * size) + 2 * size ≡ (step + 1 + 1) * (2 * size) = omega arith in
    rises_weaker _ _ taken taken_now (omega (arith, next)) (rises_more _ _ taken taken_then taken_now before now)

-- fewer phases
pub phases_fewer : (step digits size taken taken_now : ℕ) → step ≤ digits → RisesWithin ((step + 1) * (2 * size)) taken taken_now
    → RisesWithin ((digits + 1) * (2 * size)) taken taken_now
phases_fewer step digits size taken taken_now order rises =
    let fewer : (step + 1) * (2 * size) ≤ (digits + 1) * (2 * size) = mul-le-mul_right (2 * size) (omega (arith, order)) in
    rises_weaker _ _ taken taken_now fewer rises

pub small_size : (net : Network) → IsNet net → size_of net < 2 ^ 19
small_size net is = let blocks = blocks_few net is in let edges = edges_few net is in omega (arith, blocks, edges)

-- in all phases but one behind so many, there is room for that one
pub room_left : (net : Network) (step digits taken taken_now : ℕ) → IsNet net → digits ≤ 44 → step < digits → taken < 2 ^ 63 + 2 ^ 32
    → RisesWithin ((step + 1) * (2 * size_of net)) taken taken_now → taken_now < 2 ^ 63 + 2 ^ 33
room_left net step digits taken taken_now is most order room rises =
    let small = small_size net is in
    let fewer : (step + 1) * (2 * size_of net) ≤ 45 * (2 * size_of net) = mul-le-mul_right (2 * size_of net) (omega (arith, most, order)) in
    let few = rises.few in
    omega (arith, small, fewer, few, room)

-- the plain run and the phases behind it
pub all_few : (net : Network) (digits taken taken_then taken_now : ℕ) → ((more : ℕ) → StartWithin more net → digits ≤ more)
    → RisesWithin (16 * size_of net) taken taken_then → RisesWithin ((digits + 1) * (2 * size_of net)) taken_then taken_now
    → AreFew net taken taken_now
all_few net digits taken taken_then taken_now least plain phases more within =
    let size = size_of net in
    let fewer : (digits + 1) * (2 * size) ≤ (more + 1) * (2 * size) = mul-le-mul_right (2 * size) (let order = least more within in omega (arith, order)) in
    let one : 1 * (32 * size) ≤ (more + 1) * (32 * size) = mul-le-mul_right (32 * size) (omega arith) in
    let sixteen : (more + 1) * (32 * size) ≡ 16 * ((more + 1) * (2 * size)) = omega arith in
    rises_weaker _ _ taken taken_now (omega (arith, fewer, one, sixteen)) (rises_more _ _ taken taken_then taken_now plain phases)

-- the plain run alone
pub plain_few : (net : Network) (taken taken_now : ℕ) → RisesWithin (16 * size_of net) taken taken_now → AreFew net taken taken_now
plain_few net taken taken_now plain more within =
    let size = size_of net in
    let one : 1 * (32 * size) ≤ (more + 1) * (32 * size) = mul-le-mul_right (32 * size) (omega arith) in
    rises_weaker _ _ taken taken_now (omega (arith, one)) plain
