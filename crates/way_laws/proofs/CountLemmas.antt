-- The numbers of a profile of so many branches have 64 bits.
use Rattle.std.proofs.Common.{◌<◌, ◌≤◌, ◌+◌, ◌*◌, ◌/◌, ◌%◌, ◌^◌, ◌==◌, ℕ, suc, ◌&&◌, Bool, true, false, cond, List, [], ◌∷◌, filter, filter_map, length, map, Option, None, Some, option_map, arith}
use Rattle.std.specs.Prelude.{if◌then◌else◌, unwrap_or}
use Rattle.std.specs.List.{cons_option}
use Rattle.std.proofs.lemmas.List.Sums.{count_by-le-length}
use Rattle.std.proofs.Common.{mul-le-mul}
use Rattle.key_types.specs.Discriminators as packed
use Rattle.chain_model.specs.Places.{LineAndDisc, row_of, chain_members}
use Rattle.merge_laws.proofs.SumLemmas.{kept_sum, kept_more}
use Rattle.profile_model.specs.Counts.{weighed}
use Rattle.profile_model.specs.Ways.{Way, same_name, same_way}
use Rattle.report_model.specs.Report.{Sampled}
use Rattle.binary_model.specs.Addresses.{factor_of_address}
use Rattle.binary_model.specs.Binary.{members_in, tables_in}
use Rattle.binary_model.specs.Places.{numbered_from, row_in}
use Rattle.output_model.specs.Program.{Program, program_of, way_at}
use Rattle.output_model.specs.Sampled.{call_by, call_of, count_among, has_way, head_of as entry_of, hits_of, largest, ran_over}

-- ---- entries and calls

either_sum : (b : Bool) (n : ℕ) → cond b n 0 ≤ n
either_sum true n = omega arith
either_sum false n = omega arith

pub heads_few : (program : Program) (name : List ℕ) (branches : List (ℕ × ℕ))
    → kept_sum (λ (h : List ℕ × ℕ). same_name name h.0) (λ h. h.1) (filter_map (entry_of program) branches) ≤ length branches
heads_few program name [] = omega arith
heads_few program name ((from, to) ∷ branches) = by (program.entered to) (heads_few program name branches)
  where
    by : (o : Option (List ℕ)) → kept_sum (λ (h : List ℕ × ℕ). same_name name h.0) (λ h. h.1) (filter_map (entry_of program) branches) ≤ length branches
        → kept_sum (λ (h : List ℕ × ℕ). same_name name h.0) (λ h. h.1) (cons_option (option_map (λ name. (name, 1)) o) (filter_map (entry_of program) branches)) ≤ suc (length branches)
    by None rest = omega (arith, rest)
    by (Some other) rest =
        let both = kept_more (λ (h : List ℕ × ℕ). same_name name h.0) (λ h. h.1) (other, 1) (filter_map (entry_of program) branches) in
        let one = either_sum (same_name name other) 1 in
        omega (arith, both, one, rest)

pub calls_few : (program : Program) (way : Way) (name : List ℕ) (branches : List (ℕ × ℕ))
    → kept_sum (λ (c : Way × List ℕ × ℕ). same_way way c.0 && same_name name c.1) (λ c. c.2) (filter_map (call_of program) branches) ≤ length branches
calls_few program way name [] = omega arith
calls_few program way name ((from, to) ∷ branches) = by (way_at program from) (program.entered to) (calls_few program way name branches)
  where
    by : (w : Option Way) (o : Option (List ℕ))
        → kept_sum (λ (c : Way × List ℕ × ℕ). same_way way c.0 && same_name name c.1) (λ c. c.2) (filter_map (call_of program) branches) ≤ length branches
        → kept_sum (λ (c : Way × List ℕ × ℕ). same_way way c.0 && same_name name c.1) (λ c. c.2) (cons_option (call_by w o) (filter_map (call_of program) branches)) ≤ suc (length branches)
    by None o rest = omega (arith, rest)
    by (Some w) None rest = omega (arith, rest)
    by (Some w) (Some other) rest =
        let both = kept_more (λ (c : Way × List ℕ × ℕ). same_way way c.0 && same_name name c.1) (λ c. c.2) (w, other, 1) (filter_map (call_of program) branches) in
        let one = either_sum (same_way way w && same_name name other) 1 in
        omega (arith, both, one, rest)

-- ---- counts of ways

largest_low : (most : ℕ) (f : ℕ → ℕ) (addresses : List ℕ) → ((a : ℕ) → f a ≤ most) → largest (map f addresses) ≤ most
largest_low most f [] low = omega arith
largest_low most f (a ∷ addresses) low = let here = low a in let rest = largest_low most f addresses low in omega (arith, here, rest)

-- ---- the factor of an address

component_low : (d : ℕ) → packed.component d < 2 ^ 12
component_low d = by (packed.begins_with_zero d) (packed.is_long d)
  where
    by : (a b : Bool) → (if a then 0 else (if b then d / 2 ^ 7 % 2 ^ 7 * 2 ^ 5 + d / 2 % 2 ^ 5 else d / 2 % 2 ^ 5)) < 2 ^ 12
    by true b = omega arith
    by false true = omega arith
    by false false = omega arith

packed_low : (d : ℕ) → packed.factor d < 2 ^ 12
packed_low d = by (packed.component (packed.rest d) == 0)
  where
    by : (b : Bool) → (if b then 1 else packed.component (packed.rest d)) < 2 ^ 12
    by true = omega arith
    by false = component_low (packed.rest d)

factor_low : (file : List ℕ) (base : Bool) (address : ℕ) → factor_of_address file base address < 2 ^ 12
unfolding factor_of_address
factor_low file base address = by base (row_of (row_in (tables_in file)) (chain_members (numbered_from 0 (members_in file)) address) address)
  where
    by : (b : Bool) (o : Option LineAndDisc) → unwrap_or (option_map (λ row. if b then packed.factor row.1 else 1) o) 1 < 2 ^ 12
    by b None = omega arith
    by true (Some row) = packed_low row.1
    by false (Some row) = omega arith

product : (a b m n : ℕ) → a ≤ m → b ≤ n → a * b ≤ m * n
product a b m n one other = mul-le-mul one other

hits_few : (program : Program) (sampled : Sampled) (address : ℕ) → hits_of program sampled address ≤ length sampled.ranges
hits_few program sampled address = count_by-le-length (ran_over program address) sampled.ranges

pub count_low : (addresses : List ℕ) (file : List ℕ) (base : Bool) (sampled : Sampled) (way : Way) → length sampled.ranges ≤ 2 ^ 32
    → count_among addresses (program_of file base) sampled way ≤ 2 ^ 44
count_low addresses file base sampled way few =
    largest_low (2 ^ 44) (weighed (hits_of program sampled) program.factor) (filter (has_way program way) addresses)
    (λ a.
    let some = hits_few program sampled a in
    let copies = factor_low file base a in
    let hits : hits_of program sampled a ≤ 2 ^ 32 = omega (arith, some, few) in
    let factor : program.factor a ≤ 2 ^ 12 = omega (arith, copies) in
    let least = product (hits_of program sampled a) (program.factor a) (2 ^ 32) (2 ^ 12) hits factor in
    omega (arith, least))
  where
    program : Program
    program = program_of file base
