-- A program that was asked for what samples and blocks need answers them as the whole program does.
use Rattle.std.proofs.Common.{◌≡◌, ◌+◌, ◌<◌, ℕ, Bool, true, false, cond, ◌&&◌, List, [], ◌∷◌, map, Option, refl, sym, ap, ◌∙◌, arith, inl, inr, leb-true}
use Rattle.std.specs.Prelude.{count_by, filter, nat_le, not, sum_by, if◌then◌else◌}
use Rattle.std.specs.List.{All, AllByRecursion}
use Rattle.std.proofs.lemmas.Bool.{and_parts, cases_Bool, not-false, true≢false}
use Rattle.std.proofs.lemmas.List.Elements.{All-contains, All-from_recursion, All-map, All-weaker, recursion_from_All}
use Rattle.std.proofs.lemmas.List.Sums.{sum_by-cons}
use Rattle.block_model.specs.Function.{Function}
use Rattle.cfg_text.specs.Fun.{function_of}
use Rattle.cfg_text.specs.declared.fun.Fun.{Fun}
use Rattle.sample_model.specs.declared.pair.Pair.{Pair}
use Rattle.branch_counts.specs.Table.{Tallies, pair_of}
use Rattle.branch_counts.proofs.TallyLemmas.{tables_count_members}
use Rattle.report_model.specs.declared.class.RangeClass.{RangeClass}
use Rattle.report_model.specs.declared.class.RangeClass.TheVariants.{Ran, Reversed, RangeOutside, Crossing}
use Rattle.report_model.specs.Ranges.{is_class, range_class}
use Rattle.report_model.specs.Report.{Sampled}
use Rattle.report_model.proofs.RangeLemmas.{ran_is_one_function}
use Rattle.span_cover.specs.Asked.{asks}
use Rattle.context_map.specs.Maps.{place_told}
use Rattle.binary_model.specs.Addresses.{function_of_address}
use Rattle.binary_model.specs.Places.{place_of_address}
use Rattle.binary_places.specs.declared.binary.Placed.{Placed}
use Rattle.output_model.specs.Program.{program_of}
use Rattle.output_model.specs.Sampled.{ran_over}
use Rattle.asked_laws.specs.Alike.{AnswerAlike, AreAlikeIn, AreAlikeInBlocks}
use Rattle.profile_maker.specs.Asked.{AsksAt, AsksBlock, AsksBlocks, AsksEnds, lack_of, program_asked}

-- ---- members of a list of which rows tell

none_kept : (test : Pair → Bool) (rows : List Pair) → AllByRecursion (λ row. test row ≡ false) rows → filter test rows ≡ []
none_kept test [] all = refl
none_kept test (row ∷ rows) all = ap (λ b. cond b (row ∷ filter test rows) (filter test rows)) all.0 ∙ none_kept test rows all.1

first_none : (b : Bool) (n : ℕ) → cond b 1 0 + n ≡ 0 → (b ≡ false) × (n ≡ 0)
first_none true n is = absurd (omega (arith, is))
first_none false n is = (refl, omega (arith, is))

none_counted : (test : ℕ × ℕ → Bool) (pairs : List (ℕ × ℕ)) → count_by test pairs ≡ 0 → AllByRecursion (λ p. test p ≡ false) pairs
none_counted test [] is = tt
none_counted test (p ∷ pairs) is =
    let both = first_none (test p) (count_by test pairs) (sym (sum_by-cons (λ (x : ℕ × ℕ). cond (test x) 1 0) p pairs) ∙ is) in
    (both.0, none_counted test pairs both.1)

-- What all rows pass all members do.
pub all_pass : (test : ℕ × ℕ → Bool) (pairs : List (ℕ × ℕ)) (rows : List Pair) → Tallies pairs rows
    → All (λ (row : Pair). test (pair_of row) ≡ true) rows → All (λ (p : ℕ × ℕ). test p ≡ true) pairs
all_pass test pairs rows tallied all =
    let missed : ℕ × ℕ → Bool = λ p. not (test p) in
    let none : All (λ (row : Pair). missed (pair_of row) ≡ false) rows =
    All-weaker (λ (row : Pair). test (pair_of row) ≡ true) (λ (row : Pair). missed (pair_of row) ≡ false) (λ row passes. ap not passes) rows all in
    let empty = none_kept (λ (row : Pair). missed (pair_of row)) rows (recursion_from_All (λ (row : Pair). missed (pair_of row) ≡ false) rows none) in
    let count : count_by missed pairs ≡ 0 =
    sym (tables_count_members pairs rows missed tallied) ∙ ap (λ (kept : List Pair). sum_by (λ (row : Pair). row.times) kept) empty in
    All-weaker (λ (p : ℕ × ℕ). missed p ≡ false) (λ (p : ℕ × ℕ). test p ≡ true) (λ p. not-false (test p)) pairs
    (All-from_recursion (λ (p : ℕ × ℕ). missed p ≡ false) pairs (none_counted missed pairs count))

-- Where some are counted, one of them shows it.
some_counted : (test : ℕ × ℕ → Bool) (P : ℕ × ℕ → Type 0) (Goal : Type 0) (pairs : List (ℕ × ℕ))
    → ((p : ℕ × ℕ) → P p → test p ≡ true → Goal) → AllByRecursion P pairs → 0 < count_by test pairs → Goal
some_counted test P Goal [] each all some = absurd (omega (arith, some))
some_counted test P Goal (p ∷ pairs) each all some = elim (cases_Bool (test p)) [
  | inl passes ↦ each p all.0 passes
  | inr fails ↦
      let same : count_by test (p ∷ pairs) ≡ 0 + count_by test pairs =
      sum_by-cons (λ (x : ℕ × ℕ). cond (test x) 1 0) p pairs ∙ ap (λ b. cond b 1 0 + count_by test pairs) fails in
      some_counted test P Goal pairs each all.1 (omega (arith, some, same))
]

-- ---- addresses that ran

ran_is : (class : RangeClass) → is_class Ran class ≡ true → class ≡ Ran
ran_is Ran is = refl
ran_is Reversed is = absurd (true≢false (sym is))
ran_is RangeOutside is = absurd (true≢false (sym is))
ran_is Crossing is = absurd (true≢false (sym is))

-- an address in a range that ran is asked for where the first one is
in_range : (function : ℕ → Option ℕ) (marks : List Bool) (address to from : ℕ) → AsksAt function marks to
    → (is_class Ran (range_class function to from) && (nat_le to address && nat_le address from)) ≡ true → AsksAt function marks address
in_range function marks address to from asked over =
    let ran = and_parts (is_class Ran (range_class function to from)) (nat_le to address && nat_le address from) over in
    let ends = and_parts (nat_le to address) (nat_le address from) ran.1 in
    let one = (ran_is_one_function function to from).0 (ran_is (range_class function to from) ran.0) in
    ap (asks marks) (one.2 address (leb-true to address ends.0) (leb-true address from ends.1)) ∙ asked

-- ---- by the functions that a binary has

module _ (one other : ℕ → Option ℕ) (same : (address : ℕ) → one address ≡ other address) (marks : List Bool) where
  asks_same : (address : ℕ) → AsksAt one marks address → AsksAt other marks address
  asks_same address asked = ap (asks marks) (sym (same address)) ∙ asked

  pub rows_same : (rows : List Pair) → All (AsksEnds one marks) rows → All (AsksEnds other marks) rows
  rows_same rows all = All-weaker (AsksEnds one marks) (AsksEnds other marks)
      (λ row ends. record { from = asks_same row.from ends.from; to = asks_same row.to ends.to }) rows all

  pub blocks_same : (funs : List Fun) → All (λ (fun : Fun). AsksBlocks one marks fun.blocks) funs → All (λ (fun : Fun). AsksBlocks other marks fun.blocks) funs
  blocks_same funs all = All-weaker (λ (fun : Fun). AsksBlocks one marks fun.blocks) (λ (fun : Fun). AsksBlocks other marks fun.blocks)
      (λ fun asked. All-weaker (AsksBlock one marks) (AsksBlock other marks) (λ block inside address low high. asks_same address (inside address low high)) fun.blocks asked) funs all

-- ---- all together

module _ (file : List ℕ) (base : Bool) (marks : List Bool) (placed : Placed) where
  -- the place of an address that was asked for is that of the binary
  place_asked : (address : ℕ) → AsksAt (function_of_address file) marks address
      → (program_asked file base marks placed).place address ≡ (program_of file base).place address
  place_asked address asked = ap (λ b. if b then place_of_address file base address else lack_of (place_told placed.map address)) asked

  pub answers_alike : (sampled : Sampled) (branches ranges : List Pair) → Tallies sampled.branches branches → Tallies sampled.ranges ranges
      → All (AsksEnds (function_of_address file) marks) branches → All (AsksEnds (function_of_address file) marks) ranges
      → AnswerAlike sampled (program_asked file base marks placed) (program_of file base)
  answers_alike sampled branches ranges of_branches of_ranges ends ran =
      let function = function_of_address file in
      let from : ℕ × ℕ → Bool = λ p. asks marks (function p.0) in
      let to : ℕ × ℕ → Bool = λ p. asks marks (function p.1) in
      let all_from = all_pass from sampled.branches branches of_branches
      (All-weaker (AsksEnds function marks) (λ (row : Pair). from (pair_of row) ≡ true) (λ row asked. asked.from) branches ends) in
      let all_to = all_pass to sampled.branches branches of_branches
      (All-weaker (AsksEnds function marks) (λ (row : Pair). to (pair_of row) ≡ true) (λ row asked. asked.to) branches ends) in
      let all_ran = all_pass from sampled.ranges ranges of_ranges
      (All-weaker (AsksEnds function marks) (λ (row : Pair). from (pair_of row) ≡ true) (λ row asked. asked.from) ranges ran) in
      record {
        function = λ address. refl;
        entered = λ branch there. refl;
        from = λ branch there. place_asked branch.0 (All-contains (λ (p : ℕ × ℕ). from p ≡ true) sampled.branches branch all_from there);
        to = λ branch there. place_asked branch.1 (All-contains (λ (p : ℕ × ℕ). to p ≡ true) sampled.branches branch all_to there);
        ran = λ address some. place_asked address
            (some_counted (ran_over (program_asked file base marks placed) address) (λ p. from p ≡ true) (AsksAt function marks address) sampled.ranges
            (λ range asked over. in_range function marks address range.0 range.1 asked over)
            (recursion_from_All (λ (p : ℕ × ℕ). from p ≡ true) sampled.ranges all_ran) some);
        factor = λ address some. refl;
      }

  pub blocks_alike : (funs : List Fun) → All (λ (fun : Fun). AsksBlocks (function_of_address file) marks fun.blocks) funs
      → AreAlikeInBlocks (program_asked file base marks placed) (program_of file base) (map function_of funs)
  blocks_alike funs all =
      let alike = AreAlikeIn (program_asked file base marks placed) (program_of file base) in
      let in_fun : Function → Type 0 = λ fun. AllByRecursion alike fun.blocks in
      recursion_from_All in_fun (map function_of funs)
      (All-map in_fun function_of funs
      (All-weaker (λ (fun : Fun). AsksBlocks (function_of_address file) marks fun.blocks) (λ (fun : Fun). in_fun (function_of fun))
      (λ fun asked. recursion_from_All alike fun.blocks
      (All-weaker (AsksBlock (function_of_address file) marks) alike (λ block inside address low high. place_asked address (inside address low high)) fun.blocks asked)) funs all))
