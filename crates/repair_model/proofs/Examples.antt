-- The definitions on worked values.
use Rattle.std.proofs.Common.{◌≡◌, List, [], ◌∷◌, ◌++◌, refl, Some, None, Bool, true, false, codes, ℕ, Option}
use Rattle.std.specs.Prelude.{ℤ, pos, negsuc}
use Rattle.std.specs.Fmt.{digits}
use Rattle.refusal.specs.declared.kind.Kind.{Kind}
use Rattle.refusal.specs.declared.kind.Kind.TheVariants.{BadLine, Extra, Missing, WrongFunction, WrongBlock, WrongEdge}
use Rattle.refusal.specs.declared.place.Place.{Place}
use Rattle.text_model.specs.Fields.{fields_of}
use Rattle.text_model.specs.Lines.{lines_of}
use Rattle.text_model.specs.Numbers.{number_of, signed_of}
use Rattle.block_model.specs.declared.parts.Block.{Block}
use Rattle.block_model.specs.declared.parts.Bound.{Bound}
use Rattle.block_model.specs.declared.parts.Edge.{Edge}
use Rattle.block_model.specs.declared.parts.Weight.{Weight}
use Rattle.block_model.specs.declared.parts.Weight.TheVariants.{Unknown, Known}
use Rattle.block_model.specs.Function.{Function}
use Rattle.block_model.specs.Line.{place_of, count_of}
use Rattle.repair_model.specs.Checking.{failed_in, failed_line}
use Rattle.repair_model.specs.Judging.{cause_of_block, cause_of_edge, cause_of_end, cause_inside, cause_of_begin, cause_of_line, items_from, first_bad_of_repairs}
use Rattle.repair_model.specs.Laws.{numbered_repairs, text_of_repairs}
use Rattle.repair_model.specs.Line.{line_text, weight_of, price_of, sum_of, bit_of, function_line_of, counted_of, sided_of, weighed_of, block_line_of, taken_of, joined_of, edge_line_of, end_line_of, line_by_fields, line_of}
use Rattle.repair_model.specs.Line.{tells_count}
use Rattle.repair_model.specs.Repair.{Repair, flow, cut}
use Rattle.repair_model.specs.Text.{lines_of_repair, repair_text, course_behind, closed_by, repairs_from, repairs_of}

abbrev none : Bound
none = record { lower = 0; upper = None }

abbrev block : Block
block = record { lo = 1; hi = 2; exit = false; bound = none }

abbrev edge : ℕ → ℕ → Edge
edge from to = record { from = from; to = to; bound = none }

-- ---- a choice of two ways: from block 0 by block 1 or 2 to block 3

abbrev two_ways : Function
two_ways = record {
  name = codes "f0000";
  blocks = block ∷ block ∷ block ∷ block ∷ [];
  edges = edge 0 1 ∷ edge 0 2 ∷ edge 1 3 ∷ edge 2 3 ∷ [];
}

abbrev unknown : List Weight
unknown = Unknown ∷ Unknown ∷ Unknown ∷ Unknown ∷ []

-- sampled 100, 60, 0 and 100 times
abbrev repaired : Repair
repaired = record {
  weights = Known 100 ∷ Known 60 ∷ Known 0 ∷ Known 100 ∷ [];
  edge_weights = unknown;
  solution = flow (record { blocks = 100 ∷ 100 ∷ 0 ∷ 100 ∷ []; edges = 100 ∷ 0 ∷ 100 ∷ 0 ∷ [] })
      (pos 0 ∷ pos 0 ∷ pos 0 ∷ pos 10 ∷ []) (pos 0 ∷ pos 10 ∷ pos 10 ∷ pos 0 ∷ []);
  first = 400;
  second = 0;
}

abbrev repaired_text : List ℕ
repaired_text = codes "# function f0000 flow\n# block 0 weight 100 count 100 in 0 out 0\n# block 1 weight 60 count 100 in 0 out 10\n# block 2 weight 0 count 0 in 0 out 10\n# block 3 weight 100 count 100 in 10 out 0\n# edge 0 1 count 100\n# edge 0 2 count 0\n# edge 1 3 count 100\n# edge 2 3 count 0\n# end 400\n"

it_is_written : repair_text false two_ways repaired ≡ repaired_text
unfolding lines_of_repair digits
it_is_written = refl

-- sampled 1, 1, 1 and 2 times, and each edge once
abbrev each_once : Repair
each_once = record {
  weights = Known 1 ∷ Known 1 ∷ Known 1 ∷ Known 2 ∷ [];
  edge_weights = Known 1 ∷ Known 1 ∷ Known 1 ∷ Known 1 ∷ [];
  solution = flow (record { blocks = 2 ∷ 1 ∷ 1 ∷ 2 ∷ []; edges = 1 ∷ 1 ∷ 1 ∷ 1 ∷ [] })
      (pos 0 ∷ pos 40 ∷ pos 40 ∷ pos 20 ∷ []) (pos 40 ∷ pos 20 ∷ pos 20 ∷ pos 0 ∷ []);
  first = 40;
  second = 0;
}

with_edges : repair_text true two_ways each_once
    ≡ codes "# function f0000 flow\n# block 0 weight 1 count 2 in 0 out 40\n# block 1 weight 1 count 1 in 40 out 20\n# block 2 weight 1 count 1 in 40 out 20\n# block 3 weight 2 count 2 in 20 out 0\n# edge 0 1 weight 1 count 1\n# edge 0 2 weight 1 count 1\n# edge 1 3 weight 1 count 1\n# edge 2 3 weight 1 count 1\n# end 40\n"
unfolding lines_of_repair digits
with_edges = refl

-- ---- a loop without an exit

abbrev loop : Function
loop = record { name = codes "loop"; blocks = block ∷ block ∷ []; edges = edge 0 1 ∷ edge 1 0 ∷ [] }

abbrev no_way_out : Repair
no_way_out = record {
  weights = Known 5 ∷ Known 0 ∷ [];
  edge_weights = [];
  solution = cut false (true ∷ true ∷ []) (true ∷ true ∷ []);
  first = 1;
  second = 0;
}

a_cut_is_written : repair_text false loop no_way_out ≡ codes "# function loop cut 0\n# block 0 weight 5 in 1 out 1\n# block 1 weight 0 in 1 out 1\n# end 1 0\n"
unfolding lines_of_repair digits
a_cut_is_written = refl

an_unknown_block : line_text (tells_count 1 Unknown 100 (pos 0) (negsuc 9)) ≡ codes "# block 1 weight ? count 100 in 0 out -10"
unfolding digits
an_unknown_block = refl

-- ---- reading

they_are_read : repairs_of (two_ways ∷ loop ∷ []) (codes "f0000:260:0\n 0: 100\n" ++ (repaired_text ++ codes "# entries 1\n# function  loop cut 00\n# block 0 weight 05 in 1 out 01\n#\tblock 1 weight 0 in 1 out 1\n# end 1 0"))
    ≡ (3, repaired) ∷ (14, no_way_out) ∷ []
unfolding repairs_from course_behind closed_by line_of line_by_fields block_line_of edge_line_of end_line_of function_line_of weighed_of counted_of sided_of joined_of taken_of weight_of price_of sum_of bit_of place_of count_of fields_of number_of signed_of lines_of
they_are_read = refl

bad : List ℕ → Option Place
bad text = first_bad_of_repairs 2 (loop ∷ []) text

at : ℕ → Kind → Option Place
at line kind = Some (record { file = 2; at = line; kind = kind })

good : bad (codes "# function loop flow\n# block 0 weight ? count 0 in -0 out 0\n# block 1 weight 17592186044415 count 18446744073709551615 in -9223372036854775808 out 9223372036854775807\n# edge 0 1 weight ? count 0\n# edge 1 0 count 0\n# end 340282366920938463463374607431768211455\n") ≡ None
unfolding bad items_from cause_of_line cause_inside cause_of_begin cause_of_block cause_of_edge cause_of_end course_behind line_of line_by_fields block_line_of edge_line_of end_line_of function_line_of weighed_of counted_of sided_of joined_of taken_of weight_of price_of sum_of bit_of place_of count_of fields_of number_of signed_of lines_of
good = refl

-- what the fields of a line can be in place of the one that is due, after the first line and one block
abbrev behind : List ℕ → Option Place
behind line = bad (codes "# function loop flow\n# block 0 weight ? count 0 in 0 out 0\n" ++ line)

a_bad_block : (behind (codes "# block 1 weight ? in 0 out 0\n") ≡ at 3 BadLine) × (behind (codes "# block 0 weight ? count 0 in 0 out 0\n") ≡ at 3 WrongBlock)
    × (behind (codes "# block 0 weight 17592186044416 count 0 in 0 out 0\n") ≡ at 3 BadLine)
    × (behind (codes "# block 0 weight 1 count 18446744073709551616 in 0 out 0\n") ≡ at 3 BadLine)
    × (behind (codes "# block 0 weight 1 count 1 in 9223372036854775808 out 0\n") ≡ at 3 BadLine)
    × (behind (codes "# block 0 weight 1 count 1 in 0 out -9223372036854775809\n") ≡ at 3 BadLine)
    × (behind (codes "# block 1 weight 1 count 1 in 0 out 0 \n# block 7 weight 0 count 0 in 0 out 0\n") ≡ at 4 Extra)
unfolding bad at items_from cause_of_line cause_inside cause_of_begin cause_of_block cause_of_edge cause_of_end course_behind line_of line_by_fields block_line_of edge_line_of end_line_of function_line_of weighed_of counted_of sided_of joined_of taken_of weight_of price_of sum_of bit_of place_of count_of fields_of number_of signed_of lines_of
a_bad_block = (refl, refl, refl, refl, refl, refl, refl)

another_bad_line : (behind (codes "# edge 0 1 count 1\n") ≡ at 3 Missing) × (behind (codes "# edge 0 1\n") ≡ at 3 BadLine)
    × (behind (codes "# end 0\n") ≡ at 3 Missing) × (behind (codes "# end 0 0\n") ≡ at 3 BadLine) × (behind (codes "\n") ≡ at 3 BadLine)
    × (behind (codes "# function loop flow\n") ≡ at 3 BadLine) × (behind [] ≡ at 3 Missing)
    × (behind (codes "# end 340282366920938463463374607431768211456\n") ≡ at 3 BadLine)
unfolding bad at items_from cause_of_line cause_inside cause_of_begin cause_of_block cause_of_edge cause_of_end course_behind line_of line_by_fields block_line_of edge_line_of end_line_of function_line_of weighed_of counted_of sided_of joined_of taken_of weight_of price_of sum_of bit_of place_of count_of fields_of number_of signed_of lines_of
another_bad_line = (refl, refl, refl, refl, refl, refl, refl, refl)

-- and after both blocks
abbrev further : List ℕ → Option Place
further line = behind (codes "# block 1 weight ? count 0 in 0 out 0\n" ++ line)

a_bad_edge : (further (codes "# edge 1 0 count 0\n") ≡ at 4 WrongEdge) × (further (codes "# end 0\n") ≡ at 4 Missing)
    × (further (codes "# edge 0 1 weight 1 count 0\n# edge 1 0 count 1\n# edge 1 0 count 1\n") ≡ at 6 Extra)
    × (further (codes "# edge 0 1 count 1 weight 1\n") ≡ at 4 BadLine)
unfolding bad at items_from cause_of_line cause_inside cause_of_begin cause_of_block cause_of_edge cause_of_end course_behind line_of line_by_fields block_line_of edge_line_of end_line_of function_line_of weighed_of counted_of sided_of joined_of taken_of weight_of price_of sum_of bit_of place_of count_of fields_of number_of signed_of lines_of
a_bad_edge = (refl, refl, refl, refl)

a_bad_first_line : (bad (codes "# function other flow\n") ≡ at 1 WrongFunction) × (bad (codes "# function loop cut 2\n") ≡ at 1 BadLine)
    × (bad (codes "# function loop\n") ≡ at 1 BadLine) × (bad (codes "#  function loop\n") ≡ at 2 Missing) × (bad [] ≡ at 1 Missing)
    × (first_bad_of_repairs 2 [] (codes "# function loop cut 0\n") ≡ at 1 Extra) × (first_bad_of_repairs 2 [] (codes "# function loop cut\n") ≡ at 1 BadLine)
unfolding bad at items_from cause_of_line cause_inside cause_of_begin cause_of_block cause_of_edge cause_of_end course_behind line_of line_by_fields block_line_of edge_line_of end_line_of function_line_of weighed_of counted_of sided_of joined_of taken_of weight_of price_of sum_of bit_of place_of count_of fields_of number_of signed_of lines_of
a_bad_first_line = (refl, refl, refl, refl, refl, refl, refl)

edges_of_a_cut : bad (codes "# function loop cut 0\n# block 0 weight 5 in 1 out 1\n# block 1 weight 0 in 1 out 1\n# edge 0 1 count 0\n") ≡ at 4 Extra
unfolding bad at items_from cause_of_line cause_inside cause_of_begin cause_of_block cause_of_edge cause_of_end course_behind line_of line_by_fields block_line_of edge_line_of end_line_of function_line_of weighed_of counted_of sided_of joined_of taken_of weight_of price_of sum_of bit_of place_of count_of fields_of number_of signed_of lines_of
edges_of_a_cut = refl

-- ---- what is written, and read again

they_are_numbered : numbered_repairs false 3 (two_ways ∷ loop ∷ []) (repaired ∷ no_way_out ∷ []) ≡ (3, repaired) ∷ (13, no_way_out) ∷ []
unfolding lines_of_repair
they_are_numbered = refl

-- a name that breaks its line
abbrev broken : Function
broken = record loop { name = codes "lo\nop" }

a_broken_name : first_bad_of_repairs 2 (broken ∷ []) (text_of_repairs false (broken ∷ []) (no_way_out ∷ [])) ≡ at 1 BadLine
unfolding at lines_of_repair digits items_from cause_of_line cause_of_begin course_behind line_of line_by_fields function_line_of fields_of lines_of
a_broken_name = refl

-- ---- tests of lines

abbrev way_out : Block
way_out = record { lo = 1; hi = 2; exit = true; bound = none }

abbrev with_exit : Function
with_exit = record two_ways { blocks = block ∷ block ∷ block ∷ way_out ∷ [] }

abbrev told_by : List ℕ → List ℤ → List ℤ → ℕ → Repair
told_by blocks ins outs cost = record repaired {
  solution = flow (record { blocks = blocks; edges = 100 ∷ 0 ∷ 100 ∷ 0 ∷ [] }) ins outs;
  first = cost;
}

-- the counts pass; a count, a cost and a price that fail, each at its line
counts_are_tested : (failed_in with_exit 1 repaired ≡ None)
    × (failed_in with_exit 1 (told_by (100 ∷ 100 ∷ 1 ∷ 100 ∷ []) (pos 0 ∷ pos 0 ∷ pos 0 ∷ pos 10 ∷ []) (pos 0 ∷ pos 10 ∷ pos 10 ∷ pos 0 ∷ []) 400) ≡ Some 4)
    × (failed_in with_exit 1 (told_by (100 ∷ 100 ∷ 0 ∷ 100 ∷ []) (pos 0 ∷ pos 0 ∷ pos 0 ∷ pos 10 ∷ []) (pos 0 ∷ pos 10 ∷ pos 10 ∷ pos 0 ∷ []) 401) ≡ Some 10)
    × (failed_in with_exit 1 (told_by (100 ∷ 100 ∷ 0 ∷ 100 ∷ []) (pos 0 ∷ pos 0 ∷ pos 0 ∷ pos 10 ∷ []) (pos 0 ∷ pos 9 ∷ pos 10 ∷ pos 0 ∷ []) 400) ≡ Some 3)
    × (failed_in with_exit 1 (told_by (100 ∷ 100 ∷ 0 ∷ 100 ∷ []) (pos 0 ∷ pos 0 ∷ pos 0 ∷ pos 10 ∷ []) (pos 10 ∷ pos 10 ∷ pos 10 ∷ pos 0 ∷ []) 400) ≡ Some 6)
counts_are_tested = (refl, refl, refl, refl, refl)

abbrev cut_by : List Bool → ℕ → ℕ → Repair
cut_by ins first second =
    record { weights = Known 5 ∷ Known 0 ∷ []; edge_weights = []; solution = cut false ins (true ∷ true ∷ []); first = first; second = second }

-- a loop that was entered and never left; an arc without a bound that leaves the set, and sums that are not its own;
-- of two functions the second fails, at block 1, where one unit less would save 10 and all prices are 0
cuts_are_tested : (failed_in loop 1 (cut_by (true ∷ true ∷ []) 1 0) ≡ None)
    × (failed_in loop 1 (cut_by (false ∷ true ∷ []) 1 0) ≡ Some 4)
    × (failed_in loop 1 (cut_by (true ∷ true ∷ []) 2 0) ≡ Some 4)
    × (failed_in loop 1 (cut_by (true ∷ true ∷ []) 1 1) ≡ Some 4)
    × (failed_line (loop ∷ with_exit ∷ []) ((1, cut_by (true ∷ true ∷ []) 1 0) ∷ (9, told_by (100 ∷ 100 ∷ 1 ∷ 100 ∷ []) [] [] 0) ∷ []) ≡ Some 11)
cuts_are_tested = (refl, refl, refl, refl, refl)
