-- The definitions on worked values.
use Rattle.std.proofs.Common.{◌≡◌, Bool, List, [], ◌∷◌, ◌++◌, refl, Some, None, true, false, codes, ℕ, Option, replicate}
use Rattle.refusal.specs.declared.kind.Kind.{Kind}
use Rattle.refusal.specs.declared.kind.Kind.TheVariants.{BadLine, TooManyBlocks, BlockOrder, BlockEmpty, BlockOverlap, NoBlocks, NoEndLine, BadBound, EdgeEnd, EdgeTwice}
use Rattle.refusal.specs.declared.place.Place.{Place}
use Rattle.text_model.specs.Fields.{fields_of}
use Rattle.text_model.specs.Lines.{lines_of}
use Rattle.text_model.specs.Numbers.{number_of, prefixed_of}
use Rattle.block_model.specs.declared.parts.Block.{Block}
use Rattle.block_model.specs.declared.parts.Bound.{Bound}
use Rattle.block_model.specs.declared.parts.Edge.{Edge}
use Rattle.block_model.specs.Judging.{cause_of_block, cause_of_edge, cause_of_line, items_from, first_bad_of_text}
use Rattle.block_model.specs.Line.{place_of, address_of, bounded_by, count_of, bound_by_word, bound_by_words, bound_of, block_line_of, edge_line_of, line_by_fields, line_of}
use Rattle.block_model.specs.Line.{passed, tells_block, tells_edge}
use Rattle.block_model.specs.Text.{functions_from, functions_of}

a_block_line : line_of (codes " block 1\t0x8 0x10 exit lo=2 hi=03") ≡ Some (tells_block 1 (record { lo = 8; hi = 16; exit = true; bound = record { lower = 2; upper = Some 3 } }))
unfolding line_of line_by_fields block_line_of place_of address_of bound_of bound_by_words bounded_by count_of fields_of number_of prefixed_of
a_block_line = refl

an_edge_line : line_of (codes "edge 0 1 never") ≡ Some (tells_edge 0 1 (record { lower = 0; upper = Some 0 }))
unfolding line_of line_by_fields edge_line_of place_of bound_of bound_by_word fields_of number_of
an_edge_line = refl

an_edge_never_ran : line_of (codes "edge 0 1 ran") ≡ None
unfolding line_of line_by_fields edge_line_of place_of bound_of bound_by_word bounded_by count_of fields_of number_of
an_edge_never_ran = refl

two_words_of_bounds : line_of (codes "block 0 0x1 0x2 never ran") ≡ None
unfolding line_of line_by_fields block_line_of place_of address_of bound_of bound_by_words bounded_by count_of fields_of number_of prefixed_of
two_words_of_bounds = refl

a_comment : line_of (codes "# block") ≡ Some passed
unfolding line_of
a_comment = refl

no_comment_behind_a_space : line_of (codes " # block") ≡ None
unfolding line_of line_by_fields fields_of
no_comment_behind_a_space = refl

a_large_bound : line_of (codes "edge 0 1 lo=17592186044416") ≡ None
unfolding line_of line_by_fields edge_line_of place_of bound_of bound_by_word bounded_by count_of fields_of number_of
a_large_bound = refl

bad : List ℕ → Option Place
bad text = first_bad_of_text 2 text

at : ℕ → Kind → Option Place
at line kind = Some (record { file = 2; at = line; kind = kind })

out_of_order : bad (codes "func a\nblock 1 0x1 0x2\n") ≡ at 2 BlockOrder
unfolding bad at items_from cause_of_line cause_of_block line_of line_by_fields block_line_of place_of address_of bound_of fields_of number_of prefixed_of lines_of
out_of_order = refl

overlapping : bad (codes "func a\nblock 0 0x1 0x3\nblock 1 0x2 0x4\n") ≡ at 3 BlockOverlap
unfolding bad at items_from cause_of_line cause_of_block line_of line_by_fields block_line_of place_of address_of bound_of fields_of number_of prefixed_of lines_of
overlapping = refl

no_blocks : bad (codes "func a\nend\n") ≡ at 2 NoBlocks
unfolding bad at items_from cause_of_line line_of line_by_fields fields_of lines_of
no_blocks = refl

no_end : bad (codes "func a\nblock 0 0x1 0x2\n") ≡ at 3 NoEndLine
unfolding bad at items_from cause_of_line cause_of_block line_of line_by_fields block_line_of place_of address_of bound_of fields_of number_of prefixed_of lines_of
no_end = refl

a_bad_bound : bad (codes "func a\nblock 0 0x1 0x2 lo=3 hi=2") ≡ at 2 BadBound
unfolding bad at items_from cause_of_line cause_of_block line_of line_by_fields block_line_of place_of address_of bound_of bound_by_words bounded_by count_of fields_of number_of prefixed_of lines_of
a_bad_bound = refl

edges : (bad (codes "func a\nblock 0 0x1 0x2\nedge 0 1\n") ≡ at 3 EdgeEnd) × (bad (codes "func a\nedge 0 0\n") ≡ at 2 EdgeEnd)
    × (bad (codes "func a\nblock 0 0x1 0x2\nedge 0 0\nedge 0 0\n") ≡ at 4 EdgeTwice)
    × (bad (codes "func a\nblock 0 0x1 0x2\nedge 0 0\nblock 1 0x2 0x3\n") ≡ at 4 BadLine)
unfolding bad at items_from cause_of_line cause_of_block cause_of_edge line_of line_by_fields block_line_of edge_line_of place_of address_of bound_of fields_of number_of prefixed_of lines_of
edges = (refl, refl, refl, refl)

a_text : functions_of (codes "# two\nfunc a\nblock 0 0x1 0x2 exit\nedge 0 0\nend\n\nfunc a\nblock 0 0x1 0x2 ran\nend")
    ≡ record { name = codes "a"; blocks = record { lo = 1; hi = 2; exit = true; bound = record { lower = 0; upper = None } } ∷ []; edges = record { from = 0; to = 0; bound = record { lower = 0; upper = None } } ∷ [] }
    ∷ record { name = codes "a"; blocks = record { lo = 1; hi = 2; exit = false; bound = record { lower = 1; upper = None } } ∷ []; edges = [] } ∷ []
unfolding functions_from line_of line_by_fields block_line_of edge_line_of place_of address_of bound_of bound_by_word fields_of number_of prefixed_of lines_of
a_text = refl

-- blocks that overlap are named before a bad bound
overlap_before_bound : bad (codes "func a\nblock 0 0x1 0x3\nblock 1 0x2 0x4 lo=3 hi=2\n") ≡ at 3 BlockOverlap
unfolding bad at items_from cause_of_line cause_of_block line_of line_by_fields block_line_of place_of address_of bound_of bound_by_words bounded_by count_of fields_of number_of prefixed_of lines_of
overlap_before_bound = refl

-- of two causes the earlier is named
causes_in_order : (bad (codes "func a\nblock 1 0x2 0x2\n") ≡ at 2 BlockOrder) × (bad (codes "func a\nblock 0 0x1 0x5\nblock 1 0x3 0x2\n") ≡ at 3 BlockEmpty)
    × (bad (codes "func a\nblock 0 0x1 0x2\nedge 0 1 lo=3 hi=2\n") ≡ at 3 EdgeEnd) × (bad (codes "func a\nblock 0 0x1 0x2\nedge 0 0\nedge 0 0 lo=3 hi=2\n") ≡ at 4 EdgeTwice)
    × (bad (codes "func a\nblock 0 0x1 0x2\nedge 0 0 lo=3 hi=2\n") ≡ at 3 BadBound)
unfolding bad at items_from cause_of_line cause_of_block cause_of_edge line_of line_by_fields block_line_of edge_line_of place_of address_of bound_of bound_by_words bounded_by count_of fields_of number_of prefixed_of lines_of
causes_in_order = (refl, refl, refl, refl, refl)

-- blocks that touch do not overlap, whichever comes first
touching : (bad (codes "func a\nblock 0 0x2 0x3\nblock 1 0x3 0x4\nblock 2 0x1 0x2\nend\n") ≡ None) × (bad (codes "func a\nblock 0 0x2 0x2\n") ≡ at 2 BlockEmpty)
unfolding bad at items_from cause_of_line cause_of_block line_of line_by_fields block_line_of place_of address_of bound_of fields_of number_of prefixed_of lines_of
touching = (refl, refl)

-- an edge to block 2^32 leads to no block; to block 2^64, to no number
far_ends : (bad (codes "func a\nblock 0 0x1 0x2\nedge 0 4294967296\n") ≡ at 3 EdgeEnd) × (bad (codes "func a\nblock 0 0x1 0x2\nedge 4294967296 0\n") ≡ at 3 EdgeEnd)
    × (bad (codes "func a\nblock 0 0x1 0x2\nedge 0 18446744073709551616\n") ≡ at 3 BadLine)
unfolding bad at items_from cause_of_line cause_of_block cause_of_edge line_of line_by_fields block_line_of edge_line_of place_of address_of bound_of fields_of number_of prefixed_of lines_of
far_ends = (refl, refl, refl)

-- an edge and the one back are two; a bound may be a single number
both_ways : bad (codes "func a\nblock 0 0x1 0x2\nblock 1 0x2 0x3\nedge 0 1\nedge 1 0 lo=2 hi=2\nend\n") ≡ None
unfolding bad at items_from cause_of_line cause_of_block cause_of_edge line_of line_by_fields block_line_of edge_line_of place_of address_of bound_of bound_by_words bounded_by count_of fields_of number_of prefixed_of lines_of
both_ways = refl

past_64_bits : (line_of (codes "block 18446744073709551616 0x1 0x2") ≡ None) × (line_of (codes "block 0 0x1 0x10000000000000000") ≡ None)
unfolding line_of line_by_fields block_line_of place_of address_of bound_of fields_of number_of prefixed_of
past_64_bits = (refl, refl)

-- ---- the generated block text of two functions

abbrev free : Bound
free = record { lower = 0; upper = None }

abbrev part : ℕ → ℕ → Bool → Block
part lo hi exit = record { lo = lo; hi = hi; exit = exit; bound = free }

abbrev way : ℕ → ℕ → Edge
way from to = record { from = from; to = to; bound = free }

two_generated : functions_of (
    codes "func f0000\nblock 0 0x401000 0x401008\nblock 1 0x401008 0x401010\nblock 2 0x401010 0x401020\n"
    ++ codes "block 3 0x401020 0x401040 exit\nedge 0 1\nedge 0 2\nedge 1 3\nedge 2 3\nend\n"
    ++ codes "func f0001\nblock 0 0x401040 0x401048\nblock 1 0x401048 0x401050\nblock 2 0x401050 0x401060\n"
    ++ codes "block 3 0x401060 0x401080 exit\nedge 0 1\nedge 0 2\nedge 1 3\nedge 2 3\nend\n")
    ≡ record {
      name = codes "f0000";
      blocks = part 0x401000 0x401008 false ∷ part 0x401008 0x401010 false ∷ part 0x401010 0x401020 false ∷ part 0x401020 0x401040 true ∷ [];
      edges = way 0 1 ∷ way 0 2 ∷ way 1 3 ∷ way 2 3 ∷ [];
    }
    ∷ record {
      name = codes "f0001";
      blocks = part 0x401040 0x401048 false ∷ part 0x401048 0x401050 false ∷ part 0x401050 0x401060 false ∷ part 0x401060 0x401080 true ∷ [];
      edges = way 0 1 ∷ way 0 2 ∷ way 1 3 ∷ way 2 3 ∷ [];
    }
    ∷ []
unfolding functions_from line_of line_by_fields block_line_of edge_line_of place_of address_of bound_of bound_by_word fields_of number_of prefixed_of lines_of
two_generated = refl

-- numbers, addresses and bounds up to their ends; a bound by one number, and behind `exit`
up_to_the_ends : (line_of (codes "edge 18446744073709551615 0 lo=17592186044415") ≡ Some (tells_edge 0xffffffffffffffff 0 (record { lower = 17592186044415; upper = None })))
    × (line_of (codes "edge 0 1 hi=5") ≡ Some (tells_edge 0 1 (record { lower = 0; upper = Some 5 })))
    × (line_of (codes "block 0 0x1 0xffffffffffffffff exit ran") ≡ Some (tells_block 0 (record { lo = 1; hi = 0xffffffffffffffff; exit = true; bound = record { lower = 1; upper = None } })))
unfolding line_of line_by_fields block_line_of edge_line_of place_of address_of bound_of bound_by_word bounded_by count_of fields_of number_of prefixed_of
up_to_the_ends = (refl, refl, refl)

-- a line outside of functions, one inside another, fields too many, and a block behind an edge, whatever else it lacks
out_of_place : (bad (codes "block 0 0x1 0x2\n") ≡ at 1 BadLine) × (bad (codes "func a\nblock 0 0x1 0x2\nfunc b\n") ≡ at 3 BadLine)
    × (bad (codes "func a b\n") ≡ at 1 BadLine) × (bad (codes "func a\nblock 0 0x1 0x2\nend end\n") ≡ at 3 BadLine)
    × (bad (codes "func a\nblock 0 0x1 0x2\nedge 0 0\nblock 5 0x3 0x2\n") ≡ at 4 BadLine)
unfolding bad at items_from cause_of_line cause_of_block cause_of_edge line_of line_by_fields block_line_of edge_line_of place_of address_of bound_of bound_by_word fields_of number_of prefixed_of lines_of
out_of_place = (refl, refl, refl, refl, refl)

-- as many blocks as a function may have, and one more
behind_blocks : ℕ → Option Kind
behind_blocks many =
    cause_of_block (record { name = []; blocks = replicate many (record { lo = 1; hi = 2; exit = false; bound = record { lower = 0; upper = None } }); edges = [] })
    7 (record { lo = 2; hi = 3; exit = false; bound = record { lower = 0; upper = None } })

most_blocks : (behind_blocks 65535 ≡ Some BlockOrder) × (behind_blocks 65536 ≡ Some TooManyBlocks)
unfolding behind_blocks cause_of_block
most_blocks = (refl, refl)
