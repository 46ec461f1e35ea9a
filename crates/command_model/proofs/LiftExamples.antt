-- The words and files of `lift` on worked values.
use Rattle.std.proofs.Common.{◌≡◌, ℕ, List, [], ◌∷◌, ◌++◌, Option, Some, None, refl, true, false}
use Rattle.std.specs.Prelude.{codes}
use Rattle.refusal.specs.declared.kind.Kind.{Kind}
use Rattle.refusal.specs.declared.kind.Kind.TheVariants.{BadIndent, BadLine, KeyTwice, Missing, WrongFunction}
use Rattle.refusal.specs.declared.place.Place.{Place}
use Rattle.text_model.specs.Fields.{fields_of}
use Rattle.text_model.specs.Lines.{lines_of}
use Rattle.text_model.specs.Numbers.{number_of, prefixed_of, signed_of}
use Rattle.block_model.specs.Function.{Function}
use Rattle.block_model.specs.Line as block
use Rattle.block_model.specs.Text.{functions_from, functions_of}
use Rattle.profile_model.specs.Judging as profile
use Rattle.profile_model.specs.Reading.{number_within, named_of, location_of, targets_of, call_of, line_below, function_of, is_passed, line_of}
use Rattle.profile_model.specs.Standing.{can_stand, way_above, ways_of, tells_again, again_among}
use Rattle.repair_model.specs.Judging as repair
use Rattle.repair_model.specs.Line as told
use Rattle.repair_model.specs.Text.{course_behind, closed_by, repairs_from}
use Rattle.command_model.specs.Command.{command_of, lift}
use Rattle.command_model.specs.Files.{failed_line, first_bad_of_built}
use Rattle.command_model.specs.Options.{Options, map_name, options_of}

abbrev plain : Options
plain = record { map = None; base = false; repairs = record { edges = false; scaled = false } }

abbrev based : Options
based = record { map = None; base = true; repairs = record { edges = false; scaled = false } }

-- three files, and no option but bases
words_of_lift : (command_of (codes "lift" ∷ codes "b" ∷ codes "c" ∷ codes "o" ∷ []) ≡ Some (lift plain (codes "b") (codes "c") (codes "o")))
    × (command_of (codes "lift" ∷ codes "--base" ∷ codes "b" ∷ codes "c" ∷ codes "o" ∷ []) ≡ Some (lift based (codes "b") (codes "c") (codes "o")))
    × (command_of (codes "lift" ∷ codes "--base" ∷ codes "--base" ∷ codes "b" ∷ codes "c" ∷ codes "o" ∷ []) ≡ None)
    × (command_of (codes "lift" ∷ codes "--map=y" ∷ codes "b" ∷ codes "c" ∷ codes "o" ∷ []) ≡ None)
    × (command_of (codes "lift" ∷ codes "--edges" ∷ codes "b" ∷ codes "c" ∷ codes "o" ∷ []) ≡ None)
    × (command_of (codes "lift" ∷ codes "b" ∷ codes "c" ∷ []) ≡ None)
    × (command_of (codes "lift" ∷ codes "b" ∷ codes "c" ∷ codes "o" ∷ codes "o" ∷ []) ≡ None)
unfolding command_of options_of map_name
words_of_lift = (refl, refl, refl, refl, refl, refl, refl)

-- ---- what was built of a function of one block

abbrev blocks : List ℕ
blocks = codes "func f\nblock 0 0x1 0x2 exit\nend\n"

functions : List Function
functions = functions_of blocks

bad : List ℕ → Option Place
bad text = first_bad_of_built 3 functions text

at : ℕ → Kind → Option Place
at line kind = Some (record { file = 3; at = line; kind = kind })

-- a repair whose count is its weight
abbrev repair_at_cost : List ℕ → List ℕ
repair_at_cost cost = codes "# function f flow\n# block 0 weight 5 count 5 in 0 out 0\n# end " ++ (cost ++ codes "\n")

-- all lines are judged as those of a profile before any is judged as that of a repair
judged : (bad (codes "f:5:0\n 0: 5\n" ++ (repair_at_cost (codes "0") ++ codes "# entries 1\n")) ≡ None)
    × (bad (codes "# function g flow\nf:1:1\n  1: 1\n") ≡ at 3 BadIndent)
    × (bad (codes "# function g flow\nf:1:1\nf:1:1\n") ≡ at 3 KeyTwice)
    × (bad (codes "f:5:0\n# function g flow\n") ≡ at 2 WrongFunction)
    × (bad (codes "f:5:0\n# function f\n") ≡ at 2 BadLine)
    × (bad (codes "f:5:0\n") ≡ at 2 Missing)
unfolding bad at functions first_bad_of_built profile.kept_lines profile.items_from profile.cause_of is_passed can_stand way_above ways_of tells_again again_among number_within named_of location_of targets_of call_of line_below function_of line_of repair.items_from repair.cause_of_line repair.cause_inside repair.cause_of_begin repair.cause_of_block repair.cause_of_edge repair.cause_of_end course_behind told.line_of told.line_by_fields told.block_line_of told.edge_line_of told.end_line_of told.function_line_of told.weighed_of told.counted_of told.sided_of told.joined_of told.taken_of told.weight_of told.price_of told.sum_of told.bit_of functions_from block.place_of block.address_of block.bound_of block.block_line_of block.line_by_fields block.line_of block.count_of fields_of lines_of number_of prefixed_of signed_of
judged = (refl, refl, refl, refl, refl, refl)

-- the line that fails is one of the third file
failing : (failed_line (lift plain [] [] []) ([] ∷ blocks ∷ repair_at_cost (codes "0") ∷ []) ≡ None)
    × (failed_line (lift plain [] [] []) ([] ∷ blocks ∷ (codes "f:5:0\n 0: 5\n" ++ repair_at_cost (codes "1")) ∷ []) ≡ Some 5)
unfolding repairs_from closed_by course_behind told.line_of told.line_by_fields told.block_line_of told.edge_line_of told.end_line_of told.function_line_of told.weighed_of told.counted_of told.sided_of told.joined_of told.taken_of told.weight_of told.price_of told.sum_of told.bit_of functions_from block.place_of block.address_of block.bound_of block.block_line_of block.line_by_fields block.line_of block.count_of fields_of lines_of number_of prefixed_of signed_of
failing = (refl, refl)
