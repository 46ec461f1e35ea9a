-- The definitions on worked values.
use Rattle.std.proofs.Common.{◌≡◌, ◌≤◌, ℕ, zero, suc, nat_lt, nat_eq, false, true, List, [], ◌∷◌, ◌++◌, None, Some, refl, sym, append-nil, arith}
use Rattle.std.specs.Prelude.{codes, map, if◌then◌else◌}
use Rattle.std.specs.Fmt.{digits}
use Rattle.std.specs.List.{range_with_len}
use Rattle.text_model.specs.Numbers.{hex_text}
use Rattle.block_model.specs.declared.parts.Block.{Block}
use Rattle.block_model.specs.declared.parts.Weight.TheVariants.{Known}
use Rattle.block_model.specs.Function.{Function, unbounded}
use Rattle.flow_model.specs.Network.{Network, free_arc, network_of}
use Rattle.profile_model.specs.Profile.{Profile, body_line, call_line, function_line, lines_of}
use Rattle.profile_model.specs.Text.{profile_text, text_of_lines}
use Rattle.profile_model.specs.Ways.{to_body, to_call, to_function}
use Rattle.report_model.specs.Report.{Sampled, report_text}
use Rattle.binary_model.specs.Places.{Place, outside, nameless, no_line, at_way}
use Rattle.repair_model.specs.Repair.{Repair, Solution, cut, flow}
use Rattle.cold_model.specs.Cold.{lines_with}
use Rattle.scaling_model.specs.Bound.{StartWithin, most_digits}
use Rattle.output_model.specs.Cold.{cold_lines_among}
use Rattle.output_model.specs.Lift.{addresses_of, held_by, lifted}
use Rattle.output_model.specs.Program.{Program, way_at}
use Rattle.output_model.specs.Sampled.{class_of_places, classes_of, hits_of, profile_among}
use Rattle.report_model.specs.declared.class.Class.TheVariants.{Unmapped}
use Rattle.report_model.specs.declared.class.Reason.TheVariants.{FromNameless, ToNameless}
use Rattle.output_model.specs.Built.{IsBuilt}
use Rattle.output_model.specs.Scaled.{AreAugmentations, IsBuiltBy, augmentations_line}
use Rattle.output_model.specs.Summary.{costs_in, cuts_in, summary_text, totals_in}

-- a function `f` from 16 up to 32, entered at 16, with a call of `g` from 20 up to 24, whose code was copied three times
f_place : ℕ → Place
f_place a = if nat_lt a 20 then at_way (to_function (codes "f") ∷ to_body 0 0 ∷ []) else (
    if nat_lt a 24 then at_way (to_function (codes "f") ∷ to_call 2 1 (codes "g") ∷ to_body 1 0 ∷ [])
    else (if nat_lt a 28 then at_way (to_function (codes "f") ∷ to_body 3 0 ∷ []) else no_line))

program : Program
program = record {
  place = λ a. if nat_lt a 16 then outside else (if nat_lt a 32 then f_place a else outside);
  function = λ a. if nat_lt a 16 then None else (if nat_lt a 32 then Some 7 else None);
  entered = λ a. if nat_eq a 16 then Some (codes "f") else None;
  factor = λ a. if nat_lt a 20 then 1 else (if nat_lt a 24 then 3 else 1);
}

sampled : Sampled
sampled = record {
  branches = (27, 16) ∷ (30, 16) ∷ (27, 16) ∷ (18, 24) ∷ (30, 18) ∷ (18, 40) ∷ (9, 9) ∷ [];
  ranges = (16, 21) ∷ (16, 18) ∷ (21, 20) ∷ (24, 27) ∷ (24, 26) ∷ (0, 0) ∷ (20, 40) ∷ [];
  units_read = 1;
  units_passed = 0;
}

-- two ranges ran over 16 to 18, one over 19 to 21, none over 22 and 23
hits : map (hits_of program sampled) (range_with_len 15 14) ≡ 0 ∷ 2 ∷ 2 ∷ 2 ∷ 1 ∷ 1 ∷ 1 ∷ 0 ∷ 0 ∷ 2 ∷ 2 ∷ 2 ∷ 1 ∷ 0 ∷ []
unfolding program sampled
hits = refl

profile : profile_text (profile_among (range_with_len 0 48) program sampled)
    ≡ codes "f:7:3\n 0: 2\n 3: 2 f:2\n 2.1: g:3\n  1: 3\n"
unfolding lines_of text_of_lines digits program f_place sampled
profile = refl

report : report_text (classes_of program) sampled
    ≡ codes "# branches 7\n# entries 3\n# inside 1\n# unmapped FromOutside 0x9 0x9 1\n# unmapped FromNoLine 0x1e 0x12 1\n# unmapped ToOutside 0x12 0x28 1\n# ranges ran 4\n# ranges reversed 1\n# ranges outside 2\n# ranges crossing 0\n# units read 1 passed 0\n"
unfolding report_text digits hex_text program f_place sampled
report = refl

-- what a summary says, of two functions and a call in the first; of two repairs by counts and a cut
line_of_summary : (summary_text (record { functions = 1; branches = 5; total = 7; cost = 40; cuts = 0 }) ≡ codes "functions 1 branches 5 total 7 cost 40 cuts 0\n")
    × (totals_in (function_line (codes "f") 7 1 ∷ body_line 1 0 0 4 [] ∷ call_line 1 2 1 (codes "g") 3 ∷ body_line 2 1 0 3 [] ∷ function_line (codes "h") 5 0 ∷ []) ≡ 12)
    × (costs_in (Some 40 ∷ None ∷ Some 2 ∷ []) ≡ 42) × (cuts_in (Some 40 ∷ None ∷ Some 2 ∷ []) ≡ 1)
unfolding summary_text digits
line_of_summary = (refl, refl, refl, refl)

block : ℕ → ℕ → Block
block lo hi = record { lo = lo; hi = hi; exit = false; bound = unbounded }

repaired_by : Solution → Repair
repaired_by solution = record { weights = []; edge_weights = []; solution = solution; first = 0; second = 0 }

-- counts 5 and 9 of two blocks, 7 of one that lies over both, and a cut, whose block counts for nothing
repaired : List (Function × Repair)
repaired = (
  record { name = codes "f"; blocks = block 16 24 ∷ block 24 32 ∷ []; edges = [] },
  repaired_by (flow (record { blocks = 5 ∷ 9 ∷ []; edges = [] }) [] []),
)
    ∷ (
      record { name = codes "h"; blocks = block 20 28 ∷ []; edges = [] },
      repaired_by (flow (record { blocks = 7 ∷ []; edges = [] }) [] []),
    )
    ∷ (record { name = codes "k"; blocks = block 16 32 ∷ []; edges = [] }, repaired_by (cut false [] [])) ∷ []

plain : Profile
plain = record {
  counts = (to_function (codes "f") ∷ to_body 3 0 ∷ [], 2) ∷ (to_function (codes "f") ∷ to_body 8 0 ∷ [], 4) ∷ [];
  calls = (to_function (codes "f") ∷ to_body 3 0 ∷ [], codes "f", 2) ∷ [];
  heads = (codes "f", 3) ∷ [];
}

-- what is held has the largest count, another line, the call and the entries keep theirs, and totals are summed anew
lift : profile_text (lifted (held_by (way_at program) repaired) plain)
    ≡ codes "f:25:3\n 0: 5\n 3: 9 f:2\n 8: 4\n 2.1: g:7\n  1: 7\n"
unfolding lines_of text_of_lines digits held_by program f_place repaired block repaired_by plain
lift = refl

-- each other line of f has the count 0, a call of which no line ran the total 0, and a line that the program has not stays
cold : text_of_lines (cold_lines_among (range_with_len 0 48) program plain)
    ≡ codes "f:6:3\n 0: 0\n 3: 2 f:2\n 8: 4\n 2.1: g:0\n  1: 0\n"
unfolding lines_with text_of_lines digits program f_place plain
cold = refl

-- nothing is written where no function of the profile stands in the program, but the profile
not_of_the_program : text_of_lines (cold_lines_among (range_with_len 0 48) program (record { counts = []; calls = []; heads = (codes "h", 1) ∷ [] })) ≡ codes "h:0:1\n"
unfolding lines_with text_of_lines digits program f_place
not_of_the_program = refl

-- ---- the bound on augmentations

-- a function of one block, which is its exit, was sampled 5 times and ran at least so often
abbrev single : ℕ → Network
single least =
    network_of (record { lo = 1; hi = 2; exit = true; bound = record { lower = least; upper = None } } ∷ []) [] (Known 5 ∷ []) []

-- 5 has three binary digits
three_digits : StartWithin 3 (single 0)
three_digits zero d within = omega arith
three_digits (suc zero) d within = omega arith
three_digits (suc (suc zero)) d within = omega arith
three_digits (suc (suc (suc k))) d within = absurd (omega (arith, within))

-- four phases of 32 * 2 augmentations, and no more
at_most_256 : (count : ℕ) → AreAugmentations (single 0) count → count ≤ 256
at_most_256 count are = let most = are.few 3 three_digits in omega (arith, most)

-- none where a count to start from has 37 digits, and some may be where it has 36
none_from_so_many : (count : ℕ) → AreAugmentations (single 68719476736) count → count ≡ 0
none_from_so_many count are =
    are.none (λ small. let start = small 1 (free_arc 0 1 0) (omega arith) in omega (arith, start))

within_36_digits : StartWithin most_digits (single 68719476735)
within_36_digits zero d within = omega arith
within_36_digits (suc zero) d within = omega arith
within_36_digits (suc (suc zero)) d within = omega arith
within_36_digits (suc (suc (suc k))) d within = absurd (omega (arith, within))

some_from_one_less : AreAugmentations (single 68719476735) 64
some_from_one_less = record { few = λ digits small. omega arith; none = λ large. absurd (large within_36_digits) }

-- a block has all its addresses but the one behind it
two_addresses : addresses_of (block 19 21) ≡ 19 ∷ 20 ∷ []
unfolding block
two_addresses = refl

-- ends without a name
without_a_name : (class_of_places None nameless outside ≡ Unmapped FromNameless)
    × (class_of_places None (at_way (to_function (codes "f") ∷ to_body 0 0 ∷ [])) nameless ≡ Unmapped ToNameless)
without_a_name = (refl, refl)

seven_augmentations : augmentations_line 7 ≡ codes "# augmentations 7\n"
unfolding augmentations_line digits
seven_augmentations = refl

-- what is asked for: a line of augmentations by the one option, and weights of edges by the other
told_if_asked : (built : List ℕ) → IsBuilt false program sampled [] built
    → IsBuiltBy (record { edges = false; scaled = true }) program sampled [] (built ++ augmentations_line 0)
told_if_asked built is = record { built = built; is_built = is; augmentations = 0; counted = refl; spelled = refl }

not_told_if_not : (built : List ℕ) → IsBuilt true program sampled [] built
    → IsBuiltBy (record { edges = true; scaled = false }) program sampled [] built
not_told_if_not built is = record { built = built; is_built = is; augmentations = 0; counted = refl; spelled = sym (append-nil built) }
