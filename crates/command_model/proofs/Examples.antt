-- The definitions on worked values.
use Rattle.std.proofs.Common.{◌≡◌, [], ◌∷◌, refl, Some, None, true, false}
use Rattle.std.specs.Prelude.{codes, if◌then◌else◌}
use Rattle.std.specs.Fmt.{digits}
use Rattle.std.specs.Str.{bytes_eq}
use Rattle.refusal.specs.declared.kind.Kind.TheVariants.{BadLine}
use Rattle.text_model.specs.Lines.{lines_of, ended_lines_of}
use Rattle.text_model.specs.Fields.{fields_of}
use Rattle.text_model.specs.Numbers.{number_of, prefixed_of, hex_text}
use Rattle.sample_model.specs.Line.{address_of, is_ip, entry_of, is_sample, is_well_formed, branches_of_line}
use Rattle.sample_model.specs.Judging.{cause_of_line, items_of_lines, judged_lines_of}
use Rattle.io_edge.specs.Inputs.{Store}
use Rattle.command_model.specs.Answer.{answer_of}
use Rattle.command_model.specs.Answer.Answer.{usage, no_such_file, refused, writes}
use Rattle.command_model.specs.Files.{IsOutput}
use Rattle.profile_model.specs.Ways.{to_function, to_body, to_call}
use Rattle.binary_model.specs.Places.{outside, nameless, no_line, at_way}
use Rattle.command_model.specs.Command.{address_of as address_asked, bin_file, cfg_file, command_of, counts, functions_of, make, make_sum, perf_file, where_, profile, build}
use Rattle.command_model.specs.Options.{Options, map_name, options_of}
use Rattle.command_model.specs.Counts.{counts_text}
use Rattle.command_model.specs.Where.{where_text}

five_branches : counts_text ((0x401038, 0x401036) ∷ (0x40100c, 0x401020) ∷ (0x401034, 0x401000) ∷ (0x401038, 0x401036) ∷ (0x401004, 0x401010) ∷ [])
    ≡ codes "0x401004 0x401010 1\n0x40100c 0x401020 1\n0x401034 0x401000 1\n0x401038 0x401036 2\n# branches 5\n"
unfolding counts_text hex_text digits
five_branches = refl

no_branch : counts_text [] ≡ codes "# branches 0\n"
unfolding counts_text digits
no_branch = refl

by_target : counts_text ((7, 9) ∷ (7, 8) ∷ (6, 10) ∷ (7, 8) ∷ []) ≡ codes "0x6 0xa 1\n0x7 0x8 2\n0x7 0x9 1\n# branches 4\n"
unfolding counts_text hex_text digits
by_target = refl

words : (command_of (codes "counts" ∷ codes "a.txt" ∷ []) ≡ Some (counts (codes "a.txt")))
    × (command_of (codes "counts" ∷ []) ≡ None)
    × (command_of (codes "counts" ∷ codes "--x" ∷ []) ≡ None)
    × (command_of (codes "counts" ∷ codes "--base" ∷ codes "a.txt" ∷ []) ≡ None)
    × (command_of (codes "count" ∷ codes "a.txt" ∷ []) ≡ None)
unfolding command_of
words = (refl, refl, refl, refl, refl)

abbrev plain : Options
plain = record { map = None; base = false; repairs = record { edges = false; scaled = false } }

abbrev based : Options
based = record { map = None; base = true; repairs = record { edges = false; scaled = false } }

-- an option stands in front, once
words_of_where : (command_of (codes "where" ∷ codes "a" ∷ codes "0x1F" ∷ []) ≡ Some (where_ plain (codes "a") 0x1f))
    × (command_of (codes "where" ∷ codes "--base" ∷ codes "a" ∷ codes "1f" ∷ []) ≡ Some (where_ based (codes "a") 0x1f))
    × (command_of (codes "where" ∷ codes "a" ∷ codes "--base" ∷ codes "1f" ∷ []) ≡ None)
    × (command_of (codes "where" ∷ codes "--base" ∷ codes "--base" ∷ codes "a" ∷ codes "1f" ∷ []) ≡ None)
    × (command_of (codes "where" ∷ codes "--bases" ∷ codes "a" ∷ codes "1f" ∷ []) ≡ None)
    × (command_of (codes "where" ∷ codes "--map=y" ∷ codes "a" ∷ codes "1f" ∷ []) ≡ None)
    × (command_of (codes "where" ∷ codes "a" ∷ codes "xyz" ∷ []) ≡ None)
unfolding command_of options_of map_name address_asked number_of
words_of_where = (refl, refl, refl, refl, refl, refl, refl)

-- options in any order, each once, and a name that is not empty
words_of_profile : (command_of (codes "profile" ∷ codes "a" ∷ codes "p" ∷ []) ≡ Some (profile plain (codes "a") (codes "p")))
    × (command_of (codes "profile" ∷ codes "--base" ∷ codes "--map=/bin/x" ∷ codes "a" ∷ codes "p" ∷ []) ≡ Some (profile (record { map = Some (codes "/bin/x"); base = true; repairs = record { edges = false; scaled = false } }) (codes "a") (codes "p")))
    × (command_of (codes "profile" ∷ codes "--map=y" ∷ codes "a" ∷ codes "p" ∷ []) ≡ Some (profile (record { map = Some (codes "y"); base = false; repairs = record { edges = false; scaled = false } }) (codes "a") (codes "p")))
    × (command_of (codes "profile" ∷ codes "--map=" ∷ codes "a" ∷ codes "p" ∷ []) ≡ None)
    × (command_of (codes "profile" ∷ codes "--map=y" ∷ codes "--map=y" ∷ codes "a" ∷ codes "p" ∷ []) ≡ None)
    × (command_of (codes "profile" ∷ codes "--base" ∷ codes "--base" ∷ codes "a" ∷ codes "p" ∷ []) ≡ None)
    × (command_of (codes "profile" ∷ codes "--edges" ∷ codes "a" ∷ codes "p" ∷ []) ≡ None)
    × (command_of (codes "profile" ∷ codes "a" ∷ []) ≡ None)
unfolding command_of options_of map_name
words_of_profile = (refl, refl, refl, refl, refl, refl, refl, refl)

-- the same with edges, and three files
words_of_build : (command_of (codes "build" ∷ codes "--edges" ∷ codes "--base" ∷ codes "a" ∷ codes "p" ∷ codes "c" ∷ []) ≡ Some (build (record { map = None; base = true; repairs = record { edges = true; scaled = false } }) (codes "a") (codes "p") (codes "c")))
    × (command_of (codes "build" ∷ codes "--edges" ∷ codes "--edges" ∷ codes "a" ∷ codes "p" ∷ codes "c" ∷ []) ≡ None)
    × (command_of (codes "build" ∷ codes "a" ∷ codes "p" ∷ []) ≡ None)
    × (command_of (codes "build" ∷ codes "--scaled" ∷ codes "a" ∷ codes "p" ∷ codes "c" ∷ []) ≡ Some (build (record { map = None; base = false; repairs = record { edges = false; scaled = true } }) (codes "a") (codes "p") (codes "c")))
    × (command_of (codes "build" ∷ codes "--scaled" ∷ codes "--scaled" ∷ codes "a" ∷ codes "p" ∷ codes "c" ∷ []) ≡ None)
    × (command_of (codes "profile" ∷ codes "--scaled" ∷ codes "a" ∷ codes "p" ∷ []) ≡ None)
unfolding command_of options_of map_name
words_of_build = (refl, refl, refl, refl, refl, refl)

-- a number of at most 4,096, with zeros in front or not, and no option
words_of_make : (command_of (codes "make" ∷ codes "1" ∷ codes "bin" ∷ []) ≡ Some (make bin_file 1))
    × (command_of (codes "make" ∷ codes "01" ∷ codes "perf" ∷ []) ≡ Some (make perf_file 1))
    × (command_of (codes "make" ∷ codes "0" ∷ codes "cfg" ∷ []) ≡ Some (make cfg_file 0))
    × (command_of (codes "make" ∷ codes "4096" ∷ codes "sum" ∷ []) ≡ Some (make_sum 4096))
    × (command_of (codes "make" ∷ codes "4097" ∷ codes "bin" ∷ []) ≡ None)
    × (command_of (codes "make" ∷ codes "64" ∷ []) ≡ None)
    × (command_of (codes "make" ∷ codes "64" ∷ codes "sum" ∷ codes "x" ∷ []) ≡ None)
    × (command_of (codes "make" ∷ codes "--base" ∷ codes "1" ∷ codes "bin" ∷ []) ≡ None)
    × (command_of (codes "make" ∷ [] ∷ codes "bin" ∷ []) ≡ None)
    × (command_of (codes "make" ∷ codes "0x1" ∷ codes "bin" ∷ []) ≡ None)
    × (command_of (codes "make" ∷ codes "1" ∷ codes "text" ∷ []) ≡ None)
unfolding command_of functions_of number_of
words_of_make = (refl, refl, refl, refl, refl, refl, refl, refl, refl, refl, refl)

-- one to sixteen digits
addresses : (address_asked (codes "ffffffffffffffff") ≡ Some 0xffffffffffffffff) × (address_asked (codes "0x0000000000401000") ≡ Some 0x401000)
    × (address_asked (codes "00000000000401000") ≡ None) × (address_asked (codes "0x") ≡ None) × (address_asked [] ≡ None) × (address_asked (codes "0X1") ≡ None)
unfolding address_asked number_of
addresses = (refl, refl, refl, refl, refl, refl)

lines_of_places : (where_text outside ≡ codes "outside\n") × (where_text nameless ≡ codes "nameless\n") × (where_text no_line ≡ codes "noline\n")
    × (where_text (at_way (to_function (codes "f0000") ∷ to_call 2 1 (codes "g") ∷ to_body 1 0 ∷ [])) ≡ codes "f0000 2.1 g 1\n")
    × (where_text (at_way (to_function (codes "f0000") ∷ to_body 2 2 ∷ [])) ≡ codes "f0000 2.2\n")
unfolding digits
lines_of_places = (refl, refl, refl, refl, refl)

-- as numbers, not as texts, up to the last address
by_numbers : counts_text ((0x10, 1) ∷ (0xffffffffffffffff, 0) ∷ (9, 0xffffffffffffffff) ∷ (9, 0x10) ∷ (9, 2) ∷ (0, 0) ∷ [])
    ≡ codes "0x0 0x0 1\n0x9 0x2 1\n0x9 0x10 1\n0x9 0xffffffffffffffff 1\n0x10 0x1 1\n0xffffffffffffffff 0x0 1\n# branches 6\n"
unfolding counts_text hex_text digits
by_numbers = refl

-- a good text, and a bad one whose name is empty
two_files : Store
two_files name =
    if bytes_eq name (codes "good") then Some (codes "401036 0x7/0x8 0x5/0x6\n")
    else (if bytes_eq name [] then Some (codes "\nzz") else None)

answers : (answer_of two_files (codes "counts" ∷ codes "good" ∷ []) ≡ writes (counts (codes "good")) (codes "401036 0x7/0x8 0x5/0x6\n" ∷ []))
    × (answer_of two_files (codes "counts" ∷ [] ∷ []) ≡ refused (record { file = 1; at = 2; kind = BadLine }))
    × (answer_of two_files (codes "counts" ∷ codes "none" ∷ []) ≡ no_such_file 1)
    × (answer_of two_files (codes "counts" ∷ codes "good" ∷ codes "good" ∷ []) ≡ usage) × (answer_of two_files [] ≡ usage)
unfolding command_of two_files lines_of ended_lines_of fields_of number_of prefixed_of address_of is_ip entry_of is_sample is_well_formed branches_of_line cause_of_line items_of_lines judged_lines_of
answers = (refl, refl, refl, refl, refl)

-- and what is written then
written : IsOutput (counts (codes "good")) (codes "401036 0x7/0x8 0x5/0x6\n" ∷ []) (codes "0x5 0x6 1\n0x7 0x8 1\n# branches 2\n")
unfolding counts_text hex_text digits lines_of ended_lines_of fields_of number_of prefixed_of address_of is_ip entry_of is_sample is_well_formed branches_of_line
written = refl
