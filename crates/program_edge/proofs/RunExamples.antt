-- The words of the top clauses on worked values: what was written, and which files are good.
use Rattle.std.proofs.Common.{◌≡◌, ℕ, zero, suc, true, false, List, [], ◌∷◌, ◌++◌, Option, Some, None, refl, sym, ◌∙◌, ap, subst, get_or, unwrap_or}
use Rattle.std.specs.Prelude.{codes, ⊤, ◌==◌, is_some, if◌then◌else◌}
use Rattle.std.specs.Fmt.{digits}
use Rattle.std.specs.Io.KnownBytes.{Appends}
use Rattle.std.specs.Str.{bytes_eq}
use Rattle.refusal.specs.declared.kind.Kind.TheVariants.{NoBlocks, WrongBlock}
use Rattle.refusal.specs.declared.place.Place.{Place}
use Rattle.io_edge.specs.Inputs.{Store}
use Rattle.io_edge.specs.Sink.{AppendsPrefix}
use Rattle.text_model.specs.Fields.{fields_of}
use Rattle.text_model.specs.Lines.{lines_of, ended_lines_of}
use Rattle.text_model.specs.Numbers.{number_of, prefixed_of, hex_text, signed_of}
use Rattle.sample_model.specs.Line as sample
use Rattle.block_model.specs.Judging as blocks
use Rattle.block_model.specs.Line as block
use Rattle.block_model.specs.Text.{functions_from, functions_of}
use Rattle.repair_model.specs.Judging as repairs
use Rattle.repair_model.specs.Line as repair
use Rattle.repair_model.specs.Text.{course_behind}
use Rattle.command_model.specs.Answer.{Answer}
use Rattle.command_model.specs.Answer.Answer.{usage, no_such_file, refused, fails_check, writes}
use Rattle.command_model.specs.Command.{counts, check}
use Rattle.command_model.specs.Counts.{counts_text}
use Rattle.command_model.specs.Files.{IsOutput, first_bad_of_blocks, first_bad_of_repair_text}
use Rattle.command_model.specs.Good.{AreGoodBefore}
use Rattle.program_edge.specs.Run.{HasWritten}

-- Texts that are compared as different are not equal.
not_equal : (xs ys : List ℕ) → bytes_eq xs xs ≡ true → bytes_eq xs ys ≡ false → xs ≡ ys → ⊥
not_equal xs ys itself other is = let both : true ≡ false = sym itself ∙ (ap (bytes_eq xs) is ∙ other) in absurd cc

-- ---- bytes that a sink shows, before and after

appended : Appends (Some (codes "ab")) (Some (codes "abcd")) (codes "cd") × Appends (Some (codes "ab")) (Some (codes "ab")) []
appended = (refl, refl)

not_other_bytes : Appends (Some (codes "ab")) (Some (codes "abce")) (codes "cd") → ⊥
not_other_bytes is = not_equal _ _ refl refl is

not_others_before_them : Appends (Some (codes "ab")) (Some (codes "aacd")) (codes "cd") → ⊥
not_others_before_them is = not_equal _ _ refl refl is

not_fewer : Appends (Some (codes "ab")) (Some (codes "abc")) (codes "cd") → ⊥
not_fewer is = not_equal _ _ refl refl is

not_more : Appends (Some (codes "ab")) (Some (codes "abcde")) (codes "cd") → ⊥
not_more is = not_equal _ _ refl refl is

not_instead_of_others : Appends (Some (codes "ab")) (Some (codes "cd")) (codes "cd") → ⊥
not_instead_of_others is = not_equal _ _ refl refl is

not_in_secret : Appends (Some (codes "ab")) None (codes "cd") → ⊥
not_in_secret is = is

-- A sink that shows nothing before a call shows nothing of the call.
unseen : Appends None (Some (codes "x")) (codes "cd") × AppendsPrefix None None (codes "cd")
unseen = (tt, (0, tt))

-- A write that fails leaves none of the bytes, some of them or all.
prefixes : AppendsPrefix (Some (codes "ab")) (Some (codes "ab")) (codes "cd") × AppendsPrefix (Some (codes "ab")) (Some (codes "abc")) (codes "cd")
    × AppendsPrefix (Some (codes "ab")) (Some (codes "abcd")) (codes "cd")
prefixes = ((0, refl), (1, refl), (2, refl))

no_other_prefix : AppendsPrefix (Some (codes "ab")) (Some (codes "abd")) (codes "cd") → ⊥
no_other_prefix (zero, is) = not_equal _ _ refl refl is
no_other_prefix (suc n, is) = let both : true ≡ false = ap (λ text. get_or text 2 0 == 100) is in absurd cc

no_more_than_all : AppendsPrefix (Some (codes "ab")) (Some (codes "abcde")) (codes "cd") → ⊥
no_more_than_all (zero, is) = not_equal _ _ refl refl is
no_more_than_all (suc zero, is) = not_equal _ _ refl refl is
no_more_than_all (suc (suc zero), is) = not_equal _ _ refl refl is
no_more_than_all (suc (suc (suc n)), is) = not_equal _ _ refl refl is

not_fewer_than_before : AppendsPrefix (Some (codes "ab")) (Some (codes "a")) (codes "cd") → ⊥
not_fewer_than_before (zero, is) = not_equal _ _ refl refl is
not_fewer_than_before (suc n, is) = not_equal _ _ refl refl is

-- ---- the output of `counts` on two samples with five branches

abbrev samples : List ℕ
samples = codes "401036 0x401038/0x401036/P/-/-/1 0x40100c/0x401020/P/-/-/1 0x401034/0x401000/P/-/-/1\n401036 0x401038/0x401036/P/-/-/1 0x401004/0x401010/P/-/-/1\n"

abbrev output : List ℕ
output = codes "0x401004 0x401010 1\n0x40100c 0x401020 1\n0x401034 0x401000 1\n0x401038 0x401036 2\n# branches 5\n"

abbrev answer : Answer
answer = writes (counts (codes "perf")) (samples ∷ [])

is_output : IsOutput (counts (codes "perf")) (samples ∷ []) output
unfolding counts_text hex_text digits lines_of ended_lines_of fields_of number_of prefixed_of sample.address_of sample.is_ip sample.entry_of sample.is_sample sample.is_well_formed sample.branches_of_line
is_output = refl

-- Its command may write this text of these files and no other.
abbrev WritesOnly : List ℕ → Answer → Type 0
WritesOnly text (writes command contents) = (other : List ℕ) → IsOutput command contents other → other ≡ text
WritesOnly text _ = ⊤

-- So a fact about the text that was written is one about this text.
of_the_output : (Written : List ℕ → Type 0) → HasWritten answer Written → Written output
of_the_output Written (command, contents, text, answered, may_be, written) =
    let only : WritesOnly output answer = λ other is. is ∙ sym is_output in
    subst Written (subst (WritesOnly output) answered only text may_be) written

-- The whole output was written, and nothing else.
the_output : HasWritten answer (Appends (Some (codes "x\n")) (Some (codes "x\n" ++ output)))
the_output = (counts (codes "perf"), samples ∷ [], output, refl, is_output, refl)

another_count : HasWritten answer (Appends (Some [])
    (Some (codes "0x401004 0x401010 1\n0x40100c 0x401020 1\n0x401034 0x401000 1\n0x401038 0x401036 1\n# branches 5\n"))) → ⊥
another_count has = not_equal _ _ refl refl (of_the_output _ has)

without_its_first_line : HasWritten answer (Appends (Some [])
    (Some (codes "0x40100c 0x401020 1\n0x401034 0x401000 1\n0x401038 0x401036 2\n# branches 5\n"))) → ⊥
without_its_first_line has = not_equal _ _ refl refl (of_the_output _ has)

twice : HasWritten answer (Appends (Some []) (Some (output ++ output))) → ⊥
twice has = not_equal _ _ refl refl (of_the_output _ has)

nothing : HasWritten answer (Appends (Some []) (Some [])) → ⊥
nothing has = not_equal _ _ refl refl (of_the_output _ has)

-- The write that fails is the third, with eight bytes each.
its_first_bytes : HasWritten answer (AppendsPrefix (Some []) (Some (codes "0x401004 0x40101")))
its_first_bytes = (counts (codes "perf"), samples ∷ [], output, refl, is_output, (16, refl))

other_first_bytes : HasWritten answer (AppendsPrefix (Some []) (Some (codes "0x501004 0x40101"))) → ⊥
other_first_bytes has = no_prefix (of_the_output _ has) where
  no_prefix : AppendsPrefix (Some []) (Some (codes "0x501004 0x40101")) output → ⊥
  no_prefix (zero, is) = not_equal _ _ refl refl is
  no_prefix (suc zero, is) = not_equal _ _ refl refl is
  no_prefix (suc (suc zero), is) = not_equal _ _ refl refl is
  no_prefix (suc (suc (suc n)), is) = let both : true ≡ false = ap (λ text. get_or text 2 0 == 53) is in absurd cc

-- The other answers write nothing, whatever is asked of the text.
without_an_output : (HasWritten usage (λ text. ⊤) → ⊥) × (HasWritten (no_such_file 1) (λ text. ⊤) → ⊥)
    × (HasWritten (refused (record { file = 1; at = 2; kind = NoBlocks })) (λ text. ⊤) → ⊥) × (HasWritten (fails_check 4) (λ text. ⊤) → ⊥)
without_an_output = (
  λ (command, contents, text, answered, may_be, written). absurd cc,
  λ (command, contents, text, answered, may_be, written). absurd cc,
  λ (command, contents, text, answered, may_be, written). absurd cc,
  λ (command, contents, text, answered, may_be, written). absurd cc,
)

-- ---- the files of `check`: the blocks of a function, and its repair

block_text : List ℕ
block_text = codes "func f0000\nblock 0 0x401000 0x401008\nblock 1 0x401008 0x401010\nblock 2 0x401010 0x401020\nblock 3 0x401020 0x401040 exit\nedge 0 1\nedge 0 2\nedge 1 3\nedge 2 3\nend\n"

-- a function without blocks
no_block : List ℕ
no_block = codes "func a\nend\n"

repair_text : List ℕ
repair_text = codes "# function f0000 flow\n# block 0 weight 100 count 100 in 0 out 0\n# block 1 weight 60 count 100 in 0 out 10\n# block 2 weight 0 count 0 in 0 out 10\n# block 3 weight 100 count 100 in 10 out 0\n# edge 0 1 count 100\n# edge 0 2 count 0\n# edge 1 3 count 100\n# edge 2 3 count 0\n# end 400\n"

-- the same without its fourth line
a_block_is_left_out : List ℕ
a_block_is_left_out = codes "# function f0000 flow\n# block 0 weight 100 count 100 in 0 out 0\n# block 1 weight 60 count 100 in 0 out 10\n# block 3 weight 100 count 100 in 10 out 0\n# edge 0 1 count 100\n# edge 0 2 count 0\n# edge 1 3 count 100\n# edge 2 3 count 0\n# end 400\n"

good_blocks : first_bad_of_blocks 1 block_text ≡ None
unfolding block_text first_bad_of_blocks blocks.items_from blocks.cause_of_line blocks.cause_of_block blocks.cause_of_edge block.line_of block.line_by_fields block.block_line_of block.edge_line_of block.place_of block.address_of block.bound_of block.bound_by_word block.bound_by_words block.bounded_by block.count_of fields_of lines_of number_of prefixed_of
good_blocks = refl

bad_blocks : first_bad_of_blocks 1 no_block ≡ Some (record { file = 1; at = 2; kind = NoBlocks })
unfolding no_block first_bad_of_blocks blocks.items_from blocks.cause_of_line block.line_of block.line_by_fields fields_of lines_of
bad_blocks = refl

good_repair : first_bad_of_repair_text 2 (functions_of block_text) repair_text ≡ None
unfolding block_text repair_text first_bad_of_repair_text functions_from block.line_of block.line_by_fields block.block_line_of block.edge_line_of block.place_of block.address_of block.bound_of block.count_of repairs.items_from repairs.cause_of_line repairs.cause_inside repairs.cause_of_begin repairs.cause_of_block repairs.cause_of_edge repairs.cause_of_end course_behind repair.line_of repair.line_by_fields repair.block_line_of repair.edge_line_of repair.end_line_of repair.function_line_of repair.weighed_of repair.counted_of repair.sided_of repair.joined_of repair.taken_of repair.weight_of repair.price_of repair.sum_of repair.bit_of fields_of lines_of number_of prefixed_of signed_of
good_repair = refl

bad_repair : first_bad_of_repair_text 2 (functions_of block_text) a_block_is_left_out ≡ Some (record { file = 2; at = 4; kind = WrongBlock })
unfolding block_text a_block_is_left_out first_bad_of_repair_text functions_from block.line_of block.line_by_fields block.block_line_of block.edge_line_of block.place_of block.address_of block.bound_of block.count_of repairs.items_from repairs.cause_of_line repairs.cause_inside repairs.cause_of_begin repairs.cause_of_block repairs.cause_of_edge repairs.cause_of_end course_behind repair.line_of repair.line_by_fields repair.block_line_of repair.edge_line_of repair.end_line_of repair.function_line_of repair.weighed_of repair.counted_of repair.sided_of repair.joined_of repair.taken_of repair.weight_of repair.price_of repair.sum_of repair.bit_of fields_of lines_of number_of prefixed_of signed_of
bad_repair = refl

files : Store
files name =
    if bytes_eq name (codes "blocks") then Some block_text
    else (if bytes_eq name (codes "no block") then Some no_block
    else (if bytes_eq name (codes "repair") then Some repair_text
    else (if bytes_eq name (codes "left out") then Some a_block_is_left_out else None)))

not_bad : (place : Option Place) → is_some place ≡ true → place ≡ None → ⊥
not_bad place bad good = let both : true ≡ false = sym bad ∙ ap is_some good in absurd cc

-- Neither the file of that number nor those after it need be there or good.
good_before : AreGoodBefore files (check (codes "none") (codes "none")) 1
    × AreGoodBefore files (check (codes "blocks") (codes "none")) 2 × AreGoodBefore files (check (codes "blocks") (codes "left out")) 2
    × AreGoodBefore files (check (codes "blocks") (codes "repair")) 3
unfolding files
good_before = (tt, (block_text, refl, good_blocks, tt), (block_text, refl, good_blocks, tt), (block_text, refl, good_blocks, (repair_text, refl, good_repair, tt)))

no_first_file : AreGoodBefore files (check (codes "none") (codes "repair")) 2 → ⊥
unfolding files
no_first_file (bytes, there, good, others) = absurd cc

a_bad_first_file : AreGoodBefore files (check (codes "no block") (codes "repair")) 2 → ⊥
unfolding files
a_bad_first_file (bytes, there, good, others) =
    let same : no_block ≡ bytes = ap (λ file. unwrap_or file []) there in
    not_bad (first_bad_of_blocks 1 no_block) (ap is_some bad_blocks) (ap (first_bad_of_blocks 1) same ∙ good)

no_second_file : AreGoodBefore files (check (codes "blocks") (codes "none")) 3 → ⊥
unfolding files
no_second_file (bytes, there, good, (more, there_too, good_too, others)) = absurd cc

-- The second file is judged with the functions of the first.
a_bad_second_file : AreGoodBefore files (check (codes "blocks") (codes "left out")) 3 → ⊥
unfolding files
a_bad_second_file (bytes, there, good, (more, there_too, good_too, others)) =
    let first : block_text ≡ bytes = ap (λ file. unwrap_or file []) there in
    let second : a_block_is_left_out ≡ more = ap (λ file. unwrap_or file []) there_too in
    let as_judged : first_bad_of_repair_text 2 (functions_of block_text) a_block_is_left_out ≡ first_bad_of_repair_text 2 (functions_of bytes) more =
    ap (λ text. first_bad_of_repair_text 2 (functions_of text) a_block_is_left_out) first ∙ ap (first_bad_of_repair_text 2 (functions_of bytes)) second in
    not_bad (first_bad_of_repair_text 2 (functions_of block_text) a_block_is_left_out) (ap is_some bad_repair) (as_judged ∙ good_too)
