-- The lines of repairs are comments of a profile text.
use Rattle.std.proofs.Common.{ℕ, suc, Bool, List, [], ◌∷◌, length, map, None, Some, ℤ, pos, negsuc, refl}
use Rattle.std.specs.Prelude.{⊤, slice_index_or}
use Rattle.std.specs.List.{AllByRecursion, enumerate_from}
use Rattle.list_lemmas.proofs.Each.{all_append}
use Rattle.text_model.specs.Laws.{HasNoLineFeed, ended}
use Rattle.text_model.specs.Numbers.{signed_text}
use Rattle.block_model.specs.declared.parts.Weight.{Weight}
use Rattle.block_model.specs.declared.parts.Weight.TheVariants.{Known, Unknown}
use Rattle.block_model.specs.Function.{Function}
use Rattle.repair_model.specs.Laws.{text_of_repairs}
use Rattle.repair_model.specs.Line.{Line, begins_cut, begins_flow, ends_cut, ends_flow, line_fields, line_text, tells_count, tells_edge, tells_sides, weight_text}
use Rattle.repair_model.specs.Repair.{Repair, Solution, cut, flow, told_edges}
use Rattle.repair_model.specs.Text.{first_line, last_line, line_of_block, line_of_edge, lines_of_blocks, lines_of_edges, lines_of_repair, numbers, text_of_lines}
use Rattle.repair_model.proofs.BackLemmas.{bit_clean, spaced_clean}
use Rattle.spelling_laws.specs.Told.{IsComment}
use Rattle.command_laws.proofs.LineLemmas.{AreLinesOf, begins_comment, both_lines, no_lines, number_clean, one_line}

-- ---- one line

signed_clean : (z : ℤ) → HasNoLineFeed (signed_text z)
signed_clean (pos n) = number_clean n
signed_clean (negsuc n) = number_clean (suc n)

weight_clean : (weight : Weight) → HasNoLineFeed (weight_text weight)
weight_clean Unknown = refl
weight_clean (Known weight) = number_clean weight

-- The name on a line, if there is one, has no line feed.
abbrev IsCleanLine : Line → Type 0
IsCleanLine (begins_flow name) = HasNoLineFeed name
IsCleanLine (begins_cut name root) = HasNoLineFeed name
IsCleanLine _ = ⊤

fields_clean : (line : Line) → IsCleanLine line → AllByRecursion HasNoLineFeed (line_fields line)
fields_clean (begins_flow name) clean = (refl, (refl, (clean, (refl, tt))))
fields_clean (begins_cut name root) clean = (refl, (refl, (clean, (refl, (bit_clean root, tt)))))
fields_clean (tells_count number weight count enter leave) clean =
    (refl, (refl, (number_clean number, (refl, (weight_clean weight, (refl, (number_clean count, (refl, (signed_clean enter, (refl, (signed_clean leave, tt)))))))))))
fields_clean (tells_sides number weight enter leave) clean =
    (refl, (refl, (number_clean number, (refl, (weight_clean weight, (refl, (bit_clean enter, (refl, (bit_clean leave, tt)))))))))
fields_clean (tells_edge from to None count) clean = (refl, (refl, (number_clean from, (number_clean to, (refl, (number_clean count, tt))))))
fields_clean (tells_edge from to (Some weight) count) clean =
    (refl, (refl, (number_clean from, (number_clean to, (refl, (weight_clean weight, (refl, (number_clean count, tt))))))))
fields_clean (ends_flow cost) clean = (refl, (refl, (number_clean cost, tt)))
fields_clean (ends_cut least most) clean = (refl, (refl, (number_clean least, (number_clean most, tt))))

line_comment : (line : Line) → IsCleanLine line → IsComment (line_text line)
line_comment (begins_flow name) clean = begins_comment _ _ refl (spaced_clean (line_fields (begins_flow name)) (fields_clean (begins_flow name) clean))
line_comment (begins_cut name root) clean = begins_comment _ _ refl (spaced_clean (line_fields (begins_cut name root)) (fields_clean (begins_cut name root) clean))
line_comment (tells_count number weight count enter leave) clean =
    begins_comment _ _ refl (spaced_clean (line_fields (tells_count number weight count enter leave)) (fields_clean (tells_count number weight count enter leave) clean))
line_comment (tells_sides number weight enter leave) clean =
    begins_comment _ _ refl (spaced_clean (line_fields (tells_sides number weight enter leave)) (fields_clean (tells_sides number weight enter leave) clean))
line_comment (tells_edge from to None count) clean =
    begins_comment _ _ refl (spaced_clean (line_fields (tells_edge from to None count)) (fields_clean (tells_edge from to None count) clean))
line_comment (tells_edge from to (Some weight) count) clean =
    begins_comment _ _ refl (spaced_clean (line_fields (tells_edge from to (Some weight) count)) (fields_clean (tells_edge from to (Some weight) count) clean))
line_comment (ends_flow cost) clean = begins_comment _ _ refl (spaced_clean (line_fields (ends_flow cost)) (fields_clean (ends_flow cost) clean))
line_comment (ends_cut least most) clean = begins_comment _ _ refl (spaced_clean (line_fields (ends_cut least most)) (fields_clean (ends_cut least most) clean))

-- ---- repairs

lines_comments : (lines : List Line) → AllByRecursion IsCleanLine lines → AreLinesOf IsComment (text_of_lines lines)
lines_comments [] clean = no_lines
lines_comments (line ∷ lines) clean = both_lines (ended (line_text line)) (text_of_lines lines) (one_line (line_text line) (line_comment line clean.0)) (lines_comments lines clean.1)

first_clean : (name : List ℕ) (solution : Solution) → HasNoLineFeed name → IsCleanLine (first_line name solution)
first_clean name (flow counts ins outs) clean = clean
first_clean name (cut root ins outs) clean = clean

block_clean : (number : ℕ) (weight : Weight) (solution : Solution) → IsCleanLine (line_of_block number weight solution)
block_clean number weight (flow counts ins outs) = tt
block_clean number weight (cut root ins outs) = tt

last_clean : (solution : Solution) (first second : ℕ) → IsCleanLine (last_line solution first second)
last_clean (flow counts ins outs) first second = tt
last_clean (cut root ins outs) first second = tt

each_clean : {X : Type 0} (f : X → Line) (xs : List X) → ((x : X) → IsCleanLine (f x)) → AllByRecursion IsCleanLine (map f xs)
each_clean f [] clean = tt
each_clean f (x ∷ xs) clean = (clean x, each_clean f xs clean)

repair_clean : (weighed : Bool) (fun : Function) (repair : Repair) → HasNoLineFeed fun.name → AllByRecursion IsCleanLine (lines_of_repair weighed fun repair)
unfolding lines_of_repair
repair_clean weighed fun repair clean = (
  first_clean fun.name repair.solution clean,
  all_append IsCleanLine (lines_of_blocks (length fun.blocks) repair.weights repair.solution) _
      (each_clean (λ number. line_of_block number (slice_index_or repair.weights number Unknown) repair.solution) (numbers 0 (length fun.blocks)) (λ number. block_clean number _ repair.solution))
      (all_append IsCleanLine (lines_of_edges weighed (told_edges fun repair.solution) repair.edge_weights repair.solution) _
      (each_clean (line_of_edge weighed repair.edge_weights repair.solution) (enumerate_from 0 (told_edges fun repair.solution)) (λ it. tt))
      (last_clean repair.solution repair.first repair.second, tt)),
)

pub repairs_comments : (weighed : Bool) (funs : List Function) (repairs : List Repair) → AllByRecursion (λ (fun : Function). HasNoLineFeed fun.name) funs
    → AreLinesOf IsComment (text_of_repairs weighed funs repairs)
repairs_comments weighed [] repairs clean = no_lines
repairs_comments weighed (fun ∷ funs) [] clean = no_lines
repairs_comments weighed (fun ∷ funs) (repair ∷ repairs) clean =
    both_lines (text_of_lines (lines_of_repair weighed fun repair)) (text_of_repairs weighed funs repairs)
    (lines_comments (lines_of_repair weighed fun repair) (repair_clean weighed fun repair clean.0)) (repairs_comments weighed funs repairs clean.1)
