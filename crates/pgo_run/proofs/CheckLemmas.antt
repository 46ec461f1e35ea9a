-- A repair text that was read beside the functions of a block text, and what `check` says of it.
use Rattle.std.proofs.Common.{◌≡◌, ◌≤◌, ◌^◌, ℕ, List, length, map, Option, None, ap, subst, sym, ◌∙◌, arith}
use Rattle.std.specs.List.{AllZip}
use Rattle.std.proofs.lemmas.List.{length-map}
use Rattle.block_model.specs.Function.{Function}
use Rattle.block_model.specs.Text.{functions_of}
use Rattle.cfg_text.specs.declared.fun.Fun.{Fun}
use Rattle.cfg_text.specs.Fun.{function_of}
use Rattle.repair_model.specs.Checking as repair_model
use Rattle.repair_model.specs.Judging.{first_bad_of_repairs}
use Rattle.repair_model.specs.Laws.{IsToldOf}
use Rattle.repair_model.specs.Repair.{Repair}
use Rattle.repair_model.specs.Text.{repairs_of}
use Rattle.repair_model.proofs.WholeLemmas.{good_repairs_are_whole}
use Rattle.command_model.specs.Check.{checked_text}
use Rattle.command_model.specs.Files.{first_bad_of_repair_text, max_repair_bytes}
use Rattle.program_edge.proofs.SizedLemmas.{Sized, sized-repairs}

-- A repair text within its size is judged by its lines, beside the functions that were read.
pub sized-told : (funs told : List Function) → told ≡ funs → Sized 2 max_repair_bytes (first_bad_of_repair_text 2 funs) (first_bad_of_repairs 2 told)
sized-told funs told same = subst (λ fs. Sized 2 max_repair_bytes (first_bad_of_repair_text 2 funs) (first_bad_of_repairs 2 fs)) (sym same) (sized-repairs 2 funs)

-- All of each function is told in a good text.
pub told_whole : (file : ℕ) (funs : List Function) (text : List ℕ) (told : List (ℕ × Repair)) → length text ≤ max_repair_bytes
    → first_bad_of_repairs file funs text ≡ None → told ≡ repairs_of funs text → AllZip IsToldOf funs told
told_whole file funs text told within good are =
    let short : length text ≤ 2 ^ 63 = omega (arith, within) in
    subst (λ ts. AllZip IsToldOf funs ts) (sym are) (good_repairs_are_whole file funs text short good)

-- The line that fails is that of the texts' bytes.
pub failed_is : (blocks text : List ℕ) (funs : List Function) (told : List (ℕ × Repair)) (failed : Option ℕ) → failed ≡ repair_model.failed_line funs told
    → funs ≡ functions_of blocks → told ≡ repairs_of funs text
    → repair_model.failed_line (functions_of blocks) (repairs_of (functions_of blocks) text) ≡ failed
failed_is blocks text funs told failed is same are =
    ap (λ fs. repair_model.failed_line fs (repairs_of fs text)) (sym same) ∙ ap (repair_model.failed_line funs) (sym are) ∙ sym is

pub checked_is : (blocks out : List ℕ) (funs : List Fun) (count : ℕ) → map function_of funs ≡ functions_of blocks → count ≡ length funs
    → out ≡ checked_text count → out ≡ checked_text (length (functions_of blocks))
checked_is blocks out funs count same counted is =
    is ∙ ap checked_text (counted ∙ sym (length-map funs function_of) ∙ ap length same)
