-- A block text that was read, and what is written of it with the others.
use Rattle.std.proofs.Common.{◌≡◌, ◌≤◌, ◌^◌, ℕ, Bool, true, List, [], ◌∷◌, length, map, Option, None, Some, ap, subst, sym, ◌∙◌, arith}
use Rattle.std.specs.List.{All}
use Rattle.std.specs.Option.{option_map}
use Rattle.std.proofs.lemmas.List.{length-append, length-map}
use Rattle.std.proofs.lemmas.List.Elements.{All-cons, All-head, All-nil, All-tail}
use Rattle.text_model.specs.Lines.{lines_of}
use Rattle.load_model.specs.declared.load_segment.LoadSegment.{LoadSegment}
use Rattle.sample_model.specs.Moves.{LoadMap}
use Rattle.branch_counts.specs.Tally.{Tally, Tells}
use Rattle.binary_places.specs.declared.binary.Binary.{Binary}
use Rattle.binary_places.specs.Binary.{IsBinary}
use Rattle.block_model.specs.Judging.{first_bad_of_text}
use Rattle.block_model.specs.Function.{Function}
use Rattle.block_model.specs.Line.{Line, line_of, passed, begins, tells_block, tells_edge, ends}
use Rattle.block_model.specs.Text.{closed_by_line, functions_from, functions_of, open_behind_line}
use Rattle.repair_model.proofs.WholeLemmas.{lines_fewer}
use Rattle.cfg_text.specs.declared.fun.Fun.{Fun}
use Rattle.cfg_text.specs.Fun.{function_of}
use Rattle.flow_model.specs.Sound.{IsSound}
use Rattle.sound_text.proofs.TextLemmas.{good_texts_are_sound}
use Rattle.output_model.specs.Output.{sampled_by}
use Rattle.output_model.specs.Program.{program_of}
use Rattle.output_model.specs.Scaled.{IsBuiltBy, IsBuiltOf}
use Rattle.command_model.specs.Files.{max_block_bytes}
use Rattle.command_words.specs.declared.options.Options.{Options}
use Rattle.command_words.specs.Words.{told_options}
use Rattle.program_edge.proofs.SamplesLemmas.{same-loading}

-- What holds of each function of a good text holds of each that was read.
pub all_unmapped : {X Y : Type 0} (P : Y → Type 0) (f : X → Y) (xs : List X) → All P (map f xs) → All (λ x. P (f x)) xs
all_unmapped P f [] all = All-nil (λ x. P (f x))
all_unmapped P f (x ∷ xs) all =
    All-cons (λ y. P (f y)) x xs (All-head P (f x) (map f xs) all) (all_unmapped P f xs (All-tail P (f x) (map f xs) all))

pub read_soundly : (file : ℕ) (text : List ℕ) (funs : List Fun) → first_bad_of_text file text ≡ None → map function_of funs ≡ functions_of text
    → All (λ fun. IsSound fun.blocks fun.edges) funs
read_soundly file text funs good are =
    all_unmapped (λ fun. IsSound fun.blocks fun.edges) function_of funs
    (subst (λ fs. All (λ (fun : Function). IsSound fun.blocks fun.edges) fs) (sym are) (good_texts_are_sound file text good))

-- A block text has no more functions than bytes.
closes_one : (opened : Option Function) (line : Option Line) → length (closed_by_line opened line) ≤ 1
closes_one opened None = omega arith
closes_one None (Some line) = omega arith
closes_one (Some fun) (Some passed) = omega arith
closes_one (Some fun) (Some (begins name)) = omega arith
closes_one (Some fun) (Some (tells_block number block)) = omega arith
closes_one (Some fun) (Some (tells_edge from to bound)) = omega arith
closes_one (Some fun) (Some ends) = omega arith

functions_fewer : (opened : Option Function) (lines : List (List ℕ)) → length (functions_from opened lines) ≤ length lines
unfolding functions_from
functions_fewer opened [] = omega arith
functions_fewer opened (line ∷ lines) =
    let rest = functions_fewer (open_behind_line opened (line_of line)) lines in
    let one = closes_one opened (line_of line) in
    let both = length-append (closed_by_line opened (line_of line)) (functions_from (open_behind_line opened (line_of line)) lines) in
    omega (arith, rest, one, both)

pub read_few : (text : List ℕ) (funs : List Fun) → length text ≤ max_block_bytes → map function_of funs ≡ functions_of text → length funs ≤ 2 ^ 29
read_few text funs within are =
    let all = functions_fewer None (lines_of text) in
    let lines = lines_fewer text in
    let same = ap (λ (fs : List Function). length fs) are in
    let mapped = length-map funs function_of in
    let most : length text ≤ 268435456 = within in
    omega (arith, all, lines, same, mapped, most)

-- The output of a binary, of what was counted of a branch text, and of a block text.
pub built : (bytes : List ℕ) (options : Options) (binary : Binary) (loads : List LoadSegment) (counts : Tally) (text blocks out : List ℕ) (funs : List Fun)
    → IsBinary bytes options.base binary → loads ≡ binary.loads.items
    → ((file : List ℕ) (base : Bool) (loading : Option LoadMap) (lines : List (List ℕ)) → IsBinary file base binary → counts.with_ranges ≡ true → Tells loading lines counts
    → IsBuiltBy options.repairs (program_of file base) (sampled_by loading file lines) (map function_of funs) out)
    → counts.with_ranges ≡ true → Tells (option_map (λ name. record { name = name.now; segments = loads }) options.map) (lines_of text) counts
    → map function_of funs ≡ functions_of blocks
    → IsBuiltOf (told_options options) bytes text blocks out
built bytes options binary loads counts text blocks out funs is same made ranged tells are =
    let with_funs = made bytes options.base (option_map (λ name. record { name = name.now; segments = loads }) options.map) (lines_of text) is ranged tells in
    subst (λ l. IsBuiltBy options.repairs (program_of bytes options.base) (sampled_by l bytes (lines_of text)) (functions_of blocks) out) (same-loading options.map loads bytes (same ∙ is.loads_are))
    (subst (λ fs. IsBuiltBy options.repairs (program_of bytes options.base) (sampled_by (option_map (λ name. record { name = name.now; segments = loads }) options.map) bytes (lines_of text)) fs out) are with_funs)
