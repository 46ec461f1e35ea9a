-- Blocks with counts as spans, one behind the other.
use Rattle.std.proofs.Common.{◌≡◌, ℕ, ◌+◌, ◌<◌, min, List, [], ◌∷◌, ◌++◌, get_or, length, map, take, zip, sym, ap, ◌∙◌, arith, append_assoc}
use Rattle.std.proofs.lemmas.List.{append-nil, get_or-map, length-map, map-append, take_all, take_more}
use Rattle.std.proofs.lemmas.List.Concat.{flat_map-append}
use Rattle.std.proofs.lemmas.Slice.Zip.{get_or-zip, length-zip}
use Rattle.address_spans.specs.declared.span.Span.{Span}
use Rattle.block_model.specs.declared.parts.Block.{Block}
use Rattle.block_model.specs.Function.{Function}
use Rattle.cfg_text.specs.Fun.{function_of}
use Rattle.cfg_text.specs.declared.fun.Fun.{Fun}
use Rattle.output_model.specs.Lift.{counted_blocks}
use Rattle.repair_model.specs.Repair.{Repair}
use Rattle.repair_text.specs.Repair.{repair_of, solution_of}
use Rattle.repair_text.specs.declared.repair.Repair as read
use Rattle.line_lift.specs.Lift.{repaired}
use Rattle.line_lift.specs.Spans.{counted, span_of}

-- one pair more
pairs_more : {A B : Type 0} (ks : List A) (vs : List B) (n : ℕ) (k : A) (v : B) → n < length ks → n < length vs → k ≡ get_or ks n k → v ≡ get_or vs n v
    → take (n + 1) (zip ks vs) ≡ take n (zip ks vs) ++ (k, v) ∷ []
pairs_more ks vs n k v inside within key value =
    take_more (zip ks vs) n (k, v) (omega (arith, length-zip ks vs, inside, within))
    ∙ ap (λ p. take n (zip ks vs) ++ p ∷ []) (get_or-zip ks vs n (k, v) inside within ∙ (λ i. (sym key i, sym value i)))

-- one block more
pub blocks_more : (front : List Span) (blocks : List Block) (counts : List ℕ) (n : ℕ) (block : Block) (count : ℕ) (old : List Span) → n < length blocks → n < length counts → block ≡ get_or blocks n block → count ≡ get_or counts n count
    → old ≡ front ++ map span_of (take n (zip blocks counts)) → old ++ span_of (block, count) ∷ [] ≡ front ++ map span_of (take (n + 1) (zip blocks counts))
blocks_more front blocks counts n block count old inside within block_is count_is so_far =
    ap (λ ys. ys ++ span_of (block, count) ∷ []) so_far
    ∙ append_assoc front (map span_of (take n (zip blocks counts))) (span_of (block, count) ∷ [])
    ∙ ap (λ ys. front ++ ys) (sym (map-append span_of (take n (zip blocks counts)) ((block, count) ∷ [])))
    ∙ ap (λ ps. front ++ map span_of ps) (sym (pairs_more blocks counts n block count inside within block_is count_is))

pub blocks_all : (front : List Span) (blocks : List Block) (counts : List ℕ) (n : ℕ) (spans : List Span) → n ≡ min (length blocks) (length counts)
    → spans ≡ front ++ map span_of (take n (zip blocks counts)) → spans ≡ front ++ map span_of (zip blocks counts)
blocks_all front blocks counts n spans end so_far = so_far ∙ ap (λ ps. front ++ map span_of ps) (take_all n (zip blocks counts) (omega (arith, end, length-zip blocks counts)))

-- one function more
pub functions_more : (funs : List Fun) (repairs : List read.Repair) (n : ℕ) (fun : Fun) (repair : read.Repair) (old new : List Span) → n < length funs → n < length repairs → fun ≡ get_or funs n fun → repair ≡ get_or repairs n repair
    → old ≡ map span_of (counted (take n (repaired funs repairs))) → new ≡ old ++ map span_of (counted_blocks (function_of fun) (solution_of repair.solved))
    → new ≡ map span_of (counted (take (n + 1) (repaired funs repairs)))
functions_more funs repairs n fun repair old new inside within fun_is repair_is so_far added =
    let pair : Function × Repair = (function_of fun, repair_of repair) in
    let fun_there = ap function_of fun_is ∙ sym (get_or-map function_of funs n fun (function_of fun) inside) in
    let repair_there = ap repair_of repair_is ∙ sym (get_or-map repair_of repairs n repair (repair_of repair) within) in
    let more : take (n + 1) (repaired funs repairs) ≡ take n (repaired funs repairs) ++ pair ∷ [] =
    pairs_more (map function_of funs) (map repair_of repairs) n (function_of fun) (repair_of repair)
    (omega (arith, inside, length-map funs function_of)) (omega (arith, within, length-map repairs repair_of)) fun_there repair_there in
    added
    ∙ ap (λ ys. ys ++ map span_of (counted_blocks (function_of fun) (solution_of repair.solved))) so_far
    ∙ ap (λ ys. map span_of (counted (take n (repaired funs repairs))) ++ map span_of ys) (sym (append-nil (counted_blocks (function_of fun) (solution_of repair.solved))))
    ∙ sym (map-append span_of (counted (take n (repaired funs repairs))) (counted (pair ∷ [])))
    ∙ ap (map span_of) (sym (flat_map-append (λ (it : Function × Repair). counted_blocks it.0 it.1.solution) (take n (repaired funs repairs)) (pair ∷ [])))
    ∙ ap (λ ps. map span_of (counted ps)) (sym more)

pub functions_all : (funs : List Fun) (repairs : List read.Repair) (n : ℕ) (spans : List Span) → n ≡ min (length funs) (length repairs)
    → spans ≡ map span_of (counted (take n (repaired funs repairs))) → spans ≡ map span_of (counted (repaired funs repairs))
functions_all funs repairs n spans end so_far =
    so_far ∙ ap (λ ps. map span_of (counted ps)) (take_all n (repaired funs repairs) (omega (arith, end, length-zip (map function_of funs) (map repair_of repairs), length-map funs function_of, length-map repairs repair_of)))
