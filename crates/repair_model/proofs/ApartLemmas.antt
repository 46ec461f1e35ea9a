-- The lines of a repair tell which one it is.
use Rattle.std.proofs.Common.{◌≡◌, ℕ, zero, suc, ◌+◌, ◌<◌, Bool, true, false, List, [], ◌∷◌, ◌++◌, refl, arith, sym, ◌∙◌, ap, length, get_or, map, subst, Option, Some, None}
use Rattle.std.specs.Prelude.{ℤ, pos, if◌then◌else◌}
use Rattle.std.specs.List.{AllByRecursion, enumerate_from}
use Rattle.block_model.specs.declared.parts.Edge.{Edge}
use Rattle.block_model.specs.declared.parts.Weight.{Weight}
use Rattle.block_model.specs.declared.parts.Weight.TheVariants.{Unknown}
use Rattle.block_model.specs.Function.{Function}
use Rattle.flow_model.specs.Network.{Counts}
use Rattle.repair_model.specs.Laws.{CanBeTold, IsRepairOf, RepairsAreApart}
use Rattle.repair_model.specs.Line.{Line, line_of, line_text}
use Rattle.repair_model.specs.Line.{begins_cut, tells_count, tells_sides, tells_edge, ends_flow, ends_cut}
use Rattle.repair_model.specs.Repair.{Repair, Solution, flow, cut}
use Rattle.repair_model.specs.Text.{numbers, line_of_block, line_of_edge, lines_of_blocks, lines_of_edges, lines_of_repair}
use Rattle.repair_model.proofs.LineLemmas.{written_lines_are_read}
use Rattle.repair_model.proofs.BackLemmas.{unknown_at}

-- ---- lists

same_line : (line other : Line) → CanBeTold line → CanBeTold other → line_text line ≡ line_text other → line ≡ other
same_line line other told also same =
    let both : Some line ≡ Some other = sym (written_lines_are_read line told) ∙ ap line_of same ∙ written_lines_are_read other also in cc

same_lines : (lines others : List Line) → AllByRecursion CanBeTold lines → AllByRecursion CanBeTold others
    → map line_text lines ≡ map line_text others → lines ≡ others
same_lines [] [] told also same = refl
same_lines [] (other ∷ others) told also same = absurd (cc)
same_lines (line ∷ lines) [] told also same = absurd (cc)
same_lines (line ∷ lines) (other ∷ others) told also same =
    let first : line_text line ≡ line_text other = cc in
    let rest : map line_text lines ≡ map line_text others = cc in
    let one = same_line line other told.0 also.0 first in
    let more = same_lines lines others told.1 also.1 rest in
    cc

-- two rows of lines of the same things, one behind the other
rows_apart : {A : Type 0} (f g : A → Line) (xs : List A) (behind others : List Line) → map f xs ++ behind ≡ map g xs ++ others
    → AllByRecursion (λ x. f x ≡ g x) xs × (behind ≡ others)
rows_apart f g [] behind others same = (tt, same)
rows_apart {A = A} f g (x ∷ xs) behind others same =
    let one : f x ≡ g x = cc in
    let rest : map f xs ++ behind ≡ map g xs ++ others = cc in
    let more = rows_apart f g xs behind others rest in
    ((one, more.0), more.1)

at_number : (P : ℕ → Type 0) (from count k m : ℕ) → from + k ≡ m → AllByRecursion P (numbers from count) → k < count → P m
at_number P from zero k m is all within = absurd (omega (arith, within))
at_number P from (suc count) zero m is all within =
    let same : from ≡ m = omega (arith, is) in
    subst P same all.0
at_number P from (suc count) (suc k) m is all within =
    let next : from + 1 + k ≡ m = omega (arith, is) in
    at_number P (from + 1) count k m next all.1 (omega (arith, within))

same_list : {A : Type 0} (d : A) (xs ys : List A) → length xs ≡ length ys → ((k : ℕ) → k < length xs → get_or xs k d ≡ get_or ys k d) → xs ≡ ys
same_list d [] [] long same = refl
same_list d [] (y ∷ ys) long same = absurd (omega (arith, long))
same_list d (x ∷ xs) [] long same = absurd (omega (arith, long))
same_list {A = A} d (x ∷ xs) (y ∷ ys) long same =
    let first : x ≡ y = same 0 (omega arith) in
    let rest = same_list d xs ys (omega (arith, long)) (λ k within. same (suc k) (omega (arith, within))) in
    ap (λ (z : A). z ∷ xs) first ∙ ap (λ (zs : List A). y ∷ zs) rest

-- ---- the parts of lines

abbrev number_in : Line → ℕ
number_in (tells_count number weight count enter leave) = count
number_in (tells_edge from to weight count) = count
number_in (ends_flow cost) = cost
number_in (ends_cut least most) = least
number_in line = 0

abbrev next_number_in : Line → ℕ
next_number_in (ends_cut least most) = most
next_number_in line = 0

abbrev weight_in : Line → Weight
weight_in (tells_count number weight count enter leave) = weight
weight_in (tells_sides number weight enter leave) = weight
weight_in line = Unknown

abbrev enter_in : Line → ℤ
enter_in (tells_count number weight count enter leave) = enter
enter_in line = pos 0

abbrev leave_in : Line → ℤ
leave_in (tells_count number weight count enter leave) = leave
leave_in line = pos 0

abbrev bit_in : Line → Bool
bit_in (tells_sides number weight enter leave) = enter
bit_in (begins_cut name root) = root
bit_in line = false

abbrev next_bit_in : Line → Bool
next_bit_in (tells_sides number weight enter leave) = leave
next_bit_in line = false

abbrev edge_weight_in : Line → Option Weight
edge_weight_in (tells_edge from to weight count) = weight
edge_weight_in line = None

abbrev head_of : List Line → Line
head_of [] = ends_flow 0
head_of (line ∷ lines) = line

abbrev tail_of : List Line → List Line
tail_of [] = []
tail_of (line ∷ lines) = lines

-- ---- edges

same_edges : (edges : List Edge) (k m : ℕ) (P : ℕ → Type 0) (f : ℕ × Edge → Type 0) (from : ℕ) → from + k ≡ m
    → ((place : ℕ) (edge : Edge) → f (place, edge) → P place) → AllByRecursion f (enumerate_from from edges) → k < length edges → P m
same_edges [] k m P f from is gives all within = absurd (omega (arith, within))
same_edges (edge ∷ edges) zero m P f from is gives all within =
    let same : from ≡ m = omega (arith, is) in
    subst P same (gives from edge all.0)
same_edges (edge ∷ edges) (suc k) m P f from is gives all within =
    let next : from + 1 + k ≡ m = omega (arith, is) in
    same_edges edges k m P f (from + 1) next gives all.1 (omega (arith, within))

-- the weights of edges, told or unknown
edge_weights_same : (weighed : Bool) (weights others : List Weight) → length weights ≡ length others
    → (weighed ≡ false → AllByRecursion (λ weight. weight ≡ Unknown) weights) → (weighed ≡ false → AllByRecursion (λ weight. weight ≡ Unknown) others)
    → ((k : ℕ) → k < length weights → (if weighed then Some (get_or weights k Unknown) else None) ≡ (if weighed then Some (get_or others k Unknown) else None))
    → weights ≡ others
edge_weights_same true weights others long unknown also same =
    same_list Unknown weights others long (λ k within. let both = same k within in cc)
edge_weights_same false weights others long unknown also same =
    same_list Unknown weights others long
    (λ k within. unknown_at weights k (unknown refl) within ∙ sym (unknown_at others k (also refl) (omega (arith, long, within))))

-- ---- repairs

abbrev counts_by : List ℕ → List ℕ → Counts
counts_by blocks edges = record { blocks = blocks; edges = edges }

same_counts : (counts others : Counts) → counts.blocks ≡ others.blocks → counts.edges ≡ others.edges → counts ≡ others
same_counts counts others blocks edges =
    ap (λ (xs : List ℕ). counts_by xs counts.edges) blocks ∙ ap (λ (xs : List ℕ). counts_by others.blocks xs) edges

abbrev told_repair : List Weight → List Weight → Solution → ℕ → ℕ → Repair
told_repair weights edge_weights solution first second =
    record { weights = weights; edge_weights = edge_weights; solution = solution; first = first; second = second }

flows_apart : (weighed : Bool) (fun : Function) (weights weights2 edge_weights edge_weights2 : List Weight) (counts counts2 : Counts) (ins outs ins2 outs2 : List ℤ) (first second first2 second2 : ℕ)
    → IsRepairOf weighed fun (told_repair weights edge_weights (flow counts ins outs) first second)
    → IsRepairOf weighed fun (told_repair weights2 edge_weights2 (flow counts2 ins2 outs2) first2 second2)
    → lines_of_blocks (length fun.blocks) weights (flow counts ins outs) ++ (lines_of_edges weighed fun.edges edge_weights (flow counts ins outs) ++ ends_flow first ∷ [])
    ≡ lines_of_blocks (length fun.blocks) weights2 (flow counts2 ins2 outs2) ++ (lines_of_edges weighed fun.edges edge_weights2 (flow counts2 ins2 outs2) ++ ends_flow first2 ∷ [])
    → told_repair weights edge_weights (flow counts ins outs) first second ≡ told_repair weights2 edge_weights2 (flow counts2 ins2 outs2) first2 second2
flows_apart weighed fun weights weights2 edge_weights edge_weights2 counts counts2 ins outs ins2 outs2 first second first2 second2 is also same =
    let n = length fun.blocks in
    let f = λ (k : ℕ). line_of_block k (get_or weights k Unknown) (flow counts ins outs) in
    let g = λ (k : ℕ). line_of_block k (get_or weights2 k Unknown) (flow counts2 ins2 outs2) in
    let rows = rows_apart f g (numbers 0 n) _ _ same in
    let at = λ (k : ℕ) (within : k < n). at_number (λ (k : ℕ). f k ≡ g k) 0 n k k (omega arith) rows.0 within in
    let s : weights ≡ weights2 = same_list Unknown weights weights2 (is.weights ∙ sym also.weights) (λ k within. ap weight_in (at k (omega (arith, within, is.weights)))) in
    let blocks : counts.blocks ≡ counts2.blocks = same_list 0 counts.blocks counts2.blocks (is.shape.0 ∙ sym also.shape.0) (λ k within. ap number_in (at k (omega (arith, within, is.shape.0)))) in
    let enter : ins ≡ ins2 = same_list (pos 0) ins ins2 (is.shape.1 ∙ sym also.shape.1) (λ k within. ap enter_in (at k (omega (arith, within, is.shape.1)))) in
    let leave : outs ≡ outs2 = same_list (pos 0) outs outs2 (is.shape.2 ∙ sym also.shape.2) (λ k within. ap leave_in (at k (omega (arith, within, is.shape.2)))) in
    let e = line_of_edge weighed edge_weights (flow counts ins outs) in
    let h = line_of_edge weighed edge_weights2 (flow counts2 ins2 outs2) in
    let edges = rows_apart e h (enumerate_from 0 fun.edges) _ _ rows.1 in
    let taken : counts.edges ≡ counts2.edges =
    same_list 0 counts.edges counts2.edges (is.shape.3 ∙ sym also.shape.3)
    (λ k within. same_edges fun.edges k k (λ (k : ℕ). get_or counts.edges k 0 ≡ get_or counts2.edges k 0) (λ (p : ℕ × Edge). e p ≡ h p) 0 (omega arith) (λ place edge at. ap number_in at) edges.0 (omega (arith, within, is.shape.3))) in
    let known : edge_weights ≡ edge_weights2 =
    edge_weights_same weighed edge_weights edge_weights2 (is.shape.4 ∙ sym also.shape.4) is.unweighed also.unweighed
    (λ k within. same_edges fun.edges k k (λ (k : ℕ). (if weighed then Some (get_or edge_weights k Unknown) else None) ≡ (if weighed then Some (get_or edge_weights2 k Unknown) else None)) (λ (p : ℕ × Edge). e p ≡ h p) 0 (omega arith)
    (λ place edge at. ap edge_weight_in at) edges.0 (omega (arith, within, is.shape.4))) in
    let cost : first ≡ first2 = ap (λ (ls : List Line). number_in (head_of ls)) edges.1 in
    let zero_both : second ≡ second2 = is.shape.5 ∙ sym also.shape.5 in
    let counted = same_counts counts counts2 blocks taken in
    rw (s, known, counted, enter, leave, cost, zero_both)

cuts_apart : (weighed : Bool) (fun : Function) (weights weights2 edge_weights edge_weights2 : List Weight) (root root2 : Bool) (ins outs ins2 outs2 : List Bool) (first second first2 second2 : ℕ)
    → IsRepairOf weighed fun (told_repair weights edge_weights (cut root ins outs) first second)
    → IsRepairOf weighed fun (told_repair weights2 edge_weights2 (cut root2 ins2 outs2) first2 second2)
    → root ≡ root2
    → lines_of_blocks (length fun.blocks) weights (cut root ins outs) ++ ends_cut first second ∷ []
    ≡ lines_of_blocks (length fun.blocks) weights2 (cut root2 ins2 outs2) ++ ends_cut first2 second2 ∷ []
    → told_repair weights edge_weights (cut root ins outs) first second ≡ told_repair weights2 edge_weights2 (cut root2 ins2 outs2) first2 second2
cuts_apart weighed fun weights weights2 edge_weights edge_weights2 root root2 ins outs ins2 outs2 first second first2 second2 is also roots same =
    let n = length fun.blocks in
    let f = λ (k : ℕ). line_of_block k (get_or weights k Unknown) (cut root ins outs) in
    let g = λ (k : ℕ). line_of_block k (get_or weights2 k Unknown) (cut root2 ins2 outs2) in
    let rows = rows_apart f g (numbers 0 n) _ _ same in
    let at = λ (k : ℕ) (within : k < n). at_number (λ (k : ℕ). f k ≡ g k) 0 n k k (omega arith) rows.0 within in
    let s : weights ≡ weights2 = same_list Unknown weights weights2 (is.weights ∙ sym also.weights) (λ k within. ap weight_in (at k (omega (arith, within, is.weights)))) in
    let enter : ins ≡ ins2 = same_list false ins ins2 (is.shape.0 ∙ sym also.shape.0) (λ k within. ap bit_in (at k (omega (arith, within, is.shape.0)))) in
    let leave : outs ≡ outs2 = same_list false outs outs2 (is.shape.1 ∙ sym also.shape.1) (λ k within. ap next_bit_in (at k (omega (arith, within, is.shape.1)))) in
    let known : edge_weights ≡ edge_weights2 = is.shape.2 ∙ sym also.shape.2 in
    let least : first ≡ first2 = ap (λ (ls : List Line). number_in (head_of ls)) rows.1 in
    let most : second ≡ second2 = ap (λ (ls : List Line). next_number_in (head_of ls)) rows.1 in
    rw (s, known, roots, enter, leave, least, most)

apart_by : (weighed : Bool) (fun : Function) (weights weights2 edge_weights edge_weights2 : List Weight) (solution solution2 : Solution) (first second first2 second2 : ℕ)
    → IsRepairOf weighed fun (told_repair weights edge_weights solution first second)
    → IsRepairOf weighed fun (told_repair weights2 edge_weights2 solution2 first2 second2)
    → lines_of_repair weighed fun (told_repair weights edge_weights solution first second) ≡ lines_of_repair weighed fun (told_repair weights2 edge_weights2 solution2 first2 second2)
    → told_repair weights edge_weights solution first second ≡ told_repair weights2 edge_weights2 solution2 first2 second2
unfolding lines_of_repair
apart_by weighed fun weights weights2 edge_weights edge_weights2 (flow counts ins outs) (flow counts2 ins2 outs2) first second first2 second2 is also same =
    flows_apart weighed fun weights weights2 edge_weights edge_weights2 counts counts2 ins outs ins2 outs2 first second first2 second2 is also (ap tail_of same)
apart_by weighed fun weights weights2 edge_weights edge_weights2 (flow counts ins outs) (cut root2 ins2 outs2) first second first2 second2 is also same = absurd (cc (ap head_of same))
apart_by weighed fun weights weights2 edge_weights edge_weights2 (cut root ins outs) (flow counts2 ins2 outs2) first second first2 second2 is also same = absurd (cc (ap head_of same))
apart_by weighed fun weights weights2 edge_weights edge_weights2 (cut root ins outs) (cut root2 ins2 outs2) first second first2 second2 is also same =
    cuts_apart weighed fun weights weights2 edge_weights edge_weights2 root root2 ins outs ins2 outs2 first second first2 second2 is also
    (ap (λ (ls : List Line). bit_in (head_of ls)) same) (ap tail_of same)

pub repairs_are_apart : RepairsAreApart
repairs_are_apart weighed fun repair other is also same =
    apart_by weighed fun repair.weights other.weights repair.edge_weights other.edge_weights repair.solution other.solution repair.first repair.second other.first other.second is also
    (same_lines (lines_of_repair weighed fun repair) (lines_of_repair weighed fun other) is.told also.told same)
