-- Repairs that are written are read as these repairs.
use Rattle.std.proofs.Common.{◌≡◌, ℕ, zero, suc, ◌+◌, ◌<◌, ◌^◌, Bool, true, false, List, [], ◌∷◌, ◌++◌, length, get_or, take, drop, map, refl, arith, ap, sym, ◌∙◌, subst, append_assoc, Some, None}
use Rattle.std.specs.Prelude.{⊤, ℤ, pos, negsuc, if◌then◌else◌}
use Rattle.std.specs.List.{AllByRecursion, AllZip, enumerate_from, flat_map}
use Rattle.std.specs.Option.{unwrap_or}
use Rattle.std.specs.Str.{bytes_eq}
use Rattle.std.specs.Str.Parse.{AllDigits}
use Rattle.std.specs.Fmt.{decimal}
use Rattle.std.proofs.lemmas.Bool.{ltb-true, lt-ltb, le-ltb, eq-eqb}
use Rattle.std.proofs.lemmas.Fmt.{decimal_is_IsNumeral_wide}
use Rattle.std.proofs.lemmas.Grind.{flat_map-append}
use Rattle.std.proofs.lemmas.List.{append-nil, map-append, length-append, length-map, length-drop, length-take-le, drop-drop, take_more, take_all}
use Rattle.std.proofs.lemmas.Slice.Eq.{bytes_eq-Decides}
use Rattle.std.proofs.lemmas.List.Folds.{list_any-append}
use Rattle.list_lemmas.proofs.Each.{all_append}
use Rattle.refusal.specs.Place.{first_bad}
use Rattle.text_model.specs.Laws.{ended, HasNoLineFeed}
use Rattle.text_model.specs.Lines.{is_line_feed, lines_of}
use Rattle.text_model.specs.Numbers.{signed_text}
use Rattle.text_model.proofs.LawLemmas.{lines_split}
use Rattle.block_model.specs.declared.parts.Edge.{Edge}
use Rattle.block_model.specs.declared.parts.Weight.{Weight}
use Rattle.block_model.specs.declared.parts.Weight.TheVariants.{Unknown, Known}
use Rattle.block_model.specs.Function.{Function}
use Rattle.flow_model.specs.Network.{Counts}
use Rattle.repair_model.specs.Judging.{is_block_due, is_edge_due, is_next_edge, cause_of_block, cause_of_edge, cause_of_end, cause_inside, cause_of_begin, cause_of_line, items_from}
use Rattle.repair_model.specs.Bits.{IsSmall}
use Rattle.repair_model.specs.Laws.{CanBeTold, IsPassedOver, IsRepairOf, WrittenRepairsAreRead, numbered_repairs, text_of_repairs}
use Rattle.repair_model.specs.Line.{Line, line_fields, line_text, spaced, bit_text, weight_text, fits_price}
use Rattle.repair_model.specs.Line.{begins_flow, begins_cut, tells_count, tells_sides, tells_edge, ends_flow, ends_cut}
use Rattle.repair_model.specs.Repair.{Repair, Solution, flow, cut, told_edges}
use Rattle.repair_model.specs.Text.{Course, Open, begun, begun_by, closed_by, course_behind, ended_by, inside, is_end, line_of_block, line_of_edge, lines_of_blocks, lines_of_edges, lines_of_repair, numbers, repairs_from, told_behind, untold}
use Rattle.repair_model.proofs.LineLemmas.{written_lines_are_read, digit_is_no}

-- ---- lists

pub all_split : {X : Type 0} (P : X → Type 0) (xs ys : List X) → AllByRecursion P (xs ++ ys) → AllByRecursion P xs × AllByRecursion P ys
all_split P [] ys all = (tt, all)
all_split P (x ∷ xs) ys all = let rest = all_split P xs ys all.1 in ((all.0, rest.0), rest.1)

all_mapped : {X Y : Type 0} (P : Y → Type 0) (f : X → Y) (xs : List X) → ((x : X) → P (f x)) → AllByRecursion P (map f xs)
all_mapped P f [] gives = tt
all_mapped P f (x ∷ xs) gives = (gives x, all_mapped P f xs gives)

abbrev told_repair : List Weight → List Weight → Solution → ℕ → ℕ → Repair
told_repair weights edge_weights solution first second =
    record { weights = weights; edge_weights = edge_weights; solution = solution; first = first; second = second }

-- ---- a line holds no line feed

pub both_clean : (xs ys : List ℕ) → HasNoLineFeed xs → HasNoLineFeed ys → HasNoLineFeed (xs ++ ys)
both_clean xs ys one other = rw (list_any-append is_line_feed xs ys, one) other

pub spaced_clean : (fields : List (List ℕ)) → AllByRecursion HasNoLineFeed fields → HasNoLineFeed (spaced fields)
spaced_clean [] clean = refl
spaced_clean (field ∷ []) clean = clean.0
spaced_clean (field ∷ next ∷ fields) clean =
    both_clean (field ++ 32 ∷ []) (spaced (next ∷ fields)) (both_clean field (32 ∷ []) clean.0 refl) (spaced_clean (next ∷ fields) clean.1)

digits_clean : (ds : List ℕ) → AllDigits 10 ds → HasNoLineFeed ds
digits_clean [] digits = refl
digits_clean (d ∷ ds) digits = rw (digit_is_no d 10 digits.0 refl) (digits_clean ds digits.1)

numeral_clean : (n : ℕ) → n < 2 ^ 128 → HasNoLineFeed (decimal n)
numeral_clean n small = digits_clean (decimal n) (decimal_is_IsNumeral_wide n (omega (arith, small))).0.1

signed_clean : (z : ℤ) → fits_price z ≡ true → HasNoLineFeed (signed_text z)
signed_clean (pos n) fits = numeral_clean n (omega (arith, ltb-true n (2 ^ 63) fits))
signed_clean (negsuc n) fits = numeral_clean (suc n) (omega (arith, ltb-true n (2 ^ 63) fits))

pub bit_clean : (bit : Bool) → HasNoLineFeed (bit_text bit)
bit_clean false = refl
bit_clean true = refl

weight_clean : (weight : Weight) → IsSmall weight → HasNoLineFeed (weight_text weight)
weight_clean Unknown small = refl
weight_clean (Known weight) small = numeral_clean weight (omega (arith, small))

-- the name in a line, if there is one, has none
abbrev IsCleanName : Line → Type 0
IsCleanName (begins_flow name) = HasNoLineFeed name
IsCleanName (begins_cut name root) = HasNoLineFeed name
IsCleanName line = ⊤

fields_clean : (line : Line) → CanBeTold line → IsCleanName line → AllByRecursion HasNoLineFeed (line_fields line)
fields_clean (begins_flow name) told clean = (refl, (refl, (clean, (refl, tt))))
fields_clean (begins_cut name root) told clean = (refl, (refl, (clean, (refl, (bit_clean root, tt)))))
fields_clean (tells_count number weight count enter leave) told clean = (refl, (refl, (numeral_clean number (omega (arith, told.0)), (refl, (weight_clean weight told.1, (refl, (numeral_clean count (omega (arith, told.2)), (refl, (signed_clean enter told.3, (refl, (signed_clean leave told.4, tt)))))))))))
fields_clean (tells_sides number weight enter leave) told clean = (refl, (refl, (numeral_clean number (omega (arith, told.0)), (refl, (weight_clean weight told.1, (refl, (bit_clean enter, (refl, (bit_clean leave, tt)))))))))
fields_clean (tells_edge from to None count) told clean = (refl, (refl, (numeral_clean from (omega (arith, told.0)), (numeral_clean to (omega (arith, told.1)), (refl, (numeral_clean count (omega (arith, told.3)), tt))))))
fields_clean (tells_edge from to (Some weight) count) told clean = (refl, (refl, (numeral_clean from (omega (arith, told.0)), (numeral_clean to (omega (arith, told.1)), (refl, (weight_clean weight told.2, (refl, (numeral_clean count (omega (arith, told.3)), tt))))))))
fields_clean (ends_flow cost) told clean = (refl, (refl, (numeral_clean cost told, tt)))
fields_clean (ends_cut least most) told clean = (refl, (refl, (numeral_clean least told.0, (numeral_clean most told.1, tt))))

lines_clean : (lines : List Line) → AllByRecursion CanBeTold lines → AllByRecursion IsCleanName lines → AllByRecursion HasNoLineFeed (map line_text lines)
lines_clean [] told clean = tt
lines_clean (line ∷ lines) told clean =
    (spaced_clean (line_fields line) (fields_clean line told.0 clean.0), lines_clean lines told.1 clean.1)

-- only the first line of a repair has a name
repair_clean : (weighed : Bool) (fun : Function) (weights edge_weights : List Weight) (solution : Solution) (first second : ℕ) → HasNoLineFeed fun.name
    → AllByRecursion IsCleanName (lines_of_repair weighed fun (told_repair weights edge_weights solution first second))
unfolding lines_of_repair
repair_clean weighed fun weights edge_weights (flow counts ins outs) first second clean = (
  clean,
  all_append IsCleanName _ _
      (all_mapped IsCleanName _ (numbers 0 (length fun.blocks)) (λ number. tt))
      (all_append IsCleanName _ (ends_flow first ∷ []) (all_mapped IsCleanName _ (enumerate_from 0 fun.edges) (λ edge. tt)) (tt, tt)),
)
repair_clean weighed fun weights edge_weights (cut root ins outs) first second clean = (
  clean,
  all_append IsCleanName _ (ends_cut first second ∷ []) (all_mapped IsCleanName _ (numbers 0 (length fun.blocks)) (λ number. tt)) (tt, tt),
)

-- ---- the course of lines

-- from this course lines lead to that one, none of them bad, and end these repairs
record IsRead (file number : ℕ) (course : Course) (lines : List (List ℕ)) (next : Course) (done : List (ℕ × Repair)) : Type 0 where
  judged : (rest : List (List ℕ)) → first_bad (items_from file number course (lines ++ rest)) ≡ first_bad (items_from file (number + length lines) next rest)
  spelled : (rest : List (List ℕ)) → repairs_from number course (lines ++ rest) ≡ done ++ repairs_from (number + length lines) next rest

none_read : (file number : ℕ) (course : Course) → IsRead file number course [] course []
none_read file number course =
    let same : number ≡ number + 0 = omega arith in
    record {
      judged = λ rest. ap (λ (n : ℕ). first_bad (items_from file n course rest)) same;
      spelled = λ rest. ap (λ (n : ℕ). repairs_from n course rest) same;
    }

line_read : (file number : ℕ) (course next : Course) (line : List ℕ) (done : List (ℕ × Repair)) → cause_of_line course line ≡ None
    → course_behind number course line ≡ next → closed_by course line ≡ done → IsRead file number course (line ∷ []) next done
unfolding items_from repairs_from
line_read file number course next line done good behind closed = record {
  judged = λ rest. rw (good, behind) refl;
  spelled = λ rest. rw (closed, behind) refl;
}

then_read : (file number : ℕ) (course middle next : Course) (lines more : List (List ℕ)) (done also : List (ℕ × Repair))
    → IsRead file number course lines middle done → IsRead file (number + length lines) middle more next also
    → IsRead file number course (lines ++ more) next (done ++ also)
then_read file number course middle next lines more done also one other =
    let same : number + length lines + length more ≡ number + length (lines ++ more) = omega (arith, length-append lines more) in
    record {
      judged = λ rest. ap (λ (ls : List (List ℕ)). first_bad (items_from file number course ls)) (append_assoc lines more rest)
          ∙ one.judged (more ++ rest) ∙ other.judged rest ∙ ap (λ (n : ℕ). first_bad (items_from file n next rest)) same;
      spelled = λ rest. ap (λ (ls : List (List ℕ)). repairs_from number course ls) (append_assoc lines more rest)
          ∙ one.spelled (more ++ rest) ∙ ap (λ (rs : List (ℕ × Repair)). done ++ rs) (other.spelled rest ∙ ap (λ (n : ℕ). also ++ repairs_from n next rest) same)
          ∙ sym (append_assoc done also (repairs_from (number + length (lines ++ more)) next rest));
    }

-- lines that are passed over
passed_read : (file number : ℕ) (funs : List Function) (lines : List (List ℕ)) → AllByRecursion IsPassedOver lines → IsRead file number (untold funs) lines (untold funs) []
unfolding cause_of_line course_behind closed_by
passed_read file number funs [] passed = none_read file number (untold funs)
passed_read file number funs (line ∷ lines) passed =
    let one = line_read file number (untold funs) (untold funs) line [] (rw passed.0.other refl) (rw passed.0.other refl) refl in
    then_read file number (untold funs) (untold funs) (untold funs) (line ∷ []) lines [] [] one (passed_read file (number + 1) funs lines passed.1)

-- ---- lines inside a function

abbrev within : List Function → ℕ → Function → Repair → Course
within left line fun told = record { left = left; opened = Some (record { line = line; fun = fun; told = told }) }

-- a line that is due where so much is told, and what is told behind it
record IsStep (fun : Function) (told : Repair) (line : Line) (next : Repair) : Type 0 where
  can : CanBeTold line
  good : cause_inside fun told (Some line) ≡ None
  inner : is_end line ≡ false
  gives : told_behind told line ≡ next

abbrev AreSteps : Function → (ℕ → Repair) → ℕ → List Line → Type 0
AreSteps fun told k [] = ⊤
AreSteps fun told k (line ∷ lines) = IsStep fun (told k) line (told (k + 1)) × AreSteps fun told (k + 1) lines

step_read : (file number : ℕ) (left : List Function) (at : ℕ) (fun : Function) (told next : Repair) (line : Line) → IsStep fun told line next
    → IsRead file number (within left at fun told) (line_text line ∷ []) (within left at fun next) []
unfolding cause_of_line course_behind closed_by
step_read file number left at fun told next line step =
    let opened : Open = record { line = at; fun = fun; told = told } in
    let read = written_lines_are_read line step.can in
    line_read file number (within left at fun told) (within left at fun next) (line_text line) []
    (ap (cause_inside fun told) read ∙ step.good)
    (ap (inside left opened) read ∙ rw (step.inner, step.gives) refl)
    (ap (ended_by opened) read ∙ rw step.inner refl)

steps_read : (file number : ℕ) (left : List Function) (at : ℕ) (fun : Function) (told : ℕ → Repair) (k m : ℕ) (lines : List Line)
    → k + length lines ≡ m → AreSteps fun told k lines
    → IsRead file number (within left at fun (told k)) (map line_text lines) (within left at fun (told m)) []
steps_read file number left at fun told k m [] is steps =
    let same : k ≡ m = omega (arith, is) in
    subst (λ (n : ℕ). IsRead file number (within left at fun (told k)) [] (within left at fun (told n)) []) same (none_read file number (within left at fun (told k)))
steps_read file number left at fun told k m (line ∷ lines) is steps =
    then_read file number (within left at fun (told k)) (within left at fun (told (k + 1))) (within left at fun (told m)) (line_text line ∷ []) (map line_text lines) [] []
    (step_read file number left at fun (told k) (told (k + 1)) line steps.0)
    (steps_read file (number + 1) left at fun told (k + 1) m lines (omega (arith, is)) steps.1)

-- the line that ends a repair
end_read : (file number : ℕ) (left : List Function) (at : ℕ) (fun : Function) (told repair : Repair) (line : Line) → CanBeTold line
    → cause_inside fun told (Some line) ≡ None → is_end line ≡ true → told_behind told line ≡ repair
    → IsRead file number (within left at fun told) (line_text line ∷ []) (untold left) ((at, repair) ∷ [])
unfolding cause_of_line course_behind closed_by
end_read file number left at fun told repair line can good ends gives =
    let opened : Open = record { line = at; fun = fun; told = told } in
    let read = written_lines_are_read line can in
    line_read file number (within left at fun told) (untold left) (line_text line) ((at, repair) ∷ [])
    (ap (cause_inside fun told) read ∙ good)
    (ap (inside left opened) read ∙ rw ends refl)
    (ap (ended_by opened) read ∙ rw (ends, gives) refl)

-- ---- counts

-- behind so many blocks, and behind so many edges
abbrev counts_told : List Weight → Counts → List ℤ → List ℤ → ℕ → Repair
counts_told weights counts ins outs k =
    told_repair (take k weights) [] (flow (record { blocks = take k counts.blocks; edges = [] }) (take k ins) (take k outs)) 0 0

abbrev edges_told : List Weight → List Weight → Counts → List ℤ → List ℤ → ℕ → Repair
edges_told weights edge_weights counts ins outs k =
    told_repair weights (take k edge_weights) (flow (record { blocks = counts.blocks; edges = take k counts.edges }) ins outs) 0 0

block_is_due : (fun : Function) (told : Repair) (k : ℕ) → length told.weights ≡ k → k < length fun.blocks → cause_of_block true fun told k ≡ None
unfolding cause_of_block
block_is_due fun told k long within = rw (long, lt-ltb k (length fun.blocks) within, eq-eqb k k refl) refl

counts_step : (fun : Function) (weights : List Weight) (counts : Counts) (ins outs : List ℤ) (k : ℕ) → k < length fun.blocks
    → length weights ≡ length fun.blocks → length counts.blocks ≡ length fun.blocks → length ins ≡ length fun.blocks → length outs ≡ length fun.blocks
    → CanBeTold (line_of_block k (get_or weights k Unknown) (flow counts ins outs))
    → IsStep fun (counts_told weights counts ins outs k) (line_of_block k (get_or weights k Unknown) (flow counts ins outs)) (counts_told weights counts ins outs (k + 1))
unfolding cause_inside
counts_step fun weights counts ins outs k less weighed blocks enter leave can =
    let one = take_more weights k Unknown (omega (arith, less, weighed)) in
    let two = take_more counts.blocks k 0 (omega (arith, less, blocks)) in
    let three = take_more ins k (pos 0) (omega (arith, less, enter)) in
    let four = take_more outs k (pos 0) (omega (arith, less, leave)) in
    record {
      can = can;
      good = block_is_due fun (counts_told weights counts ins outs k) k (length-take-le k weights (omega (arith, less, weighed))) less;
      inner = refl;
      gives = rw (one, two, three, four) refl;
    }

counts_steps : (fun : Function) (weights : List Weight) (counts : Counts) (ins outs : List ℤ) (count k : ℕ) → k + count ≡ length fun.blocks
    → length weights ≡ length fun.blocks → length counts.blocks ≡ length fun.blocks → length ins ≡ length fun.blocks → length outs ≡ length fun.blocks
    → AllByRecursion CanBeTold (map (λ number. line_of_block number (get_or weights number Unknown) (flow counts ins outs)) (numbers k count))
    → AreSteps fun (counts_told weights counts ins outs) k (map (λ number. line_of_block number (get_or weights number Unknown) (flow counts ins outs)) (numbers k count))
counts_steps fun weights counts ins outs zero k is weighed blocks enter leave can = tt
counts_steps fun weights counts ins outs (suc count) k is weighed blocks enter leave can = (
  counts_step fun weights counts ins outs k (omega (arith, is)) weighed blocks enter leave can.0,
  counts_steps fun weights counts ins outs count (k + 1) (omega (arith, is)) weighed blocks enter leave can.1,
)

no_block_due : (fun : Function) (told : Repair) → length told.weights ≡ length fun.blocks → is_block_due fun told ≡ false
no_block_due fun told all = le-ltb (length told.weights) (length fun.blocks) (omega (arith, all))

-- the edge that is next where these are left
next_is : (fun : Function) (told : Repair) (k : ℕ) (edge : Edge) (edges : List Edge) → length told.edge_weights ≡ k → drop k fun.edges ≡ edge ∷ edges
    → is_next_edge fun told edge.from edge.to ≡ true
next_is fun told k edge edges long left = rw (long, left, eq-eqb edge.from edge.from refl, eq-eqb edge.to edge.to refl) refl

edge_is_due : (fun : Function) (weights edge_weights : List Weight) (counts : Counts) (ins outs : List ℤ) (k : ℕ) (edge : Edge) (edges : List Edge)
    → length weights ≡ length fun.blocks → k < length fun.edges → length edge_weights ≡ k → drop k fun.edges ≡ edge ∷ edges
    → cause_of_edge fun (told_repair weights edge_weights (flow counts ins outs) 0 0) edge.from edge.to ≡ None
unfolding cause_of_edge
edge_is_due fun weights edge_weights counts ins outs k edge edges weighed less long left =
    let told = told_repair weights edge_weights (flow counts ins outs) 0 0 in
    rw (no_block_due fun told weighed, next_is fun told k edge edges long left, long, lt-ltb k (length fun.edges) less) refl

pub unknown_at : (weights : List Weight) (k : ℕ) → AllByRecursion (λ weight. weight ≡ Unknown) weights → k < length weights → get_or weights k Unknown ≡ Unknown
unknown_at [] k all less = refl
unknown_at (weight ∷ weights) zero all less = all.0
unknown_at (weight ∷ weights) (suc k) all less = unknown_at weights k all.1 (omega (arith, less))

-- the weight of an edge, told or unknown
weight_back : (weighed : Bool) (weights : List Weight) (k : ℕ) → (weighed ≡ false → AllByRecursion (λ weight. weight ≡ Unknown) weights) → k < length weights
    → unwrap_or (if weighed then Some (get_or weights k Unknown) else None) Unknown ≡ get_or weights k Unknown
weight_back true weights k unweighed less = refl
weight_back false weights k unweighed less = sym (unknown_at weights k (unweighed refl) less)

edges_steps : (weighed : Bool) (fun : Function) (weights edge_weights : List Weight) (counts : Counts) (ins outs : List ℤ) (edges : List Edge) (k : ℕ)
    → drop k fun.edges ≡ edges → length weights ≡ length fun.blocks → length counts.edges ≡ length fun.edges → length edge_weights ≡ length fun.edges
    → (weighed ≡ false → AllByRecursion (λ weight. weight ≡ Unknown) edge_weights)
    → AllByRecursion CanBeTold (map (line_of_edge weighed edge_weights (flow counts ins outs)) (enumerate_from k edges))
    → AreSteps fun (edges_told weights edge_weights counts ins outs) k (map (line_of_edge weighed edge_weights (flow counts ins outs)) (enumerate_from k edges))
unfolding cause_inside
edges_steps weighed fun weights edge_weights counts ins outs [] k left known taken told unweighed can = tt
edges_steps weighed fun weights edge_weights counts ins outs (edge ∷ edges) k left known taken told unweighed can =
    let less : k < length fun.edges = omega (arith, ap length left, length-drop k fun.edges) in
    let next : drop (k + 1) fun.edges ≡ edges = sym (drop-drop 1 k fun.edges) ∙ ap (drop 1) left in
    let one = take_more edge_weights k Unknown (omega (arith, less, told)) in
    let two = take_more counts.edges k 0 (omega (arith, less, taken)) in
    let back = weight_back weighed edge_weights k unweighed (omega (arith, less, told)) in (
      record {
        can = can.0;
        good = edge_is_due fun weights (take k edge_weights) (record { blocks = counts.blocks; edges = take k counts.edges }) ins outs k edge edges
            known less (length-take-le k edge_weights (omega (arith, less, told))) left;
        inner = refl;
        gives = rw (one, two, back) refl;
      },
      edges_steps weighed fun weights edge_weights counts ins outs edges (k + 1) next known taken told unweighed can.1,
    )

-- ---- a cut

abbrev sides_told : List Weight → Bool → List Bool → List Bool → ℕ → Repair
sides_told weights root ins outs k = told_repair (take k weights) [] (cut root (take k ins) (take k outs)) 0 0

sides_steps : (fun : Function) (weights : List Weight) (root : Bool) (ins outs : List Bool) (count k : ℕ) → k + count ≡ length fun.blocks
    → length weights ≡ length fun.blocks → length ins ≡ length fun.blocks → length outs ≡ length fun.blocks
    → AllByRecursion CanBeTold (map (λ number. line_of_block number (get_or weights number Unknown) (cut root ins outs)) (numbers k count))
    → AreSteps fun (sides_told weights root ins outs) k (map (λ number. line_of_block number (get_or weights number Unknown) (cut root ins outs)) (numbers k count))
unfolding cause_inside
sides_steps fun weights root ins outs zero k is weighed enter leave can = tt
sides_steps fun weights root ins outs (suc count) k is weighed enter leave can =
    let less : k < length fun.blocks = omega (arith, is) in
    let one = take_more weights k Unknown (omega (arith, less, weighed)) in
    let two = take_more ins k false (omega (arith, less, enter)) in
    let three = take_more outs k false (omega (arith, less, leave)) in (
      record {
        can = can.0;
        good = block_is_due fun (sides_told weights root ins outs k) k (length-take-le k weights (omega (arith, less, weighed))) less;
        inner = refl;
        gives = rw (one, two, three) refl;
      },
      sides_steps fun weights root ins outs count (k + 1) (omega (arith, is)) weighed enter leave can.1,
    )

-- ---- a repair

same_name : (name : List ℕ) → bytes_eq name name ≡ true
same_name name = (bytes_eq-Decides name name).1 refl

first_counts_read : (file number : ℕ) (fun : Function) (funs : List Function) → CanBeTold (begins_flow fun.name)
    → IsRead file number (untold (fun ∷ funs)) (line_text (begins_flow fun.name) ∷ []) (within funs number fun (begun (flow (record { blocks = []; edges = [] }) [] []))) []
unfolding cause_of_line cause_of_begin course_behind closed_by
first_counts_read file number fun funs can =
    let read = written_lines_are_read (begins_flow fun.name) can in
    line_read file number (untold (fun ∷ funs)) _ (line_text (begins_flow fun.name)) []
    (ap (cause_of_begin (fun ∷ funs)) read ∙ rw (same_name fun.name) refl)
    (ap (begun_by number (fun ∷ funs)) read)
    refl

first_cut_read : (file number : ℕ) (fun : Function) (funs : List Function) (root : Bool) → CanBeTold (begins_cut fun.name root)
    → IsRead file number (untold (fun ∷ funs)) (line_text (begins_cut fun.name root) ∷ []) (within funs number fun (begun (cut root [] []))) []
unfolding cause_of_line cause_of_begin course_behind closed_by
first_cut_read file number fun funs root can =
    let read = written_lines_are_read (begins_cut fun.name root) can in
    line_read file number (untold (fun ∷ funs)) _ (line_text (begins_cut fun.name root)) []
    (ap (cause_of_begin (fun ∷ funs)) read ∙ rw (same_name fun.name) refl)
    (ap (begun_by number (fun ∷ funs)) read)
    refl

length-numbers : (from count : ℕ) → length (numbers from count) ≡ count
length-numbers from zero = refl
length-numbers from (suc count) = ap suc (length-numbers (from + 1) count)

length-enumerated : {X : Type 0} (from : ℕ) (xs : List X) → length (enumerate_from from xs) ≡ length xs
length-enumerated from [] = refl
length-enumerated from (x ∷ xs) = ap suc (length-enumerated (from + 1) xs)

-- all is told behind the last line of each kind
all_counts : (fun : Function) (weights : List Weight) (counts : Counts) (ins outs : List ℤ)
    → length weights ≡ length fun.blocks → length counts.blocks ≡ length fun.blocks → length ins ≡ length fun.blocks → length outs ≡ length fun.blocks
    → counts_told weights counts ins outs (length fun.blocks) ≡ told_repair weights [] (flow (record { blocks = counts.blocks; edges = [] }) ins outs) 0 0
all_counts fun weights counts ins outs weighed blocks enter leave =
    let n = length fun.blocks in
    rw (
      take_all n weights (omega (arith, weighed)),
      take_all n counts.blocks (omega (arith, blocks)),
      take_all n ins (omega (arith, enter)),
      take_all n outs (omega (arith, leave)),
    ) refl

no_edge_due : (fun : Function) (told : Repair) (edges : List Edge) → told_edges fun told.solution ≡ edges → length told.edge_weights ≡ length edges → is_edge_due fun told ≡ false
no_edge_due fun told edges is all = rw (is, le-ltb (length told.edge_weights) (length edges) (omega (arith, all))) refl

end_is_due : (fun : Function) (told : Repair) (edges : List Edge) → told_edges fun told.solution ≡ edges
    → length told.weights ≡ length fun.blocks → length told.edge_weights ≡ length edges → cause_of_end true fun told ≡ None
unfolding cause_of_end
end_is_due fun told edges is weighed all = rw (no_block_due fun told weighed, no_edge_due fun told edges is all) refl

texts_of_three : (first last : Line) (blocks edges : List Line)
    → map line_text (first ∷ (blocks ++ (edges ++ last ∷ []))) ≡ line_text first ∷ (map line_text blocks ++ (map line_text edges ++ line_text last ∷ []))
texts_of_three first last blocks edges =
    rw (map-append line_text blocks (edges ++ last ∷ []), map-append line_text edges (last ∷ [])) refl

-- the lines of blocks, of edges, and the last one
count_lines_read : (file number : ℕ) (funs : List Function) (at : ℕ) (fun : Function) (weights : List Weight) (counts : Counts) (ins outs : List ℤ)
    → length weights ≡ length fun.blocks → length counts.blocks ≡ length fun.blocks → length ins ≡ length fun.blocks → length outs ≡ length fun.blocks
    → AllByRecursion CanBeTold (lines_of_blocks (length fun.blocks) weights (flow counts ins outs))
    → IsRead file number (within funs at fun (counts_told weights counts ins outs 0)) (map line_text (lines_of_blocks (length fun.blocks) weights (flow counts ins outs)))
    (within funs at fun (told_repair weights [] (flow (record { blocks = counts.blocks; edges = [] }) ins outs) 0 0)) []
count_lines_read file number funs at fun weights counts ins outs weighed blocks enter leave can =
    let n = length fun.blocks in
    let line = λ (k : ℕ). line_of_block k (get_or weights k Unknown) (flow counts ins outs) in
    let read = steps_read file number funs at fun (counts_told weights counts ins outs) 0 n (lines_of_blocks n weights (flow counts ins outs))
    (omega (arith, length-map (numbers 0 n) line, length-numbers 0 n))
    (counts_steps fun weights counts ins outs n 0 (omega arith) weighed blocks enter leave can) in
    rw (all_counts fun weights counts ins outs weighed blocks enter leave) at read

edge_lines_read : (file number : ℕ) (funs : List Function) (at : ℕ) (weighed : Bool) (fun : Function) (weights edge_weights : List Weight) (counts : Counts) (ins outs : List ℤ)
    → length weights ≡ length fun.blocks → length counts.edges ≡ length fun.edges → length edge_weights ≡ length fun.edges
    → (weighed ≡ false → AllByRecursion (λ weight. weight ≡ Unknown) edge_weights)
    → AllByRecursion CanBeTold (lines_of_edges weighed fun.edges edge_weights (flow counts ins outs))
    → IsRead file number (within funs at fun (edges_told weights edge_weights counts ins outs 0)) (map line_text (lines_of_edges weighed fun.edges edge_weights (flow counts ins outs)))
    (within funs at fun (told_repair weights edge_weights (flow counts ins outs) 0 0)) []
edge_lines_read file number funs at weighed fun weights edge_weights counts ins outs known taken told unweighed can =
    let m = length fun.edges in
    let line = line_of_edge weighed edge_weights (flow counts ins outs) in
    let read = steps_read file number funs at fun (edges_told weights edge_weights counts ins outs) 0 m (lines_of_edges weighed fun.edges edge_weights (flow counts ins outs))
    (omega (arith, length-map (enumerate_from 0 fun.edges) line, length-enumerated 0 fun.edges))
    (edges_steps weighed fun weights edge_weights counts ins outs fun.edges 0 refl known taken told unweighed can) in
    rw (take_all m edge_weights (omega (arith, told)), take_all m counts.edges (omega (arith, taken))) at read

counts_end_read : (file number : ℕ) (funs : List Function) (at : ℕ) (fun : Function) (weights edge_weights : List Weight) (counts : Counts) (ins outs : List ℤ) (first second : ℕ)
    → length weights ≡ length fun.blocks → length edge_weights ≡ length fun.edges → second ≡ 0 → CanBeTold (ends_flow first)
    → IsRead file number (within funs at fun (told_repair weights edge_weights (flow counts ins outs) 0 0)) (line_text (ends_flow first) ∷ [])
    (untold funs) ((at, told_repair weights edge_weights (flow counts ins outs) first second) ∷ [])
unfolding cause_inside
counts_end_read file number funs at fun weights edge_weights counts ins outs first second known told none can =
    let so_far = told_repair weights edge_weights (flow counts ins outs) 0 0 in
    end_read file number funs at fun so_far _ (ends_flow first) can (end_is_due fun so_far fun.edges refl known told) refl (rw none refl)

counts_read : (file number : ℕ) (weighed : Bool) (fun : Function) (funs : List Function) (weights edge_weights : List Weight) (counts : Counts) (ins outs : List ℤ) (first second : ℕ)
    → IsRepairOf weighed fun (told_repair weights edge_weights (flow counts ins outs) first second)
    → IsRead file number (untold (fun ∷ funs)) (map line_text (lines_of_repair weighed fun (told_repair weights edge_weights (flow counts ins outs) first second)))
    (untold funs) ((number, told_repair weights edge_weights (flow counts ins outs) first second) ∷ [])
unfolding lines_of_repair
counts_read file number weighed fun funs weights edge_weights counts ins outs first second is =
    let repair = told_repair weights edge_weights (flow counts ins outs) first second in
    let blocks = lines_of_blocks (length fun.blocks) weights (flow counts ins outs) in
    let edges = lines_of_edges weighed fun.edges edge_weights (flow counts ins outs) in
    let can = all_split CanBeTold blocks (edges ++ ends_flow first ∷ []) is.told.1 in
    let also = all_split CanBeTold edges (ends_flow first ∷ []) can.1 in
    let first_read = first_counts_read file number fun funs is.told.0 in
    let blocks_read = count_lines_read file (number + 1) funs number fun weights counts ins outs is.weights is.shape.0 is.shape.1 is.shape.2 can.0 in
    let behind = number + 1 + length (map line_text blocks) in
    let edges_read = edge_lines_read file behind funs number weighed fun weights edge_weights counts ins outs is.weights is.shape.3 is.shape.4 is.unweighed also.0 in
    let end = counts_end_read file (behind + length (map line_text edges)) funs number fun weights edge_weights counts ins outs first second is.weights is.shape.4 is.shape.5 also.1.0 in
    subst (λ (ls : List (List ℕ)). IsRead file number (untold (fun ∷ funs)) ls (untold funs) ((number, repair) ∷ []))
    (sym (texts_of_three (begins_flow fun.name) (ends_flow first) blocks edges))
    (then_read file number _ _ _ _ _ [] ((number, repair) ∷ []) first_read
    (then_read file (number + 1) _ _ _ _ _ [] ((number, repair) ∷ []) blocks_read
    (then_read file behind _ _ _ _ _ [] ((number, repair) ∷ []) edges_read end)))

side_lines_read : (file number : ℕ) (funs : List Function) (at : ℕ) (fun : Function) (weights : List Weight) (root : Bool) (ins outs : List Bool)
    → length weights ≡ length fun.blocks → length ins ≡ length fun.blocks → length outs ≡ length fun.blocks
    → AllByRecursion CanBeTold (lines_of_blocks (length fun.blocks) weights (cut root ins outs))
    → IsRead file number (within funs at fun (sides_told weights root ins outs 0)) (map line_text (lines_of_blocks (length fun.blocks) weights (cut root ins outs)))
    (within funs at fun (told_repair weights [] (cut root ins outs) 0 0)) []
side_lines_read file number funs at fun weights root ins outs weighed enter leave can =
    let n = length fun.blocks in
    let line = λ (k : ℕ). line_of_block k (get_or weights k Unknown) (cut root ins outs) in
    let read = steps_read file number funs at fun (sides_told weights root ins outs) 0 n (lines_of_blocks n weights (cut root ins outs))
    (omega (arith, length-map (numbers 0 n) line, length-numbers 0 n))
    (sides_steps fun weights root ins outs n 0 (omega arith) weighed enter leave can) in
    rw (take_all n weights (omega (arith, weighed)), take_all n ins (omega (arith, enter)), take_all n outs (omega (arith, leave))) at read

cut_end_read : (file number : ℕ) (funs : List Function) (at : ℕ) (fun : Function) (weights edge_weights : List Weight) (root : Bool) (ins outs : List Bool) (first second : ℕ)
    → length weights ≡ length fun.blocks → edge_weights ≡ [] → CanBeTold (ends_cut first second)
    → IsRead file number (within funs at fun (told_repair weights [] (cut root ins outs) 0 0)) (line_text (ends_cut first second) ∷ [])
    (untold funs) ((at, told_repair weights edge_weights (cut root ins outs) first second) ∷ [])
unfolding cause_inside
cut_end_read file number funs at fun weights edge_weights root ins outs first second known none can =
    let so_far = told_repair weights [] (cut root ins outs) 0 0 in
    end_read file number funs at fun so_far _ (ends_cut first second) can (end_is_due fun so_far [] refl known refl) refl (rw none refl)

cut_read : (file number : ℕ) (weighed : Bool) (fun : Function) (funs : List Function) (weights edge_weights : List Weight) (root : Bool) (ins outs : List Bool) (first second : ℕ)
    → IsRepairOf weighed fun (told_repair weights edge_weights (cut root ins outs) first second)
    → IsRead file number (untold (fun ∷ funs)) (map line_text (lines_of_repair weighed fun (told_repair weights edge_weights (cut root ins outs) first second)))
    (untold funs) ((number, told_repair weights edge_weights (cut root ins outs) first second) ∷ [])
unfolding lines_of_repair
cut_read file number weighed fun funs weights edge_weights root ins outs first second is =
    let repair = told_repair weights edge_weights (cut root ins outs) first second in
    let blocks = lines_of_blocks (length fun.blocks) weights (cut root ins outs) in
    let can = all_split CanBeTold blocks (ends_cut first second ∷ []) is.told.1 in
    let first_read = first_cut_read file number fun funs root is.told.0 in
    let blocks_read = side_lines_read file (number + 1) funs number fun weights root ins outs is.weights is.shape.0 is.shape.1 can.0 in
    let end = cut_end_read file (number + 1 + length (map line_text blocks)) funs number fun weights edge_weights root ins outs first second is.weights is.shape.2 can.1.0 in
    subst (λ (ls : List (List ℕ)). IsRead file number (untold (fun ∷ funs)) ls (untold funs) ((number, repair) ∷ []))
    (sym (texts_of_three (begins_cut fun.name root) (ends_cut first second) blocks []))
    (then_read file number _ _ _ _ _ [] ((number, repair) ∷ []) first_read
    (then_read file (number + 1) _ _ _ _ _ [] ((number, repair) ∷ []) blocks_read end))

repair_read : (file number : ℕ) (weighed : Bool) (fun : Function) (funs : List Function) (weights edge_weights : List Weight) (solution : Solution) (first second : ℕ)
    → IsRepairOf weighed fun (told_repair weights edge_weights solution first second)
    → IsRead file number (untold (fun ∷ funs)) (map line_text (lines_of_repair weighed fun (told_repair weights edge_weights solution first second)))
    (untold funs) ((number, told_repair weights edge_weights solution first second) ∷ [])
repair_read file number weighed fun funs weights edge_weights (flow counts ins outs) first second is =
    counts_read file number weighed fun funs weights edge_weights counts ins outs first second is
repair_read file number weighed fun funs weights edge_weights (cut root ins outs) first second is =
    cut_read file number weighed fun funs weights edge_weights root ins outs first second is

-- ---- the lines of a text

abbrev lines_of_repairs : Bool → List Function → List Repair → List (List ℕ)
lines_of_repairs weighed (fun ∷ funs) (repair ∷ repairs) = map line_text (lines_of_repair weighed fun repair) ++ lines_of_repairs weighed funs repairs
lines_of_repairs weighed _ _ = []

repairs_read : (file number : ℕ) (weighed : Bool) (funs : List Function) (repairs : List Repair) → AllZip (IsRepairOf weighed) funs repairs
    → IsRead file number (untold funs) (lines_of_repairs weighed funs repairs) (untold []) (numbered_repairs weighed number funs repairs)
repairs_read file number weighed [] [] are = none_read file number (untold [])
repairs_read file number weighed [] (repair ∷ repairs) are = absurd are
repairs_read file number weighed (fun ∷ funs) [] are = absurd are
repairs_read file number weighed (fun ∷ funs) (repair ∷ repairs) are =
    let lines = lines_of_repair weighed fun repair in
    let one = repair_read file number weighed fun funs repair.weights repair.edge_weights repair.solution repair.first repair.second are.0 in
    let next : number + length lines ≡ number + length (map line_text lines) = omega (arith, length-map lines line_text) in
    let more = subst (λ (n : ℕ). IsRead file n (untold funs) (lines_of_repairs weighed funs repairs) (untold []) (numbered_repairs weighed (number + length lines) funs repairs)) next
    (repairs_read file (number + length lines) weighed funs repairs are.1) in
    then_read file number (untold (fun ∷ funs)) (untold funs) (untold []) (map line_text lines) (lines_of_repairs weighed funs repairs) ((number, repair) ∷ []) _ one more

repairs_clean : (weighed : Bool) (funs : List Function) (repairs : List Repair) → AllByRecursion (λ fun. HasNoLineFeed fun.name) funs
    → AllZip (IsRepairOf weighed) funs repairs → AllByRecursion HasNoLineFeed (lines_of_repairs weighed funs repairs)
repairs_clean weighed [] [] named are = tt
repairs_clean weighed [] (repair ∷ repairs) named are = absurd are
repairs_clean weighed (fun ∷ funs) [] named are = absurd are
repairs_clean weighed (fun ∷ funs) (repair ∷ repairs) named are =
    all_append HasNoLineFeed (map line_text (lines_of_repair weighed fun repair)) (lines_of_repairs weighed funs repairs)
    (lines_clean (lines_of_repair weighed fun repair) are.0.told
    (repair_clean weighed fun repair.weights repair.edge_weights repair.solution repair.first repair.second named.0))
    (repairs_clean weighed funs repairs named.1 are.1)

passed_clean : (lines : List (List ℕ)) → AllByRecursion IsPassedOver lines → AllByRecursion HasNoLineFeed lines
passed_clean [] passed = tt
passed_clean (line ∷ lines) passed = (passed.0.clean, passed_clean lines passed.1)

ended_lines : (lines : List Line) → flat_map (λ line. ended (line_text line)) lines ≡ flat_map ended (map line_text lines)
ended_lines [] = refl
ended_lines (line ∷ lines) = ap (λ (t : List ℕ). ended (line_text line) ++ t) (ended_lines lines)

repairs_joined : (weighed : Bool) (funs : List Function) (repairs : List Repair) → text_of_repairs weighed funs repairs ≡ flat_map ended (lines_of_repairs weighed funs repairs)
repairs_joined weighed [] repairs = refl
repairs_joined weighed (fun ∷ funs) [] = refl
repairs_joined weighed (fun ∷ funs) (repair ∷ repairs) =
    let lines = lines_of_repair weighed fun repair in
    ap (λ (t : List ℕ). t ++ text_of_repairs weighed funs repairs) (ended_lines lines)
    ∙ ap (λ (t : List ℕ). flat_map ended (map line_text lines) ++ t) (repairs_joined weighed funs repairs)
    ∙ sym (flat_map-append ended (map line_text lines) (lines_of_repairs weighed funs repairs))

-- the lines of ended lines
lines_back : (lines : List (List ℕ)) → AllByRecursion HasNoLineFeed lines → lines_of (flat_map ended lines) ≡ lines
lines_back lines clean =
    (lines_split (flat_map ended lines) lines (lines ++ []) []
    (record { clean = clean; open_end = refl; joined = sym (append-nil (flat_map ended lines)); all = refl })).1 ∙ append-nil lines

nothing_left : (file number : ℕ) → (first_bad (items_from file number (untold []) []) ≡ None) × (repairs_from number (untold []) [] ≡ [])
unfolding items_from repairs_from
nothing_left file number = (refl, refl)

pub written_repairs_are_read : WrittenRepairsAreRead
written_repairs_are_read file weighed funs repairs before behind text named are passed also is =
    let told = lines_of_repairs weighed funs repairs in
    let lines = before ++ (told ++ behind) in
    let joined : text ≡ flat_map ended lines =
    is ∙ ap (λ (t : List ℕ). flat_map ended before ++ (t ++ flat_map ended behind)) (repairs_joined weighed funs repairs)
    ∙ ap (λ (t : List ℕ). flat_map ended before ++ t) (sym (flat_map-append ended told behind))
    ∙ sym (flat_map-append ended before (told ++ behind)) in
    let clean = all_append HasNoLineFeed before (told ++ behind) (passed_clean before passed)
    (all_append HasNoLineFeed told behind (repairs_clean weighed funs repairs named are) (passed_clean behind also)) in
    let same : lines_of text ≡ lines ++ [] = ap lines_of joined ∙ lines_back lines clean ∙ sym (append-nil lines) in
    let number : 1 + length before ≡ length before + 1 = omega arith in
    let numbered = numbered_repairs weighed (1 + length before) funs repairs in
    let read = then_read file 1 _ _ _ _ _ [] (numbered ++ []) (passed_read file 1 funs before passed)
    (then_read file (1 + length before) _ _ _ _ _ numbered [] (repairs_read file (1 + length before) weighed funs repairs are)
    (passed_read file (1 + length before + length told) [] behind also)) in
    let end = nothing_left file (1 + length lines) in (
      ap (λ (ls : List (List ℕ)). first_bad (items_from file 1 (untold funs) ls)) same ∙ read.judged [] ∙ end.0,
      ap (λ (ls : List (List ℕ)). repairs_from 1 (untold funs) ls) same ∙ read.spelled [] ∙ ap (λ (rs : List (ℕ × Repair)). (numbered ++ []) ++ rs) end.1
          ∙ append-nil (numbered ++ []) ∙ append-nil numbered ∙ ap (λ (n : ℕ). numbered_repairs weighed n funs repairs) number,
    )
