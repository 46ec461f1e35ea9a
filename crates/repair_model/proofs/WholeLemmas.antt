-- Where no line of a repair text is bad, it tells all of each function.
use Rattle.std.proofs.Common.{◌≡◌, ℕ, suc, ◌+◌, ◌^◌, ◌<◌, ◌≤◌, Bool, true, false, List, [], ◌∷◌, ◌++◌, length, map, refl, arith, ap, ◌∙◌, subst, Option, Some, None, All}
use Rattle.std.specs.Prelude.{◌||◌, not, nat_lt, ⊤, ℤ, codes, if◌then◌else◌}
use Rattle.std.specs.Str.{bytes_eq}
use Rattle.std.specs.List.{AllZip}
use Rattle.std.specs.Option.{option_map, unwrap_or}
use Rattle.std.proofs.lemmas.Bool.{ltb-false, ltb-true, lt-ltb, or_parts, not-false}
use Rattle.std.proofs.lemmas.List.{length-append}
use Rattle.std.proofs.lemmas.List.Elements.{All-push, All-cons}
use Rattle.refusal.specs.declared.kind.Kind.{Kind}
use Rattle.refusal.specs.declared.kind.Kind.TheVariants.{BadLine, Extra, Missing}
use Rattle.refusal.specs.declared.place.Place.{Place}
use Rattle.refusal.specs.Place.{first_bad}
use Rattle.text_model.specs.Lines.{lines_of}
use Rattle.text_model.specs.Fields.{fields_of}
use Rattle.text_model.specs.Numbers.{decimal_of}
use Rattle.block_model.specs.declared.parts.Edge.{Edge}
use Rattle.block_model.specs.declared.parts.Weight.{Weight}
use Rattle.block_model.specs.declared.parts.Weight.TheVariants.{Unknown, Known}
use Rattle.block_model.specs.Function.{Function}
use Rattle.block_model.specs.Judging.{item}
use Rattle.block_model.specs.Limits.{bound_bits}
use Rattle.block_model.specs.Line.{◌>>=◌, within_bits, place_of, count_of}
use Rattle.flow_model.specs.Network.{weight_of as number_of_weight}
use Rattle.flow_model.specs.Sound.{AreWeights}
use Rattle.repair_model.specs.Judging.{is_block_due, is_edge_due, cause_of_block, cause_of_edge, cause_of_end, cause_inside, cause_of_name, cause_of_begin, cause_of_line, items_from}
use Rattle.repair_model.specs.Laws.{HasShape, IsWhole, IsToldOf, GoodRepairsAreWhole}
use Rattle.repair_model.specs.Line.{Line, line_of, weight_of, counted_of, sided_of, weighed_of, block_line_of, taken_of, joined_of, edge_line_of, end_line_of, function_line_of, line_by_fields, behind_mark, valued, if_over, price_of, sum_of, bit_of, begins_function}
use Rattle.repair_model.specs.Line.{begins_flow, begins_cut, tells_count, tells_sides, tells_edge, ends_flow, ends_cut}
use Rattle.repair_model.specs.Repair.{Repair, Solution, flow, cut, has_counts, told_edges}
use Rattle.repair_model.specs.Text.{Course, Open, begun, course_behind, closed_by, ended_by, inside, opened_at, begun_by, repairs_from, with_count, with_sides, with_edge}
pub use Rattle.text_model.proofs.LawLemmas.{lines_fewer}

-- ---- the weights that lines tell are small

abbrev IsLight : Weight → Type 0
IsLight weight = number_of_weight weight < 2 ^ bound_bits

abbrev TellsLight : Line → Type 0
TellsLight (tells_count number weight count enter leave) = IsLight weight
TellsLight (tells_sides number weight enter leave) = IsLight weight
TellsLight (tells_edge from to weight count) = IsLight (unwrap_or weight Unknown)
TellsLight line = ⊤

abbrev TellsLightIfLine : Option Line → Type 0
TellsLightIfLine None = ⊤
TellsLightIfLine (Some line) = TellsLight line

behind_light : {A : Type 0} (o : Option A) (f : A → Option Line) → ((x : A) → o ≡ Some x → TellsLightIfLine (f x)) → TellsLightIfLine (o >>= f)
behind_light None f gives = tt
behind_light (Some x) f gives = gives x refl

mapped_light : {A : Type 0} (o : Option A) (f : A → Line) → ((x : A) → TellsLight (f x)) → TellsLightIfLine (option_map f o)
mapped_light None f gives = tt
mapped_light (Some x) f gives = gives x

either_light : (b : Bool) (x y : Option Line) → TellsLightIfLine x → TellsLightIfLine y → TellsLightIfLine (if b then x else y)
either_light true x y one other = one
either_light false x y one other = other

over_light : (line : Line) (fields : List (List ℕ)) → TellsLight line → TellsLightIfLine (if_over line fields)
over_light line [] light = light
over_light line (field ∷ fields) light = tt

bits_light : (bits n m : ℕ) → within_bits bits n ≡ Some m → m < 2 ^ bits
bits_light bits n m is = by_test bits n m (nat_lt n (2 ^ bits)) refl is
  where
    by_test : (bits n m : ℕ) (b : Bool) → nat_lt n (2 ^ bits) ≡ b → (if b then Some n else None) ≡ Some m → m < 2 ^ bits
    by_test bits n m true test is =
        let same : n ≡ m = cc in
        subst (λ (k : ℕ). k < 2 ^ bits) same (ltb-true n (2 ^ bits) test)
    by_test bits n m false test is = absurd (cc)

known_light : (o : Option ℕ) (weight : Weight) → ((n : ℕ) → o ≡ Some n → n < 2 ^ bound_bits) → option_map Known o ≡ Some weight → IsLight weight
known_light None weight light is = absurd (cc)
known_light (Some n) weight light is =
    let same : Known n ≡ weight = cc in
    subst IsLight same (light n refl)

bound_light : (o : Option ℕ) (m : ℕ) → (o >>= within_bits bound_bits) ≡ Some m → m < 2 ^ bound_bits
bound_light None m is = absurd (cc)
bound_light (Some n) m is = bits_light bound_bits n m is

weight_light : (field : List ℕ) (weight : Weight) → weight_of field ≡ Some weight → IsLight weight
unfolding weight_of count_of
weight_light field weight is = by_mark (bytes_eq field (codes "?")) is
  where
    by_mark : (b : Bool) → (if b then Some Unknown else option_map Known (decimal_of field >>= within_bits bound_bits)) ≡ Some weight → IsLight weight
    by_mark true is =
        let same : Unknown ≡ weight = cc in
        subst IsLight same (omega arith)
    by_mark false is = known_light (decimal_of field >>= within_bits bound_bits) weight (bound_light (decimal_of field)) is

counted_light : (number : ℕ) (weight : Weight) (count : List ℕ) (fields : List (List ℕ)) → IsLight weight → TellsLightIfLine (counted_of number weight count fields)
unfolding counted_of
counted_light number weight count fields light =
    behind_light (place_of count) _ (λ count is.
    behind_light (valued (codes "in") fields) _ (λ enter is.
    behind_light (valued (codes "out") enter.1) _ (λ leave is.
    behind_light (price_of enter.0) _ (λ price is.
    behind_light (price_of leave.0) _ (λ other is. over_light (tells_count number weight count price other) leave.1 light)))))

sided_light : (number : ℕ) (weight : Weight) (enter : List ℕ) (fields : List (List ℕ)) → IsLight weight → TellsLightIfLine (sided_of number weight enter fields)
unfolding sided_of
sided_light number weight enter fields light =
    behind_light (bit_of enter) _ (λ bit is.
    behind_light (valued (codes "out") fields) _ (λ leave is.
    behind_light (bit_of leave.0) _ (λ other is. over_light (tells_sides number weight bit other) leave.1 light)))

weighed_light : (number : ℕ) (weight : Weight) (fields : List (List ℕ)) → IsLight weight → TellsLightIfLine (weighed_of number weight fields)
unfolding weighed_of
weighed_light number weight [] light = tt
weighed_light number weight (word ∷ []) light = tt
weighed_light number weight (word ∷ field ∷ fields) light =
    either_light (bytes_eq word (codes "count")) _ _ (counted_light number weight field fields light)
    (either_light (bytes_eq word (codes "in")) _ None (sided_light number weight field fields light) tt)

block_light : (fields : List (List ℕ)) → TellsLightIfLine (block_line_of fields)
unfolding block_line_of
block_light [] = tt
block_light (number ∷ fields) =
    behind_light (place_of number) _ (λ number is.
    behind_light (valued (codes "weight") fields) _ (λ weight is.
    behind_light (weight_of weight.0) _ (λ known is. weighed_light number known weight.1 (weight_light weight.0 known is))))

taken_light : (from to : ℕ) (weight : Option Weight) (count : List ℕ) (fields : List (List ℕ)) → IsLight (unwrap_or weight Unknown)
    → TellsLightIfLine (taken_of from to weight count fields)
unfolding taken_of
taken_light from to weight count fields light =
    behind_light (place_of count) _ (λ count is. over_light (tells_edge from to weight count) fields light)

joined_light : (from to : ℕ) (fields : List (List ℕ)) → TellsLightIfLine (joined_of from to fields)
unfolding joined_of
joined_light from to [] = tt
joined_light from to (word ∷ []) = tt
joined_light from to (word ∷ field ∷ fields) =
    either_light (bytes_eq word (codes "weight")) _ _
    (behind_light (weight_of field) _ (λ weight is.
    behind_light (valued (codes "count") fields) _ (λ count also. taken_light from to (Some weight) count.0 count.1 (weight_light field weight is))))
    (either_light (bytes_eq word (codes "count")) _ None (taken_light from to None field fields (omega arith)) tt)

edge_light : (fields : List (List ℕ)) → TellsLightIfLine (edge_line_of fields)
unfolding edge_line_of
edge_light [] = tt
edge_light (from ∷ []) = tt
edge_light (from ∷ to ∷ fields) =
    behind_light (place_of from) _ (λ from is. behind_light (place_of to) _ (λ to also. joined_light from to fields))

end_light : (fields : List (List ℕ)) → TellsLightIfLine (end_line_of fields)
unfolding end_line_of
end_light [] = tt
end_light (cost ∷ []) = mapped_light (sum_of cost) ends_flow (λ cost. tt)
end_light (least ∷ most ∷ []) = behind_light (sum_of least) _ (λ least is. behind_light (sum_of most) _ (λ most also. tt))
end_light (least ∷ most ∷ next ∷ fields) = tt

function_light : (fields : List (List ℕ)) → TellsLightIfLine (function_line_of fields)
unfolding function_line_of
function_light [] = tt
function_light (name ∷ []) = tt
function_light (name ∷ word ∷ []) = either_light (bytes_eq word (codes "flow")) (Some (begins_flow name)) None tt tt
function_light (name ∷ word ∷ root ∷ []) =
    either_light (bytes_eq word (codes "cut")) _ None (mapped_light (bit_of root) (begins_cut name) (λ root. tt)) tt
function_light (name ∷ word ∷ root ∷ next ∷ fields) = tt

fields_light : (fields : List (List ℕ)) → TellsLightIfLine (line_by_fields fields)
unfolding line_by_fields
fields_light [] = tt
fields_light (word ∷ fields) =
    either_light (bytes_eq word (codes "block")) _ _ (block_light fields)
    (either_light (bytes_eq word (codes "edge")) _ _ (edge_light fields)
    (either_light (bytes_eq word (codes "end")) _ _ (end_light fields)
    (either_light (bytes_eq word (codes "function")) _ None (function_light fields) tt)))

line_light : (line : List ℕ) → TellsLightIfLine (line_of line)
unfolding line_of
line_light line = behind_light (behind_mark (fields_of line)) line_by_fields (λ fields is. fields_light fields)

-- ---- what is told of a function so far

-- as much of each, and not more than the function has
record IsSoFar (fun : Function) (told : Repair) : Type 0 where
  few_blocks : length told.weights ≤ length fun.blocks
  few_edges : length told.edge_weights ≤ length fun.edges
  light : All IsLight told.weights
  light_edges : All IsLight told.edge_weights
  shape : HasShape (length told.weights) (length told.edge_weights) told told.solution

no_cause : (holds : Bool) (kind : Kind) (more : Option Kind) → (if holds then Some kind else more) ≡ None → (holds ≡ false) × (more ≡ None)
no_cause true kind more none = absurd (cc)
no_cause false kind more none = (refl, none)

length-push : {A : Type 0} (xs : List A) (x : A) → length (xs ++ x ∷ []) ≡ suc (length xs)
length-push xs x = omega (arith, length-append xs (x ∷ []))

abbrev told_repair : List Weight → List Weight → Solution → ℕ → ℕ → Repair
told_repair weights edge_weights solution first second =
    record { weights = weights; edge_weights = edge_weights; solution = solution; first = first; second = second }

-- two lists of one length stay so
pushed : {A B : Type 0} (xs : List A) (ys : List B) (x : A) (y : B) → length xs ≡ length ys → length (xs ++ x ∷ []) ≡ length (ys ++ y ∷ [])
pushed xs ys x y same = omega (arith, same, length-push xs x, length-push ys y)

nothing_so_far : (fun : Function) (solution : Solution) → HasShape 0 0 (begun solution) solution → IsSoFar fun (begun solution)
nothing_so_far fun solution shape = record {
  few_blocks = omega arith;
  few_edges = omega arith;
  light = λ k d within. absurd (omega (arith, within));
  light_edges = λ k d within. absurd (omega (arith, within));
  shape = shape;
}

block_due : (fun : Function) (told : Repair) (number : ℕ) (has_form : Bool) → cause_of_block has_form fun told number ≡ None
    → (has_form ≡ true) × (length told.weights < length fun.blocks)
unfolding cause_of_block
block_due fun told number has_form none =
    let one = no_cause (not has_form) BadLine _ none in
    let two = no_cause (not (is_block_due fun told)) Extra _ one.1 in
    (not-false has_form one.0, ltb-true (length told.weights) (length fun.blocks) (not-false (is_block_due fun told) two.0))

edge_due : (fun : Function) (told : Repair) (from to : ℕ) → cause_of_edge fun told from to ≡ None
    → length told.edge_weights < length (told_edges fun told.solution)
unfolding cause_of_edge
edge_due fun told from to none =
    let one = no_cause (is_block_due fun told) Missing _ none in
    let two = no_cause (not (is_edge_due fun told)) Extra _ one.1 in
    ltb-true (length told.edge_weights) (length (told_edges fun told.solution)) (not-false (is_edge_due fun told) two.0)

nothing_due : (fun : Function) (told : Repair) (has_form : Bool) → cause_of_end has_form fun told ≡ None
    → (has_form ≡ true) × (length fun.blocks ≤ length told.weights) × (length (told_edges fun told.solution) ≤ length told.edge_weights)
unfolding cause_of_end
nothing_due fun told has_form none =
    let one = no_cause (not has_form) BadLine _ none in
    let two = no_cause (is_block_due fun told || is_edge_due fun told) Missing _ one.1 in
    let both = or_parts (is_block_due fun told) (is_edge_due fun told) two.0 in
    (not-false has_form one.0, ltb-false (length told.weights) (length fun.blocks) both.0, ltb-false (length told.edge_weights) (length (told_edges fun told.solution)) both.1)

count_more : (fun : Function) (weights edge_weights : List Weight) (solution : Solution) (first second : ℕ) (number : ℕ) (weight : Weight) (count : ℕ) (enter leave : ℤ)
    → IsSoFar fun (told_repair weights edge_weights solution first second) → IsLight weight
    → cause_of_block (has_counts solution) fun (told_repair weights edge_weights solution first second) number ≡ None
    → IsSoFar fun (with_count (told_repair weights edge_weights solution first second) weight count enter leave solution)
count_more fun weights edge_weights (flow counts ins outs) first second number weight count enter leave is light none =
    let due = block_due fun _ number true none in
    record {
      few_blocks = omega (arith, due.1, length-push weights weight);
      few_edges = is.few_edges;
      light = All-push IsLight weights weight is.light light;
      light_edges = is.light_edges;
      shape = (
        pushed counts.blocks weights count weight is.shape.0,
        pushed ins weights enter weight is.shape.1,
        pushed outs weights leave weight is.shape.2,
        is.shape.3,
        is.shape.4,
        is.shape.5,
      );
    }
count_more fun weights edge_weights (cut root ins outs) first second number weight count enter leave is light none = is

sides_more : (fun : Function) (weights edge_weights : List Weight) (solution : Solution) (first second : ℕ) (number : ℕ) (weight : Weight) (enter leave : Bool)
    → IsSoFar fun (told_repair weights edge_weights solution first second) → IsLight weight
    → cause_of_block (not (has_counts solution)) fun (told_repair weights edge_weights solution first second) number ≡ None
    → IsSoFar fun (with_sides (told_repair weights edge_weights solution first second) weight enter leave solution)
sides_more fun weights edge_weights (flow counts ins outs) first second number weight enter leave is light none = is
sides_more fun weights edge_weights (cut root ins outs) first second number weight enter leave is light none =
    let due = block_due fun _ number true none in
    record {
      few_blocks = omega (arith, due.1, length-push weights weight);
      few_edges = is.few_edges;
      light = All-push IsLight weights weight is.light light;
      light_edges = is.light_edges;
      shape = (pushed ins weights enter weight is.shape.0, pushed outs weights leave weight is.shape.1, is.shape.2);
    }

edge_more : (fun : Function) (weights edge_weights : List Weight) (solution : Solution) (first second : ℕ) (from to : ℕ) (weight : Option Weight) (count : ℕ)
    → IsSoFar fun (told_repair weights edge_weights solution first second) → IsLight (unwrap_or weight Unknown)
    → cause_of_edge fun (told_repair weights edge_weights solution first second) from to ≡ None
    → IsSoFar fun (with_edge (told_repair weights edge_weights solution first second) weight count solution)
edge_more fun weights edge_weights (flow counts ins outs) first second from to weight count is light none =
    let due = edge_due fun _ from to none in
    record {
      few_blocks = is.few_blocks;
      few_edges = omega (arith, due, length-push edge_weights (unwrap_or weight Unknown));
      light = is.light;
      light_edges = All-push IsLight edge_weights (unwrap_or weight Unknown) is.light_edges light;
      shape = (
        is.shape.0,
        is.shape.1,
        is.shape.2,
        pushed counts.edges edge_weights count (unwrap_or weight Unknown) is.shape.3,
        refl,
        is.shape.5,
      );
    }
edge_more fun weights edge_weights (cut root ins outs) first second from to weight count is light none = is

-- ---- where a repair ends, all is told

unknown_light : (edges : List Edge) → AreWeights (length edges) (map (λ edge. Unknown) edges)
unknown_light [] = record { each = refl; small = λ k d within. absurd (omega (arith, within)) }
unknown_light (edge ∷ edges) =
    let more = unknown_light edges in
    record { each = ap suc more.each; small = All-cons IsLight Unknown (map (λ edge. Unknown) edges) (omega arith) more.small }

counts_whole : (fun : Function) (weights edge_weights : List Weight) (solution : Solution) (first second cost : ℕ)
    → IsSoFar fun (told_repair weights edge_weights solution first second)
    → cause_of_end (has_counts solution) fun (told_repair weights edge_weights solution first second) ≡ None
    → IsWhole fun (told_repair weights edge_weights solution cost second)
counts_whole fun weights edge_weights (flow counts ins outs) first second cost is none =
    let due = nothing_due fun _ true none in
    let blocks : length weights ≡ length fun.blocks = omega (arith, due.1, is.few_blocks) in
    let edges : length edge_weights ≡ length fun.edges = omega (arith, due.2, is.few_edges) in
    record {
      weighed = record { each = blocks; small = is.light };
      edges_weighed = record { each = edges; small = is.light_edges };
      shape = (is.shape.0 ∙ blocks, is.shape.1 ∙ blocks, is.shape.2 ∙ blocks, is.shape.3 ∙ edges, edges, is.shape.5);
    }
counts_whole fun weights edge_weights (cut root ins outs) first second cost is none =
    let due = nothing_due fun _ false none in absurd (cc (due.0))

cut_whole : (fun : Function) (weights edge_weights : List Weight) (solution : Solution) (first second least most : ℕ)
    → IsSoFar fun (told_repair weights edge_weights solution first second)
    → cause_of_end (not (has_counts solution)) fun (told_repair weights edge_weights solution first second) ≡ None
    → IsWhole fun (told_repair weights edge_weights solution least most)
cut_whole fun weights edge_weights (flow counts ins outs) first second least most is none =
    let due = nothing_due fun _ false none in absurd (cc (due.0))
cut_whole fun weights edge_weights (cut root ins outs) first second least most is none =
    let due = nothing_due fun _ true none in
    let blocks : length weights ≡ length fun.blocks = omega (arith, due.1, is.few_blocks) in
    record {
      weighed = record { each = blocks; small = is.light };
      edges_weighed = unknown_light fun.edges;
      shape = (is.shape.0 ∙ blocks, is.shape.1 ∙ blocks, is.shape.2);
    }

-- ---- the lines of a text

-- what the open repair and those behind it are of
abbrev awaited : List Function → Option Open → List Function
awaited left None = left
awaited left (Some opened) = opened.fun ∷ left

abbrev IsOpen : Option Open → Type 0
IsOpen None = ⊤
IsOpen (Some opened) = (opened.line ≤ 2 ^ 63) × IsSoFar opened.fun opened.told

abbrev course_at : List Function → Option Open → Course
course_at left opened = record { left = left; opened = opened }

-- what is to be shown of the lines behind one
abbrev TellsRest : ℕ → ℕ → List (List ℕ) → Type 0
TellsRest file number lines =
    (left : List Function) (opened : Option Open) → IsOpen opened → first_bad (items_from file number (course_at left opened) lines) ≡ None
    → AllZip IsToldOf (awaited left opened) (repairs_from number (course_at left opened) lines)

line_inside : (file number : ℕ) (lines : List (List ℕ)) (left : List Function) (opened : Open) (said : Option Line)
    → TellsRest file number lines → opened.line ≤ 2 ^ 63 → IsSoFar opened.fun opened.told → TellsLightIfLine said
    → cause_inside opened.fun opened.told said ≡ None → first_bad (items_from file number (inside left opened said) lines) ≡ None
    → AllZip IsToldOf (opened.fun ∷ left) (ended_by opened said ++ repairs_from number (inside left opened said) lines)
unfolding cause_inside
line_inside file number lines left opened None rest before is light none good = absurd (cc)
line_inside file number lines left opened (Some (begins_flow name)) rest before is light none good = absurd (cc)
line_inside file number lines left opened (Some (begins_cut name root)) rest before is light none good = absurd (cc)
line_inside file number lines left opened (Some (tells_count block weight count enter leave)) rest before is light none good =
    let told = opened.told in
    rest left (Some _) (before, count_more opened.fun told.weights told.edge_weights told.solution told.first told.second block weight count enter leave is light none) good
line_inside file number lines left opened (Some (tells_sides block weight enter leave)) rest before is light none good =
    let told = opened.told in
    rest left (Some _) (before, sides_more opened.fun told.weights told.edge_weights told.solution told.first told.second block weight enter leave is light none) good
line_inside file number lines left opened (Some (tells_edge from to weight count)) rest before is light none good =
    let told = opened.told in
    rest left (Some _) (before, edge_more opened.fun told.weights told.edge_weights told.solution told.first told.second from to weight count is light none) good
line_inside file number lines left opened (Some (ends_flow cost)) rest before is light none good =
    let told = opened.told in
    (record { whole = counts_whole opened.fun told.weights told.edge_weights told.solution told.first told.second cost is none; before = before }, rest left None tt good)
line_inside file number lines left opened (Some (ends_cut least most)) rest before is light none good =
    let told = opened.told in
    (record { whole = cut_whole opened.fun told.weights told.edge_weights told.solution told.first told.second least most is none; before = before }, rest left None tt good)

opened_next : (file number at : ℕ) (lines : List (List ℕ)) (left : List Function) (name : List ℕ) (solution : Solution)
    → TellsRest file number lines → at ≤ 2 ^ 63 → HasShape 0 0 (begun solution) solution → cause_of_name left name ≡ None
    → first_bad (items_from file number (opened_at at left solution) lines) ≡ None
    → AllZip IsToldOf left (repairs_from number (opened_at at left solution) lines)
opened_next file number at lines [] name solution rest before shape none good = absurd (cc)
opened_next file number at lines (fun ∷ left) name solution rest before shape none good =
    rest left (Some (record { line = at; fun = fun; told = begun solution })) (before, nothing_so_far fun solution shape) good

line_first : (file number at : ℕ) (lines : List (List ℕ)) (left : List Function) (said : Option Line)
    → TellsRest file number lines → at ≤ 2 ^ 63 → cause_of_begin left said ≡ None → first_bad (items_from file number (begun_by at left said) lines) ≡ None
    → AllZip IsToldOf left (repairs_from number (begun_by at left said) lines)
unfolding cause_of_begin
line_first file number at lines left None rest before none good = absurd (cc)
line_first file number at lines left (Some (begins_flow name)) rest before none good =
    opened_next file number at lines left name (flow (record { blocks = []; edges = [] }) [] []) rest before (refl, refl, refl, refl, refl, refl) none good
line_first file number at lines left (Some (begins_cut name root)) rest before none good =
    opened_next file number at lines left name (cut root [] []) rest before (refl, refl, refl) none good
line_first file number at lines left (Some (tells_count block weight count enter leave)) rest before none good = absurd (cc)
line_first file number at lines left (Some (tells_sides block weight enter leave)) rest before none good = absurd (cc)
line_first file number at lines left (Some (tells_edge from to weight count)) rest before none good = absurd (cc)
line_first file number at lines left (Some (ends_flow cost)) rest before none good = absurd (cc)
line_first file number at lines left (Some (ends_cut least most)) rest before none good = absurd (cc)

-- the item of a line that is good
no_item : (file number : ℕ) (cause : Option Kind) (items : List (Option Place)) → first_bad (item file number cause ∷ items) ≡ None
    → (cause ≡ None) × (first_bad items ≡ None)
no_item file number None items none = (refl, none)
no_item file number (Some kind) items none = absurd (cc)

line_outside : (file number at : ℕ) (lines : List (List ℕ)) (left : List Function) (line : List ℕ) (begins : Bool)
    → TellsRest file number lines → at ≤ 2 ^ 63 → (if begins then cause_of_begin left (line_of line) else None) ≡ None
    → first_bad (items_from file number (if begins then begun_by at left (line_of line) else course_at left None) lines) ≡ None
    → AllZip IsToldOf left (repairs_from number (if begins then begun_by at left (line_of line) else course_at left None) lines)
line_outside file number at lines left line true rest before none good = line_first file number at lines left (line_of line) rest before none good
line_outside file number at lines left line false rest before none good = rest left None tt good

lines_tell : (file : ℕ) (lines : List (List ℕ)) (number : ℕ) → number + length lines ≤ 2 ^ 63 + 1 → TellsRest file number lines
unfolding items_from repairs_from course_behind closed_by cause_of_line
lines_tell file [] number few [] None held good = tt
lines_tell file [] number few (fun ∷ left) None held good =
    let some = lt-ltb 0 (length (fun ∷ left)) (omega arith) in
    let missing = rw some at good in
    absurd (cc missing)
lines_tell file [] number few left (Some opened) held good = absurd (cc)
lines_tell file (line ∷ lines) number few left None held good =
    let parts = no_item file number (cause_of_line (course_at left None) line) _ good in
    line_outside file (number + 1) number lines left line (begins_function line)
    (lines_tell file lines (number + 1) (omega (arith, few))) (omega (arith, few)) parts.0 parts.1
lines_tell file (line ∷ lines) number few left (Some opened) held good =
    let parts = no_item file number (cause_of_line (course_at left (Some opened)) line) _ good in
    line_inside file (number + 1) lines left opened (line_of line)
    (lines_tell file lines (number + 1) (omega (arith, few))) held.0 held.1 (line_light line) parts.0 parts.1

-- ---- a text has no more lines than bytes

pub good_repairs_are_whole : GoodRepairsAreWhole
good_repairs_are_whole file funs text few good =
    lines_tell file (lines_of text) 1 (omega (arith, few, lines_fewer text)) funs None tt good
