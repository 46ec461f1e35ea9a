-- What is left to write of lines, one by one.
use Rattle.std.proofs.Common.{◌≡◌, ℕ, zero, suc, ◌+◌, ◌-◌, ◌<◌, ◌≤◌, ◌^◌, true, false, List, [], ◌∷◌, ◌++◌, length, map, drop, get_or, arith, refl, inl, inr, sym, ◌∙◌, ap, subst, append_assoc}
use Rattle.std.proofs.Math.ListN.{drop_of_length-le}
use Rattle.std.proofs.lemmas.Bool.{cases_lt, lt-ltb}
use Rattle.std.proofs.lemmas.Int.{ints}
use Rattle.std.proofs.lemmas.List.{append-nil, drop_more, get_or_default}
use Rattle.std.specs.List.{AllByRecursion, enumerate_from, flat_map}
use Rattle.std.proofs.lemmas.List.Concat.{flat_map-append}
use Rattle.text_model.specs.Laws.{ended}
use Rattle.repair_model.specs.Line.{Line, line_text, fits_price}
use Rattle.std.specs.Prelude.{Bool, Option, None, Some, ℤ, pos, negsuc, neg_ℤ, ◌≤ℤ◌, ◌<ℤ◌, slice_index_or, if◌then◌else◌}
use Rattle.std.specs.Option.{option_map, unwrap_or}
use Rattle.list_lemmas.proofs.Each.{all_append}
use Rattle.block_model.specs.declared.parts.Edge.{Edge}
use Rattle.block_model.specs.declared.parts.Weight.{Weight}
use Rattle.block_model.specs.declared.parts.Weight.TheVariants.{Unknown, Known}
use Rattle.block_model.specs.Function.{Function}
use Rattle.block_model.specs.Limits.{bound_bits}
use Rattle.flow_model.specs.Network.{weight_of}
use Rattle.repair_model.specs.Bits.{FitsBits, IsSmall, IsSmallIfTold}
use Rattle.repair_model.specs.Repair.{Repair, Solution, flow, cut, told_edges}
use Rattle.repair_text.specs.Repair.{AreSmall}
use Rattle.repair_model.specs.Text.{numbers, text_of_lines, first_line, last_line, lines_of_blocks, lines_of_edges, lines_of_repair, repair_text}

-- the lines of these numbers, up to the last one
abbrev pub text_from : (ℕ → Line) → ℕ → ℕ → List ℕ
text_from line count number = text_of_lines (map line (numbers number (count - number)))

pub text_next : (line : ℕ → Line) (count number : ℕ) → number < count
    → text_from line count number ≡ ended (line_text (line number)) ++ text_from line count (number + 1)
text_next line count number within =
    let left : count - number ≡ suc (count - (number + 1)) = omega arith in
    ap (λ (n : ℕ). text_of_lines (map line (numbers number n))) left

pub text_none : (line : ℕ → Line) (count number : ℕ) → count ≤ number → text_from line count number ≡ []
text_none line count number past =
    let left : count - number ≡ 0 = omega arith in
    ap (λ (n : ℕ). text_of_lines (map line (numbers number n))) left

-- one line more was written
pub wrote_line : (line : ℕ → Line) (count number : ℕ) (old all new : List ℕ) → number < count
    → old ++ text_from line count number ≡ all → new ≡ old ++ ended (line_text (line number)) → new ++ text_from line count (number + 1) ≡ all
wrote_line line count number old all new within so_far is =
    rw (is, append_assoc old (ended (line_text (line number))) (text_from line count (number + 1)))
    (ap (λ (t : List ℕ). old ++ t) (sym (text_next line count number within)) ∙ so_far)

-- the lines of what stands in a list from this place on
abbrev pub text_behind : {A : Type 0} → (ℕ × A → Line) → List A → ℕ → List ℕ
text_behind line xs place = text_of_lines (map line (enumerate_from place (drop place xs)))

pub wrote_next : {A : Type 0} (line : ℕ × A → Line) (xs : List A) (place : ℕ) (x : A) (old all new : List ℕ)
    → drop place xs ≡ x ∷ drop (place + 1) xs
    → old ++ text_behind line xs place ≡ all → new ≡ old ++ ended (line_text (line (place, x))) → new ++ text_behind line xs (place + 1) ≡ all
wrote_next {A = A} line xs place x old all new split so_far is =
    rw (is, append_assoc old (ended (line_text (line (place, x)))) (text_behind line xs (place + 1)))
    (ap (λ (t : List ℕ). old ++ t) (sym (ap (λ (ys : List A). text_of_lines (map line (enumerate_from place ys))) split)) ∙ so_far)

-- ---- numbers within their bits

-- so far these lines were written, the rest is left, and the numbers in those that were written fit their bits
pub record WroteLines (line : ℕ → Line) (count number : ℕ) (weights : List Weight) (old now : List ℕ) : Type 0 where
  pub text : now ++ text_from line count number ≡ old ++ text_of_lines (map line (numbers 0 count))
  pub fit : AreSmall weights → (k : ℕ) → k < number → FitsBits (line k)

pub wrote_none : (line : ℕ → Line) (count : ℕ) (weights : List Weight) (old : List ℕ) → WroteLines line count 0 weights old old
wrote_none line count weights old = record { text = ap (λ (n : ℕ). old ++ text_of_lines (map line (numbers 0 n))) {x = count - 0} {y = count} (omega arith); fit = λ small k below. absurd (omega (arith, below)) }

pub wrote_more : (line : ℕ → Line) (count number : ℕ) (weights : List Weight) (old now new : List ℕ) → number < count
    → WroteLines line count number weights old now → new ≡ now ++ ended (line_text (line number)) → (AreSmall weights → FitsBits (line number))
    → WroteLines line count (number + 1) weights old new
wrote_more line count number weights old now new within so_far is fits = record {
  text = wrote_line line count number now (old ++ text_of_lines (map line (numbers 0 count))) new within so_far.text is;
  fit = λ small k below. elim (cases_lt k number) as (λ _. FitsBits (line k)) [
    | inl before ↦ so_far.fit small k before
    | inr past ↦ let same : number ≡ k = omega (arith, below, past) in subst (λ (n : ℕ). FitsBits (line n)) same (fits small)
  ];
}

all_numbers : (line : ℕ → Line) (from count : ℕ) → ((k : ℕ) → k < from + count → FitsBits (line k)) → AllByRecursion FitsBits (map line (numbers from count))
all_numbers line from zero fit = tt
all_numbers line from (suc count) fit = (fit from (omega arith), all_numbers line (from + 1) count (λ k below. fit k (omega (arith, below))))

pub wrote_all : (line : ℕ → Line) (count number : ℕ) (weights : List Weight) (old now : List ℕ) → WroteLines line count number weights old now → count ≤ number
    → now ≡ old ++ text_of_lines (map line (numbers 0 count))
wrote_all line count number weights old now so_far past =
    sym (append-nil now) ∙ ap (λ (t : List ℕ). now ++ t) (sym (text_none line count number past)) ∙ so_far.text

pub all_fit : (line : ℕ → Line) (count number : ℕ) (weights : List Weight) (old now : List ℕ) → WroteLines line count number weights old now → count ≤ number
    → AreSmall weights → AllByRecursion FitsBits (map line (numbers 0 count))
all_fit line count number weights old now so_far past small = all_numbers line 0 count (λ k below. so_far.fit small k (omega (arith, below, past)))

-- the same of the lines of edges
pub record WroteEdges (line : ℕ × Edge → Line) (edges : List Edge) (place : ℕ) (weights : List Weight) (old now : List ℕ) : Type 0 where
  pub text : now ++ text_behind line edges place ≡ old ++ text_behind line edges 0
  pub fit : AreSmall weights → (k : ℕ) (e : Edge) → k < place → FitsBits (line (k, get_or edges k e))

pub no_edges_wrote : (line : ℕ × Edge → Line) (edges : List Edge) (weights : List Weight) (old : List ℕ) → WroteEdges line edges 0 weights old old
no_edges_wrote line edges weights old = record { text = refl; fit = λ small k e below. absurd (omega (arith, below)) }

pub wrote_edge : (line : ℕ × Edge → Line) (edges : List Edge) (place : ℕ) (edge : Edge) (weights : List Weight) (old now new : List ℕ) → place < length edges
    → edge ≡ get_or edges place edge → WroteEdges line edges place weights old now → new ≡ now ++ ended (line_text (line (place, edge)))
    → (AreSmall weights → FitsBits (line (place, edge))) → WroteEdges line edges (place + 1) weights old new
wrote_edge line edges place edge weights old now new within here so_far is fits = record {
  text = wrote_next line edges place edge now (old ++ text_behind line edges 0) new
      (drop_more edges place edge within ∙ ap (λ (x : Edge). x ∷ drop (place + 1) edges) (sym here)) so_far.text is;
  fit = λ small k e below. elim (cases_lt k place) as (λ _. FitsBits (line (k, get_or edges k e))) [
    | inl before ↦ so_far.fit small k e before
    | inr past ↦
        let at : place ≡ k = omega (arith, below, past) in
        let same : edge ≡ get_or edges place e = here ∙ get_or_default edges place edge e within in
        subst (λ (n : ℕ). FitsBits (line (n, get_or edges n e))) at (subst (λ (x : Edge). FitsBits (line (place, x))) same (fits small))
  ];
}

all_edges : (line : ℕ × Edge → Line) (from : ℕ) (edges : List Edge) → ((k : ℕ) (e : Edge) → k < length edges → FitsBits (line (from + k, get_or edges k e)))
    → AllByRecursion FitsBits (map line (enumerate_from from edges))
all_edges line from [] fit = tt
all_edges line from (edge ∷ edges) fit =
    let here : from + 0 ≡ from = omega arith in (
      subst (λ (n : ℕ). FitsBits (line (n, edge))) here (fit 0 edge (omega arith)),
      all_edges line (from + 1) edges (λ k e below.
          let next : from + suc k ≡ from + 1 + k = omega arith in
          subst (λ (n : ℕ). FitsBits (line (n, get_or edges k e))) next (fit (suc k) e (omega (arith, below)))),
    )

pub wrote_edges : (line : ℕ × Edge → Line) (edges : List Edge) (place : ℕ) (weights : List Weight) (old now : List ℕ) → WroteEdges line edges place weights old now
    → length edges ≤ place → now ≡ old ++ text_of_lines (map line (enumerate_from 0 edges))
wrote_edges line edges place weights old now so_far past =
    sym (append-nil now) ∙ ap (λ (t : List ℕ). now ++ t) (sym (ap (λ (es : List Edge). text_of_lines (map line (enumerate_from place es))) (drop_of_length-le edges past))) ∙ so_far.text

pub all_edges_fit : (line : ℕ × Edge → Line) (edges : List Edge) (place : ℕ) (weights : List Weight) (old now : List ℕ) → WroteEdges line edges place weights old now
    → length edges ≤ place → AreSmall weights → AllByRecursion FitsBits (map line (enumerate_from 0 edges))
all_edges_fit line edges place weights old now so_far past small =
    all_edges line 0 edges (λ k e below.
    let same : k ≡ 0 + k = omega arith in
    subst (λ (n : ℕ). FitsBits (line (n, get_or edges k e))) same (so_far.fit small k e (omega (arith, below, past))))

-- a weight in a list of small ones is small, whichever it is
pub small_at : (weights : List Weight) (n : ℕ) → AreSmall weights → weight_of (slice_index_or weights n Unknown) < 2 ^ bound_bits
small_at [] n small = omega arith
small_at (w ∷ weights) zero small = small 0 w (omega arith)
small_at (w ∷ weights) (suc n) small = small_at weights n (λ k d below. small (suc k) d (omega (arith, below)))

pub small_if_told : (told : Bool) (weight : Weight) → weight_of weight < 2 ^ bound_bits → IsSmallIfTold (if told then Some weight else None)
small_if_told false weight small = tt
small_if_told true Unknown small = tt
small_if_told true (Known weight) small = small

pub is_small : (weight : Weight) → weight_of weight < 2 ^ bound_bits → IsSmall weight
is_small Unknown small = tt
is_small (Known weight) small = small

-- a number of 64 bits with sign is a price
pub price_fits : (z : ℤ) → neg_ℤ (pos (2 ^ 63)) ≤ℤ z → z <ℤ pos (2 ^ 63) → fits_price z ≡ true
price_fits (pos n) least most = lt-ltb n (2 ^ 63) (omega (arith, ints, most))
price_fits (negsuc n) least most = lt-ltb n (2 ^ 63) (omega (arith, ints, least))

first_fits : (name : List ℕ) (solution : Solution) → FitsBits (first_line name solution)
first_fits name (flow counts ins outs) = tt
first_fits name (cut root ins outs) = tt

-- the numbers in all lines of a repair fit, where those of its blocks, its edges and its end do
pub repair_fits : (weighed : Bool) (fun : Function) (repair : Repair)
    → AllByRecursion FitsBits (lines_of_blocks (length fun.blocks) repair.weights repair.solution)
    → AllByRecursion FitsBits (lines_of_edges weighed (told_edges fun repair.solution) repair.edge_weights repair.solution)
    → FitsBits (last_line repair.solution repair.first repair.second)
    → AllByRecursion FitsBits (lines_of_repair weighed fun repair)
unfolding lines_of_repair
repair_fits weighed fun repair blocks edges last =
    (first_fits fun.name repair.solution, all_append FitsBits _ _ blocks (all_append FitsBits _ _ edges (last, tt)))

-- ---- the parts of a repair's text

pub parts_of_text : (weighed : Bool) (fun : Function) (repair : Repair)
    → repair_text weighed fun repair ≡ ended (line_text (first_line fun.name repair.solution))
    ++ (text_of_lines (lines_of_blocks (length fun.blocks) repair.weights repair.solution)
    ++ (text_of_lines (lines_of_edges weighed (told_edges fun repair.solution) repair.edge_weights repair.solution)
    ++ ended (line_text (last_line repair.solution repair.first repair.second))))
unfolding lines_of_repair
parts_of_text weighed fun repair =
    let f = λ (line : Line). ended (line_text line) in
    let blocks = lines_of_blocks (length fun.blocks) repair.weights repair.solution in
    let edges = lines_of_edges weighed (told_edges fun repair.solution) repair.edge_weights repair.solution in
    let last = last_line repair.solution repair.first repair.second ∷ [] in
    ap (λ (t : List ℕ). f (first_line fun.name repair.solution) ++ t)
    (flat_map-append f blocks (edges ++ last) ∙ ap (λ (t : List ℕ). flat_map f blocks ++ t) (flat_map-append f edges last ∙ ap (λ (t : List ℕ). flat_map f edges ++ t) (append-nil (f (last_line repair.solution repair.first repair.second)))))

-- four parts, one behind the other
pub joined : (a b c d old one two three new text : List ℕ) → one ≡ old ++ a → two ≡ one ++ b → three ≡ two ++ c → new ≡ three ++ d
    → text ≡ a ++ (b ++ (c ++ d)) → new ≡ old ++ text
joined a b c d old one two three new text first second third fourth is = rw (is, fourth, third, second, first) (simp append_assoc)

-- the two sums of a cut
pub sums_told : (a : ℕ) (o : Option ℕ) (least most : ℕ) → ◌≡◌ {A = Option (ℕ × ℕ)} (Some (least, most)) (option_map (λ m. (a, m)) o) → (least ≡ a) × (most ≡ unwrap_or o 0)
sums_told a None least most told = absurd (cc)
sums_told a (Some m) least most told =
    (ap (λ (o : Option (ℕ × ℕ)). (unwrap_or o (0, 0)).0) told, ap (λ (o : Option (ℕ × ℕ)). (unwrap_or o (0, 0)).1) told)
