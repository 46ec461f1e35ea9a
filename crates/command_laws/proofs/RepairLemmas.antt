-- The repairs that `build` writes are read as repairs of which no line fails.
use Rattle.std.proofs.Common.{◌≡◌, ℕ, ◌+◌, Bool, true, false, List, [], ◌∷◌, ◌++◌, length, map, Option, None, Some, refl, sym, ap, ◌∙◌, subst}
use Rattle.std.specs.Prelude.{ℤ, is_some, if◌then◌else◌}
use Rattle.std.specs.List.{AllByRecursion, AllZip, enumerate_from}
use Rattle.std.specs.Option.{option_or}
use Rattle.std.proofs.lemmas.List.{length-map}
use Rattle.list_lemmas.proofs.Each.{length_all_zip as same_length}
use Rattle.block_model.specs.declared.parts.Block.{Block}
use Rattle.block_model.specs.declared.parts.Edge.{Edge}
use Rattle.block_model.specs.declared.parts.Weight.{Weight}
use Rattle.block_model.specs.declared.parts.Weight.TheVariants.{Unknown}
use Rattle.block_model.specs.Function.{Function}
use Rattle.flow_model.specs.declared.arc.Arc.{Arc}
use Rattle.flow_model.specs.Cut.{both_bounds, enters, leaves, least_in, most_out}
use Rattle.flow_model.specs.Network.{edge_arc, Counts, edge_arcs, network_of}
use Rattle.flow_model.specs.Sound.{IsSound}
use Rattle.flow_model.proofs.NetLemmas.{length-block_arcs, length-edge_arcs}
use Rattle.weight_model.specs.Blocks.{IsWeightOf}
use Rattle.repair_model.specs.Bits.{FitsBits}
use Rattle.repair_model.specs.Checking.{failed_in, failed_line, network_by}
use Rattle.repair_model.specs.Laws.{CanBeTold, HasShape, IsRepairOf, IsToldOf, numbered_repairs, text_of_repairs}
use Rattle.repair_model.specs.Line.{Line}
use Rattle.repair_model.specs.Made.{AreRepairsOf, EdgeTold, Repairs}
use Rattle.repair_model.specs.Made as made
use Rattle.repair_model.specs.Repair.{Repair, Solution, flow, cut, has_counts}
use Rattle.flow_model.specs.Sides.{at_side}
use Rattle.repair_model.specs.Text.{first_line, last_line, line_of_edge, lines_of_blocks, lines_of_edges, lines_of_repair, numbers, repair_text, text_of_lines}
use Rattle.repair_model.proofs.CheckLemmas.{passing_lines_repair}
use Rattle.repair_model.proofs.BackLemmas.{all_split}
use Rattle.command_laws.proofs.BlockLemmas.{IsField}
use Rattle.profile_tree.proofs.ListLemmas.{all_append}

-- ---- a cut hangs on no weight of an edge

least_behind : (set : ℕ → Bool) (front xs ys : List Arc) → least_in set xs ≡ least_in set ys → least_in set (front ++ xs) ≡ least_in set (front ++ ys)
least_behind set [] xs ys same = same
least_behind set (arc ∷ front) xs ys same = ap (λ n. (if enters set arc then arc.lower else 0) + n) (least_behind set front xs ys same)

most_behind : (set : ℕ → Bool) (front xs ys : List Arc) → most_out set xs ≡ most_out set ys → most_out set (front ++ xs) ≡ most_out set (front ++ ys)
most_behind set [] xs ys same = same
most_behind set (arc ∷ front) xs ys same = ap (λ n. both_bounds (if leaves set arc then arc.upper else Some 0) n) (most_behind set front xs ys same)

least_edges : (set : ℕ → Bool) (edges : List Edge) (f g : Edge → Weight) (rest : List Arc) → least_in set (edge_arcs edges (map f edges) ++ rest) ≡ least_in set (edge_arcs edges (map g edges) ++ rest)
least_edges set [] f g rest = refl
least_edges set (edge ∷ edges) f g rest = ap (λ n. (if enters set (edge_arc edge Unknown) then edge.bound.lower else 0) + n) (least_edges set edges f g rest)

most_edges : (set : ℕ → Bool) (edges : List Edge) (f g : Edge → Weight) (rest : List Arc) → most_out set (edge_arcs edges (map f edges) ++ rest) ≡ most_out set (edge_arcs edges (map g edges) ++ rest)
most_edges set [] f g rest = refl
most_edges set (edge ∷ edges) f g rest = ap (λ n. both_bounds (if leaves set (edge_arc edge Unknown) then edge.bound.upper else Some 0) n) (most_edges set edges f g rest)

cut_kept : (blocks : List Block) (edges : List Edge) (weights : List Weight) (f g : Edge → Weight) (root : Bool) (ins outs : List Bool) (first second : ℕ)
    → Repairs (network_of blocks edges weights (map f edges)) (cut root ins outs) first second
    → Repairs (network_of blocks edges weights (map g edges)) (cut root ins outs) first second
cut_kept blocks edges weights f g root ins outs first second (sides, least, most, below) =
    let one = network_of blocks edges weights (map f edges) in
    let other = network_of blocks edges weights (map g edges) in
    let set = at_side root ins outs in (
      sides,
      least ∙ least_behind set (one.calls ∷ one.blocks) (one.edges ++ one.returns) (other.edges ++ other.returns) (least_edges set edges f g one.returns),
      sym (most_behind set (one.calls ∷ one.blocks) (one.edges ++ one.returns) (other.edges ++ other.returns) (most_edges set edges f g one.returns)) ∙ most,
      below,
    )

-- ---- one function

-- A repair of a function as a text of repairs has it, which repairs the network that its own weights tell.
pub record IsReadable (weighed : Bool) (fun : Function) (text : List ℕ) : Type 0 where
  pub repair : Repair
  pub is : IsRepairOf weighed fun repair
  pub repairs : Repairs (network_by fun repair) repair.solution repair.first repair.second
  pub spelled : text ≡ repair_text weighed fun repair

abbrev told_repair : List Weight → List Weight → Solution → ℕ → ℕ → Repair
told_repair weights edge_weights solution first second =
    record { weights = weights; edge_weights = edge_weights; solution = solution; first = first; second = second }

recast : {X Y : Type 0} (P Q : Y → Type 0) (f : X → Y) (xs : List X) → ((x : X) → P (f x) → Q (f x)) → AllByRecursion P (map f xs) → AllByRecursion Q (map f xs)
recast P Q f [] each all = tt
recast P Q f (x ∷ xs) each all = (each x all.0, recast P Q f xs each all.1)

edge_told : (weighed : Bool) (weights : List Weight) (solution : Solution) (placed : ℕ × Edge) → FitsBits (line_of_edge weighed weights solution placed) → CanBeTold (line_of_edge weighed weights solution placed)
edge_told weighed weights solution (place, edge) fits = fits

flow_told : (weighed : Bool) (fun : Function) (weights edge_weights : List Weight) (counts : Counts) (ins outs : List ℤ) (first second : ℕ) → IsField fun.name
    → AllByRecursion FitsBits (lines_of_repair weighed fun (told_repair weights edge_weights (flow counts ins outs) first second))
    → AllByRecursion CanBeTold (lines_of_repair weighed fun (told_repair weights edge_weights (flow counts ins outs) first second))
unfolding lines_of_repair
flow_told weighed fun weights edge_weights counts ins outs first second named fits =
    let solution = flow counts ins outs in
    let blocks = lines_of_blocks (length fun.blocks) weights solution in
    let edges = lines_of_edges weighed fun.edges edge_weights solution in
    let split = all_split FitsBits blocks _ fits.1 in
    let behind = all_split FitsBits edges _ split.1 in (
      named.name_is,
      all_append CanBeTold blocks _ (recast FitsBits CanBeTold _ (numbers 0 (length fun.blocks)) (λ n is. is) split.0)
          (all_append CanBeTold edges _ (recast FitsBits CanBeTold (line_of_edge weighed edge_weights solution) (enumerate_from 0 fun.edges) (edge_told weighed edge_weights solution) behind.0) behind.1),
    )

cut_told : (weighed : Bool) (fun : Function) (weights edge_weights : List Weight) (root : Bool) (ins outs : List Bool) (first second : ℕ) → IsField fun.name
    → AllByRecursion FitsBits (lines_of_repair weighed fun (told_repair weights edge_weights (cut root ins outs) first second))
    → AllByRecursion CanBeTold (lines_of_repair weighed fun (told_repair weights [] (cut root ins outs) first second))
unfolding lines_of_repair
cut_told weighed fun weights edge_weights root ins outs first second named fits =
    let blocks = lines_of_blocks (length fun.blocks) weights (cut root ins outs) in
    let split = all_split FitsBits blocks _ fits.1 in
    (named.name_is, all_append CanBeTold blocks _ (recast FitsBits CanBeTold _ (numbers 0 (length fun.blocks)) (λ n is. is) split.0) split.1)

-- Lines that tell no weights of edges hang on none.
edges_untold : (place : ℕ) (edges : List Edge) (weights other : List Weight) (solution : Solution)
    → map (line_of_edge false weights solution) (enumerate_from place edges) ≡ map (line_of_edge false other solution) (enumerate_from place edges)
edges_untold place [] weights other solution = refl
edges_untold place (edge ∷ edges) weights other solution = ap (λ (ls : List Line). line_of_edge false other solution (place, edge) ∷ ls) (edges_untold (place + 1) edges weights other solution)

lines_untold : (fun : Function) (weights edge_weights other : List Weight) (counts : Counts) (ins outs : List ℤ) (first second : ℕ)
    → lines_of_repair false fun (told_repair weights edge_weights (flow counts ins outs) first second) ≡ lines_of_repair false fun (told_repair weights other (flow counts ins outs) first second)
unfolding lines_of_repair
lines_untold fun weights edge_weights other counts ins outs first second =
    let solution = flow counts ins outs in
    ap (λ (ls : List Line). first_line fun.name solution ∷ (lines_of_blocks (length fun.blocks) weights solution ++ (ls ++ last_line solution first second ∷ []))) (edges_untold 0 fun.edges edge_weights other solution)

cut_lines : (weighed : Bool) (fun : Function) (weights edge_weights : List Weight) (root : Bool) (ins outs : List Bool) (first second : ℕ)
    → lines_of_repair weighed fun (told_repair weights edge_weights (cut root ins outs) first second) ≡ lines_of_repair weighed fun (told_repair weights [] (cut root ins outs) first second)
unfolding lines_of_repair
cut_lines weighed fun weights edge_weights root ins outs first second = refl

unknown : (edges : List Edge) → AllByRecursion (λ weight. weight ≡ Unknown) (map (λ edge. Unknown) edges)
unknown [] = tt
unknown (edge ∷ edges) = (refl, unknown edges)

-- Counts in a network have the shape of a repair.
flow_shape : (fun : Function) (weights edge_weights : List Weight) (counts : Counts) (ins outs : List ℤ) (first second : ℕ)
    → length weights ≡ length fun.blocks → length edge_weights ≡ length fun.edges
    → Repairs (network_of fun.blocks fun.edges weights edge_weights) (flow counts ins outs) first second
    → HasShape (length fun.blocks) (length fun.edges) (told_repair weights edge_weights (flow counts ins outs) first second) (flow counts ins outs)
flow_shape fun weights edge_weights counts ins outs first second many edges_many (sides, least, fit, cost, none) =
    let blocks = length-block_arcs 0 fun.blocks weights many in
    let edges = length-edge_arcs fun.edges edge_weights edges_many in (
      least.conserve.each.blocks ∙ blocks,
      sides.0 ∙ blocks,
      sides.1 ∙ blocks,
      least.conserve.each.edges ∙ edges,
      edges_many,
      none,
    )

cut_shape : (fun : Function) (weights edge_weights : List Weight) (root : Bool) (ins outs : List Bool) (first second : ℕ) → length weights ≡ length fun.blocks
    → Repairs (network_of fun.blocks fun.edges weights edge_weights) (cut root ins outs) first second
    → HasShape (length fun.blocks) (length fun.edges) (told_repair weights [] (cut root ins outs) first second) (cut root ins outs)
cut_shape fun weights edge_weights root ins outs first second many (sides, least, most, below) =
    let blocks = length-block_arcs 0 fun.blocks weights many in
    (sides.0 ∙ blocks, sides.1 ∙ blocks, refl)

module _ {K : Type 0} (key : ℕ → Option K) (count : K → ℕ) (fun : Function) (text : List ℕ) (named : IsField fun.name) where
  -- edges without weights
  plain : (weights edge_weights : List Weight) (solution : Solution) (first second : ℕ)
      → AllZip (IsWeightOf key count) fun.blocks weights
      → Repairs (network_of fun.blocks fun.edges weights (map (λ edge. Unknown) fun.edges)) solution first second
      → AllByRecursion FitsBits (lines_of_repair false fun (told_repair weights edge_weights solution first second))
      → text ≡ repair_text false fun (told_repair weights edge_weights solution first second)
      → IsReadable false fun text
  plain weights edge_weights (flow counts ins outs) first second weighed repairs fits spelled =
      let unweighed : List Weight = map (λ edge. Unknown) fun.edges in
      let many = same_length (IsWeightOf key count) fun.blocks weights weighed in
      let same = lines_untold fun weights edge_weights unweighed counts ins outs first second in
      record {
        repair = told_repair weights unweighed (flow counts ins outs) first second;
        is = record {
          weights = many;
          shape = flow_shape fun weights unweighed counts ins outs first second many (length-map fun.edges (λ (edge : Edge). Unknown)) repairs;
          unweighed = λ _. unknown fun.edges;
          told = flow_told false fun weights unweighed counts ins outs first second named (subst (AllByRecursion FitsBits) same fits);
        };
        repairs = repairs;
        spelled = spelled ∙ ap text_of_lines same;
      }
  plain weights edge_weights (cut root ins outs) first second weighed repairs fits spelled =
      let many = same_length (IsWeightOf key count) fun.blocks weights weighed in
      record {
        repair = told_repair weights [] (cut root ins outs) first second;
        is = record {
          weights = many;
          shape = cut_shape fun weights (map (λ edge. Unknown) fun.edges) root ins outs first second many repairs;
          unweighed = λ _. tt;
          told = cut_told false fun weights edge_weights root ins outs first second named fits;
        };
        repairs = repairs;
        spelled = spelled ∙ ap text_of_lines (cut_lines false fun weights edge_weights root ins outs first second);
      }

  -- edges with weights
  with_edges : (f : Edge → Weight) (weights edge_weights : List Weight) (solution : Solution) (first second : ℕ)
      → AllZip (IsWeightOf key count) fun.blocks weights
      → Repairs (network_of fun.blocks fun.edges weights (map f fun.edges)) solution first second
      → (has_counts solution ≡ true → edge_weights ≡ map f fun.edges)
      → AllByRecursion FitsBits (lines_of_repair true fun (told_repair weights edge_weights solution first second))
      → text ≡ repair_text true fun (told_repair weights edge_weights solution first second)
      → IsReadable true fun text
  with_edges f weights edge_weights (flow counts ins outs) first second weighed repairs told fits spelled =
      let many = same_length (IsWeightOf key count) fun.blocks weights weighed in
      let same = told refl in
      let own = subst (λ (ws : List Weight). Repairs (network_of fun.blocks fun.edges weights ws) (flow counts ins outs) first second) (sym same) repairs in
      record {
        repair = told_repair weights edge_weights (flow counts ins outs) first second;
        is = record {
          weights = many;
          shape = flow_shape fun weights edge_weights counts ins outs first second many (ap length same ∙ length-map fun.edges f) own;
          unweighed = λ untold. absurd cc;
          told = flow_told true fun weights edge_weights counts ins outs first second named fits;
        };
        repairs = own;
        spelled = spelled;
      }
  with_edges f weights edge_weights (cut root ins outs) first second weighed repairs told fits spelled =
      let many = same_length (IsWeightOf key count) fun.blocks weights weighed in
      record {
        repair = told_repair weights [] (cut root ins outs) first second;
        is = record {
          weights = many;
          shape = cut_shape fun weights (map f fun.edges) root ins outs first second many repairs;
          unweighed = λ _. tt;
          told = cut_told true fun weights edge_weights root ins outs first second named fits;
        };
        repairs = cut_kept fun.blocks fun.edges weights f (λ edge. Unknown) root ins outs first second repairs;
        spelled = spelled ∙ ap text_of_lines (cut_lines true fun weights edge_weights root ins outs first second);
      }

  readable : (edges : Option EdgeTold) → made.IsRepairOf key count edges fun text → IsReadable (is_some edges) fun text
  readable None is = plain is.repair.weights is.repair.edge_weights is.repair.solution is.repair.first is.repair.second is.weighed is.repairs is.told is.spelled
  readable (Some told) is =
      with_edges _ is.repair.weights is.repair.edge_weights is.repair.solution is.repair.first is.repair.second is.weighed is.repairs (λ counts. is.edges_weighed counts refl) is.told is.spelled

-- ---- all functions

-- The repairs of these functions, one behind the other.
pub record AreReadable (weighed : Bool) (funs : List Function) (text : List ℕ) : Type 0 where
  pub repairs : List Repair
  pub are : AllZip (IsRepairOf weighed) funs repairs
  pub repair : AllZip (λ fun repair. Repairs (network_by fun repair) repair.solution repair.first repair.second) funs repairs
  pub spelled : text ≡ text_of_repairs weighed funs repairs

pub all_readable : {K : Type 0} (key : ℕ → Option K) (count : K → ℕ) (edges : Option EdgeTold) (funs : List Function) (text : List ℕ)
    → AllByRecursion (λ (fun : Function). IsField fun.name) funs → AreRepairsOf key count edges funs text → AreReadable (is_some edges) funs text
all_readable key count edges [] text named are = record { repairs = []; are = tt; repair = tt; spelled = are }
all_readable key count edges (fun ∷ funs) text named (first, rest, joined, is, others) =
    let here = readable key count fun first named.0 edges is in
    let behind = all_readable key count edges funs rest named.1 others in
    record {
      repairs = here.repair ∷ behind.repairs;
      are = (here.is, behind.are);
      repair = (here.repairs, behind.repair);
      spelled = joined ∙ ap (λ t. t ++ rest) here.spelled ∙ ap (λ t. repair_text (is_some edges) fun here.repair ++ t) behind.spelled;
    }

-- No line of repairs that repair their networks fails.
pub none_fails : (weighed : Bool) (line : ℕ) (funs : List Function) (repairs : List Repair)
    → AllByRecursion (λ (fun : Function). IsSound fun.blocks fun.edges) funs
    → AllZip (λ fun repair. Repairs (network_by fun repair) repair.solution repair.first repair.second) funs repairs
    → AllZip IsToldOf funs (numbered_repairs weighed line funs repairs)
    → failed_line funs (numbered_repairs weighed line funs repairs) ≡ None
none_fails weighed line [] [] sound repair whole = refl
none_fails weighed line [] (r ∷ repairs) sound repair whole = absurd repair
none_fails weighed line (fun ∷ funs) [] sound repair whole = absurd repair
none_fails weighed line (fun ∷ funs) (r ∷ repairs) sound repair whole =
    let here : failed_in fun line r ≡ None = (passing_lines_repair fun line r sound.0 whole.0.whole).1 repair.0 in
    ap (λ (o : Option ℕ). option_or o (failed_line funs (numbered_repairs weighed (line + length (lines_of_repair weighed fun r)) funs repairs))) here
    ∙ none_fails weighed (line + length (lines_of_repair weighed fun r)) funs repairs sound.1 repair.1 whole.1
