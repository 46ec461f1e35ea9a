-- Ways by ranks compare as ways by names do.
use Rattle.std.proofs.Common.{◌≡◌, ◌≤◌, ◌<◌, ℕ, ◌-◌, ◌^◌, true, ◌&&◌, List, [], ◌∷◌, ◌++◌, map, length, get_or, replicate, Some, refl, sym, ap, subst, ◌∙◌, arith}
use Rattle.std.proofs.lemmas.Bool.Decides.{nat_tests}
use Rattle.std.proofs.lemmas.Cmp.{nat_cmp_total, tied_itself}
use Rattle.std.proofs.lemmas.List.{get_or-map, get_or-replicate, length-replicate, length-map}
use Rattle.std.proofs.lemmas.Option.{slice_get-get_or}
use Rattle.std.specs.Cmp.Lexicographic.{slice_cmp}
use Rattle.std.specs.List.{AllByRecursion, slice_get}
use Rattle.std.specs.Option.{unwrap_or}
use Rattle.std.specs.declared.cmp.Ordering.TheVariants.{Less, Equal, Greater}
use Rattle.std.specs.Ordering.{is_eq, nat_cmp, ordering_then}
use Rattle.key_types.proofs.NumberLemmas.{one_number_each}
use Rattle.key_types.specs.Numbers.{IsNumbered}
use Rattle.key_types.specs.declared.key.Frame.{Frame}
use Rattle.key_types.specs.declared.key.Key.{Key}
use Rattle.profile_lists.specs.Ranks.{AreRanks}
use Rattle.profile_model.proofs.OrderLemmas.{names_apart, step_total, steps_apart}
pub use Rattle.profile_model.proofs.StepLemmas.{same_steps, step_itself, same_ways, way_itself}
use Rattle.profile_model.specs.Orders.{step_cmp, name_cmp}
use Rattle.profile_model.specs.Ways.{Step, kind_rank, function, body, call, same_step, is_front, leads_to}
use Rattle.profile_tree.proofs.ListLemmas.{bool_same}
use Rattle.profile_tree.specs.Items.{ranked}
use Rattle.profile_tree.specs.Known.{HasNames}
use Rattle.profile_tree.specs.Steps.{NumberedStep, at_function, at_line, at_call, frame_step, steps_of, name_at, named}
use Rattle.profile_lists.proofs.FrontLemmas.{equal_from_same}
use Rattle.profile_lists.specs.Rows.{same_step as same_rank}
use Rattle.profile_lists.specs.Ways.{step_cmp as rank_cmp}

-- steps of named ways
tied_or_same : (total : List ℕ → ℕ) (s t : Step) → is_eq (step_cmp total s t) ≡ same_step s t
tied_or_same total s t =
    bool_same (is_eq (step_cmp total s t)) (same_step s t)
    (λ e. subst (λ u. same_step s u ≡ true) (steps_apart total s t (equal_from_same (step_cmp total s t) e)) (step_itself s))
    (λ e. subst (λ u. is_eq (step_cmp total s u) ≡ true) (same_steps s t e) (ap is_eq (tied_itself (step_total total) s)))

-- items of equal lists
first_is : {T : Type 0} (x y : T) (xs ys : List T) → x ∷ xs ≡ y ∷ ys → x ≡ y
first_is x y xs ys e = cc

rest_is : {T : Type 0} (x y : T) (xs ys : List T) → x ∷ xs ≡ y ∷ ys → xs ≡ ys
rest_is x y xs ys e = cc

none_is : {T : Type 0} (x : T) (xs : List T) → [] ≡ x ∷ xs → ⊥
none_is x xs e = cc

-- numbers of names
name_is : (names : List (List ℕ)) (i : ℕ) → i < length names → slice_get names i ≡ Some (name_at names i)
name_is names i h = slice_get-get_or names i [] h ∙ ap Some (sym (ap (λ o. unwrap_or o []) (slice_get-get_or names i [] h)))

pub names_once : (names : List (List ℕ)) → IsNumbered names → (i j : ℕ) → i < length names → j < length names → name_at names i ≡ name_at names j → i ≡ j
names_once names apart i j h g e = (one_number_each names i j (name_at names i) (name_at names j) apart (name_is names i h) (name_is names j g)).1 e

-- a step's name was given
abbrev pub IsNamed : ℕ → NumberedStep → Type 0
IsNamed n (at_function name) = name < n
IsNamed n (at_line offset disc) = Unit {0}
IsNamed n (at_call offset disc name) = name < n

pub key_is_named : (n : ℕ) (key : Key) → HasNames n key → AllByRecursion (IsNamed n) (steps_of key)
key_is_named n key known = (known.0, frames key.calls known.1)
  where
    frames : (calls : List Frame) → AllByRecursion (λ frame. frame.name.0 < n) calls → AllByRecursion (IsNamed n) (map frame_step calls ++ at_line key.offset key.disc ∷ [])
    frames [] all = (tt, tt)
    frames (frame ∷ calls) all = (all.0, frames calls all.1)

pub named_once : (names : List (List ℕ)) → IsNumbered names → (s t : NumberedStep) → IsNamed (length names) s → IsNamed (length names) t → named names s ≡ named names t → s ≡ t
named_once names apart (at_function i) (at_function j) h g e = ap at_function (names_once names apart i j h g (ap (λ s. s.name) e))
named_once names apart (at_function i) (at_line o d) h g e = let k : kind_rank function ≡ kind_rank body = ap (λ s. kind_rank s.kind) e in absurd (omega arith)
named_once names apart (at_function i) (at_call o d j) h g e = let k : kind_rank function ≡ kind_rank call = ap (λ s. kind_rank s.kind) e in absurd (omega arith)
named_once names apart (at_line o d) (at_function j) h g e = let k : kind_rank body ≡ kind_rank function = ap (λ s. kind_rank s.kind) e in absurd (omega arith)
named_once names apart (at_line o d) (at_line p q) h g e = λ i. at_line ((e i).offset) ((e i).disc)
named_once names apart (at_line o d) (at_call p q j) h g e = let k : kind_rank body ≡ kind_rank call = ap (λ s. kind_rank s.kind) e in absurd (omega arith)
named_once names apart (at_call o d i) (at_function j) h g e = let k : kind_rank call ≡ kind_rank function = ap (λ s. kind_rank s.kind) e in absurd (omega arith)
named_once names apart (at_call o d i) (at_line p q) h g e = let k : kind_rank call ≡ kind_rank body = ap (λ s. kind_rank s.kind) e in absurd (omega arith)
named_once names apart (at_call o d i) (at_call p q j) h g e =
    let name : i ≡ j = names_once names apart i j h g (ap (λ s. s.name) e) in
    λ m. at_call ((e m).offset) ((e m).disc) (name m)

pub ways_once : (names : List (List ℕ)) → IsNumbered names → (v w : List NumberedStep) → AllByRecursion (IsNamed (length names)) v → AllByRecursion (IsNamed (length names)) w → map (named names) v ≡ map (named names) w → v ≡ w
ways_once names apart [] [] h g e = refl
ways_once names apart [] (t ∷ w) h g e = absurd (none_is (named names t) (map (named names) w) e)
ways_once names apart (s ∷ v) [] h g e = absurd (none_is (named names s) (map (named names) v) (sym e))
ways_once names apart (s ∷ v) (t ∷ w) h g e =
    let first : s ≡ t = named_once names apart s t h.0 g.0 (first_is (named names s) (named names t) (map (named names) v) (map (named names) w) e) in
    let rest : v ≡ w = ways_once names apart v w h.1 g.1 (rest_is (named names s) (named names t) (map (named names) v) (map (named names) w) e) in
    λ i. first i ∷ rest i

-- a key is told by its way
abbrev offset_in : NumberedStep → ℕ
offset_in (at_function i) = 0
offset_in (at_line o d) = o
offset_in (at_call o d i) = o

abbrev disc_in : NumberedStep → ℕ
disc_in (at_function i) = 0
disc_in (at_line o d) = d
disc_in (at_call o d i) = d

abbrev name_in : NumberedStep → ℕ
name_in (at_function i) = i
name_in (at_line o d) = 0
name_in (at_call o d i) = i

abbrev rank_in : NumberedStep → ℕ
rank_in (at_function i) = 0
rank_in (at_line o d) = 1
rank_in (at_call o d i) = 2

frames_once : (calls others : List Frame) (o d p q : ℕ) → map frame_step calls ++ at_line o d ∷ [] ≡ map frame_step others ++ at_line p q ∷ [] → (calls ≡ others) × (o ≡ p) × (d ≡ q)
frames_once [] [] o d p q e =
    let line : at_line o d ≡ at_line p q = first_is (at_line o d) (at_line p q) [] [] e in (refl, ap offset_in line, ap disc_in line)
frames_once [] (g ∷ others) o d p q e =
    let k : rank_in (at_line o d) ≡ rank_in (frame_step g) = ap rank_in (first_is (at_line o d) (frame_step g) [] (map frame_step others ++ at_line p q ∷ []) e) in absurd (omega arith)
frames_once (f ∷ calls) [] o d p q e =
    let k : rank_in (frame_step f) ≡ rank_in (at_line p q) = ap rank_in (first_is (frame_step f) (at_line p q) (map frame_step calls ++ at_line o d ∷ []) [] e) in absurd (omega arith)
frames_once (f ∷ calls) (g ∷ others) o d p q e =
    let step : frame_step f ≡ frame_step g = first_is (frame_step f) (frame_step g) (map frame_step calls ++ at_line o d ∷ []) (map frame_step others ++ at_line p q ∷ []) e in
    let rest = frames_once calls others o d p q (rest_is (frame_step f) (frame_step g) (map frame_step calls ++ at_line o d ∷ []) (map frame_step others ++ at_line p q ∷ []) e) in
    let name : f.name.0 ≡ g.name.0 = ap name_in step in
    let offset : f.offset ≡ g.offset = ap offset_in step in
    let disc : f.disc ≡ g.disc = ap disc_in step in
    let frame : f ≡ g = λ i. record { name = record { 0 = name i }; offset = offset i; disc = disc i } in
    (λ i. frame i ∷ rest.0 i, rest.1, rest.2)

pub keys_once : (x y : Key) → steps_of x ≡ steps_of y → x ≡ y
keys_once x y e =
    let first : at_function x.root.0 ≡ at_function y.root.0 = first_is (at_function x.root.0) (at_function y.root.0) (map frame_step x.calls ++ at_line x.offset x.disc ∷ []) (map frame_step y.calls ++ at_line y.offset y.disc ∷ []) e in
    let root : x.root.0 ≡ y.root.0 = ap name_in first in
    let rest = frames_once x.calls y.calls x.offset x.disc y.offset y.disc (rest_is (at_function x.root.0) (at_function y.root.0) (map frame_step x.calls ++ at_line x.offset x.disc ∷ []) (map frame_step y.calls ++ at_line y.offset y.disc ∷ []) e) in
    λ i. record { root = record { 0 = root i }; calls = rest.0 i; offset = rest.1 i; disc = rest.2 i }

-- comparisons
drop_number : (names : List (List ℕ)) → IsNumbered names → (i j : ℕ) → i < length names → j < length names → ordering_then (name_cmp (name_at names i) (name_at names j)) (nat_cmp i j) ≡ name_cmp (name_at names i) (name_at names j)
drop_number names apart i j h g =
    elim (name_cmp (name_at names i) (name_at names j)) as (λ r. name_cmp (name_at names i) (name_at names j) ≡ r → ordering_then r (nat_cmp i j) ≡ r) [
      | Less ↦ λ _. refl
      | Equal ↦ λ e. ap (nat_cmp i) (sym (names_once names apart i j h g (names_apart (name_at names i) (name_at names j) e))) ∙ tied_itself nat_cmp_total i
      | Greater ↦ λ _. refl
    ] refl

turned_weights : (m a b : ℕ) → a ≤ m → b ≤ m → nat_cmp (m - a) (m - b) ≡ nat_cmp b a
turned_weights m a b h g = grind (arith, nat_tests)

-- what is known of ranks
pub record Ranked (names : List (List ℕ)) (total : List ℕ → ℕ) (totals tr ti nr ni : List ℕ) : Type 0 where
  pub apart : IsNumbered names
  pub by_total : AreRanks names (map (λ t. 2 ^ 64 - 1 - t) totals) tr ti
  pub by_name : AreRanks names (replicate (length names) 0) nr ni
  pub size : length totals ≡ length names
  pub total_is : (i : ℕ) → i < length names → total (name_at names i) ≡ get_or totals i 0
  pub small : (i : ℕ) → i < length names → get_or totals i 0 ≤ 2 ^ 64 - 1

module _ (names : List (List ℕ)) (total : List ℕ → ℕ) (totals tr ti nr ni : List ℕ) (r : Ranked names total totals tr ti nr ni) where
  pub calls_agree : (i j : ℕ) → i < length names → j < length names → nat_cmp (get_or nr i 0) (get_or nr j 0) ≡ name_cmp (name_at names i) (name_at names j)
  calls_agree i j h g =
      let n = length names in
      let size : length {A = ℕ} (replicate n 0) ≡ n = length-replicate {A = ℕ} n 0 in
      let wi : get_or {A = ℕ} (replicate n 0) i 0 ≡ 0 = get_or-replicate {A = ℕ} n i 0 0 h in
      let wj : get_or {A = ℕ} (replicate n 0) j 0 ≡ 0 = get_or-replicate {A = ℕ} n j 0 0 g in
      r.by_name.order i j (omega arith) (omega arith)
      ∙ (λ m. ordering_then (nat_cmp (wi m) (wj m)) (ordering_then (name_cmp (name_at names i) (name_at names j)) (nat_cmp i j)))
      ∙ drop_number names r.apart i j h g

  functions_agree : (i j : ℕ) → i < length names → j < length names → nat_cmp (get_or tr i 0) (get_or tr j 0) ≡ ordering_then (nat_cmp (total (name_at names j)) (total (name_at names i))) (name_cmp (name_at names i) (name_at names j))
  functions_agree i j h g =
      let weights = map (λ t. 2 ^ 64 - 1 - t) totals in
      let size : length weights ≡ length names = length-map totals (λ t. 2 ^ 64 - 1 - t) ∙ r.size in
      let li : i < length totals = omega (arith, r.size) in
      let lj : j < length totals = omega (arith, r.size) in
      let wi : get_or weights i 0 ≡ 2 ^ 64 - 1 - get_or totals i 0 = get_or-map (λ t. 2 ^ 64 - 1 - t) totals i 0 0 li in
      let wj : get_or weights j 0 ≡ 2 ^ 64 - 1 - get_or totals j 0 = get_or-map (λ t. 2 ^ 64 - 1 - t) totals j 0 0 lj in
      let turned : nat_cmp (get_or weights i 0) (get_or weights j 0) ≡ nat_cmp (total (name_at names j)) (total (name_at names i)) =
      (λ m. nat_cmp (wi m) (wj m)) ∙ turned_weights (2 ^ 64 - 1) (get_or totals i 0) (get_or totals j 0) (r.small i h) (r.small j g)
      ∙ (λ m. nat_cmp (sym (r.total_is j g) m) (sym (r.total_is i h) m)) in
      r.by_total.order i j (omega arith) (omega arith)
      ∙ (λ m. ordering_then (turned m) (drop_number names r.apart i j h g m))

  steps_agree : (s t : NumberedStep) → IsNamed (length names) s → IsNamed (length names) t → rank_cmp (ranked tr nr s) (ranked tr nr t) ≡ step_cmp total (named names s) (named names t)
  steps_agree (at_function i) (at_function j) h g = functions_agree i j h g
  steps_agree (at_function i) (at_line p q) h g = refl
  steps_agree (at_function i) (at_call p q j) h g = refl
  steps_agree (at_line o d) (at_function j) h g = refl
  steps_agree (at_line o d) (at_line p q) h g = refl
  steps_agree (at_line o d) (at_call p q j) h g = refl
  steps_agree (at_call o d i) (at_function j) h g = refl
  steps_agree (at_call o d i) (at_line p q) h g = refl
  steps_agree (at_call o d i) (at_call p q j) h g = ap (λ v. ordering_then (nat_cmp o p) (ordering_then (nat_cmp d q) v)) (calls_agree i j h g)

  pub ways_agree : (v w : List NumberedStep) → AllByRecursion (IsNamed (length names)) v → AllByRecursion (IsNamed (length names)) w → slice_cmp rank_cmp (map (ranked tr nr) v) (map (ranked tr nr) w) ≡ slice_cmp (step_cmp total) (map (named names) v) (map (named names) w)
  ways_agree [] [] h g = refl
  ways_agree [] (t ∷ w) h g = refl
  ways_agree (s ∷ v) [] h g = refl
  ways_agree (s ∷ v) (t ∷ w) h g = λ i. ordering_then (steps_agree s t h.0 g.0 i) (ways_agree v w h.1 g.1 i)

  same_agrees : (s t : NumberedStep) → IsNamed (length names) s → IsNamed (length names) t → same_rank (ranked tr nr s) (ranked tr nr t) ≡ same_step (named names s) (named names t)
  same_agrees s t h g = ap is_eq (steps_agree s t h g) ∙ tied_or_same total (named names s) (named names t)

  pub fronts_agree : (v w : List NumberedStep) → AllByRecursion (IsNamed (length names)) v → AllByRecursion (IsNamed (length names)) w → is_front same_rank (map (ranked tr nr) v) (map (ranked tr nr) w) ≡ leads_to (map (named names) v) (map (named names) w)
  fronts_agree [] w h g = refl
  fronts_agree (s ∷ v) [] h g = refl
  fronts_agree (s ∷ v) (t ∷ w) h g = λ i. same_agrees s t h.0 g.0 i && fronts_agree v w h.1 g.1 i
