-- Sums over the places of arcs are sums over arcs.
use Rattle.std.proofs.Common.{◌≡◌, ℕ, zero, suc, ◌+◌, ◌-◌, ◌≤◌, ◌==◌, ◌||◌, Bool, true, false, List, [], ◌∷◌, ◌++◌, length, get_or, map, replicate, if◌then◌else◌, refl, arith, ap, sym, subst, inl, inr, ◌∙◌, append_assoc, length-append}
use Rattle.std.specs.Prelude.{nat_le}
use Rattle.std.specs.List.{list_any, sum_by}
use Rattle.std.proofs.lemmas.Bool.{lt-ltb, le-ltb, le-leb, lt-leb, cases_lt}
use Rattle.std.proofs.lemmas.List.{append-nil, map-append, length-map, length-replicate, get_or_append_left, get_or-append_right, get_or-replicate}
use Rattle.std.proofs.lemmas.List.Sums.{sum_by-append}
use Rattle.std.proofs.lemmas.List.Folds.{list_any-append}
use Rattle.flow_model.specs.declared.arc.Arc.{Arc}
use Rattle.flow_model.specs.Circulation.{sum_where, inflow, outflow}
use Rattle.flow_model.specs.Network.{Network, Counts, arcs_of}
use Rattle.flow_model.specs.Repair.{AreCounts}
use Rattle.flow_model.proofs.ArcLemmas.{sum_where-append}
use Rattle.flow_network.specs.Net.{tails_of, heads_of}
use Rattle.flow_network.specs.Rows.{places_from, places_of}
use Rattle.flow_network.proofs.RowLemmas.{places_from-append, length-places_from, tally_at_most}
use Rattle.dual_check.specs.Places.{first_return, edge_at}

-- ---- sums

one_place : (f : ℕ → ℕ) (b : Bool) (from : ℕ) → sum_by f (if b then from ∷ [] else []) ≡ (if b then f from else 0)
one_place f true from = omega arith
one_place f false from = refl

sum_where_nil : (p : Arc → Bool) (arcs : List Arc) → sum_where p arcs [] ≡ 0
sum_where_nil p [] = refl
sum_where_nil p (arc ∷ arcs) = refl

zero_either_way : (b : Bool) → ◌≡◌ {A = ℕ} (if b then 0 else 0) 0
zero_either_way true = refl
zero_either_way false = refl

sum_where_zeros : (p : Arc → Bool) (arcs : List Arc) (n : ℕ) → sum_where p arcs (replicate n 0) ≡ 0
sum_where_zeros p [] n = refl
sum_where_zeros p (arc ∷ arcs) zero = refl
sum_where_zeros p (arc ∷ arcs) (suc n) =
    let more = sum_where_zeros p arcs n in
    let none = zero_either_way (p arc) in
    omega (arith, more, none)

sum_at_places : (f : ℕ → ℕ) (key : ℕ) (end : Arc → ℕ) (from : ℕ) (arcs : List Arc) (xs : List ℕ)
    → ((k j : ℕ) → j ≡ from + k → f j ≡ get_or xs k 0)
    → sum_by f (places_from from key (map end arcs)) ≡ sum_where (λ arc. end arc == key) arcs xs
sum_at_places f key end from [] xs are = refl
sum_at_places f key end from (arc ∷ arcs) [] are =
    let here = one_place f (end arc == key) from in
    let nothing : f from ≡ 0 = are 0 from (omega arith) in
    let zero_here : (if end arc == key then f from else 0) ≡ 0 = rw nothing (zero_either_way (end arc == key)) in
    let more = sum_at_places f key end (from + 1) arcs [] (λ k j e. are (suc k) j (omega (arith, e))) in
    let none = sum_where_nil (λ arc. end arc == key) arcs in
    let both = sum_by-append f (if end arc == key then from ∷ [] else []) (places_from (from + 1) key (map end arcs)) in
    omega (arith, here, zero_here, more, none, both)
sum_at_places f key end from (arc ∷ arcs) (x ∷ xs) are =
    let here = one_place f (end arc == key) from in
    let value : f from ≡ x = are 0 from (omega arith) in
    let same : (if end arc == key then f from else 0) ≡ (if end arc == key then x else 0) = ap (λ (n : ℕ). if end arc == key then n else 0) value in
    let more = sum_at_places f key end (from + 1) arcs xs (λ k j e. are (suc k) j (omega (arith, e))) in
    let both = sum_by-append f (if end arc == key then from ∷ [] else []) (places_from (from + 1) key (map end arcs)) in
    omega (arith, here, same, more, both)

-- the counts of edges, with nothing in front of them
padded : Network → Counts → List ℕ
padded net counts = 0 ∷ (replicate (length net.blocks) 0 ++ counts.edges)

edge_at-is : (net : Network) (counts : Counts) (place : ℕ) → edge_at net counts place ≡ get_or (padded net counts) place 0
unfolding padded
edge_at-is net counts zero = rw (lt-ltb 0 (1 + length net.blocks) (omega arith)) refl
edge_at-is net counts (suc place) =
    let front : List ℕ = replicate (length net.blocks) 0 in
    let long = length-replicate {A = ℕ} (length net.blocks) 0 in
    elim (cases_lt place (length net.blocks)) [
      | inl before ↦ rw (lt-ltb (suc place) (1 + length net.blocks) (omega (arith, before)))
          (sym (get_or_append_left front counts.edges 0 place (omega (arith, before, long)) ∙ get_or-replicate {A = ℕ} (length net.blocks) place 0 0 before))
      | inr behind ↦ rw (le-ltb (suc place) (1 + length net.blocks) (omega (arith, behind)))
          (let same : suc place - (1 + length net.blocks) ≡ place - length net.blocks = omega arith in
          ap (λ (k : ℕ). get_or counts.edges k 0) same ∙ sym (get_or-append_right front counts.edges (length net.blocks) place 0 long behind))
    ]

edges_only : (p : Arc → Bool) (net : Network) (counts : Counts) → AreCounts net counts
    → sum_where p (arcs_of net) (padded net counts) ≡ sum_where p net.edges counts.edges
unfolding padded
edges_only p net counts are =
    let zeros : List ℕ = replicate (length net.blocks) 0 in
    let front = sum_where-append p net.blocks (net.edges ++ net.returns) zeros counts.edges (length-replicate {A = ℕ} (length net.blocks) 0) in
    let back = rw (append-nil counts.edges) at (sum_where-append p net.edges net.returns counts.edges [] are.edges) in
    let none = sum_where_zeros p net.blocks (length net.blocks) in
    let also = sum_where_nil p net.returns in
    let first = zero_either_way (p net.calls) in
    omega (arith, front, back, none, also, first)

pub came_is : (net : Network) (counts : Counts) (key : ℕ) → AreCounts net counts
    → sum_by (edge_at net counts) (places_of key (heads_of (arcs_of net))) ≡ inflow net.edges counts.edges key
came_is net counts key are =
    sum_at_places (edge_at net counts) key (λ arc. arc.head) 0 (arcs_of net) (padded net counts)
    (λ k j e. let same : j ≡ k = omega (arith, e) in rw same (edge_at-is net counts k))
    ∙ edges_only (λ arc. arc.head == key) net counts are

pub went_is : (net : Network) (counts : Counts) (key : ℕ) → AreCounts net counts
    → sum_by (edge_at net counts) (places_of key (tails_of (arcs_of net))) ≡ outflow net.edges counts.edges key
went_is net counts key are =
    sum_at_places (edge_at net counts) key (λ arc. arc.tail) 0 (arcs_of net) (padded net counts)
    (λ k j e. let same : j ≡ k = omega (arith, e) in rw same (edge_at-is net counts k))
    ∙ edges_only (λ arc. arc.tail == key) net counts are

-- there are no more places than arcs
pub few_places : (key : ℕ) (end : Arc → ℕ) (arcs : List Arc) → length (places_of key (map end arcs)) ≤ length arcs
few_places key end arcs =
    let long = length-places_from 0 key (map end arcs) in
    let most = tally_at_most key (map end arcs) in
    let same = length-map arcs end in
    omega (arith, long, most, same)

-- ---- returns

none_reach : (first key : ℕ) (end : Arc → ℕ) (from : ℕ) (arcs : List Arc) → from + length arcs ≤ first
    → list_any (nat_le first) (places_from from key (map end arcs)) ≡ false
none_reach first key end from [] before = refl
none_reach first key end from (arc ∷ arcs) before =
    let more = none_reach first key end (from + 1) arcs (omega (arith, before)) in
    let parts = list_any-append (nat_le first) (if end arc == key then from ∷ [] else []) (places_from (from + 1) key (map end arcs)) in
    parts ∙ rw more (one_below (end arc == key))
  where
    one_below : (b : Bool) → (list_any (nat_le first) (if b then from ∷ [] else []) || false) ≡ false
    one_below true = rw (lt-leb first from (omega (arith, before))) refl
    one_below false = refl

all_reach : (first key : ℕ) (end : Arc → ℕ) (from : ℕ) (arcs : List Arc) → first ≤ from
    → list_any (nat_le first) (places_from from key (map end arcs)) ≡ list_any (λ arc. end arc == key) arcs
all_reach first key end from [] behind = refl
all_reach first key end from (arc ∷ arcs) behind =
    let more = all_reach first key end (from + 1) arcs (omega (arith, behind)) in
    let parts = list_any-append (nat_le first) (if end arc == key then from ∷ [] else []) (places_from (from + 1) key (map end arcs)) in
    parts ∙ rw more (one_behind (end arc == key) (list_any (λ arc. end arc == key) arcs))
  where
    one_behind : (b rest : Bool) → (list_any (nat_le first) (if b then from ∷ [] else []) || rest) ≡ (b || rest)
    one_behind true rest = rw (le-leb first from behind) refl
    one_behind false rest = refl

pub returns_reach : (net : Network) (key : ℕ)
    → list_any (nat_le (first_return net)) (places_of key (tails_of (arcs_of net))) ≡ list_any (λ back. back.tail == key) net.returns
returns_reach net key =
    let tail : Arc → ℕ = λ arc. arc.tail in
    let front : List Arc = net.calls ∷ (net.blocks ++ net.edges) in
    let parted : arcs_of net ≡ front ++ net.returns = ap (λ (list : List Arc). net.calls ∷ list) (sym (append_assoc net.blocks net.edges net.returns)) in
    let long : length (map tail front) ≡ first_return net = length-map front tail ∙ (let e = length-append {A = Arc} net.blocks net.edges in omega (arith, e)) in
    let P : List Arc → Type 0 = λ arcs. list_any (nat_le (first_return net)) (places_of key (map tail arcs)) ≡ list_any (λ back. back.tail == key) net.returns in
    subst P (sym parted)
    (ap (λ (list : List ℕ). list_any (nat_le (first_return net)) (places_of key list)) (map-append tail front net.returns)
    ∙ (ap (list_any (nat_le (first_return net))) (places_from-append 0 key (map tail front) (map tail net.returns))
    ∙ (list_any-append (nat_le (first_return net)) (places_from 0 key (map tail front)) (places_from (0 + length (map tail front)) key (map tail net.returns))
    ∙ rw (none_reach (first_return net) key tail 0 front (let e = length-map front tail in omega (arith, long, e)))
    (all_reach (first_return net) key tail (0 + length (map tail front)) net.returns (omega (arith, long))))))
