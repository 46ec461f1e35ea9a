-- The sides in the order in which they are settled.
use Rattle.std.proofs.Common.{◌≡◌, ◌≢◌, ℕ, ◌*◌, ◌<◌, ◌≤◌, true, List, [], ◌∷◌, ◌++◌, length, get_or, replicate, Option, None, Some, inl, inr, arith, ap, sym, ◌∙◌, subst}
use Rattle.std.specs.Prelude.{slice_set}
use Rattle.std.proofs.lemmas.Bool.{cases_eq, cases_lt}
use Rattle.std.proofs.lemmas.List.{get_or_push, get_or_append_left, length_push}
use Rattle.reached_sides.specs.declared.mark.Mark.{Mark}
use Rattle.path_search.specs.Ground.{IsGround}
use Rattle.path_search.specs.Search.{mark_at, distance_of, distance_at, is_settled, is_open, settled_as, settled_count, ComeNearer}
use Rattle.path_search.specs.Ways.{rank_of, AreSettled}
use Rattle.path_search.specs.Task.{Task}
use Rattle.path_search.specs.Found.{HasComeTo}
use Rattle.path_search.specs.declared.walk.Search.{Search}
use Rattle.path_search.proofs.SearchLemmas.{IsSet, set_is}
use Rattle.path_search.proofs.WalkLemmas.{first, begins, begun, open_mark, not_both, never, IsSettledNow}
use Rattle.path_search.proofs.WayLemmas.{ways_begin}

pub order_begins : (source n : ℕ) (marks : List (Option Mark)) (order : List ℕ) → source < n
    → marks ≡ slice_set (replicate n None) source (Some first) → order ≡ [] → AreSettled marks order
order_begins source n marks order within is none =
    let begun_now = begun n source within in
    let same = ap length none in
    record {
      in_order = record {
        settled = λ k below. absurd (omega (arith, below, same));
        listed = λ side settled.
            absurd (never _ (begun_now.none_settled side) (subst (λ (list : List (Option Mark)). is_settled (mark_at list side) ≡ true) is settled));
      };
      count = let zero = begun_now.count in let marks_same = ap settled_count is in omega (arith, same, zero, marks_same);
      first = λ k below. absurd (omega (arith, below, same));
    }

-- one side more, when the marks of settled sides are kept from then on
pub order_more : (marks now_marks new_marks : List (Option Mark)) (order : List ℕ) (side rank : ℕ) → side < length marks → is_open (mark_at marks side) ≡ true
    → rank ≡ length order → now_marks ≡ slice_set marks side (settled_as rank (mark_at marks side)) → IsSettledNow marks now_marks side
    → ((other : ℕ) → is_settled (mark_at marks other) ≡ true → distance_at marks other ≤ distance_at marks side)
    → ComeNearer now_marks new_marks → AreSettled marks order → AreSettled new_marks (order ++ side ∷ [])
order_more marks now_marks new_marks order side rank within waits rank_is is now behind nearer so_far =
    let found = open_mark (mark_at marks side) waits in
    let after : Mark = record found.0 { rank = Some rank } in
    let is_set : now_marks ≡ slice_set marks side (Some after) = is ∙ ap (λ (at : Option Mark). slice_set marks side (settled_as rank at)) found.1 in
    let set = subst (λ (list : List (Option Mark)). IsSet side after marks list) (sym is_set) (set_is side after marks within) in
    let here : mark_at new_marks side ≡ Some after = nearer.kept side now.here ∙ set.here in
    let rank_here : rank_of (mark_at new_marks side) ≡ rank = ap rank_of here in
    let long = length_push order side in
    let count = so_far.count in
    let apart_from : (other : ℕ) → is_settled (mark_at marks other) ≡ true → other ≢ side =
    λ other settled e. never _ (not_both (mark_at marks side) waits) (subst (λ (s : ℕ). is_settled (mark_at marks s) ≡ true) e settled) in
    let kept : (other : ℕ) → is_settled (mark_at marks other) ≡ true → mark_at new_marks other ≡ mark_at marks other =
    λ other settled.
    let same = now.others other (apart_from other settled) in
    nearer.kept other (ap is_settled same ∙ settled) ∙ same in
    let distance_of_kept : (other : ℕ) → is_settled (mark_at marks other) ≡ true → distance_at new_marks other ≡ distance_at marks other =
    λ other settled. ap distance_of (kept other settled) in
    let d_side : distance_at new_marks side ≡ distance_at marks side = ap distance_of (nearer.kept side now.here) ∙ now.distances side in
    let at_last : distance_at new_marks (get_or (order ++ side ∷ []) 0 0) ≤ distance_at new_marks side =
    elim (cases_lt 0 (length order)) [
      | inl some ↦
          let start = get_or_append_left order (side ∷ []) 0 0 some in
          let settled = (so_far.in_order.settled 0 some).0 in
          let far = behind (get_or order 0 0) settled in
          let same = distance_of_kept (get_or order 0 0) settled in
          rw start (omega (arith, far, same, d_side))
      | inr none ↦ rw (get_or_push order side 0 0 (omega (arith, none))) (omega arith)
    ] in
    record {
      in_order = record {
        settled = λ k below.
            elim (cases_lt k (length order)) [
              | inl before ↦
                  let old = so_far.in_order.settled k before in
                  let at = get_or_append_left order (side ∷ []) 0 k before in
                  let same = kept (get_or order k 0) old.0 in
                  subst (λ (s : ℕ). (is_settled (mark_at new_marks s) ≡ true) × (rank_of (mark_at new_marks s) ≡ k)) (sym at)
                  (ap is_settled same ∙ old.0, ap rank_of same ∙ old.1)
              | inr last ↦
                  let e : length order ≡ k = omega (arith, below, last, long) in
                  let at = get_or_push order side 0 k e in
                  subst (λ (s : ℕ). (is_settled (mark_at new_marks s) ≡ true) × (rank_of (mark_at new_marks s) ≡ k)) (sym at)
                  (ap is_settled here, omega (arith, rank_here, rank_is, e))
            ];
        listed = λ other settled.
            elim (cases_eq other side) [
              | inl e ↦
                  let rank_other : rank_of (mark_at new_marks other) ≡ rank = ap (λ (s : ℕ). rank_of (mark_at new_marks s)) e ∙ rank_here in
                  let at = get_or_push order side 0 (rank_of (mark_at new_marks other)) (omega (arith, rank_other, rank_is)) in
                  (omega (arith, rank_other, rank_is, long), at ∙ sym e)
              | inr apart ↦
                  let before : is_settled (mark_at marks other) ≡ true =
                  ap is_settled (sym (now.others other apart)) ∙ (sym (nearer.alike other) ∙ settled) in
                  let old = so_far.in_order.listed other before in
                  let same = ap rank_of (kept other before) in
                  let low : rank_of (mark_at new_marks other) < length order = omega (arith, same, old.0) in (
                    omega (arith, low, long),
                    get_or_append_left order (side ∷ []) 0 (rank_of (mark_at new_marks other)) low ∙ ap (λ (r : ℕ). get_or order r 0) same ∙ old.1,
                  )
            ];
      };
      count = omega (arith, count, long, now.count, nearer.count);
      first = λ k below.
          elim (cases_lt k (length order)) [
            | inl before ↦
                let start = get_or_append_left order (side ∷ []) 0 0 (omega (arith, before)) in
                let at = get_or_append_left order (side ∷ []) 0 k before in
                let start_same = distance_of_kept (get_or order 0 0) (so_far.in_order.settled 0 (omega (arith, before))).0 in
                let same = distance_of_kept (get_or order k 0) (so_far.in_order.settled k before).0 in
                let old = so_far.first k before in
                rw (start, at) (omega (arith, old, start_same, same))
            | inr last ↦
                let e : length order ≡ k = omega (arith, below, last, long) in
                let at = get_or_push order side 0 k e in
                rw at at_last
          ];
    }

-- what a search knows at its source
pub come_to_source : (task : Task) (n : ℕ) (held : Search) → IsGround task.net task.counts task.prices → task.source ≤ 2 * length task.net.blocks
    → n ≡ length task.prices → held.marks ≡ slice_set (replicate n None) task.source (Some first) → held.frontier ≡ []
    → held.order.items ≡ [] → HasComeTo task held task.source 0
come_to_source task n held ground inside marked is no_frontier no_order =
    let priced = ground.priced in
    let within : task.source < length task.prices = omega (arith, inside, priced) in
    let ways = ways_begin task n held.marks (omega (arith, within, marked)) ground.small within is in
    let now = begins task n held.marks ground within marked is ways in
    record {
      settled = now.settled;
      listed = order_begins task.source n held.marks held.order.items (omega (arith, within, marked)) is no_order;
      next = rw no_frontier now.next;
    }
