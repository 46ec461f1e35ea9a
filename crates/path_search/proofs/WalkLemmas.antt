-- The start of a search, one side more, and its two ends.
use Rattle.std.proofs.Common.{◌≡◌, ◌≢◌, ℕ, ◌+◌, ◌^◌, ◌<◌, ◌≤◌, Bool, true, false, not, List, [], length, replicate, Option, None, Some, inl, inr, refl, arith, ap, sym, ◌∙◌, subst}
use Rattle.std.specs.Prelude.{slice_set, ℤ, pos, ◌+ℤ◌, ◌≤ℤ◌}
use Rattle.std.specs.List.{Contains}
use Rattle.std.specs.Option.{is_some}
use Rattle.std.proofs.lemmas.Bool.{cases_eq, cases_lt}
use Rattle.std.proofs.lemmas.Int.{ints}
use Rattle.std.proofs.lemmas.List.{get_or-replicate, get_or_past, length-replicate, length-set}
use Rattle.std.proofs.lemmas.List.Elements.{All-nil}
use Rattle.std.proofs.lemmas.List.Folds.{sum_by-replicate}
use Rattle.flow_model.specs.Network.{arcs_of}
use Rattle.residual_model.specs.Residual.{StepsOn, reduced}
use Rattle.reached_sides.specs.declared.mark.Mark.{Mark}
use Rattle.reached_sides.specs.declared.mark.Way.TheVariants.{Along}
use Rattle.path_search.specs.Ground.{AreSmall, arc_at, count_at, price_at, IsGround}
use Rattle.path_search.specs.Search.{mark_at, distance_of, distance_at, is_settled, is_open, settled_one, settled_count, settled_as, ComeNearer, IsLooking, LedOut, LedBack, IsNext, IsWaiting}
use Rattle.path_search.specs.Task.{Task}
use Rattle.path_search.specs.Found.{HasSettled}
use Rattle.path_search.specs.Ways.{AreWays}
use Rattle.path_search.proofs.RowLemmas.{each_at, each_by_place}
use Rattle.path_search.proofs.SearchLemmas.{IsSet, set_is}

-- ---- the start

no_mark : (n side : ℕ) → mark_at (replicate n None) side ≡ None
no_mark n side =
    elim (cases_lt side n) [
      | inl within ↦ get_or-replicate n side None None within
      | inr past ↦ get_or_past (replicate n None) side None (let long = length-replicate {A = Option Mark} n None in omega (arith, long, past))
    ]

abbrev pub first : Mark
first = record { distance = 0; arc = 0; way = Along; rank = None }

-- the marks of a source alone
pub record IsBegun (source : ℕ) (marks : List (Option Mark)) : Type 0 where
  pub here : mark_at marks source ≡ Some first
  pub others : (side : ℕ) → side ≢ source → mark_at marks side ≡ None
  pub none_settled : (side : ℕ) → is_settled (mark_at marks side) ≡ false
  pub count : settled_count marks ≡ 0

pub begun : (n source : ℕ) → source < n → IsBegun source (slice_set (replicate n None) source (Some first))
begun n source within =
    let blank : List (Option Mark) = replicate n None in
    let set = set_is source first blank (let long = length-replicate {A = Option Mark} n None in omega (arith, long, within)) in
    let others : (side : ℕ) → side ≢ source → mark_at (slice_set blank source (Some first)) side ≡ None =
    λ side apart. set.others side apart ∙ no_mark n side in
    record {
      here = set.here;
      others = others;
      none_settled = λ side.
          elim (cases_eq side source) [
            | inl e ↦ subst (λ (s : ℕ). is_settled (mark_at (slice_set blank source (Some first)) s) ≡ false) (sym e) (ap is_settled set.here)
            | inr apart ↦ ap is_settled (others side apart)
          ];
      count =
          let zeros = sum_by-replicate settled_one n None in
          let was : settled_one (mark_at blank source) ≡ 0 = ap settled_one (no_mark n source) in
          omega (arith, zeros, was, set.count);
    }

pub never : (b : Bool) → b ≡ false → b ≡ true → ⊥
never b unset set = let clash : true ≡ false = sym set ∙ unset in absurd (cc)

-- a search that has come to its source, and knows of no other side
pub record HasBegun (task : Task) (marks : List (Option Mark))
    : Type 0 where
  pub settled : HasSettled task marks
  pub next : IsNext marks [] task.source 0

pub begins : (task : Task) (n : ℕ) (marks : List (Option Mark))
    → IsGround task.net task.counts task.prices → task.source < length task.prices → n ≡ length task.prices
    → marks ≡ slice_set (replicate n None) task.source (Some first) → AreWays task marks
    → HasBegun task marks
begins task n marks ground within same is ways =
    let begun_now = subst (λ (after : List (Option Mark)). IsBegun task.source after) (sym is) (begun n task.source (omega (arith, same, within))) in
    let long : length marks ≡ length task.prices =
    ap length is ∙ length-set (replicate n None) task.source (Some first) ∙ length-replicate {A = Option Mark} n None ∙ same in
    let Led : ℕ → ℕ → ℤ → Type 0 = λ from to cost. is_settled (mark_at marks from) ≡ true
    → pos (distance_at marks to) ≤ℤ (pos (distance_at marks from) +ℤ reduced (price_at task.prices) from to cost) in
    let never_settled : (side : ℕ) → is_settled (mark_at marks side) ≡ true → ⊥ =
    λ side settled. never _ (begun_now.none_settled side) settled in
    record {
      settled = record {
        each = long;
        begins = let d = ap distance_of begun_now.here in omega (arith, d);
        led = each_by_place (StepsOn Led) (arcs_of task.net) task.counts ground.counted
            (λ place inside. record {
              along = λ below settled. absurd (never_settled _ settled);
              against = λ above settled. absurd (never_settled _ settled);
            });
        none_lacks = λ side settled. absurd (never_settled side settled);
        ways = ways;
      };
      next = record {
        current = record { waits = ap is_open begun_now.here; at = ap distance_of begun_now.here };
        inside = omega (arith, long, within);
        others = λ other waits apart. absurd (never _ (ap is_open (begun_now.others other apart)) waits);
        within = All-nil (λ (entry : ℕ × ℕ). entry.1 < length marks);
        ahead = All-nil (λ (entry : ℕ × ℕ). 0 ≤ entry.0);
        behind = λ other settled. absurd (never_settled other settled);
      };
    }

-- ---- one side more

pub open_mark : (at : Option Mark) → is_open at ≡ true → (mark : Mark) × (at ≡ Some mark)
open_mark None waits = absurd (cc)
open_mark (Some mark) waits = (mark, refl)

pub not_both : (at : Option Mark) → is_open at ≡ true → is_settled at ≡ false
not_both None waits = refl
not_both (Some mark) waits = by_rank mark.rank waits
  where
    by_rank : (rank : Option ℕ) → not (is_some rank) ≡ true → is_some rank ≡ false
    by_rank None waits = refl
    by_rank (Some r) waits = absurd (cc)

-- the marks after an open side was settled
pub record IsSettledNow (marks new_marks : List (Option Mark)) (side : ℕ) : Type 0 where
  pub here : is_settled (mark_at new_marks side) ≡ true
  pub not_open : is_open (mark_at new_marks side) ≡ false
  pub others : (other : ℕ) → other ≢ side → mark_at new_marks other ≡ mark_at marks other
  pub distances : (other : ℕ) → distance_at new_marks other ≡ distance_at marks other
  pub count : settled_count new_marks ≡ settled_count marks + 1
  pub each : length new_marks ≡ length marks

pub settled_now : (marks new_marks : List (Option Mark)) (side rank : ℕ) → side < length marks → is_open (mark_at marks side) ≡ true
    → new_marks ≡ slice_set marks side (settled_as rank (mark_at marks side)) → IsSettledNow marks new_marks side
settled_now marks new_marks side rank within waits is =
    let found = open_mark (mark_at marks side) waits in
    let mark = found.0 in
    let after : Mark = record mark { rank = Some rank } in
    let is_set : new_marks ≡ slice_set marks side (Some after) =
    is ∙ ap (λ (at : Option Mark). slice_set marks side (settled_as rank at)) found.1 in
    let set = subst (λ (list : List (Option Mark)). IsSet side after marks list) (sym is_set) (set_is side after marks within) in
    let was : settled_one (mark_at marks side) ≡ 0 = rw (not_both (mark_at marks side) waits) refl in
    record {
      here = ap is_settled set.here;
      not_open = ap is_open set.here;
      others = set.others;
      distances = λ other.
          elim (cases_eq other side) [
            | inl e ↦ subst (λ (s : ℕ). distance_at new_marks s ≡ distance_at marks s) (sym e) (ap distance_of set.here ∙ sym (ap distance_of found.1))
            | inr apart ↦ ap distance_of (set.others other apart)
          ];
      count = omega (arith, was, set.count);
      each = set.each;
    }

-- what is known of the search when a side was settled
pub record IsStepping (task : Task) (marks new_marks : List (Option Mark))
    (frontier : List (ℕ × ℕ)) (side distance : ℕ) : Type 0 where
  pub settled : HasSettled task marks
  pub next : IsNext marks frontier side distance
  pub now : IsSettledNow marks new_marks side

pub looks_from : (task : Task) (marks new_marks : List (Option Mark))
    (frontier : List (ℕ × ℕ)) (side distance : ℕ) → AreSmall task.prices → distance < 2 ^ 33
    → IsStepping task marks new_marks frontier side distance
    → IsLooking task.prices new_marks frontier distance
looks_from task marks new_marks frontier side distance small room stepping =
    let next = stepping.next in
    let now = stepping.now in
    record {
      small = small;
      each = now.each ∙ stepping.settled.each;
      searching = record {
        listed = λ other waits.
            elim (cases_eq other side) [
              | inl e ↦
                  let here : is_open (mark_at new_marks side) ≡ true = subst (λ (s : ℕ). is_open (mark_at new_marks s) ≡ true) e waits in
                  absurd (never _ now.not_open here)
              | inr apart ↦
                  let there = next.others other (ap is_open (sym (now.others other apart)) ∙ waits) apart in
                  subst (λ (d : ℕ). Contains frontier (d, other)) (sym (now.distances other)) there
            ];
        within = λ k d inside. omega (arith, next.within k d inside, now.each);
        ahead = next.ahead;
        behind = λ other done.
            elim (cases_eq other side) [
              | inl e ↦
                  let here : distance_at new_marks side ≡ distance = now.distances side ∙ next.current.at in
                  subst (λ (s : ℕ). distance_at new_marks s ≤ distance) (sym e) (omega (arith, here))
              | inr apart ↦
                  let before = next.behind other (ap is_settled (sym (now.others other apart)) ∙ done) in
                  omega (arith, before, now.distances other)
            ];
      };
      room = room;
    }

pub walked : (task : Task) (marks now_marks new_marks : List (Option Mark))
    (frontier new_frontier : List (ℕ × ℕ)) (side distance : ℕ) → IsGround task.net task.counts task.prices
    → IsStepping task marks now_marks frontier side distance → pos 0 ≤ℤ price_at task.excess side
    → IsLooking task.prices new_marks new_frontier distance → ComeNearer now_marks new_marks
    → LedOut task.net task.counts task.prices new_marks distance side → LedBack task.net task.counts task.prices new_marks distance side
    → AreWays task new_marks → HasSettled task new_marks
walked task marks now_marks new_marks frontier new_frontier side distance ground stepping enough looking nearer out back ways =
    let next = stepping.next in
    let now = stepping.now in
    let Led : List (Option Mark) → ℕ → ℕ → ℤ → Type 0 = λ list from to cost. is_settled (mark_at list from) ≡ true
    → pos (distance_at list to) ≤ℤ (pos (distance_at list from) +ℤ reduced (price_at task.prices) from to cost) in
    let at : distance_at new_marks side ≡ distance = ap distance_of (nearer.kept side now.here) ∙ now.distances side ∙ next.current.at in
    -- a side that is settled and not this one was so before, at the same distance
    let before : (other : ℕ) → other ≢ side → is_settled (mark_at new_marks other) ≡ true
    → (is_settled (mark_at marks other) ≡ true) × (distance_at new_marks other ≡ distance_at marks other) =
    λ other apart done.
    let then_done = sym (nearer.alike other) ∙ done in
    (ap is_settled (sym (now.others other apart)) ∙ then_done, ap distance_of (nearer.kept other then_done) ∙ now.distances other) in
    let closer : (other : ℕ) → distance_at new_marks other ≤ distance_at marks other =
    λ other. omega (arith, nearer.nearer other, now.distances other) in
    let old : (place : ℕ) → place < length (arcs_of task.net) → StepsOn (Led marks) (arc_at (arcs_of task.net) place) (count_at task.counts place) =
    λ place inside. each_at (StepsOn (Led marks)) (arcs_of task.net) task.counts stepping.settled.led place inside in
    record {
      each = looking.each;
      begins = omega (arith, closer task.source, stepping.settled.begins);
      led = each_by_place (StepsOn (Led new_marks)) (arcs_of task.net) task.counts ground.counted
          (λ place inside. record {
            along = λ below done.
                elim (cases_eq (arc_at (arcs_of task.net) place).tail side) [
                  | inl e ↦
                      let step = out place inside e below in
                      let from : distance_at new_marks (arc_at (arcs_of task.net) place).tail ≡ distance = ap (distance_at new_marks) e ∙ at in
                      omega (arith, ints, step, from)
                  | inr apart ↦
                      let was = before (arc_at (arcs_of task.net) place).tail apart done in
                      let step = (old place inside).along below was.0 in
                      let to = closer (arc_at (arcs_of task.net) place).head in
                      omega (arith, ints, step, was.1, to)
                ];
            against = λ above done.
                elim (cases_eq (arc_at (arcs_of task.net) place).head side) [
                  | inl e ↦
                      let step = back place inside e above in
                      let from : distance_at new_marks (arc_at (arcs_of task.net) place).head ≡ distance = ap (distance_at new_marks) e ∙ at in
                      omega (arith, ints, step, from)
                  | inr apart ↦
                      let was = before (arc_at (arcs_of task.net) place).head apart done in
                      let step = (old place inside).against above was.0 in
                      let to = closer (arc_at (arcs_of task.net) place).tail in
                      omega (arith, ints, step, was.1, to)
                ];
          });
      none_lacks = λ other done.
          elim (cases_eq other side) [
            | inl e ↦ subst (λ (s : ℕ). pos 0 ≤ℤ price_at task.excess s) (sym e) enough
            | inr apart ↦ stepping.settled.none_lacks other (before other apart done).0
          ];
      ways = ways;
    }

-- when all steps from a side were looked over
pub waits_on : (prices : List ℤ) (marks : List (Option Mark)) (frontier : List (ℕ × ℕ)) (distance : ℕ)
    → IsLooking prices marks frontier distance → IsWaiting marks frontier
waits_on prices marks frontier distance looking = record {
  listed = looking.searching.listed;
  within = looking.searching.within;
  ordered = λ other done k d inside. omega (arith, looking.searching.behind other done, looking.searching.ahead k d inside);
}
