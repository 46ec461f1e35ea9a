-- What a search knows when its settled sides are put at one distance, and the prices lowered by what they were nearer.
use Rattle.std.proofs.Common.{◌≡◌, ℕ, ◌<◌, ◌≤◌, Bool, true, false, List, length, get_or, Option, None, Some, inl, inr, refl, arith, ap, sym, ◌∙◌, subst}
use Rattle.std.specs.Prelude.{ℤ, pos, ◌+ℤ◌, ◌≤ℤ◌}
use Rattle.std.specs.List.{Contains}
use Rattle.std.proofs.lemmas.Bool.{cases_lt}
use Rattle.std.proofs.lemmas.Int.{ints}
use Rattle.flow_model.specs.Network.{Network, arcs_of}
use Rattle.residual_model.specs.Residual.{StepsOn, moved, reduced}
use Rattle.reached_sides.specs.declared.mark.Mark.{Mark}
use Rattle.path_search.specs.Ground.{arc_at, count_at, price_at}
use Rattle.path_search.specs.Search.{mark_at, far, distance_of, distance_at, is_settled, is_open}
use Rattle.path_search.specs.Ways.{AreWays, IsStepTo, rank_of, start_of}
use Rattle.path_search.specs.Task.{task_of}
use Rattle.path_search.specs.Found.{HasComeTo, HasEnded, HasSettled}
use Rattle.path_search.specs.declared.walk.Search.{Search}
use Rattle.path_search.proofs.RowLemmas.{each_at, each_by_place}
use Rattle.path_search.proofs.WalkLemmas.{not_both}
use Rattle.flow_balance.specs.Level.{IsLevelled, put_at}
use Rattle.flow_balance.proofs.StateLemmas.{AreMoved, IsFound, limit_near, prices_moved}

-- ---- a mark that is put at a distance

put_settled : (limit : ℕ) (at : Option Mark) → is_settled (put_at limit at) ≡ is_settled at
put_settled limit None = refl
put_settled limit (Some mark) = refl

put_rank : (limit : ℕ) (at : Option Mark) → rank_of (put_at limit at) ≡ rank_of at
put_rank limit None = refl
put_rank limit (Some mark) = refl

put_distance : (limit : ℕ) (at : Option Mark) → is_settled at ≡ true → distance_of (put_at limit at) ≡ limit
put_distance limit None settled = absurd (cc)
put_distance limit (Some mark) settled = refl

one_mark : (one two : Mark) (at : Option Mark) → at ≡ Some one → at ≡ Some two → one ≡ two
one_mark one two at is also = let both : Some one ≡ Some two = sym is ∙ also in cc

-- ---- all marks

settled_alike : (old new : List (Option Mark)) (limit side : ℕ) → IsLevelled old limit new → is_settled (mark_at new side) ≡ is_settled (mark_at old side)
settled_alike old new limit side level = by_settled (is_settled (mark_at old side)) refl
  where
    by_settled : (b : Bool) → is_settled (mark_at old side) ≡ b → is_settled (mark_at new side) ≡ is_settled (mark_at old side)
    by_settled true settled = ap is_settled (level.settled side settled) ∙ put_settled limit (mark_at old side)
    by_settled false other = ap is_settled (level.others side other)

rank_alike : (old new : List (Option Mark)) (limit side : ℕ) → IsLevelled old limit new → rank_of (mark_at new side) ≡ rank_of (mark_at old side)
rank_alike old new limit side level = by_settled (is_settled (mark_at old side)) refl
  where
    by_settled : (b : Bool) → is_settled (mark_at old side) ≡ b → rank_of (mark_at new side) ≡ rank_of (mark_at old side)
    by_settled true settled = ap rank_of (level.settled side settled) ∙ put_rank limit (mark_at old side)
    by_settled false other = ap rank_of (level.others side other)

at_level : (old new : List (Option Mark)) (limit side : ℕ) → IsLevelled old limit new → is_settled (mark_at old side) ≡ true → distance_at new side ≡ limit
at_level old new limit side level settled = ap distance_of (level.settled side settled) ∙ put_distance limit (mark_at old side) settled

-- What is known of a side behind the move: where it is, and by how much its price fell.
record IsAt (prices new_prices : List ℤ) (old new : List (Option Mark)) (limit side : ℕ) : Type 0 where
  price : (price_at new_prices side +ℤ pos (distance_at new side)) ≡ (price_at prices side +ℤ pos (distance_at old side))
  beyond : limit ≤ distance_at new side
  settled : is_settled (mark_at old side) ≡ true → distance_at new side ≡ limit
  near : distance_at old side < far → distance_at new side < far

is_at : (net : Network) (counts : List ℕ) (prices excess : List ℤ) (source side : ℕ) (marks : List (Option Mark)) (new_prices : List ℤ)
    (new_marks : List (Option Mark)) → IsFound net counts prices excess source side marks → AreMoved prices marks side new_prices
    → IsLevelled marks (distance_at marks side) new_marks → (other : ℕ) → IsAt prices new_prices marks new_marks (distance_at marks side) other
is_at net counts prices excess source side marks new_prices new_marks found are level other = by_settled (is_settled (mark_at marks other)) refl
  where
    by_settled : (b : Bool) → is_settled (mark_at marks other) ≡ b → IsAt prices new_prices marks new_marks (distance_at marks side) other
    by_settled true settled =
        let at = at_level marks new_marks (distance_at marks side) other level settled in
        let behind = found.ways.behind other settled in
        let price = are.moved_all other in
        record {
          price = omega (arith, ints, at, behind, price);
          beyond = omega (arith, at);
          settled = λ is. at;
          near = λ was. let small = limit_near net counts prices excess source side marks found in omega (arith, at, small);
        }
    by_settled false open_side =
        let same = ap distance_of (level.others other open_side) in
        let far : distance_at marks side ≤ distance_at marks other =
        elim (cases_lt (distance_at marks other) (distance_at marks side)) [
          | inl near ↦ let clash : true ≡ false = sym (found.reached.nearest other near) ∙ open_side in absurd (cc)
          | inr beyond ↦ beyond
        ] in
        let price = are.moved_all other in
        record {
          price = omega (arith, ints, same, far, price);
          beyond = omega (arith, same, far);
          settled = λ is. let clash : true ≡ false = sym is ∙ open_side in absurd (cc);
          near = λ was. omega (arith, was, same);
        }

-- ---- the search by the new prices

-- what the lemmas below start from
pub record IsRaised (net : Network) (counts : List ℕ) (prices excess : List ℤ) (source side : ℕ) (marks : List (Option Mark)) (new_prices : List ℤ)
    (new_marks : List (Option Mark)) : Type 0 where
  pub found : IsFound net counts prices excess source side marks
  pub are : AreMoved prices marks side new_prices
  pub level : IsLevelled marks (distance_at marks side) new_marks

pub raised_by : (net : Network) (counts : List ℕ) (prices excess : List ℤ) (source side limit : ℕ) (marks : List (Option Mark)) (new_prices : List ℤ)
    (new_marks : List (Option Mark)) → IsFound net counts prices excess source side marks → limit ≡ distance_at marks side
    → length new_prices ≡ length prices → ((other : ℕ) → price_at new_prices other ≡ moved (price_at prices) (distance_at marks) limit other)
    → IsLevelled marks limit new_marks → IsRaised net counts prices excess source side marks new_prices new_marks
raised_by net counts prices excess source side limit marks new_prices new_marks found at each fell level = record {
  found = found;
  are = record {
    each = each;
    moved_all = λ other. fell other ∙ ap (λ (n : ℕ). moved (price_at prices) (distance_at marks) n other) at;
  };
  level = subst (λ (n : ℕ). IsLevelled marks n new_marks) at level;
}

-- a step that a mark tells, where prices and distances moved together
step_raised : (net : Network) (counts : List ℕ) (prices excess : List ℤ) (source side : ℕ) (marks : List (Option Mark)) (new_prices : List ℤ)
    (new_marks : List (Option Mark)) (v : ℕ) (mark after : Mark) → IsRaised net counts prices excess source side marks new_prices new_marks
    → mark_at marks v ≡ Some mark → mark_at new_marks v ≡ Some after → after ≡ record mark { distance = after.distance }
    → IsStepTo (task_of net counts prices excess source) marks v mark → IsStepTo (task_of net counts new_prices excess source) new_marks v after
step_raised net counts prices excess source side marks new_prices new_marks v mark after raised at at_now same step =
    let limit = distance_at marks side in
    let start = start_of mark.way (arc_at (arcs_of net) mark.arc) in
    let here = is_at net counts prices excess source side marks new_prices new_marks raised.found raised.are raised.level v in
    let there = is_at net counts prices excess source side marks new_prices new_marks raised.found raised.are raised.level start in
    let d = ap distance_of at in
    let d_now = ap distance_of at_now in
    let told : IsStepTo (task_of net counts new_prices excess source) new_marks v (record mark { distance = after.distance }) = record {
      inside = step.inside;
      leads = step.leads;
      leaves = step.leaves;
      from_settled = settled_alike marks new_marks limit start raised.level ∙ step.from_settled;
      from_earlier = λ settled.
          let before = step.from_earlier settled in
          let rank = rank_alike marks new_marks limit start raised.level in
          omega (arith, before, rank);
      further = let further = step.further in omega (arith, ints, further, here.price, there.price, d, d_now);
    } in
    subst (λ (m : Mark). IsStepTo (task_of net counts new_prices excess source) new_marks v m) (sym same) told

-- the mark that a side had
had_mark : (old new : List (Option Mark)) (limit side : ℕ) (after : Mark) → IsLevelled old limit new → mark_at new side ≡ Some after
    → (mark : Mark) × (mark_at old side ≡ Some mark) × (after ≡ record mark { distance = after.distance })
had_mark old new limit side after level at = by_mark (mark_at old side) refl
  where
    by_settled : (mark : Mark) → mark_at old side ≡ Some mark → (b : Bool) → is_settled (mark_at old side) ≡ b
        → after ≡ record mark { distance = after.distance }
    by_settled mark was true settled =
        let is : mark_at new side ≡ Some (record mark { distance = limit }) = level.settled side settled ∙ ap (put_at limit) was in
        let same = one_mark after (record mark { distance = limit }) (mark_at new side) at is in
        let d : after.distance ≡ limit = ap (λ (m : Mark). m.distance) same in
        same ∙ ap (λ (n : ℕ). record mark { distance = n }) (sym d)
    by_settled mark was false other =
        let same = one_mark after mark (mark_at new side) at (level.others side other ∙ was) in
        let d : after.distance ≡ mark.distance = ap (λ (m : Mark). m.distance) same in
        same ∙ ap (λ (n : ℕ). record mark { distance = n }) (sym d)

    by_mark : (was : Option Mark) → mark_at old side ≡ was
        → (mark : Mark) × (mark_at old side ≡ Some mark) × (after ≡ record mark { distance = after.distance })
    by_mark None none =
        let other : is_settled (mark_at old side) ≡ false = ap is_settled none in
        let clash : None ≡ Some after = sym (level.others side other ∙ none) ∙ at in absurd (cc)
    by_mark (Some mark) was = (mark, was, by_settled mark was (is_settled (mark_at old side)) refl)

ways_raised : (net : Network) (counts : List ℕ) (prices excess : List ℤ) (source side : ℕ) (marks : List (Option Mark)) (new_prices : List ℤ)
    (new_marks : List (Option Mark)) → IsRaised net counts prices excess source side marks new_prices new_marks
    → AreWays (task_of net counts new_prices excess source) new_marks
ways_raised net counts prices excess source side marks new_prices new_marks raised =
    let limit = distance_at marks side in
    let ways = raised.found.ways.ways in
    let count = raised.level.count in
    record {
      small =
          let here = is_at net counts prices excess source side marks new_prices new_marks raised.found raised.are raised.level source in
          record { least = omega (arith, ints, ways.small.least, here.price); most = omega (arith, ints, ways.small.most, here.price) };
      begun = λ other settled.
          settled_alike marks new_marks limit source raised.level
          ∙ ways.begun other (sym (settled_alike marks new_marks limit other raised.level) ∙ settled);
      steps = λ v after at apart.
          let had = had_mark marks new_marks limit v after raised.level at in
          step_raised net counts prices excess source side marks new_prices new_marks v had.0 after raised had.1 at had.2 (ways.steps v had.0 had.1 apart);
      ranked = λ other settled.
          let before = ways.ranked other (sym (settled_alike marks new_marks limit other raised.level) ∙ settled) in
          let rank = rank_alike marks new_marks limit other raised.level in
          omega (arith, before, rank, count);
    }

settled_raised : (net : Network) (counts : List ℕ) (prices excess : List ℤ) (source side : ℕ) (marks : List (Option Mark)) (new_prices : List ℤ)
    (new_marks : List (Option Mark)) → IsRaised net counts prices excess source side marks new_prices new_marks
    → HasSettled (task_of net counts new_prices excess source) new_marks
settled_raised net counts prices excess source side marks new_prices new_marks raised =
    let limit = distance_at marks side in
    let done = raised.found.reached.settled in
    let at = is_at net counts prices excess source side marks new_prices new_marks raised.found raised.are raised.level in
    let was : (other : ℕ) → is_settled (mark_at new_marks other) ≡ true → is_settled (mark_at marks other) ≡ true =
    λ other settled. sym (settled_alike marks new_marks limit other raised.level) ∙ settled in
    let Led : List ℤ → List (Option Mark) → ℕ → ℕ → ℤ → Type 0 = λ list known from to cost. is_settled (mark_at known from) ≡ true
    → pos (distance_at known to) ≤ℤ (pos (distance_at known from) +ℤ reduced (price_at list) from to cost) in
    let old : (place : ℕ) → place < length (arcs_of net) → StepsOn (Led prices marks) (arc_at (arcs_of net) place) (count_at counts place) =
    λ place inside. each_at (StepsOn (Led prices marks)) (arcs_of net) counts done.led place inside in
    let each = raised.level.each in
    let priced = raised.are.each in
    record {
      each = each ∙ done.each ∙ sym priced;
      begins = (at source).near done.begins;
      led = each_by_place (StepsOn (Led new_prices new_marks)) (arcs_of net) counts raised.found.state.ground.counted
          (λ place inside. record {
            along = λ below settled.
                let step = (old place inside).along below (was _ settled) in
                let from = at (arc_at (arcs_of net) place).tail in
                let to = at (arc_at (arcs_of net) place).head in
                omega (arith, ints, step, from.price, to.price);
            against = λ above settled.
                let step = (old place inside).against above (was _ settled) in
                let from = at (arc_at (arcs_of net) place).head in
                let to = at (arc_at (arcs_of net) place).tail in
                omega (arith, ints, step, from.price, to.price);
          });
      none_lacks = λ other settled. done.none_lacks other (was other settled);
      ways = ways_raised net counts prices excess source side marks new_prices new_marks raised;
    }

-- the side that the search has come to stays where it is
side_same : (net : Network) (counts : List ℕ) (prices excess : List ℤ) (source side : ℕ) (marks : List (Option Mark)) (new_prices : List ℤ)
    (new_marks : List (Option Mark)) → IsRaised net counts prices excess source side marks new_prices new_marks
    → mark_at new_marks side ≡ mark_at marks side
side_same net counts prices excess source side marks new_prices new_marks raised =
    raised.level.others side (not_both (mark_at marks side) raised.found.ways.waits)

-- by the new prices the search has found the side as well
pub found_raised : (net : Network) (counts : List ℕ) (prices excess : List ℤ) (source side : ℕ) (marks : List (Option Mark)) (new_prices : List ℤ)
    (new_marks : List (Option Mark)) → IsRaised net counts prices excess source side marks new_prices new_marks
    → IsFound net counts new_prices excess source side new_marks
found_raised net counts prices excess source side marks new_prices new_marks raised =
    let found = raised.found in
    let limit = distance_at marks side in
    let at = is_at net counts prices excess source side marks new_prices new_marks found raised.are raised.level in
    let same = side_same net counts prices excess source side marks new_prices new_marks raised in
    let d : distance_at new_marks side ≡ limit = ap distance_of same in
    let each = raised.are.each in
    let Hold : ℕ → ℕ → ℤ → Type 0 = λ from to cost. distance_at new_marks from < distance_at new_marks side
    → pos (distance_at new_marks to) ≤ℤ (pos (distance_at new_marks from) +ℤ reduced (price_at new_prices) from to cost) in
    record {
      state = prices_moved net counts prices excess source side marks new_prices found raised.are;
      reached = record {
        settled = settled_raised net counts prices excess source side marks new_prices new_marks raised;
        inside = let inside = found.reached.inside in omega (arith, inside, each);
        lacks = found.reached.lacks;
        nearest = λ other near. let far = (at other).beyond in absurd (omega (arith, near, far, d));
        hold = each_by_place (StepsOn Hold) (arcs_of net) counts found.state.ground.counted
            (λ place inside. record {
              along = λ below near. let far = (at (arc_at (arcs_of net) place).tail).beyond in absurd (omega (arith, near, far, d));
              against = λ above near. let far = (at (arc_at (arcs_of net) place).head).beyond in absurd (omega (arith, near, far, d));
            });
      };
      ways = record {
        ways = ways_raised net counts prices excess source side marks new_prices new_marks raised;
        waits = ap is_open same ∙ found.ways.waits;
        behind = λ other settled.
            let put = (at other).settled (sym (settled_alike marks new_marks limit other raised.level) ∙ settled) in
            omega (arith, put, d);
      };
    }

-- all that is settled is as far as the side
pub all_level : (net : Network) (counts : List ℕ) (prices excess : List ℤ) (source side : ℕ) (marks : List (Option Mark)) (new_prices : List ℤ)
    (new_marks : List (Option Mark)) → IsRaised net counts prices excess source side marks new_prices new_marks
    → (other : ℕ) → is_settled (mark_at new_marks other) ≡ true → distance_at new_marks other ≡ distance_at new_marks side
all_level net counts prices excess source side marks new_prices new_marks raised other settled =
    let limit = distance_at marks side in
    let put = at_level marks new_marks limit other raised.level (sym (settled_alike marks new_marks limit other raised.level) ∙ settled) in
    put ∙ sym (ap distance_of (side_same net counts prices excess source side marks new_prices new_marks raised))

-- no side is nearer than the one that was found, so that no price is moved once more
pub none_moved : (net : Network) (counts : List ℕ) (prices excess : List ℤ) (source side : ℕ) (marks : List (Option Mark)) (new_prices : List ℤ)
    (new_marks : List (Option Mark)) → IsRaised net counts prices excess source side marks new_prices new_marks
    → AreMoved new_prices new_marks side new_prices
none_moved net counts prices excess source side marks new_prices new_marks raised = record {
  each = refl;
  moved_all = λ other.
      let at = is_at net counts prices excess source side marks new_prices new_marks raised.found raised.are raised.level other in
      let d = ap distance_of (side_same net counts prices excess source side marks new_prices new_marks raised) in
      let far = at.beyond in
      omega (arith, ints, far, d);
}

-- what the search has come to
pub come_raised : (net : Network) (counts : List ℕ) (prices excess : List ℤ) (source side : ℕ) (held : Search)
    (new_prices : List ℤ) (new_marks : List (Option Mark))
    → IsRaised net counts prices excess source side held.marks new_prices new_marks
    → HasEnded (task_of net counts prices excess source) held (Some side)
    → HasComeTo (task_of net counts new_prices excess source) (record held { marks = new_marks }) side (distance_at new_marks side)
come_raised net counts prices excess source side held new_prices new_marks raised ended =
    let limit = distance_at held.marks side in
    let level = raised.level in
    let each = level.each in
    let at = is_at net counts prices excess source side held.marks new_prices new_marks raised.found raised.are level in
    let same = side_same net counts prices excess source side held.marks new_prices new_marks raised in
    let d : distance_at new_marks side ≡ limit = ap distance_of same in
    let count = level.count in
    record {
      settled = settled_raised net counts prices excess source side held.marks new_prices new_marks raised;
      next = record {
        current = record { waits = ap is_open same ∙ ended.next.current.waits; at = refl };
        inside = let inside = ended.next.inside in omega (arith, inside, each);
        others = λ other waits apart.
            let open_side : is_settled (mark_at held.marks other) ≡ false =
            sym (settled_alike held.marks new_marks limit other level) ∙ not_both (mark_at new_marks other) waits in
            let kept = level.others other open_side in
            let there = ended.next.others other (ap is_open (sym kept) ∙ waits) apart in
            subst (λ (n : ℕ). Contains held.frontier (n, other)) (sym (ap distance_of kept)) there;
        within = λ k e inside. let within = ended.next.within k e inside in omega (arith, within, each);
        ahead = λ k e inside. let ahead = ended.next.ahead k e inside in omega (arith, ahead, d);
        behind = λ other settled.
            let put = all_level net counts prices excess source side held.marks new_prices new_marks raised other settled in omega (arith, put);
      };
      listed = record {
        in_order = record {
          settled = λ k below.
              let old = ended.listed.in_order.settled k below in
              (settled_alike held.marks new_marks limit (get_or held.order.items k 0) level ∙ old.0, rank_alike held.marks new_marks limit (get_or held.order.items k 0) level ∙ old.1);
          listed = λ other settled.
              let old = ended.listed.in_order.listed other (sym (settled_alike held.marks new_marks limit other level) ∙ settled) in
              let rank = rank_alike held.marks new_marks limit other level in
              (omega (arith, rank, old.0), ap (λ (r : ℕ). get_or held.order.items r 0) rank ∙ old.1);
        };
        count = ended.listed.count ∙ sym count;
        first = λ k below.
            let one = (at (get_or held.order.items 0 0)).settled (ended.listed.in_order.settled 0 (omega (arith, below))).0 in
            let other = (at (get_or held.order.items k 0)).settled (ended.listed.in_order.settled k below).0 in
            omega (arith, one, other);
      };
    }
