-- Which ways were seen before, with one way more.
use Rattle.std.proofs.Common.{◌≡◌, ◌⊎◌, ◌↔◌, ℕ, suc, ◌<◌, ◌≤◌, Bool, true, false, List, [], ◌∷◌, ◌++◌, Some, map, length, get_or, refl, sym, ap, subst, arith, ◌∙◌, inl, inr, nat_lt}
use Rattle.std.specs.Prelude.{◌==◌, ◌||◌, slice_get, slice_index, Contains, if◌then◌else◌}
use Rattle.std.specs.List.{AllByRecursion, list_any}
use Rattle.std.proofs.lemmas.Bool.{true≢false, cases_lt, lt-ltb, le-ltb, eqb-true, eqb-false}
use Rattle.std.proofs.lemmas.List.{get_or_past}
use Rattle.std.proofs.lemmas.List.Elements.{Contains-push_cases, Contains-append_left}
use Rattle.std.proofs.lemmas.Option.{slice_get_within, slice_get-get_or, get_or_from_slice_get, same_Some}
use Rattle.key_types.proofs.NumberLemmas.{one_number_each}
use Rattle.key_types.specs.Numbers.{IsNumbered}
use Rattle.key_types.specs.declared.key.Frame.{Frame}
use Rattle.key_types.specs.declared.key.Key.{Key}
use Rattle.profile_model.specs.Profile.{Line}
use Rattle.profile_model.specs.Standing.{way_of, ways_of}
use Rattle.profile_model.specs.Ways.{Way, same_way}
use Rattle.profile_tree.proofs.WayLemmas.{IsNamed, ways_once, keys_once, same_ways, way_itself}
use Rattle.profile_tree.specs.Steps.{NumberedStep, at_function, at_line, at_call, frame_step, steps_of, named}
use Rattle.profile_text.proofs.OpenLemmas.{steps_grow, kept_on}
use Rattle.profile_text.specs.Draft.{Kept, IsOneOf, AreGiven, AreWays, AreSeen, IsOpened}
use Rattle.profile_text.specs.Path.{opening}
use Rattle.profile_text.specs.Stamps.{IsStamped}

-- ---- ways by names and by numbers

as_named : (n : ℕ) (steps : List NumberedStep) → AreGiven n steps → AllByRecursion (IsNamed n) steps
as_named n [] given = tt
as_named n (at_function name ∷ steps) given = (given.0, as_named n steps given.1)
as_named n (at_line offset disc ∷ steps) given = (tt, as_named n steps given.1)
as_named n (at_call offset disc name ∷ steps) given = (given.0, as_named n steps given.1)

found_told : (names : List (List ℕ)) → IsNumbered names → (w : List NumberedStep) (ways : List (List NumberedStep))
    → AreGiven (length names) w → AllByRecursion (AreGiven (length names)) ways
    → list_any (same_way (map (named names) w)) (map (map (named names)) ways) ≡ true → IsOneOf w ways
found_told names apart w [] given all found = true≢false (sym found)
found_told names apart w (v ∷ ways) given all found =
    by_answer (same_way (map (named names) w) (map (named names) v)) refl (λ more. found_told names apart w ways given all.1 more) found
  where
    by_answer : (b : Bool) → same_way (map (named names) w) (map (named names) v) ≡ b
        → (list_any (same_way (map (named names) w)) (map (map (named names)) ways) ≡ true → IsOneOf w ways)
        → (b || list_any (same_way (map (named names) w)) (map (map (named names)) ways)) ≡ true → (w ≡ v) ⊎ IsOneOf w ways
    by_answer true is behind found =
        inl (ways_once names apart w v (as_named (length names) w given) (as_named (length names) v all.0) (same_ways (map (named names) w) (map (named names) v) is))
    by_answer false is behind found = inr (behind found)

told_found : (names : List (List ℕ)) (w : List NumberedStep) (ways : List (List NumberedStep)) → IsOneOf w ways
    → list_any (same_way (map (named names) w)) (map (map (named names)) ways) ≡ true
told_found names w [] one = absurd one
told_found names w (v ∷ ways) (inl is) =
    let itself : same_way (map (named names) w) (map (named names) v) ≡ true =
    subst (λ u. same_way (map (named names) w) (map (named names) u) ≡ true) is (way_itself (map (named names) w)) in
    rw itself
told_found names w (v ∷ ways) (inr one) = or_true (same_way (map (named names) w) (map (named names) v)) (told_found names w ways one)
  where
    or_true : (b : Bool) {c : Bool} → c ≡ true → (b || c) ≡ true
    or_true true is = refl
    or_true false is = is

ways_grow : (m n : ℕ) → m ≤ n → (ways : List (List NumberedStep)) → AllByRecursion (AreGiven m) ways → AllByRecursion (AreGiven n) ways
ways_grow m n le [] all = tt
ways_grow m n le (w ∷ ways) all = (steps_grow m n le w all.0, ways_grow m n le ways all.1)

pub ways_more : (names more : List (List ℕ)) (ways : List (List NumberedStep)) (before : List Line) (line : Line) (w : List NumberedStep)
    → AreWays names ways before → Kept names more → length names ≤ length more → AreGiven (length more) w
    → ((last : List (List ℕ)) → Kept more last → map (named last) w ≡ way_of before line)
    → AreWays more (w ∷ ways) (line ∷ before)
unfolding ways_of
ways_more names more ways before line w are kept grown given tells = record {
  given = (given, ways_grow (length names) (length more) grown ways are.given);
  tell = λ last more_kept.
      ap (λ way. way ∷ ways_of before) (sym (tells last more_kept))
      ∙ ap (λ others. map (named last) w ∷ others) (are.tell last (kept_on names more last kept more_kept));
}

pub seen_again : (names more : List (List ℕ)) (ways : List (List NumberedStep)) (before : List Line) (w : List NumberedStep) (way : Way)
    → AreWays names ways before → Kept names more → map (named more) w ≡ way → IsOneOf w ways → list_any (same_way way) (ways_of before) ≡ true
seen_again names more ways before w way are kept is one =
    rw (are.tell more kept, ← is) (told_found more w ways one)

pub seen_first : (names more : List (List ℕ)) (ways : List (List NumberedStep)) (before : List Line) (w : List NumberedStep) (way : Way)
    → IsNumbered more → AreWays names ways before → Kept names more → length names ≤ length more → AreGiven (length more) w
    → map (named more) w ≡ way → (IsOneOf w ways → ⊥) → list_any (same_way way) (ways_of before) ≡ false
seen_first names more ways before w way apart are kept grown given is first =
    rw (are.tell more kept, ← is)
    (by_answer (list_any (same_way (map (named more) w)) (map (map (named more)) ways))
    (λ found. first (found_told more apart w ways given (ways_grow (length names) (length more) grown ways are.given) found)))
  where
    by_answer : (b : Bool) → (b ≡ true → ⊥) → b ≡ false
    by_answer true never = absurd (never refl)
    by_answer false never = refl

-- ---- the way of a key, and that of what can be open

abbrev line_count : List NumberedStep → ℕ
line_count [] = 0
line_count (at_function name ∷ steps) = line_count steps
line_count (at_line offset disc ∷ steps) = suc (line_count steps)
line_count (at_call offset disc name ∷ steps) = line_count steps

no_line : (calls : List Frame) → line_count (map frame_step calls) ≡ 0
no_line [] = refl
no_line (frame ∷ calls) = no_line calls

one_line : (calls : List Frame) (offset disc : ℕ) → line_count (map frame_step calls ++ at_line offset disc ∷ []) ≡ 1
one_line [] offset disc = refl
one_line (frame ∷ calls) offset disc = one_line calls offset disc

pub no_opening : (key other : Key) → steps_of key ≡ opening other → ⊥
no_opening key other same =
    let counts : line_count (steps_of key) ≡ line_count (opening other) = ap line_count same in
    absurd (omega (arith, counts, one_line key.calls key.offset key.disc, no_line other.calls))

opened_once : (key other : Key) → key.offset ≡ 0 → key.disc ≡ 0 → other.offset ≡ 0 → other.disc ≡ 0 → opening key ≡ opening other → key ≡ other
opened_once key other ko kd oo od same =
    keys_once key other
    (ap (λ (steps : List NumberedStep). steps ++ at_line key.offset key.disc ∷ []) same
    ∙ ap (λ (o : ℕ). opening other ++ at_line o key.disc ∷ []) (ko ∙ sym oo)
    ∙ ap (λ (d : ℕ). opening other ++ at_line other.offset d ∷ []) (kd ∙ sym od))

-- ---- keys by number

pub contains_at : {T : Type 0} (items : List T) (n : ℕ) (x : T) → slice_get items n ≡ Some x → Contains items x
contains_at items n x is = (n, slice_get_within items n x is, get_or_from_slice_get items n x x is)

pub at_contains : {T : Type 0} (items : List T) (x : T) (n : ℕ) → n < length items → get_or items n x ≡ x → slice_get items n ≡ Some x
at_contains items x n within is = slice_get-get_or items n x within ∙ ap Some is

-- an item of a list that grew and has no more items than before
pub still_there : {T : Type 0} (items more : List T) (n : ℕ) (x : T) → Kept items more → n < length items → slice_get more n ≡ Some x → slice_get items n ≡ Some x
still_there items more n x kept within is =
    let old = slice_get-get_or items n x within in
    let same : get_or items n x ≡ x = same_Some _ _ (sym (kept n (get_or items n x) old) ∙ is) in
    old ∙ ap Some same

pub opened_fresh : (path : List NumberedStep) (opened : List Key) (more : List Key) (is : IsOpened path opened true more) → Contains opened is.key → ⊥
opened_fresh path opened more is there =
    let same : more ≡ opened = is.adds.known there in
    let lens : length more ≡ length opened = ap length same in
    let none : nat_lt (length opened) (length more) ≡ false = le-ltb _ _ (omega (arith, lens)) in
    true≢false (is.is_fresh ∙ none)

pub opened_before : (path : List NumberedStep) (opened : List Key) (more : List Key) (is : IsOpened path opened false more) → Contains opened is.key
opened_before path opened more is =
    let within : is.at < length more = slice_get_within more is.at is.key is.there in
    elim (cases_lt (length opened) (length more)) [
      | inl grown ↦ absurd (true≢false (sym (lt-ltb _ _ grown) ∙ sym is.is_fresh))
      | inr same ↦ contains_at opened is.at is.key (still_there opened more is.at is.key is.adds.kept (omega (arith, within, same)) is.there)
    ]

-- ---- what was seen, with one way more

pub seen_opened : (keys : List Key) (ways : List (List NumberedStep)) (opened more : List Key) (places : List ℕ) (path : List NumberedStep)
    → AreSeen keys ways opened places → IsOpened path opened true more → AreSeen keys (path ∷ ways) more places
seen_opened keys ways opened more places path seen is = record {
  are_opened = λ key o d. (λ there. into key o d there, λ one. out key o d one);
  are_placed = λ k key at. (λ stamped. inr ((seen.are_placed k key at).0 stamped), λ one. (seen.are_placed k key at).1 (behind key one));
  known = λ key one. seen.known key (behind key one);
  few = seen.few;
}
  where
    grown : more ≡ opened ++ is.key ∷ []
    grown = is.adds.next (opened_fresh path opened more is)

    into : (key : Key) → key.offset ≡ 0 → key.disc ≡ 0 → Contains more key → IsOneOf (opening key) (path ∷ ways)
    into key o d there =
        elim (Contains-push_cases opened is.key key (subst (λ (items : List Key). Contains items key) grown there)) [
          | inl old ↦ inr ((seen.are_opened key o d).0 old)
          | inr new ↦ inl (ap opening (sym new) ∙ is.steps)
        ]

    out : (key : Key) → key.offset ≡ 0 → key.disc ≡ 0 → IsOneOf (opening key) (path ∷ ways) → Contains more key
    out key o d (inl same) =
        let key_is : key ≡ is.key = opened_once key is.key o d is.offset is.disc (same ∙ sym is.steps) in
        contains_at more is.at key (is.there ∙ ap Some (sym key_is))
    out key o d (inr one) =
        subst (λ (items : List Key). Contains items key) (sym grown) (Contains-append_left opened (is.key ∷ []) key ((seen.are_opened key o d).1 one))

    behind : (key : Key) → IsOneOf (steps_of key) (path ∷ ways) → IsOneOf (steps_of key) ways
    behind key (inl same) = absurd (no_opening key is.key (same ∙ sym is.steps))
    behind key (inr one) = one

pub seen_keys : (keys more : List Key) (ways : List (List NumberedStep)) (opened : List Key) (places : List ℕ)
    → AreSeen keys ways opened places → Kept keys more → length keys ≤ length more → IsNumbered more → AreSeen more ways opened places
seen_keys keys more ways opened places seen kept grown apart = record {
  are_opened = seen.are_opened;
  are_placed = λ k key at. elim (cases_lt k (length keys)) [
    | inl within ↦ seen.are_placed k key (still_there keys more k key kept within at)
    | inr past ↦ (λ stamped. absurd (unstamped k past stamped), λ one. absurd (unknown k key at past (seen.known key one)))
  ];
  known = λ key one. let there = seen.known key one in contains_at more there.0 key (kept there.0 key (at_contains keys key there.0 there.1 there.2));
  few = omega (arith, seen.few, grown);
}
  where
    unstamped : (k : ℕ) → length keys ≤ k → slice_index places k ≡ 1 → ⊥
    unstamped k past stamped =
        let zero_there : slice_index places k ≡ 0 = get_or_past places k 0 (omega (arith, past, seen.few)) in
        absurd (omega (arith, stamped, zero_there))

    unknown : (k : ℕ) (key : Key) → slice_get more k ≡ Some key → length keys ≤ k → Contains keys key → ⊥
    unknown k key at past there =
        let same : there.0 ≡ k = (one_number_each more there.0 k key key apart (kept there.0 key (at_contains keys key there.0 there.1 there.2)) at).1 refl in
        absurd (omega (arith, same, past, there.1))

pub seen_body : (keys : List Key) (ways : List (List NumberedStep)) (opened : List Key) (places stamped : List ℕ) (k : ℕ) (key : Key)
    → AreSeen keys ways opened places → IsNumbered keys → slice_get keys k ≡ Some key → IsStamped places k 1 stamped
    → AreSeen keys (steps_of key ∷ ways) opened stamped
seen_body keys ways opened places stamped k key seen apart at is = record {
  are_opened = λ other o d. (λ there. inr ((seen.are_opened other o d).0 there), λ one. (seen.are_opened other o d).1 (behind other one));
  are_placed = λ j other there. by_place j other there (j == k) refl (is.each j);
  known = λ other one. knows other one;
  few = omega (arith, is.len, seen.few, slice_get_within keys k key at);
}
  where
    behind : (other : Key) → IsOneOf (opening other) (steps_of key ∷ ways) → IsOneOf (opening other) ways
    behind other (inl same) = absurd (no_opening key other (sym same))
    behind other (inr one) = one

    knows : (other : Key) → IsOneOf (steps_of other) (steps_of key ∷ ways) → Contains keys other
    knows other (inl same) = contains_at keys k other (at ∙ ap Some (sym (keys_once other key same)))
    knows other (inr one) = seen.known other one

    by_place : (j : ℕ) (other : Key) → slice_get keys j ≡ Some other → (b : Bool) → (j == k) ≡ b
        → slice_index stamped j ≡ (if b then 1 else slice_index places j)
        → (slice_index stamped j ≡ 1) ↔ IsOneOf (steps_of other) (steps_of key ∷ ways)
    by_place j other there true same value =
        let numbers : j ≡ k = eqb-true j k same in
        let keys_are : other ≡ key = same_Some _ _ (sym there ∙ ap (slice_get keys) numbers ∙ at) in
        (λ _. inl (ap steps_of keys_are), λ _. value)
    by_place j other there false differs value =
        (λ one. inr ((seen.are_placed j other there).0 (sym value ∙ one)), λ one. value ∙ placed one)
      where
        placed : IsOneOf (steps_of other) (steps_of key ∷ ways) → slice_index places j ≡ 1
        placed (inl same) =
            let keys_are : other ≡ key = keys_once other key same in
            let numbers : j ≡ k = (one_number_each keys j k other key apart there at).1 keys_are in
            absurd (eqb-false j k differs numbers)
        placed (inr one) = (seen.are_placed j other there).1 one

pub nothing_seen : (keys : List Key) → AreSeen keys [] [] []
nothing_seen keys = record {
  are_opened = λ key o d. (λ there. absurd (omega (arith, there.1)), λ one. absurd one);
  are_placed = λ k key at. (λ stamped. let zero_there : slice_index [] k ≡ 0 = get_or_past {X = ℕ} [] k 0 (omega arith) in absurd (omega (arith, stamped, zero_there)), λ one. absurd one);
  known = λ key one. absurd one;
  few = omega arith;
}
