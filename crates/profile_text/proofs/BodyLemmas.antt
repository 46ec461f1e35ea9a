-- A body line, taken in.
use Rattle.std.proofs.Common.{◌≡◌, ℕ, ◌+◌, ◌≤◌, ◌++◌, true, false, List, [], ◌∷◌, Some, None, Ok, Err, map, length, refl, sym, ap, subst, arith, ◌∙◌, take, append-nil, append_assoc}
use Rattle.std.specs.Prelude.{◌==◌, slice_get, slice_index, Option, Result}
use Rattle.std.proofs.lemmas.Bool.{eqb-true, eqb-false}
use Rattle.std.proofs.lemmas.List.{length_push, map-append}
use Rattle.std.proofs.lemmas.Option.{slice_get_within}
use Rattle.refusal.specs.declared.kind.Kind.{Kind}
use Rattle.refusal.specs.declared.kind.Kind.TheVariants.{KeyTwice}
use Rattle.refusal.specs.declared.place.ItemStop.{ItemStop}
use Rattle.refusal.specs.declared.place.ItemStop.TheVariants.{Refused, NoMemory}
use Rattle.refusal.specs.Place.{JudgesItem}
use Rattle.key_types.specs.Numbers.{Adds, IsNumbered}
use Rattle.key_types.specs.declared.key.Key.{Key}
use Rattle.key_types.specs.declared.ids.KeyId.{KeyId}
use Rattle.profile_model.specs.Judging.{cause_of}
use Rattle.profile_model.specs.Profile.{Line, body_line}
use Rattle.profile_model.specs.Spelled.{Number, count, numbers_on}
use Rattle.profile_model.specs.Standing.{way_of, has_twice}
use Rattle.profile_model.specs.Ways.{to_body}
use Rattle.profile_tree.specs.Said.{way_at}
use Rattle.profile_tree.specs.Steps.{NumberedStep, at_line, named, steps_of, steps_of_given}
use Rattle.profile_text.proofs.CauseLemmas.{Stands, cause_none, cause_way, cause_target}
use Rattle.profile_text.proofs.OpenLemmas.{path_more, kept_on, kept_grows, steps_grow, take_given, both_given}
use Rattle.profile_text.proofs.SeenLemmas.{ways_more, seen_again, seen_first, seen_keys, seen_body}
use Rattle.profile_text.proofs.ToldLemmas.{told_more}
use Rattle.profile_text.proofs.NamedLemmas.{names_more, keys_named, opening_named}
use Rattle.profile_text.specs.Draft.{Kept, AreGiven, AreGrown, AreSeen, IsPath, IsRead, TellNumbers, AreOld, AreTargetsPut, PutsTargets, names_of, room_of, target_number}
use Rattle.profile_text.specs.Path.{IsKeyAt}
use Rattle.profile_text.specs.Stamps.{IsStamped}
use Rattle.profile_text.specs.declared.draft.ProfileDraft.{ProfileDraft}
use Rattle.profile_text.specs.declared.item.Item.{Item}
use Rattle.profile_text.specs.declared.item.What.TheVariants.{Count}
use Rattle.profile_text.specs.declared.said.Location.{Location}

body_steps : (path : List NumberedStep) (depth : ℕ) (location : Location) (key : Key) → IsKeyAt (take depth path) location key
    → steps_of key ≡ take depth path ++ at_line location.offset location.disc ∷ []
body_steps path depth location key is =
    ap (λ (steps : List NumberedStep). steps ++ at_line key.offset key.disc ∷ []) is.steps
    ∙ ap (λ (o : ℕ). take depth path ++ at_line o key.disc ∷ []) is.offset
    ∙ ap (λ (d : ℕ). take depth path ++ at_line location.offset d ∷ []) is.disc

body_given : (n : ℕ) (path : List NumberedStep) (depth : ℕ) (location : Location) (key : Key) → IsKeyAt (take depth path) location key → AreGiven n path
    → AreGiven n (steps_of key)
body_given n path depth location key is given =
    subst (λ (steps : List NumberedStep). AreGiven n steps) (sym (body_steps path depth location key is))
    (both_given n (take depth path) (at_line location.offset location.disc ∷ []) (take_given n depth path given) (tt, tt))

body_way : (names last : List (List ℕ)) (path : List NumberedStep) (before : List Line) (depth : ℕ) (location : Location) (key : Key) (n : ℕ) (targets : List (List ℕ × ℕ))
    → IsPath names path before → depth ≤ length path → IsKeyAt (take depth path) location key → Kept names last
    → map (named last) (steps_of key) ≡ way_of before (body_line depth location.offset location.disc n targets)
body_way names last path before depth location key n targets is below at kept =
    ap (map (named last)) (body_steps path depth location key at)
    ∙ map-append (named last) (take depth path) (at_line location.offset location.disc ∷ [])
    ∙ ap (λ way. way ++ to_body location.offset location.disc ∷ []) (sym (is.above last kept depth below))

pub body_again : (names : List (List ℕ)) (keys more_keys : List Key) (draft : ProfileDraft) (before : List Line) (numbers : List Number)
    (depth : ℕ) (location : Location) (key : Key) (id : KeyId) (n : ℕ) (targets : List (List ℕ × ℕ))
    → IsRead names keys draft before numbers → Stands (length draft.path) depth → IsKeyAt (take depth draft.path) location key
    → Kept keys more_keys → IsNumbered more_keys → slice_get more_keys id.0 ≡ Some key → true ≡ (slice_index draft.places id.0 == 1)
    → cause_of before (body_line depth location.offset location.disc n targets) ≡ Some KeyTwice
body_again names keys more_keys draft before numbers depth location key id n targets is free at kept apart there stood =
    let seen = seen_keys keys more_keys is.ways draft.opened draft.places is.seen kept (kept_grows keys more_keys kept) apart in
    let one = (seen.are_placed id.0 key there).0 (eqb-true (slice_index draft.places id.0) 1 (sym stood)) in
    cause_way before (body_line depth location.offset location.disc n targets) (length draft.path) (is.path.stands depth) free
    (seen_again names names is.ways before (steps_of key) (way_of before (body_line depth location.offset location.disc n targets)) is.are_ways (λ n x known. known)
    (body_way names names draft.path before depth location key n targets is.path free.below at (λ n x known. known)) one)

pub body_twice : (names : List (List ℕ)) (keys : List Key) (draft : ProfileDraft) (before : List Line) (numbers : List Number)
    (depth : ℕ) (location : Location) (n : ℕ) (targets : List (List ℕ × ℕ))
    → IsRead names keys draft before numbers → Stands (length draft.path) depth → has_twice (names_of targets) ≡ true
    → cause_of before (body_line depth location.offset location.disc n targets) ≡ Some KeyTwice
body_twice names keys draft before numbers depth location n targets is free twice =
    cause_target before (body_line depth location.offset location.disc n targets) (length draft.path) (is.path.stands depth) free twice

pub old_stamps : (names : List (List ℕ)) (keys : List Key) (draft : ProfileDraft) (before : List Line) (numbers : List Number) (mid : List Item) (item : Item)
    → IsRead names keys draft before numbers → mid ≡ draft.items.items ++ item ∷ [] → AreOld draft.called (length mid) (length names)
old_stamps names keys draft before numbers mid item is mid_is = record {
  below = λ n. omega (arith, is.stamps n, ap length mid_is, length_push draft.items.items item);
  few = is.called;
}

pub body_read : (names more : List (List ℕ)) (keys more_keys : List Key) (draft after : ProfileDraft) (before : List Line) (numbers : List Number)
    (depth : ℕ) (location : Location) (key : Key) (id : KeyId) (at n : ℕ) (targets : List (List ℕ × ℕ)) (mid : List Item)
    → IsRead names keys draft before numbers → Stands (length draft.path) depth → IsKeyAt (take depth draft.path) location key → IsNumbered names
    → Adds keys more_keys key → length more_keys ≤ length keys + 1 → IsNumbered more_keys → slice_get more_keys id.0 ≡ Some key → false ≡ (slice_index draft.places id.0 == 1)
    → IsStamped draft.places id.0 1 after.places → mid ≡ draft.items.items ++ record { line = at; what = Count id; times = n } ∷ []
    → after.path ≡ take depth draft.path → after.opened ≡ draft.opened
    → has_twice (names_of targets) ≡ false → AreTargetsPut names mid at id targets more after.called after.items.items
    → (cause_of before (body_line depth location.offset location.disc n targets) ≡ None)
    × (IsRead more more_keys after (body_line depth location.offset location.disc n targets ∷ before)
    (numbers ++ numbers_on at (way_of before (body_line depth location.offset location.disc n targets)) (body_line depth location.offset location.disc n targets))
    × AreGrown (room_of (body_line depth location.offset location.disc n targets)) names keys draft.opened more more_keys after.opened)
body_read names more keys more_keys draft after before numbers depth location key id at n targets mid is free at_key apart adds one_more keys_apart there stood stamped mid_is path opened once put = (
  cause_none before (body_line depth location.offset location.disc n targets) (length draft.path) (is.path.stands depth) free
      (seen_first names names is.ways before (steps_of key) (way_of before (body_line depth location.offset location.disc n targets)) apart is.are_ways (λ n x known. known) (omega arith)
      (body_given (length names) draft.path depth location key at_key is.path.given)
      (body_way names names draft.path before depth location key n targets is.path free.below at_key (λ n x known. known))
      (λ one. eqb-false (slice_index draft.places id.0) 1 (sym stood) ((seen.are_placed id.0 key there).1 one)))
      once,
  (
    record {
      ways = steps_of key ∷ is.ways;
      path = subst (λ (p : List NumberedStep). IsPath more p (body_line depth location.offset location.disc n targets ∷ before)) (append-nil (take depth draft.path) ∙ sym path)
          (path_more names more draft.path before (body_line depth location.offset location.disc n targets) (at_line location.offset location.disc) is.path put.kept (kept_grows names more put.kept) free.below tt (λ last behind. refl));
      are_ways = ways_more names more is.ways before (body_line depth location.offset location.disc n targets) (steps_of key) is.are_ways put.kept (kept_grows names more put.kept)
          (steps_grow (length names) (length more) (kept_grows names more put.kept) (steps_of key) (body_given (length names) draft.path depth location key at_key is.path.given))
          (λ last behind. body_way names last draft.path before depth location key n targets is.path free.below at_key (kept_on names more last put.kept behind));
      seen = rw opened (seen_body more_keys is.ways draft.opened draft.places after.places id.0 key seen keys_apart there stamped);
      stamps = put.low;
      called = put.few;
      named = names_more names more more_keys (kept_grows names more put.kept)
          (keys_named names keys more_keys key id.0 adds one_more there is.named (opening_named (length names) key
          (subst (AreGiven (length names)) (sym at_key.steps) (take_given (length names) depth draft.path is.path.given))));
      told = record {
        given = put.given (length more_keys) (slice_get_within more_keys id.0 key there) told.given;
        tell = λ last last_keys behind keys_behind.
            put.tell last last_keys behind
            ∙ ap (λ ns. ns ++ map (target_number at (way_at last last_keys id.0)) targets) (told.tell last last_keys (kept_on names more last put.kept behind) keys_behind)
            ∙ ap (λ way. (numbers ++ record { line = at; what = count (way_of before (body_line depth location.offset location.disc n targets)); times = n } ∷ []) ++ map (target_number at way) targets)
            (key_way last last_keys (kept_on names more last put.kept behind) keys_behind)
            ∙ append_assoc numbers (record { line = at; what = count (way_of before (body_line depth location.offset location.disc n targets)); times = n } ∷ []) (map (target_number at (way_of before (body_line depth location.offset location.disc n targets))) targets);
      };
    },
    record {
      names_kept = put.kept;
      keys_kept = kept;
      few_names = omega (arith, put.one_each);
      few_keys = omega (arith, one_more);
      few_opened = rw opened (omega arith);
    },
  ),
)
  where
    kept : Kept keys more_keys
    kept = adds.kept

    seen : AreSeen more_keys is.ways draft.opened draft.places
    seen = seen_keys keys more_keys is.ways draft.opened draft.places is.seen kept (kept_grows keys more_keys kept) keys_apart

    key_way : (last : List (List ℕ)) (last_keys : List Key) → Kept names last → Kept more_keys last_keys → way_at last last_keys id.0 ≡ way_of before (body_line depth location.offset location.disc n targets)
    key_way last last_keys behind keys_behind =
        ap (λ given. map (named last) (steps_of_given given)) (keys_behind id.0 key there)
        ∙ body_way names last draft.path before depth location key n targets is.path free.below at_key behind

    told : TellNumbers names more_keys mid (numbers ++ record { line = at; what = count (way_of before (body_line depth location.offset location.disc n targets)); times = n } ∷ [])
    told =
        subst (λ (items : List Item). TellNumbers names more_keys items (numbers ++ record { line = at; what = count (way_of before (body_line depth location.offset location.disc n targets)); times = n } ∷ [])) (sym mid_is)
        (told_more names names keys more_keys draft.items.items numbers (record { line = at; what = Count id; times = n })
        (record { line = at; what = count (way_of before (body_line depth location.offset location.disc n targets)); times = n })
        is.told (λ n x known. known) (omega arith) kept (kept_grows keys more_keys kept) (slice_get_within more_keys id.0 key there)
        (λ last last_keys behind keys_behind. ap (λ way. record { line = at; what = count way; times = n }) (key_way last last_keys behind keys_behind)))

pub judged_by_targets : (cause : Option Kind) (names : List (List ℕ)) (items : List Item) (at : ℕ) (key : KeyId) (targets : List (List ℕ × ℕ)) (result : Result (Unit {0}) ItemStop)
    (more : List (List ℕ)) (stamps : List ℕ) (after : List Item) (P : Type 0)
    → PutsTargets names items at key targets result more stamps after
    → (has_twice (names_of targets) ≡ false → AreTargetsPut names items at key targets more stamps after → (cause ≡ None) × P)
    → (has_twice (names_of targets) ≡ true → cause ≡ Some KeyTwice)
    → JudgesItem cause result P
judged_by_targets cause names items at key targets (Ok done) more stamps after P puts good twice = good puts.0 puts.1
judged_by_targets cause names items at key targets (Err (Refused kind)) more stamps after P puts good twice = twice puts.1 ∙ ap Some (sym puts.0)
judged_by_targets cause names items at key targets (Err NoMemory) more stamps after P puts good twice = tt
