-- The line of an inlined call, taken in.
use Rattle.std.proofs.Common.{◌≡◌, ℕ, ◌+◌, ◌≤◌, ◌++◌, true, false, List, [], ◌∷◌, Some, None, map, length, refl, sym, ap, arith, ◌∙◌, take, append-nil}
use Rattle.std.specs.Prelude.{slice_get}
use Rattle.std.proofs.lemmas.List.{map-append}
use Rattle.std.proofs.lemmas.Option.{slice_get_within}
use Rattle.refusal.specs.declared.kind.Kind.TheVariants.{KeyTwice}
use Rattle.key_types.specs.Numbers.{IsNumbered}
use Rattle.key_types.specs.declared.key.Key.{Key}
use Rattle.key_types.specs.declared.ids.NameId.{NameId}
use Rattle.profile_model.specs.Judging.{cause_of}
use Rattle.profile_model.specs.Profile.{Line, call_line}
use Rattle.profile_model.specs.Spelled.{Number, numbers_on}
use Rattle.profile_model.specs.Standing.{way_of, again_among}
use Rattle.profile_model.specs.Ways.{to_call}
use Rattle.profile_tree.specs.Steps.{NumberedStep, at_call, named}
use Rattle.profile_text.proofs.CauseLemmas.{Stands, cause_none, cause_way}
use Rattle.profile_text.proofs.FunctionLemmas.{one_of_before, none_before}
use Rattle.profile_text.proofs.OpenLemmas.{path_more, kept_on, kept_grows, name_kept, steps_grow, take_given, both_given}
use Rattle.profile_text.proofs.SeenLemmas.{ways_more, seen_again, seen_first, seen_opened}
use Rattle.profile_text.proofs.ToldLemmas.{told_grow}
use Rattle.profile_text.proofs.NamedLemmas.{names_more}
use Rattle.profile_text.specs.Draft.{Kept, AreGiven, AreGrown, IsPath, IsRead, IsOpened, room_of}
use Rattle.profile_text.specs.declared.draft.ProfileDraft.{ProfileDraft}
use Rattle.profile_text.specs.declared.said.Location.{Location}

call_way : (names more last : List (List ℕ)) (path : List NumberedStep) (before : List Line) (depth : ℕ) (location : Location) (id : NameId) (name : List ℕ) (n : ℕ)
    → IsPath names path before → depth ≤ length path → Kept names more → slice_get more id.0 ≡ Some name → Kept more last
    → map (named last) (take depth path ++ at_call location.offset location.disc id.0 ∷ []) ≡ way_of before (call_line depth location.offset location.disc name n)
call_way names more last path before depth location id name n is below kept there behind =
    map-append (named last) (take depth path) (at_call location.offset location.disc id.0 ∷ [])
    ∙ ap (λ called. map (named last) (take depth path) ++ to_call location.offset location.disc called ∷ []) (name_kept more last id.0 name behind there)
    ∙ ap (λ way. way ++ to_call location.offset location.disc name ∷ []) (sym (is.above last (kept_on names more last kept behind) depth below))

pub call_again : (names more : List (List ℕ)) (keys : List Key) (draft : ProfileDraft) (before : List Line) (numbers : List Number)
    (depth : ℕ) (location : Location) (id : NameId) (name : List ℕ) (n : ℕ) (opened : List Key)
    → IsRead names keys draft before numbers → Stands (length draft.path) depth → Kept names more → slice_get more id.0 ≡ Some name
    → IsOpened (take depth draft.path ++ at_call location.offset location.disc id.0 ∷ []) draft.opened false opened
    → cause_of before (call_line depth location.offset location.disc name n) ≡ Some KeyTwice
call_again names more keys draft before numbers depth location id name n opened is free kept there old =
    cause_way before (call_line depth location.offset location.disc name n) (length draft.path) (is.path.stands depth) free
    (seen_again names more is.ways before (take depth draft.path ++ at_call location.offset location.disc id.0 ∷ []) (way_of before (call_line depth location.offset location.disc name n)) is.are_ways kept
    (call_way names more more draft.path before depth location id name n is.path free.below kept there (λ n x known. known))
    (one_of_before keys is.ways draft.opened opened draft.places (take depth draft.path ++ at_call location.offset location.disc id.0 ∷ []) is.seen old))

pub call_read : (names more : List (List ℕ)) (keys : List Key) (draft after : ProfileDraft) (before : List Line) (numbers : List Number)
    (depth : ℕ) (location : Location) (id : NameId) (name : List ℕ) (at n : ℕ)
    → IsRead names keys draft before numbers → Stands (length draft.path) depth → Kept names more → length more ≤ length names + 1 → IsNumbered more → slice_get more id.0 ≡ Some name
    → IsOpened (take depth draft.path ++ at_call location.offset location.disc id.0 ∷ []) draft.opened true after.opened
    → after.path ≡ take depth draft.path ++ at_call location.offset location.disc id.0 ∷ [] → after.places ≡ draft.places → after.called ≡ draft.called
    → after.items.items ≡ draft.items.items
    → (cause_of before (call_line depth location.offset location.disc name n) ≡ None)
    × (IsRead more keys after (call_line depth location.offset location.disc name n ∷ before)
    (numbers ++ numbers_on at (way_of before (call_line depth location.offset location.disc name n)) (call_line depth location.offset location.disc name n))
    × AreGrown (room_of (call_line depth location.offset location.disc name n)) names keys draft.opened more keys after.opened)
unfolding again_among
call_read names more keys draft after before numbers depth location id name at n is free kept one_more apart there fresh path places called items = (
  cause_none before (call_line depth location.offset location.disc name n) (length draft.path) (is.path.stands depth) free
      (seen_first names more is.ways before (take depth draft.path ++ at_call location.offset location.disc id.0 ∷ []) (way_of before (call_line depth location.offset location.disc name n)) apart is.are_ways kept grown given
      (call_way names more more draft.path before depth location id name n is.path free.below kept there (λ n x known. known))
      (none_before keys is.ways draft.opened after.opened draft.places (take depth draft.path ++ at_call location.offset location.disc id.0 ∷ []) is.seen fresh))
      refl,
  (
    record {
      ways = (take depth draft.path ++ at_call location.offset location.disc id.0 ∷ []) ∷ is.ways;
      path = rw path
          (path_more names more draft.path before (call_line depth location.offset location.disc name n) (at_call location.offset location.disc id.0) is.path kept grown free.below
          (slice_get_within more id.0 name there)
          (λ last behind. ap (to_call location.offset location.disc) (name_kept more last id.0 name behind there)));
      are_ways = ways_more names more is.ways before (call_line depth location.offset location.disc name n) (take depth draft.path ++ at_call location.offset location.disc id.0 ∷ []) is.are_ways kept grown given
          (λ last behind. call_way names more last draft.path before depth location id name n is.path free.below kept there behind);
      seen = rw places (seen_opened keys is.ways draft.opened after.opened draft.places (take depth draft.path ++ at_call location.offset location.disc id.0 ∷ []) is.seen fresh);
      stamps = λ m. rw (called, items) (is.stamps m);
      called = rw called (omega (arith, is.called, grown));
      named = names_more names more keys grown is.named;
      told = rw (items, append-nil numbers) (told_grow names more keys keys draft.items.items numbers is.told kept grown (λ n x known. known) (omega arith));
    },
    record {
      names_kept = kept;
      keys_kept = λ n x known. known;
      few_names = one_more;
      few_keys = omega arith;
      few_opened = fresh.one_more;
    },
  ),
)
  where
    grown : length names ≤ length more
    grown = kept_grows names more kept

    given : AreGiven (length more) (take depth draft.path ++ at_call location.offset location.disc id.0 ∷ [])
    given =
        both_given (length more) (take depth draft.path) (at_call location.offset location.disc id.0 ∷ [])
        (take_given (length more) depth draft.path (steps_grow (length names) (length more) (kept_grows names more kept) draft.path is.path.given))
        (slice_get_within more id.0 name there, tt)
