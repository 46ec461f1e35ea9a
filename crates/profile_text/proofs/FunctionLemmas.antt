-- A function's line, taken in.
use Rattle.std.proofs.Common.{◌≡◌, ℕ, ◌+◌, ◌≤◌, ◌++◌, true, false, List, [], ◌∷◌, Some, None, map, length, refl, sym, ap, arith, ◌∙◌}
use Rattle.std.specs.Prelude.{slice_get, nat_le}
use Rattle.std.proofs.lemmas.Option.{slice_get_within}
use Rattle.std.proofs.lemmas.List.{length_push}
use Rattle.refusal.specs.declared.kind.Kind.TheVariants.{KeyTwice}
use Rattle.key_types.specs.Numbers.{IsNumbered}
use Rattle.key_types.specs.declared.key.Key.{Key}
use Rattle.key_types.specs.declared.ids.NameId.{NameId}
use Rattle.profile_model.specs.Judging.{cause_of}
use Rattle.profile_model.specs.Profile.{Line, function_line}
use Rattle.profile_model.specs.Spelled.{Number, head, numbers_on}
use Rattle.profile_model.specs.Standing.{can_stand, way_of, way_above, again_among}
use Rattle.profile_model.specs.Ways.{to_function}
use Rattle.profile_tree.specs.Steps.{NumberedStep, at_function, named}
use Rattle.profile_text.proofs.CauseLemmas.{Stands, cause_none, cause_way}
use Rattle.profile_text.proofs.OpenLemmas.{name_kept, path_more}
use Rattle.profile_text.proofs.SeenLemmas.{ways_more, seen_again, seen_first, seen_opened, opened_fresh, opened_before}
use Rattle.profile_text.proofs.ToldLemmas.{told_more}
use Rattle.profile_text.proofs.NamedLemmas.{names_more}
use Rattle.profile_text.specs.Draft.{Kept, IsOneOf, AreSeen, AreGrown, IsRead, IsOpened, room_of}
use Rattle.profile_text.specs.Path.{opening}
use Rattle.profile_text.specs.declared.draft.ProfileDraft.{ProfileDraft}
use Rattle.profile_text.specs.declared.item.What.TheVariants.{Head}

-- the path of a line that was opened before
pub one_of_before : (keys : List Key) (ways : List (List NumberedStep)) (opened more : List Key) (places : List ℕ) (path : List NumberedStep)
    → AreSeen keys ways opened places → IsOpened path opened false more → IsOneOf path ways
one_of_before keys ways opened more places path seen is =
    let there = (seen.are_opened is.key is.offset is.disc).0 (opened_before path opened more is) in
    let same : opening is.key ≡ path = is.steps in
    rw same at there

pub none_before : (keys : List Key) (ways : List (List NumberedStep)) (opened more : List Key) (places : List ℕ) (path : List NumberedStep)
    → AreSeen keys ways opened places → IsOpened path opened true more → IsOneOf path ways → ⊥
none_before keys ways opened more places path seen is one =
    let at : IsOneOf (opening is.key) ways = rw is.steps one in
    opened_fresh path opened more is ((seen.are_opened is.key is.offset is.disc).1 at)

-- nothing stands above a function
above_none : (names more : List (List ℕ)) (keys : List Key) (draft : ProfileDraft) (before : List Line) (numbers : List Number) → IsRead names keys draft before numbers
    → Kept names more → way_above before 0 ≡ []
above_none names more keys draft before numbers is kept = is.path.above more kept 0 (omega arith)

function_way : (names more last : List (List ℕ)) (keys : List Key) (draft : ProfileDraft) (before : List Line) (numbers : List Number) (id : ℕ) (name : List ℕ) (total n : ℕ)
    → IsRead names keys draft before numbers → Kept names more → slice_get more id ≡ Some name → Kept more last
    → map (named last) (at_function id ∷ []) ≡ way_of before (function_line name total n)
function_way names more last keys draft before numbers id name total n is kept at behind =
    ap (λ m. to_function m ∷ []) (name_kept more last id name behind at)
    ∙ sym (ap (λ way. way ++ to_function name ∷ []) (above_none names more keys draft before numbers is kept))

can_begin : (names : List (List ℕ)) (keys : List Key) (draft : ProfileDraft) (before : List Line) (numbers : List Number) → IsRead names keys draft before numbers
    → can_stand before 0 ≡ nat_le 0 (length draft.path)
can_begin names keys draft before numbers is = is.path.stands 0

free : (lines : ℕ) → Stands lines 0
free lines = record { shallow = omega arith; below = omega arith }

pub function_again : (names more : List (List ℕ)) (keys : List Key) (draft : ProfileDraft) (before : List Line) (numbers : List Number) (id : NameId) (name : List ℕ) (total n : ℕ)
    (opened : List Key) → IsRead names keys draft before numbers → Kept names more → slice_get more id.0 ≡ Some name
    → IsOpened (at_function id.0 ∷ []) draft.opened false opened → cause_of before (function_line name total n) ≡ Some KeyTwice
function_again names more keys draft before numbers id name total n opened is kept at old =
    cause_way before (function_line name total n) (length draft.path) (can_begin names keys draft before numbers is) (free (length draft.path))
    (seen_again names more is.ways before (at_function id.0 ∷ []) (way_of before (function_line name total n)) is.are_ways kept
    (function_way names more more keys draft before numbers id.0 name total n is kept at (λ n x there. there))
    (one_of_before keys is.ways draft.opened opened draft.places (at_function id.0 ∷ []) is.seen old))

pub function_read : (names more : List (List ℕ)) (keys : List Key) (draft after : ProfileDraft) (before : List Line) (numbers : List Number) (id : NameId) (name : List ℕ) (at total n : ℕ)
    → IsRead names keys draft before numbers → Kept names more → length names ≤ length more → length more ≤ length names + 1 → IsNumbered more → slice_get more id.0 ≡ Some name
    → IsOpened (at_function id.0 ∷ []) draft.opened true after.opened
    → after.path ≡ at_function id.0 ∷ [] → after.places ≡ draft.places → after.called ≡ draft.called
    → after.items.items ≡ draft.items.items ++ record { line = at; what = Head id; times = n } ∷ []
    → (cause_of before (function_line name total n) ≡ None)
    × (IsRead more keys after (function_line name total n ∷ before) (numbers ++ numbers_on at (way_of before (function_line name total n)) (function_line name total n))
    × AreGrown (room_of (function_line name total n)) names keys draft.opened more keys after.opened)
unfolding again_among
function_read names more keys draft after before numbers id name at total n is kept grown one_more apart there fresh path places called items = (
  cause_none before (function_line name total n) (length draft.path) (can_begin names keys draft before numbers is) (free (length draft.path))
      (seen_first names more is.ways before (at_function id.0 ∷ []) (way_of before (function_line name total n)) apart is.are_ways kept grown
      (slice_get_within more id.0 name there, tt)
      (function_way names more more keys draft before numbers id.0 name total n is kept there (λ n x known. known))
      (none_before keys is.ways draft.opened after.opened draft.places (at_function id.0 ∷ []) is.seen fresh))
      refl,
  (
    record {
      ways = (at_function id.0 ∷ []) ∷ is.ways;
      path = rw path
          (path_more names more draft.path before (function_line name total n) (at_function id.0) is.path kept grown (omega arith)
          (slice_get_within more id.0 name there)
          (λ last behind. ap to_function (name_kept more last id.0 name behind there)));
      are_ways = ways_more names more is.ways before (function_line name total n) (at_function id.0 ∷ []) is.are_ways kept grown
          (slice_get_within more id.0 name there, tt)
          (λ last behind. function_way names more last keys draft before numbers id.0 name total n is kept there behind);
      seen = rw places (seen_opened keys is.ways draft.opened after.opened draft.places (at_function id.0 ∷ []) is.seen fresh);
      stamps = λ m. rw (called, items) (omega (arith, is.stamps m, length_push draft.items.items (record { line = at; what = Head id; times = n })));
      called = rw called (omega (arith, is.called, grown));
      named = names_more names more keys grown is.named;
      told = rw items
          (told_more names more keys keys draft.items.items numbers (record { line = at; what = Head id; times = n })
          (record { line = at; what = head name; times = n }) is.told kept grown (λ n x known. known) (omega arith)
          (slice_get_within more id.0 name there)
          (λ last last_keys behind keys_behind. ap (λ m. record { line = at; what = head m; times = n }) (name_kept more last id.0 name behind there)));
    },
    record {
      names_kept = kept;
      keys_kept = λ n x known. known;
      few_names = one_more;
      few_keys = omega arith;
      few_opened = fresh.one_more;
    },
  ),
)
