-- The names of keys, as names and keys are added; what items are of, each once.
use Rattle.std.proofs.Common.{◌≡◌, ℕ, ◌+◌, ◌<◌, ◌≤◌, List, [], ◌∷◌, Some, map, length, get_or, sym, ap, subst, arith, ◌∙◌, inl, inr, All}
use Rattle.std.specs.Prelude.{slice_get}
use Rattle.std.specs.List.{AllByRecursion}
use Rattle.std.proofs.lemmas.Bool.{cases_lt}
use Rattle.std.proofs.lemmas.List.{get_or-map, length-map}
use Rattle.std.proofs.lemmas.Option.{slice_get_within, slice_get-get_or, get_or_from_slice_get, same_Some}
use Rattle.key_types.specs.Numbers.{Adds}
use Rattle.key_types.specs.declared.key.Frame.{Frame}
use Rattle.key_types.specs.declared.key.Key.{Key}
use Rattle.profile_laws.specs.Once.{StandOnce}
use Rattle.profile_model.specs.Spelled.{Number}
use Rattle.profile_tree.specs.Known.{HasNames}
use Rattle.profile_tree.specs.Steps.{frame_step}
use Rattle.profile_text.proofs.SeenLemmas.{contains_at, still_there}
use Rattle.profile_text.specs.Draft.{AreGiven, AreNamed, number_told, what_told}
use Rattle.profile_text.specs.Path.{opening}
use Rattle.profile_text.specs.declared.item.Item.{Item}

-- ---- the names of keys

frames_grow : (m n : ℕ) → m ≤ n → (frames : List Frame) → AllByRecursion (λ frame. frame.name.0 < m) frames → AllByRecursion (λ frame. frame.name.0 < n) frames
frames_grow m n le [] named = tt
frames_grow m n le (frame ∷ frames) named =
    let here = named.0 in
    (omega (arith, here), frames_grow m n le frames named.1)

key_grows : (m n : ℕ) → m ≤ n → (key : Key) → HasNames m key → HasNames n key
key_grows m n le key named =
    let root = named.0 in
    (omega (arith, root), frames_grow m n le key.calls named.1)

pub names_more : (names more : List (List ℕ)) (keys : List Key) → length names ≤ length more → AreNamed names keys → AreNamed more keys
names_more names more keys grown named n key at = key_grows (length names) (length more) grown key (named n key at)

frames_named : (n : ℕ) (frames : List Frame) → AreGiven n (map frame_step frames) → AllByRecursion (λ frame. frame.name.0 < n) frames
frames_named n [] given = tt
frames_named n (frame ∷ frames) given = (given.0, frames_named n frames given.1)

pub opening_named : (n : ℕ) (key : Key) → AreGiven n (opening key) → HasNames n key
opening_named n key given = (given.0, frames_named n key.calls given.1)

pub keys_named : (names : List (List ℕ)) (keys more : List Key) (key : Key) (id : ℕ) → Adds keys more key → length more ≤ length keys + 1 → slice_get more id ≡ Some key
    → AreNamed names keys → HasNames (length names) key → AreNamed names more
keys_named names keys more key id adds one_more there named here n other at =
    elim (cases_lt n (length keys)) [
      | inl within ↦ named n other (still_there keys more n other adds.kept within at)
      | inr past ↦ elim (cases_lt id (length keys)) [
        | inl known ↦
            let same : more ≡ keys = adds.known (contains_at keys id key (still_there keys more id key adds.kept known there)) in
            absurd (omega (arith, ap length same, slice_get_within more n other at, past))
        | inr fresh ↦
            let numbers : id ≡ n = omega (arith, slice_get_within more n other at, slice_get_within more id key there, past, fresh, one_more) in
            subst (HasNames (length names)) (same_Some key other (sym there ∙ ap (slice_get more) numbers ∙ at)) here
      ]
    ]

pub named_each : (names : List (List ℕ)) (keys : List Key) → AreNamed names keys → All (HasNames (length names)) keys
named_each names keys named k d within = named k (get_or keys k d) (slice_get-get_or keys k d within)

pub each_named : (names : List (List ℕ)) (keys : List Key) → All (HasNames (length names)) keys → AreNamed names keys
each_named names keys named n key at =
    let within = slice_get_within keys n key at in
    subst (HasNames (length names)) (get_or_from_slice_get keys n key key at) (named n key within)

-- ---- what items are of

pub items_once : (names : List (List ℕ)) (keys : List Key) (items : List Item) → StandOnce (λ (number : Number). number.what) (map (number_told names keys) items)
    → StandOnce (λ (item : Item). item.what) items
items_once names keys items once i j d less within same =
    let told = number_told names keys in
    let first : get_or (map told items) i (told d) ≡ told (get_or items i d) = get_or-map told items i d (told d) (omega (arith, less, within)) in
    let second : get_or (map told items) j (told d) ≡ told (get_or items j d) = get_or-map told items j d (told d) within in
    once i j (told d) less (omega (arith, within, length-map items told))
    (ap (λ (number : Number). number.what) first ∙ ap (what_told names keys) same ∙ sym (ap (λ (number : Number). number.what) second))
