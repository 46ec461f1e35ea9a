-- Names and keys that a map tells were given numbers.
use Rattle.std.proofs.Common.{◌≡◌, ℕ, ◌<◌, ◌+◌, ◌-◌, ◌^◌, suc, Bool, true, false, cond, List, [], ◌∷◌, length, get_or, Option, None, Some, refl, sym, ap, subst, ◌∙◌, arith, inl, inr}
use Rattle.std.specs.Prelude.{find, slice_get, option_and_then, if◌then◌else◌}
use Rattle.std.specs.Option.{option_map}
use Rattle.std.specs.List.{All, AllByRecursion, enumerate_from}
use Rattle.std.proofs.lemmas.Bool.{cases_Bool}
use Rattle.std.proofs.lemmas.Option.{slice_get_within, slice_get-get_or, same_Some}
use Rattle.key_types.specs.declared.ids.KeyId.{KeyId}
use Rattle.key_types.specs.declared.ids.NameId.{NameId}
use Rattle.key_types.specs.declared.key.Frame.{Frame}
use Rattle.key_types.specs.declared.key.Key.{Key}
use Rattle.key_types.specs.declared.places.Where.{Where}
use Rattle.key_types.specs.declared.places.Where.TheVariants.{At, NoLine, Nameless, Outside}
use Rattle.chain_model.specs.declared.member.Member.{Member}
use Rattle.chain_model.specs.Chains.{function_of, holds_at}
use Rattle.chain_model.specs.Places.{is_entered_at}
use Rattle.tree_model.specs.Members.{Told}
use Rattle.entry_facts.specs.Meaning.{IsNumberOf}
use Rattle.inline_tree.specs.Told.{AreTold}
use Rattle.key_types.specs.Segments.{key_told}
use Rattle.span_cover.specs.Stretches as stretches
use Rattle.address_spans.specs.Spans.{owner_at}
use Rattle.context_map.specs.Maps.{place_by, place_told}
use Rattle.profile_tree.specs.Known.{HasNames}
use Rattle.binary_model.specs.Places.{Place, at_way, nameless, no_line, outside, place_of_address}
use Rattle.binary_places.specs.Binary.{IsGiven, IsPlaced, TellsNamed, asks_in}
use Rattle.binary_places.specs.declared.binary.Placed.{Placed}
use Rattle.binary_places.proofs.ShownLemmas.{places_shown}
use Rattle.profile_maker.specs.MapLaws.{EntriesAreGiven, KeysHaveNames, PlacesAreGiven}
use Rattle.profile_maker.proofs.SegmentLemmas.{address_of_key, nothing_at}

-- ---- keys of addresses

-- the key that an answer has is that of a number, with its names
pub record IsKnown (names : List (List ℕ)) (keys : List Key) (id : KeyId) : Type 0 where
  pub key : Key
  pub at_number : slice_get keys id.0 ≡ Some key
  pub given : IsGiven names key

same_id : (i j : KeyId) → At i ≡ At j → i ≡ j
same_id i j is = cc

known : (names : List (List ℕ)) (keys : List Key) (place : Place) (answer : Where) (id : KeyId) → TellsNamed names keys place answer → answer ≡ At id → IsKnown names keys id
known names keys outside answer id shows is = absurd (let e : Outside ≡ At id = sym shows ∙ is in cc)
known names keys nameless answer id shows is = absurd (let e : Nameless ≡ At id = sym shows ∙ is in cc)
known names keys no_line answer id shows is = absurd (let e : NoLine ≡ At id = sym shows ∙ is in cc)
known names keys (at_way way) answer id shows is =
    subst (IsKnown names keys) (same_id shows.0 id (sym shows.1 ∙ is)) (record { key = shows.2.key; at_number = shows.2.at_number; given = shows.2.given })

no_place : (id : KeyId) (function span : Option ℕ) → place_by None function span ≡ At id → ⊥
no_place id None span is = cc
no_place id (Some f) None is = cc
no_place id (Some f) (Some s) is = cc

-- an address whose place has a key was asked for
asked_place : (file : List ℕ) (base : Bool) (marks : List Bool) (placed : Placed) → IsPlaced file base marks placed → (address : ℕ) (id : KeyId)
    → place_told placed.map address ≡ At id → asks_in file marks address ≡ true
asked_place file base marks placed is address id at = elim (cases_Bool (asks_in file marks address)) [
  | inl asked ↦ asked
  | inr other ↦
      let function = stretches.function_at placed.map.stretches address in
      let span = owner_at placed.map.nameless address in
      absurd (no_place id function span (sym (ap (λ key. place_by key function span) (nothing_at file base marks placed is address other)) ∙ at))
]

known_at : (file : List ℕ) (base : Bool) (marks : List Bool) (placed : Placed) → IsPlaced file base marks placed → (address : ℕ) (id : KeyId)
    → place_told placed.map address ≡ At id → IsKnown placed.names placed.keys id
known_at file base marks placed is address id at =
    known placed.names placed.keys (place_of_address file base address) (place_told placed.map address) id
    (places_shown file base marks placed is address (asked_place file base marks placed is address id at)) at

pub places_are_given : PlacesAreGiven
places_are_given file base marks placed is address id at =
    let k = known_at file base marks placed is address id at in
    slice_get_within placed.keys id.0 k.key k.at_number

-- ---- names of keys

each : {X : Type 0} (P : X → Type 0) (xs : List X) → All P xs → AllByRecursion P xs
each P [] all = tt
each P (x ∷ xs) all = (all 0 x (omega arith), each P xs (λ k d low. all (suc k) d (omega (arith, low))))

pub keys_have_names : KeysHaveNames
keys_have_names file base marks placed is n d low =
    let holds = address_of_key n 0 (2 ^ 64 - 1) placed.map.segments is.map.ascend (is.used n (omega arith) low) in
    let told_key : key_told placed.map.segments holds.at ≡ Some holds.segment.key = ap (option_map (λ segment. segment.key)) holds.is in
    let at : place_told placed.map holds.at ≡ At holds.segment.key =
    ap (λ o. place_by o (stretches.function_at placed.map.stretches holds.at) (owner_at placed.map.nameless holds.at)) told_key in
    let k = known_at file base marks placed is holds.at holds.segment.key at in
    let same : k.key ≡ get_or placed.keys n d =
    same_Some k.key (get_or placed.keys n d) (sym k.at_number ∙ ap (slice_get placed.keys) holds.key_is ∙ slice_get-get_or placed.keys n d low) in
    subst (HasNames (length placed.names)) same (k.given.root, each (λ (call : Frame). call.name.0 < length placed.names) k.key.calls k.given.calls)

-- ---- names of members

NameFits : List (List ℕ) → Member → Type 0
NameFits names member = (name : NameId) → member.name ≡ Some name → name.0 < length names

fits : (names : List (List ℕ)) (told : Option (List ℕ)) (name : Option NameId) → IsNumberOf names told name → (id : NameId) → name ≡ Some id → id.0 < length names
fits names None None is id e = absurd (cc)
fits names (Some x) None is id e = absurd (cc)
fits names None (Some number) is id e = absurd (let s = is.0 in cc)
fits names (Some x) (Some number) is id e = let same : number ≡ id = cc in subst (λ (i : NameId). i.0 < length names) same (slice_get_within names number.0 x is.1)

all_fit : (names : List (List ℕ)) (tolds : List Told) (members : List Member) → AreTold names tolds members → AllByRecursion (NameFits names) members
unfolding NameFits
all_fit names [] [] are = tt
all_fit names [] (m ∷ members) are = absurd are
all_fit names (t ∷ tolds) [] are = absurd are
all_fit names (t ∷ tolds) (m ∷ members) are = (λ id e. fits names t.name m.name are.0.name_is id e, all_fit names tolds members are.1)

found_first : (names : List (List ℕ)) (b : Bool) (p m : ℕ × Member) (rest : Option (ℕ × Member)) → NameFits names p.1 → (rest ≡ Some m → NameFits names m.1) → cond b (Some p) rest ≡ Some m → NameFits names m.1
found_first names true p m rest fits more is = let same : p ≡ m = cc in subst (λ (q : ℕ × Member). NameFits names q.1) same fits
found_first names false p m rest fits more is = more is

found_fits : (names : List (List ℕ)) (test : ℕ × Member → Bool) (n : ℕ) (members : List Member) → AllByRecursion (NameFits names) members → (m : ℕ × Member) → find test (enumerate_from n members) ≡ Some m → NameFits names m.1
found_fits names test n [] all m is = absurd (cc)
found_fits names test n (x ∷ members) all m is =
    found_first names (test (n, x)) (n, x) m (find test (enumerate_from (n + 1) members)) all.0 (λ there. found_fits names test (n + 1) members all.1 m there) is

entered_name : (names : List (List ℕ)) (function : Option (ℕ × Member)) (address : ℕ) (name : NameId)
    → ((m : ℕ × Member) → function ≡ Some m → NameFits names m.1)
    → option_and_then (λ (f : ℕ × Member). if is_entered_at address f.1.pieces then f.1.name else None) function ≡ Some name → name.0 < length names
unfolding NameFits
entered_name names None address name all is = absurd (cc)
entered_name names (Some m) address name all is = by (is_entered_at address m.1.pieces) is
  where
    by : (b : Bool) → (if b then m.1.name else None) ≡ Some name → name.0 < length names
    by true e = all m refl name e
    by false e = absurd (cc)

pub entries_are_given : EntriesAreGiven
entries_are_given file base marks placed is address name at =
    entered_name placed.names (function_of is.members address) address name
    (λ m found. found_fits placed.names (λ member. holds_at 0 address member.1) 0 is.members (all_fit placed.names _ is.members is.told) m found)
    (sym (is.map.entry address) ∙ at)
