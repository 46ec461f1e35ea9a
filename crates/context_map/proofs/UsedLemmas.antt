-- Keys that have segments keep up with the keys that are added.
use Rattle.std.proofs.Common.{◌≡◌, ◌⊎◌, ℕ, ◌<◌, ◌≤◌, ◌+◌, List, [], ◌∷◌, ◌++◌, Some, map, length, get_or, sym, ap, subst, ◌∙◌, arith, inl, inr, Result, Ok, Err, OnOk}
use Rattle.std.specs.Prelude.{Contains, IfOk, slice_get}
use Rattle.std.proofs.lemmas.List.{map-append}
use Rattle.std.proofs.lemmas.Option.{slice_get_within, slice_get-get_or, same_Some}
use Rattle.std.proofs.lemmas.List.Elements.{Contains-append_left, Contains-push}
use Rattle.address_spans.proofs.OverlayLemmas.{either}
use Rattle.key_types.specs.declared.ids.KeyId.{KeyId}
use Rattle.key_types.specs.declared.key.Key.{Key}
use Rattle.key_types.specs.declared.places.Seg.{Seg}
use Rattle.key_types.specs.Numbers.{Adds}
use Rattle.key_types.specs.Segments.{HasSegment}
use Rattle.context_map.specs.Parts.{KeepUp}

pub KeepUp-same : (keys : List Key) (segments : List Seg) → KeepUp keys keys segments segments
KeepUp-same keys segments first have = have

pub KeepUp-more : (keys more all : List Key) (segments longer whole : List Seg) → KeepUp keys more segments longer → KeepUp more all longer whole → KeepUp keys all segments whole
KeepUp-more keys more all segments longer whole one two first have = two first (one first have)

key_in : Seg → ℕ
key_in segment = segment.key.0

-- the segment of a key that was given before or is new
pub KeepUp-push : (keys more : List Key) (segments longer : List Seg) (s : Seg) → ((n : ℕ) → n < length more → (n < length keys) ⊎ (n ≡ s.key.0)) → longer ≡ segments ++ s ∷ [] → KeepUp keys more segments longer
unfolding key_in
KeepUp-push keys more segments longer s new pushed first have n from low =
    subst (λ (all : List Seg). HasSegment all n) (sym pushed)
    (subst (λ (ids : List ℕ). Contains ids n) (sym (map-append key_in segments (s ∷ [])))
    (elim (new n low) [
      | inl before ↦ Contains-append_left (map key_in segments) (s.key.0 ∷ []) n (have n from before)
      | inr is ↦ subst (λ (m : ℕ). Contains (map key_in segments ++ s.key.0 ∷ []) m) (sym is) (Contains-push (map key_in segments) s.key.0)
    ]))

-- a key that was added is the one of the last number, or it was there
added_last : (keys more : List Key) (key : Key) (id : ℕ) → Adds keys more key → slice_get more id ≡ Some key → length more ≤ length keys + 1 → (n : ℕ) → n < length more → (n < length keys) ⊎ (n ≡ id)
added_last keys more key id adds is most n low = elim (either n (length keys)) [
  | inl before ↦ inl before
  | inr from ↦ elim (either id (length keys)) [
    | inl known ↦
        let there : slice_get more id ≡ Some (get_or keys id key) = adds.kept id (get_or keys id key) (slice_get-get_or keys id key known) in
        let same : get_or keys id key ≡ key = same_Some (get_or keys id key) key (sym there ∙ is) in
        let none_new : length more ≡ length keys = ap length (adds.known (id, known, same)) in
        absurd (omega (arith, none_new, low, from))
    | inr behind ↦
        let within : id < length more = slice_get_within more id key is in
        inr (omega (arith, within, most, low, from, behind))
  ]
]

pub added_if_ok : {E : Type 0} (keys more : List Key) (key : Key) (r : Result KeyId E) → OnOk r (Adds keys more key) → IfOk r (λ id. slice_get more id.0 ≡ Some key) → length more ≤ length keys + 1
    → IfOk r (λ id. (n : ℕ) → n < length more → (n < length keys) ⊎ (n ≡ id.0))
added_if_ok keys more key (Ok id) adds is most = added_last keys more key id.0 adds is most
added_if_ok keys more key (Err e) adds is most = is
