-- Attributes that were read so far.
use Rattle.std.proofs.Common.{◌≡◌, ◌<◌, ◌≤◌, List, [], ◌∷◌, ◌++◌, length, Some, None, Ok, Err, sym, ap, ◌∙◌, arith}
use Rattle.std.proofs.lemmas.List.{append-nil, append_assoc}
use Rattle.byte_view.specs.Cursor.{Cursor}
use Rattle.refusal.specs.declared.place.Place.{Place}
use Rattle.placed_view.proofs.StepLemmas.{GoesOn, GoesOn-start, GoesOn-more, GoesOn-end, GoesOn-bad}
use Rattle.unit_model.specs.Abbrev.{Attr}
use Rattle.unit_model.specs.Table.{attrs, next_attr}

-- Behind the old attributes stand those that were read from the start up to the cursor.
pub record AttrsSoFar (start : Cursor) (old new : List Attr) (cur : Cursor) : Type 0 where
  pub more : List Attr
  pub joined : new ≡ old ++ more
  pub on : GoesOn next_attr (attrs start) more cur
  pub not_longer : length cur.left ≤ length start.left

pub AttrsSoFar-none : (start : Cursor) (old : List Attr) → AttrsSoFar start old old start
unfolding attrs
AttrsSoFar-none start old = record { more = []; joined = sym (append-nil old); on = GoesOn-start next_attr [] start; not_longer = omega arith }

pub AttrsSoFar-more : (start : Cursor) (old new newer : List Attr) (attr : Attr) (cur next : Cursor) → AttrsSoFar start old new cur
    → ((before : List Attr) → next_attr before cur ≡ Ok (Some (before ++ attr ∷ []), next)) → length next.left < length cur.left → newer ≡ new ++ attr ∷ []
    → AttrsSoFar start old newer next
AttrsSoFar-more start old new newer attr cur next so_far read less is = record {
  more = so_far.more ++ attr ∷ [];
  joined = is ∙ ap (λ (xs : List Attr). xs ++ attr ∷ []) so_far.joined ∙ append_assoc old so_far.more (attr ∷ []);
  on = GoesOn-more next_attr _ so_far.more _ cur next so_far.on (read so_far.more) less;
  not_longer = omega (arith, so_far.not_longer, less);
}

pub AttrsSoFar-end : (start : Cursor) (old new : List Attr) (cur next : Cursor) → AttrsSoFar start old new cur → ((before : List Attr) → next_attr before cur ≡ Ok (None, next))
    → (more : List Attr) × (new ≡ old ++ more) × (attrs start ≡ Ok (more, next))
AttrsSoFar-end start old new cur next so_far read =
    (so_far.more, so_far.joined, GoesOn-end next_attr _ so_far.more cur next so_far.on (read so_far.more))

pub AttrsSoFar-bad : (start : Cursor) (old new : List Attr) (cur : Cursor) (place : Place) → AttrsSoFar start old new cur → ((before : List Attr) → next_attr before cur ≡ Err place)
    → attrs start ≡ Err place
AttrsSoFar-bad start old new cur place so_far read = GoesOn-bad next_attr _ so_far.more cur place so_far.on (read so_far.more)
