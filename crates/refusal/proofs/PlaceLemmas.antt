-- The first bad place of lists of items, one behind the other.
use Rattle.std.proofs.Common.{◌≡◌, Bool, true, false, List, [], ◌∷◌, ◌++◌, Option, None, Some, refl}
use Rattle.std.specs.Option.{option_or}
use Rattle.refusal.specs.declared.place.Place.{Place}
use Rattle.refusal.specs.Place.{fails_at, first_bad}

pub first_bad-append : (items more : List (Option Place)) → first_bad (items ++ more) ≡ option_or (first_bad items) (first_bad more)
first_bad-append [] more = refl
first_bad-append (None ∷ items) more = first_bad-append items more
first_bad-append (Some place ∷ items) more = refl

pub first_bad-cons : (item : Option Place) (items : List (Option Place)) → first_bad (item ∷ items) ≡ option_or item (first_bad items)
first_bad-cons None items = refl
first_bad-cons (Some place) items = refl

pub first_bad-none : (item : Option Place) (items : List (Option Place)) → first_bad (item ∷ items) ≡ None → (item ≡ None) × (first_bad items ≡ None)
first_bad-none None items is = (refl, is)
first_bad-none (Some place) items is = absurd cc

pub fails_at-none : (cause : Bool) (place : Place) → fails_at cause place ≡ None → cause ≡ false
fails_at-none true place is = absurd cc
fails_at-none false place is = refl

-- where neither tells a place there is none
pub option_or-none : {X : Type 0} (x y : Option X) → option_or x y ≡ None → (x ≡ None) × (y ≡ None)
option_or-none None y is = (refl, is)
option_or-none (Some x) y is = absurd cc
