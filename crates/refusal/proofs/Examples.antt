-- The definitions on worked values.
use Rattle.std.proofs.Common.{◌≡◌, true, false, List, [], ◌∷◌, Option, Some, None, refl}
use Rattle.refusal.specs.declared.kind.Kind.TheVariants.{BadHeader, BadType, FileTooLarge}
use Rattle.refusal.specs.declared.place.Place.{Place}
use Rattle.refusal.specs.Place.{first_bad, fails_at, first_cause, in_binary, size_item}

-- four items, of which the second and the last fail
items : List (Option Place)
items = None ∷ fails_at true (in_binary 16 BadType) ∷ fails_at false (in_binary 54 BadHeader) ∷ fails_at true (in_binary 56 BadHeader) ∷ []

second_of_four : first_bad items ≡ Some (record { file = 1; at = 16; kind = BadType })
unfolding items
second_of_four = refl

all_good : first_bad (None ∷ fails_at false (in_binary 0 BadType) ∷ []) ≡ None
all_good = refl

second_cause : first_cause ((false, BadType) ∷ (true, BadHeader) ∷ (true, BadType) ∷ []) ≡ Some BadHeader
second_cause = refl

no_cause : first_cause ((false, BadType) ∷ []) ≡ None
no_cause = refl

-- a file may have as many bytes as its limit, and no more
at_the_limit : size_item 2 3 (1 ∷ 2 ∷ 3 ∷ []) ≡ None
at_the_limit = refl

past_the_limit : size_item 2 3 (1 ∷ 2 ∷ 3 ∷ 4 ∷ []) ≡ Some (record { file = 2; at = 3; kind = FileTooLarge })
past_the_limit = refl
