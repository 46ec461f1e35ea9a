-- What stands in parts of lists.
use Rattle.std.proofs.Common.{◌≡◌, List, [], ◌∷◌, ◌++◌, refl, sym, ap, ◌∙◌, inl, inr}
use Rattle.std.specs.List.{flat_map}
use Rattle.std.proofs.lemmas.List.Concat.{flat_map-append}
use Rattle.profile_text.specs.Draft.{IsOneOf}
pub use Rattle.list_lemmas.proofs.Among.{among_flat, among_flat_back}
pub use Rattle.profile_tree.proofs.ListLemmas.{Among, all_append, all_among, among_all, among_either, among_filter, among_filter_back, among_left, among_map, among_map_back, among_permuted, among_range, among_right, kept_among, kept_from, range_among}
pub use Rattle.line_lift.proofs.PartLemmas.{all_front, all_back, all_taken}

pub one_among : {T : Type 0} (x : T) (xs : List T) → IsOneOf x xs → Among x xs
one_among x [] h = h
one_among x (y ∷ xs) h = elim h as (λ _. Among x (y ∷ xs)) [ inl e ↦ inl e | inr r ↦ inr (one_among x xs r) ]

pub among_one : {T : Type 0} (x : T) (xs : List T) → Among x xs → IsOneOf x xs
among_one x [] h = h
among_one x (y ∷ xs) h = elim h as (λ _. IsOneOf x (y ∷ xs)) [ inl e ↦ inl e | inr r ↦ inr (among_one x xs r) ]

-- parts of parts
pub flat_flat : {R S T : Type 0} (f : R → List S) (g : S → List T) (xs : List R) → flat_map (λ x. flat_map g (f x)) xs ≡ flat_map g (flat_map f xs)
flat_flat f g [] = refl
flat_flat f g (x ∷ xs) = ap (λ ys. flat_map g (f x) ++ ys) (flat_flat f g xs) ∙ sym (flat_map-append g (f x) (flat_map f xs))
