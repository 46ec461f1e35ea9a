-- Numbers that items tell, with one item more.
use Rattle.std.proofs.Common.{◌≡◌, ℕ, ◌≤◌, List, [], ◌∷◌, ◌++◌, length, ap, arith, ◌∙◌}
use Rattle.std.specs.List.{AllByRecursion}
use Rattle.std.proofs.lemmas.List.{map-append}
use Rattle.key_types.specs.declared.key.Key.{Key}
use Rattle.profile_model.specs.Spelled.{Number}
use Rattle.profile_text.proofs.OpenLemmas.{kept_on}
use Rattle.profile_text.specs.Draft.{Kept, TellNumbers, IsGivenItem, IsGivenWhat, number_told}
use Rattle.profile_text.specs.declared.item.Item.{Item}
use Rattle.profile_text.specs.declared.item.What.{What}
use Rattle.profile_text.specs.declared.item.What.TheVariants.{Head, Count, Target}

pub what_grows : (m n k l : ℕ) → m ≤ n → k ≤ l → (what : What) → IsGivenWhat m k what → IsGivenWhat n l what
what_grows m n k l mn kl (Head name) given = omega (arith, given)
what_grows m n k l mn kl (Count key) given = omega (arith, given)
what_grows m n k l mn kl (Target key name) given =
    let key_given = given.0 in
    let name_given = given.1 in
    (omega (arith, key_given), omega (arith, name_given))

pub items_grow : (m n k l : ℕ) → m ≤ n → k ≤ l → (items : List Item) → AllByRecursion (IsGivenItem m k) items → AllByRecursion (IsGivenItem n l) items
items_grow m n k l mn kl [] given = tt
items_grow m n k l mn kl (item ∷ items) given = (what_grows m n k l mn kl item.what given.0, items_grow m n k l mn kl items given.1)

pub item_more : (n k : ℕ) (items : List Item) (item : Item) → AllByRecursion (IsGivenItem n k) items → IsGivenItem n k item
    → AllByRecursion (IsGivenItem n k) (items ++ item ∷ [])
item_more n k [] item given last = (last, tt)
item_more n k (first ∷ items) item given last = (given.0, item_more n k items item given.1 last)

pub told_more : (names more : List (List ℕ)) (keys more_keys : List Key) (items : List Item) (numbers : List Number) (item : Item) (number : Number)
    → TellNumbers names keys items numbers → Kept names more → length names ≤ length more → Kept keys more_keys → length keys ≤ length more_keys
    → IsGivenItem (length more) (length more_keys) item
    → ((last : List (List ℕ)) (last_keys : List Key) → Kept more last → Kept more_keys last_keys → number_told last last_keys item ≡ number)
    → TellNumbers more more_keys (items ++ item ∷ []) (numbers ++ number ∷ [])
told_more names more keys more_keys items numbers item number told kept grown keys_kept keys_grown given tells = record {
  given = item_more (length more) (length more_keys) items item
      (items_grow (length names) (length more) (length keys) (length more_keys) grown keys_grown items told.given) given;
  tell = λ last last_keys names_last keys_last.
      map-append (number_told last last_keys) items (item ∷ [])
      ∙ ap (λ ns. ns ++ number_told last last_keys item ∷ []) (told.tell last last_keys (kept_on names more last kept names_last) (kept_on keys more_keys last_keys keys_kept keys_last))
      ∙ ap (λ n. numbers ++ n ∷ []) (tells last last_keys names_last keys_last);
}

pub told_grow : (names more : List (List ℕ)) (keys more_keys : List Key) (items : List Item) (numbers : List Number)
    → TellNumbers names keys items numbers → Kept names more → length names ≤ length more → Kept keys more_keys → length keys ≤ length more_keys
    → TellNumbers more more_keys items numbers
told_grow names more keys more_keys items numbers told kept grown keys_kept keys_grown = record {
  given = items_grow (length names) (length more) (length keys) (length more_keys) grown keys_grown items told.given;
  tell = λ last last_keys names_last keys_last.
      told.tell last last_keys (kept_on names more last kept names_last) (kept_on keys more_keys last_keys keys_kept keys_last);
}
