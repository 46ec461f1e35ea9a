-- The items of a binary by its parts.
use Rattle.std.proofs.Common.{◌≡◌, ◌≤◌, ℕ, List, ◌∷◌, [], ◌++◌, length, Option, None, Some, refl, ap, ◌∙◌}
use Rattle.std.specs.Prelude.{map}
use Rattle.std.specs.Option.{option_or}
use Rattle.std.specs.Result.{result_err}
use Rattle.std.proofs.lemmas.Bool.{le-ltb}
use Rattle.refusal.specs.declared.kind.Kind.TheVariants.{FileTooLarge}
use Rattle.refusal.specs.declared.place.Place.{Place}
use Rattle.refusal.specs.Place.{first_bad, fails_at, size_item}
use Rattle.refusal.proofs.PlaceLemmas.{first_bad-append}
use Rattle.placed_view.specs.Reader.{refused_at}
use Rattle.elf_model.specs.Items.{items, lookup_item}
use Rattle.binary_model.specs.Sections.{looked_up}
use Rattle.binary_model.specs.Binary.{first_bad_of_binary, max_binary_bytes, members_read, rows_read, units_read}

-- a file of at most so many bytes passes its size
passes-size : (file : List ℕ) → length file ≤ max_binary_bytes → size_item 1 max_binary_bytes file ≡ None
passes-size file small =
    ap (λ b. fails_at b (record { file = 1; at = max_binary_bytes; kind = FileTooLarge })) (le-ltb max_binary_bytes (length file) small)

three : (a b c : Option Place) → first_bad (a ∷ b ∷ c ∷ []) ≡ option_or a (option_or b c)
three None None None = refl
three None None (Some c) = refl
three None (Some b) c = refl
three (Some a) b c = refl

pub first_bad_by_parts : (file : List ℕ) → length file ≤ max_binary_bytes → first_bad_of_binary file
    ≡ option_or (option_or (first_bad (items file)) (first_bad (map (lookup_item file) looked_up)))
    (option_or (refused_at (units_read file)) (option_or (result_err (rows_read file)) (result_err (members_read file))))
unfolding first_bad_of_binary
first_bad_by_parts file small =
    let last = refused_at (units_read file) ∷ result_err (rows_read file) ∷ result_err (members_read file) ∷ [] in
    let found = map (lookup_item file) looked_up in
    ap (λ item. first_bad (item ∷ (items file ++ found ++ last))) (passes-size file small)
    ∙ first_bad-append (items file ++ found) last
    ∙ ap (λ x. option_or x (first_bad last)) (first_bad-append (items file) found)
    ∙ ap (λ x. option_or (option_or (first_bad (items file)) (first_bad found)) x) (three (refused_at (units_read file)) (result_err (rows_read file)) (result_err (members_read file)))

-- ---- the first bad place, by the part that has it

module _ (file : List ℕ) (small : length file ≤ max_binary_bytes) where
  abbrev headers : Option Place
  headers = first_bad (items file)

  abbrev found : Option Place
  found = first_bad (map (lookup_item file) looked_up)

  abbrev told : Option Place
  told = refused_at (units_read file)

  abbrev rows : Option Place
  rows = result_err (rows_read file)

  abbrev members : Option Place
  members = result_err (members_read file)

  pub in_headers : (place : Place) → headers ≡ Some place → first_bad_of_binary file ≡ Some place
  in_headers place is =
      first_bad_by_parts file small ∙ ap (λ h. option_or (option_or h found) (option_or told (option_or rows members))) is

  pub in_sections : (place : Place) → headers ≡ None → found ≡ Some place → first_bad_of_binary file ≡ Some place
  in_sections place h is =
      first_bad_by_parts file small ∙ ap (λ h. option_or (option_or h found) (option_or told (option_or rows members))) h
      ∙ ap (λ f. option_or (option_or None f) (option_or told (option_or rows members))) is

  behind_sections : headers ≡ None → found ≡ None → first_bad_of_binary file ≡ option_or told (option_or rows members)
  behind_sections h f =
      first_bad_by_parts file small ∙ ap (λ h. option_or (option_or h found) (option_or told (option_or rows members))) h
      ∙ ap (λ f. option_or (option_or None f) (option_or told (option_or rows members))) f

  pub in_units : (place : Place) → headers ≡ None → found ≡ None → told ≡ Some place → first_bad_of_binary file ≡ Some place
  in_units place h f is = behind_sections h f ∙ ap (λ u. option_or u (option_or rows members)) is

  behind_units : headers ≡ None → found ≡ None → told ≡ None → first_bad_of_binary file ≡ option_or rows members
  behind_units h f u = behind_sections h f ∙ ap (λ u. option_or u (option_or rows members)) u

  pub in_rows : (place : Place) → headers ≡ None → found ≡ None → told ≡ None → rows ≡ Some place → first_bad_of_binary file ≡ Some place
  in_rows place h f u is = behind_units h f u ∙ ap (λ r. option_or r members) is

  pub in_members : headers ≡ None → found ≡ None → told ≡ None → rows ≡ None → first_bad_of_binary file ≡ members
  in_members h f u r = behind_units h f u ∙ ap (λ r. option_or r members) r
