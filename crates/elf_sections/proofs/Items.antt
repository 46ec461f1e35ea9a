-- The items of a file by its parts.
use Rattle.std.proofs.Common.{◌≡◌, ℕ, List, ◌++◌, ap, ◌∙◌}
use Rattle.std.specs.List.{flat_map}
use Rattle.std.specs.Option.{option_or}
use Rattle.refusal.specs.Place.{first_bad}
use Rattle.refusal.proofs.PlaceLemmas.{first_bad-append, first_bad-cons}
use Rattle.elf_model.specs.Sections.{sections}
use Rattle.elf_model.specs.Items.{items, items_of, identity_items, program_table_items, section_table_items, section_items, name_table_item}

pub first_bad_items : (file : List ℕ) → first_bad (items file)
    ≡ option_or (option_or (option_or (first_bad (identity_items file)) (first_bad (program_table_items file))) (first_bad (section_table_items file)))
    (option_or (name_table_item file) (first_bad (flat_map (items_of file) (sections file))))
unfolding items
first_bad_items file =
    first_bad-append (identity_items file ++ program_table_items file ++ section_table_items file) (section_items file)
    ∙ ap (λ x. option_or x (first_bad (section_items file))) (first_bad-append (identity_items file ++ program_table_items file) (section_table_items file))
    ∙ ap (λ x. option_or (option_or x (first_bad (section_table_items file))) (first_bad (section_items file))) (first_bad-append (identity_items file) (program_table_items file))
    ∙ ap (λ x. option_or (option_or (option_or (first_bad (identity_items file)) (first_bad (program_table_items file))) (first_bad (section_table_items file))) x)
    (first_bad-cons (name_table_item file) (flat_map (items_of file) (sections file)))
