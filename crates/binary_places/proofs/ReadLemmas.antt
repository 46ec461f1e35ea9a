-- What is read of a binary, part by part, as the definitions name it.
use Rattle.std.proofs.Common.{◌≡◌, ℕ, List, Option, None, Some, Result, Ok, Err, refl, ap, subst, sym, ◌∙◌}
use Rattle.std.specs.Prelude.{map, codes}
use Rattle.std.specs.Option.{option_map, option_map_or}
use Rattle.std.specs.Result.{IsErrAnd}
use Rattle.refusal.specs.declared.place.Place.{Place}
use Rattle.refusal.specs.declared.place.Stop.{Stop}
use Rattle.refusal.specs.declared.place.Stop.TheVariants.{Refused, NoMemory}
use Rattle.refusal.specs.Place.{JudgesUnlessNoMemory, first_bad}
use Rattle.byte_view.specs.declared.part.Part.{Part}
use Rattle.placed_view.specs.Reader.{IsRead, start_of}
use Rattle.elf_model.specs.Items.{lookup_item}
use Rattle.unit_model.specs.Units.{Units}
use Rattle.dwarf_info.specs.Told.{units_told}
use Rattle.dwarf_ranges.specs.Meaning.{range_sections_of}
use Rattle.line_model.specs.Rows.{Sequence, live_sequences}
use Rattle.chain_model.specs.declared.member.Member.{Member}
use Rattle.tree_model.specs.Tree.{Source, members}
use Rattle.inline_tree.specs.Told.{AreTold, IsMadeOf}
use Rattle.binary_model.specs.Sections.{looked_up, range_sections, section_at}
use Rattle.binary_model.specs.LinePrograms.{rows_of_units}
use Rattle.binary_model.specs.Binary.{list_or_none, members_in, members_read, rows_read, source_of, tables_in, units_or_none, units_read}
use Rattle.binary_places.specs.Sections.{AreSections}
use Rattle.binary_places.specs.Tables.{AreTables}
use Rattle.binary_places.specs.declared.sections.Sections.{Sections}
use Rattle.binary_places.proofs.SectionLemmas.{units-are}

-- a refusal is handed on, as a stop
pub refuses : {T : Type 0} (P : T → Type 0) (bad : Option Place) (place : Place) (r : Result T Stop) → bad ≡ Some place → IsErrAnd r (λ s. s ≡ Refused place)
    → JudgesUnlessNoMemory bad r P
refuses P bad place (Ok x) is stops = absurd stops
refuses P bad place (Err NoMemory) is stops = tt
refuses P bad place (Err (Refused other)) is stops = let same : other ≡ place = cc in is ∙ ap (λ p. Some p) (sym same)

-- want of memory is handed on
pub lacks : {T : Type 0} (P : T → Type 0) (bad : Option Place) (r : Result T Stop) → IsErrAnd r (λ s. s ≡ NoMemory) → JudgesUnlessNoMemory bad r P
lacks P bad (Ok x) stops = absurd stops
lacks P bad (Err NoMemory) stops = tt
lacks P bad (Err (Refused other)) stops = absurd (cc)

-- a stop is handed on
pub stops_with : {T U : Type 0} (P : T → Type 0) (Q : U → Type 0) (bad part : Option Place) (why : Stop) (r : Result T Stop)
    → ((place : Place) → part ≡ Some place → bad ≡ Some place) → JudgesUnlessNoMemory {T = U} part (Err why) Q → IsErrAnd r (λ s. s ≡ why) → JudgesUnlessNoMemory bad r P
stops_with P Q bad part why (Ok x) on judged stops = absurd stops
stops_with P Q bad part why (Err NoMemory) on judged stops = tt
stops_with P Q bad part NoMemory (Err (Refused other)) on judged stops = absurd cc
stops_with P Q bad part (Refused place) (Err (Refused other)) on judged stops = let same : other ≡ place = cc in on other (judged ∙ ap (λ p. Some p) (sym same))

module _ (elf file : List ℕ) (same : elf ≡ file) where
  pub found_same : first_bad (map (lookup_item elf) looked_up) ≡ first_bad (map (lookup_item file) looked_up)
  found_same = ap (λ f. first_bad (map (lookup_item f) looked_up)) same

  module _ (sections : Sections) (are : AreSections elf sections) where
    pub units_same : units_told sections.info sections.«abbrev» ≡ units_read file
    units_same = units-are elf sections.info sections.«abbrev» are.info_is are.abbrev_is ∙ ap units_read same

    -- the units that were read
    module _ (told : Units) (read : IsRead (units_told sections.info sections.«abbrev») told) where
      pub told_same : told ≡ units_or_none (units_read file)
      told_same = sym (ap units_or_none read.1) ∙ ap units_or_none units_same

      pub rows_same : rows_of_units (option_map start_of sections.line) told ≡ rows_read file
      unfolding rows_read
      rows_same =
          ap (λ s. rows_of_units s told) (are.line_is.stands ∙ ap (λ f. section_at f (codes ".debug_line")) same)
          ∙ ap (λ u. rows_of_units (section_at file (codes ".debug_line")) u) told_same

      pub tables_same : (tables : List (Option (List Sequence))) → AreTables elf (rows_of_units (option_map start_of sections.line) told) tables → tables ≡ tables_in file
      tables_same tables made =
          made.2 ∙ ap (λ f. map (option_map (live_sequences f)) made.0) same
          ∙ ap (λ rows. map (option_map (live_sequences file)) rows) (sym (ap list_or_none made.1) ∙ ap list_or_none rows_same)

      start-at : (info : Option Part) → option_map_or (λ part. part.at) info 0 ≡ option_map_or (λ cur. cur.at) (option_map start_of info) 0
      start-at None = refl
      start-at (Some part) = refl

      pub source_same : (start : ℕ) → start ≡ option_map_or (λ part. part.at) sections.info 0
          → ◌≡◌ {A = Source} (record { file = elf; sections = range_sections_of sections.ranges; info = record { start = start; units = told } }) (source_of file)
      source_same start is =
          ap (λ f. let s : Source = record { file = f; sections = range_sections_of sections.ranges; info = record { start = start; units = told } } in s) same
          ∙ ap (λ r. let s : Source = record { file = file; sections = r; info = record { start = start; units = told } } in s) (are.ranges_are ∙ ap range_sections same)
          ∙ ap (λ n. let s : Source = record { file = file; sections = range_sections file; info = record { start = n; units = told } } in s)
          (is ∙ start-at sections.info ∙ ap (λ i. option_map_or (λ cur. cur.at) i 0) (are.info_is.stands ∙ ap (λ f. section_at f (codes ".debug_info")) same))
          ∙ ap (λ u. let s : Source = record { file = file; sections = range_sections file; info = record { start = option_map_or (λ cur. cur.at) (section_at file (codes ".debug_info")) 0; units = u } } in s) told_same

  pub members_same : (source : Source) → source ≡ source_of file → members source ≡ members_read file
  unfolding members_read
  members_same source is = ap members is

  pub made_told : (names : List (List ℕ)) (source : Source) (made : List Member) → source ≡ source_of file → IsMadeOf names (members source) made → AreTold names (members_in file) made
  made_told names source made is made_of =
      subst (λ ms. AreTold names ms made) (sym (ap list_or_none made_of.1) ∙ ap list_or_none (members_same source is)) made_of.2
