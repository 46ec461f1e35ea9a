-- The first attribute of a name on a way that begins with an entry.
use Rattle.std.proofs.Common.{◌≡◌, ℕ, true, false, List, [], ◌∷◌, map, Option, None, Some, refl, sym, ap, ◌∙◌}
use Rattle.std.specs.Prelude.{◌==◌, cond, find}
use Rattle.std.specs.Option.{option_map, option_or}
use Rattle.std.proofs.lemmas.List.Folds.{find-append}
use Rattle.unit_model.specs.Constants.{DW_AT_MIPS_linkage_name, DW_AT_decl_line, DW_AT_linkage_name, DW_AT_name}
use Rattle.unit_model.specs.Values.{Found}
use Rattle.unit_model.specs.Entries.{Entry}
use Rattle.tree_model.specs.Bases.{attribute}
use Rattle.tree_model.specs.Origin.{Held, attributes_on, first_on, held_by}
use Rattle.entry_facts.specs.Meaning.{AreFound, held_of}
use Rattle.entry_facts.specs.declared.findings.Held as code
use Rattle.entry_facts.specs.declared.findings.Findings.{Findings}

-- an attribute with its unit
abbrev pub with_unit : ℕ → Found → Held
with_unit unit found = record { unit = unit; found = found }

find-with_unit : (name unit : ℕ) (found : List Found)
    → find (λ (h : Held). h.found.name == name) (map (with_unit unit) found) ≡ option_map (with_unit unit) (attribute name found)
find-with_unit name unit [] = refl
find-with_unit name unit (f ∷ found) =
    elim (f.name == name) as (λ b. cond b (Some (with_unit unit f)) (find (λ (h : Held). h.found.name == name) (map (with_unit unit) found)) ≡ option_map (with_unit unit) (cond b (Some f) (attribute name found))) [
      | true ↦ refl
      | false ↦ find-with_unit name unit found
    ]

option_or-none : {X : Type 0} (o : Option X) → option_or o None ≡ o
option_or-none None = refl
option_or-none (Some x) = refl

option_map-or : {X Y : Type 0} (f : X → Y) (o p : Option X) → option_map f (option_or o p) ≡ option_or (option_map f o) (option_map f p)
option_map-or f None p = refl
option_map-or f (Some x) p = refl

pub first_on-entry : (name : ℕ) (entry : Entry) (way : List Entry) → first_on name (entry ∷ way) ≡ option_or (option_map (with_unit entry.unit) (attribute name entry.found)) (first_on name way)
first_on-entry name entry way =
    find-append (λ (h : Held). h.found.name == name) (held_by entry) (attributes_on way)
    ∙ ap (λ o. option_or o (first_on name way)) (find-with_unit name entry.unit entry.found)

pub first_on-one : (name : ℕ) (entry : Entry) → first_on name (entry ∷ []) ≡ option_map (with_unit entry.unit) (attribute name entry.found)
first_on-one name entry = first_on-entry name entry [] ∙ option_or-none (option_map (with_unit entry.unit) (attribute name entry.found))

first_on-cons : (name : ℕ) (entry : Entry) (way : List Entry) → first_on name (entry ∷ way) ≡ option_or (first_on name (entry ∷ [])) (first_on name way)
first_on-cons name entry way = first_on-entry name entry way ∙ ap (λ o. option_or o (first_on name way)) (sym (first_on-one name entry))

one : (name : ℕ) (entry : Entry) (way : List Entry) (own rest : Option code.Held) → option_map held_of own ≡ first_on name (entry ∷ []) → option_map held_of rest ≡ first_on name way
    → option_map held_of (option_or own rest) ≡ first_on name (entry ∷ way)
one name entry way own rest o r = option_map-or held_of own rest ∙ ap (λ x. option_or x (option_map held_of rest)) o ∙ ap (option_or (first_on name (entry ∷ []))) r ∙ sym (first_on-cons name entry way)

pub AreFound-before : (entry : Entry) (way : List Entry) (own rest found : Findings) → AreFound (entry ∷ []) own → AreFound way rest
    → found.linkage ≡ option_or own.linkage rest.linkage → found.mips_linkage ≡ option_or own.mips_linkage rest.mips_linkage
    → found.name ≡ option_or own.name rest.name → found.line ≡ option_or own.line rest.line → AreFound (entry ∷ way) found
AreFound-before entry way own rest found o r linkage mips name line = record {
  linkage = ap (option_map held_of) linkage ∙ one DW_AT_linkage_name entry way own.linkage rest.linkage o.linkage r.linkage;
  mips_linkage = ap (option_map held_of) mips ∙ one DW_AT_MIPS_linkage_name entry way own.mips_linkage rest.mips_linkage o.mips_linkage r.mips_linkage;
  name = ap (option_map held_of) name ∙ one DW_AT_name entry way own.name rest.name o.name r.name;
  line = ap (option_map held_of) line ∙ one DW_AT_decl_line entry way own.line rest.line o.line r.line;
}

pub ruleset held_lemmas = (first_on-one)

pub ruleset before_lemmas = (AreFound-before)
