-- A way by its first step, and what a way says.
use Rattle.std.proofs.Common.{◌≡◌, ℕ, zero, suc, ◌-◌, ◌<◌, List, [], ◌∷◌, Option, None, Some, Ok, Err, refl, ap, subst, sym, ◌∙◌, arith}
use Rattle.std.specs.Prelude.{Result}
use Rattle.std.specs.Option.{option_map, option_map_or, option_or}
use Rattle.refusal.specs.declared.place.Place.{Place}
use Rattle.refusal.specs.declared.kind.Kind.TheVariants.{OriginTooLong}
use Rattle.refusal.specs.Place.{in_binary}
use Rattle.range_model.specs.Texts.{Sections}
use Rattle.unit_model.specs.Constants.{DW_AT_MIPS_linkage_name, DW_AT_decl_line, DW_AT_linkage_name, DW_AT_name}
use Rattle.unit_model.specs.Entries.{Entry}
use Rattle.unit_model.specs.Units.{Units}
use Rattle.tree_model.specs.Bases.{attribute}
use Rattle.tree_model.specs.Way.{Info, entry_beginning_at, going_on, is_passed_over, led_to, max_steps, met, next_by, next_on_way, way, way_from, with_first}
use Rattle.tree_model.specs.Origin.{Origin, first_on, line_on, name_said, naming, number_of, origin, said_on, with_line}
use Rattle.entry_facts.specs.Memo.{LeadsOn, SaysNothing}
use Rattle.entry_facts.proofs.FoundLemmas.{first_on-entry, with_unit}

pub way_from-end : (info : Info) (began steps : ℕ) (entry : Entry) → next_on_way info entry ≡ Ok None → way_from info began steps entry ≡ Ok (entry ∷ [])
way_from-end info began zero entry ends = ap (going_on entry (λ next. Err (in_binary began OriginTooLong))) ends
way_from-end info began (suc steps) entry ends = ap (going_on entry (way_from info began steps)) ends

pub way_from-more : (info : Info) (began steps : ℕ) (entry next : Entry) (others : List Entry) → 0 < steps → next_on_way info entry ≡ Ok (Some next)
    → way_from info began (steps - 1) next ≡ Ok others → way_from info began steps entry ≡ Ok (entry ∷ others)
way_from-more info began zero entry next others some is more = absurd (omega arith)
way_from-more info began (suc steps) entry next others some is more =
    let less : suc steps - 1 ≡ steps = omega arith in
    ap (going_on entry (way_from info began steps)) is
    ∙ ap (with_first entry) (subst (λ n. way_from info began n next ≡ Ok others) less more)

pub said_on-named : (sections : Sections) (units : Units) (way : Result (List Entry) Place) (line : ℕ) (entries : List Entry) (name : Option (List ℕ))
    → way ≡ Ok entries → name_said sections units (naming entries) ≡ Ok name → line ≡ line_on entries
    → said_on sections units way ≡ Ok (record { name = name; line = line })
said_on-named sections units way line entries name way_is said line_is =
    ap (said_on sections units) way_is ∙ ap (with_line (line_on entries)) said ∙ ap (λ n. Ok (record { name = name; line = n })) (sym line_is)

pub said_on-bad_name : (sections : Sections) (units : Units) (way : Result (List Entry) Place) (entries : List Entry) (place : Place)
    → way ≡ Ok entries → name_said sections units (naming entries) ≡ Err place → said_on sections units way ≡ Err place
said_on-bad_name sections units way entries place way_is said = ap (said_on sections units) way_is ∙ ap (with_line (line_on entries)) said

pub origin-is : (sections : Sections) (info : Info) (entry : Entry) (began : ℕ) → began ≡ entry.at
    → origin sections info entry ≡ said_on sections info.units (way_from info began max_steps entry)
unfolding origin way
origin-is sections info entry began here = ap (λ n. said_on sections info.units (way_from info n max_steps entry)) (sym here)

-- ---- entries that say nothing themselves

-- an entry without an attribute of a name leaves it to the rest of the way
first_on-others : (name : ℕ) (entry : Entry) (way : List Entry) → attribute name entry.found ≡ None → first_on name (entry ∷ way) ≡ first_on name way
first_on-others name entry way none = first_on-entry name entry way ∙ ap (λ o. option_or (option_map (with_unit entry.unit) o) (first_on name way)) none

naming-others : (entry : Entry) (way : List Entry) → SaysNothing entry → naming (entry ∷ way) ≡ naming way
naming-others entry way nothing =
    ap (λ o. option_or o (option_or (first_on DW_AT_MIPS_linkage_name (entry ∷ way)) (first_on DW_AT_name (entry ∷ way)))) (first_on-others DW_AT_linkage_name entry way nothing.linkage)
    ∙ ap (λ o. option_or (first_on DW_AT_linkage_name way) (option_or o (first_on DW_AT_name (entry ∷ way)))) (first_on-others DW_AT_MIPS_linkage_name entry way nothing.mips_linkage)
    ∙ ap (λ o. option_or (first_on DW_AT_linkage_name way) (option_or (first_on DW_AT_MIPS_linkage_name way) o)) (first_on-others DW_AT_name entry way nothing.name)

line_on-others : (entry : Entry) (way : List Entry) → SaysNothing entry → line_on (entry ∷ way) ≡ line_on way
line_on-others entry way nothing = ap (λ o. option_map_or (λ held. number_of held.found.value) o 0) (first_on-others DW_AT_decl_line entry way nothing.line)

-- what a way says that begins with such an entry, the rest says
said_on-others : (sections : Sections) (units : Units) (entry : Entry) (way : Result (List Entry) Place) → SaysNothing entry
    → said_on sections units (with_first entry way) ≡ said_on sections units way
said_on-others sections units entry (Ok way) nothing =
    ap (λ l. with_line l (name_said sections units (naming (entry ∷ way)))) (line_on-others entry way nothing)
    ∙ ap (λ n. with_line (line_on way) (name_said sections units n)) (naming-others entry way nothing)
said_on-others sections units entry (Err place) nothing = refl

led : (info : Info) (entry next : Entry) (at : ℕ) → LeadsOn info entry at → entry_beginning_at info.units.entries at ≡ Some next → next_on_way info entry ≡ Ok (Some next)
unfolding next_on_way
led info entry next at leads begins =
    ap (next_by info entry.unit) leads.refers
    ∙ ap (led_to info.units leads.found.at) leads.leads
    ∙ ap (met leads.found.at (is_passed_over info.units.skipped at)) begins

-- the origin of such an entry is what the way from the next one on says
pub origin-others : (sections : Sections) (info : Info) (entry next : Entry) (began at : ℕ) → began ≡ entry.at → LeadsOn info entry at → entry_beginning_at info.units.entries at ≡ Some next
    → origin sections info entry ≡ said_on sections info.units (way_from info began 15 next)
origin-others sections info entry next began at here leads begins =
    origin-is sections info entry began here
    ∙ ap (λ n. said_on sections info.units (going_on entry (way_from info began 15) n)) (led info entry next at leads begins)
    ∙ said_on-others sections info.units entry (way_from info began 15 next) leads.nothing

-- ---- a way that is not refused is the same wherever it began

end_any : (entry : Entry) (place other : Place) (next : Result (Option Entry) Place) (way : List Entry)
    → going_on entry (λ _. Err place) next ≡ Ok way → going_on entry (λ _. Err other) next ≡ Ok way
end_any entry place other (Ok None) way is = is
end_any entry place other (Ok (Some next)) way is = cc
end_any entry place other (Err bad) way is = is

first_any : (entry : Entry) (rest more : Result (List Entry) Place) → ((w : List Entry) → rest ≡ Ok w → more ≡ Ok w)
    → (way : List Entry) → with_first entry rest ≡ Ok way → with_first entry more ≡ Ok way
first_any entry (Ok w) more same way is = ap (with_first entry) (same w refl) ∙ is
first_any entry (Err place) more same way is = cc

step_any : (entry : Entry) (others more : Entry → Result (List Entry) Place) → ((e : Entry) (w : List Entry) → others e ≡ Ok w → more e ≡ Ok w)
    → (next : Result (Option Entry) Place) (way : List Entry) → going_on entry others next ≡ Ok way → going_on entry more next ≡ Ok way
step_any entry others more same (Ok None) way is = is
step_any entry others more same (Ok (Some next)) way is = first_any entry (others next) (more next) (same next) way is
step_any entry others more same (Err place) way is = cc

way_any : (info : Info) (began other steps : ℕ) (entry : Entry) (way : List Entry) → way_from info began steps entry ≡ Ok way → way_from info other steps entry ≡ Ok way
way_any info began other zero entry way is = end_any entry (in_binary began OriginTooLong) (in_binary other OriginTooLong) (next_on_way info entry) way is
way_any info began other (suc steps) entry way is =
    step_any entry (way_from info began steps) (way_from info other steps) (way_any info began other steps) (next_on_way info entry) way is

said_on_same : (sections : Sections) (units : Units) (way more : Result (List Entry) Place) (told : Origin) → ((w : List Entry) → way ≡ Ok w → more ≡ Ok w)
    → said_on sections units way ≡ Ok told → said_on sections units more ≡ Ok told
said_on_same sections units (Ok w) more told same is = ap (said_on sections units) (same w refl) ∙ is
said_on_same sections units (Err place) more told same is = cc

pub said_any : (sections : Sections) (info : Info) (began other steps : ℕ) (entry : Entry) (told : Origin)
    → said_on sections info.units (way_from info began steps entry) ≡ Ok told → said_on sections info.units (way_from info other steps entry) ≡ Ok told
said_any sections info began other steps entry told is =
    said_on_same sections info.units (way_from info began steps entry) (way_from info other steps entry) told (way_any info began other steps entry) is
