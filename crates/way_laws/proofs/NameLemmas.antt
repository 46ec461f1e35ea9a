-- The names that a program tells are names, and its calls have discriminators of 32 bits.
use Rattle.std.proofs.Common.{◌≡◌, ◌<◌, ◌≤◌, ◌^◌, ℕ, zero, suc, ◌+◌, Bool, true, false, List, [], ◌∷◌, length, Option, None, Some, Result, Ok, Err, refl, arith}
use Rattle.std.specs.Prelude.{⊤, if◌then◌else◌, nat_lt}
use Rattle.std.proofs.lemmas.Bool.Decides.{nat_tests}
use Rattle.std.specs.List.{AllByRecursion, flat_map}
use Rattle.list_lemmas.proofs.Each.{all_append, all_push}
use Rattle.refusal.specs.declared.kind.Kind.TheVariants.{InlineTooDeep}
use Rattle.refusal.specs.declared.place.Place.{Place}
use Rattle.refusal.specs.Place.{in_binary}
use Rattle.profile_model.specs.Names.{is_name}
use Rattle.range_model.specs.Texts.{Sections, text_of}
use Rattle.unit_model.specs.Entries.{Entry}
use Rattle.unit_model.specs.Units.{Units, Unit as InfoUnit}
use Rattle.tree_model.specs.Bases.{at_value, base_address, bases_of_unit}
use Rattle.tree_model.specs.Depths.{calls_on, inlined_into, Standing, way_up}
use Rattle.tree_model.specs.Members.{Told, call_told, function_told, is_call, is_function}
use Rattle.tree_model.specs.Origin.{Held, Origin, as_name, line_on, name_said, naming, origin, said_on, with_line}
use Rattle.tree_model.specs.Pieces.{InUnit, and_then, pieces}
use Rattle.tree_model.specs.Tree.{max_calls, not_too_deep, Source, Tree, call_with, function_with, members, next_call, next_entries, next_entry, next_function, next_unit, next_units, with_call, with_member}
use Rattle.tree_model.specs.Way.{Info, way}
use Rattle.binary_model.specs.Binary.{list_or_none, members_in, members_read, source_of}

-- ---- the names of functions and calls

-- A name, where there is one.
abbrev pub IsNameIfAny : Option (List ℕ) → Type 0
IsNameIfAny None = ⊤
IsNameIfAny (Some name) = is_name name ≡ true

-- What holds of a result, where it is good.
abbrev Of : {X : Type 0} → (X → Type 0) → Result X Place → Type 0
Of P (Ok x) = P x
Of P (Err place) = ⊤

after : {X Y : Type 0} (P : X → Type 0) (Q : Y → Type 0) (r : Result X Place) (next : X → Result Y Place) → Of P r → ((x : X) → P x → Of Q (next x)) → Of Q (and_then r next)
after P Q (Ok x) next holds goes = goes x holds
after P Q (Err place) next holds goes = tt

any : {X : Type 0} (r : Result X Place) → Of (λ _. ⊤) r
any (Ok x) = tt
any (Err place) = tt

chosen : (b : Bool) (name : List ℕ) → is_name name ≡ b → IsNameIfAny (if b then Some name else None)
chosen true name is = is
chosen false name is = tt

named_as_name : (text : Result (List ℕ) Place) → Of IsNameIfAny (as_name text)
named_as_name (Ok text) = chosen (is_name text) text refl
named_as_name (Err place) = tt

named_said : (sections : Sections) (units : Units) (held : Option Held) → Of IsNameIfAny (name_said sections units held)
named_said sections units None = tt
named_said sections units (Some held) = named_as_name (at_value held.found.at (text_of sections (bases_of_unit units held.unit) held.found.value))

named_with_line : (line : ℕ) (name : Result (Option (List ℕ)) Place) → Of IsNameIfAny name → Of (λ (o : Origin). IsNameIfAny o.name) (with_line line name)
named_with_line line (Ok name) clean = clean
named_with_line line (Err place) clean = tt

named_said_on : (sections : Sections) (units : Units) (way : Result (List Entry) Place) → Of (λ (o : Origin). IsNameIfAny o.name) (said_on sections units way)
named_said_on sections units (Ok way) = named_with_line (line_on way) (name_said sections units (naming way)) (named_said sections units (naming way))
named_said_on sections units (Err place) = tt

named_origin : (sections : Sections) (info : Info) (entry : Entry) → Of (λ (o : Origin). IsNameIfAny o.name) (origin sections info entry)
unfolding origin
named_origin sections info entry = named_said_on sections info.units (way info entry)

-- A function or a call that is told: at most 255 calls deep.
abbrev pub IsTold : Told → Type 0
IsTold told = IsNameIfAny told.name × (told.disc < 2 ^ 32) × (told.depth ≤ 255)

abbrev pub AreTold : List Told → Type 0
AreTold = AllByRecursion IsTold

abbrev IsTree : Tree → Type 0
IsTree tree = AllByRecursion AreTold tree.functions

member_added : (number : ℕ) (call : Told) (functions : List (List Told)) → AllByRecursion AreTold functions → IsTold call → AllByRecursion AreTold (with_member number call functions)
member_added number call [] all is = tt
member_added zero call (function ∷ rest) all is = (all_push IsTold function call all.0 is, all.1)
member_added (suc number) call (function ∷ rest) all is = (all.0, member_added number call rest all.1 is)

call_added : (number : Option ℕ) (call : Told) (functions : List (List Told)) → AllByRecursion AreTold functions → IsTold call → AllByRecursion AreTold (with_call number call functions)
call_added None call functions all is = all
call_added (Some number) call functions all is = member_added number call functions all is

function_kept : (source : Source) (entry : Entry) (tree : Tree) (pieces : List (ℕ × ℕ)) → IsTree tree → Of IsTree (function_with source entry tree pieces)
function_kept source entry tree [] kept = kept
function_kept source entry tree (piece ∷ more) kept =
    after (λ (o : Origin). IsNameIfAny o.name) IsTree (origin source.sections.texts source.info entry) _ (named_origin source.sections.texts source.info entry)
    (λ o is. all_push AreTold tree.functions (function_told entry (piece ∷ more) o ∷ []) kept ((is, omega arith, omega arith), tt))

call_kept : (source : Source) (number : Option ℕ) (calls : ℕ) (entry : Entry) (tree : Tree) (pieces : List (ℕ × ℕ)) → calls ≤ 255 → IsTree tree → Of IsTree (call_with source number calls entry tree pieces)
call_kept source number calls entry tree [] few kept = kept
call_kept source number calls entry tree (piece ∷ more) few kept =
    after (λ (o : Origin). IsNameIfAny o.name) IsTree (origin source.sections.texts source.info entry) _ (named_origin source.sections.texts source.info entry)
    (λ o is. call_added number (call_told calls entry (piece ∷ more) o) tree.functions kept (is, omega arith, few))

next_function_kept : (source : Source) (of : InUnit) (entry : Entry) (tree : Tree) → IsTree tree → Of IsTree (next_function source of entry tree)
unfolding next_function
next_function_kept source of entry tree kept =
    after (λ _. ⊤) IsTree (pieces source.file of tree.pieces entry) _ (any (pieces source.file of tree.pieces entry)) (λ ps _. function_kept source entry tree ps kept)

few_calls : (at calls : ℕ) → Of (λ (u : Unit {0}). calls ≤ 255) (not_too_deep at calls)
few_calls at calls = by (nat_lt max_calls calls) refl
  where
    by : (b : Bool) → nat_lt max_calls calls ≡ b → Of (λ (u : Unit {0}). calls ≤ 255) (if b then Err (in_binary at InlineTooDeep) else Ok tt)
    by true e = tt
    by false e = grind (arith, nat_tests)

next_call_kept : (source : Source) (of : InUnit) (before : ℕ) (on : List Standing) (entry : Entry) (tree : Tree) → IsTree tree → Of IsTree (next_call source of before on entry tree)
unfolding next_call
next_call_kept source of before on entry tree kept =
    let calls = length (calls_on on) + 1 in
    let number = inlined_into source.file of before on in
    let found = pieces source.file of tree.pieces entry in
    after (λ (u : Unit {0}). calls ≤ 255) IsTree (not_too_deep entry.at calls) (λ _. and_then found (call_with source number calls entry tree)) (few_calls entry.at calls)
    (λ _ few. after (λ _. ⊤) IsTree found (call_with source number calls entry tree) (any found) (λ ps _. call_kept source number calls entry tree ps few kept))

either_kept : (b : Bool) (one other : Result Tree Place) → Of IsTree one → Of IsTree other → Of IsTree (if b then one else other)
either_kept true one other is also = is
either_kept false one other is also = also

next_entry_kept : (source : Source) (of : InUnit) (before : ℕ) (earlier : List Entry) (entry : Entry) (tree : Tree) → IsTree tree → Of IsTree (next_entry source of before earlier entry tree)
unfolding next_entry
next_entry_kept source of before earlier entry tree kept =
    either_kept (is_function entry) _ _ (next_function_kept source of entry tree kept)
    (either_kept (is_call entry) _ (Ok tree) (next_call_kept source of before (way_up entry.depth earlier) entry tree kept) kept)

next_entries_kept : (source : Source) (of : InUnit) (before : ℕ) (earlier entries : List Entry) (tree : Tree) → IsTree tree → Of IsTree (next_entries source of before earlier entries tree)
next_entries_kept source of before earlier [] tree kept = kept
next_entries_kept source of before earlier (entry ∷ rest) tree kept =
    after IsTree IsTree (next_entry source of before earlier entry tree) _ (next_entry_kept source of before earlier entry tree kept)
    (λ more is. next_entries_kept source of before (entry ∷ earlier) rest more is)

next_unit_kept : (source : Source) (number : ℕ) (unit : InfoUnit) (tree : Tree) → IsTree tree → Of IsTree (next_unit source number unit tree)
unfolding next_unit
next_unit_kept source number unit tree kept =
    after (λ _. ⊤) IsTree (base_address source.sections.texts source.info.units number) _ (any (base_address source.sections.texts source.info.units number))
    (λ base _. next_entries_kept source _ _ [] _ tree kept)

next_units_kept : (source : Source) (number : ℕ) (units : List InfoUnit) (tree : Tree) → IsTree tree → Of IsTree (next_units source number units tree)
next_units_kept source number [] tree kept = kept
next_units_kept source number (unit ∷ rest) tree kept =
    after IsTree IsTree (next_unit source number unit tree) _ (next_unit_kept source number unit tree kept) (λ more is. next_units_kept source (number + 1) rest more is)

flat : (functions : List (List Told)) → AllByRecursion AreTold functions → AreTold (flat_map (λ function. function) functions)
flat [] all = tt
flat (function ∷ functions) all = all_append IsTold function (flat_map (λ f. f) functions) all.0 (flat functions all.1)

members_told : (source : Source) → Of AreTold (members source)
unfolding members
members_told source =
    after IsTree AreTold (next_units source 0 source.info.units.units (record { functions = []; pieces = 0 })) _
    (next_units_kept source 0 source.info.units.units (record { functions = []; pieces = 0 }) tt) (λ tree is. flat tree.functions is)

listed : (r : Result (List Told) Place) → Of AreTold r → AreTold (list_or_none r)
listed (Ok list) all = all
listed (Err place) all = tt

read_told : (file : List ℕ) → Of AreTold (members_read file)
unfolding members_read
read_told file = members_told (source_of file)

pub members_are_told : (file : List ℕ) → AreTold (members_in file)
members_are_told file = listed (members_read file) (read_told file)
