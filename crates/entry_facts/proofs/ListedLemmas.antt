-- Attributes on a way whose entries were found by the offsets at which they begin.
use Rattle.std.proofs.Common.{◌≡◌, ℕ, Bool, true, false, List, [], ◌∷◌, Option, None, Some, Ok, cond, IfSome, refl, sym, ap, subst, ◌∙◌}
use Rattle.std.specs.Prelude.{◌==◌, find}
use Rattle.std.specs.Option.{option_map, option_or, option_to_list}
use Rattle.std.proofs.lemmas.Bool.{eqb-true}
use Rattle.unit_model.specs.Entries.{Entry}
use Rattle.unit_model.specs.Units.{Units}
use Rattle.unit_model.specs.Values.{Found}
use Rattle.tree_model.specs.Bases.{attribute}
use Rattle.tree_model.specs.Way.{Info, entry_beginning_at, is_passed_over, led_to, met, next_by, next_on_way, reference_of, target_of}
use Rattle.tree_model.specs.Origin.{first_on}
use Rattle.entry_facts.specs.Listed.{AreListed, IsListed}
use Rattle.entry_facts.specs.declared.findings.Findings.{Findings}
use Rattle.entry_facts.specs.declared.findings.Held.{Held}
use Rattle.entry_facts.proofs.FoundLemmas.{first_on-one, with_unit}

-- ---- what is found passes its test

holds_step : {X : Type 0} (p : X → Bool) (y x : X) (rest : Option X) (b : Bool) → p y ≡ b → (rest ≡ Some x → p x ≡ true) → cond b (Some y) rest ≡ Some x → p x ≡ true
holds_step p y x rest true is more here = let same : y ≡ x = cc in subst (λ z. p z ≡ true) same is
holds_step p y x rest false is more here = more here

find_holds : {X : Type 0} (p : X → Bool) (xs : List X) (x : X) → find p xs ≡ Some x → p x ≡ true
find_holds p [] x here = absurd cc
find_holds p (y ∷ ys) x here = holds_step p y x (find p ys) (p y) refl (find_holds p ys x) here

-- an entry that was found by an offset begins there
begins_itself : (entries : List Entry) (at : ℕ) (entry : Entry) → entry_beginning_at entries at ≡ Some entry → entry_beginning_at entries entry.at ≡ Some entry
begins_itself entries at entry here =
    let same : entry.at ≡ at = eqb-true entry.at at (find_holds (λ (e : Entry). e.at == at) entries entry here) in
    subst (λ n. entry_beginning_at entries n ≡ Some entry) (sym same) here

-- ---- the next entry on a way is found by its offset

met_entry : (place : ℕ) (passed : Bool) (o : Option Entry) (next : Entry) → met place passed o ≡ Ok (Some next) → o ≡ Some next
met_entry place passed (Some entry) next is = cc
met_entry place true None next is = absurd cc
met_entry place false None next is = absurd cc

by_target : (units : Units) (place : ℕ) (target : Option ℕ) (next : Entry) → led_to units place target ≡ Ok (Some next) → entry_beginning_at units.entries next.at ≡ Some next
by_target units place None next is = absurd cc
by_target units place (Some at) next is =
    begins_itself units.entries at next (met_entry place (is_passed_over units.skipped at) (entry_beginning_at units.entries at) next is)

by_reference : (info : Info) (unit : ℕ) (found : Option Found) (next : Entry) → next_by info unit found ≡ Ok (Some next) → entry_beginning_at info.units.entries next.at ≡ Some next
by_reference info unit None next is = absurd cc
by_reference info unit (Some found) next is = by_target info.units found.at (target_of info unit found.value) next is

pub next_begins : (info : Info) (entry next : Entry) → next_on_way info entry ≡ Ok (Some next) → entry_beginning_at info.units.entries next.at ≡ Some next
unfolding next_on_way
next_begins info entry next is = by_reference info entry.unit (reference_of entry) next is

-- ---- attributes of such entries

first_there : (units : Units) (entry : Entry) (name at : ℕ) (found : Found) → attribute name entry.found ≡ Some found → entry_beginning_at units.entries at ≡ Some entry
    → first_on found.name (option_to_list (entry_beginning_at units.entries at)) ≡ Some (with_unit entry.unit found)
first_there units entry name at found is begins =
    let same : found.name ≡ name = eqb-true found.name name (find_holds (λ (f : Found). f.name == name) entry.found found is) in
    ap (λ (o : Option Entry). first_on found.name (option_to_list o)) begins
    ∙ first_on-one found.name entry
    ∙ ap (option_map (with_unit entry.unit)) (ap (λ n. attribute n entry.found) same ∙ is)

-- an attribute of an entry is the first one of its name there
pub listed_held : (units : Units) (entry seen : Entry) (name at : ℕ) (found held : Found) → attribute name seen.found ≡ Some found → entry_beginning_at units.entries at ≡ Some entry
    → seen ≡ entry → held ≡ found → first_on held.name (option_to_list (entry_beginning_at units.entries at)) ≡ Some (with_unit seen.unit held)
listed_held units entry seen name at found held is begins same_entry same =
    subst (λ (f : Found). first_on f.name (option_to_list (entry_beginning_at units.entries at)) ≡ Some (with_unit seen.unit f)) (sym same)
    (first_there units seen name at found is (begins ∙ ap Some (sym same_entry)))

pub IfSome-all : {X : Type 0} (P Q : X → Type 0) (o : Option X) → ((x : X) → P x → Q x) → IfSome o P → IfSome o Q
IfSome-all P Q None all is = is
IfSome-all P Q (Some x) all is = all x is

IfSome-or : {X : Type 0} (P : X → Type 0) (a b : Option X) → IfSome a P → IfSome b P → IfSome (option_or a b) P
IfSome-or P None b one two = two
IfSome-or P (Some x) b one two = one

or_listed : (units : Units) (a b o : Option Held) → IfSome a (IsListed units) → IfSome b (IsListed units) → o ≡ option_or a b → IfSome o (IsListed units)
or_listed units a b o one two is = subst (λ (x : Option Held). IfSome x (IsListed units)) (sym is) (IfSome-or (IsListed units) a b one two)

pub AreListed-before : (units : Units) (own rest found : Findings) → AreListed units own → AreListed units rest
    → found.linkage ≡ option_or own.linkage rest.linkage → found.mips_linkage ≡ option_or own.mips_linkage rest.mips_linkage → found.name ≡ option_or own.name rest.name
    → AreListed units found
AreListed-before units own rest found o r linkage mips name = record {
  linkage = or_listed units own.linkage rest.linkage found.linkage o.linkage r.linkage linkage;
  mips_linkage = or_listed units own.mips_linkage rest.mips_linkage found.mips_linkage o.mips_linkage r.mips_linkage mips;
  name = or_listed units own.name rest.name found.name o.name r.name name;
}
