-- Entries one behind the other, and units.
use Rattle.std.proofs.Common.{◌≡◌, ◌<◌, ◌≤◌, ◌+◌, ℕ, suc, List, [], ◌∷◌, length, take, drop, None, Some, Result, Ok, Err, refl, sym, ap, subst, ◌∙◌, add-one, drop-cons, get_or, arith}
use Rattle.std.specs.Prelude.{slice_get, sum_by}
use Rattle.std.specs.List.{AllZip, flat_map}
use Rattle.std.proofs.lemmas.List.{drop_all, length-take}
use Rattle.std.proofs.lemmas.List.Sums.{sum_by-cons}
use Rattle.std.specs.Result.{IsErrAnd, result_err}
use Rattle.refusal.specs.declared.place.Place.{Place}
use Rattle.refusal.specs.declared.place.Stop.{Stop}
use Rattle.refusal.specs.declared.place.Stop.TheVariants.{Refused, NoMemory}
use Rattle.refusal.specs.Place.{JudgesUnlessNoMemory}
use Rattle.unit_model.specs.Entries.{Entry}
use Rattle.unit_model.specs.Units as unit_model
use Rattle.chain_model.specs.declared.member.Member.{Member}
use Rattle.tree_model.specs.Pieces.{InUnit, and_then, max_pieces}
use Rattle.entry_facts.specs.Meaning.{Extends}
use Rattle.tree_model.specs.Members.{Told}
use Rattle.member_lists.specs.Frames.{SoFar, all_members, nothing}
use Rattle.tree_model.specs.Tree.{Source, members}
use Rattle.member_lists.specs.Collecting.{next_entries, next_entry, next_unit, next_units}
use Rattle.member_lists.proofs.FrameLemmas.{collected-are_members}
use Rattle.inline_tree.specs.Told.{Advances, AreTold, Grows, IsMadeOf, IsSoFar, IsTold}
use Rattle.inline_tree.proofs.StepLemmas.{AllZip-append, stopped}

-- ---- names more

pub Grows-none : (names : List (List ℕ)) (count : ℕ) → Grows count names names
Grows-none names count = record { kept = λ n name is. is; most = omega arith }

-- ---- the entries of a unit

-- From a state that was told, reading all entries is reading those that are left, from another one that is told.
module _ (source : Source) (of : InUnit) (all : List Entry) (first_names : List (List ℕ)) (first : SoFar Member) where
  pub record EntriesSoFar (left : List Entry) (names : List (List ℕ)) (made : SoFar Member) : Type 0 where
    pub on : (told : SoFar Told) → IsSoFar first_names told first
        → (now : SoFar Told) × (next_entries source of all told ≡ next_entries source of left now) × IsSoFar names now made

  pub EntriesSoFar-start : (left : List Entry) → all ≡ left → EntriesSoFar left first_names first
  EntriesSoFar-start left same = record { on = λ told is. (told, ap (λ es. next_entries source of es told) same, is) }

  pub EntriesSoFar-more : (left rest : List Entry) (names more : List (List ℕ)) (made new : SoFar Member) (entry : Entry) → EntriesSoFar left names made → left ≡ entry ∷ rest
      → ((told : SoFar Told) → IsSoFar names told made → Advances more (Ok tt) new (next_entry source of entry told)) → EntriesSoFar rest more new
  EntriesSoFar-more left rest names more made new entry so_far here read = record {
    on = λ told is.
        let reached = so_far.on told is in
        let step = read reached.0 reached.2 in (
          step.0,
          reached.1 ∙ ap (λ es. next_entries source of es reached.0) here ∙ ap (λ x. and_then x (next_entries source of rest)) step.1,
          step.2,
        );
  }

  pub EntriesSoFar-end : (left : List Entry) (names : List (List ℕ)) (made : SoFar Member) → EntriesSoFar left names made → left ≡ []
      → (told : SoFar Told) → IsSoFar first_names told first → Advances names (Ok tt) made (next_entries source of all told)
  EntriesSoFar-end left names made so_far none told is =
      let reached = so_far.on told is in (reached.0, reached.1 ∙ ap (λ es. next_entries source of es reached.0) none, reached.2)

  pub EntriesSoFar-stop : (left rest : List Entry) (names more : List (List ℕ)) (made new : SoFar Member) (entry : Entry) (why : Stop) (r : Result (Unit {0}) Stop)
      → EntriesSoFar left names made → left ≡ entry ∷ rest
      → ((told : SoFar Told) → IsSoFar names told made → Advances more (Err why) new (next_entry source of entry told)) → IsErrAnd r (λ s. s ≡ why)
      → (told : SoFar Told) → IsSoFar first_names told first → Advances more r new (next_entries source of all told)
  EntriesSoFar-stop left rest names more made new entry why r so_far here read stops told is =
      let reached = so_far.on told is in
      let step = read reached.0 reached.2 in
      stopped more new (next_entries source of all told) why r
      (λ place same. reached.1 ∙ ap (λ es. next_entries source of es reached.0) here
      ∙ ap (λ x. and_then x (next_entries source of rest)) (subst (λ w. Advances more (Err w) new (next_entry source of entry reached.0)) same step)) stops

-- The names have room for those of the entries that are left.
pub record GrowsSoFar (count : ℕ) (old : List (List ℕ)) (left : List Entry) (names : List (List ℕ)) : Type 0 where
  pub kept : (n : ℕ) (name : List ℕ) → slice_get old n ≡ Some name → slice_get names n ≡ Some name
  pub most : length names + length left ≤ length old + count

pub GrowsSoFar-start : (count first : ℕ) (entries left : List Entry) (names : List (List ℕ)) → left ≡ take count (drop first entries) → GrowsSoFar count names left names
GrowsSoFar-start count first entries left names is =
    let few = ap (λ (es : List Entry). length es) is in
    let most = length-take count (drop first entries) in
    record { kept = λ n name same. same; most = omega arith }

pub GrowsSoFar-more : (count : ℕ) (old : List (List ℕ)) (left rest : List Entry) (entry : Entry) (names more : List (List ℕ)) → GrowsSoFar count old left names → left ≡ entry ∷ rest
    → Extends names more → GrowsSoFar count old rest more
GrowsSoFar-more count old left rest entry names more grown here extends =
    let most = grown.most in
    let one = extends.one_more in
    let long = ap (λ (es : List Entry). length es) here in
    record { kept = λ n name is. extends.kept n name (grown.kept n name is); most = omega arith }

pub Grows-end : (count : ℕ) (old : List (List ℕ)) (left : List Entry) (names : List (List ℕ)) → GrowsSoFar count old left names → Grows count old names
Grows-end count old left names grown = let most = grown.most in record { kept = grown.kept; most = omega arith }

-- ---- the units of a file

-- Reading all units is reading those that are left, from a state that is told. There is room for the names of the
-- entries of those that are left.
pub record UnitsSoFar (source : Source) (room : ℕ) (units : List unit_model.Unit) (place : ℕ) (names : List (List ℕ)) (made : SoFar Member) : Type 0 where
  pub now : SoFar Told
  pub reached : next_units source 0 units nothing ≡ next_units source place (drop place units) now
  pub is : IsSoFar names now made
  pub few_names : length names + sum_by (λ unit. unit.count) (drop place units) ≤ room
  pub few : made.pieces ≤ max_pieces

drop-item : {X : Type 0} (xs : List X) (n : ℕ) (x : X) → n < length xs → x ≡ get_or xs n x → drop n xs ≡ x ∷ drop (n + 1) xs
drop-item xs n x within is = rw add-one (drop-cons xs n x within ∙ ap (λ y. y ∷ drop (suc n) xs) (sym is))

pub UnitsSoFar-start : (source : Source) (units : List unit_model.Unit) (names : List (List ℕ)) (made : SoFar Member) → names ≡ [] → made ≡ nothing
    → UnitsSoFar source (sum_by (λ unit. unit.count) units) units 0 names made
UnitsSoFar-start source units names made no_names none = record {
  now = nothing;
  reached = refl;
  is = record { functions_are = subst (λ (s : SoFar Member). AllZip (AreTold names) [] s.functions) (sym none) tt; pieces_are = ap (λ (s : SoFar Member). s.pieces) none; frames_are = ap (λ (s : SoFar Member). s.frames) none };
  few_names = let zero_names = ap (λ (ns : List (List ℕ)). length ns) no_names in omega arith;
  few = let zero_pieces = ap (λ (s : SoFar Member). s.pieces) none in omega arith;
}

pub UnitsSoFar-room : (source : Source) (room : ℕ) (units : List unit_model.Unit) (place : ℕ) (names : List (List ℕ)) (made : SoFar Member) (unit : unit_model.Unit)
    → UnitsSoFar source room units place names made → place < length units → unit ≡ get_or units place unit → length names + unit.count ≤ room
UnitsSoFar-room source room units place names made unit so_far within is =
    let few = so_far.few_names in
    let here = ap (λ us. sum_by (λ (u : unit_model.Unit). u.count) us) (drop-item units place unit within is) ∙ sum_by-cons _ unit (drop (place + 1) units) in
    omega arith

pub UnitsSoFar-more : (source : Source) (room : ℕ) (units : List unit_model.Unit) (place : ℕ) (names more : List (List ℕ)) (made new : SoFar Member) (unit : unit_model.Unit)
    → UnitsSoFar source room units place names made → place < length units → unit ≡ get_or units place unit
    → ((told : SoFar Told) → IsSoFar names told made → Advances more (Ok tt) new (next_unit source place unit told)) → Grows unit.count names more → new.pieces ≤ max_pieces
    → UnitsSoFar source room units (place + 1) more new
UnitsSoFar-more source room units place names more made new unit so_far within is read grown few =
    let here = drop-item units place unit within is in
    let step = read so_far.now so_far.is in
    let few_names = so_far.few_names in
    let most = grown.most in
    let sums = ap (λ us. sum_by (λ (u : unit_model.Unit). u.count) us) here ∙ sum_by-cons _ unit (drop (place + 1) units) in
    record {
      now = step.0;
      reached = so_far.reached ∙ ap (λ us. next_units source place us so_far.now) here ∙ ap (λ x. and_then x (next_units source (place + 1) (drop (place + 1) units))) step.1;
      is = step.2;
      few_names = omega arith;
      few = few;
    }

-- the judgement of what was read
judged : (names : List (List ℕ)) (told : Result (List Told) Place) (made : List Member) → IsMadeOf names told made
    → (result_err told ≡ None) × IsMadeOf names told made
judged names told made is = (ap result_err is.1, is)

-- all members
members-made : (source : Source) (now : SoFar Told) → next_units source 0 source.info.units.units nothing ≡ Ok now → members source ≡ Ok (all_members now)
members-made source now e = sym (collected-are_members source) ∙ ap (λ x. and_then x (λ all. Ok (all_members all))) e

members-bad : (source : Source) (place : Place) → next_units source 0 source.info.units.units nothing ≡ Err place → members source ≡ Err place
members-bad source place e = sym (collected-are_members source) ∙ ap (λ (x : Result (SoFar Told) Place). and_then x (λ all. Ok (all_members all))) e

all_members-told : (names : List (List ℕ)) (tolds : List (List Told)) (mades : List (List Member)) → AllZip (AreTold names) tolds mades
    → AreTold names (flat_map (λ f. f) tolds) (flat_map (λ f. f) mades)
all_members-told names [] [] h = tt
all_members-told names [] (m ∷ mades) h = absurd h
all_members-told names (t ∷ tolds) [] h = absurd h
all_members-told names (t ∷ tolds) (m ∷ mades) h =
    AllZip-append (IsTold names) t m (flat_map (λ f. f) tolds) (flat_map (λ f. f) mades) h.0 (all_members-told names tolds mades h.1)

pub UnitsSoFar-end : (source : Source) (room : ℕ) (units : List unit_model.Unit) (place : ℕ) (names : List (List ℕ)) (made : SoFar Member) (all : List Member)
    → units ≡ source.info.units.units → UnitsSoFar source room units place names made → length units ≤ place → all ≡ all_members made
    → (result_err (members source) ≡ None) × IsMadeOf names (members source) all
UnitsSoFar-end source room units place names made all same so_far past is =
    let reached = ap (λ us. next_units source 0 us nothing) (sym same) ∙ so_far.reached ∙ ap (λ us. next_units source place us so_far.now) (drop_all place units past) in
    judged names (members source) all (
      all_members so_far.now,
      members-made source so_far.now reached,
      subst (λ l. AreTold names (all_members so_far.now) l) (sym is) (all_members-told names so_far.now.functions made.functions so_far.is.functions_are),
    )

-- What is made is so by equal names and members.
pub made-same : (names same : List (List ℕ)) (told : Result (List Told) Place) (all one : List Member) → same ≡ names → one ≡ all → IsMadeOf names told all → IsMadeOf same told one
made-same names same told all one names_are members_are made =
    subst (λ ns. IsMadeOf ns told one) (sym names_are) (subst (λ ms. IsMadeOf names told ms) (sym members_are) made)

pub names-few : (names same : List (List ℕ)) (most : ℕ) → same ≡ names → length names ≤ most → length same ≤ most
names-few names same most names_are few = omega (arith, few, ap (λ (ns : List (List ℕ)). length ns) names_are)

pub UnitsSoFar-stop : (source : Source) (room : ℕ) (units : List unit_model.Unit) (place : ℕ) (names more : List (List ℕ)) (made new : SoFar Member) (unit : unit_model.Unit) (why : Stop) {T : Type 0} (P : T → Type 0) (r : Result T Stop)
    → units ≡ source.info.units.units → UnitsSoFar source room units place names made → place < length units → unit ≡ get_or units place unit
    → ((told : SoFar Told) → IsSoFar names told made → Advances more (Err why) new (next_unit source place unit told)) → IsErrAnd r (λ s. s ≡ why)
    → JudgesUnlessNoMemory (result_err (members source)) r P
UnitsSoFar-stop source room units place names more made new unit why {T} P (Ok x) all so_far within is read stops = absurd stops
UnitsSoFar-stop source room units place names more made new unit why {T} P (Err NoMemory) all so_far within is read stops = tt
UnitsSoFar-stop source room units place names more made new unit why {T} P (Err (Refused bad)) all so_far within is read stops =
    let here = drop-item units place unit within is in
    let step = subst (λ w. Advances more (Err w) new (next_unit source place unit so_far.now)) (sym stops) (read so_far.now so_far.is) in
    let reached = ap (λ us. next_units source 0 us nothing) (sym all) ∙ so_far.reached ∙ ap (λ us. next_units source place us so_far.now) here
    ∙ ap (λ x. and_then x (next_units source (place + 1) (drop (place + 1) units))) step in
    ap result_err (members-bad source bad reached)
