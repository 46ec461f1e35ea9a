-- What a map tells.
use Rattle.std.proofs.Common.{◌≡◌, ℕ, zero, suc, ◌+◌, arith, Bool, true, false, List, [], ◌∷◌, Option, None, Some, refl, sym, ap, ◌∙◌, subst, map}
use Rattle.std.specs.Prelude.{slice_get, find, option_and_then, ◌==◌, if◌then◌else◌}
use Rattle.std.specs.Option.{option_map, is_some}
use Rattle.std.specs.List.{AllByRecursion, enumerate_from}
use Rattle.std.proofs.lemmas.Option.{same_Some}
use Rattle.list_lemmas.proofs.Tests.{by_test}
use Rattle.address_spans.specs.declared.span.Span.{Span}
use Rattle.address_spans.specs.Spans.{owner_at}
use Rattle.key_types.specs.declared.ids.KeyId.{KeyId}
use Rattle.key_types.specs.declared.ids.NameId.{NameId}
use Rattle.key_types.specs.declared.key.Frame.{Frame}
use Rattle.key_types.specs.declared.key.Key.{Key}
use Rattle.key_types.specs.declared.places.Seg.{Seg}
use Rattle.chain_model.specs.declared.member.Member.{Member}
use Rattle.chain_model.specs.Chains.{chain, holds_at, function_of, function_at}
use Rattle.chain_model.specs.Places.{Place, outside, nameless, no_line, has_key, LineAndDisc, place_of, row_of, place_at, factor_at, key, frames, last_start, place_by as place_by_names, is_entered_at, entry_name, Tells}
use Rattle.chain_model.proofs.ChainLemmas.{begin_with_the_function}
use Rattle.key_types.specs.Segments as segments
use Rattle.key_types.proofs.ToldLemmas.{told-some, told-none}
use Rattle.context_map.specs.Parts.{with_factor}
use Rattle.context_map.specs.declared.entrance.Entrance.{Entrance}
use Rattle.span_cover.specs.Asked.{asks}
use Rattle.span_cover.proofs.AskedLemmas.{asks-all}
use Rattle.context_map.specs.Asked.{IsMapOver}
use Rattle.context_map.specs.Maps.{is_nameless, ArePartsOf, IsMap, Shown, entrance_of, entry_of, place_by, name_if, wanted, wanted_over}
use Rattle.context_map.proofs.PartsLemmas.{chainless, place-asked, place-left}

-- which place has a key, a factor and a function
keyed : (p : Place) (f g : ℕ) (k : Key) → with_factor p f ≡ Some (k, g) → p ≡ has_key k
keyed outside f g k is = absurd (cc)
keyed nameless f g k is = absurd (cc)
keyed no_line f g k is = absurd (cc)
keyed (has_key key) f g k is = ap has_key (ap (λ (q : Key × ℕ). q.0) (same_Some (key, f) (k, g) is))

-- a chain is empty exactly where there is no function
no_first : (xs : List (ℕ × Member)) → option_map (λ (m : ℕ × Member). m.0) (slice_get xs 0) ≡ None → xs ≡ []
no_first [] is = refl
no_first (x ∷ xs) is = absurd (cc)

pub out-function : (rows : ℕ → ℕ → Option LineAndDisc) (base : Bool) (members : List Member) (a : ℕ) → function_at members a ≡ None → place_at rows base members a ≡ outside
out-function rows base members a none =
    chainless rows base members a (no_first (chain members a) (ap (option_map (λ (m : ℕ × Member). m.0)) (begin_with_the_function members a) ∙ none))

first-some : (xs : List (ℕ × Member)) (f : ℕ) → option_map (λ (m : ℕ × Member). m.0) (slice_get xs 0) ≡ Some f → (x : ℕ × Member) × (rest : List (ℕ × Member)) × (xs ≡ x ∷ rest)
first-some [] f is = absurd (cc)
first-some (x ∷ xs) f is = (x, xs, refl)

-- a place that has a function is not outside
abbrev Held : Place → Type 0
Held outside = ⊥
Held _ = Unit {0}

held-by : (base : Bool) (start : ℕ) (name : Option NameId) (calls : Option (List Frame)) (row : Option LineAndDisc) → Held (place_by_names base start name calls row)
held-by base start None calls row = tt
held-by base start (Some root) None row = tt
held-by base start (Some root) (Some calls) None = tt
held-by base start (Some root) (Some calls) (Some row) = lined (row.0 == 0)
  where
    lined : (t : Bool) → Held (if t then no_line else has_key (key base root calls start row))
    lined true = tt
    lined false = tt

pub in-function : (rows : ℕ → ℕ → Option LineAndDisc) (base : Bool) (members : List Member) (a f : ℕ) → function_at members a ≡ Some f → Held (place_at rows base members a)
in-function rows base members a f some =
    let first = first-some (chain members a) f (ap (option_map (λ (m : ℕ × Member). m.0)) (begin_with_the_function members a) ∙ some) in
    subst (λ (ms : List (ℕ × Member)). Held (place_of base (map (λ m. m.1) ms) (row_of rows (map (λ m. m.1) ms) a))) (sym first.2)
    (held-by base (last_start first.0.1.start (map (λ m. m.1) first.1)) first.0.1.name (frames base first.0.1.start (map (λ m. m.1) first.1)) (rows first.0.1.unit a))

-- the place by what holds an address
unkeyed : (keys : List Key) (p : Place) (f : ℕ) (span : Option ℕ) → with_factor p f ≡ None → Held p → is_some span ≡ is_nameless p → (function : ℕ) → Tells keys p (place_by None (Some function) span)
unkeyed keys outside f span none held same function = absurd held
unkeyed keys nameless f None none held same function = absurd (cc)
unkeyed keys nameless f (Some s) none held same function = refl
unkeyed keys no_line f None none held same function = refl
unkeyed keys no_line f (Some s) none held same function = absurd (cc)
unkeyed keys (has_key key) f span none held same function = absurd (cc)

tells-by : (rows : ℕ → ℕ → Option LineAndDisc) (base : Bool) (members : List Member) (keys : List Key) (parts : List Seg) (spans : List Span) (a : ℕ) (id : Option KeyId) (function : Option ℕ) → AllByRecursion (segments.IsGiven keys) parts
    → segments.told keys parts a ≡ wanted rows base members a → is_some (owner_at spans a) ≡ is_nameless (place_at rows base members a)
    → segments.key_told parts a ≡ id → function_at members a ≡ function → Tells keys (place_at rows base members a) (place_by id function (owner_at spans a))
tells-by rows base members keys parts spans a (Some id) function given tell unnamed is at =
    let told = told-some keys parts a id given is in
    let place = keyed (place_at rows base members a) (factor_at rows base members a) told.factor told.key (sym tell ∙ told.both) in
    subst (λ p. Tells keys p (place_by (Some id) function (owner_at spans a))) (sym place) (id, refl, told.number)
tells-by rows base members keys parts spans a None None given tell unnamed is at =
    subst (λ p. Tells keys p (place_by None None (owner_at spans a))) (sym (out-function rows base members a at)) refl
tells-by rows base members keys parts spans a None (Some f) given tell unnamed is at =
    unkeyed keys (place_at rows base members a) (factor_at rows base members a) (owner_at spans a) (sym tell ∙ told-none keys parts a is) (in-function rows base members a f at) unnamed f

pub wanted-asked : (marks : List Bool) (rows : ℕ → ℕ → Option LineAndDisc) (base : Bool) (members : List Member) (a : ℕ) → asks marks (function_at members a) ≡ true → wanted_over marks rows base members a ≡ wanted rows base members a
wanted-asked marks rows base members a asked = ap (λ p. with_factor p (factor_at rows base members a)) (place-asked marks rows base members a asked)

pub tells : (marks : List Bool) (rows : ℕ → ℕ → Option LineAndDisc) (base : Bool) (members : List Member) (keys : List Key) (parts : List Seg) (spans : List Span) (a : ℕ) (function : Option ℕ) → ArePartsOf marks rows base members keys parts spans
    → asks marks (function_at members a) ≡ true → function_at members a ≡ function → Tells keys (place_at rows base members a) (place_by (segments.key_told parts a) function (owner_at spans a))
tells marks rows base members keys parts spans a function are asked at =
    tells-by rows base members keys parts spans a (segments.key_told parts a) function are.given
    (are.tell a ∙ wanted-asked marks rows base members a asked)
    (are.unnamed a ∙ ap is_nameless (place-asked marks rows base members a asked)) refl at

-- where an address is not asked for there is no segment
pub no-segment : (marks : List Bool) (rows : ℕ → ℕ → Option LineAndDisc) (base : Bool) (members : List Member) (keys : List Key) (parts : List Seg) (spans : List Span) (a : ℕ) → ArePartsOf marks rows base members keys parts spans
    → asks marks (function_at members a) ≡ false → segments.key_told parts a ≡ None
no-segment marks rows base members keys parts spans a are unasked = by (segments.key_told parts a) refl
  where
    untold : segments.told keys parts a ≡ None
    untold = are.tell a ∙ ap (λ p. with_factor p (factor_at rows base members a)) (place-left marks rows base members a unasked)

    no_key : {X : Type 0} (x : X) → Some x ≡ None → ⊥
    no_key x is = cc

    by : (id : Option KeyId) → segments.key_told parts a ≡ id → segments.key_told parts a ≡ None
    by None is = is
    by (Some id) is = let told = told-some keys parts a id are.given is in absurd (no_key _ (sym told.both ∙ untold))

-- a map of members by functions, of which all are asked for
pub over-all : (rows : ℕ → ℕ → Option LineAndDisc) (base : Bool) (members : List Member) (keys : List Key) (shown : Shown) (marks : List Bool) → marks ≡ [] → IsMapOver marks rows base members keys shown → IsMap rows base members keys shown
over-all rows base members keys shown marks none map = record {
  place = λ a. map.place a (all a);
  function = map.function;
  entry = map.entry;
  ascend = map.ascend;
  given = map.given;
  tell = λ a. map.tell a (all a);
}
  where
    all : (a : ℕ) → asks marks (function_at members a) ≡ true
    all a = ap (λ ms. asks ms (function_at members a)) none ∙ asks-all (function_at members a)

-- entrances
entered : (a : ℕ) (member : Member) → name_if a (entrance_of member) ≡ (if is_entered_at a member.pieces then member.name else None)
entered a member = by member.pieces member.name
  where
    same : (t : Bool) (x : Option NameId) → (if t then x else x) ≡ x
    same true x = refl
    same false x = refl

    by : (pieces : List (ℕ × ℕ)) (name : Option NameId) → name_if a (elim pieces [ [] ↦ record { address = 0; name = None } | piece ∷ pieces ↦ record { address = piece.0; name = name } ]) ≡ (if is_entered_at a pieces then name else None)
    by [] name = same (0 == a) None
    by (piece ∷ pieces) name = refl

pub record IsAt (k : ℕ) (members : List Member) (q : ℕ × Member) : Type 0 where
  pub place : ℕ
  pub number : q.0 ≡ k + place
  pub member : slice_get members place ≡ Some q.1

found-at : (p : ℕ × Member → Bool) (k : ℕ) (members : List Member) (q : ℕ × Member) → find p (enumerate_from k members) ≡ Some q → IsAt k members q
found-at p k [] q is = absurd (cc)
found-at p k (m ∷ members) q is = by_test (p (k, m))
    (λ hit.
    let one : find p (enumerate_from k (m ∷ members)) ≡ Some (k, m) = rw hit refl in
    let same = same_Some (k, m) q (sym one ∙ is) in record {
      place = 0;
      number = ap (λ (x : ℕ × Member). x.0) (sym same) ∙ let e : k ≡ k + 0 = omega arith in e;
      member = ap (λ (x : ℕ × Member). Some x.1) same;
    })
    (λ miss.
    let later : find p (enumerate_from k (m ∷ members)) ≡ find p (enumerate_from (k + 1) members) = rw miss refl in
    let rest = found-at p (k + 1) members q (sym later ∙ is) in record {
      place = suc rest.place;
      number = omega (arith, rest.number);
      member = rest.member;
    })

get-map : {X Y : Type 0} (f : X → Y) (xs : List X) (i : ℕ) → slice_get (map f xs) i ≡ option_map f (slice_get xs i)
get-map f [] i = refl
get-map f (x ∷ xs) zero = refl
get-map f (x ∷ xs) (suc i) = get-map f xs i

entry-by : (members : List Member) (a : ℕ) (function : Option (ℕ × Member)) → function_of members a ≡ function
    → entry_of (map entrance_of members) a (option_map (λ f. f.0) function) ≡ option_and_then (λ f. if is_entered_at a f.1.pieces then f.1.name else None) function
entry-by members a None is = refl
entry-by members a (Some f) is =
    let there = found-at (λ m. holds_at 0 a m.1) 0 members f is in
    let number : f.0 ≡ there.place = omega (arith, there.number) in
    ap (λ n. option_and_then (name_if a) (slice_get (map entrance_of members) n)) number
    ∙ ap (option_and_then (name_if a)) (get-map entrance_of members there.place ∙ ap (option_map entrance_of) there.member)
    ∙ entered a f.1

pub entry : (members : List Member) (a : ℕ) (entrances : List Entrance) (function : Option ℕ) → entrances ≡ map entrance_of members → function ≡ function_at members a
    → entry_of entrances a function ≡ entry_name members a
entry members a entrances function are is =
    ap (λ es. entry_of es a function) are ∙ ap (entry_of (map entrance_of members) a) is ∙ entry-by members a (function_of members a) refl
