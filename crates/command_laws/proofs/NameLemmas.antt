-- The names that a program tells are names: they hold no line feed, and begin with no `#`.
use Rattle.std.proofs.Common.{◌≡◌, ℕ, zero, suc, Bool, true, false, not, ◌||◌, List, [], ◌∷◌, ◌++◌, map, Option, None, Some, refl, sym, ap, ◌∙◌, subst}
use Rattle.std.specs.Prelude.{◌==◌, nat_eq, ⊤, slice_get}
use Rattle.std.specs.Char.{is_ascii_digit}
use Rattle.std.specs.List.{AllByRecursion, list_any}
use Rattle.std.specs.Option.{option_map, unwrap_or}
use Rattle.std.proofs.lemmas.Bool.{and_parts, ne_eqb, eqb-false, eqb-true, or_parts}
use Rattle.text_model.specs.Laws.{HasNoLineFeed}
use Rattle.text_model.specs.Lines.{is_line_feed}
use Rattle.key_types.specs.declared.ids.NameId.{NameId}
use Rattle.key_types.specs.declared.key.Frame.{Frame}
use Rattle.key_types.specs.declared.key.Key.{Key}
use Rattle.chain_model.specs.Places as by_number
use Rattle.profile_model.specs.Names.{begins_no_name, is_name, parts_names}
use Rattle.profile_model.specs.Ways.{Step, to_body, to_call}
use Rattle.tree_model.specs.Members.{Told}
use Rattle.binary_model.specs.Addresses.{entered_at}
use Rattle.binary_model.specs.Binary.{members_in, tables_in}
use Rattle.binary_model.specs.Places.{Place as Where, at_way, in_names, names_of, nameless, no_line, numbered_from, outside, place_among, place_of_address, row_in, way_of}
use Rattle.key_types.specs.Numbers.{name_of}
use Rattle.chain_model.specs.Places.{entry_name, place_at}
use Rattle.way_laws.proofs.NameLemmas.{AreTold, IsNameIfAny, members_are_told}

-- ---- a name is clean

-- No line begins a function by its first byte: it is no `#`.
abbrev pub BeginsOther : List ℕ → Type 0
BeginsOther [] = ⊤
BeginsOther (b ∷ bytes) = nat_eq 35 b ≡ false

pub record IsClean (name : List ℕ) : Type 0 where
  pub other : BeginsOther name
  pub clean : HasNoLineFeed name

pub none_clean : IsClean []
none_clean = record { other = tt; clean = refl }

is_not : (b : Bool) → not b ≡ true → b ≡ false
is_not false is = refl
is_not true is = absurd cc

swapped : (a b : ℕ) → (b == a) ≡ false → nat_eq a b ≡ false
swapped a b differ = ne_eqb a b (λ same. eqb-false b a differ (sym same))

no_feed_byte : (b : ℕ) → parts_names b ≡ false → is_line_feed b ≡ false
no_feed_byte b parts = elim (b == 10) as (λ t. (b == 10) ≡ t → t ≡ false) [
  | false ↦ λ _. refl
  | true ↦ λ is. let same : b ≡ 10 = eqb-true b 10 is in let bad : true ≡ false = subst (λ n. parts_names n ≡ false) same parts in absurd cc
] refl

no_feeds : (bytes : List ℕ) → list_any parts_names bytes ≡ false → list_any is_line_feed bytes ≡ false
no_feeds [] parts = refl
no_feeds (b ∷ bytes) parts =
    let each = or_parts (parts_names b) (list_any parts_names bytes) parts in
    ap (λ t. t || list_any is_line_feed bytes) (no_feed_byte b each.0) ∙ no_feeds bytes each.1

pub name_clean : (name : List ℕ) → is_name name ≡ true → IsClean name
name_clean [] is = absurd cc
name_clean (b ∷ bytes) is =
    let parts = and_parts (not (begins_no_name b)) (not (list_any parts_names (b ∷ bytes))) is in
    let first = is_not (begins_no_name b) parts.0 in
    record {
      other = swapped 35 b (or_parts (b == 0x23) (b == 0x21) (or_parts (b == 0x23 || b == 0x21) (is_ascii_digit b) first).0).0;
      clean = no_feeds (b ∷ bytes) (is_not (list_any parts_names (b ∷ bytes)) parts.1);
    }

-- ---- the names of functions and calls

-- A name, where there is one.
abbrev pub IsCleanIfAny : Option (List ℕ) → Type 0
IsCleanIfAny None = ⊤
IsCleanIfAny (Some name) = IsClean name

all_names : (members : List Told) → AreTold members → AllByRecursion IsClean (names_of members)
all_names [] all = tt
all_names (told ∷ members) all = (one told.name all.0.0, all_names members all.1)
  where
    one : (name : Option (List ℕ)) → IsNameIfAny name → IsClean (unwrap_or name [])
    one None named = none_clean
    one (Some name) named = name_clean name named

names_clean : (file : List ℕ) → AllByRecursion IsClean (names_of (members_in file))
names_clean file = all_names (members_in file) (members_are_told file)

-- ---- the names at an address

at_number : (names : List (List ℕ)) (n : ℕ) → AllByRecursion IsClean names → IsClean (unwrap_or (slice_get names n) [])
at_number [] n all = none_clean
at_number (name ∷ names) zero all = all.0
at_number (name ∷ names) (suc n) all = at_number names n all.1

calls_clean : (names : List (List ℕ)) (calls : List Frame) (offset disc : ℕ) → AllByRecursion IsClean names
    → AllByRecursion (λ (step : Step). IsClean step.name) (map (λ call. to_call call.offset call.disc (name_of names call.name)) calls ++ to_body offset disc ∷ [])
calls_clean names [] offset disc all = (none_clean, tt)
calls_clean names (call ∷ calls) offset disc all = (at_number names call.name.0 all, calls_clean names calls offset disc all)

way_clean : (names : List (List ℕ)) (key : Key) → AllByRecursion IsClean names → AllByRecursion (λ (step : Step). IsClean step.name) (way_of names key)
way_clean names key all = (at_number names key.root.0 all, calls_clean names key.calls key.offset key.disc all)

abbrev pub IsCleanPlace : Where → Type 0
IsCleanPlace outside = ⊤
IsCleanPlace nameless = ⊤
IsCleanPlace no_line = ⊤
IsCleanPlace (at_way way) = AllByRecursion (λ (step : Step). IsClean step.name) way

place_clean : (names : List (List ℕ)) (place : by_number.Place) → AllByRecursion IsClean names → IsCleanPlace (in_names names place)
place_clean names by_number.outside all = tt
place_clean names by_number.nameless all = tt
place_clean names by_number.no_line all = tt
place_clean names (by_number.has_key key) all = way_clean names key all

pub places_clean : (file : List ℕ) (base : Bool) (address : ℕ) → IsCleanPlace (place_of_address file base address)
unfolding place_of_address place_among
places_clean file base address =
    place_clean (names_of (members_in file)) (place_at (row_in (tables_in file)) base (numbered_from 0 (members_in file)) address) (names_clean file)

mapped : (names : List (List ℕ)) (id : Option NameId) → AllByRecursion IsClean names → IsCleanIfAny (option_map (name_of names) id)
mapped names None all = tt
mapped names (Some id) all = at_number names id.0 all

pub entries_clean : (file : List ℕ) (address : ℕ) → IsCleanIfAny (entered_at file address)
unfolding entered_at
entries_clean file address = mapped (names_of (members_in file)) (entry_name (numbered_from 0 (members_in file)) address) (names_clean file)
