-- Attributes that tell nothing change no value and no refusal.
use Rattle.std.proofs.Common.{◌≡◌, ◌≢◌, ℕ, ℤ, pos, negsuc, not, nat_lt, nat_le, ◌-◌, ◌⊎◌, ◌+◌, ◌<◌, Bool, true, false, cond, List, [], ◌∷◌, ◌++◌, length, map, take, get_or, Option, None, Some, Ok, Err, refl, sym, ap, subst, ◌∙◌, inl, inr, arith}
use Rattle.std.specs.Prelude.{◌==◌, ◌||◌, ◌&&◌, ◌^◌, min, position, slice_get, sum_by}
use Rattle.std.specs.Option.{option_map}
use Rattle.std.specs.List.{position_or_len}
use Rattle.std.proofs.lemmas.Bool.{cases_Bool, or_cases, or_parts, or_from, or_left, or_right, and_cases, cond-true, cond-false, eqb-true, eq-eqb, ne_eqb, and_parts}
use Rattle.std.proofs.lemmas.Bool.Decides.{nat_tests}
use Rattle.std.proofs.lemmas.Option.{slice_get_read, slice_get_within, slice_get-map, get_or_from_slice_get}
use Rattle.std.proofs.lemmas.List.{length-map, map-append, take_more}
use Rattle.std.proofs.lemmas.List.Quantifiers.{position-Some}
use Rattle.std.proofs.lemmas.List.Sums.{sum_by_push}
use Rattle.std.proofs.lemmas.List.Folds.{find_at, list_any-append}
use Rattle.byte_view.specs.Cursor.{Cursor}
use Rattle.value_model.specs.Value.{Value, const, flag}
use Rattle.value_model.specs.Forms.{signed_const, operand_of}
use Rattle.value_model.specs.Reading.{value_at}
use Rattle.refusal.specs.declared.kind.Kind.TheVariants.{BadClass}
use Rattle.placed_view.specs.Reader.{Read, behind, gives, refuse_if, uleb}
use Rattle.unit_model.specs.Abbrev.{Attr, Abbrev, find_code}
use Rattle.unit_model.specs.Wanted.{Use, accepts, wanted, unused, as_text, as_place, as_address, as_end, as_entry, as_number, as_ranges}
use Rattle.unit_model.specs.Values.{Found, value, placed_value, is_unused, with_found, next_value, values, values_from}
use Rattle.unit_model.specs.Entries.{InUnit, SoFar, max_entries, closed, entry_of, entry_if_known, entry_of_code, next_entry}
use Rattle.entry_model.proofs.CursorLemmas.{same_pair, split, unless}
use Rattle.dwarf_info.specs.Values.{has_name}
use Rattle.dwarf_info.specs.Tables.{room_of}
use Rattle.dwarf_info.specs.Telling.{is_implicit, takes_none, is_among, tells_nothing, told_with, telling_behind, shortened}

-- ---- values that take no bytes

stays : (cur : Cursor) → ◌≡◌ {A = Cursor} (record { at = cur.at + (length cur.left - length cur.left); left = cur.left }) cur
stays cur = let e : cur.at + (length cur.left - length cur.left) ≡ cur.at = omega arith in ap (λ (n : ℕ). record { at = n; left = cur.left }) e

flag_at : (form : ℕ) (implicit : ℤ) (wide : Bool) (bytes : List ℕ) → form ≡ 0x19 → value_at form implicit wide bytes ≡ Ok (flag true, bytes)
unfolding value_at operand_of
flag_at form implicit wide bytes is = subst (λ (f : ℕ). value_at f implicit wide bytes ≡ Ok (flag true, bytes)) (sym is) refl

implicit_at : (form : ℕ) (implicit : ℤ) (wide : Bool) (bytes : List ℕ) → form ≡ 0x21 → value_at form implicit wide bytes ≡ Ok (signed_const implicit, bytes)
unfolding value_at operand_of
implicit_at form implicit wide bytes is = subst (λ (f : ℕ). value_at f implicit wide bytes ≡ Ok (signed_const implicit, bytes)) (sym is) refl

placed_here : (wide : Bool) (attr : Attr) (cur : Cursor) (x : Value) → value_at attr.form attr.implicit wide cur.left ≡ Ok (x, cur.left) → value wide attr cur ≡ Ok (x, cur)
unfolding value
placed_here wide attr cur x is = ap (placed_value cur) is ∙ ap (λ (c : Cursor). Ok (x, c)) (stays cur)

implicit_here : (wide : Bool) (attr : Attr) (cur : Cursor) → is_implicit attr.form ≡ true → value wide attr cur ≡ Ok (signed_const attr.implicit, cur)
implicit_here wide attr cur is = placed_here wide attr cur _ (implicit_at attr.form attr.implicit wide cur.left (eqb-true attr.form 0x21 is))

-- A value takes no bytes.
record TakesNone (wide : Bool) (attr : Attr) (cur : Cursor) : Type 0 where
  x : Value
  is : value wide attr cur ≡ Ok (x, cur)

takes_no_bytes : (wide : Bool) (attr : Attr) (cur : Cursor) → takes_none attr.form ≡ true → TakesNone wide attr cur
takes_no_bytes wide attr cur none =
    elim (or_cases (attr.form == 0x19) (is_implicit attr.form) none) [
      | inl present ↦ record { x = flag true; is = placed_here wide attr cur _ (flag_at attr.form attr.implicit wide cur.left (eqb-true attr.form 0x19 present)) }
      | inr implicit ↦ record { x = signed_const attr.implicit; is = implicit_here wide attr cur implicit }
    ]

-- ---- an attribute that tells nothing

accepts-unused : (purpose : Use) (x : Value) → is_unused purpose ≡ true → accepts purpose x ≡ true
accepts-unused unused x is = refl
accepts-unused as_text x is = absurd cc
accepts-unused as_place x is = absurd cc
accepts-unused as_address x is = absurd cc
accepts-unused as_end x is = absurd cc
accepts-unused as_entry x is = absurd cc
accepts-unused as_number x is = absurd cc
accepts-unused as_ranges x is = absurd cc

-- one constant is accepted where another is
accepts-const : (purpose : Use) (n m : ℕ) → accepts purpose (const n) ≡ accepts purpose (const m)
accepts-const unused n m = refl
accepts-const as_text n m = refl
accepts-const as_place n m = refl
accepts-const as_address n m = refl
accepts-const as_end n m = refl
accepts-const as_entry n m = refl
accepts-const as_number n m = refl
accepts-const as_ranges n m = refl

accepts-signed : (purpose : Use) (z : ℤ) → accepts purpose (signed_const z) ≡ accepts purpose (const 0)
accepts-signed purpose (pos n) = accepts-const purpose n 0
accepts-signed purpose (negsuc n) = accepts-const purpose _ 0

-- Names that values in the abbreviation have: each is found, and accepts constants.
abbrev AreTold : ℕ → List ℕ → List Found → Type 0
AreTold tag told found = (name : ℕ) → is_among told name ≡ true → (has_name found name ≡ true) × (accepts (wanted tag name) (const 0) ≡ true)

next_value-same : (wide : Bool) (tag : ℕ) (attr : Attr) (found : List Found) (cur : Cursor) (x : Value) → value wide attr cur ≡ Ok (x, cur)
    → accepts (wanted tag attr.name) x ≡ true → (is_unused (wanted tag attr.name) || has_name found attr.name) ≡ true
    → next_value wide tag attr found cur ≡ Ok (found, cur)
unfolding next_value
next_value-same wide tag attr found cur x e good there = rw (e, good, there) refl

nothing_told : (wide : Bool) (tag : ℕ) (told : List ℕ) (attr : Attr) (found : List Found) (cur : Cursor) → AreTold tag told found → tells_nothing tag told attr ≡ true
    → next_value wide tag attr found cur ≡ Ok (found, cur)
nothing_told wide tag told attr found cur are nothing =
    elim (or_cases (takes_none attr.form && is_unused (wanted tag attr.name)) (is_implicit attr.form && is_among told attr.name) nothing) [
      | inl idle ↦
          let both = and_parts (takes_none attr.form) (is_unused (wanted tag attr.name)) idle in
          let none = takes_no_bytes wide attr cur both.0 in
          next_value-same wide tag attr found cur none.x none.is (accepts-unused (wanted tag attr.name) none.x both.1) (or_left (is_unused (wanted tag attr.name)) (has_name found attr.name) both.1)
      | inr again ↦
          let both = and_parts (is_implicit attr.form) (is_among told attr.name) again in
          let is = are attr.name both.1 in
          next_value-same wide tag attr found cur (signed_const attr.implicit) (implicit_here wide attr cur both.0) (accepts-signed (wanted tag attr.name) attr.implicit ∙ is.1)
          (or_right (is_unused (wanted tag attr.name)) (has_name found attr.name) is.0)
    ]

-- ---- an attribute that tells something

with_found-keeps : (purpose : Use) (more : Found) (found : List Found) (name : ℕ) → has_name found name ≡ true → has_name (with_found purpose more found) name ≡ true
with_found-keeps purpose more found name there =
    elim (is_unused purpose || has_name found more.name) as (λ b. has_name (cond b found (found ++ more ∷ [])) name ≡ true) [
      | true ↦ there
      | false ↦ list_any-append (λ (other : Found). other.name == name) found (more ∷ []) ∙ or_left (has_name found name) _ there
    ]

with_found-has : (purpose : Use) (more : Found) (found : List Found) → is_unused purpose ≡ false → has_name (with_found purpose more found) more.name ≡ true
with_found-has purpose more found used =
    elim (cases_Bool (has_name found more.name)) [
      | inl there ↦ with_found-keeps purpose more found more.name there
      | inr absent ↦
          ap (λ (fs : List Found). has_name fs more.name) (cond-false (is_unused purpose || has_name found more.name) found (found ++ more ∷ []) (or_from (is_unused purpose) (has_name found more.name) used absent))
          ∙ list_any-append (λ (other : Found). other.name == more.name) found (more ∷ [])
          ∙ or_right (has_name found more.name) _ (or_left (more.name == more.name) false (eq-eqb more.name more.name refl))
    ]

-- What a value that is read adds, and that it is accepted.
record IsNext (wide : Bool) (tag : ℕ) (attr : Attr) (found : List Found) (cur : Cursor) (all : List Found) (next : Cursor) : Type 0 where
  x : Value
  at : ℕ
  read : value wide attr cur ≡ Ok (x, next)
  good : accepts (wanted tag attr.name) x ≡ true
  all_is : all ≡ with_found (wanted tag attr.name) (record { name = attr.name; at = at; value = x }) found

next-is : (wide : Bool) (tag : ℕ) (attr : Attr) (found : List Found) (cur : Cursor) (all : List Found) (next : Cursor) → next_value wide tag attr found cur ≡ Ok (all, next)
    → IsNext wide tag attr found cur all next
unfolding next_value
next-is wide tag attr found cur all next e =
    let a = split (value wide attr cur) _ all next e in
    let b = split (refuse_if (not (accepts (wanted tag attr.name) a.value)) cur.at BadClass a.cur) _ all next a.follows in
    let u = unless (not (accepts (wanted tag attr.name) a.value)) cur.at BadClass b.value a.cur b.cur b.first in
    let p = same_pair (with_found (wanted tag attr.name) (record { name = attr.name; at = cur.at; value = a.value }) found) all b.cur next b.follows in
    record {
      x = a.value;
      at = cur.at;
      read = a.first ∙ ap (λ (c : Cursor). Ok (a.value, c)) (u.stays ∙ ap (λ (p : List Found × Cursor). p.1) p);
      good = true_from_not (accepts (wanted tag attr.name) a.value) u.holds_not;
      all_is = ap (λ (p : List Found × Cursor). p.0) (sym p);
    }
  where
    true_from_not : (b : Bool) → not b ≡ false → b ≡ true
    true_from_not true e = refl
    true_from_not false e = absurd cc

tells_wanted : (tag : ℕ) (told : List ℕ) (attr : Attr) → tells_nothing tag told attr ≡ false → is_implicit attr.form ≡ true → is_unused (wanted tag attr.name) ≡ false
tells_wanted tag told attr tells implicit =
    let parts = or_parts (takes_none attr.form && is_unused (wanted tag attr.name)) (is_implicit attr.form && is_among told attr.name) tells in
    elim (and_cases (takes_none attr.form) (is_unused (wanted tag attr.name)) parts.0) [
      | inl takes ↦ let none = or_right (attr.form == 0x19) (is_implicit attr.form) implicit in absurd cc
      | inr used ↦ used
    ]

alone : (b : Bool) → (b || false) ≡ true → b ≡ true
alone true e = refl
alone false e = e

told_more : (wide : Bool) (tag : ℕ) (told : List ℕ) (attr : Attr) (found all : List Found) (cur next : Cursor) → AreTold tag told found → tells_nothing tag told attr ≡ false
    → next_value wide tag attr found cur ≡ Ok (all, next) → AreTold tag (told_with told attr) all
told_more wide tag told attr found all cur next are tells e =
    elim (cases_Bool (is_implicit attr.form)) [
      | inl implicit ↦ subst (λ (names : List ℕ). AreTold tag names all) (sym (cond-true (is_implicit attr.form) (told ++ attr.name ∷ []) told implicit)) (λ name among. with_one name implicit (or_cases (is_among told name) _ (sym (list_any-append (λ (other : ℕ). other == name) told (attr.name ∷ [])) ∙ among)))
      | inr other ↦ subst (λ (names : List ℕ). AreTold tag names all) (sym (cond-false (is_implicit attr.form) (told ++ attr.name ∷ []) told other)) (λ name among. kept name among)
    ]
  where
    is : IsNext wide tag attr found cur all next
    is = next-is wide tag attr found cur all next e

    kept : (name : ℕ) → is_among told name ≡ true → (has_name all name ≡ true) × (accepts (wanted tag name) (const 0) ≡ true)
    kept name among =
        let old = are name among in
        (subst (λ (fs : List Found). has_name fs name ≡ true) (sym is.all_is) (with_found-keeps (wanted tag attr.name) _ found name old.0), old.1)

    with_one : (name : ℕ) → is_implicit attr.form ≡ true → (is_among told name ≡ true) ⊎ (((attr.name == name) || false) ≡ true) → (has_name all name ≡ true) × (accepts (wanted tag name) (const 0) ≡ true)
    with_one name implicit (inl among) = kept name among
    with_one name implicit (inr same) =
        let here : attr.name ≡ name = eqb-true attr.name name (alone (attr.name == name) same) in
        let used = tells_wanted tag told attr tells implicit in
        let there : has_name all attr.name ≡ true = subst (λ (fs : List Found). has_name fs attr.name ≡ true) (sym is.all_is)
        (with_found-has (wanted tag attr.name) (record { name = attr.name; at = is.at; value = is.x }) found used) in
        let x_is : is.x ≡ signed_const attr.implicit = ap (λ (p : Value × Cursor). p.0) (same_pair is.x (signed_const attr.implicit) next cur (sym is.read ∙ implicit_here wide attr cur implicit)) in
        let good : accepts (wanted tag attr.name) (const 0) ≡ true = sym (accepts-signed (wanted tag attr.name) attr.implicit) ∙ ap (accepts (wanted tag attr.name)) (sym x_is) ∙ is.good in
        subst (λ (n : ℕ). (has_name all n ≡ true) × (accepts (wanted tag n) (const 0) ≡ true)) here (there, good)

-- ---- all attributes

from_telling : (wide : Bool) (tag : ℕ) (told : List ℕ) (attrs : List Attr) (found : List Found) (cur : Cursor) → AreTold tag told found
    → values_from wide tag (telling_behind tag told attrs) found cur ≡ values_from wide tag attrs found cur
from_telling wide tag told [] found cur are = refl
from_telling wide tag told (attr ∷ attrs) found cur are =
    elim (cases_Bool (tells_nothing tag told attr)) [
      | inl nothing ↦
          ap (λ (list : List Attr). values_from wide tag list found cur) (cond-true (tells_nothing tag told attr) (telling_behind tag told attrs) _ nothing)
          ∙ from_telling wide tag told attrs found cur are
          ∙ sym (ap (λ (r : Read (List Found)). behind r (values_from wide tag attrs)) (nothing_told wide tag told attr found cur are nothing))
      | inr tells ↦
          ap (λ (list : List Attr). values_from wide tag list found cur) (cond-false (tells_nothing tag told attr) (telling_behind tag told attrs) (attr ∷ telling_behind tag (told_with told attr) attrs) tells)
          ∙ behind_it (λ all next told_all. from_telling wide tag (told_with told attr) attrs all next told_all) tells (next_value wide tag attr found cur) refl
    ]
  where
    behind_it : ((all : List Found) (next : Cursor) → AreTold tag (told_with told attr) all
        → values_from wide tag (telling_behind tag (told_with told attr) attrs) all next ≡ values_from wide tag attrs all next)
        → tells_nothing tag told attr ≡ false → (r : Read (List Found)) → next_value wide tag attr found cur ≡ r
        → behind r (values_from wide tag (telling_behind tag (told_with told attr) attrs)) ≡ behind r (values_from wide tag attrs)
    behind_it others tells (Err place) e = refl
    behind_it others tells (Ok (all, next)) e = others all next (told_more wide tag told attr found all cur next are tells e)

values-telling : (wide : Bool) (tag : ℕ) (attrs : List Attr) (cur : Cursor) → values wide tag (telling_behind tag [] attrs) cur ≡ values wide tag attrs cur
unfolding values
values-telling wide tag attrs cur = from_telling wide tag [] attrs [] cur (λ name among. absurd cc)

-- the entry of an abbreviation is that of the shortened one
pub entry_of-shortened : (of : InUnit) (at : ℕ) (kind : Abbrev) (so_far : SoFar) (cur : Cursor) → entry_of of at (shortened kind) so_far cur ≡ entry_of of at kind so_far cur
unfolding entry_of
entry_of-shortened of at kind so_far cur =
    elim (cases_Bool (nat_lt 1024 so_far.depth)) [
      | inl deep ↦ rw deep refl
      | inr shallow ↦ elim (cases_Bool (nat_le max_entries (length so_far.entries))) [
        | inl full ↦ rw (shallow, full) refl
        | inr room ↦ rw (shallow, room, values-telling of.wide kind.tag kind.attrs cur) refl
      ]
    ]

-- ---- the abbreviations of a table

pub known-shortened : (of : InUnit) (at : ℕ) (found : Option Abbrev) (kind : Abbrev) (so_far : SoFar) (cur : Cursor) → Some kind ≡ option_map shortened found
    → entry_of of at kind so_far cur ≡ entry_if_known of at found so_far cur
known-shortened of at None kind so_far cur is = absurd cc
known-shortened of at (Some known) kind so_far cur is =
    let same : kind ≡ shortened known = cc in
    ap (λ (k : Abbrev). entry_of of at k so_far cur) same ∙ entry_of-shortened of at known so_far cur

pub unknown-shortened : (found : Option Abbrev) → None ≡ option_map shortened found → found ≡ None
unknown-shortened None is = refl
unknown-shortened (Some known) is = absurd cc

position_within : (table : List Abbrev) (code index : ℕ) → position (λ (a : Abbrev). a.code == code) table ≡ Some index → index < length table
position_within table code index is = (position-Some (λ (a : Abbrev). a.code == code) table index (record { code = 0; tag = 0; children = false; attrs = [] }) is).0

pub index-within : (table kinds : List Abbrev) (code index : ℕ) → kinds ≡ map shortened table → position (λ (a : Abbrev). a.code == code) table ≡ Some index → index < length kinds
index-within table kinds code index are is =
    omega (arith, position_within table code index is, ap (λ (ks : List Abbrev). length ks) are, length-map table shortened)

pub kind-found : (table kinds : List Abbrev) (code index : ℕ) (kind : Abbrev) → kinds ≡ map shortened table → position (λ (a : Abbrev). a.code == code) table ≡ Some index
    → kind ≡ get_or kinds index kind → Some kind ≡ option_map shortened (find_code table code)
unfolding find_code
kind-found table kinds code index kind are is here =
    let first : position_or_len (λ (a : Abbrev). a.code == code) table ≡ index = grind (arith, nat_tests) in
    sym (slice_get_read kinds (length kinds) index kind refl (index-within table kinds code index are is) here)
    ∙ ap (λ (ks : List Abbrev). slice_get ks index) are ∙ slice_get-map shortened table index
    ∙ ap (option_map shortened) (sym (find_at (λ (a : Abbrev). a.code == code) table ∙ ap (slice_get table) first))

pub kinds-more : (table kinds : List Abbrev) (index : ℕ) (kind : Abbrev) → kinds ≡ map shortened (take index table) → slice_get table index ≡ Some kind
    → kinds ++ shortened kind ∷ [] ≡ map shortened (take (index + 1) table)
kinds-more table kinds index kind are is =
    let all : take (index + 1) table ≡ take index table ++ kind ∷ [] =
    take_more table index kind (slice_get_within table index kind is) ∙ ap (λ (k : Abbrev). take index table ++ k ∷ []) (get_or_from_slice_get table index kind kind is) in
    ap (λ (ks : List Abbrev). ks ++ shortened kind ∷ []) are ∙ sym (map-append shortened (take index table) (kind ∷ [])) ∙ ap (map shortened) (sym all)

-- one abbreviation more takes its room
pub room-more : (table : List Abbrev) (index room : ℕ) (kind : Abbrev) → room ≡ room_of (take index table) → slice_get table index ≡ Some kind
    → min (min (room + 1) (2 ^ 64 - 1) + length kind.attrs) (2 ^ 64 - 1) ≡ room_of (take (index + 1) table)
room-more table index room kind are is =
    let all : take (index + 1) table ≡ take index table ++ kind ∷ [] =
    take_more table index kind (slice_get_within table index kind is) ∙ ap (λ (k : Abbrev). take index table ++ k ∷ []) (get_or_from_slice_get table index kind kind is) in
    let own : Abbrev → ℕ = λ (k : Abbrev). 1 + length k.attrs in
    let total : sum_by own (take (index + 1) table) ≡ sum_by own (take index table) + own kind = ap (sum_by own) all ∙ sum_by_push own (take index table) kind in
    omega (arith, are, total)

-- an entry whose code is in the table
pub next-known : (of : InUnit) (table : List Abbrev) (so_far : SoFar) (cur mid : Cursor) (code at : ℕ) (kind : Abbrev) → uleb cur ≡ Ok (code, mid) → code ≢ 0 → at ≡ cur.at
    → Some kind ≡ option_map shortened (find_code table code) → next_entry of table so_far cur ≡ entry_of of at kind so_far mid
unfolding next_entry entry_of_code
next-known of table so_far cur mid code at kind read some here is =
    ap (λ (r : Read ℕ). behind r (λ (n : ℕ). entry_of_code of table cur.at n so_far)) read
    ∙ ap (λ (b : Bool). cond b (gives (closed so_far)) (entry_if_known of cur.at (find_code table code) so_far) mid) (ne_eqb code 0 some)
    ∙ sym (known-shortened of cur.at (find_code table code) kind so_far mid is)
    ∙ ap (λ (n : ℕ). entry_of of n kind so_far mid) (sym here)
