-- The tables of abbreviations of a section, by their offsets.
use Rattle.std.proofs.Common.{◌≡◌, ◌≢◌, ℕ, ◌+◌, ◌-◌, Bool, true, false, cond, nat_lt, length, List, Option, None, Some, Ok, sym, ap, subst, ◌∙◌, inl, inr, arith}
use Rattle.std.specs.Prelude.{◌==◌, ◌||◌, not}
use Rattle.std.specs.Ordering.{nat_cmp}
use Rattle.std.specs.BTreeMap.{BTreeMap, get}
use Rattle.std.proofs.lemmas.Bool.{cases_eq}
use Rattle.byte_view.specs.Cursor.{Cursor}
use Rattle.refusal.specs.declared.kind.Kind.TheVariants.{BadVersion, PastSection}
use Rattle.placed_view.specs.Reader.{gives, refuse_if, cursor_behind, field}
use Rattle.value_model.specs.Forms.{offset_size}
use Rattle.unit_model.specs.Abbrev.{Abbrev}
use Rattle.unit_model.specs.Header.{Header, leads_into, abbrevs_at, address_size, header_4, is_read_type, header_5_behind, header_5, other_version, header_of_version, header}
use Rattle.entry_model.proofs.CursorLemmas.{same_pair, split}
use Rattle.dwarf_info.specs.Tables.{from_offset, IsTableAt, HoldsTables, StandsIn}

first : {X : Type 0} (x y : X) (a b : Cursor) → gives x a ≡ Ok (y, b) → x ≡ y
first {X = X} x y a b e = ap (λ (p : X × Cursor). p.0) (same_pair x y a b e)

at_offset : (section : Cursor) (offset : ℕ) (x : Cursor) → cursor_behind offset section ≡ x → x ≡ from_offset (Some section) x.at
at_offset section offset x is =
    let n : offset ≡ (section.at + offset) - section.at = omega arith in
    subst (λ (c : Cursor). c ≡ from_offset (Some section) c.at) is (ap (λ (n : ℕ). cursor_behind n section) n)

stands_into : (section : Option Cursor) (at offset : ℕ) (old new : Cursor) (x : Cursor) → leads_into section at offset old ≡ Ok (x, new) → x ≡ from_offset section x.at
stands_into None at offset old new x e = absurd cc
stands_into (Some section) at offset old new x e =
    let a = split (refuse_if (nat_lt (length section.left) offset) at PastSection old) _ x new e in
    at_offset section offset x (first (cursor_behind offset section) x a.cur new a.follows)

stands_at : (wide : Bool) (section : Option Cursor) (old new : Cursor) (x : Cursor) → abbrevs_at wide section old ≡ Ok (x, new) → x ≡ from_offset section x.at
unfolding abbrevs_at
stands_at wide section old new x e =
    let a = split (field (offset_size wide) old) _ x new e in
    stands_into section old.at a.value a.cur new x a.follows

stands_head : (section : Option Cursor) (version : ℕ) (start : Cursor) (x : Option Header) → start ≡ from_offset section start.at → Some (record { version = version; abbrevs = start }) ≡ x → StandsIn section x
stands_head section version start x is same = subst (StandsIn section) same is

stands_4 : (wide : Bool) (section : Option Cursor) (old new : Cursor) (x : Option Header) → header_4 wide section old ≡ Ok (x, new) → StandsIn section x
unfolding header_4
stands_4 wide section old new x e =
    let a = split (abbrevs_at wide section old) _ x new e in
    let b = split (address_size a.cur) _ x new a.follows in
    stands_head section 4 a.value x (stands_at wide section old a.cur a.value a.first) (first (Some (record { version = 4; abbrevs = a.value })) x b.cur new b.follows)

stands_5_behind : (wide : Bool) (section : Option Cursor) (old new : Cursor) (x : Option Header) → header_5_behind wide section old ≡ Ok (x, new) → StandsIn section x
unfolding header_5_behind
stands_5_behind wide section old new x e =
    let a = split (address_size old) _ x new e in
    let b = split (abbrevs_at wide section a.cur) _ x new a.follows in
    stands_head section 5 b.value x (stands_at wide section a.cur b.cur b.value b.first) (first (Some (record { version = 5; abbrevs = b.value })) x b.cur new b.follows)

stands_none : (section : Option Cursor) (x : Option Header) → None ≡ x → StandsIn section x
stands_none section x none = subst (StandsIn section) none tt

stands_5 : (wide : Bool) (section : Option Cursor) (old new : Cursor) (x : Option Header) → header_5 wide section old ≡ Ok (x, new) → StandsIn section x
unfolding header_5
stands_5 wide section old new x e =
    let a = split (field 1 old) _ x new e in
    go a.cur (is_read_type a.value) a.follows
  where
    go : (cur : Cursor) (test : Bool) → cond test (header_5_behind wide section) (gives None) cur ≡ Ok (x, new) → StandsIn section x
    go cur true e = stands_5_behind wide section cur new x e
    go cur false e = stands_none section x (first None x cur new e)

stands_other : (section : Option Cursor) (at version : ℕ) (old new : Cursor) (x : Option Header) → other_version at version old ≡ Ok (x, new) → StandsIn section x
stands_other section at version old new x e =
    let a = split (refuse_if (not (version == 2 || version == 3)) at BadVersion old) _ x new e in
    stands_none section x (first None x a.cur new a.follows)

stands_version : (wide : Bool) (section : Option Cursor) (at version : ℕ) (old new : Cursor) (x : Option Header) → header_of_version wide section at version old ≡ Ok (x, new) → StandsIn section x
stands_version wide section at version old new x e = go (version == 4) (version == 5) e
  where
    go : (is_4 is_5 : Bool) → cond is_4 (header_4 wide section) (cond is_5 (header_5 wide section) (other_version at version)) old ≡ Ok (x, new) → StandsIn section x
    go true is_5 e = stands_4 wide section old new x e
    go false true e = stands_5 wide section old new x e
    go false false e = stands_other section at version old new x e

-- where the abbreviations of a header begin
pub header-stands : (wide : Bool) (section : Option Cursor) (old new : Cursor) (x : Option Header) → header wide section old ≡ Ok (x, new) → StandsIn section x
unfolding header
header-stands wide section old new x e =
    let a = split (field 2 old) _ x new e in
    stands_version wide section old.at a.value a.cur new x a.follows

-- a table more that is kept
pub HoldsTables-more : (section : Option Cursor) (old new : BTreeMap ℕ (List Abbrev)) (at : ℕ) (list : List Abbrev) → HoldsTables section old → IsTableAt section at list
    → get nat_cmp new at ≡ Some list → ((other : ℕ) → at ≢ other → get nat_cmp new other ≡ get nat_cmp old other) → HoldsTables section new
HoldsTables-more section old new at list holds is here keeps = record {
  each = λ other told kept. elim (cases_eq at other) [
    | inl same ↦
        let e : Some told ≡ Some list = sym kept ∙ ap (get nat_cmp new) (sym same) ∙ here in
        let there : told ≡ list = cc in
        subst (λ (n : ℕ). IsTableAt section n told) same (subst (IsTableAt section at) (sym there) is)
    | inr apart ↦ holds.each other told (sym (keeps other apart) ∙ kept)
  ];
}
