-- Tables as they are read and as they are spelled.
use Rattle.std.proofs.Common.{◌≡◌, ◌≢◌, ℕ, zero, suc, ◌+◌, ◌-◌, ◌<◌, ◌≤◌, ℤ, pos, Bool, true, false, cond, nat_le, nat_lt, List, [], ◌∷◌, ◌++◌, drop, length, Option, None, Some, Ok, Err, refl, sym, ap, subst, ◌∙◌, inl, inr, arith}
use Rattle.std.specs.Prelude.{◌==◌, ◌&&◌, is_some}
use Rattle.std.specs.List.{AllByRecursion, find}
use Rattle.std.proofs.lemmas.Bool.{cases_Bool, eqb-true, eq-eqb, ne_eqb}
use Rattle.std.proofs.lemmas.Bool.Decides.{nat_tests}
use Rattle.std.proofs.lemmas.List.{append-nil, append_assoc, length-append}
use Rattle.byte_view.specs.Cursor.{Cursor, Passes, Reads}
use Rattle.byte_view.specs.Reading.{SpellsField, SpellsUleb, SpellsSleb}
use Rattle.placed_view.specs.Reader.{Read, Reader, behind, gives, refuse_if, uleb, sleb, field}
use Rattle.placed_view.specs.Steps.{goes_on, steps, to_the_end}
use Rattle.placed_view.proofs.ReadLemmas.{uleb-shorter}
use Rattle.unit_model.specs.Abbrev.{Attr, Abbrev, find_code, has_code}
use Rattle.unit_model.specs.Table.{implicit, next_attr, attrs, max_abbrevs, children_byte, abbrev_of, abbrev_behind, next_abbrev, table}
use Rattle.entry_model.specs.Tables.{SpellsImplicit, DW_FORM_implicit_const, other_form, SpellsAttr, SpellsAttrs, no_attr, attr_first, children_code, SpellsAbbrev, SpellsTable, no_abbrev, abbrev_first, AreDistinct, IsTable}
use Rattle.entry_model.proofs.CursorLemmas.{same_pair, reads_uleb, uleb_reads, reads_sleb, sleb_reads, reads_field, field_reads, not_longer, Split, split, Unless, unless, unless-again}

-- ---- the constant of a form

differ : (m n : ℕ) → (m == n) ≡ false → m ≢ n
differ m n not same = let yes_ = eq-eqb m n same in cc

reads_implicit : (form : ℕ) (old new : Cursor) (z : ℤ) → implicit form old ≡ Ok (z, new) → SpellsImplicit form old new z
unfolding implicit
reads_implicit form old new z e = go (form == 0x21) refl e
  where
    go : (test : Bool) → (form == 0x21) ≡ test → cond test sleb (gives (pos 0)) old ≡ Ok (z, new) → SpellsImplicit form old new z
    go true is e = rw (eqb-true form 0x21 is) (DW_FORM_implicit_const old new z (reads_sleb old new z e))
    go false is e =
        subst (λ (p : ℤ × Cursor). SpellsImplicit form old p.1 p.0) (same_pair (pos 0) z old new e) (other_form form old (differ form 0x21 is))

implicit_reads : (form : ℕ) (old new : Cursor) (z : ℤ) → SpellsImplicit form old new z → implicit form old ≡ Ok (z, new)
unfolding implicit
implicit_reads _ _ _ _ (DW_FORM_implicit_const old new z r) = sleb_reads old new z r
implicit_reads _ _ _ _ (other_form form cur other) = rw (ne_eqb form 0x21 other) refl

implicit-not_longer : (form : ℕ) (old new : Cursor) (z : ℤ) → SpellsImplicit form old new z → length new.left ≤ length old.left
implicit-not_longer _ _ _ _ (DW_FORM_implicit_const old new z r) = not_longer old new r.bytes r.passed
implicit-not_longer _ _ _ _ (other_form form cur other) = omega arith

-- ---- attributes

-- What is read behind some attributes: their end, or one more.
data AttrRead (before : List Attr) : Cursor → Cursor → Option (List Attr) → Type 0 where
  over : (old behind_it new : Cursor) → Reads SpellsUleb old behind_it 0 → Reads SpellsUleb behind_it new 0 → AttrRead before old new None
  more : (old new : Cursor) (attr : Attr) → SpellsAttr old new attr → (attr.name ≡ 0 → attr.form ≢ 0) → AttrRead before old new (Some (before ++ attr ∷ []))

attr_read : (before : List Attr) (old new : Cursor) (next : Option (List Attr)) → next_attr before old ≡ Ok (next, new) → AttrRead before old new next
unfolding next_attr
attr_read before old new next e =
    let a = split (uleb old) _ next new e in
    let b = split (uleb a.cur) _ next new a.follows in
    let c = split (implicit b.value b.cur) _ next new b.follows in
    go a.value b.value c.value a.cur b.cur c.cur (reads_uleb old a.cur a.value a.first) (reads_uleb a.cur b.cur b.value b.first)
    (reads_implicit b.value b.cur c.cur c.value c.first) (a.value == 0) (b.value == 0) refl refl c.follows
  where
    attr_is : (name form : ℕ) (z : ℤ) (c d last : Cursor) → Reads SpellsUleb old c name → Reads SpellsUleb c d form → SpellsImplicit form d last z
        → (name ≡ 0 → form ≢ 0) → ◌≡◌ {A = Read (Option (List Attr))} (Ok (Some (before ++ record { name = name; form = form; implicit = z } ∷ []), last)) (Ok (next, new)) → AttrRead before old new next
    attr_is name form z c d last r s i some e =
        subst (λ (p : Option (List Attr) × Cursor). AttrRead before old p.1 p.0) (same_pair _ next last new e)
        (more old last (record { name = name; form = form; implicit = z }) (record { behind_name = c; behind_form = d; name = r; form = s; implicit = i }) some)

    go : (name form : ℕ) (z : ℤ) (c d last : Cursor) → Reads SpellsUleb old c name → Reads SpellsUleb c d form → SpellsImplicit form d last z
        → (zero_name zero_form : Bool) → (name == 0) ≡ zero_name → (form == 0) ≡ zero_form
        → gives (cond (zero_name && zero_form) None (Some (before ++ record { name = name; form = form; implicit = z } ∷ []))) last ≡ Ok (next, new)
        → AttrRead before old new next
    go name form z c d last r s i true true is_name is_form e =
        let n = eqb-true name 0 is_name in
        let f = eqb-true form 0 is_form in
        let read : Reads SpellsUleb c last 0 = ends form z d last i f s in
        let first : Reads SpellsUleb old c 0 = subst (λ m. Reads SpellsUleb old c m) n r in
        subst (λ (p : Option (List Attr) × Cursor). AttrRead before old p.1 p.0) (same_pair None next last new e) (over old c last first read)
      where
        ends : (form : ℕ) (z : ℤ) (d last : Cursor) → SpellsImplicit form d last z → form ≡ 0 → Reads SpellsUleb c d form → Reads SpellsUleb c last 0
        ends _ _ _ _ (DW_FORM_implicit_const d last z q) f s = absurd (omega (arith, f))
        ends _ _ _ _ (other_form form cur other) f s = subst (λ m. Reads SpellsUleb c cur m) f s
    go name form z c d last r s i true false is_name is_form e =
        attr_is name form z c d last r s i (λ _. differ form 0 is_form) e
    go name form z c d last r s i false zero_form is_name is_form e =
        attr_is name form z c d last r s i (λ same. absurd (differ name 0 is_name same)) e

attr_again-over : (before : List Attr) (old behind_it new : Cursor) → Reads SpellsUleb old behind_it 0 → Reads SpellsUleb behind_it new 0 → next_attr before old ≡ Ok (None, new)
unfolding next_attr implicit
attr_again-over before old behind_it new r s = rw (uleb_reads old behind_it 0 r, uleb_reads behind_it new 0 s) refl

attr_again-more : (before : List Attr) (old new : Cursor) (attr : Attr) → SpellsAttr old new attr → (attr.name ≡ 0 → attr.form ≢ 0) → next_attr before old ≡ Ok (Some (before ++ attr ∷ []), new)
unfolding next_attr
attr_again-more before old new attr a some =
    rw (uleb_reads old a.behind_name attr.name a.name, uleb_reads a.behind_name a.behind_form attr.form a.form, implicit_reads attr.form a.behind_form new attr.implicit a.implicit)
    (go (attr.name == 0) (attr.form == 0) refl refl)
  where
    go : (zero_name zero_form : Bool) → (attr.name == 0) ≡ zero_name → (attr.form == 0) ≡ zero_form
        → ◌≡◌ {A = Read (Option (List Attr))} (Ok (cond (zero_name && zero_form) None (Some (before ++ attr ∷ [])), new)) (Ok (Some (before ++ attr ∷ []), new))
    go true true n f = absurd (some (eqb-true attr.name 0 n) (eqb-true attr.form 0 f))
    go true false n f = refl
    go false zero_form n f = refl

attr-shorter : (old new : Cursor) (attr : Attr) → SpellsAttr old new attr → length new.left < length old.left
attr-shorter old new attr a =
    let n = uleb-shorter old a.behind_name attr.name a.name in
    let f = uleb-shorter a.behind_name a.behind_form attr.form a.form in
    let i = implicit-not_longer attr.form a.behind_form new attr.implicit a.implicit in
    omega (arith, n, f, i)

-- Behind some attributes those were read that are spelled.
record AttrsRead (before all : List Attr) (old new : Cursor) : Type 0 where
  own : List Attr
  joined : all ≡ before ++ own
  spelled : SpellsAttrs old new own

attrs_read : (n : ℕ) (before all : List Attr) (old new : Cursor) → length old.left < n → steps next_attr n before old ≡ Ok (all, new) → AttrsRead before all old new
attrs_read zero before all old new enough e = absurd (omega (arith, enough))
attrs_read (suc n) before all old new enough e =
    let s = split (next_attr before old) (goes_on before (λ later c. steps next_attr n later c)) all new e in
    go s.cur s.value (attr_read before old s.cur s.value s.first) s.follows (λ later cur less is. attrs_read n later all cur new less is)
  where
    go : (cur : Cursor) (next : Option (List Attr)) → AttrRead before old cur next → goes_on before (λ later c. steps next_attr n later c) next cur ≡ Ok (all, new)
        → ((later : List Attr) (cur : Cursor) → length cur.left < n → steps next_attr n later cur ≡ Ok (all, new) → AttrsRead later all cur new)
        → AttrsRead before all old new
    go _ _ (over old_ behind_it cur r s) e later =
        subst (λ (p : List Attr × Cursor). AttrsRead before p.0 old p.1) (same_pair before all cur new e)
        (record { own = []; joined = sym (append-nil before); spelled = no_attr old behind_it cur r s })
    go _ _ (more old_ cur attr a some) e later =
        let less = attr-shorter old cur attr a in
        let l = later (before ++ attr ∷ []) cur (omega (arith, less, enough)) e in
        record {
          own = attr ∷ l.own;
          joined = l.joined ∙ append_assoc before (attr ∷ []) l.own;
          spelled = attr_first old cur new attr l.own a some l.spelled;
        }

attrs_again : (old new : Cursor) (own : List Attr) → SpellsAttrs old new own → (n : ℕ) (before : List Attr) → length old.left < n → steps next_attr n before old ≡ Ok (before ++ own, new)
attrs_again _ _ _ spelled zero before enough = absurd (omega (arith, enough))
attrs_again _ _ _ (no_attr old behind_it new r s) (suc n) before enough =
    rw (attr_again-over before old behind_it new r s) (ap (λ (xs : List Attr). Ok (xs, new)) (sym (append-nil before)))
attrs_again _ _ _ (attr_first old behind_it new attr own a some spelled) (suc n) before enough =
    let less = attr-shorter old behind_it attr a in
    let l = attrs_again behind_it new own spelled n (before ++ attr ∷ []) (omega (arith, less, enough)) in
    rw (attr_again-more before old behind_it attr a some)
    (l ∙ ap (λ (xs : List Attr). Ok (xs, new)) (append_assoc before (attr ∷ []) own))

reads_attrs : (old new : Cursor) (own : List Attr) → attrs old ≡ Ok (own, new) → SpellsAttrs old new own
unfolding attrs
reads_attrs old new own e =
    let r = attrs_read (suc (length old.left)) [] own old new (omega arith) e in
    subst (λ (xs : List Attr). SpellsAttrs old new xs) (sym r.joined) r.spelled

attrs_reads : (old new : Cursor) (own : List Attr) → SpellsAttrs old new own → attrs old ≡ Ok (own, new)
unfolding attrs
attrs_reads old new own spelled = attrs_again old new own spelled (suc (length old.left)) [] (omega arith)

attrs-not_longer : (old new : Cursor) (own : List Attr) → SpellsAttrs old new own → length new.left ≤ length old.left
attrs-not_longer _ _ _ (no_attr old behind_it new r s) =
    let a = not_longer old behind_it r.bytes r.passed in
    let b = not_longer behind_it new s.bytes s.passed in
    omega (arith, a, b)
attrs-not_longer _ _ _ (attr_first old behind_it new attr own a some spelled) =
    let less = attr-shorter old behind_it attr a in
    let l = attrs-not_longer behind_it new own spelled in
    omega (arith, less, l)

-- ---- the byte that says whether children may follow

code_of_one : (n : ℕ) (test : Bool) → (n == 1) ≡ test → n ≤ 1 → n ≡ children_code test
code_of_one n true is small = eqb-true n 1 is
code_of_one n false is small = let apart = differ n 1 is in grind (arith, nat_tests)

is_one : (children : Bool) → (children_code children == 1) ≡ children
is_one true = refl
is_one false = refl

at_most_one : (children : Bool) → nat_lt 1 (children_code children) ≡ false
at_most_one true = refl
at_most_one false = refl

reads_children : (old new : Cursor) (children : Bool) → children_byte old ≡ Ok (children, new) → Reads (SpellsField 1) old new (children_code children)
unfolding children_byte
reads_children old new children e =
    let a = split (field 1 old) _ children new e in
    let b = split _ _ children new a.follows in
    let u = unless (nat_lt 1 a.value) old.at _ b.value a.cur b.cur b.first in
    let small : a.value ≤ 1 = let h = u.holds_not in grind (arith, nat_tests) in
    let p = same_pair (a.value == 1) children b.cur new b.follows in
    let test : (a.value == 1) ≡ children = ap (λ (p : Bool × Cursor). p.0) p in
    let last : a.cur ≡ new = u.stays ∙ ap (λ (p : Bool × Cursor). p.1) p in
    subst (λ (p : ℕ × Cursor). Reads (SpellsField 1) old p.1 p.0)
    (ap (λ (m : ℕ). (m, a.cur)) (code_of_one a.value children test small) ∙ ap (λ (c : Cursor). (children_code children, c)) last)
    (reads_field 1 old a.cur a.value a.first)

children_reads : (old new : Cursor) (children : Bool) → Reads (SpellsField 1) old new (children_code children) → children_byte old ≡ Ok (children, new)
unfolding children_byte
children_reads old new children r =
    rw (field_reads 1 old new (children_code children) r, at_most_one children, is_one children) refl

-- ---- abbreviations

pub record AbbrevRead (code : ℕ) (old new : Cursor) (kind : Abbrev) : Type 0 where
  pub behind_tag : Cursor
  pub behind_children : Cursor
  pub code_is : kind.code ≡ code
  pub tag : Reads SpellsUleb old behind_tag kind.tag
  pub children : Reads (SpellsField 1) behind_tag behind_children (children_code kind.children)
  pub attrs : SpellsAttrs behind_children new kind.attrs

abbrev_read : (code : ℕ) (old new : Cursor) (kind : Abbrev) → abbrev_of code old ≡ Ok (kind, new) → AbbrevRead code old new kind
unfolding abbrev_of
abbrev_read code old new kind e =
    let a = split (uleb old) _ kind new e in
    let b = split (children_byte a.cur) _ kind new a.follows in
    let c = split (attrs b.cur) _ kind new b.follows in
    subst (λ (p : Abbrev × Cursor). AbbrevRead code old p.1 p.0)
    (same_pair (record { code = code; tag = a.value; children = b.value; attrs = c.value }) kind c.cur new c.follows)
    (record {
      behind_tag = a.cur;
      behind_children = b.cur;
      code_is = refl;
      tag = reads_uleb old a.cur a.value a.first;
      children = reads_children a.cur b.cur b.value b.first;
      attrs = reads_attrs b.cur c.cur c.value c.first;
    })

abbrev_reads : (kind : Abbrev) (behind_code behind_tag behind_children new : Cursor) → Reads SpellsUleb behind_code behind_tag kind.tag
    → Reads (SpellsField 1) behind_tag behind_children (children_code kind.children) → SpellsAttrs behind_children new kind.attrs → abbrev_of kind.code behind_code ≡ Ok (kind, new)
unfolding abbrev_of
abbrev_reads kind behind_code behind_tag behind_children new tag children list =
    rw (uleb_reads behind_code behind_tag kind.tag tag, children_reads behind_tag behind_children kind.children children, attrs_reads behind_children new kind.attrs list) refl

abbrev-shorter : (old new : Cursor) (kind : Abbrev) → SpellsAbbrev old new kind → length new.left < length old.left
abbrev-shorter old new kind k =
    let a = uleb-shorter old k.behind_code kind.code k.code in
    let b = not_longer k.behind_code k.behind_tag k.tag.bytes k.tag.passed in
    let c = not_longer k.behind_tag k.behind_children k.children.bytes k.children.passed in
    let d = attrs-not_longer k.behind_children new kind.attrs k.attrs in
    omega (arith, a, b, c, d)

-- ---- codes

has_code-cons : (kind : Abbrev) (kinds : List Abbrev) (code : ℕ) → kind.code ≢ code → has_code (kind ∷ kinds) code ≡ has_code kinds code
unfolding find_code
has_code-cons kind kinds code apart = rw (ne_eqb kind.code code apart) refl

has_code-here : (kind : Abbrev) (kinds : List Abbrev) (code : ℕ) → kind.code ≡ code → has_code (kind ∷ kinds) code ≡ true
unfolding find_code
has_code-here kind kinds code same = rw (eq-eqb kind.code code same) refl

none : (code : ℕ) → has_code [] code ≡ false
unfolding find_code
none code = refl

-- the code of the last one is another, and none before has it
has_code-last : (kinds : List Abbrev) (kind : Abbrev) (code : ℕ) → has_code (kinds ++ kind ∷ []) code ≡ false → (has_code kinds code ≡ false) × (kind.code ≢ code)
has_code-last [] kind code not = (none code, λ same. let is = has_code-here kind [] code same in absurd cc)
has_code-last (other ∷ kinds) kind code not =
    elim (cases_Bool (other.code == code)) [
      | inl same ↦ let is = has_code-here other (kinds ++ kind ∷ []) code (eqb-true other.code code same) in absurd cc
      | inr apart ↦
          let ne = differ other.code code apart in
          let e = has_code-cons other (kinds ++ kind ∷ []) code ne in
          let f = has_code-cons other kinds code ne in
          let l = has_code-last kinds kind code (sym e ∙ not) in
          (f ∙ l.0, l.1)
    ]

has_code-more : (kinds : List Abbrev) (kind : Abbrev) (code : ℕ) → has_code kinds code ≡ false → kind.code ≢ code → has_code (kinds ++ kind ∷ []) code ≡ false
has_code-more [] kind code not apart = has_code-cons kind [] code apart ∙ none code
has_code-more (other ∷ kinds) kind code not apart =
    elim (cases_Bool (other.code == code)) [
      | inl same ↦ let is = has_code-here other kinds code (eqb-true other.code code same) in absurd cc
      | inr differs ↦
          let ne = differ other.code code differs in
          has_code-cons other (kinds ++ kind ∷ []) code ne
          ∙ has_code-more kinds kind code (sym (has_code-cons other kinds code ne) ∙ not) apart
    ]

-- Codes that none of the abbreviations before has.
abbrev AreNew : List Abbrev → List Abbrev → Type 0
AreNew before own = AllByRecursion (λ kind. has_code before kind.code ≡ false) own

all_new : (own : List Abbrev) → AreNew [] own
all_new [] = tt
all_new (kind ∷ own) = (none kind.code, all_new own)

new_before : (before : List Abbrev) (kind : Abbrev) (own : List Abbrev) → AreNew (before ++ kind ∷ []) own → AreNew before own × AllByRecursion (λ other. kind.code ≢ other.code) own
new_before before kind [] news = (tt, tt)
new_before before kind (other ∷ own) news =
    let l = has_code-last before kind other.code news.0 in
    let rest = new_before before kind own news.1 in
    ((l.0, rest.0), (l.1, rest.1))

new_behind : (before : List Abbrev) (kind : Abbrev) (own : List Abbrev) → AreNew before own → AllByRecursion (λ other. kind.code ≢ other.code) own → AreNew (before ++ kind ∷ []) own
new_behind before kind [] news apart = tt
new_behind before kind (other ∷ own) news apart = (has_code-more before kind other.code news.0 apart.0, new_behind before kind own news.1 apart.1)

-- ---- tables

-- What is read behind some abbreviations: the table's end, or one more.
data KindRead (before : List Abbrev) : Cursor → Cursor → Option (List Abbrev) → Type 0 where
  no_more : (old new : Cursor) → Reads SpellsUleb old new 0 → KindRead before old new None
  one_more : (old new : Cursor) (kind : Abbrev) → SpellsAbbrev old new kind → has_code before kind.code ≡ false → length before < max_abbrevs
      → KindRead before old new (Some (before ++ kind ∷ []))

kind_behind : (before : List Abbrev) (old behind_code new : Cursor) (code : ℕ) (next : Option (List Abbrev)) → Reads SpellsUleb old behind_code code → code ≢ 0
    → abbrev_behind before old.at code behind_code ≡ Ok (next, new) → KindRead before old new next
unfolding abbrev_behind
kind_behind before old behind_code new code next r some e =
    let a = split _ _ next new e in
    let twice = unless (has_code before code) old.at _ a.value behind_code a.cur a.first in
    let b = split _ _ next new a.follows in
    let full = unless (nat_le max_abbrevs (length before)) old.at _ b.value a.cur b.cur b.first in
    let c = split (abbrev_of code b.cur) _ next new b.follows in
    let k = abbrev_read code b.cur c.cur c.value c.first in
    let few : length before < max_abbrevs = let h = full.holds_not in grind (arith, nat_tests) in
    let here : behind_code ≡ b.cur = twice.stays ∙ full.stays in
    let code_read : Reads SpellsUleb old b.cur c.value.code =
    subst (λ (p : ℕ × Cursor). Reads SpellsUleb old p.1 p.0) (ap (λ (m : ℕ). (m, behind_code)) (sym k.code_is) ∙ ap (λ (q : Cursor). (c.value.code, q)) here) r in
    let new_code : has_code before c.value.code ≡ false = ap (has_code before) k.code_is ∙ twice.holds_not in
    let nonzero : c.value.code ≢ 0 = λ zero_code. some (sym k.code_is ∙ zero_code) in
    subst (λ (p : Option (List Abbrev) × Cursor). KindRead before old p.1 p.0) (same_pair (Some (before ++ c.value ∷ [])) next c.cur new c.follows)
    (one_more old c.cur c.value
    (record { behind_code = b.cur; behind_tag = k.behind_tag; behind_children = k.behind_children; code = code_read; some = nonzero; tag = k.tag; children = k.children; attrs = k.attrs })
    new_code few)

kind_read : (before : List Abbrev) (old new : Cursor) (next : Option (List Abbrev)) → next_abbrev before old ≡ Ok (next, new) → KindRead before old new next
unfolding next_abbrev
kind_read before old new next e =
    let a = split (uleb old) _ next new e in
    go a.value a.cur (reads_uleb old a.cur a.value a.first) (a.value == 0) refl a.follows
  where
    go : (code : ℕ) (cur : Cursor) → Reads SpellsUleb old cur code → (test : Bool) → (code == 0) ≡ test
        → cond test (gives None) (abbrev_behind before old.at code) cur ≡ Ok (next, new) → KindRead before old new next
    go code cur r true is e =
        subst (λ (p : Option (List Abbrev) × Cursor). KindRead before old p.1 p.0) (same_pair None next cur new e)
        (no_more old cur (subst (λ m. Reads SpellsUleb old cur m) (eqb-true code 0 is) r))
    go code cur r false is e = kind_behind before old cur new code next r (differ code 0 is) e

kind_again-over : (before : List Abbrev) (old new : Cursor) → Reads SpellsUleb old new 0 → next_abbrev before old ≡ Ok (None, new)
unfolding next_abbrev
kind_again-over before old new r = rw (uleb_reads old new 0 r) refl

kind_again-more : (before : List Abbrev) (old new : Cursor) (kind : Abbrev) → SpellsAbbrev old new kind → has_code before kind.code ≡ false → length before < max_abbrevs
    → next_abbrev before old ≡ Ok (Some (before ++ kind ∷ []), new)
unfolding next_abbrev abbrev_behind
kind_again-more before old new kind k fresh few =
    let room : nat_le max_abbrevs (length before) ≡ false = grind (arith, nat_tests) in
    rw (uleb_reads old k.behind_code kind.code k.code, ne_eqb kind.code 0 k.some, fresh, room, abbrev_reads kind k.behind_code k.behind_tag k.behind_children new k.tag k.children k.attrs) refl

-- Behind some abbreviations those were read that are spelled.
record KindsRead (before all : List Abbrev) (old new : Cursor) : Type 0 where
  own : List Abbrev
  joined : all ≡ before ++ own
  spelled : SpellsTable old new own
  news : AreNew before own
  distinct : AreDistinct own
  few : length all ≤ max_abbrevs

kinds_read : (n : ℕ) (before all : List Abbrev) (old new : Cursor) → length old.left < n → length before ≤ max_abbrevs → steps next_abbrev n before old ≡ Ok (all, new) → KindsRead before all old new
kinds_read zero before all old new enough room e = absurd (omega (arith, enough))
kinds_read (suc n) before all old new enough room e =
    let s = split (next_abbrev before old) (goes_on before (λ later c. steps next_abbrev n later c)) all new e in
    go s.cur s.value (kind_read before old s.cur s.value s.first) s.follows (λ later cur less room is. kinds_read n later all cur new less room is)
  where
    go : (cur : Cursor) (next : Option (List Abbrev)) → KindRead before old cur next → goes_on before (λ later c. steps next_abbrev n later c) next cur ≡ Ok (all, new)
        → ((later : List Abbrev) (cur : Cursor) → length cur.left < n → length later ≤ max_abbrevs → steps next_abbrev n later cur ≡ Ok (all, new) → KindsRead later all cur new)
        → KindsRead before all old new
    go _ _ (no_more old_ cur r) e later =
        subst (λ (p : List Abbrev × Cursor). KindsRead before p.0 old p.1) (same_pair before all cur new e)
        (record { own = []; joined = sym (append-nil before); spelled = no_abbrev old cur r; news = tt; distinct = tt; few = room })
    go _ _ (one_more old_ cur kind k fresh few) e later =
        let less = abbrev-shorter old cur kind k in
        let long = length-append before (kind ∷ []) in
        let l = later (before ++ kind ∷ []) cur (omega (arith, less, enough)) (omega (arith, long, few)) e in
        let n = new_before before kind l.own l.news in
        record {
          own = kind ∷ l.own;
          joined = l.joined ∙ append_assoc before (kind ∷ []) l.own;
          spelled = abbrev_first old cur new kind l.own k l.spelled;
          news = (fresh, n.0);
          distinct = (n.1, l.distinct);
          few = l.few;
        }

kinds_again : (old new : Cursor) (own : List Abbrev) → SpellsTable old new own → (n : ℕ) (before : List Abbrev) → length old.left < n → AreNew before own → AreDistinct own
    → length before + length own ≤ max_abbrevs → steps next_abbrev n before old ≡ Ok (before ++ own, new)
kinds_again _ _ _ spelled zero before enough news distinct few = absurd (omega (arith, enough))
kinds_again _ _ _ (no_abbrev old new r) (suc n) before enough news distinct few =
    rw (kind_again-over before old new r) (ap (λ (xs : List Abbrev). Ok (xs, new)) (sym (append-nil before)))
kinds_again _ _ _ (abbrev_first old behind_it new kind own k spelled) (suc n) before enough news distinct few =
    let less = abbrev-shorter old behind_it kind k in
    let long = length-append before (kind ∷ []) in
    let l = kinds_again behind_it new own spelled n (before ++ kind ∷ []) (omega (arith, less, enough)) (new_behind before kind own news.1 distinct.0) distinct.1 (omega (arith, long, few)) in
    rw (kind_again-more before old behind_it kind k news.0 (omega (arith, few)))
    (l ∙ ap (λ (xs : List Abbrev). Ok (xs, new)) (append_assoc before (kind ∷ []) own))

pub tables-read : (old new : Cursor) (kinds : List Abbrev) → table old ≡ Ok (kinds, new) → SpellsTable old new kinds × IsTable kinds
unfolding table
tables-read old new kinds e =
    let r = kinds_read (suc (length old.left)) [] kinds old new (omega arith) (omega arith) e in (
      subst (λ (xs : List Abbrev). SpellsTable old new xs) (sym r.joined) r.spelled,
      record { distinct = subst (λ (xs : List Abbrev). AreDistinct xs) (sym r.joined) r.distinct; few = r.few },
    )

pub tables-again : (old new : Cursor) (kinds : List Abbrev) → SpellsTable old new kinds → IsTable kinds → table old ≡ Ok (kinds, new)
unfolding table
tables-again old new kinds spelled is =
    kinds_again old new kinds spelled (suc (length old.left)) [] (omega arith) (all_new kinds) is.distinct (omega (arith, is.few))

-- what is read behind the first abbreviation of a table
pub table-rest : (old mid new : Cursor) (kinds first : List Abbrev) → table old ≡ Ok (kinds, new) → next_abbrev [] old ≡ Ok (Some first, mid) → table mid ≡ Ok (drop 1 kinds, new)
unfolding table
table-rest old mid new kinds first whole one =
    go mid (Some first) (kind_read [] old mid (Some first) one) refl
    (sym (ap (λ (r : Read (Option (List Abbrev))). behind r (goes_on [] (λ later c. steps next_abbrev (length old.left) later c))) one) ∙ whole)
  where
    go : (cur : Cursor) (next : Option (List Abbrev)) → KindRead [] old cur next → next ≡ Some first
        → goes_on [] (λ later c. steps next_abbrev (length old.left) later c) next cur ≡ Ok (kinds, new) → table cur ≡ Ok (drop 1 kinds, new)
    go _ _ (no_more old_ cur r) some e = absurd cc
    go _ _ (one_more old_ cur kind k fresh few) some e =
        let less = abbrev-shorter old cur kind k in
        let r = kinds_read (length old.left) (kind ∷ []) kinds cur new (omega (arith, less)) (omega arith) e in
        let again = tables-again cur new r.own r.spelled (record { distinct = r.distinct; few = omega (arith, r.few, ap length r.joined) }) in
        again ∙ ap (λ (xs : List Abbrev). Ok (xs, new)) (sym (ap (drop 1) r.joined))

-- ---- which bytes an abbreviation passes

-- Bytes were passed.
pub record Moves (old new : Cursor) : Type 0 where
  pub bytes : List ℕ
  pub passed : Passes old new bytes

moves_on : (a b c : Cursor) → Moves a b → Moves b c → Moves a c
moves_on a b c m n = record {
  bytes = m.bytes ++ n.bytes;
  passed = record {
    left = m.passed.left ∙ ap (λ (xs : List ℕ). m.bytes ++ xs) n.passed.left ∙ sym (append_assoc m.bytes n.bytes c.left);
    at = omega (arith, m.passed.at, n.passed.at, length-append m.bytes n.bytes);
  };
}

moves : {X : Type 0} (Spells : List ℕ → X → Type 0) (old new : Cursor) (x : X) → Reads Spells old new x → Moves old new
moves Spells old new x r = record { bytes = r.bytes; passed = r.passed }

implicit-moves : (form : ℕ) (old new : Cursor) (z : ℤ) → SpellsImplicit form old new z → Moves old new
implicit-moves _ _ _ _ (DW_FORM_implicit_const old new z r) = moves SpellsSleb old new z r
implicit-moves _ _ _ _ (other_form form cur other) = record { bytes = []; passed = record { left = refl; at = omega arith } }

attr-moves : (old new : Cursor) (attr : Attr) → SpellsAttr old new attr → Moves old new
attr-moves old new attr a =
    moves_on old a.behind_name new (moves SpellsUleb old a.behind_name attr.name a.name)
    (moves_on a.behind_name a.behind_form new (moves SpellsUleb a.behind_name a.behind_form attr.form a.form) (implicit-moves attr.form a.behind_form new attr.implicit a.implicit))

attrs-moves : (old new : Cursor) (attrs : List Attr) → SpellsAttrs old new attrs → Moves old new
attrs-moves _ _ _ (no_attr old behind_it new name form) = moves_on old behind_it new (moves SpellsUleb old behind_it 0 name) (moves SpellsUleb behind_it new 0 form)
attrs-moves _ _ _ (attr_first old behind_it new attr attrs a some rest) = moves_on old behind_it new (attr-moves old behind_it attr a) (attrs-moves behind_it new attrs rest)

abbrev-moves : (old new : Cursor) (kind : Abbrev) → SpellsAbbrev old new kind → Moves old new
abbrev-moves old new kind k =
    moves_on old k.behind_code new (moves SpellsUleb old k.behind_code kind.code k.code)
    (moves_on k.behind_code k.behind_tag new (moves SpellsUleb k.behind_code k.behind_tag kind.tag k.tag)
    (moves_on k.behind_tag k.behind_children new (moves (SpellsField 1) k.behind_tag k.behind_children (children_code kind.children) k.children)
    (attrs-moves k.behind_children new kind.attrs k.attrs)))

-- the first abbreviation of a table passes bytes
pub first-moves : (old mid : Cursor) (first : List Abbrev) → next_abbrev [] old ≡ Ok (Some first, mid) → Moves old mid
first-moves old mid first one = go mid (Some first) (kind_read [] old mid (Some first) one) refl
  where
    go : (cur : Cursor) (next : Option (List Abbrev)) → KindRead [] old cur next → next ≡ Some first → Moves old cur
    go _ _ (no_more old_ cur r) some = absurd cc
    go _ _ (one_more old_ cur kind k fresh few) some = abbrev-moves old cur kind k
