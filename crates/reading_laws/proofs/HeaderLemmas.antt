-- Headers of units and what spells them.
use Rattle.std.proofs.Common.{◌≡◌, ◌⊎◌, ℕ, ◌<◌, ◌≤◌, Bool, true, false, cond, length, nat_le, nat_lt, Option, None, Some, Ok, refl, sym, ap, subst, inl, inr, ◌∙◌, arith}
use Rattle.std.specs.Prelude.{◌≢◌, ◌==◌, ◌||◌, not}
use Rattle.std.proofs.lemmas.Bool.Decides.{nat_tests}
use Rattle.byte_view.specs.Cursor.{Cursor, Reads}
use Rattle.byte_view.specs.Reading.{SpellsField}
use Rattle.placed_view.specs.Reader.{gives, field, cursor_behind}
use Rattle.value_model.specs.Forms.{offset_size}
use Rattle.unit_model.specs.Header.{Header, long_length, short_length, sized, unit_length, leads_into, abbrevs_at, address_size, header_4, is_read_type, header_5_behind, header_5, other_version, header}
use Rattle.reading_laws.specs.Headers.{SpellsLength, DWARF_32, DWARF_64, ReadLengthsAreSpelled, SpelledLengthsAreRead, SpellsAbbrevs, SpellsHeader, version_4, version_5, other_type, older, ReadHeadersAreSpelled, SpelledHeadersAreRead}
use Rattle.reading_laws.proofs.CursorLemmas.{same_pair, split, told_as-same, reads_field, field_reads, unless, unit_sized}

-- a field of a value that is known
as_known : (size : ℕ) (old new : Cursor) (m n : ℕ) → Reads (SpellsField size) old new m → m ≡ n → Reads (SpellsField size) old new n
as_known size old new m n r e = subst (λ (k : ℕ). Reads (SpellsField size) old new k) e r

-- the cursor stayed
stayed : (size : ℕ) (old a b : Cursor) (n : ℕ) → Reads (SpellsField size) old a n → a ≡ b → Reads (SpellsField size) old b n
stayed size old a b n r e = subst (λ (c : Cursor). Reads (SpellsField size) old c n) e r

-- ---- lengths

sized-spelled : (at : ℕ) (old new : Cursor) (x : Bool × ℕ) → sized at old ≡ Ok (x, new) → SpellsLength old new x.0 x.1
unfolding sized
sized-spelled at old new x e =
    let a = split _ _ x new e in
    let r = reads_field 4 old a.cur a.value (told_as-same at _ (field 4 old) a.value a.cur a.first) in
    go a.value a.cur r (a.value == 0xffffffff) refl a.follows
  where
    go : (first : ℕ) (cur : Cursor) → Reads (SpellsField 4) old cur first → (test : Bool) → (first == 0xffffffff) ≡ test
        → cond test (long_length at) (short_length at first) cur ≡ Ok (x, new) → SpellsLength old new x.0 x.1
    go first cur r true is e =
        let b = split _ _ x new e in
        let size = reads_field 8 cur b.cur b.value (told_as-same at _ (field 8 cur) b.value b.cur b.first) in
        let ones : first ≡ 0xffffffff = grind (arith, nat_tests) in
        subst (λ (p : (Bool × ℕ) × Cursor). SpellsLength old p.1 p.0.0 p.0.1) (same_pair (true, b.value) x b.cur new b.follows)
        (DWARF_64 old cur b.cur b.value (as_known 4 old cur first 0xffffffff r ones) size)
    go first cur r false is e =
        let b = split _ _ x new e in
        let u = unless (nat_le 0xfffffff0 first) at _ b.value cur b.cur b.first in
        let small : first < 0xfffffff0 = let h = u.holds_not in grind (arith, nat_tests) in
        subst (λ (p : (Bool × ℕ) × Cursor). SpellsLength old p.1 p.0.0 p.0.1) (same_pair (false, first) x b.cur new b.follows)
        (DWARF_32 old b.cur first (stayed 4 old cur b.cur first r u.stays) small)

sized-again : (at : ℕ) (old new : Cursor) (wide : Bool) (size : ℕ) → SpellsLength old new wide size → sized at old ≡ Ok ((wide, size), new)
unfolding sized
sized-again at _ _ _ _ (DWARF_32 old new size r small) =
    let is = field_reads 4 old new size r in
    let no_ones : (size == 0xffffffff) ≡ false = grind (arith, nat_tests) in
    let no_refusal : nat_le 0xfffffff0 size ≡ false = grind (arith, nat_tests) in
    rw (is, no_ones, no_refusal) refl
sized-again at _ _ _ _ (DWARF_64 old middle new size ones r) =
    let is = field_reads 4 old middle 0xffffffff ones in
    let more = field_reads 8 middle new size r in
    rw (is, more) refl

pub read_lengths-spelled : ReadLengthsAreSpelled
read_lengths-spelled old new wide size e =
    let s = unit_sized old new (wide, size) e in
    (sized-spelled old.at old new (wide, size) s.read, s.room)

pub spelled_lengths-read : SpelledLengthsAreRead
unfolding unit_length
spelled_lengths-read old new wide size spelled room =
    let is = sized-again old.at old new wide size spelled in
    let enough : nat_lt (length new.left) size ≡ false = grind (arith, nat_tests) in
    rw (is, enough) refl

-- ---- the parts of a header

abbrevs-spelled : (wide : Bool) (section : Option Cursor) (old new start : Cursor) → abbrevs_at wide section old ≡ Ok (start, new) → SpellsAbbrevs wide section old new start
unfolding abbrevs_at
abbrevs-spelled wide section old new start e =
    let a = split (field (offset_size wide) old) _ start new e in
    go section a.cur a.value (reads_field (offset_size wide) old a.cur a.value a.first) a.follows
  where
    go : (section : Option Cursor) (cur : Cursor) (offset : ℕ) → Reads (SpellsField (offset_size wide)) old cur offset
        → leads_into section old.at offset cur ≡ Ok (start, new) → SpellsAbbrevs wide section old new start
    go None cur offset r e = absurd cc
    go (Some abbrevs) cur offset r e =
        let b = split _ _ start new e in
        let u = unless (nat_lt (length abbrevs.left) offset) old.at _ b.value cur b.cur b.first in
        let fits : offset ≤ length abbrevs.left = let h = u.holds_not in grind (arith, nat_tests) in
        let p = same_pair (cursor_behind offset abbrevs) start b.cur new b.follows in
        record {
          offset = offset;
          field = stayed (offset_size wide) old cur new offset r (u.stays ∙ ap (λ (p : Cursor × Cursor). p.1) p);
          abbrevs = abbrevs;
          there = refl;
          inside = fits;
          leads = sym (ap (λ (p : Cursor × Cursor). p.0) p);
        }

abbrevs-again : (wide : Bool) (section : Option Cursor) (old new start : Cursor) → SpellsAbbrevs wide section old new start → abbrevs_at wide section old ≡ Ok (start, new)
unfolding abbrevs_at
abbrevs-again wide section old new start s =
    let is = field_reads (offset_size wide) old new s.offset s.field in
    let inside = s.inside in
    let enough : nat_lt (length s.abbrevs.left) s.offset ≡ false = grind (arith, nat_tests) in
    rw (is, s.there, s.leads, enough) refl

size-spelled : (old new : Cursor) (u : Unit {0}) → address_size old ≡ Ok (u, new) → Reads (SpellsField 1) old new 8
unfolding address_size
size-spelled old new u e =
    let a = split (field 1 old) _ u new e in
    let q = unless (not (a.value == 8)) old.at _ u a.cur new a.follows in
    let eight : a.value ≡ 8 = let h = q.holds_not in grind (arith, nat_tests) in
    stayed 1 old a.cur new 8 (as_known 1 old a.cur a.value 8 (reads_field 1 old a.cur a.value a.first) eight) q.stays

size-again : (old new : Cursor) → Reads (SpellsField 1) old new 8 → address_size old ≡ Ok (tt, new)
unfolding address_size
size-again old new r = rw (field_reads 1 old new 8 r) refl

-- ---- headers

module _ (wide : Bool) (section : Option Cursor) (old : Cursor) where
  4-spelled : (a new : Cursor) (head : Option Header) → Reads (SpellsField 2) old a 4 → header_4 wide section a ≡ Ok (head, new) → SpellsHeader wide section old new head
  unfolding header_4
  4-spelled a new head r e =
      let b = split (abbrevs_at wide section a) _ head new e in
      let c = split (address_size b.cur) _ head new b.follows in
      subst (λ (p : Option Header × Cursor). SpellsHeader wide section old p.1 p.0) (same_pair _ head c.cur new c.follows)
      (version_4 old a b.cur c.cur b.value r (abbrevs-spelled wide section a b.cur b.value b.first) (size-spelled b.cur c.cur c.value c.first))

  5-spelled : (a new : Cursor) (head : Option Header) → Reads (SpellsField 2) old a 5 → header_5 wide section a ≡ Ok (head, new) → SpellsHeader wide section old new head
  unfolding header_5 header_5_behind
  5-spelled a new head r e =
      let b = split (field 1 a) _ head new e in
      go b.cur b.value (reads_field 1 a b.cur b.value b.first) (is_read_type b.value) refl b.follows
    where
      go : (cur : Cursor) (type : ℕ) → Reads (SpellsField 1) a cur type → (test : Bool) → is_read_type type ≡ test
          → cond test (header_5_behind wide section) (gives None) cur ≡ Ok (head, new) → SpellsHeader wide section old new head
      go cur type t true is e =
          let b = split (address_size cur) _ head new e in
          let c = split (abbrevs_at wide section b.cur) _ head new b.follows in
          let known : (type ≡ 1) ⊎ (type ≡ 3) = grind (arith, nat_tests) in
          subst (λ (p : Option Header × Cursor). SpellsHeader wide section old p.1 p.0) (same_pair _ head c.cur new c.follows)
          (version_5 old a cur b.cur c.cur c.value type r t known (size-spelled cur b.cur b.value b.first) (abbrevs-spelled wide section b.cur c.cur c.value c.first))
      go cur type t false is e =
          let not_1 : type ≢ 1 = λ one. grind (arith, nat_tests) in
          let not_3 : type ≢ 3 = λ three. grind (arith, nat_tests) in
          subst (λ (p : Option Header × Cursor). SpellsHeader wide section old p.1 p.0) (same_pair None head cur new e)
          (other_type old a cur type r t not_1 not_3)

  other-spelled : (at version : ℕ) (a new : Cursor) (head : Option Header) → Reads (SpellsField 2) old a version → other_version at version a ≡ Ok (head, new) → SpellsHeader wide section old new head
  other-spelled at version a new head r e =
      let b = split _ _ head new e in
      let u = unless (not (version == 2 || version == 3)) at _ b.value a b.cur b.first in
      let known : (version ≡ 2) ⊎ (version ≡ 3) = let h = u.holds_not in grind (arith, nat_tests) in
      subst (λ (p : Option Header × Cursor). SpellsHeader wide section old p.1 p.0) (same_pair None head b.cur new b.follows)
      (older old b.cur version (stayed 2 old a b.cur version r u.stays) known)

pub read_headers-spelled : ReadHeadersAreSpelled
unfolding header
read_headers-spelled wide section old new head e =
    let a = split (field 2 old) _ head new e in
    go a.value a.cur (reads_field 2 old a.cur a.value a.first) (a.value == 4) (a.value == 5) refl refl a.follows
  where
    go : (version : ℕ) (cur : Cursor) → Reads (SpellsField 2) old cur version → (is_4 is_5 : Bool) → (version == 4) ≡ is_4 → (version == 5) ≡ is_5
        → cond is_4 (header_4 wide section) (cond is_5 (header_5 wide section) (other_version old.at version)) cur ≡ Ok (head, new)
        → SpellsHeader wide section old new head
    go version cur r true is_5 four five e =
        let known : version ≡ 4 = grind (arith, nat_tests) in
        4-spelled wide section old cur new head (as_known 2 old cur version 4 r known) e
    go version cur r false true four five e =
        let known : version ≡ 5 = grind (arith, nat_tests) in
        5-spelled wide section old cur new head (as_known 2 old cur version 5 r known) e
    go version cur r false false four five e = other-spelled wide section old old.at version cur new head r e

pub spelled_headers-read : SpelledHeadersAreRead
unfolding header header_4 header_5 header_5_behind
spelled_headers-read wide section _ _ _ (version_4 old a b new start r s size) =
    rw (field_reads 2 old a 4 r, abbrevs-again wide section a b start s, size-again b new size) refl
spelled_headers-read wide section _ _ _ (version_5 old a b c new start type r t known size s) =
    let read : is_read_type type ≡ true = grind (arith, nat_tests) in
    rw (field_reads 2 old a 5 r, field_reads 1 a b type t, read, size-again b c size, abbrevs-again wide section c new start s) refl
spelled_headers-read wide section _ _ _ (other_type old a new type r t not_1 not_3) =
    let unread : is_read_type type ≡ false = grind (arith, nat_tests) in
    rw (field_reads 2 old a 5 r, field_reads 1 a new type t, unread) refl
spelled_headers-read wide section _ _ _ (older old new version r (inl two)) =
    rw (field_reads 2 old new version r, two) refl
spelled_headers-read wide section _ _ _ (older old new version r (inr three)) =
    rw (field_reads 2 old new version r, three) refl
