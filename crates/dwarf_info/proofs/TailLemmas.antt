-- Tables that are tails of others.
use Rattle.std.proofs.Common.{◌≡◌, ◌≢◌, ℕ, zero, suc, ◌+◌, ◌-◌, ◌<◌, ◌≤◌, List, [], ◌∷◌, drop, length, Option, None, Some, Ok, refl, sym, ap, subst, ◌∙◌, inl, inr, arith}
use Rattle.std.specs.Prelude.{◌==◌, position}
use Rattle.std.specs.List.{AllByRecursion, position_or_len}
use Rattle.std.specs.Ordering.{nat_cmp}
use Rattle.std.specs.BTreeMap.{BTreeMap, get}
use Rattle.std.proofs.lemmas.Bool.{cases_eq, eq-eqb, ne_eqb}
use Rattle.std.proofs.lemmas.Bool.Decides.{nat_tests}
use Rattle.std.proofs.lemmas.List.{length-append, drop-drop, drop_at}
use Rattle.byte_view.specs.declared.part.Part.{Part}
use Rattle.byte_view.specs.Cursor.{Cursor}
use Rattle.byte_view.specs.Part.{bytes_of_part}
use Rattle.placed_view.specs.Reader.{IsRead, start_of}
use Rattle.unit_model.specs.Abbrev.{Abbrev, find_code}
use Rattle.unit_model.specs.Table.{table, next_abbrev}
use Rattle.entry_model.specs.Tables.{AreDistinct}
use Rattle.entry_model.proofs.TableLemmas.{tables-read, table-rest, Moves, first-moves}
use Rattle.dwarf_info.specs.declared.tables.Within.{Within}
use Rattle.dwarf_info.specs.Tables.{from_offset, IsTableAt}
use Rattle.dwarf_info.specs.Tails.{IsBehind, HoldsTails}

-- ---- a look-up behind the first abbreviations

first_code : ℕ → List Abbrev → ℕ
first_code code list = position_or_len (λ (a : Abbrev). a.code == code) list

find-cons : (a : Abbrev) (list : List Abbrev) (code : ℕ) → a.code ≢ code → find_code (a ∷ list) code ≡ find_code list code
unfolding find_code
find-cons a list code apart = rw (ne_eqb a.code code apart) refl

find-here : (a : Abbrev) (list : List Abbrev) (code : ℕ) → a.code ≡ code → find_code (a ∷ list) code ≡ Some a
unfolding find_code
find-here a list code same = rw (eq-eqb a.code code same) refl

find-nil : (code : ℕ) → find_code [] code ≡ None
unfolding find_code
find-nil code = refl

-- what is nowhere is not behind
pub none-behind : (list : List Abbrev) (skip code : ℕ) → find_code list code ≡ None → find_code (drop skip list) code ≡ None
none-behind list zero code none = none
none-behind [] (suc skip) code none = none
none-behind (a ∷ list) (suc skip) code none =
    elim (cases_eq a.code code) [
      | inl same ↦ let here = find-here a list code same in absurd cc
      | inr apart ↦ none-behind list skip code (sym (find-cons a list code apart) ∙ none)
    ]

none-other : (list : List Abbrev) (code : ℕ) → AllByRecursion (λ other. code ≢ other.code) list → find_code list code ≡ None
none-other [] code others = find-nil code
none-other (a ∷ list) code others = find-cons a list code (λ same. others.0 (sym same)) ∙ none-other list code others.1

first-cons : (a : Abbrev) (list : List Abbrev) (code : ℕ) → a.code ≢ code → first_code code (a ∷ list) ≡ 1 + first_code code list
unfolding first_code
first-cons a list code apart = rw (ne_eqb a.code code apart) refl

first-here : (a : Abbrev) (list : List Abbrev) (code : ℕ) → a.code ≡ code → first_code code (a ∷ list) ≡ 0
unfolding first_code
first-here a list code same = rw (eq-eqb a.code code same) refl

-- what stands before is not behind, since no code stands twice
skipped : (list : List Abbrev) (skip code : ℕ) → AreDistinct list → first_code code list < skip → find_code (drop skip list) code ≡ None
skipped list zero code distinct before = absurd (omega (arith, before))
skipped [] (suc skip) code distinct before = find-nil code
skipped (a ∷ list) (suc skip) code distinct before =
    elim (cases_eq a.code code) [
      | inl same ↦ none-behind list skip code (none-other list code (subst (λ (n : ℕ). AllByRecursion (λ (other : Abbrev). n ≢ other.code) list) same distinct.0))
      | inr apart ↦ skipped list skip code distinct.1 (omega (arith, before, first-cons a list code apart))
    ]

-- what does not stand before is found behind
stays-behind : (list : List Abbrev) (skip code : ℕ) → skip ≤ first_code code list → find_code (drop skip list) code ≡ find_code list code
stays-behind list zero code behind = refl
stays-behind [] (suc skip) code behind = refl
stays-behind (a ∷ list) (suc skip) code behind =
    elim (cases_eq a.code code) [
      | inl same ↦ absurd (omega (arith, behind, first-here a list code same))
      | inr apart ↦ stays-behind list skip code (omega (arith, behind, first-cons a list code apart)) ∙ sym (find-cons a list code apart)
    ]

first-is : (list : List Abbrev) (code index : ℕ) → position (λ (a : Abbrev). a.code == code) list ≡ Some index → first_code code list ≡ index
unfolding first_code
first-is list code index is = grind (arith, nat_tests)

pub before-skip : (list : List Abbrev) (skip code index : ℕ) → AreDistinct list → position (λ (a : Abbrev). a.code == code) list ≡ Some index → index < skip → find_code (drop skip list) code ≡ None
before-skip list skip code index distinct is before = skipped list skip code distinct (omega (arith, before, first-is list code index is))

pub behind-skip : (list : List Abbrev) (skip code index : ℕ) → position (λ (a : Abbrev). a.code == code) list ≡ Some index → skip ≤ index → find_code (drop skip list) code ≡ find_code list code
behind-skip list skip code index is behind = stays-behind list skip code (omega (arith, behind, first-is list code index is))

-- ---- where a cursor stands in the section

empty : (xs : List ℕ) → length xs ≡ 0 → xs ≡ []
empty [] none = refl
empty (x ∷ xs) none = absurd (omega (arith, none))

pub offset-moves : (section : Option Cursor) (old new : Cursor) → old ≡ from_offset section old.at → Moves old new → new ≡ from_offset section new.at
offset-moves None old new is m =
    let gone : length old.left ≡ 0 = ap (λ (c : Cursor). length c.left) is in
    ap (λ (l : List ℕ). record { at = new.at; left = l }) (empty new.left (omega (arith, gone, ap length m.passed.left, length-append m.bytes new.left)))
offset-moves (Some section) old new is m =
    let at : old.at ≡ section.at + (old.at - section.at) = ap (λ (c : Cursor). c.at) is in
    let left : old.left ≡ drop (old.at - section.at) section.left = ap (λ (c : Cursor). c.left) is in
    let count : (old.at - section.at) + length m.bytes ≡ new.at - section.at = omega (arith, at, m.passed.at) in
    let to : new.at ≡ section.at + (new.at - section.at) = omega (arith, at, m.passed.at) in
    let rest : new.left ≡ drop (new.at - section.at) section.left =
    sym (drop_at m.bytes new.left (length m.bytes) refl) ∙ ap (drop (length m.bytes)) (sym m.passed.left ∙ left)
    ∙ drop-drop (length m.bytes) (old.at - section.at) section.left ∙ ap (λ (n : ℕ). drop n section.left) count in
    ap (λ (l : List ℕ). record { at = new.at; left = l }) rest ∙ ap (λ (n : ℕ). record { at = n; left = drop (new.at - section.at) section.left }) to

-- ---- the tails of a table

-- The cursor stands behind the first abbreviations of the table at an offset.
pub record StandsBehind (section : Option Cursor) (home skip : ℕ) (cur : Cursor) : Type 0 where
  pub here : cur ≡ from_offset section cur.at
  pub tail : (list : List Abbrev) → IsTableAt section home list → IsRead (table cur) (drop skip list)

pub StandsBehind-none : (section : Option Cursor) (part : Part) (cur : Cursor) → start_of part ≡ from_offset section part.at → cur.at ≡ part.at → cur.left ≡ bytes_of_part part
    → StandsBehind section part.at 0 cur
StandsBehind-none section part cur is at left =
    let start : start_of part ≡ cur = ap (λ (n : ℕ). record { at = n; left = bytes_of_part part }) (sym at) ∙ ap (λ (l : List ℕ). record { at = cur.at; left = l }) (sym left) in
    let same : cur ≡ from_offset section part.at = sym start ∙ is in
    record {
      here = same ∙ ap (from_offset section) (sym at);
      tail = λ list there. subst (λ (c : Cursor). IsRead (table c) list) (sym same) there;
    }

pub StandsBehind-more : (section : Option Cursor) (home skip : ℕ) (cur next : Cursor) (first : List Abbrev) → StandsBehind section home skip cur → next_abbrev [] cur ≡ Ok (Some first, next)
    → StandsBehind section home (skip + 1) next
StandsBehind-more section home skip cur next first stands one = record {
  here = offset-moves section cur next stands.here (first-moves cur next first one);
  tail = λ list there.
      let r = stands.tail list there in
      (r.0, table-rest cur next r.0 (drop skip list) first r.1 one ∙ ap (λ (xs : List Abbrev). Ok (xs, r.0)) (drop-drop 1 skip list));
}

pub StandsBehind-is : (section : Option Cursor) (within : Within) (cur : Cursor) → StandsBehind section within.home within.skip cur → IsBehind section within cur.at
StandsBehind-is section within cur stands list there = subst (λ (c : Cursor). IsRead (table c) (drop within.skip list)) stands.here (stands.tail list there)

-- a tail more that is noted
pub HoldsTails-more : (section : Option Cursor) (old new : BTreeMap ℕ Within) (at : ℕ) (within : Within) → HoldsTails section old → IsBehind section within at
    → get nat_cmp new at ≡ Some within → ((other : ℕ) → at ≢ other → get nat_cmp new other ≡ get nat_cmp old other) → HoldsTails section new
HoldsTails-more section old new at within holds is here keeps = record {
  each = λ other told kept. elim (cases_eq at other) [
    | inl same ↦
        let e : Some told ≡ Some within = sym kept ∙ ap (get nat_cmp new) (sym same) ∙ here in
        let there : told ≡ within = cc in
        subst (λ (n : ℕ). IsBehind section told n) same (subst (λ (w : Within). IsBehind section w at) (sym there) is)
    | inr apart ↦ holds.each other told (sym (keeps other apart) ∙ kept)
  ];
}

-- no code stands twice in a table that was read
pub read-distinct : (start : Cursor) (list : List Abbrev) → IsRead (table start) list → AreDistinct list
read-distinct start list is = (tables-read start is.0 list is.1).1.distinct
