-- Units, one behind the other.
use Rattle.std.proofs.Common.{◌≡◌, ℕ, zero, suc, ◌+◌, ◌<◌, ◌≤◌, Bool, true, false, cond, List, [], ◌∷◌, ◌++◌, length, map, sum_by, Option, None, Some, Ok, refl, sym, ap, subst, ◌∙◌, arith}
use Rattle.std.specs.Prelude.{◌==◌}
use Rattle.std.specs.List.{filter_map}
use Rattle.std.proofs.lemmas.Bool.Decides.{nat_tests}
use Rattle.std.proofs.lemmas.List.{append-nil, append_assoc, length-drop}
use Rattle.std.proofs.lemmas.List.Sums.{sum_by-append, sum_by-cons}
use Rattle.byte_view.specs.Cursor.{Cursor}
use Rattle.placed_view.specs.Reader.{Reader, behind, gives, elsewhere, piece_of, cursor_behind}
use Rattle.placed_view.specs.Steps.{goes_on, steps, if_left, step_if_left}
use Rattle.unit_model.specs.Table.{table}
use Rattle.unit_model.specs.Entries.{entries}
use Rattle.unit_model.specs.Header.{Header, header, unit_length}
use Rattle.unit_model.specs.Units.{Unit as UnitRead, Units, no_units, Extent, with_skipped, with_unit, unit_behind, some_unit, unit_body, next_unit, units}
use Rattle.reading_laws.specs.Units.{Part, read, passed, span_of, unit_of, passed_of, Follow, UnitsFillSections, BytesHaveOneUnit, has}
use Rattle.reading_laws.proofs.CursorLemmas.{same_pair, split, Ahead, unit_sized}

-- Units behind others.
record Joined (before told : Units) (parts : List Part) : Type 0 where
  read_are : told.units ≡ before.units ++ filter_map unit_of parts
  passed_are : told.skipped ≡ before.skipped ++ filter_map passed_of parts

-- One unit more, which stands so.
record AddsOne (before told : Units) (from to : ℕ) : Type 0 where
  part : Part
  span : span_of part ≡ (from, to)
  joined : Joined before told (part ∷ [])

behind_adds : (extent : Extent) (head : Option Header) (before told : Units) (old new : Cursor) → unit_behind extent head before old ≡ Ok (told, new) → AddsOne before told extent.at extent.end
behind_adds extent None before told old new e =
    let p = same_pair (with_skipped extent before) told old new e in
    subst (λ (t : Units). AddsOne before t extent.at extent.end) (ap (λ (p : Units × Cursor). p.0) p)
    (record {
      part = passed (extent.at, extent.end);
      span = refl;
      joined = record { read_are = sym (append-nil before.units); passed_are = refl };
    })
behind_adds extent (Some head) before told old new e =
    let a = split (elsewhere head.abbrevs table old) _ told new e in
    let b = split (entries _ a.value before.entries a.cur) _ told new a.follows in
    let p = same_pair (with_unit extent head.version b.value before) told b.cur new b.follows in
    subst (λ (t : Units). AddsOne before t extent.at extent.end) (ap (λ (p : Units × Cursor). p.0) p)
    (record {
      part = read _;
      span = refl;
      joined = record { read_are = refl; passed_are = sym (append-nil before.skipped) };
    })

body_adds : (section : Option Cursor) (extent : Extent) (size : ℕ) (before told : Units) (old new : Cursor) → unit_body section extent size before old ≡ Ok (told, new) → AddsOne before told extent.at extent.end
unfolding unit_body
body_adds section extent size before told old new e = go (size == 0) e
  where
    go : (test : Bool) → cond test (gives (with_skipped extent before)) (some_unit section extent before) old ≡ Ok (told, new) → AddsOne before told extent.at extent.end
    go true e = behind_adds extent None before told old new e
    go false e =
        let a = split (header extent.wide section old) _ told new e in
        behind_adds extent a.value before told a.cur new a.follows

-- A unit goes from where its cursor stood to where it stands.
record Adds (before told : Units) (old new : Cursor) : Type 0 where
  adds : AddsOne before told old.at new.at
  ahead : Ahead 4 old new

unit_adds : (section : Option Cursor) (before told : Units) (old new : Cursor) → next_unit section before old ≡ Ok (told, new) → Adds before told old new
unfolding next_unit
unit_adds section before told old new e =
    let a = split (unit_length old) _ told new e in
    let s = unit_sized old a.cur a.value a.first in
    let size = a.value.1 in
    let b = split (unit_body section _ size before (piece_of size a.cur)) _ told new a.follows in
    let x = body_adds section _ size before b.value (piece_of size a.cur) b.cur b.first in
    let last = cursor_behind size a.cur in
    let p = same_pair b.value told last new b.follows in
    let rest = length-drop size a.cur.left in
    let places = s.ahead.places in
    let ends = s.ahead.ends in
    let room = s.room in
    subst (λ (p : Units × Cursor). Adds before p.0 old p.1) p
    (record { adds = x; ahead = record { places = omega (arith, places); ends = omega (arith, ends, rest, room) } })

joined_on : (before one told : Units) (part : Part) (parts : List Part) → Joined before one (part ∷ []) → Joined one told parts → Joined before told (part ∷ parts)
joined_on before one told (read unit) parts j k = record {
  read_are = k.read_are ∙ ap (λ (us : List UnitRead). us ++ filter_map unit_of parts) j.read_are ∙ append_assoc before.units (unit ∷ []) (filter_map unit_of parts);
  passed_are = k.passed_are ∙ ap (λ (ss : List (ℕ × ℕ)). ss ++ filter_map passed_of parts) (j.passed_are ∙ append-nil before.skipped);
}
joined_on before one told (passed span) parts j k = record {
  read_are = k.read_are ∙ ap (λ (us : List UnitRead). us ++ filter_map unit_of parts) (j.read_are ∙ append-nil before.units);
  passed_are = k.passed_are ∙ ap (λ (ss : List (ℕ × ℕ)). ss ++ filter_map passed_of parts) j.passed_are ∙ append_assoc before.skipped (span ∷ []) (filter_map passed_of parts);
}

-- The units from a cursor on, up to the end of its section.
record Fills (before told : Units) (old : Cursor) : Type 0 where
  parts : List Part
  joined : Joined before told parts
  follow : Follow old.at parts (old.at + length old.left)

fills_none : (before told : Units) (old new : Cursor) → old.left ≡ [] → gives before old ≡ Ok (told, new) → Fills before told old
fills_none before told old new none e =
    let p = same_pair before told old new e in
    let empty : length old.left ≡ 0 = ap length none in
    subst (λ (t : Units). Fills before t old) (ap (λ (p : Units × Cursor). p.0) p)
    (record {
      parts = [];
      joined = record { read_are = sym (append-nil before.units); passed_are = sym (append-nil before.skipped) };
      follow = omega (arith, empty);
    })

fills_more : (before one told : Units) (old next : Cursor) → Adds before one old next → Fills one told next → Fills before told old
fills_more before one told old next a f =
    let places = a.ahead.places in
    let from : (span_of a.adds.part).0 ≡ old.at = ap (λ (s : ℕ × ℕ). s.0) a.adds.span in
    let to : (span_of a.adds.part).1 ≡ next.at = ap (λ (s : ℕ × ℕ). s.1) a.adds.span in
    let later : Follow next.at f.parts (old.at + length old.left) = subst (λ (n : ℕ). Follow next.at f.parts n) (sym a.ahead.ends) f.follow in
    record {
      parts = a.adds.part ∷ f.parts;
      joined = joined_on before one told a.adds.part f.parts a.adds.joined f.joined;
      follow = (from, omega (arith, places, to), subst (λ (n : ℕ). Follow n f.parts (old.at + length old.left)) (sym to) later);
    }

module _ (section : Option Cursor) where
  abbrev step : Units → Reader (Option Units)
  step = step_if_left (next_unit section)

  steps_fill : (n : ℕ) (before told : Units) (old new : Cursor) → length old.left < n → steps step n before old ≡ Ok (told, new) → Fills before told old
  steps_fill zero before told old new room e = absurd (omega (arith, room))
  steps_fill (suc n) before told old new room e =
      at_left old.left refl e (λ later cur less is. steps_fill n later told cur new (omega (arith, less, room)) is)
    where
      Later : Type 0
      Later = (later : Units) (cur : Cursor) → length cur.left < length old.left → steps step n later cur ≡ Ok (told, new) → Fills later told cur

      at_left : (left : List ℕ) → old.left ≡ left → behind (if_left left (next_unit section before old) old) (goes_on before (λ later c. steps step n later c)) ≡ Ok (told, new) → Later → Fills before told old
      at_left [] is e later = fills_none before told old new is e
      at_left (byte ∷ rest) is e later =
          let s = split (behind (next_unit section before old) (λ state. gives (Some state))) (goes_on before (λ later c. steps step n later c)) told new e in
          let t = split (next_unit section before old) _ s.value s.cur s.first in
          let p = same_pair (Some t.value) s.value t.cur s.cur t.follows in
          let f : steps step n t.value t.cur ≡ Ok (told, new) =
          subst (λ (p : Option Units × Cursor). goes_on before (λ later c. steps step n later c) p.0 p.1 ≡ Ok (told, new)) (sym p) s.follows in
          let a = unit_adds section before t.value old t.cur t.first in
          let places = a.ahead.places in
          let ends = a.ahead.ends in
          fills_more before t.value told old t.cur a (later t.value t.cur (omega (arith, places, ends)) f)

pub units_fill-sections : UnitsFillSections
unfolding units
units_fill-sections abbrevs section new told e =
    let f = steps_fill abbrevs (suc (length section.left)) no_units told section new (omega arith) e in
    (f.parts, f.follow, f.joined.read_are, f.joined.passed_are)

-- ---- the unit of a byte

-- 1 for a place that is within, and 0 for another.
abbrev one : ℕ → ℕ × ℕ → ℕ
one at span = cond (has at span) 1 0

abbrev read_span : UnitRead → ℕ × ℕ
read_span unit = (unit.at, unit.end)

both_lists : (at : ℕ) (parts : List Part) → sum_by (one at) (map read_span (filter_map unit_of parts)) + sum_by (one at) (filter_map passed_of parts) ≡ sum_by (λ part. one at (span_of part)) parts
both_lists at [] = refl
both_lists at (read unit ∷ parts) =
    let others = both_lists at parts in
    let mine = sum_by-cons (one at) (read_span unit) (map read_span (filter_map unit_of parts)) in
    let all = sum_by-cons (λ (part : Part). one at (span_of part)) (read unit) parts in
    omega (arith, others, mine, all)
both_lists at (passed span ∷ parts) =
    let others = both_lists at parts in
    let mine = sum_by-cons (one at) span (filter_map passed_of parts) in
    let all = sum_by-cons (λ (part : Part). one at (span_of part)) (passed span) parts in
    omega (arith, others, mine, all)

-- a place up to another, and from there on
halves : (at from middle to : ℕ) → from ≤ middle → middle ≤ to → one at (from, middle) + one at (middle, to) ≡ one at (from, to)
halves at from middle to before behind_it = grind (arith, nat_tests)

none_within : (at from : ℕ) → one at (from, from) ≡ 0
none_within at from = grind (arith, nat_tests)

forward : (from to : ℕ) (parts : List Part) → Follow from parts to → from ≤ to
forward from to [] f = omega (arith, f)
forward from to (part ∷ parts) f = let rest = forward (span_of part).1 to parts f.2 in omega (arith, f.1, rest)

covered : (at from to : ℕ) (parts : List Part) → Follow from parts to → sum_by (λ part. one at (span_of part)) parts ≡ one at (from, to)
covered at from to [] f = sym (none_within at from) ∙ ap (λ (n : ℕ). one at (from, n)) f
covered at from to (part ∷ parts) f =
    sum_by-cons (λ (p : Part). one at (span_of p)) part parts
    ∙ (λ i. one at (f.0 i, (span_of part).1) + covered at (span_of part).1 to parts f.2 i)
    ∙ halves at from (span_of part).1 to (omega (arith, f.1)) (forward (span_of part).1 to parts f.2)

pub bytes-have_one_unit : BytesHaveOneUnit
bytes-have_one_unit abbrevs section new told at e =
    let (parts, follow, read_are, passed_are) = units_fill-sections abbrevs section new told e in
    (λ i. sum_by (one at) (map read_span (read_are i) ++ passed_are i))
    ∙ sum_by-append (one at) (map read_span (filter_map unit_of parts)) (filter_map passed_of parts)
    ∙ both_lists at parts
    ∙ covered at section.at (section.at + length section.left) parts follow
