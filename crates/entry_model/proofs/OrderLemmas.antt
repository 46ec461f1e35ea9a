-- Cursors go forward, and entries stand where they went.
use Rattle.std.proofs.Common.{◌≡◌, ℕ, zero, suc, ◌+◌, ◌-◌, ◌<◌, ◌≤◌, Bool, true, false, cond, nat_le, nat_lt, List, [], ◌∷◌, ◌++◌, length, take, drop, Option, None, Some, Ok, Err, refl, sym, ap, subst, ◌∙◌, arith}
use Rattle.std.specs.Prelude.{◌==◌, ◌||◌, not, sum_by, All, AllPairs}
use Rattle.std.proofs.lemmas.Bool.Decides.{nat_tests}
use Rattle.std.proofs.lemmas.List.{append-nil, length-append, length-drop, length-take}
use Rattle.std.proofs.lemmas.List.Kept.{AllPairs-cons}
use Rattle.std.proofs.lemmas.List.Elements.{All-cons}
use Rattle.std.proofs.lemmas.List.Sums.{sum_by_push}
use Rattle.byte_view.specs.Cursor.{Cursor, Passes}
use Rattle.refusal.specs.declared.kind.Kind.{Kind}
use Rattle.placed_view.specs.Reader.{Read, Reader, behind, gives, refuse, refuse_if, told_as, refused_as, elsewhere, piece_of, cursor_behind, within, field, uleb}
use Rattle.placed_view.specs.Steps.{goes_on, steps, to_the_end, if_left, step_if_left, while_left}
use Rattle.placed_view.proofs.ReadLemmas.{uleb-shorter}
use Rattle.value_model.specs.Forms.{offset_size}
use Rattle.unit_model.specs.Abbrev.{Abbrev}
use Rattle.unit_model.specs.Table.{table}
use Rattle.unit_model.specs.Entries.{Entry, InUnit, entries, max_entries}
use Rattle.unit_model.specs.Header.{Header, long_length, short_length, sized, unit_length, leads_into, abbrevs_at, address_size, header_4, is_read_type, header_5_behind, header_5, other_version, header_of_version, header}
use Rattle.unit_model.specs.Units.{Unit as UnitRead, Units, no_units, Extent, with_skipped, with_unit, unit_behind, some_unit, unit_body, next_unit, units}
use Rattle.entry_model.specs.Entries.{SpellsEntry, SpellsEntries, no_entry, level_closed, entry_first}
use Rattle.entry_model.specs.Laws.{EntriesStandInOrder, UnitsShareEntries}
use Rattle.entry_model.specs.Order.{AreInOrder}
use Rattle.entry_model.proofs.CursorLemmas.{same_pair, reads_field, Split, split, Unless, unless}
use Rattle.entry_model.proofs.EntryLemmas.{entries-read}
use Rattle.entry_model.proofs.ValueLemmas.{values-places}

-- The cursor went forward in its piece, or stayed.
record Forward (old new : Cursor) : Type 0 where
  places : old.at ≤ new.at
  ends : old.at + length old.left ≡ new.at + length new.left

stays : (cur : Cursor) → Forward cur cur
stays cur = record { places = omega arith; ends = refl }

on : (a b c : Cursor) → Forward a b → Forward b c → Forward a c
on a b c f g = record { places = omega (arith, f.places, g.places); ends = f.ends ∙ g.ends }

passed : (old new : Cursor) (bytes : List ℕ) → Passes old new bytes → Forward old new
passed old new bytes p =
    let long = ap length p.left ∙ length-append bytes new.left in
    record { places = omega (arith, p.at); ends = omega (arith, p.at, long) }

here : (old new : Cursor) → old ≡ new → Forward old new
here old new same = subst (λ (c : Cursor). Forward old c) same (stays old)

forward_field : (size : ℕ) (old new : Cursor) (n : ℕ) → field size old ≡ Ok (n, new) → Forward old new
forward_field size old new n e = let r = reads_field size old new n e in passed old new r.bytes r.passed

-- ---- entries one behind the other

-- They begin from one offset on and before another, each before those behind it.
abbrev Between : ℕ → ℕ → List Entry → Type 0
Between from to [] = from ≤ to
Between from to (entry ∷ es) = (from ≤ entry.at) × Between (entry.at + 1) to es

Between-wider : (from from_ to to_ : ℕ) (es : List Entry) → from_ ≤ from → to ≤ to_ → Between from to es → Between from_ to_ es
Between-wider from from_ to to_ [] before after b = omega (arith, before, after, b)
Between-wider from from_ to to_ (entry ∷ es) before after b =
    (omega (arith, before, b.0), Between-wider (entry.at + 1) (entry.at + 1) to to_ es (omega arith) after b.1)

Between-append : (from middle to : ℕ) (xs ys : List Entry) → Between from middle xs → Between middle to ys → Between from to (xs ++ ys)
Between-append from middle to [] ys b c = Between-wider middle from to to ys b (omega arith) c
Between-append from middle to (x ∷ xs) ys b c = (b.0, Between-append (x.at + 1) middle to xs ys b.1 c)

Between-all : (from to : ℕ) (es : List Entry) → Between from to es → All (λ entry. (from ≤ entry.at) × (entry.at < to)) es
Between-all from to [] b = λ k d less. absurd (omega (arith, less))
Between-all from to (entry ∷ es) b =
    All-cons (λ (e : Entry). (from ≤ e.at) × (e.at < to)) entry es (b.0, ends (entry.at + 1) es b.1 (omega arith))
    (Between-all from to es (Between-wider (entry.at + 1) from to to es (omega (arith, b.0)) (omega arith) b.1))
  where
    ends : (start : ℕ) (later : List Entry) → Between start to later → entry.at < start → entry.at < to
    ends start [] b less = omega (arith, b, less)
    ends start (other ∷ later) b less = ends (other.at + 1) later b.1 (omega (arith, b.0, less))

Between-pairs : (from to : ℕ) (es : List Entry) → Between from to es → AllPairs (λ before after. before.at < after.at) es
Between-pairs from to [] b = λ i j d less inside. absurd (omega (arith, inside))
Between-pairs from to (entry ∷ es) b =
    AllPairs-cons (λ (before after : Entry). before.at < after.at) entry es (λ k d less. let q = (Between-all (entry.at + 1) to es b.1 k d less).0 in omega (arith, q)) (Between-pairs (entry.at + 1) to es b.1)

-- ---- the entries of a unit

spelled_between : (of : InUnit) (kinds : List Abbrev) (depth : ℕ) (old new : Cursor) (own : List Entry) → SpellsEntries of kinds depth old new own → Forward old new × Between old.at new.at own
spelled_between of kinds _ _ _ _ (no_entry depth cur none) = (stays cur, omega arith)
spelled_between of kinds _ _ _ _ (level_closed depth old behind_it new own r spelled) =
    let l = spelled_between of kinds (depth - 1) behind_it new own spelled in
    let f = passed old behind_it r.bytes r.passed in
    (on old behind_it new f l.0, Between-wider behind_it.at old.at new.at new.at own f.places (omega arith) l.1)
spelled_between of kinds _ _ _ _ (entry_first depth old behind_it new kind entry own s spelled) =
    let l = spelled_between of kinds (cond kind.children (depth + 1) depth) behind_it new own spelled in
    let c = passed old s.behind_code s.code.bytes s.code.passed in
    let less = uleb-shorter old s.behind_code kind.code s.code in
    let v = values-places of.wide s.behind_code behind_it kind.attrs s.all s.values in
    let f : Forward old behind_it = on old s.behind_code behind_it c (record { places = v.0; ends = v.1 }) in
    let at : entry.at ≡ old.at = ap (λ (e : Entry). e.at) s.told in (
      on old behind_it new f l.0,
      (omega (arith, at), Between-wider behind_it.at (entry.at + 1) new.at new.at own (omega (arith, at, less, c.ends, v.0)) (omega arith) l.1),
    )

-- What reading the entries of a unit gives behind others.
record Extends (before all : List Entry) (old new : Cursor) : Type 0 where
  own : List Entry
  joined : all ≡ before ++ own
  between : Between old.at new.at own
  forward : Forward old new
  few : length all ≤ max_entries

entries_extend : (of : InUnit) (kinds : List Abbrev) (before all : List Entry) (old new : Cursor) → length before ≤ max_entries → entries of kinds before old ≡ Ok (all, new) → Extends before all old new
entries_extend of kinds before all old new room e =
    let r = entries-read of kinds before all old new room e in
    let b = spelled_between of kinds 0 old new r.0 r.1 in
    record { own = r.0; joined = r.3; between = b.1; forward = b.0; few = r.4 }

-- ---- headers

pub told_as-same : {X : Type 0} (at : ℕ) (kind : Kind) (read : Read X) (x : X) (new : Cursor) → told_as at kind read ≡ Ok (x, new) → read ≡ Ok (x, new)
told_as-same at kind (Ok r) x new e = e
told_as-same at kind (Err place) x new e = absurd cc

pub second : {X : Type 0} (x y : X) (a b : Cursor) → ◌≡◌ {A = Read X} (Ok (x, a)) (Ok (y, b)) → a ≡ b
second {X = X} x y a b e = ap (λ (p : X × Cursor). p.1) (same_pair x y a b e)

forward_long : (at : ℕ) (old new : Cursor) (x : Bool × ℕ) → long_length at old ≡ Ok (x, new) → Forward old new
forward_long at old new x e =
    let a = split _ _ x new e in
    let f = forward_field 8 old a.cur a.value (told_as-same at _ (field 8 old) a.value a.cur a.first) in
    on old a.cur new f (here a.cur new (second _ x a.cur new a.follows))

forward_short : (at first : ℕ) (old new : Cursor) (x : Bool × ℕ) → short_length at first old ≡ Ok (x, new) → Forward old new
forward_short at first old new x e =
    let a = split _ _ x new e in
    let u = unless (nat_le 0xfffffff0 first) at _ a.value old a.cur a.first in
    here old new (u.stays ∙ second _ x a.cur new a.follows)

forward_sized : (at : ℕ) (old new : Cursor) (x : Bool × ℕ) → sized at old ≡ Ok (x, new) → Forward old new
unfolding sized
forward_sized at old new x e =
    let a = split _ _ x new e in
    let f = forward_field 4 old a.cur a.value (told_as-same at _ (field 4 old) a.value a.cur a.first) in
    on old a.cur new f (go a.value a.cur (a.value == 0xffffffff) a.follows)
  where
    go : (first : ℕ) (cur : Cursor) (test : Bool) → cond test (long_length at) (short_length at first) cur ≡ Ok (x, new) → Forward cur new
    go first cur true e = forward_long at cur new x e
    go first cur false e = forward_short at first cur new x e

-- Behind its length a unit has as many bytes as this says.
record Sized (old new : Cursor) (size : ℕ) : Type 0 where
  forward : Forward old new
  room : size ≤ length new.left

unit_sized : (old new : Cursor) (x : Bool × ℕ) → unit_length old ≡ Ok (x, new) → Sized old new x.1
unfolding unit_length
unit_sized old new x e =
    let a = split (sized old.at old) _ x new e in
    let b = split _ _ x new a.follows in
    let u = unless (nat_lt (length a.cur.left) a.value.1) old.at _ b.value a.cur b.cur b.first in
    let p = same_pair (a.value.0, a.value.1) x b.cur new b.follows in
    let cur_is : a.cur ≡ new = u.stays ∙ ap (λ (p : (Bool × ℕ) × Cursor). p.1) p in
    let size_is : a.value.1 ≡ x.1 = ap (λ (p : (Bool × ℕ) × Cursor). p.0.1) p in
    let fits : a.value.1 ≤ length a.cur.left = let h = u.holds_not in grind (arith, nat_tests) in
    record {
      forward = on old a.cur new (forward_sized old.at old a.cur a.value a.first) (here a.cur new cur_is);
      room = omega (arith, fits, size_is, ap (λ (c : Cursor). length c.left) cur_is);
    }

forward_into : (section : Option Cursor) (at offset : ℕ) (old new : Cursor) (x : Cursor) → leads_into section at offset old ≡ Ok (x, new) → Forward old new
forward_into None at offset old new x e = absurd cc
forward_into (Some section) at offset old new x e =
    let a = split _ _ x new e in
    let u = unless (nat_lt (length section.left) offset) at _ a.value old a.cur a.first in
    here old new (u.stays ∙ second _ x a.cur new a.follows)

forward_abbrevs : (wide : Bool) (section : Option Cursor) (old new : Cursor) (x : Cursor) → abbrevs_at wide section old ≡ Ok (x, new) → Forward old new
unfolding abbrevs_at
forward_abbrevs wide section old new x e =
    let a = split (field (offset_size wide) old) _ x new e in
    on old a.cur new (forward_field (offset_size wide) old a.cur a.value a.first) (forward_into section old.at a.value a.cur new x a.follows)

forward_address_size : (old new : Cursor) (u : Unit {0}) → address_size old ≡ Ok (u, new) → Forward old new
unfolding address_size
forward_address_size old new u e =
    let a = split (field 1 old) _ u new e in
    let q = unless (not (a.value == 8)) old.at _ u a.cur new a.follows in
    on old a.cur new (forward_field 1 old a.cur a.value a.first) (here a.cur new q.stays)

forward_4 : (wide : Bool) (section : Option Cursor) (old new : Cursor) (x : Option Header) → header_4 wide section old ≡ Ok (x, new) → Forward old new
unfolding header_4
forward_4 wide section old new x e =
    let a = split (abbrevs_at wide section old) _ x new e in
    let b = split (address_size a.cur) _ x new a.follows in
    on old a.cur new (forward_abbrevs wide section old a.cur a.value a.first)
    (on a.cur b.cur new (forward_address_size a.cur b.cur b.value b.first) (here b.cur new (second _ x b.cur new b.follows)))

forward_5_behind : (wide : Bool) (section : Option Cursor) (old new : Cursor) (x : Option Header) → header_5_behind wide section old ≡ Ok (x, new) → Forward old new
unfolding header_5_behind
forward_5_behind wide section old new x e =
    let a = split (address_size old) _ x new e in
    let b = split (abbrevs_at wide section a.cur) _ x new a.follows in
    on old a.cur new (forward_address_size old a.cur a.value a.first)
    (on a.cur b.cur new (forward_abbrevs wide section a.cur b.cur b.value b.first) (here b.cur new (second _ x b.cur new b.follows)))

forward_5 : (wide : Bool) (section : Option Cursor) (old new : Cursor) (x : Option Header) → header_5 wide section old ≡ Ok (x, new) → Forward old new
unfolding header_5
forward_5 wide section old new x e =
    let a = split (field 1 old) _ x new e in
    on old a.cur new (forward_field 1 old a.cur a.value a.first) (go a.cur (is_read_type a.value) a.follows)
  where
    go : (cur : Cursor) (test : Bool) → cond test (header_5_behind wide section) (gives None) cur ≡ Ok (x, new) → Forward cur new
    go cur true e = forward_5_behind wide section cur new x e
    go cur false e = here cur new (second None x cur new e)

forward_other : (at version : ℕ) (old new : Cursor) (x : Option Header) → other_version at version old ≡ Ok (x, new) → Forward old new
forward_other at version old new x e =
    let a = split _ _ x new e in
    let u = unless (not (version == 2 || version == 3)) at _ a.value old a.cur a.first in
    here old new (u.stays ∙ second _ x a.cur new a.follows)

forward_version : (wide : Bool) (section : Option Cursor) (at version : ℕ) (old new : Cursor) (x : Option Header) → header_of_version wide section at version old ≡ Ok (x, new) → Forward old new
forward_version wide section at version old new x e = go (version == 4) (version == 5) e
  where
    go : (is_4 is_5 : Bool) → cond is_4 (header_4 wide section) (cond is_5 (header_5 wide section) (other_version at version)) old ≡ Ok (x, new) → Forward old new
    go true is_5 e = forward_4 wide section old new x e
    go false true e = forward_5 wide section old new x e
    go false false e = forward_other at version old new x e

forward_header : (wide : Bool) (section : Option Cursor) (old new : Cursor) (x : Option Header) → header wide section old ≡ Ok (x, new) → Forward old new
unfolding header
forward_header wide section old new x e =
    let a = split (field 2 old) _ x new e in
    on old a.cur new (forward_field 2 old a.cur a.value a.first) (forward_version wide section old.at a.value a.cur new x a.follows)

-- ---- units

-- How many entries are the units' own.
abbrev total : Units → ℕ
total told = sum_by (λ (unit : UnitRead). unit.count) told.units

-- The entries of some units, all of them between two offsets, and each of one unit.
record InOrder (from to : ℕ) (told : Units) : Type 0 where
  between : Between from to told.entries
  shared : total told ≡ length told.entries
  few : length told.entries ≤ max_entries

-- A unit adds entries between where its cursor stood and where it stands.
record Adds (before told : Units) (old new : Cursor) : Type 0 where
  own : List Entry
  joined : told.entries ≡ before.entries ++ own
  shared : total told ≡ total before + length own
  between : Between old.at new.at own
  forward : Forward old new
  few : length told.entries ≤ max_entries

adds_none : (before told : Units) (old new : Cursor) → length before.entries ≤ max_entries → told.entries ≡ before.entries → told.units ≡ before.units → Forward old new → Adds before told old new
adds_none before told old new room same units f = record {
  own = [];
  joined = same ∙ sym (append-nil before.entries);
  shared = omega (arith, ap (λ (us : List UnitRead). sum_by (λ (unit : UnitRead). unit.count) us) units);
  between = f.places;
  forward = f;
  few = subst (λ (es : List Entry). length es ≤ max_entries) (sym same) room;
}

-- a unit's own entries are those behind the others
pushed : (extent : Extent) (version : ℕ) (all : List Entry) (before : Units) (own : List Entry) → all ≡ before.entries ++ own → total (with_unit extent version all before) ≡ total before + length own
pushed extent version all before own joined =
    sum_by_push (λ (unit : UnitRead). unit.count) before.units _
    ∙ ap (λ (n : ℕ). total before + n) (omega (arith, ap length joined, length-append before.entries own))

behind_adds : (extent : Extent) (head : Option Header) (before told : Units) (old new : Cursor) → length before.entries ≤ max_entries → unit_behind extent head before old ≡ Ok (told, new) → Adds before told old new
behind_adds extent None before told old new room e =
    let p = same_pair (with_skipped extent before) told old new e in
    adds_none before told old new room (ap (λ (p : Units × Cursor). p.0.entries) (sym p)) (ap (λ (p : Units × Cursor). p.0.units) (sym p))
    (here old new (ap (λ (p : Units × Cursor). p.1) p))
behind_adds extent (Some head) before told old new room e =
    let a = split (elsewhere head.abbrevs table old) _ told new e in
    let t = split (table head.abbrevs) _ a.value a.cur a.first in
    let stood : old ≡ a.cur = second t.value a.value old a.cur t.follows in
    let b = split (entries _ a.value before.entries a.cur) _ told new a.follows in
    let x = entries_extend _ a.value before.entries b.value a.cur b.cur room b.first in
    let p = same_pair (with_unit extent head.version b.value before) told b.cur new b.follows in
    let all : b.value ≡ told.entries = ap (λ (p : Units × Cursor). p.0.entries) p in
    let last : b.cur ≡ new = ap (λ (p : Units × Cursor). p.1) p in
    record {
      own = x.own;
      joined = sym all ∙ x.joined;
      shared = ap (λ (p : Units × Cursor). total p.0) (sym p) ∙ pushed extent head.version b.value before x.own x.joined;
      between = subst (λ (c : Cursor). Between old.at c.at x.own) last (subst (λ (c : Cursor). Between c.at b.cur.at x.own) (sym stood) x.between);
      forward = on old a.cur new (here old a.cur stood) (on a.cur b.cur new x.forward (here b.cur new last));
      few = subst (λ (es : List Entry). length es ≤ max_entries) all x.few;
    }

body_adds : (section : Option Cursor) (extent : Extent) (size : ℕ) (before told : Units) (old new : Cursor) → length before.entries ≤ max_entries → unit_body section extent size before old ≡ Ok (told, new) → Adds before told old new
unfolding unit_body
body_adds section extent size before told old new room e = go (size == 0) e
  where
    go : (test : Bool) → cond test (gives (with_skipped extent before)) (some_unit section extent before) old ≡ Ok (told, new) → Adds before told old new
    go true e = behind_adds extent None before told old new room e
    go false e =
        let a = split (header extent.wide section old) _ told new e in
        let f = forward_header extent.wide section old a.cur a.value a.first in
        let b = behind_adds extent a.value before told a.cur new room a.follows in
        record {
          own = b.own;
          joined = b.joined;
          shared = b.shared;
          between = Between-wider a.cur.at old.at new.at new.at b.own f.places (omega arith) b.between;
          forward = on old a.cur new f b.forward;
          few = b.few;
        }

unit_adds : (section : Option Cursor) (before told : Units) (old new : Cursor) → length before.entries ≤ max_entries → next_unit section before old ≡ Ok (told, new) → Adds before told old new
unfolding next_unit
unit_adds section before told old new room e =
    let a = split (unit_length old) _ told new e in
    let s = unit_sized old a.cur a.value a.first in
    let b = split (unit_body section _ a.value.1 before (piece_of a.value.1 a.cur)) _ told new a.follows in
    let x = body_adds section _ a.value.1 before b.value (piece_of a.value.1 a.cur) b.cur room b.first in
    let p = same_pair b.value told (cursor_behind a.value.1 a.cur) new b.follows in
    let all : b.value.entries ≡ told.entries = ap (λ (p : Units × Cursor). p.0.entries) p in
    let last : cursor_behind a.value.1 a.cur ≡ new = ap (λ (p : Units × Cursor). p.1) p in
    let size = a.value.1 in
    let short = length-take size a.cur.left in
    let rest = length-drop size a.cur.left in
    let places = s.forward.places in
    let ends = s.forward.ends in
    let room_ = s.room in
    let inner = x.forward.ends in
    let f : Forward old (cursor_behind size a.cur) = record { places = omega (arith, places); ends = omega (arith, ends, rest, room_) } in
    record {
      own = x.own;
      joined = sym all ∙ x.joined;
      shared = ap (λ (p : Units × Cursor). total p.0) (sym p) ∙ x.shared;
      between = subst (λ (c : Cursor). Between old.at c.at x.own) last
          (Between-wider a.cur.at old.at b.cur.at (a.cur.at + size) x.own places (grind (arith, nat_tests)) x.between);
      forward = on old (cursor_behind size a.cur) new f (here (cursor_behind size a.cur) new last);
      few = subst (λ (es : List Entry). length es ≤ max_entries) all x.few;
    }

module _ (section : Option Cursor) where
  abbrev step : Units → Reader (Option Units)
  step = step_if_left (next_unit section)

  steps_order : (from : ℕ) (n : ℕ) (before told : Units) (old new : Cursor) → InOrder from old.at before → steps step n before old ≡ Ok (told, new) → InOrder from new.at told × Forward old new
  steps_order from zero before told old new ok e =
      let p = same_pair before told old new e in
      let last : old ≡ new = ap (λ (p : Units × Cursor). p.1) p in
      (subst (λ (p : Units × Cursor). InOrder from p.1.at p.0) p ok, here old new last)
  steps_order from (suc n) before told old new ok e =
      at_left old.left e (λ later cur ordered is. steps_order from n later told cur new ordered is)
    where
      Later : Type 0
      Later = (later : Units) (cur : Cursor) → InOrder from cur.at later → steps step n later cur ≡ Ok (told, new) → InOrder from new.at told × Forward cur new

      at_left : (left : List ℕ) → behind (if_left left (next_unit section before old) old) (goes_on before (λ later c. steps step n later c)) ≡ Ok (told, new) → Later → InOrder from new.at told × Forward old new
      at_left [] e later =
          let p = same_pair before told old new e in
          let last : old ≡ new = ap (λ (p : Units × Cursor). p.1) p in
          (subst (λ (p : Units × Cursor). InOrder from p.1.at p.0) p ok, here old new last)
      at_left (byte ∷ rest) e later =
          let s = split (behind (next_unit section before old) (λ state. gives (Some state))) (goes_on before (λ later c. steps step n later c)) told new e in
          let t = split (next_unit section before old) _ s.value s.cur s.first in
          let p = same_pair (Some t.value) s.value t.cur s.cur t.follows in
          let f : steps step n t.value t.cur ≡ Ok (told, new) =
          subst (λ (p : Option Units × Cursor). goes_on before (λ later c. steps step n later c) p.0 p.1 ≡ Ok (told, new)) (sym p) s.follows in
          let a = unit_adds section before t.value old t.cur ok.few t.first in
          let joined : Between from t.cur.at t.value.entries =
          subst (λ (es : List Entry). Between from t.cur.at es) (sym a.joined) (Between-append from old.at t.cur.at before.entries a.own ok.between a.between) in
          let shared : total t.value ≡ length t.value.entries = omega (arith, a.shared, ok.shared, ap length a.joined, length-append before.entries a.own) in
          let l = later t.value t.cur (record { between = joined; shared = shared; few = a.few }) f in
          (l.0, on old t.cur new a.forward l.1)

pub entries-in_order : EntriesStandInOrder
unfolding units
entries-in_order section old new told e =
    let r = steps_order section old.at (suc (length old.left)) no_units told old new (record { between = omega arith; shared = refl; few = omega arith }) e in
    let b = r.0.between in
    let wide = Between-wider old.at old.at new.at (old.at + length old.left) told.entries (omega arith) (let f = r.1.ends in omega (arith, f)) b in
    record { ascending = Between-pairs old.at (old.at + length old.left) told.entries wide; within = Between-all old.at (old.at + length old.left) told.entries wide }

pub units-share_entries : UnitsShareEntries
unfolding units
units-share_entries section old new told e =
    let r = steps_order section old.at (suc (length old.left)) no_units told old new (record { between = omega arith; shared = refl; few = omega arith }) e in
    (r.0.shared, r.0.few)
