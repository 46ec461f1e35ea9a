-- Entries as they are read and as they are spelled.
use Rattle.std.proofs.Common.{◌≡◌, ◌≢◌, ℕ, zero, suc, ◌+◌, ◌-◌, ◌<◌, ◌≤◌, Bool, true, false, cond, nat_le, nat_lt, List, [], ◌∷◌, ◌++◌, length, Option, None, Some, Ok, Err, refl, sym, ap, subst, ◌∙◌, inl, inr, arith}
use Rattle.std.specs.Prelude.{◌==◌, find}
use Rattle.std.specs.List.{AllByRecursion}
use Rattle.std.proofs.lemmas.Bool.{cases_Bool, eqb-true, eq-eqb, ne_eqb}
use Rattle.std.proofs.lemmas.Bool.Decides.{nat_tests}
use Rattle.std.proofs.lemmas.List.{append-nil, append_assoc, length-append}
use Rattle.byte_view.specs.Cursor.{Cursor, Reads}
use Rattle.byte_view.specs.Reading.{SpellsUleb}
use Rattle.placed_view.specs.Reader.{Read, Reader, behind, gives, refuse, refuse_if, uleb}
use Rattle.placed_view.specs.Steps.{goes_on, steps, to_the_end, if_left, step_if_left, while_left}
use Rattle.placed_view.proofs.ReadLemmas.{uleb-shorter}
use Rattle.placed_view.proofs.StepLemmas.{step_if_left-some, step_if_left-none}
use Rattle.unit_model.specs.Abbrev.{Attr, Abbrev, find_code}
use Rattle.unit_model.specs.Values.{Found, values}
use Rattle.unit_model.specs.Entries.{Entry, InUnit, SoFar, closed, max_depth, max_entries, entry_of, entry_if_known, entry_of_code, next_entry, entries}
use Rattle.entry_model.specs.Entries.{SpellsEntry, SpellsEntries, no_entry, level_closed, entry_first, AreShallow, wanted_among}
use Rattle.entry_model.proofs.CursorLemmas.{same_pair, reads_uleb, uleb_reads, not_longer, Split, split, Unless, unless}
use Rattle.entry_model.proofs.ValueLemmas.{AreValues, reads_values, values_reads, values-not_longer}

module _ (of : InUnit) (kinds : List Abbrev) where
  -- How deep the next one stands behind an entry.
  abbrev depth_behind : Abbrev → ℕ → ℕ
  depth_behind kind depth = cond kind.children (depth + 1) depth

  -- What is read behind some entries: a code that closes a level, or one entry more.
  data EntryRead (before : SoFar) : Cursor → Cursor → SoFar → Type 0 where
    level : (old new : Cursor) → Reads SpellsUleb old new 0 → EntryRead before old new (closed before)
    one_more : (old new : Cursor) (kind : Abbrev) (entry : Entry) → SpellsEntry of kinds before.depth old new kind entry → before.depth ≤ max_depth
        → length before.entries < max_entries
        → EntryRead before old new (record { depth = depth_behind kind before.depth; entries = before.entries ++ entry ∷ [] })

  found_code : (kind : Abbrev) (code : ℕ) → find_code kinds code ≡ Some kind → kind.code ≡ code
  unfolding find_code
  found_code kind code e = among kinds e
    where
      among : (table : List Abbrev) → find (λ a. a.code == code) table ≡ Some kind → kind.code ≡ code
      among [] e = absurd cc
      among (other ∷ table) e = go (other.code == code) refl e (among table)
        where
          go : (test : Bool) → (other.code == code) ≡ test → cond test (Some other) (find (λ a. a.code == code) table) ≡ Some kind
              → (find (λ a. a.code == code) table ≡ Some kind → kind.code ≡ code) → kind.code ≡ code
          go true is e later = let same : other ≡ kind = cc in ap (λ (k : Abbrev). k.code) (sym same) ∙ eqb-true other.code code is
          go false is e later = later e

  kind_read : (before : SoFar) (old behind_code new : Cursor) (code : ℕ) (kind : Abbrev) (next : SoFar) → Reads SpellsUleb old behind_code code → code ≢ 0 → find_code kinds code ≡ Some kind
      → entry_of of old.at kind before behind_code ≡ Ok (next, new) → EntryRead before old new next
  unfolding entry_of
  kind_read before old behind_code new code kind next r some known e =
      let a = split _ _ next new e in
      let deep = unless (nat_lt max_depth before.depth) old.at _ a.value behind_code a.cur a.first in
      let b = split _ _ next new a.follows in
      let full = unless (nat_le max_entries (length before.entries)) old.at _ b.value a.cur b.cur b.first in
      let c = split (values of.wide kind.tag kind.attrs b.cur) _ next new b.follows in
      let v = reads_values of.wide kind.tag kind.attrs c.value b.cur c.cur c.first in
      let is_code = found_code kind code known in
      let here : behind_code ≡ b.cur = deep.stays ∙ full.stays in
      let shallow : before.depth ≤ max_depth = let h = deep.holds_not in grind (arith, nat_tests) in
      let few : length before.entries < max_entries = let h = full.holds_not in grind (arith, nat_tests) in
      let code_read : Reads SpellsUleb old b.cur kind.code =
      subst (λ (p : ℕ × Cursor). Reads SpellsUleb old p.1 p.0) (ap (λ (m : ℕ). (m, behind_code)) (sym is_code) ∙ ap (λ (q : Cursor). (kind.code, q)) here) r in
      let one : Entry = record { at = old.at; depth = before.depth; tag = kind.tag; unit = of.unit; found = c.value } in
      let is : SpellsEntry of kinds before.depth old c.cur kind one = record {
        behind_code = b.cur;
        all = v.all;
        code = code_read;
        some = λ zero_code. some (sym is_code ∙ zero_code);
        known = ap (find_code kinds) is_code ∙ known;
        values = v.spelled;
        accepted = v.accepted;
        told = ap (λ (f : List Found). record { at = old.at; depth = before.depth; tag = kind.tag; unit = of.unit; found = f }) v.found_is;
      } in
      subst (λ (p : SoFar × Cursor). EntryRead before old p.1 p.0)
      (same_pair (record { depth = depth_behind kind before.depth; entries = before.entries ++ one ∷ [] }) next c.cur new c.follows)
      (one_more old c.cur kind one is shallow few)

  known_read : (before : SoFar) (old behind_code new : Cursor) (code : ℕ) (next : SoFar) → Reads SpellsUleb old behind_code code → code ≢ 0 → (known : Option Abbrev) → find_code kinds code ≡ known
      → entry_if_known of old.at known before behind_code ≡ Ok (next, new) → EntryRead before old new next
  known_read before old behind_code new code next r some None is e = absurd cc
  known_read before old behind_code new code next r some (Some kind) is e = kind_read before old behind_code new code kind next r some is e

  entry_read : (before next : SoFar) (old new : Cursor) → next_entry of kinds before old ≡ Ok (next, new) → EntryRead before old new next
  unfolding next_entry entry_of_code
  entry_read before next old new e =
      let a = split (uleb old) _ next new e in
      go a.value a.cur (reads_uleb old a.cur a.value a.first) (a.value == 0) refl a.follows
    where
      go : (code : ℕ) (cur : Cursor) → Reads SpellsUleb old cur code → (test : Bool) → (code == 0) ≡ test
          → cond test (gives (closed before)) (entry_if_known of old.at (find_code kinds code) before) cur ≡ Ok (next, new) → EntryRead before old new next
      go code cur r true is e =
          subst (λ (p : SoFar × Cursor). EntryRead before old p.1 p.0) (same_pair (closed before) next cur new e)
          (level old cur (subst (λ m. Reads SpellsUleb old cur m) (eqb-true code 0 is) r))
      go code cur r false is e = known_read before old cur new code next r (λ same. let yes_ = eq-eqb code 0 same in absurd cc) (find_code kinds code) refl e

  level_again : (before : SoFar) (old new : Cursor) → Reads SpellsUleb old new 0 → next_entry of kinds before old ≡ Ok (closed before, new)
  unfolding next_entry entry_of_code
  level_again before old new r = rw (uleb_reads old new 0 r) refl

  entry_again : (before : SoFar) (old new : Cursor) (kind : Abbrev) (entry : Entry) → SpellsEntry of kinds before.depth old new kind entry → before.depth ≤ max_depth → length before.entries < max_entries
      → next_entry of kinds before old ≡ Ok (record { depth = depth_behind kind before.depth; entries = before.entries ++ entry ∷ [] }, new)
  unfolding next_entry entry_of_code entry_of
  entry_again before old new kind entry s shallow few =
      let deep : nat_lt max_depth before.depth ≡ false = grind (arith, nat_tests) in
      let room : nat_le max_entries (length before.entries) ≡ false = grind (arith, nat_tests) in
      rw (uleb_reads old s.behind_code kind.code s.code, ne_eqb kind.code 0 s.some, s.known, deep, room, values_reads of.wide kind.tag s.behind_code new kind.attrs s.all s.values s.accepted)
      (ap (λ (e : Entry). Ok (record { depth = depth_behind kind before.depth; entries = before.entries ++ e ∷ [] }, new)) (sym s.told))

  entry-shorter : (depth : ℕ) (old new : Cursor) (kind : Abbrev) (entry : Entry) → SpellsEntry of kinds depth old new kind entry → length new.left < length old.left
  entry-shorter depth old new kind entry s =
      let a = uleb-shorter old s.behind_code kind.code s.code in
      let b = values-not_longer of.wide s.behind_code new kind.attrs s.all s.values in
      omega (arith, a, b)

  -- Behind some entries those were read that are spelled.
  record EntriesRead (before all : SoFar) (old new : Cursor) : Type 0 where
    own : List Entry
    joined : all.entries ≡ before.entries ++ own
    spelled : SpellsEntries of kinds before.depth old new own
    shallow : AreShallow own
    few : length all.entries ≤ max_entries

  entry_depth : (depth : ℕ) (old new : Cursor) (kind : Abbrev) (entry : Entry) → SpellsEntry of kinds depth old new kind entry → entry.depth ≡ depth
  entry_depth depth old new kind entry s = ap (λ (e : Entry). e.depth) s.told

  nothing_left : (xs : List ℕ) → xs ≡ [] → length xs ≡ 0
  nothing_left xs e = ap length e

  abbrev step : SoFar → Reader (Option SoFar)
  step = step_if_left (next_entry of kinds)

  entries_read : (n : ℕ) (before all : SoFar) (old new : Cursor) → length old.left < n → length before.entries ≤ max_entries → steps step n before old ≡ Ok (all, new) → EntriesRead before all old new
  entries_read zero before all old new enough room e = absurd (omega (arith, enough))
  entries_read (suc n) before all old new enough room e =
      at_left old.left refl e (λ later cur less room is. entries_read n later all cur new less room is)
    where
      Later : Type 0
      Later = (later : SoFar) (cur : Cursor) → length cur.left < n → length later.entries ≤ max_entries → steps step n later cur ≡ Ok (all, new) → EntriesRead later all cur new

      go : (cur : Cursor) (next : SoFar) → EntryRead before old cur next → steps step n next cur ≡ Ok (all, new) → Later → EntriesRead before all old new
      go _ _ (level old_ cur r) e later =
          let less = uleb-shorter old cur 0 r in
          let l = later (closed before) cur (omega (arith, less, enough)) room e in
          record { own = l.own; joined = l.joined; spelled = level_closed before.depth old cur new l.own r l.spelled; shallow = l.shallow; few = l.few }
      go _ _ (one_more old_ cur kind entry s shallow few) e later =
          let less = entry-shorter before.depth old cur kind entry s in
          let long = length-append before.entries (entry ∷ []) in
          let l = later (record { depth = depth_behind kind before.depth; entries = before.entries ++ entry ∷ [] }) cur (omega (arith, less, enough)) (omega (arith, long, few)) e in
          record {
            own = entry ∷ l.own;
            joined = l.joined ∙ append_assoc before.entries (entry ∷ []) l.own;
            spelled = entry_first before.depth old cur new kind entry l.own s l.spelled;
            shallow = (subst (λ m. m ≤ max_depth) (sym (entry_depth before.depth old cur kind entry s)) shallow, l.shallow);
            few = l.few;
          }

      at_left : (left : List ℕ) → old.left ≡ left → behind (if_left left (next_entry of kinds before old) old) (goes_on before (λ later c. steps step n later c)) ≡ Ok (all, new) → Later → EntriesRead before all old new
      at_left [] is e later =
          subst (λ (p : SoFar × Cursor). EntriesRead before p.0 old p.1) (same_pair before all old new e)
          (record { own = []; joined = sym (append-nil before.entries); spelled = no_entry before.depth old is; shallow = tt; few = room })
      at_left (byte ∷ rest) is e later =
          let s = split (behind (next_entry of kinds before old) (λ state. gives (Some state))) (goes_on before (λ later c. steps step n later c)) all new e in
          let t = split (next_entry of kinds before old) _ s.value s.cur s.first in
          let p = same_pair (Some t.value) s.value t.cur s.cur t.follows in
          let f : steps step n t.value t.cur ≡ Ok (all, new) =
          subst (λ (p : Option SoFar × Cursor). goes_on before (λ later c. steps step n later c) p.0 p.1 ≡ Ok (all, new)) (sym p) s.follows in
          go t.cur t.value (entry_read before t.value old t.cur t.first) f later

  entries_again : (depth : ℕ) (old new : Cursor) (own : List Entry) → SpellsEntries of kinds depth old new own → (n : ℕ) (before : List Entry) → length old.left < n → AreShallow own
      → length before + length own ≤ max_entries → (all : SoFar) × (steps step n (record { depth = depth; entries = before }) old ≡ Ok (all, new)) × (all.entries ≡ before ++ own)
  entries_again depth old new own spelled zero before enough shallow few = absurd (omega (arith, enough))
  entries_again _ _ _ _ (no_entry depth cur none) (suc n) before enough shallow few =
      let state : SoFar = record { depth = depth; entries = before } in
      let over = step_if_left-none (next_entry of kinds) state cur (nothing_left cur.left none) in
      (state, rw over refl, sym (append-nil before))
  entries_again _ _ _ _ (level_closed depth old behind_it new own r spelled) (suc n) before enough shallow few =
      let state : SoFar = record { depth = depth; entries = before } in
      let less = uleb-shorter old behind_it 0 r in
      let one = step_if_left-some (next_entry of kinds) state (closed state) old behind_it (omega (arith, less)) (level_again state old behind_it r) in
      let l = entries_again (depth - 1) behind_it new own spelled n before (omega (arith, less, enough)) shallow few in
      (l.0, rw one l.1, l.2)
  entries_again _ _ _ _ (entry_first depth old behind_it new kind entry own s spelled) (suc n) before enough shallow few =
      let state : SoFar = record { depth = depth; entries = before } in
      let after : SoFar = record { depth = depth_behind kind depth; entries = before ++ entry ∷ [] } in
      let less = entry-shorter depth old behind_it kind entry s in
      let deep : depth ≤ max_depth = subst (λ m. m ≤ max_depth) (entry_depth depth old behind_it kind entry s) shallow.0 in
      let long = length-append before (entry ∷ []) in
      let one = step_if_left-some (next_entry of kinds) state after old behind_it (omega (arith, less)) (entry_again state old behind_it kind entry s deep (omega (arith, few))) in
      let l = entries_again (depth_behind kind depth) behind_it new own spelled n (before ++ entry ∷ []) (omega (arith, less, enough)) shallow.1 (omega (arith, long, few)) in
      (l.0, rw one l.1, l.2 ∙ append_assoc before (entry ∷ []) own)

  pub entries-read : (before all : List Entry) (old new : Cursor) → length before ≤ max_entries → entries of kinds before old ≡ Ok (all, new)
      → (own : List Entry) × SpellsEntries of kinds 0 old new own × AreShallow own × (all ≡ before ++ own) × (length all ≤ max_entries)
  unfolding entries
  entries-read before all old new room e =
      let s = split (while_left (next_entry of kinds) (record { depth = 0; entries = before }) old) _ all new e in
      let r = entries_read (suc (length old.left)) (record { depth = 0; entries = before }) s.value old s.cur (omega arith) room s.first in
      let p = same_pair s.value.entries all s.cur new s.follows in
      let all_is : s.value.entries ≡ all = ap (λ (p : List Entry × Cursor). p.0) p in
      let new_is : s.cur ≡ new = ap (λ (p : List Entry × Cursor). p.1) p in (
        r.own,
        subst (λ (c : Cursor). SpellsEntries of kinds 0 old c r.own) new_is r.spelled,
        r.shallow,
        sym all_is ∙ r.joined,
        subst (λ (xs : List Entry). length xs ≤ max_entries) all_is r.few,
      )

  pub entries-again : (before own : List Entry) (old new : Cursor) → SpellsEntries of kinds 0 old new own → AreShallow own → length before + length own ≤ max_entries
      → entries of kinds before old ≡ Ok (before ++ own, new)
  unfolding entries
  entries-again before own old new spelled shallow few =
      let l = entries_again 0 old new own spelled (suc (length old.left)) before (omega arith) shallow few in
      rw l.1 (ap (λ (xs : List Entry). Ok (xs, new)) l.2)
