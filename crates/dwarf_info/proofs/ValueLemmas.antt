-- The values of an entry, one by one.
use Rattle.std.proofs.Common.{◌≡◌, ℕ, ℤ, get_or, not, None, Some, ◌+◌, ◌-◌, ◌<◌, ◌≤◌, Bool, true, false, cond, List, [], ◌∷◌, ◌++◌, length, take, drop, Ok, Err, refl, sym, ap, subst, ◌∙◌, arith}
use Rattle.std.proofs.lemmas.List.{length-append, length-drop, drop-append-le, take-append-le, take_all, drop_all, drop_more, take-append-drop}
use Rattle.std.specs.Prelude.{◌==◌, ◌||◌, find, is_some, slice_range}
use Rattle.byte_view.specs.Cursor.{Cursor, Reads}
use Rattle.refusal.specs.Place.{in_binary, fails_at}
use Rattle.placed_view.proofs.ReadLemmas.{cursor_is}
use Rattle.value_model.specs.Value.{Value, Fault}
use Rattle.value_model.specs.Reading.{value_at}
use Rattle.value_model.specs.Spelling.{Spells}
use Rattle.unit_model.specs.Abbrev.{Attr}
use Rattle.refusal.specs.declared.place.Place.{Place}
use Rattle.placed_view.specs.Reader.{behind}
use Rattle.unit_model.specs.Wanted.{Use, accepts, wanted}
use Rattle.unit_model.specs.Values.{Found, value, placed_value, kind_of_value, is_unused, next_value, values, values_from}
use Rattle.dwarf_info.specs.Values.{has_name, AddsFound, IsFound}

pub value-ok : (wide : Bool) (name form : ℕ) (implicit : ℤ) (old new : Cursor) (x : Value) → Reads (Spells implicit wide form) old new x
    → value_at form implicit wide old.left ≡ Ok (x, new.left) → value wide (record { name = name; form = form; implicit = implicit }) old ≡ Ok (x, new)
unfolding value
value-ok wide name form implicit old new x reads e = ap (placed_value old) e ∙ ap (λ (c : Cursor). Ok (x, c)) (cursor_is old new reads.bytes reads.passed)

pub value-err : (wide : Bool) (name form : ℕ) (implicit : ℤ) (old : Cursor) (fault : Fault) → value_at form implicit wide old.left ≡ Err fault
    → value wide (record { name = name; form = form; implicit = implicit }) old ≡ Err (in_binary old.at (kind_of_value fault))
unfolding value
value-err wide name form implicit old fault e = ap (placed_value old) e

pub value-not_longer : (Spelled : List ℕ → Value → Type 0) (old new : Cursor) (x : Value) → Reads Spelled old new x → length new.left ≤ length old.left
value-not_longer Spelled old new x reads = omega (arith, ap length reads.passed.left, length-append reads.bytes new.left)

-- an attribute that was added, among those of its entry
pub own-added : (first : ℕ) (old new : List Found) (more : Found) → first ≤ length old → AddsFound first old new more
    → drop first new ≡ cond (has_name (drop first old) more.name) (drop first old) (drop first old ++ more ∷ [])
own-added first old new more within is =
    ap (drop first) is
    ∙ (elim (has_name (drop first old) more.name) as (λ b. drop first (cond b old (old ++ more ∷ [])) ≡ cond b (drop first old) (drop first old ++ more ∷ []))
    [ true ↦ refl | false ↦ drop-append-le first old (more ∷ []) within ])

pub kept-added : (first : ℕ) (old new : List Found) (more : Found) → first ≤ length old → AddsFound first old new more → take first new ≡ take first old
kept-added first old new more within is =
    ap (take first) is
    ∙ (elim (has_name (drop first old) more.name) as (λ b. take first (cond b old (old ++ more ∷ [])) ≡ take first old)
    [ true ↦ refl | false ↦ take-append-le first old (more ∷ []) within ])

pub within-added : (first : ℕ) (old new : List Found) (more : Found) → first ≤ length old → AddsFound first old new more → first ≤ length new
within-added first old new more within is =
    let n : length new ≡ length (cond (has_name (drop first old) more.name) old (old ++ more ∷ [])) = ap (λ (fs : List Found). length fs) is in
    (elim (has_name (drop first old) more.name) as (λ b. length new ≡ length (cond b old (old ++ more ∷ [])) → first ≤ length new)
    [ true ↦ λ e. omega arith | false ↦ λ e. omega (arith, length-append old (more ∷ [])) ]) n

-- whether an attribute of a name is found among others
found_some : (found : List Found) (name : ℕ) → is_some (find (λ (other : Found). other.name == name) found) ≡ has_name found name
found_some [] name = refl
found_some (f ∷ fs) name =
    elim (f.name == name) as (λ b. is_some (cond b (Some f) (find (λ (other : Found). other.name == name) fs)) ≡ (b || has_name fs name)) [ true ↦ refl | false ↦ found_some fs name ]

pub has_name-from : (found : List Found) (first end name : ℕ) → end ≡ length found → is_some (find (λ (other : Found). other.name == name) (slice_range found first end)) ≡ has_name (drop first found) name
has_name-from found first end name all =
    found_some (slice_range found first end) name
    ∙ ap (λ (fs : List Found). has_name fs name) (take_all (end - first) (drop first found) (omega (arith, all, length-drop first found)))

pub ruleset next_value_lemmas = (own-added, kept-added, within-added)

-- the next value where it is wanted
pub next_value-wanted : (wide : Bool) (tag : ℕ) (attr : Attr) (own : List Found) (cur next : Cursor) (x : Value) → value wide attr cur ≡ Ok (x, next)
    → accepts (wanted tag attr.name) x ≡ true → is_unused (wanted tag attr.name) ≡ false
    → next_value wide tag attr own cur
    ≡ Ok (cond (has_name own attr.name) own (own ++ record { name = attr.name; at = cur.at; value = x } ∷ []), next)
unfolding next_value
next_value-wanted wide tag attr own cur next x e good used = rw (e, good, used) refl

pub accepted : (b : Bool) (place : Place) → fails_at (not b) place ≡ None → b ≡ true
accepted true place is = refl
accepted false place is = absurd cc

-- The attributes from `first` on are those of the values up to an index.
pub record ValuesSoFar (wide : Bool) (tag : ℕ) (attrs : List Attr) (start : Cursor) (old new : List Found) (cur : Cursor) (first i : ℕ) : Type 0 where
  pub at : first ≡ length old
  pub within : first ≤ length new
  pub kept : take first new ≡ old
  pub same : values wide tag attrs start ≡ values_from wide tag (drop i attrs) (drop first new) cur
  pub not_longer : length cur.left ≤ length start.left

pub ValuesSoFar-none : (wide : Bool) (tag : ℕ) (attrs : List Attr) (start : Cursor) (old : List Found) (first : ℕ) → first ≡ length old → ValuesSoFar wide tag attrs start old old start first 0
unfolding values
ValuesSoFar-none wide tag attrs start old first at = record {
  at = at;
  within = omega arith;
  kept = take_all first old (omega arith);
  same = ap (λ (own : List Found). values_from wide tag attrs own start) (sym (drop_all first old (omega arith)));
  not_longer = omega arith;
}

pub ValuesSoFar-more : (wide : Bool) (tag : ℕ) (attrs : List Attr) (start : Cursor) (old new newer : List Found) (attr : Attr) (cur next : Cursor) (first i : ℕ)
    → ValuesSoFar wide tag attrs start old new cur first i → i < length attrs → attr ≡ get_or attrs i attr
    → IsFound first new newer next (next_value wide tag attr (drop first new) cur) → length next.left ≤ length cur.left
    → ValuesSoFar wide tag attrs start old newer next first (i + 1)
ValuesSoFar-more wide tag attrs start old new newer attr cur next first i so_far more here found less =
    let split : drop i attrs ≡ attr ∷ drop (i + 1) attrs = drop_more attrs i attr more ∙ ap (λ (a : Attr). a ∷ drop (i + 1) attrs) (sym here) in
    record {
      at = so_far.at;
      within = found.within;
      kept = found.kept ∙ so_far.kept;
      same = so_far.same ∙ ap (λ (list : List Attr). values_from wide tag list (drop first new) cur) split
          ∙ ap (λ r. behind r (values_from wide tag (drop (i + 1) attrs))) found.own;
      not_longer = omega (arith, so_far.not_longer, less);
    }

pub ValuesSoFar-bad : (wide : Bool) (tag : ℕ) (attrs : List Attr) (start : Cursor) (old new : List Found) (attr : Attr) (cur : Cursor) (first i : ℕ) (place : Place)
    → ValuesSoFar wide tag attrs start old new cur first i → i < length attrs → attr ≡ get_or attrs i attr
    → next_value wide tag attr (drop first new) cur ≡ Err place → values wide tag attrs start ≡ Err place
ValuesSoFar-bad wide tag attrs start old new attr cur first i place so_far more here bad =
    let split : drop i attrs ≡ attr ∷ drop (i + 1) attrs = drop_more attrs i attr more ∙ ap (λ (a : Attr). a ∷ drop (i + 1) attrs) (sym here) in
    so_far.same ∙ ap (λ (list : List Attr). values_from wide tag list (drop first new) cur) split ∙ ap (λ r. behind r (values_from wide tag (drop (i + 1) attrs))) bad

pub ValuesSoFar-end : (wide : Bool) (tag : ℕ) (attrs : List Attr) (start : Cursor) (old new : List Found) (cur : Cursor) (first i : ℕ) → ValuesSoFar wide tag attrs start old new cur first i
    → length attrs ≤ i → (own : List Found) × (new ≡ old ++ own) × (values wide tag attrs start ≡ Ok (own, cur))
ValuesSoFar-end wide tag attrs start old new cur first i so_far past = (
  drop first new,
  sym (take-append-drop first new) ∙ ap (λ (fs : List Found). fs ++ drop first new) so_far.kept,
  so_far.same ∙ ap (λ (list : List Attr). values_from wide tag list (drop first new) cur) (drop_all i attrs past),
)

-- an attribute that was read, is wanted, and was added
pub IsFound-added : (wide : Bool) (tag : ℕ) (attr : Attr) (first : ℕ) (old new : List Found) (cur next : Cursor) (x : Value) (name at : ℕ) (purpose : Use) (good unused_is : Bool) (place : Place)
    → first ≤ length old → value wide attr cur ≡ Ok (x, next) → attr.name ≡ name → at ≡ cur.at → purpose ≡ wanted tag name → good ≡ accepts purpose x → fails_at (not good) place ≡ None
    → unused_is ≡ is_unused purpose → unused_is ≡ false → AddsFound first old new (record { name = name; at = at; value = x })
    → IsFound first old new next (next_value wide tag attr (drop first old) cur)
IsFound-added wide tag attr first old new cur next x name at purpose good unused_is place within read named here wanted_is accepts_is passes unused_by used adds =
    let is : purpose ≡ wanted tag attr.name = wanted_is ∙ ap (wanted tag) (sym named) in
    let fine : accepts (wanted tag attr.name) x ≡ true = ap (λ p. accepts p x) (sym is) ∙ sym accepts_is ∙ accepted good place passes in
    let used_is : is_unused (wanted tag attr.name) ≡ false = ap is_unused (sym is) ∙ sym unused_by ∙ used in
    let same : ◌≡◌ {A = Found} (record { name = name; at = at; value = x }) (record { name = attr.name; at = cur.at; value = x }) =
    ap (λ (n : ℕ). record { name = n; at = at; value = x }) (sym named) ∙ ap (λ (n : ℕ). record { name = attr.name; at = n; value = x }) here in
    let added : AddsFound first old new (record { name = attr.name; at = cur.at; value = x }) = subst (λ (f : Found). AddsFound first old new f) same adds in
    record {
      within = within-added first old new _ within added;
      kept = kept-added first old new _ within added;
      own = next_value-wanted wide tag attr (drop first old) cur next x read fine used_is ∙ ap (λ (own : List Found). Ok (own, next)) (sym (own-added first old new _ within added));
    }
