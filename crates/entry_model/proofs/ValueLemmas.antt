-- Values of entries as they are read and as they are spelled.
use Rattle.std.proofs.Common.{◌≡◌, ℕ, ◌+◌, ◌-◌, ◌≤◌, Bool, true, false, not, cond, List, [], ◌∷◌, ◌++◌, length, Result, Ok, Err, refl, sym, ap, subst, ◌∙◌, inl, inr, arith}
use Rattle.std.specs.Prelude.{◌==◌, ◌&&◌, ◌||◌, filter}
use Rattle.std.specs.List.{AllByRecursion, list_any}
use Rattle.std.proofs.lemmas.Bool.{cases_Bool, eqb-true, eq-eqb, and_left, and_right, and_from, not-false}
use Rattle.std.proofs.lemmas.Bool.Decides.{nat_tests}
use Rattle.std.proofs.lemmas.List.{append-nil, append_assoc, length-append}
use Rattle.std.proofs.lemmas.List.Folds.{list_any-append}
use Rattle.byte_view.specs.Cursor.{Cursor, Reads}
use Rattle.value_model.specs.Value.{Value, Fault}
use Rattle.value_model.specs.Reading.{ValueReading, value_at}
use Rattle.value_model.specs.Spelling.{Spells}
use Rattle.value_model.proofs.Read.{value_at-spelled}
use Rattle.value_model.proofs.Spelled.{value_at-again}
use Rattle.placed_view.specs.Reader.{Read, Reader, behind, gives, refuse_if}
use Rattle.placed_view.proofs.ReadLemmas.{cursor_is}
use Rattle.unit_model.specs.Abbrev.{Attr}
use Rattle.unit_model.specs.Wanted.{Use, accepts, wanted}
use Rattle.unit_model.specs.Values.{Found, value, placed_value, is_unused, with_found, next_value, values_from, values}
use Rattle.entry_model.specs.Entries.{SpellsValues, no_value, value_first, first_of_each, is_wanted, wanted_among, IsAccepted}
use Rattle.entry_model.proofs.CursorLemmas.{behind_front, passes_front, same_pair, not_longer, Split, split, Unless, unless}

-- ---- one value

reads_value : (wide : Bool) (attr : Attr) (old new : Cursor) (x : Value) → value wide attr old ≡ Ok (x, new) → Reads (Spells attr.implicit wide attr.form) old new x
unfolding value
reads_value wide attr old new x e = go (value_at attr.form attr.implicit wide old.left) refl e
  where
    go : (answer : ValueReading) → value_at attr.form attr.implicit wide old.left ≡ answer → placed_value old answer ≡ Ok (x, new) → Reads (Spells attr.implicit wide attr.form) old new x
    go (Err fault) is e = absurd cc
    go (Ok (y, left)) is e =
        let b = value_at-spelled attr.form attr.implicit wide old.left left y is in
        subst (λ (p : Value × Cursor). Reads (Spells attr.implicit wide attr.form) old p.1 p.0) (same_pair y x (behind_front old left) new e)
        (record { bytes = b.front; spelled = b.spelled; passed = passes_front old b.front left b.parts })

value_reads : (wide : Bool) (attr : Attr) (old new : Cursor) (x : Value) → Reads (Spells attr.implicit wide attr.form) old new x → value wide attr old ≡ Ok (x, new)
unfolding value
value_reads wide attr old new x r =
    let e : value_at attr.form attr.implicit wide old.left ≡ Ok (x, new.left) =
    ap (λ (b : List ℕ). value_at attr.form attr.implicit wide b) r.passed.left ∙ value_at-again attr.form attr.implicit wide r.bytes new.left x r.spelled in
    ap (placed_value old) e ∙ ap (λ (c : Cursor). Ok (x, c)) (cursor_is old new r.bytes r.passed)

-- ---- what is found among values

-- The values one behind the other, each put behind what was found before it.
abbrev gathered : ℕ → List Found → List Found → List Found
gathered tag found [] = found
gathered tag found (more ∷ all) = gathered tag (with_found (wanted tag more.name) more found) all

-- What is read of the values of an entry is spelled.
record ValuesRead (wide : Bool) (tag : ℕ) (kind : List Attr) (found got : List Found) (old new : Cursor) : Type 0 where
  all : List Found
  spelled : SpellsValues wide old new kind all
  accepted : AllByRecursion (IsAccepted tag) all
  got_is : got ≡ gathered tag found all

values_read : (wide : Bool) (tag : ℕ) (kind : List Attr) (found got : List Found) (old new : Cursor) → values_from wide tag kind found old ≡ Ok (got, new) → ValuesRead wide tag kind found got old new
unfolding next_value
values_read wide tag [] found got old new e =
    subst (λ (p : List Found × Cursor). ValuesRead wide tag [] found p.0 old p.1) (same_pair found got old new e)
    (record { all = []; spelled = no_value old; accepted = tt; got_is = refl })
values_read wide tag (attr ∷ kind) found got old new e =
    let s = split (next_value wide tag attr found old) _ got new e in
    let a = split (value wide attr old) _ s.value s.cur s.first in
    let b = split _ _ s.value s.cur a.follows in
    let u = unless _ old.at _ b.value a.cur b.cur b.first in
    let one : Found = record { name = attr.name; at = old.at; value = a.value } in
    let p = same_pair (with_found (wanted tag attr.name) one found) s.value b.cur s.cur b.follows in
    let here : a.cur ≡ s.cur = u.stays ∙ ap (λ (p : List Found × Cursor). p.1) p in
    let l = values_read wide tag kind s.value got s.cur new s.follows in
    record {
      all = one ∷ l.all;
      spelled = value_first old s.cur new attr kind one l.all
          (subst (λ (c : Cursor). Reads (Spells attr.implicit wide attr.form) old c a.value) here (reads_value wide attr old a.cur a.value a.first)) refl refl l.spelled;
      accepted = (not-false _ u.holds_not, l.accepted);
      got_is = l.got_is ∙ ap (λ (f : List Found). gathered tag f l.all) (sym (ap (λ (p : List Found × Cursor). p.0) p));
    }

false_of : (b : Bool) → b ≡ true → not b ≡ false
false_of true e = refl
false_of false e = absurd cc

value_is : (attr : Attr) (found : Found) (at : ℕ) → found.name ≡ attr.name → found.at ≡ at → found ≡ record { name = attr.name; at = at; value = found.value }
value_is attr found at name place = ap (λ (n : ℕ). record { name = n; at = found.at; value = found.value }) name ∙ ap (λ (n : ℕ). record { name = attr.name; at = n; value = found.value }) place

next_value-again : (wide : Bool) (tag : ℕ) (attr : Attr) (one : Found) (found : List Found) (old new : Cursor) → Reads (Spells attr.implicit wide attr.form) old new one.value → one.name ≡ attr.name → one.at ≡ old.at
    → IsAccepted tag one → next_value wide tag attr found old ≡ Ok (with_found (wanted tag one.name) one found, new)
unfolding next_value
next_value-again wide tag attr one found old new r name at accepted =
    let taken : not (accepts (wanted tag attr.name) one.value) ≡ false =
    ap (λ (n : ℕ). not (accepts (wanted tag n) one.value)) (sym name) ∙ false_of (accepts (wanted tag one.name) one.value) accepted in
    rw (value_reads wide attr old new one.value r, taken)
    (ap (λ (f : Found). Ok (with_found (wanted tag f.name) f found, new)) (sym (value_is attr one old.at name at)))

values_again : (wide : Bool) (tag : ℕ) (old new : Cursor) (kind : List Attr) (all : List Found) → SpellsValues wide old new kind all → AllByRecursion (IsAccepted tag) all → (found : List Found)
    → values_from wide tag kind found old ≡ Ok (gathered tag found all, new)
values_again wide tag _ _ _ _ (no_value cur) accepted found = refl
values_again wide tag _ _ _ _ (value_first old behind_it new attr kind one all r name at spelled) accepted found =
    rw (next_value-again wide tag attr one found old behind_it r name at accepted.0)
    (values_again wide tag behind_it new kind all spelled accepted.1 (with_found (wanted tag one.name) one found))

pub values-not_longer : (wide : Bool) (old new : Cursor) (kind : List Attr) (all : List Found) → SpellsValues wide old new kind all → length new.left ≤ length old.left
values-not_longer wide _ _ _ _ (no_value cur) = omega arith
values-not_longer wide _ _ _ _ (value_first old behind_it new attr kind one all r name at spelled) =
    let a = not_longer old behind_it r.bytes r.passed in
    let b = values-not_longer wide behind_it new kind all spelled in
    omega (arith, a, b)

pub values-places : (wide : Bool) (old new : Cursor) (kind : List Attr) (all : List Found) → SpellsValues wide old new kind all
    → (old.at ≤ new.at) × (old.at + length old.left ≡ new.at + length new.left)
values-places wide _ _ _ _ (no_value cur) = (omega arith, refl)
values-places wide _ _ _ _ (value_first old behind_it new attr kind one all r name at spelled) =
    let l = values-places wide behind_it new kind all spelled in
    let long = ap length r.passed.left ∙ length-append r.bytes behind_it.left in
    (omega (arith, r.passed.at, l.0), omega (arith, r.passed.at, long, l.1))

-- ---- the first of each name

-- Nothing was found of the name yet.
abbrev is_new : List Found → Found → Bool
is_new found one = not (list_any (λ other. other.name == one.name) found)

filter_twice : (p q r : Found → Bool) → ((x : Found) → r x ≡ (p x && q x)) → (xs : List Found) → filter p (filter q xs) ≡ filter r xs
filter_twice p q r both [] = refl
filter_twice p q r both (x ∷ xs) = go (q x) (p x) refl refl (filter_twice p q r both xs)
  where
    go : (second first : Bool) → q x ≡ second → p x ≡ first → filter p (filter q xs) ≡ filter r xs
        → filter p (cond (q x) (x ∷ filter q xs) (filter q xs)) ≡ cond (r x) (x ∷ filter r xs) (filter r xs)
    go false first is_q is_p rest = let not_r : r x ≡ false = both x ∙ and_right (p x) (q x) is_q in rw (is_q, not_r) rest
    go true false is_q is_p rest = let not_r : r x ≡ false = both x ∙ and_left (p x) (q x) is_p in rw (is_q, is_p, not_r) rest
    go true true is_q is_p rest = let is_r : r x ≡ true = both x ∙ and_from (p x) (q x) is_p is_q in rw (is_q, is_p, is_r) (ap (λ (ys : List Found). x ∷ ys) rest)

same_names : (m n : ℕ) → (m == n) ≡ true → (found : List Found) → list_any (λ other. other.name == m) found ≡ list_any (λ other. other.name == n) found
same_names m n same found = ap (λ (k : ℕ). list_any (λ (other : Found). other.name == k) found) (eqb-true m n same)

-- behind one of its name, which was found, another is not new
old_names : (found : List Found) (one x : Found) → list_any (λ other. other.name == one.name) found ≡ true → is_new found x ≡ (is_new found x && not (x.name == one.name))
old_names found one x was = go (x.name == one.name) refl
  where
    go : (same : Bool) → (x.name == one.name) ≡ same → is_new found x ≡ (is_new found x && not (x.name == one.name))
    go true is = let e = same_names x.name one.name is found ∙ was in rw (is, e) refl
    go false is = rw is (keeps (is_new found x))
      where
        keeps : (b : Bool) → b ≡ (b && true)
        keeps true = refl
        keeps false = refl

swapped : (m n : ℕ) → (m == n) ≡ (n == m)
swapped m n = grind (arith, nat_tests)

-- behind one that is found now, those of other names are new
new_names : (found : List Found) (one x : Found) → is_new (found ++ one ∷ []) x ≡ (is_new found x && not (x.name == one.name))
new_names found one x =
    ap not (list_any-append (λ other. other.name == x.name) found (one ∷ []))
    ∙ rw (swapped one.name x.name) (parts (list_any (λ other. other.name == x.name) found) (x.name == one.name))
  where
    parts : (a b : Bool) → not (a || (b || false)) ≡ (not a && not b)
    parts true true = refl
    parts true false = refl
    parts false true = refl
    parts false false = refl

gathered-is : (tag : ℕ) (found all : List Found) → gathered tag found all ≡ found ++ filter (is_new found) (wanted_among tag all)
gathered-is tag found [] = sym (append-nil found)
gathered-is tag found (one ∷ all) =
    go (is_unused (wanted tag one.name)) (list_any (λ other. other.name == one.name) found) refl refl (λ later. gathered-is tag later all)
  where
    go : (unwanted was : Bool) → is_unused (wanted tag one.name) ≡ unwanted → list_any (λ other. other.name == one.name) found ≡ was
        → ((later : List Found) → gathered tag later all ≡ later ++ filter (is_new later) (wanted_among tag all))
        → gathered tag (with_found (wanted tag one.name) one found) all ≡ found ++ filter (is_new found) (wanted_among tag (one ∷ all))
    go true was is_un is_was later = rw is_un (later found)
    go false true is_un is_was later =
        rw (is_un, is_was)
        (later found ∙ ap (λ (ys : List Found). found ++ ys)
        (sym (filter_twice (is_new found) (λ other. not (other.name == one.name)) (is_new found) (λ x. old_names found one x is_was) (wanted_among tag all))))
    go false false is_un is_was later =
        rw (is_un, is_was)
        (later (found ++ one ∷ [])
        ∙ append_assoc found (one ∷ []) (filter (is_new (found ++ one ∷ [])) (wanted_among tag all))
        ∙ ap (λ (ys : List Found). found ++ one ∷ ys)
        (sym (filter_twice (is_new found) (λ other. not (other.name == one.name)) (is_new (found ++ one ∷ [])) (λ x. new_names found one x) (wanted_among tag all))))

all_new : (xs : List Found) → filter (is_new []) xs ≡ xs
all_new [] = refl
all_new (x ∷ xs) = ap (λ (ys : List Found). x ∷ ys) (all_new xs)

-- ---- the values of an entry

pub record AreValues (wide : Bool) (tag : ℕ) (kind : List Attr) (found : List Found) (old new : Cursor) : Type 0 where
  pub all : List Found
  pub spelled : SpellsValues wide old new kind all
  pub accepted : AllByRecursion (IsAccepted tag) all
  pub found_is : found ≡ wanted_among tag all

pub reads_values : (wide : Bool) (tag : ℕ) (kind : List Attr) (found : List Found) (old new : Cursor) → values wide tag kind old ≡ Ok (found, new) → AreValues wide tag kind found old new
unfolding values
reads_values wide tag kind found old new e =
    let r = values_read wide tag kind [] found old new e in
    record {
      all = r.all;
      spelled = r.spelled;
      accepted = r.accepted;
      found_is = r.got_is ∙ gathered-is tag [] r.all ∙ all_new (wanted_among tag r.all);
    }

pub values_reads : (wide : Bool) (tag : ℕ) (old new : Cursor) (kind : List Attr) (all : List Found) → SpellsValues wide old new kind all → AllByRecursion (IsAccepted tag) all
    → values wide tag kind old ≡ Ok (wanted_among tag all, new)
unfolding values
values_reads wide tag old new kind all spelled accepted =
    values_again wide tag old new kind all spelled accepted []
    ∙ ap (λ (f : List Found). Ok (f, new)) (gathered-is tag [] all ∙ all_new (wanted_among tag all))
