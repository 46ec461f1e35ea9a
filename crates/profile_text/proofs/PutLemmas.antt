-- Targets, put one by one.
use Rattle.std.proofs.Common.{◌≡◌, ℕ, ◌+◌, ◌<◌, ◌≤◌, Bool, true, false, List, [], ◌∷◌, ◌++◌, Some, map, length, refl, sym, ap, subst, arith, ◌∙◌, inl, inr, append_assoc, append-nil, add-one, take, drop, get_or}
use Rattle.std.specs.Prelude.{◌==◌, ◌||◌, slice_get, slice_index, if◌then◌else◌}
use Rattle.std.specs.Cmp.Lexicographic.{bytes_decides}
use Rattle.std.specs.List.{list_any}
use Rattle.std.proofs.lemmas.Bool.{eqb-true, eqb-false}
use Rattle.std.proofs.Math.Seq.{drop-cons, take-suc}
use Rattle.std.proofs.lemmas.List.{drop_all, map-append, length_push, take_all, take-append-drop}
use Rattle.refusal.specs.declared.kind.Kind.TheVariants.{KeyTwice}
use Rattle.profile_text.specs.Said.{pair_of}
use Rattle.profile_text.specs.declared.said.Named.{Named}
use Rattle.std.proofs.lemmas.Option.{slice_get_within}
use Rattle.key_types.specs.Numbers.{IsNumbered}
use Rattle.key_types.specs.declared.ids.KeyId.{KeyId}
use Rattle.key_types.specs.declared.ids.NameId.{NameId}
use Rattle.profile_model.specs.Spelled.{target}
use Rattle.profile_model.specs.Standing.{again_among, has_twice}
use Rattle.profile_model.specs.Ways.{same_name}
use Rattle.profile_tree.specs.Said.{way_at}
use Rattle.profile_text.proofs.OpenLemmas.{kept_on, kept_grows, name_kept}
use Rattle.profile_text.proofs.StampLemmas.{stamped_grow, stamped_more, stamped_none}
use Rattle.profile_text.proofs.ToldLemmas.{items_grow, item_more}
use Rattle.profile_text.specs.Draft.{Kept, IsOneOf, AreTargetsPut, TargetsSoFar, AreOld, names_of, number_told, target_number}
use Rattle.profile_text.specs.Stamps.{IsStamped}
use Rattle.profile_text.specs.declared.item.Item.{Item}
use Rattle.profile_text.specs.declared.item.What.TheVariants.{Target}

among : (name : List ℕ) (done : List (List ℕ)) → IsOneOf name done → list_any (same_name name) done ≡ true
among name [] one = absurd one
among name (other ∷ done) (inl same) = let is : same_name name other ≡ true = (bytes_decides name other).1 same in rw is
among name (other ∷ done) (inr one) = or_true (same_name name other) (among name done one)
  where
    or_true : (b : Bool) {c : Bool} → c ≡ true → (b || c) ≡ true
    or_true true is = refl
    or_true false is = is

not_among : (name : List ℕ) (done : List (List ℕ)) → (IsOneOf name done → ⊥) → list_any (same_name name) done ≡ false
not_among name [] none = refl
not_among name (other ∷ done) none = by_answer (same_name name other) refl (not_among name done (λ one. none (inr one)))
  where
    by_answer : (b : Bool) → same_name name other ≡ b → list_any (same_name name) done ≡ false → (b || list_any (same_name name) done) ≡ false
    by_answer true is rest = absurd (none (inl ((bytes_decides name other).0 is)))
    by_answer false is rest = rest

pub put_none : (names : List (List ℕ)) (items : List Item) (at : ℕ) (key : KeyId) (targets : List (List ℕ × ℕ)) (stamps : List ℕ)
    → AreOld stamps (length items) (length names) → TargetsSoFar names items at key [] targets names stamps items
put_none names items at key targets stamps old = record {
  done = [];
  put = record {
    kept = λ n x there. there;
    one_each = omega arith;
    given = λ keys fits given. given;
    tell = λ last last_keys kept. sym (append-nil (map (number_told last last_keys) items));
    low = λ n. omega (arith, old.below n);
    few = old.few;
  };
  stamped = stamped_none names (length items) stamps old.below old.few;
  rest = refl;
}

-- a target whose name was put before
pub put_again : (names : List (List ℕ)) (items : List Item) (at : ℕ) (key : KeyId) (targets left : List (List ℕ × ℕ)) (called : List ℕ × ℕ)
    (more grown : List (List ℕ)) (stamps : List ℕ) (after : List Item) (id : NameId)
    → TargetsSoFar names items at key targets (called ∷ left) more stamps after → 0 < length items → Kept more grown → IsNumbered grown
    → slice_get grown id.0 ≡ Some called.0 → true ≡ (slice_index stamps id.0 == length items)
    → has_twice (names_of (targets ++ called ∷ left)) ≡ true
unfolding again_among
put_again names items at key targets left called more grown stamps after id so some kept apart there stood =
    let stamped = stamped_grow (List ℕ) more grown (length items) stamps so.done so.stamped some kept apart in
    let one = (stamped.marked id.0 called.0 there).0 (eqb-true (slice_index stamps id.0) (length items) (sym stood)) in
    so.rest ∙ rw (among called.0 so.done one)

pub put_more : (names : List (List ℕ)) (items : List Item) (at : ℕ) (key : KeyId) (targets left : List (List ℕ × ℕ)) (called : List ℕ × ℕ)
    (more grown : List (List ℕ)) (stamps new : List ℕ) (after : List Item) (id : NameId)
    → TargetsSoFar names items at key targets (called ∷ left) more stamps after → 0 < length items → Kept more grown → IsNumbered grown → length grown ≤ length more + 1
    → slice_get grown id.0 ≡ Some called.0 → false ≡ (slice_index stamps id.0 == length items) → length items ≤ length after
    → IsStamped stamps id.0 (length items) new
    → TargetsSoFar names items at key (targets ++ called ∷ []) left grown new (after ++ record { line = at; what = Target key id; times = called.1 } ∷ [])
unfolding again_among
put_more names items at key targets left called more grown stamps new after id so some kept apart one_more there stood longer is =
    let stamped = stamped_grow (List ℕ) more grown (length items) stamps so.done so.stamped some kept apart in
    let first : IsOneOf called.0 so.done → ⊥ = λ one. eqb-false (slice_index stamps id.0) (length items) (sym stood) ((stamped.marked id.0 called.0 there).1 one) in
    record {
      done = called.0 ∷ so.done;
      put = record {
        kept = kept_on names more grown so.put.kept kept;
        one_each = omega (arith, so.put.one_each, one_more, length_push targets called);
        given = λ keys fits given.
            item_more (length grown) keys after (record { line = at; what = Target key id; times = called.1 })
            (items_grow (length more) (length grown) keys keys (kept_grows more grown kept) (omega arith) after (so.put.given keys fits given))
            (fits, slice_get_within grown id.0 called.0 there);
        tell = λ last last_keys behind.
            map-append (number_told last last_keys) after (record { line = at; what = Target key id; times = called.1 } ∷ [])
            ∙ ap (λ ns. ns ++ number_told last last_keys (record { line = at; what = Target key id; times = called.1 }) ∷ []) (so.put.tell last last_keys (kept_on more grown last kept behind))
            ∙ append_assoc (map (number_told last last_keys) items) (map (target_number at (way_at last last_keys key.0)) targets) (number_told last last_keys (record { line = at; what = Target key id; times = called.1 }) ∷ [])
            ∙ ap (λ name. map (number_told last last_keys) items ++ (map (target_number at (way_at last last_keys key.0)) targets ++ record { line = at; what = target (way_at last last_keys key.0) name; times = called.1 } ∷ []))
            (name_kept grown last id.0 called.0 behind there)
            ∙ ap (λ ns. map (number_told last last_keys) items ++ ns) (sym (map-append (target_number at (way_at last last_keys key.0)) targets (called ∷ [])));
        low = λ n. low n (n == id.0) (is.each n);
        few = omega (arith, is.len, so.put.few, kept_grows more grown kept, slice_get_within grown id.0 called.0 there);
      };
      stamped = stamped_more (List ℕ) grown (length items) stamps new so.done id.0 called.0 stamped apart there is;
      rest =
          ap (λ all. again_among [] (names_of all)) (append_assoc targets (called ∷ []) left)
          ∙ so.rest ∙ rw (not_among called.0 so.done first);
    }
  where
    low : (n : ℕ) (b : Bool) → slice_index new n ≡ (if b then length items else slice_index stamps n)
        → slice_index new n ≤ length (after ++ record { line = at; what = Target key id; times = called.1 } ∷ [])
    low n true value = omega (arith, value, longer, length_push after (record { line = at; what = Target key id; times = called.1 }))
    low n false value = omega (arith, value, so.put.low n, length_push after (record { line = at; what = Target key id; times = called.1 }))

-- ---- target by target of a slice

-- a target and those behind it
from_here : (targets : List Named) (i : ℕ) (d : Named) → i < length targets → map pair_of (drop i targets) ≡ pair_of (get_or targets i d) ∷ map pair_of (drop (i + 1) targets)
from_here targets i d within =
    let e : drop i targets ≡ get_or targets i d ∷ drop (i + 1) targets = rw add-one (drop-cons targets i d within) in
    ap (map pair_of) e

up_to_here : (targets : List Named) (i : ℕ) (d : Named) → i < length targets → map pair_of (take (i + 1) targets) ≡ map pair_of (take i targets) ++ pair_of (get_or targets i d) ∷ []
up_to_here targets i d within =
    let e : take (i + 1) targets ≡ take i targets ++ get_or targets i d ∷ [] = rw add-one (take-suc targets i d within) in
    ap (map pair_of) e ∙ map-append pair_of (take i targets) (get_or targets i d ∷ [])

all_of : (targets : List Named) (i : ℕ) (d : Named) → i < length targets → map pair_of (take i targets) ++ pair_of (get_or targets i d) ∷ map pair_of (drop (i + 1) targets) ≡ map pair_of targets
all_of targets i d within =
    ap (λ left. map pair_of (take i targets) ++ left) (sym (from_here targets i d within))
    ∙ sym (map-append pair_of (take i targets) (drop i targets)) ∙ ap (map pair_of) (take-append-drop i targets)

some_stamp : (stamps : List ℕ) (next names : ℕ) → AreOld stamps next names → 0 < next
some_stamp stamps next names old = omega (arith, old.below 0)

pub put_again_at : (names : List (List ℕ)) (items : List Item) (at : ℕ) (key : KeyId) (targets : List Named) (i : ℕ)
    (more grown : List (List ℕ)) (first stamps : List ℕ) (after : List Item) (id : NameId) (stamp : ℕ) (d : Named)
    → AreOld first (length items) (length names) → TargetsSoFar names items at key (map pair_of (take i targets)) (map pair_of (drop i targets)) more stamps after
    → i < length targets → Kept more grown → IsNumbered grown → slice_get grown id.0 ≡ Some (get_or targets i d).name.now
    → stamp ≡ length items → true ≡ (slice_index stamps id.0 == stamp)
    → (KeyTwice ≡ KeyTwice) × (has_twice (names_of (map pair_of targets)) ≡ true)
put_again_at names items at key targets i more grown first stamps after id stamp d old so within kept apart there is stood = (
  refl,
  ap (λ all. has_twice (names_of all)) (sym (all_of targets i d within))
      ∙ put_again names items at key (map pair_of (take i targets)) (map pair_of (drop (i + 1) targets)) (pair_of (get_or targets i d)) more grown stamps after id
      (subst (λ left. TargetsSoFar names items at key (map pair_of (take i targets)) left more stamps after) (from_here targets i d within) so)
      (some_stamp first (length items) (length names) old) kept apart there (stood ∙ ap (λ n. slice_index stamps id.0 == n) is),
)

pub put_more_at : (names : List (List ℕ)) (items : List Item) (at : ℕ) (key : KeyId) (targets : List Named) (i : ℕ)
    (more grown : List (List ℕ)) (first stamps new : List ℕ) (after : List Item) (id : NameId) (stamp : ℕ) (d : Named)
    → AreOld first (length items) (length names) → TargetsSoFar names items at key (map pair_of (take i targets)) (map pair_of (drop i targets)) more stamps after
    → i < length targets → Kept more grown → IsNumbered grown → length grown ≤ length more + 1 → slice_get grown id.0 ≡ Some (get_or targets i d).name.now
    → stamp ≡ length items → false ≡ (slice_index stamps id.0 == stamp) → length items ≤ length after → IsStamped stamps id.0 stamp new
    → TargetsSoFar names items at key (map pair_of (take (i + 1) targets)) (map pair_of (drop (i + 1) targets)) grown new
    (after ++ record { line = at; what = Target key id; times = (get_or targets i d).times } ∷ [])
put_more_at names items at key targets i more grown first stamps new after id stamp d old so within kept apart one_more there is stood longer stamped =
    subst (λ done. TargetsSoFar names items at key done (map pair_of (drop (i + 1) targets)) grown new (after ++ record { line = at; what = Target key id; times = (get_or targets i d).times } ∷ []))
    (sym (up_to_here targets i d within))
    (put_more names items at key (map pair_of (take i targets)) (map pair_of (drop (i + 1) targets)) (pair_of (get_or targets i d)) more grown stamps new after id
    (subst (λ left. TargetsSoFar names items at key (map pair_of (take i targets)) left more stamps after) (from_here targets i d within) so)
    (some_stamp first (length items) (length names) old) kept apart one_more there (stood ∙ ap (λ n. slice_index stamps id.0 == n) is) longer
    (subst (λ n. IsStamped stamps id.0 n new) is stamped))

pub put_all : (names : List (List ℕ)) (items : List Item) (at : ℕ) (key : KeyId) (targets : List Named) (i : ℕ)
    (more : List (List ℕ)) (stamps : List ℕ) (after : List Item)
    → TargetsSoFar names items at key (map pair_of (take i targets)) (map pair_of (drop i targets)) more stamps after → length targets ≤ i
    → (has_twice (names_of (map pair_of targets)) ≡ false) × AreTargetsPut names items at key (map pair_of targets) more stamps after
unfolding again_among
put_all names items at key targets i more stamps after so past =
    let all : map pair_of (take i targets) ≡ map pair_of targets = ap (map pair_of) (take_all i targets past) in
    let none : map pair_of (drop i targets) ≡ [] = ap (map pair_of) (drop_all i targets past) in
    let now = subst (λ left. TargetsSoFar names items at key (map pair_of targets) left more stamps after) none
    (subst (λ done. TargetsSoFar names items at key done (map pair_of (drop i targets)) more stamps after) all so) in
    (ap (λ ts. again_among [] (names_of ts)) (sym (append-nil (map pair_of targets))) ∙ now.rest, now.put)
