-- Heads, counts and targets, by numbers and by names.
use Rattle.std.proofs.Common.{◌≡◌, ℕ, ◌+◌, ◌*◌, ◌<◌, ◌==◌, Bool, true, false, cond, ◌&&◌, List, [], ◌∷◌, map, filter, length, refl, sym, ap, subst, ◌∙◌, arith, zero-add}
use Rattle.std.specs.Prelude.{sum_by}
use Rattle.std.specs.Cmp.Lexicographic.{bytes_decides}
use Rattle.std.specs.List.{AllByRecursion}
use Rattle.std.specs.Option.{unwrap_or}
use Rattle.std.proofs.lemmas.List.Sums.{sum_by-cons}
use Rattle.std.proofs.lemmas.Option.{slice_get-get_or}
use Rattle.key_types.specs.declared.key.Key.{Key}
use Rattle.merge_laws.proofs.SumLemmas.{number_in-both, number_in-weighed}
use Rattle.profile_laws.proofs.OnceLemmas.{way_told}
use Rattle.profile_model.specs.Merge.{both, weighed}
use Rattle.profile_model.specs.Profile.{Profile}
use Rattle.profile_model.specs.Spelled.{What as ToldWhat, head, count, target, Number, profile_by, number_in}
use Rattle.profile_model.specs.Ways.{Step, Way, to_function, to_call, same_name, same_way}
use Rattle.profile_tree.proofs.ListLemmas.{and_first, and_second, nat_same}
use Rattle.profile_tree.proofs.SumLemmas.{Given, given_alone, ways_apart, same_name_is, steps_are_named}
use Rattle.profile_tree.proofs.WayLemmas.{IsNamed, names_once, same_ways, way_itself}
use Rattle.profile_tree.specs.Said.{way_at}
use Rattle.profile_tree.specs.Steps.{NumberedStep, at_function, at_line, at_call, name_at, named, steps_at, steps_of_given}
use Rattle.profile_text.proofs.OpenLemmas.{name_kept}
use Rattle.profile_text.specs.Draft.{IsGivenItem, IsGivenWhat, Kept, number_told, what_told}
use Rattle.profile_text.specs.Numbers.{counted}
use Rattle.profile_text.specs.declared.item.Item.{Item}
use Rattle.profile_text.specs.declared.item.What.{What}
use Rattle.profile_text.specs.declared.item.What.TheVariants.{Head, Count, Target}
use Rattle.profile_merge.specs.Laws.{AreNumbered}
use Rattle.profile_merge.specs.Sums.{number_at, same_what}
use Rattle.profile_merge.specs.Told.{IsToldBy}

-- a profile with weight, and another
pub number_in_weighed_both : (weight : ℕ) (p q : Profile) (told : ToldWhat) → number_in (both (weighed weight p) q) told ≡ weight * number_in p told + number_in q told
number_in_weighed_both weight p q told = number_in-both (weighed weight p) q told ∙ ap (λ n. n + number_in q told) (number_in-weighed weight p told)

-- the name that is told of
abbrev pub name_told : ToldWhat → List ℕ
name_told (head name) = name
name_told (count way) = []
name_told (target way name) = name

-- ---- names and keys that were given
module _ (names : List (List ℕ)) (keys : List Key) (are : AreNumbered names keys) where
  known : Given names keys [] []
  known = given_alone names keys are.names_once are.keys_once are.key_names

  pub way_is : (k j : ℕ) → k < length keys → j < length keys → same_way (way_at names keys k) (way_at names keys j) ≡ (j == k)
  way_is = ways_apart names keys [] [] [] known

  pub name_is : (i j : ℕ) → i < length names → j < length names → same_name (name_at names i) (name_at names j) ≡ (j == i)
  name_is = same_name_is names keys [] [] [] known

  keys_alike : (k j : ℕ) → k < length keys → j < length keys → way_at names keys k ≡ way_at names keys j → k ≡ j
  keys_alike k j h f e =
      sym (nat_same j k (sym (way_is k j h f) ∙ subst (λ w. same_way (way_at names keys k) w ≡ true) e (way_itself (way_at names keys k))))

  -- different numbers tell different things
  pub what_once : (v w : What) → IsGivenWhat (length names) (length keys) v → IsGivenWhat (length names) (length keys) w → what_told names keys v ≡ what_told names keys w → v ≡ w
  what_once (Head n) (Head m) g h e = let same = names_once names are.names_once n.0 m.0 g h (ap name_told e) in λ i. Head (record { 0 = same i })
  what_once (Head n) (Count k) g h e = absurd cc
  what_once (Head n) (Target k m) g h e = absurd cc
  what_once (Count k) (Head n) g h e = absurd cc
  what_once (Count k) (Count l) g h e = let same = keys_alike k.0 l.0 g h (ap way_told e) in λ i. Count (record { 0 = same i })
  what_once (Count k) (Target l n) g h e = absurd cc
  what_once (Target k n) (Head m) g h e = absurd cc
  what_once (Target k n) (Count l) g h e = absurd cc
  what_once (Target k n) (Target l m) g h e =
      let same_key = keys_alike k.0 l.0 g.0 h.0 (ap way_told e) in
      let same_name = names_once names are.names_once n.0 m.0 g.1 h.1 (ap name_told e) in
      λ i. Target (record { 0 = same_key i }) (record { 0 = same_name i })

  -- what a profile by items tells of given numbers is what the items tell
  pub number_is : (items : List Item) (what : What) → AllByRecursion (IsGivenItem (length names) (length keys)) items → IsGivenWhat (length names) (length keys) what
      → number_in (counted names keys items) (what_told names keys what) ≡ number_at items what
  unfolding profile_by
  number_is [] (Head n) all given = refl
  number_is [] (Count k) all given = refl
  number_is [] (Target k n) all given = refl
  number_is (item ∷ items) what all given =
      by item.what what all.0 given (number_is items what all.1 given) ∙ sym (sum_by-cons (λ (x : Item). cond (same_what x.what what) x.times 0) item items)
    where
      rest : List Number
      rest = map (number_told names keys) items

      this : What → Number
      this w = record { line = item.line; what = what_told names keys w; times = item.times }

      one : {T : Type 0} (b c : Bool) (x : T) (number : T → ℕ) (xs : List T) (r : ℕ) → b ≡ c → sum_by number xs ≡ r → sum_by number (cond b (x ∷ xs) xs) ≡ cond c (number x) 0 + r
      one true true x number xs r e h = sum_by-cons number x xs ∙ ap (λ n. number x + n) h
      one true false x number xs r e h = absurd cc
      one false true x number xs r e h = absurd cc
      one false false x number xs r e h = h ∙ sym (zero-add r)

      by : (v w : What) → IsGivenWhat (length names) (length keys) v → IsGivenWhat (length names) (length keys) w → number_in (profile_by rest) (what_told names keys w) ≡ number_at items w
          → number_in (profile_by (this v ∷ rest)) (what_told names keys w) ≡ cond (same_what v w) item.times 0 + number_at items w
      by (Head m) (Head n) g h r = one _ _ (name_at names m.0, item.times) (λ x. x.1) _ _ (name_is n.0 m.0 h g) r
      by (Head m) (Count k) g h r = r ∙ sym (zero-add (number_at items (Count k)))
      by (Head m) (Target k n) g h r = r ∙ sym (zero-add (number_at items (Target k n)))
      by (Count l) (Head n) g h r = r ∙ sym (zero-add (number_at items (Head n)))
      by (Count l) (Count k) g h r = one _ _ (way_at names keys l.0, item.times) (λ x. x.1) _ _ (way_is k.0 l.0 h g) r
      by (Count l) (Target k n) g h r = r ∙ sym (zero-add (number_at items (Target k n)))
      by (Target l m) (Head n) g h r = r ∙ sym (zero-add (number_at items (Head n)))
      by (Target l m) (Count k) g h r = r ∙ sym (zero-add (number_at items (Count k)))
      by (Target l m) (Target k n) g h r =
          one _ _ (way_at names keys l.0, name_at names m.0, item.times) (λ x. x.2) _ _ (λ i. way_is k.0 l.0 h.0 g.0 i && name_is n.0 m.0 h.1 g.1 i) r

-- items tell nothing but of given numbers
pub told_by_items : (names : List (List ℕ)) (keys : List Key) (items : List Item) (told : ToldWhat) → AllByRecursion (IsGivenItem (length names) (length keys)) items → 0 < number_in (counted names keys items) told
    → IsToldBy names keys told
unfolding profile_by
told_by_items names keys [] (head name) all some = absurd (omega arith)
told_by_items names keys [] (count way) all some = absurd (omega arith)
told_by_items names keys [] (target way name) all some = absurd (omega arith)
told_by_items names keys (item ∷ items) told all some = by item.what told all.0 (told_by_items names keys items told all.1) some
  where
    rest : List Number
    rest = map (number_told names keys) items

    this : What → Number
    this w = record { line = item.line; what = what_told names keys w; times = item.times }

    by : (v : What) (t : ToldWhat) → IsGivenWhat (length names) (length keys) v → (0 < number_in (profile_by rest) t → IsToldBy names keys t) → 0 < number_in (profile_by (this v ∷ rest)) t → IsToldBy names keys t
    by (Head m) (head name) g more some =
        elim (same_name name (name_at names m.0)) as (λ b. same_name name (name_at names m.0) ≡ b → 0 < sum_by (λ (h : List ℕ × ℕ). h.1) (cond b ((name_at names m.0, item.times) ∷ filter (λ (h : List ℕ × ℕ). same_name name h.0) (profile_by rest).heads) (filter (λ (h : List ℕ × ℕ). same_name name h.0) (profile_by rest).heads)) → IsToldBy names keys (head name)) [
          | true ↦ λ e _. record { what = Head m; given = g; is = ap head (sym ((bytes_decides name (name_at names m.0)).0 e)) }
          | false ↦ λ _ h. more h
        ] refl some
    by (Head m) (count way) g more some = more some
    by (Head m) (target way name) g more some = more some
    by (Count l) (head name) g more some = more some
    by (Count l) (count way) g more some =
        elim (same_way way (way_at names keys l.0)) as (λ b. same_way way (way_at names keys l.0) ≡ b → 0 < sum_by (λ (c : Way × ℕ). c.1) (cond b ((way_at names keys l.0, item.times) ∷ filter (λ (c : Way × ℕ). same_way way c.0) (profile_by rest).counts) (filter (λ (c : Way × ℕ). same_way way c.0) (profile_by rest).counts)) → IsToldBy names keys (count way)) [
          | true ↦ λ e _. record { what = Count l; given = g; is = ap count (sym (same_ways way (way_at names keys l.0) e)) }
          | false ↦ λ _ h. more h
        ] refl some
    by (Count l) (target way name) g more some = more some
    by (Target l m) (head name) g more some = more some
    by (Target l m) (count way) g more some = more some
    by (Target l m) (target way name) g more some =
        elim (same_way way (way_at names keys l.0) && same_name name (name_at names m.0)) as (λ b. (same_way way (way_at names keys l.0) && same_name name (name_at names m.0)) ≡ b → 0 < sum_by (λ (c : Way × List ℕ × ℕ). c.2) (cond b ((way_at names keys l.0, name_at names m.0, item.times) ∷ filter (λ (c : Way × List ℕ × ℕ). same_way way c.0 && same_name name c.1) (profile_by rest).calls) (filter (λ (c : Way × List ℕ × ℕ). same_way way c.0 && same_name name c.1) (profile_by rest).calls)) → IsToldBy names keys (target way name)) [
          | true ↦ λ e _. record {
            what = Target l m;
            given = g;
            is = λ i. target (sym (same_ways way (way_at names keys l.0) (and_first _ _ e)) i) (sym ((bytes_decides name (name_at names m.0)).0 (and_second (same_way way (way_at names keys l.0)) _ e)) i);
          }
          | false ↦ λ _ h. more h
        ] refl some

-- ---- more names and keys
module _ (names more : List (List ℕ)) (keys more_keys : List Key) (are : AreNumbered names keys) (kept : Kept names more) (keys_kept : Kept keys more_keys) where
  name_same : (i : ℕ) → i < length names → name_at more i ≡ name_at names i
  name_same i within =
      let there = slice_get-get_or names i [] within in
      name_kept names more i _ kept there ∙ sym (ap (λ o. unwrap_or o []) there)

  step_same : (step : NumberedStep) → IsNamed (length names) step → named more step ≡ named names step
  step_same (at_function name) given = ap (λ n. named_function n) (name_same name given)
    where
      named_function : List ℕ → Step
      named_function n = to_function n
  step_same (at_line offset disc) given = refl
  step_same (at_call offset disc name) given = ap (λ n. to_call offset disc n) (name_same name given)

  steps_same : (steps : List NumberedStep) → AllByRecursion (IsNamed (length names)) steps → map (named more) steps ≡ map (named names) steps
  steps_same [] all = refl
  steps_same (step ∷ steps) all = λ i. step_same step all.0 i ∷ steps_same steps all.1 i

  way_same : (k : ℕ) → k < length keys → way_at more more_keys k ≡ way_at names keys k
  way_same k within =
      let there = slice_get-get_or keys k (any k within) within in
      ap (λ o. map (named more) (steps_of_given o)) (keys_kept k _ there ∙ sym there)
      ∙ steps_same (steps_at keys k) (steps_are_named names keys [] [] [] (known names keys are) k)
    where
      any : (k : ℕ) → k < length keys → Key
      any k within = first keys k within
        where
          first : (ks : List Key) (k : ℕ) → k < length ks → Key
          first [] k h = absurd (omega arith)
          first (key ∷ ks) k h = key

  pub what_same : (what : What) → IsGivenWhat (length names) (length keys) what → what_told more more_keys what ≡ what_told names keys what
  what_same (Head name) given = ap head (name_same name.0 given)
  what_same (Count key) given = ap count (way_same key.0 given)
  what_same (Target key name) given = λ i. target (way_same key.0 given.0 i) (name_same name.0 given.1 i)
