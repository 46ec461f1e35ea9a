-- Each entry counts in a head, and in a target where it came from a way.
use Rattle.std.proofs.Common.{◌≡◌, ℕ, zero, ◌+◌, Bool, true, false, ◌&&◌, cond, List, [], ◌∷◌, Option, None, Some, refl, sym, ap, ◌∙◌, arith}
use Rattle.std.specs.Prelude.{count_by, filter, sum_by}
use Rattle.std.specs.List.{cons_option, filter_map}
use Rattle.std.specs.Option.{option_map, option_map_or}
use Rattle.std.proofs.lemmas.List.Sums.{sum_by-cons}
use Rattle.profile_model.specs.Ways.{Way, same_name, same_way}
use Rattle.report_model.specs.declared.class.Reason.{Reason}
use Rattle.report_model.specs.Branches.{class_by_reason, is_entry}
use Rattle.binary_model.specs.Places.{Place}
use Rattle.output_model.specs.Program.{way_at}
use Rattle.output_model.specs.Sampled.{call_by, call_of, class_of_branch, class_of_places, has_way, head_of, profile_of}
use Rattle.command_laws.specs.Entries.{EntriesCount, enters}

-- What a branch adds to a sum over what branches give.
share : {A : Type 0} → (A → Bool) → (A → ℕ) → Option A → ℕ
share test weight None = 0
share test weight (Some a) = cond (test a) (weight a) 0

-- A sum over what some branches give is how many branches there are of a kind, where each gives one to it or nothing.
counted : {A : Type 0} (f : ℕ × ℕ → Option A) (test : A → Bool) (weight : A → ℕ) (is : ℕ × ℕ → Bool)
    → ((branch : ℕ × ℕ) → share test weight (f branch) ≡ cond (is branch) 1 0)
    → (branches : List (ℕ × ℕ)) → sum_by weight (filter test (filter_map f branches)) ≡ count_by is branches
unfolding share
counted {A} f test weight is one [] = refl
counted {A} f test weight is one (branch ∷ branches) =
    let more = sum_by-cons (λ (b : ℕ × ℕ). cond (is b) 1 0) branch branches in
    let here = by (f branch) in
    omega (arith, more, here, one branch, counted f test weight is one branches)
  where
    passed : (a : A) (t : Bool) → sum_by weight (cond t (a ∷ filter test (filter_map f branches)) (filter test (filter_map f branches))) ≡ cond t (weight a) 0 + sum_by weight (filter test (filter_map f branches))
    passed a true = sum_by-cons weight a (filter test (filter_map f branches))
    passed a false = omega arith

    by : (o : Option A) → sum_by weight (filter test (cons_option o (filter_map f branches))) ≡ share test weight o + sum_by weight (filter test (filter_map f branches))
    by None = omega arith
    by (Some a) = passed a (test a)

all_pass : {A : Type 0} (xs : List A) → filter (λ x. true) xs ≡ xs
all_pass [] = refl
all_pass (x ∷ xs) = ap (λ rest. x ∷ rest) (all_pass xs)

-- ---- what one branch gives

no_entry : (reason : Option Reason) → is_entry (class_by_reason reason) ≡ false
no_entry None = refl
no_entry (Some reason) = refl

in_all : (entered : Option (List ℕ)) (from to : Place)
    → share (λ (h : List ℕ × ℕ). true) (λ h. h.1) (option_map (λ name. (name, 1)) entered) ≡ cond (is_entry (class_of_places entered from to)) 1 0
unfolding share
in_all None from to = ap (λ t. cond t 1 0) (sym (no_entry _))
in_all (Some name) from to = refl

in_head : (name : List ℕ) (entered : Option (List ℕ))
    → share (λ (h : List ℕ × ℕ). same_name name h.0) (λ h. h.1) (option_map (λ name. (name, 1)) entered) ≡ cond (option_map_or (same_name name) entered false) 1 0
unfolding share
in_head name None = refl
in_head name (Some other) = refl

and_none : (t : Bool) → zero ≡ cond (t && false) 1 0
and_none true = refl
and_none false = refl

in_target : (way : Way) (name : List ℕ) (from : Option Way) (entered : Option (List ℕ))
    → share (λ (c : Way × List ℕ × ℕ). same_way way c.0 && same_name name c.1) (λ c. c.2) (call_by from entered)
    ≡ cond (option_map_or (same_way way) from false && option_map_or (same_name name) entered false) 1 0
unfolding share
in_target way name None entered = refl
in_target way name (Some other) None = and_none (same_way way other)
in_target way name (Some other) (Some callee) = refl

-- ---- the law

pub entries_count : EntriesCount
unfolding profile_of
entries_count program sampled = record {
  all = ap (sum_by (λ (h : List ℕ × ℕ). h.1)) (sym (all_pass (filter_map (head_of program) sampled.branches)))
      ∙ counted (head_of program) (λ (h : List ℕ × ℕ). true) (λ h. h.1) (λ branch. is_entry (class_of_branch program branch))
      (λ branch. in_all (program.entered branch.1) (program.place branch.0) (program.place branch.1)) sampled.branches;
  heads = λ name. counted (head_of program) (λ (h : List ℕ × ℕ). same_name name h.0) (λ h. h.1) (enters program name)
      (λ branch. in_head name (program.entered branch.1)) sampled.branches;
  targets = λ way name. counted (call_of program) (λ (c : Way × List ℕ × ℕ). same_way way c.0 && same_name name c.1) (λ c. c.2)
      (λ branch. has_way program way branch.0 && enters program name branch)
      (λ branch. in_target way name (way_at program branch.0) (program.entered branch.1)) sampled.branches;
}
