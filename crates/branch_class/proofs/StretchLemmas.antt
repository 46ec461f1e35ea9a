-- One function holds a range exactly where its ends lie in one stretch.
use Rattle.std.proofs.Common.{◌≡◌, ◌↔◌, ℕ, ◌≤◌, Bool, true, false, Option, None, Some, refl, sym, ap, ◌∙◌, inl, inr, eqb, eqb-true}
use Rattle.std.specs.Prelude.{IsSome}
use Rattle.std.proofs.lemmas.Bool.{cases_Bool, eqb-false, false_from_ne_true}
use Rattle.key_types.specs.Places.{IsStretches}
use Rattle.report_model.specs.Ranges.{in_one_function, range_class}
use Rattle.report_model.proofs.RangeLemmas.{class_of_ends, class-forward, one_function, test_one}
use Rattle.branch_class.specs.Stretches.{class_of_stretches}

-- by what is known of the ends: whether functions hold them, and whether they lie in one stretch
by_ends : (f g : Option ℕ) (s t : Option ℕ) (one : Bool) → (IsSome s ↔ IsSome f) → (IsSome t ↔ IsSome g) → (IsSome f → IsSome g → (s ≡ t) ↔ (one ≡ true)) → class_of_ends f g one ≡ class_of_stretches s t
unfolding class_of_ends
by_ends None g None t one fs gt same = refl
by_ends None g (Some m) t one fs gt same = absurd (let no = fs.0 refl in cc)
by_ends (Some i) g None t one fs gt same = absurd (let no = fs.1 refl in cc)
by_ends (Some i) None (Some m) None one fs gt same = refl
by_ends (Some i) None (Some m) (Some n) one fs gt same = absurd (let no = gt.0 refl in cc)
by_ends (Some i) (Some j) (Some m) None one fs gt same = absurd (let no = gt.1 refl in cc)
by_ends (Some i) (Some j) (Some m) (Some n) one fs gt same = elim (cases_Bool (eqb m n)) [
  | inl equal ↦
      let is : one ≡ true = (same refl refl).0 (ap Some (eqb-true m n equal)) in
      rw (is, equal) refl
  | inr other ↦
      let is : one ≡ false = false_from_ne_true one (λ one_is. eqb-false m n other (some_inj ((same refl refl).1 one_is))) in
      rw (is, other) refl
]
  where
    some_inj : Some m ≡ Some n → m ≡ n
    some_inj e = cc

pub by_stretches : (function stretch : ℕ → Option ℕ) (to from : ℕ) → IsStretches function stretch → to ≤ from → class_of_stretches (stretch to) (stretch from) ≡ range_class function to from
by_stretches function stretch to from are order =
    sym (
    class-forward function to from order
    ∙ by_ends (function to) (function from) (stretch to) (stretch from) (in_one_function function to from) (are.there to) (are.there from)
    (λ some other. (
      λ same. test_one function to from ((are.together to from some other order).0 same),
      λ one. (are.together to from some other order).1 (one_function function to from one),
    ))
    )
