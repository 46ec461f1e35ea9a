-- Why a line is refused, cause by cause.
use Rattle.std.proofs.Common.{◌≡◌, ℕ, ◌≤◌, Bool, true, false, not, List, [], ◌∷◌, Some, None, map, refl, sym, arith, ◌∙◌, inl, inr, nat_lt}
use Rattle.std.specs.Prelude.{◌||◌, nat_le}
use Rattle.std.specs.List.{list_any}
use Rattle.std.proofs.lemmas.Bool.{lt-ltb, le-ltb, cases_lt}
use Rattle.std.proofs.lemmas.Bool.Decides.{nat_tests}
use Rattle.refusal.specs.declared.kind.Kind.{Kind}
use Rattle.refusal.specs.declared.kind.Kind.TheVariants.{TooDeep, BadIndent, KeyTwice}
use Rattle.refusal.specs.Place.{first_cause}
use Rattle.profile_model.specs.Judging.{max_depth, cause_of}
use Rattle.profile_model.specs.Profile.{Line}
use Rattle.profile_model.specs.Standing.{depth_of, can_stand, way_of, ways_of, targets_on, has_twice, tells_again}
use Rattle.profile_model.specs.Ways.{same_way}
use Rattle.profile_text.specs.Draft.{cause_of_depth}

pub record Stands (lines depth : ℕ) : Type 0 where
  pub shallow : depth ≤ max_depth
  pub below : depth ≤ lines

pub stands_free : (lines depth : ℕ) → None ≡ cause_of_depth lines depth → Stands lines depth
stands_free lines depth free =
    elim (cases_lt max_depth depth) [
      | inl deep ↦ let at : None ≡ Some TooDeep = rw (lt-ltb max_depth depth deep) at free in absurd (cc)
      | inr shallow ↦ elim (cases_lt lines depth) [
        | inl out ↦ let at : None ≡ Some BadIndent = rw (le-ltb max_depth depth shallow, lt-ltb lines depth out) at free in absurd (cc)
        | inr below ↦ record { shallow = shallow; below = below }
      ]
    ]

not_le : (m n : ℕ) → not (nat_le m n) ≡ nat_lt n m
not_le m n = grind (arith, nat_tests)

pub cause_by_depth : (before : List Line) (line : Line) (lines : ℕ) (kind : Kind) → can_stand before (depth_of line) ≡ nat_le (depth_of line) lines
    → Some kind ≡ cause_of_depth lines (depth_of line) → cause_of before line ≡ Some kind
unfolding cause_of
cause_by_depth before line lines kind stands is =
    rw (stands, not_le (depth_of line) lines)
    (by_answers (nat_lt max_depth (depth_of line)) (nat_lt lines (depth_of line)) is)
  where
    by_answers : (deep out : Bool) → Some kind ≡ first_cause ((deep, TooDeep) ∷ (out, BadIndent) ∷ [])
        → first_cause ((deep, TooDeep) ∷ (out, BadIndent) ∷ (tells_again before line, KeyTwice) ∷ []) ≡ Some kind
    by_answers true out is = sym is
    by_answers false true is = sym is
    by_answers false false is = absurd (cc)

known_cause : (before : List Line) (line : Line) (lines : ℕ) → can_stand before (depth_of line) ≡ nat_le (depth_of line) lines → Stands lines (depth_of line)
    → cause_of before line ≡ first_cause ((tells_again before line, KeyTwice) ∷ [])
unfolding cause_of
known_cause before line lines stands free =
    rw (stands, not_le (depth_of line) lines, le-ltb max_depth (depth_of line) free.shallow, le-ltb lines (depth_of line) free.below)

pub cause_none : (before : List Line) (line : Line) (lines : ℕ) → can_stand before (depth_of line) ≡ nat_le (depth_of line) lines → Stands lines (depth_of line)
    → list_any (same_way (way_of before line)) (ways_of before) ≡ false → has_twice (map (λ target. target.0) (targets_on line)) ≡ false
    → cause_of before line ≡ None
unfolding tells_again
cause_none before line lines stands free first once = known_cause before line lines stands free ∙ rw (first, once)

pub cause_way : (before : List Line) (line : Line) (lines : ℕ) → can_stand before (depth_of line) ≡ nat_le (depth_of line) lines → Stands lines (depth_of line)
    → list_any (same_way (way_of before line)) (ways_of before) ≡ true → cause_of before line ≡ Some KeyTwice
unfolding tells_again
cause_way before line lines stands free again = known_cause before line lines stands free ∙ rw again

pub cause_target : (before : List Line) (line : Line) (lines : ℕ) → can_stand before (depth_of line) ≡ nat_le (depth_of line) lines → Stands lines (depth_of line)
    → has_twice (map (λ target. target.0) (targets_on line)) ≡ true → cause_of before line ≡ Some KeyTwice
unfolding tells_again
cause_target before line lines stands free twice =
    known_cause before line lines stands free ∙ rw twice (by_answer (list_any (same_way (way_of before line)) (ways_of before)))
  where
    by_answer : (b : Bool) → first_cause ((b || true, KeyTwice) ∷ []) ≡ Some KeyTwice
    by_answer true = refl
    by_answer false = refl
