-- What stood in front of a text stays there while more is appended.
use Rattle.std.proofs.Common.{◌≡◌, ℕ, ◌≤◌, List, ◌++◌, length, take, Result, Ok, Err, refl, sym, ap, subst, ◌∙◌, arith}
use Rattle.std.specs.Prelude.{OnErr, OnOk}
use Rattle.std.specs.Io.{StartsWith}
use Rattle.std.proofs.lemmas.List.{length-take, take-take}
use Rattle.std.proofs.Math.Seq.{take-append_seam}

-- by two calls, one behind the other,
pub in_front_of_both : (old mid new : List ℕ) → StartsWith mid old → StartsWith new mid → StartsWith new old
in_front_of_both old mid new first second =
    let fits : length old ≤ length mid = omega (arith, length-take (length old) mid, ap (λ (l : List ℕ). length l) first) in
    sym (take-take (length old) (length mid) new fits) ∙ ap (take (length old)) second ∙ first

-- the first of which appended all that it was to,
pub in_front_behind : (old more mid new : List ℕ) → mid ≡ old ++ more → StartsWith new mid → StartsWith new old
in_front_behind old more mid new is grown = in_front_of_both old mid new (subst (λ (m : List ℕ). StartsWith m old) (sym is) (take-append_seam old more)) grown

-- or by one call, whether it did or failed.
pub in_front_either : {T E : Type 0} (result : Result T E) (old more new : List ℕ) → OnOk result (new ≡ old ++ more) → OnErr result (StartsWith new old) → StartsWith new old
in_front_either (Ok done) old more new is grown = subst (λ (n : List ℕ). StartsWith n old) (sym is) (take-append_seam old more)
in_front_either (Err fault) old more new is grown = grown

-- The same of the first of two, for a tactic that looks for a term with all variables.
pub still_in_front : (old more new : List ℕ) → take (length (old ++ more)) new ≡ old ++ more
    → (take (length (old ++ more)) new ≡ take (length (old ++ more)) new) × (take (length old) new ≡ old)
still_in_front old more new grown = (refl, in_front_behind old more (old ++ more) new refl grown)
