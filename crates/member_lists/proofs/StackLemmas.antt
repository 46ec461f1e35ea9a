-- The frames that stay above an entry, from the innermost on.
use Rattle.std.proofs.Common.{◌≡◌, ℕ, zero, suc, ◌-◌, ◌<◌, ◌≤◌, Bool, true, false, cond, List, [], ◌∷◌, length, take, get_or, refl, sym, ap, ◌∙◌, arith}
use Rattle.std.specs.Prelude.{nat_lt, reverse}
use Rattle.std.proofs.Math.Seq.{take-suc}
use Rattle.std.proofs.lemmas.Bool.{lt-ltb, le-ltb}
use Rattle.std.proofs.lemmas.List.{reverse-append}
use Rattle.member_lists.specs.declared.frame.EntryFrame.{EntryFrame}
use Rattle.member_lists.specs.Frames.{frames_above}

-- the innermost of some frames is the last one put there
innermost : (frames : List (ℕ × EntryFrame)) (count : ℕ) (other : ℕ × EntryFrame) → 0 < count → count ≤ length frames
    → reverse (take count frames) ≡ get_or frames (count - 1) other ∷ reverse (take (count - 1) frames)
innermost frames zero other some within = absurd (omega (arith, some))
innermost frames (suc n) other some within =
    let here : suc n - 1 ≡ n = omega arith in
    ap reverse (take-suc frames n other (omega (arith, within)))
    ∙ reverse-append (take n frames) (get_or frames n other ∷ [])
    ∙ ap (λ k. get_or frames k other ∷ reverse (take k frames)) (sym here)

above-by : (depth : ℕ) (frames : List (ℕ × EntryFrame)) (count : ℕ) (last : ℕ × EntryFrame) (less : Bool) → nat_lt last.0 depth ≡ less
    → reverse (take count frames) ≡ last ∷ reverse (take (count - 1) frames)
    → frames_above depth (reverse (take count frames)) ≡ cond less (last ∷ reverse (take (count - 1) frames)) (frames_above depth (reverse (take (count - 1) frames)))
above-by depth frames count last less e first =
    ap (λ fs. frames_above depth fs) first
    ∙ ap (λ b. cond b (last ∷ reverse (take (count - 1) frames)) (frames_above depth (reverse (take (count - 1) frames)))) e

-- Those that are passed are not above.
pub record AreNotAbove (depth : ℕ) (frames : List (ℕ × EntryFrame)) (count : ℕ) : Type 0 where
  pub within : count ≤ length frames
  pub above : frames_above depth (reverse (take count frames)) ≡ frames_above depth (reverse frames)

take-whole : {A : Type 0} (xs : List A) → take (length xs) xs ≡ xs
take-whole [] = refl
take-whole (x ∷ xs) = ap (λ l. x ∷ l) (take-whole xs)

pub not_above-start : (depth : ℕ) (frames : List (ℕ × EntryFrame)) (count : ℕ) → count ≡ length frames → AreNotAbove depth frames count
not_above-start depth frames count all = record {
  within = omega (arith, all);
  above = ap (λ n. frames_above depth (reverse (take n frames))) all ∙ ap (λ fs. frames_above depth (reverse fs)) (take-whole frames);
}

pub not_above-more : (depth : ℕ) (frames : List (ℕ × EntryFrame)) (count : ℕ) (other : ℕ × EntryFrame) → AreNotAbove depth frames count → 0 < count
    → depth ≤ (get_or frames (count - 1) other).0 → AreNotAbove depth frames (count - 1)
not_above-more depth frames count other so_far some past =
    let within = so_far.within in
    let last = get_or frames (count - 1) other in
    record {
      within = omega (arith, within);
      above = sym (above-by depth frames count last false (le-ltb last.0 depth (omega (arith, past))) (innermost frames count other some within)) ∙ so_far.above;
    }

pub not_above-found : (depth : ℕ) (frames : List (ℕ × EntryFrame)) (count : ℕ) (other : ℕ × EntryFrame) → AreNotAbove depth frames count → 0 < count
    → (get_or frames (count - 1) other).0 < depth → reverse (take count frames) ≡ frames_above depth (reverse frames)
not_above-found depth frames count other so_far some less =
    let last = get_or frames (count - 1) other in
    let first = innermost frames count other some so_far.within in
    first ∙ sym (above-by depth frames count last true (lt-ltb last.0 depth less) first) ∙ so_far.above

pub not_above-none : (depth : ℕ) (frames : List (ℕ × EntryFrame)) (count : ℕ) → AreNotAbove depth frames count → count ≤ 0 → reverse (take count frames) ≡ frames_above depth (reverse frames)
not_above-none depth frames zero so_far none = so_far.above
not_above-none depth frames (suc n) so_far none = absurd (omega (arith, none))
