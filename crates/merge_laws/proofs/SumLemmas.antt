-- The numbers of sums of profiles.
use Rattle.std.proofs.Common.{◌≡◌, ℕ, ◌+◌, ◌*◌, Bool, true, false, cond, ◌&&◌, List, [], ◌∷◌, ◌++◌, map, filter, sum_by, refl, sym, ap, ◌∙◌, arith}
use Rattle.std.specs.List.Sorted.{IsPermutation}
use Rattle.std.proofs.Math.Nat.{mul-zero, mul-add}
use Rattle.std.proofs.lemmas.List.Elements.{filter-append}
use Rattle.std.proofs.lemmas.List.Sorted.{sum_by-IsPermutation}
use Rattle.std.proofs.lemmas.List.Sums.{sum_by-append, sum_by-cons}
use Rattle.profile_model.specs.Merge.{both, merge_text, merged, nothing, sum_of, weighed}
use Rattle.profile_model.specs.Profile.{Profile}
use Rattle.profile_model.specs.Spelled.{What, head, count, target, number_in, spelled}
use Rattle.profile_model.specs.Text.{text_of_lines}
use Rattle.profile_model.specs.Ways.{same_name, same_way}
use Rattle.profile_laws.proofs.CountLemmas.{lines_are_by_counts}

-- ---- sums over what a filter keeps

abbrev pub kept_sum : {T : Type 0} → (T → Bool) → (T → ℕ) → List T → ℕ
kept_sum test times xs = sum_by times (filter test xs)

pub kept_more : {T : Type 0} (test : T → Bool) (times : T → ℕ) (x : T) (xs : List T)
    → kept_sum test times (x ∷ xs) ≡ cond (test x) (times x) 0 + kept_sum test times xs
kept_more test times x xs =
    elim (test x) as (λ b. sum_by times (cond b (x ∷ filter test xs) (filter test xs)) ≡ cond b (times x) 0 + sum_by times (filter test xs)) [
      | true ↦ sum_by-cons times x (filter test xs)
      | false ↦ none_more (sum_by times (filter test xs))
    ]
  where
    none_more : (n : ℕ) → n ≡ 0 + n
    none_more n = omega arith

kept_append : {T : Type 0} (test : T → Bool) (times : T → ℕ) (xs ys : List T)
    → kept_sum test times (xs ++ ys) ≡ kept_sum test times xs + kept_sum test times ys
kept_append test times xs ys = ap (sum_by times) (filter-append test xs ys) ∙ sum_by-append times (filter test xs) (filter test ys)

scaled_cond : (w n : ℕ) (b : Bool) → cond b (w * n) 0 ≡ w * cond b n 0
scaled_cond w n true = refl
scaled_cond w n false = sym (mul-zero w)

-- items that are the same but for numbers, which grew so many times
kept_scaled : {T : Type 0} (test : T → Bool) (times : T → ℕ) (grow : T → T) (w : ℕ) → ((x : T) → test (grow x) ≡ test x) → ((x : T) → times (grow x) ≡ w * times x)
    → (xs : List T) → kept_sum test times (map grow xs) ≡ w * kept_sum test times xs
kept_scaled test times grow w same grown [] = sym (mul-zero w)
kept_scaled test times grow w same grown (x ∷ xs) =
    kept_more test times (grow x) (map grow xs)
    ∙ ap (λ b. cond b (times (grow x)) 0 + kept_sum test times (map grow xs)) (same x)
    ∙ ap (λ n. cond (test x) n 0 + kept_sum test times (map grow xs)) (grown x)
    ∙ ap (λ n. n + kept_sum test times (map grow xs)) (scaled_cond w (times x) (test x))
    ∙ ap (λ n. w * cond (test x) (times x) 0 + n) (kept_scaled test times grow w same grown xs)
    ∙ sym (mul-add w (cond (test x) (times x) 0) (kept_sum test times xs))
    ∙ ap (λ n. w * n) (sym (kept_more test times x xs))

-- ---- numbers of profiles

pub number_in-both : (p q : Profile) (what : What) → number_in (both p q) what ≡ number_in p what + number_in q what
number_in-both p q (head name) = kept_append (λ h. same_name name h.0) (λ h. h.1) p.heads q.heads
number_in-both p q (count way) = kept_append (λ c. same_way way c.0) (λ c. c.1) p.counts q.counts
number_in-both p q (target way name) = kept_append (λ c. same_way way c.0 && same_name name c.1) (λ c. c.2) p.calls q.calls

pub number_in-weighed : (w : ℕ) (p : Profile) (what : What) → number_in (weighed w p) what ≡ w * number_in p what
number_in-weighed w p (head name) = kept_scaled (λ h. same_name name h.0) (λ h. h.1) (λ h. (h.0, w * h.1)) w (λ h. refl) (λ h. refl) p.heads
number_in-weighed w p (count way) = kept_scaled (λ c. same_way way c.0) (λ c. c.1) (λ c. (c.0, w * c.1)) w (λ c. refl) (λ c. refl) p.counts
number_in-weighed w p (target way name) =
    kept_scaled (λ c. same_way way c.0 && same_name name c.1) (λ c. c.2) (λ c. (c.0, c.1, w * c.2)) w (λ c. refl) (λ c. refl) p.calls

pub number_in-nothing : (what : What) → number_in nothing what ≡ 0
number_in-nothing (head name) = refl
number_in-nothing (count way) = refl
number_in-nothing (target way name) = refl

-- what a text adds to a number
abbrev pub share : What → ℕ × List ℕ → ℕ
share what text = text.0 * number_in (spelled text.1) what

pub number_in-merged : (texts : List (ℕ × List ℕ)) (what : What) → number_in (merged texts) what ≡ sum_by (share what) texts
unfolding sum_of
number_in-merged [] what = number_in-nothing what
number_in-merged (text ∷ texts) what =
    number_in-both (weighed text.0 (spelled text.1)) (merged texts) what
    ∙ ap (λ n. n + number_in (merged texts) what) (number_in-weighed text.0 (spelled text.1) what)
    ∙ ap (λ n. share what text + n) (number_in-merged texts what)
    ∙ sym (sum_by-cons (share what) text texts)

pub number_in-behind : (texts more : List (ℕ × List ℕ)) (what : What)
    → number_in (merged (texts ++ more)) what ≡ number_in (merged texts) what + number_in (merged more) what
number_in-behind texts more what =
    number_in-merged (texts ++ more) what ∙ sum_by-append (share what) texts more
    ∙ ap (λ n. n + sum_by (share what) more) (sym (number_in-merged texts what))
    ∙ ap (λ n. number_in (merged texts) what + n) (sym (number_in-merged more what))

pub number_in-one : (text : ℕ × List ℕ) (more : List (ℕ × List ℕ)) (what : What)
    → number_in (merged (text ∷ more)) what ≡ share what text + number_in (merged more) what
number_in-one text more what =
    number_in-merged (text ∷ more) what ∙ sum_by-cons (share what) text more ∙ ap (λ n. share what text + n) (sym (number_in-merged more what))

-- ---- orders

pub number_in-permuted : (texts others : List (ℕ × List ℕ)) → IsPermutation texts others → (what : What)
    → number_in (merged others) what ≡ number_in (merged texts) what
number_in-permuted texts others moved what =
    number_in-merged others what ∙ sum_by-IsPermutation (share what) texts others moved ∙ sym (number_in-merged texts what)

pub merges_are_alike : (texts others : List (ℕ × List ℕ)) → IsPermutation texts others → merge_text others ≡ merge_text texts
merges_are_alike texts others moved = ap text_of_lines (lines_are_by_counts (merged others) (merged texts) (record {
  keys = λ way. number_in-permuted texts others moved (count way);
  targets = λ way name. number_in-permuted texts others moved (target way name);
  heads = λ name. number_in-permuted texts others moved (head name);
}))
