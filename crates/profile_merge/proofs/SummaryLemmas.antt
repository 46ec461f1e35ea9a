-- The summary of items is that of their counts, the greatest first.
use Rattle.std.proofs.Common.{◌≡◌, ℕ, ◌+◌, ◌<◌, cond, List, [], ◌∷◌, ◌++◌, map, filter, take, length, get_or, refl, sym, ap, ◌∙◌}
use Rattle.std.specs.Prelude.{codes, nat_lt, OnErr, OnOk, Result, Ok, Err, IsPermutation, sum}
use Rattle.std.specs.List.{AllByRecursion, filter_map, flat_map}
use Rattle.std.proofs.lemmas.Grind.{flat_map-append}
use Rattle.std.proofs.lemmas.List.{append-nil, append_assoc, take_more}
use Rattle.std.proofs.lemmas.List.Sorted.{length_permutation}
use Rattle.key_types.specs.declared.key.Key.{Key}
use Rattle.profile_model.specs.Spelled.{Number, as_count, profile_by}
use Rattle.profile_model.specs.Summary.{counts_above, cutoff_text, cutoffs, greatest, summary_by, summary_text, told_number}
use Rattle.profile_text.specs.Draft.{IsGivenItem, number_told, what_told}
use Rattle.profile_text.specs.Numbers.{counted}
use Rattle.profile_text.specs.declared.item.Item.{Item}
use Rattle.profile_text.specs.declared.item.What.{What}
use Rattle.profile_text.specs.declared.item.What.TheVariants.{Head, Count, Target}
use Rattle.profile_merge.proofs.FunctionLemmas.{functions_are}
use Rattle.profile_merge.proofs.HotLemmas.{cutoff_permuted, greatest_permuted_all, sum_permuted}
use Rattle.profile_merge.specs.Functions.{different, roots}
use Rattle.profile_merge.specs.Hot.{count_by, counts_told}
use Rattle.profile_merge.specs.Laws.{AreNumbered}

-- the counts above 0 that items tell are those of the profile
counts_are : (names : List (List ℕ)) (keys : List Key) (items : List Item) → counts_above (counted names keys items) ≡ counts_told items
unfolding profile_by
counts_are names keys [] = refl
counts_are names keys (item ∷ items) = by item.what (counts_are names keys items)
  where
    rest : List ℕ
    rest = filter (nat_lt 0) (map (λ c. c.1) (filter_map (λ (n : Number). as_count n.what n.times) (map (number_told names keys) items)))

    by : (what : What) → rest ≡ counts_told items → counts_above (profile_by (record { line = item.line; what = what_told names keys what; times = item.times } ∷ map (number_told names keys) items))
        ≡ cond (nat_lt 0 (count_by what item.times)) (count_by what item.times ∷ counts_told items) (counts_told items)
    by (Head name) e = e
    by (Count key) e = ap (λ ns. cond (nat_lt 0 item.times) (item.times ∷ ns) ns) e
    by (Target key name) e = e

-- the same numbers in another order have the same summary
summary_permuted : (functions : ℕ) (xs ys : List ℕ) → IsPermutation xs ys → summary_by functions ys ≡ summary_by functions xs
unfolding summary_by
summary_permuted functions xs ys same = λ i.
    told_number (codes "functions") functions ++ told_number (codes "lines") (length_permutation xs ys same i)
    ++ told_number (codes "total") (sum_permuted xs ys same i) ++ told_number (codes "max") (greatest_permuted_all xs ys same i)
    ++ flat_map (λ cutoff. cutoff_permuted xs ys cutoff same i) cutoffs

pub summary_is : (names : List (List ℕ)) (keys : List Key) (items : List Item) (functions : ℕ) (counts : List ℕ) → AreNumbered names keys → AllByRecursion (IsGivenItem (length names) (length keys)) items
    → functions ≡ different (roots keys items) → IsPermutation (counts_told items) counts → summary_by functions counts ≡ summary_text (counted names keys items)
summary_is names keys items functions counts are given is same =
    summary_permuted functions (counts_told items) counts same
    ∙ (λ i. summary_by ((is ∙ sym (functions_are names keys are items given)) i) (sym (counts_are names keys items) i))

-- ---- as it is written
pub ok_still : {T E P Q : Type 0} (result : Result T E) → (P → Q) → OnOk result P → OnOk result Q
ok_still (Ok x) more is = more is
ok_still (Err e) more is = tt

pub any_err : {T E P : Type 0} (result : Result T E) → P → OnErr result P
any_err (Ok x) is = tt
any_err (Err e) is = is

joined : (old a b c d e : List ℕ) → ((((old ++ a) ++ b) ++ c) ++ d) ++ e ≡ old ++ ((((a ++ b) ++ c) ++ d) ++ e)
joined old a b c d e =
    ap (λ l. ((l ++ c) ++ d) ++ e) (append_assoc old a b) ∙ ap (λ l. (l ++ d) ++ e) (append_assoc old (a ++ b) c)
    ∙ ap (λ l. l ++ e) (append_assoc old ((a ++ b) ++ c) d) ∙ append_assoc old (((a ++ b) ++ c) ++ d) e

pub summary_pushed : (old one two three four new : List ℕ) (functions : ℕ) (counts : List ℕ) (total most : ℕ) → one ≡ old ++ told_number (codes "functions") functions
    → two ≡ one ++ told_number (codes "lines") (length counts) → total ≡ sum counts → three ≡ two ++ told_number (codes "total") total
    → most ≡ greatest counts → four ≡ three ++ told_number (codes "max") most → new ≡ four ++ flat_map (cutoff_text counts) cutoffs → new ≡ old ++ summary_by functions counts
unfolding summary_by
summary_pushed old one two three four new functions counts total most first second is_total third is_most fourth last =
    last
    ∙ (λ i. (fourth ∙ (λ j. (third ∙ (λ k. (second ∙ ap (λ l. l ++ told_number (codes "lines") (length counts)) first) k ++ told_number (codes "total") (is_total k))) j ++ told_number (codes "max") (is_most j))) i ++ flat_map (cutoff_text counts) cutoffs)
    ∙ joined old (told_number (codes "functions") functions) (told_number (codes "lines") (length counts)) (told_number (codes "total") (sum counts)) (told_number (codes "max") (greatest counts)) (flat_map (cutoff_text counts) cutoffs)

-- one cutoff more
pub cutoffs_more : (counts old mid new : List ℕ) (i : ℕ) → i < length cutoffs → mid ≡ old ++ flat_map (cutoff_text counts) (take i cutoffs) → new ≡ mid ++ cutoff_text counts (get_or cutoffs i 0)
    → new ≡ old ++ flat_map (cutoff_text counts) (take (i + 1) cutoffs)
cutoffs_more counts old mid new i within so_far is =
    is ∙ ap (λ text. text ++ cutoff_text counts (get_or cutoffs i 0)) so_far ∙ append_assoc old (flat_map (cutoff_text counts) (take i cutoffs)) (cutoff_text counts (get_or cutoffs i 0))
    ∙ ap (λ text. old ++ text) (sym (ap (flat_map (cutoff_text counts)) (take_more cutoffs i 0 within)
    ∙ flat_map-append (cutoff_text counts) (take i cutoffs) (get_or cutoffs i 0 ∷ []) ∙ ap (λ text. flat_map (cutoff_text counts) (take i cutoffs) ++ text) (append-nil (cutoff_text counts (get_or cutoffs i 0)))))
