-- A text that is summed behind others.
use Rattle.std.proofs.Common.{◌≡◌, ◌≤◌, ◌<◌, ◌^◌, ℕ, List, [], ◌∷◌, ◌++◌, length, None, Some, Result, Ok, Err, sym, ap, subst, ◌∙◌, arith}
use Rattle.std.specs.Option.{option_map, option_or}
use Rattle.std.proofs.lemmas.List.{length-append}
use Rattle.refusal.specs.declared.place.Place.{Place}
use Rattle.refusal.specs.declared.place.Stop.{Stop}
use Rattle.refusal.specs.declared.place.Stop.TheVariants.{Refused, NoMemory}
use Rattle.refusal.specs.Place.{JudgesUnlessNoMemory, first_bad}
use Rattle.refusal.proofs.PlaceLemmas.{first_bad-append}
use Rattle.key_types.specs.Numbers.{IsNumbered}
use Rattle.key_types.specs.declared.key.Key.{Key}
use Rattle.profile_model.specs.Judging.{first_bad_of_profile, items_from, kept_lines_of}
use Rattle.profile_model.specs.Merge.{both, first_bad_of_summed, merged, sum_items, sum_of, weighed}
use Rattle.profile_model.specs.Profile.{Profile}
use Rattle.profile_model.specs.Spelled.{What, number_in, numbers_of, profile_by, spelled}
use Rattle.profile_text.specs.Draft.{Kept, what_told}
use Rattle.profile_text.specs.Numbers.{counted}
use Rattle.profile_text.specs.Text.{TellText}
use Rattle.profile_text.specs.declared.item.Item.{Item}
use Rattle.merge_laws.proofs.SumLemmas.{number_in-behind, number_in-both, number_in-merged, number_in-one, number_in-weighed}
use Rattle.profile_merge.proofs.MergeLemmas.{first_over_is_first_bad, nothing_is_summed, raised_sums_count_both, sums_stay_with_more}
use Rattle.profile_merge.specs.Laws.{AreNumbered, place_over}
use Rattle.profile_merge.specs.Sums.{AddsPart, StaySumsOf, Sums, first_over}
use Rattle.profile_merge.specs.Told.{AreSumsIn}
use Rattle.merge_maker.specs.Merge.{IsMergeOf, State}

-- sums of a profile are those of each that counts the same
sums_of_same : (names : List (List ℕ)) (keys : List Key) (sums : Sums) (p q : Profile) → ((told : What) → number_in p told ≡ number_in q told)
    → AreSumsIn names keys sums p → AreSumsIn names keys sums q
sums_of_same names keys sums p q same is = record {
  given = is.given;
  each = λ what given. is.each what given ∙ same (what_told names keys what);
  only = λ told above. is.only told (subst (λ n. 0 < n) (sym (same told)) above);
}

-- a text in front of a sum counts as behind it
front_or_behind : (texts : List (ℕ × List ℕ)) (text : ℕ × List ℕ) (what : What)
    → number_in (both (weighed text.0 (spelled text.1)) (merged texts)) what ≡ number_in (merged (texts ++ text ∷ [])) what
front_or_behind texts text what =
    let front = number_in-both (weighed text.0 (spelled text.1)) (merged texts) what in
    let one = number_in-weighed text.0 (spelled text.1) what in
    let behind = number_in-behind texts (text ∷ []) what in
    let alone = number_in-one text [] what in
    let none = number_in-merged [] what in
    omega (arith, front, one, behind, alone, none)

-- Without texts there is nothing.
pub merge_none : (names : List (List ℕ)) (keys : List Key) (sums : Sums) → names ≡ [] → keys ≡ [] → (sums.heads ≡ []) × (sums.counts ≡ []) × (sums.called ≡ [])
    → IsMergeOf (record { names = names; keys = keys; sums = sums }) []
unfolding sum_of
merge_none names keys sums no_names no_keys none =
    subst (λ (state : State). IsMergeOf state [])
    (λ i. record { names = sym no_names i; keys = sym no_keys i; sums = record { heads = sym none.0 i; counts = sym none.1 i; called = sym none.2 i } })
    (record {
      numbered = record {
        names_once = λ i j d less within. absurd (omega (arith, within));
        keys_once = λ i j d less within. absurd (omega (arith, within));
        key_names = λ k d within. absurd (omega (arith, within));
      };
      sums = nothing_is_summed [] [];
      few_names = omega arith;
      few_keys = omega arith;
    })

kept_itself : {T : Type 0} (xs : List T) → Kept xs xs
kept_itself xs = λ n x is. is

-- What was read of a text is what it spells.
pub part_is_spelled : (names : List (List ℕ)) (keys : List Key) (text : List ℕ) (items : List Item) (more : List (List ℕ)) (more_keys : List Key)
    → TellText names keys text items more more_keys → counted more more_keys items ≡ spelled text
part_is_spelled names keys text items more more_keys tells = ap profile_by (tells.told.tell more more_keys (kept_itself more) (kept_itself more_keys))

-- A text that was read and added behind others is summed with them.
pub merge_more :
    (names more : List (List ℕ)) (keys more_keys : List Key) (old new : Sums) (texts : List (ℕ × List ℕ)) (weight : ℕ) (text : List ℕ) (items : List Item)
    → IsMergeOf (record { names = names; keys = keys; sums = old }) texts → length text ≤ 2 ^ 28
    → TellText names keys text items more more_keys → IsNumbered more → IsNumbered more_keys
    → AddsPart weight items old new → StaySumsOf items old new
    → IsMergeOf (record { names = more; keys = more_keys; sums = new }) (texts ++ (weight, text) ∷ [])
merge_more names more keys more_keys old new texts weight text items so_far small tells names_once keys_once adds stays =
    let numbered : AreNumbered more more_keys = record { names_once = names_once; keys_once = keys_once; key_names = tells.named } in
    let here = sums_stay_with_more names more keys more_keys old (merged texts) so_far.numbered numbered tells.names_kept tells.keys_kept so_far.sums in
    let raised = raised_sums_count_both more more_keys weight items old new (merged texts) numbered tells.told.given here adds stays in
    let longer = length-append texts ((weight, text) ∷ []) in
    record {
      numbered = numbered;
      sums =
          sums_of_same more more_keys new (both (weighed weight (spelled text)) (merged texts)) (merged (texts ++ (weight, text) ∷ []))
          (front_or_behind texts (weight, text))
          (subst (λ part. AreSumsIn more more_keys new (both (weighed weight part) (merged texts))) (part_is_spelled names keys text items more more_keys tells) raised);
      few_names = let few = so_far.few_names in let more_few = tells.few_names in omega (arith, few, more_few, small, longer);
      few_keys = let few = so_far.few_keys in let more_few = tells.few_keys in omega (arith, few, more_few, small, longer);
    }

-- Its first bad place is that of its lines, if they have one,
pub bad_by_lines : (file weight : ℕ) (before : Profile) (text : List ℕ) (place : Place) → first_bad_of_profile file text ≡ Some place
    → first_bad_of_summed file weight before text ≡ Some place
bad_by_lines file weight before text place bad =
    first_bad-append (items_from file [] (kept_lines_of text)) (sum_items file weight before (numbers_of text))
    ∙ ap (λ b. option_or b (first_bad (sum_items file weight before (numbers_of text)))) bad

-- and else that of the first number that is too large.
pub bad_by_sums :
    (names more : List (List ℕ)) (keys more_keys : List Key) (sums : Sums) (texts : List (ℕ × List ℕ)) (file weight : ℕ) (text : List ℕ) (items : List Item)
    → IsMergeOf (record { names = names; keys = keys; sums = sums }) texts
    → first_bad_of_profile file text ≡ None → TellText names keys text items more more_keys → IsNumbered more → IsNumbered more_keys
    → first_bad_of_summed file weight (merged texts) text ≡ option_map (place_over file) (first_over weight sums items)
bad_by_sums names more keys more_keys sums texts file weight text items so_far good tells names_once keys_once =
    let numbered : AreNumbered more more_keys = record { names_once = names_once; keys_once = keys_once; key_names = tells.named } in
    let here = sums_stay_with_more names more keys more_keys sums (merged texts) so_far.numbered numbered tells.names_kept tells.keys_kept so_far.sums in
    first_bad-append (items_from file [] (kept_lines_of text)) (sum_items file weight (merged texts) (numbers_of text))
    ∙ ap (λ b. option_or b (first_bad (sum_items file weight (merged texts) (numbers_of text)))) good
    ∙ ap (λ ns. first_bad (sum_items file weight (merged texts) ns)) (sym (tells.told.tell more more_keys (kept_itself more) (kept_itself more_keys)))
    ∙ first_over_is_first_bad more more_keys file weight items sums (merged texts) tells.told.given here

-- So a text whose lines are refused is refused,
pub refuses : {T U : Type 0} (P : T → Type 0) (Q : U → Type 0) (file weight : ℕ) (before : Profile) (text : List ℕ) (why : Stop)
    → JudgesUnlessNoMemory {T = T} (first_bad_of_profile file text) (Err why) P → JudgesUnlessNoMemory {T = U} (first_bad_of_summed file weight before text) (Err why) Q
refuses P Q file weight before text (Refused place) bad = bad_by_lines file weight before text place bad
refuses P Q file weight before text NoMemory bad = tt

-- and one whose lines are good is judged as its numbers are, and then summed.
pub judged_behind :
    (names more : List (List ℕ)) (keys more_keys : List Key) (old : Sums) (after : State) (texts : List (ℕ × List ℕ)) (file weight : ℕ) (text : List ℕ) (items : List Item)
    (result : Result (Unit {0}) Stop)
    → IsMergeOf (record { names = names; keys = keys; sums = old }) texts → length text ≤ 2 ^ 28
    → first_bad_of_profile file text ≡ None → TellText names keys text items more more_keys → IsNumbered more → IsNumbered more_keys
    → JudgesUnlessNoMemory (option_map (place_over file) (first_over weight old items)) result (λ done. AddsPart weight items old after.sums)
    → StaySumsOf items old after.sums → after.names ≡ more → after.keys ≡ more_keys
    → JudgesUnlessNoMemory (first_bad_of_summed file weight (merged texts) text) result (λ done. IsMergeOf after (texts ++ (weight, text) ∷ []))
judged_behind names more keys more_keys old after texts file weight text items (Ok done) so_far small good tells names_once keys_once judged stays same_names same_keys = (
  bad_by_sums names more keys more_keys old texts file weight text items so_far good tells names_once keys_once ∙ judged.0,
  subst (λ (state : State). IsMergeOf state (texts ++ (weight, text) ∷ []))
      (λ i. record { names = sym same_names i; keys = sym same_keys i; sums = after.sums })
      (merge_more names more keys more_keys old after.sums texts weight text items so_far small tells names_once keys_once judged.1 stays),
)
judged_behind names more keys more_keys old after texts file weight text items (Err (Refused place)) so_far small good tells names_once keys_once judged stays same_names same_keys =
    bad_by_sums names more keys more_keys old texts file weight text items so_far good tells names_once keys_once ∙ judged
judged_behind names more keys more_keys old after texts file weight text items (Err NoMemory) so_far small good tells names_once keys_once judged stays same_names same_keys = tt

-- What was appended to nothing stands alone.
pub stands_alone : (out front more text : List ℕ) → out ≡ front ++ more → front ≡ [] → more ≡ text → out ≡ text
stands_alone out front more text appended empty is = appended ∙ (λ i. empty i ++ is i)
