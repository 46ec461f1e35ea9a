-- A text that is judged as a profile text and then as a repair text.
use Rattle.std.proofs.Common.{◌≡◌, ◌≤◌, ◌^◌, ℕ, List, [], ◌∷◌, map, length, Option, None, Result, Ok, Err, ap, arith, subst, sym}
use Rattle.std.specs.List.{AllZip}
use Rattle.refusal.specs.declared.place.Place.{Place}
use Rattle.refusal.specs.declared.place.Stop.{Stop}
use Rattle.refusal.specs.declared.place.Stop.TheVariants.{Refused, NoMemory}
use Rattle.refusal.specs.Place.{JudgesUnlessNoMemory, first_bad}
use Rattle.block_model.specs.Function.{Function}
use Rattle.key_types.specs.declared.key.Key.{Key}
use Rattle.profile_model.specs.Spelled.{profile_by, spelled}
use Rattle.profile_text.specs.Draft.{Kept, number_told}
use Rattle.profile_text.specs.Text.{TellText}
use Rattle.profile_text.specs.declared.item.Item.{Item}
use Rattle.repair_model.specs.Judging.{first_bad_of_repairs}
use Rattle.repair_model.specs.Laws.{IsToldOf}
use Rattle.repair_model.specs.Repair.{Repair}
use Rattle.repair_model.specs.Text.{repairs_of}
use Rattle.repair_model.proofs.WholeLemmas.{good_repairs_are_whole}
use Rattle.lift_maker.specs.Tested.{LiftsTo}
use Rattle.lift_maker.specs.declared.maker.Lifted.{Lifted}

-- Both judges find nothing bad.
pub both_good : (bad other : Option Place) → bad ≡ None → other ≡ None → first_bad (bad ∷ other ∷ []) ≡ None
both_good bad other one two = λ i. first_bad (one i ∷ two i ∷ [])

-- All of each function is told in a good text.
pub told_whole : (file : ℕ) (funs : List Function) (text : List ℕ) (told : List (ℕ × Repair)) → length text ≤ 2 ^ 28
    → first_bad_of_repairs file funs text ≡ None → told ≡ repairs_of funs text → AllZip IsToldOf funs told
told_whole file funs text told small good are =
    subst (AllZip IsToldOf funs) (sym are) (good_repairs_are_whole file funs text (omega (arith, small)) good)

kept_itself : {T : Type 0} (items : List T) → Kept items items
kept_itself items = λ n x is. is

-- What was read of a text as a profile is what it spells.
pub part_is_spelled : (names more : List (List ℕ)) (keys more_keys : List Key) (text : List ℕ) (items : List Item)
    → TellText names keys text items more more_keys → profile_by (map (number_told more more_keys) items) ≡ spelled text
part_is_spelled names more keys more_keys text items tells =
    ap profile_by (tells.told.tell more more_keys (kept_itself more) (kept_itself more_keys))

-- What is judged with more is judged.
pub judges_of : {T : Type 0} (bad : Option Place) (r : Result T Stop) (P Q : T → Type 0) → ((x : T) → P x → Q x) → JudgesUnlessNoMemory bad r P → JudgesUnlessNoMemory bad r Q
judges_of bad (Ok x) P Q on judged = (judged.0, on x judged.1)
judges_of bad (Err NoMemory) P Q on judged = tt
judges_of bad (Err (Refused place)) P Q on judged = judged

-- The same is told by the same.
pub lifts_same : (failed other : Option ℕ) (text more : List ℕ) (lifted : Lifted) → failed ≡ other → text ≡ more → LiftsTo failed text lifted → LiftsTo other more lifted
lifts_same failed other text more lifted one two is =
    subst (λ f. LiftsTo f more lifted) one (subst (λ t. LiftsTo failed t lifted) two is)
