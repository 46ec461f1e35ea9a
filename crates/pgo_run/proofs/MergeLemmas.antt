-- Profile texts that were read, and sums of several.
use Rattle.std.proofs.Common.{◌≡◌, ◌≤◌, ◌<◌, ◌+◌, ℕ, zero, suc, List, [], ◌∷◌, ◌++◌, drop, length, map, Option, None, Some, Result, Ok, Err, refl, ap, subst, sym, ◌∙◌, arith, get_or}
use Rattle.std.specs.Prelude.{IfSome, IsSome, MatchOption}
use Rattle.std.specs.Global.{Vec}
use Rattle.std.specs.List.{zip}
use Rattle.std.specs.Result.{IsErrAnd}
use Rattle.std.proofs.lemmas.List.{drop_all, length-append}
use Rattle.refusal.specs.declared.place.Place.{Place}
use Rattle.refusal.specs.declared.place.Stop.{Stop}
use Rattle.refusal.specs.Place.{JudgesUnlessNoMemory}
use Rattle.io_edge.specs.Faults.{raised}
use Rattle.io_edge.specs.Inputs.{Store}
use Rattle.profile_model.specs.Merge.{first_bad_of_summed, merge_text, merged}
use Rattle.merge_maker.specs.Merge.{State, HasRoom, IsMergeOf}
use Rattle.command_model.specs.Command.{max_parts, merge as merge_command}
use Rattle.command_words.specs.Words.{told_weighed}
use Rattle.command_words.specs.declared.command.Part.{Part}
use Rattle.command_model.specs.Files.{asked_part, first_bad_of_part, max_profile_bytes, named, weighed_texts}
use Rattle.command_words.proofs.CommandLemmas.{drop-item}
use Rattle.program_edge.specs.Halt.{IfAnswers, halt_of_stop, judged_in}
use Rattle.pgo_run.specs.Merge.{AddsFile, IsAdded}
use Rattle.program_edge.specs.Output.{Carries, EndsAt, HasFileCause}
use Rattle.program_edge.specs.declared.halt.Halt.{Halt}
use Rattle.program_edge.proofs.SizedLemmas.{judged-sized, sized-part}
use Rattle.program_edge.proofs.ReachedLemmas.{Reached, Reached-all, Reached-more, Reached-no-memory, Reached-start, Reached-stop, any-store, handed-on, is-good, judged-ends, there-ends}

-- A file that was read and judged behind texts was added, or ends the command.
added-by : (store : Option Store) (k : ℕ) (part : ℕ × List ℕ) (texts : List (ℕ × List ℕ)) (text : List ℕ) (judged : Result (Unit {0}) Stop) (after : State)
    → IfSome store (λ files. files part.1 ≡ Some text) → length text ≤ max_profile_bytes
    → JudgesUnlessNoMemory (first_bad_of_summed k part.0 (merged texts) text) judged (λ done. IsMergeOf after (texts ++ (part.0, text) ∷ []))
    → AddsFile store k part texts (judged_in k judged) after
added-by store k part texts text (Ok done) after there within judges =
    record { text = text; there = there; good = (sized-part k part.0 (merged texts)).by_content text within ∙ judges.0; summed = judges.1 }
added-by store k part texts text (Err stop) after there within judges =
    let P : Unit {0} → Type 0 = λ done. IsMergeOf after (texts ++ (part.0, text) ∷ []) in
    let sized : JudgesUnlessNoMemory {T = Unit {0}} (first_bad_of_part k part.0 (merged texts) text) (Err stop) P =
    judged-sized {T = Unit {0}} (Err stop) P (sized-part k part.0 (merged texts)) text within judges in
    there-ends store part.1 text k (first_bad_of_part k part.0 (merged texts)) (halt_of_stop k stop) there
    (judged-ends {T = Unit {0}} k (first_bad_of_part k part.0 (merged texts) text) (Err stop) P (halt_of_stop k stop) sized refl)

pub added : (store : Option Store) (k : ℕ) (part : ℕ × List ℕ) (texts : List (ℕ × List ℕ)) (text : List ℕ) (judged : Result (Unit {0}) Stop) (r : Result (Unit {0}) Halt) (after : State)
    → r ≡ judged_in k judged → IfSome store (λ files. files part.1 ≡ Some text) → length text ≤ max_profile_bytes
    → JudgesUnlessNoMemory (first_bad_of_summed k part.0 (merged texts) text) judged (λ done. IsMergeOf after (texts ++ (part.0, text) ∷ []))
    → AddsFile store k part texts r after
added store k part texts text judged r after is there within judges =
    subst (λ x. AddsFile store k part texts x after) (sym is) (added-by store k part texts text judged after there within judges)

-- A file that was not read ends the command.
pub not-added : (store : Option Store) (k : ℕ) (part : ℕ × List ℕ) (texts : List (ℕ × List ℕ)) (h : Halt) (r : Result (Unit {0}) Halt) (after : State)
    → IsErrAnd r (λ x. x ≡ h) → IfSome store (λ files. IfAnswers h (EndsAt k (files part.1) (first_bad_of_part k part.0 (merged texts))))
    → AddsFile store k part texts r after
not-added store k part texts h r after stops ends = handed-on r h (λ x. AddsFile store k part texts x after) stops ends

-- ---- files one behind the other

zip_none : (ws : List ℕ) → zip {K = ℕ} {X = List ℕ} ws [] ≡ []
zip_none [] = refl
zip_none (w ∷ ws) = refl

zip_more : (ws : List ℕ) (texts : List (List ℕ)) (w : ℕ) (text : List ℕ) (rest : List ℕ) → drop (length texts) ws ≡ w ∷ rest
    → zip ws (texts ++ text ∷ []) ≡ zip ws texts ++ (w, text) ∷ []
zip_more [] [] w text rest is = absurd cc
zip_more [] (t ∷ texts) w text rest is = absurd cc
zip_more (v ∷ ws) [] w text rest is =
    let same : v ≡ w = cc in
    ap (λ x. (x, text) ∷ zip {K = ℕ} {X = List ℕ} ws []) same ∙ ap (λ ps. (w, text) ∷ ps) (zip_none ws)
zip_more (v ∷ ws) (t ∷ texts) w text rest is = ap (λ ps. (v, t) ∷ ps) (zip_more ws texts w text rest is)

drop_map : {X Y : Type 0} (f : X → Y) (xs : List X) (n : ℕ) → drop n (map f xs) ≡ map f (drop n xs)
drop_map f xs zero = refl
drop_map f [] (suc n) = refl
drop_map f (x ∷ xs) (suc n) = drop_map f xs n

-- The texts of one file more, each with its weight.
weighed_more : (parts : List (ℕ × List ℕ)) (before : List (List ℕ)) (part : ℕ × List ℕ) (rest : List (ℕ × List ℕ)) (text : List ℕ)
    → drop (length before) parts ≡ part ∷ rest → weighed_texts parts (before ++ text ∷ []) ≡ weighed_texts parts before ++ (part.0, text) ∷ []
weighed_more parts before part rest text is =
    zip_more (map (λ p. p.0) parts) before part.0 text (map (λ p. p.0) rest)
    (drop_map (λ (p : ℕ × List ℕ). p.0) parts (length before) ∙ ap (map (λ (p : ℕ × List ℕ). p.0)) is)

asked_next : (parts : List (ℕ × List ℕ)) (n : ℕ) (part : ℕ × List ℕ) → drop n parts ≡ part ∷ drop (n + 1) parts
    → map (asked_part parts) (drop n parts) ≡ asked_part parts part ∷ map (asked_part parts) (drop (n + 1) parts)
asked_next parts n part is = ap (map (asked_part parts)) is

-- how a file of a merge is judged
abbrev pub judge_of : List (ℕ × List ℕ) → ℕ × List ℕ → List (List ℕ) → List ℕ → Option Place
judge_of parts part before = first_bad_of_part (length before + 1) part.0 (merged (weighed_texts parts before))

-- These files of a merge are there and good, and were summed; those from a place on are to come.
pub record Merging (parts : List (ℕ × List ℕ)) (store : Option Store) (n opens opens_now : ℕ) (state : State) : Type 0 where
  pub before : List (List ℕ)
  pub count : length before ≡ n
  pub reached : Reached (merge_command parts) store before (map (asked_part parts) (drop n parts)) opens opens_now
  pub summed : IsMergeOf state (weighed_texts parts before)

pub Merging-start : (parts : List (ℕ × List ℕ)) (store : Option Store) (opens : ℕ) (state : State) → IsMergeOf state [] → Merging parts store 0 opens opens state
Merging-start parts store opens state none = record {
  before = [];
  count = refl;
  reached = Reached-start (merge_command parts) store opens;
  summed = subst (IsMergeOf state) (sym (zip_none (map (λ part. part.0) parts))) none;
}

-- what steps through a list that has one more gives it, and leaves one less
pub one-is-left : {X Y : Type 0} (r : Option X) (now : X → Y) (s t : List Y) → MatchOption r ((length s ≡ 0) × (length t ≡ 0)) (λ x. s ≡ now x ∷ t) → 0 < length s → IsSome r
one-is-left None now s t steps some = absurd (omega (arith, steps.0, some))
one-is-left (Some x) now s t steps some = refl

pub one-less : {X Y : Type 0} (r : Option X) (now : X → Y) (s t : List Y) → MatchOption r ((length s ≡ 0) × (length t ≡ 0)) (λ x. s ≡ now x ∷ t) → 0 < length s → length s ≡ length t + 1
one-less None now s t steps some = absurd (omega (arith, steps.0, some))
one-less (Some x) now s t steps some = omega (arith, ap length steps)

-- where the k-th file stands
file_number : (n k : ℕ) (before : List (List ℕ)) → length before ≡ n → k ≡ n + 1 → k ≡ length before + 1
file_number n k before count number = omega (arith, number, count)

still-asked : (parts : List (ℕ × List ℕ)) (store : Option Store) (n : ℕ) (part : ℕ × List ℕ) (opens opens_now : ℕ) (state : State) (so_far : Merging parts store n opens opens_now state)
    → drop n parts ≡ part ∷ drop (n + 1) parts
    → Reached (merge_command parts) store so_far.before (record { source = named part.1; judge = judge_of parts part } ∷ map (asked_part parts) (drop (n + 1) parts)) opens opens_now
still-asked parts store n part opens opens_now state so_far here =
    subst (λ asked. Reached (merge_command parts) store so_far.before asked opens opens_now) (asked_next parts n part here) so_far.reached

pub Merging-more : (parts : List (ℕ × List ℕ)) (store was : Option Store) (n k : ℕ) (part : ℕ × List ℕ) (opens opens_now opens_after : ℕ) (state after : State) (so_far : Merging parts store n opens opens_now state)
    → drop n parts ≡ part ∷ drop (n + 1) parts → was ≡ store → k ≡ n + 1
    → IsAdded was k part (weighed_texts parts so_far.before) after → opens_after ≡ raised opens_now
    → Merging parts store (n + 1) opens opens_after after
Merging-more parts store was n k part opens opens_now opens_after state after so_far here same number is rose =
    let before = so_far.before in
    let there = subst (λ s. IfSome s (λ files. files part.1 ≡ Some is.text)) same is.there in
    let good = subst (λ f. first_bad_of_part f part.0 (merged (weighed_texts parts before)) is.text ≡ None) (file_number n k before so_far.count number) is.good in
    record {
      before = before ++ is.text ∷ [];
      count = let count = so_far.count in omega (arith, count, length-append before (is.text ∷ []));
      reached =
          Reached-more (merge_command parts) store before part.1 (judge_of parts part) (map (asked_part parts) (drop (n + 1) parts)) is.text opens opens_now opens_after
          (still-asked parts store n part opens opens_now state so_far here) (is-good store part.1 (judge_of parts part before) is.text there good) rose;
      summed =
          subst (IsMergeOf after) (sym (weighed_more parts before part (drop (n + 1) parts) is.text (ap (λ m. drop m parts) so_far.count ∙ here))) is.summed;
    }

-- A file of a merge ends the command.
pub Merging-stop : (parts : List (ℕ × List ℕ)) (store was : Option Store) (n k : ℕ) (part : ℕ × List ℕ) (h : Halt) (r : Result (Vec ℕ) Halt) (opens opens_now opens_after faults faults_now faults_after : ℕ) (state : State) (so_far : Merging parts store n opens opens_now state)
    → drop n parts ≡ part ∷ drop (n + 1) parts → was ≡ store → k ≡ n + 1
    → IfSome was (λ files. IfAnswers h (EndsAt k (files part.1) (first_bad_of_part k part.0 (merged (weighed_texts parts so_far.before)))))
    → opens_after ≡ raised opens_now → HasFileCause {A = Unit {0}} k faults_now faults_after (Err h) → faults_now ≡ faults → IsErrAnd r (λ x. x ≡ h)
    → Carries (merge_command parts) store r opens opens_after faults faults_after
Merging-stop parts store was n k part h r opens opens_now opens_after faults faults_now faults_after state so_far here same number ends rose cause unchanged stops =
    let before = so_far.before in
    let file = file_number n k before so_far.count number in
    let ends_now = subst (λ s. IfSome s (λ files. IfAnswers h (EndsAt k (files part.1) (first_bad_of_part k part.0 (merged (weighed_texts parts before)))))) same ends in
    Reached-stop (Unit {0}) (merge_command parts) store before part.1 (judge_of parts part) (map (asked_part parts) (drop (n + 1) parts)) k h r opens opens_now opens_after faults faults_after
    (still-asked parts store n part opens opens_now state so_far here) file rose
    (subst (λ f. IfSome store (λ files. IfAnswers h (EndsAt k (files part.1) (first_bad_of_part f part.0 (merged (weighed_texts parts before)))))) file ends_now)
    (subst (λ m. HasFileCause {A = Unit {0}} k m faults_after (Err h)) unchanged cause) stops

-- Memory was refused behind these files.
pub Merging-lacks : (parts : List (ℕ × List ℕ)) (store : Option Store) (n : ℕ) (r : Result (Vec ℕ) Halt) (opens opens_now faults faults_after : ℕ) (state : State)
    → Merging parts store n opens opens_now state → faults_after ≡ faults → IsErrAnd r (λ x. x ≡ Halt.NoMemory)
    → Carries (merge_command parts) store r opens opens_now faults faults_after
Merging-lacks parts store n r opens opens_now faults faults_after state so_far same stops =
    Reached-no-memory (merge_command parts) store so_far.before (map (asked_part parts) (drop n parts)) r opens opens_now faults faults_after so_far.reached same stops

-- All files were summed.
pub Merging-all : (parts : List (ℕ × List ℕ)) (store : Option Store) (n : ℕ) (text : Vec ℕ) (opens opens_now faults faults_after : ℕ) (state : State) (so_far : Merging parts store n opens opens_now state)
    → length parts ≤ n → text.items ≡ merge_text (weighed_texts parts so_far.before) → faults_after ≡ faults
    → Carries (merge_command parts) store (Ok text) opens opens_now faults faults_after
Merging-all parts store n text opens opens_now faults faults_after state so_far past is same =
    Reached-all (merge_command parts) store so_far.before text opens opens_now faults faults_after
    (subst (λ left. Reached (merge_command parts) store so_far.before (map (asked_part parts) left) opens opens_now) (drop_all n parts past) so_far.reached)
    refl (any-store store is) same

-- There is room for a file that is to come.
pub Merging-room : (parts : List (ℕ × List ℕ)) (store : Option Store) (n opens opens_now : ℕ) (state : State) → Merging parts store n opens opens_now state
    → n < length parts → length parts ≤ max_parts → HasRoom state
Merging-room parts store n opens opens_now state so_far within few =
    let count = so_far.count in
    let short : length (weighed_texts parts so_far.before) ≤ length so_far.before = shorter (map (λ part. part.0) parts) so_far.before in
    (weighed_texts parts so_far.before, so_far.summed, omega (arith, short, count, within, few))
  where
    shorter : (ws : List ℕ) (texts : List (List ℕ)) → length (zip ws texts) ≤ length texts
    shorter [] texts = omega arith
    shorter (w ∷ ws) [] = omega arith
    shorter (w ∷ ws) (t ∷ texts) = let rest = shorter ws texts in omega (arith, rest)

-- the file at a place of those that are merged, and those behind it
pub told_at : (parts : List Part) (n : ℕ) (part : Part) → n < length parts → part ≡ get_or parts n part
    → drop n (map told_weighed parts) ≡ told_weighed part ∷ drop (n + 1) (map told_weighed parts)
told_at parts n part within is =
    drop_map told_weighed parts n ∙ ap (map told_weighed) (drop-item parts n part within is) ∙ ap (λ rest. told_weighed part ∷ rest) (sym (drop_map told_weighed parts (n + 1)))
