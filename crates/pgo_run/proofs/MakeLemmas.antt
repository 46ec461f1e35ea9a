-- What is made of a generated case, whose files come from no store.
use Rattle.std.proofs.Common.{◌≡◌, ◌≤◌, ◌<◌, ℕ, true, false, List, [], ◌∷◌, map, take, Option, None, Some, Result, Ok, Err, refl, sym, ap, subst, ◌∙◌, arith}
use Rattle.std.specs.Prelude.{IfSome}
use Rattle.std.specs.List.{All}
use Rattle.std.specs.Global.{Vec}
use Rattle.std.specs.Result.{IsErrAnd}
use Rattle.refusal.specs.Place.{JudgesUnlessNoMemory, first_bad, size_item}
use Rattle.refusal.specs.declared.place.Place.{Place}
use Rattle.refusal.specs.declared.place.Stop.{Stop}
use Rattle.refusal.specs.declared.place.Stop.TheVariants as stop
use Rattle.text_model.specs.Lines.{lines_of}
use Rattle.io_edge.specs.Inputs.{Store}
use Rattle.sample_model.specs.Judging.{first_bad_of_text}
use Rattle.branch_counts.specs.Tally.{Tally, Tells}
use Rattle.binary_model.specs.Binary.{first_bad_of_binary}
use Rattle.binary_places.specs.declared.binary.Binary.{Binary}
use Rattle.binary_places.specs.Binary.{IsBinary}
use Rattle.block_model.specs.Judging as block_model
use Rattle.block_model.specs.Text.{functions_of}
use Rattle.cfg_text.specs.declared.fun.Fun.{Fun}
use Rattle.cfg_text.specs.Fun.{function_of}
use Rattle.flow_model.specs.Sound.{IsSound}
use Rattle.output_model.specs.Summary.{IsSummaryOf}
use Rattle.command_model.specs.Answer.{Answer, answer_of_command, in_file, unless_bad, writes}
use Rattle.command_model.specs.Command.{Command, CaseFile, bin_file, cfg_file, make, make_sum, perf_file}
use Rattle.command_model.specs.Files.{files_of, first_bad_of_blocks, max_block_bytes}
use Rattle.command_model.specs.Make.{case_file}
use Rattle.program_edge.specs.Halt.{judged_in}
use Rattle.program_edge.specs.Opens.{opens_behind, opens_of}
use Rattle.program_edge.specs.Output.{Carries}
use Rattle.program_edge.specs.declared.halt.Halt.{Halt}
use Rattle.program_edge.specs.declared.halt.Halt.TheVariants.{Refused, NoMemory}
use Rattle.pgo_run.proofs.BuildLemmas.{read_soundly}
use Rattle.program_edge.proofs.SizedLemmas.{alone}
use Rattle.program_edge.proofs.ReachedLemmas.{carried}

-- What holds of each store.
in-any : {P : Store → Type 0} (store : Option Store) → ((files : Store) → P files) → IfSome store P
in-any None holds = tt
in-any (Some files) holds = holds files

-- ---- memory was refused

lacks : (command : Command) (store : Option Store) (opens faults : ℕ) → Carries command store (Err NoMemory) opens opens faults faults
lacks command store opens faults = record {
  makes = in-any store (λ files. tt);
  good_before = in-any store (λ files. tt);
  opened = (0, omega arith, refl);
  cause = refl;
}

pub made-lacks : (command : Command) (store : Option Store) (r : Result (Vec ℕ) Halt) (opens faults : ℕ)
    → IsErrAnd r (λ x. x ≡ NoMemory) → Carries command store r opens opens faults faults
made-lacks command store r opens faults stops = carried command store NoMemory r opens opens faults faults stops (lacks command store opens faults)

-- ---- judges

stop-wider : {T U : Type 0} (judge wider : Option Place) (P : T → Type 0) (Q : U → Type 0) (s : Stop)
    → ((place : Place) → judge ≡ Some place → wider ≡ Some place) → JudgesUnlessNoMemory judge (Err s) P → JudgesUnlessNoMemory wider (Err s) Q
stop-wider judge wider P Q (stop.Refused place) more is = more place is
stop-wider judge wider P Q stop.NoMemory more is = tt

-- What stopped a judge stops one whose bad places are those of the first.
pub wider-judged : {T U : Type 0} (judge wider : Option Place) (P : T → Type 0) (Q : U → Type 0) (s : Stop) (r : Result U Stop)
    → ((place : Place) → judge ≡ Some place → wider ≡ Some place) → JudgesUnlessNoMemory judge (Err s) P → IsErrAnd r (λ x. x ≡ s) → JudgesUnlessNoMemory wider r Q
wider-judged judge wider P Q s (Ok x) more is same = absurd same
wider-judged judge wider P Q s (Err other) more is same = subst (λ x. JudgesUnlessNoMemory wider (Err x) Q) (sym same) (stop-wider judge wider P Q s more is)

-- ---- a file

pub made-file : (file : CaseFile) (n : ℕ) (store : Option Store) (text : Vec ℕ) (opens faults : ℕ) → text.items ≡ case_file file n
    → Carries (make file n) store (Ok text) opens opens faults faults
made-file file n store text opens faults is = record {
  makes = in-any store (λ files. ([], refl, is));
  good_before = in-any store (λ files. tt);
  opened = refl;
  cause = refl;
}

-- ---- the summary

-- what comes behind good files
abbrev answer-of-good : ℕ → Answer
answer-of-good n = writes (make_sum n) (case_file bin_file n ∷ case_file perf_file n ∷ case_file cfg_file n ∷ [])

abbrev answer-of-blocks : ℕ → Answer
answer-of-blocks n = unless_bad 3 (first_bad_of_blocks 3 (case_file cfg_file n)) (answer-of-good n)

abbrev answer-of-samples : ℕ → Answer
answer-of-samples n = unless_bad 2 (first_bad_of_text 2 (case_file perf_file n)) (answer-of-blocks n)

answer-is : (files : Store) (n : ℕ) → answer_of_command files (make_sum n) ≡ unless_bad 1 (first_bad_of_binary (case_file bin_file n)) (answer-of-samples n)
answer-is files n = refl

behind-binary : (files : Store) (n : ℕ) → first_bad_of_binary (case_file bin_file n) ≡ None → answer_of_command files (make_sum n) ≡ answer-of-samples n
behind-binary files n good = answer-is files n ∙ ap (λ b. unless_bad 1 b (answer-of-samples n)) good

behind-samples : (files : Store) (n : ℕ) → first_bad_of_binary (case_file bin_file n) ≡ None → first_bad_of_text 2 (case_file perf_file n) ≡ None
    → answer_of_command files (make_sum n) ≡ answer-of-blocks n
behind-samples files n first second = behind-binary files n first ∙ ap (λ b. unless_bad 2 b (answer-of-blocks n)) second

refused-at : (n : ℕ) (store : Option Store) (k : ℕ) (place : Place) (opens faults : ℕ) → 0 < k → k ≤ 3 → opens_of (take k (files_of (make_sum n))) ≡ 0
    → ((files : Store) → answer_of_command files (make_sum n) ≡ Answer.refused (in_file k place))
    → Carries (make_sum n) store (Err (Refused (in_file k place))) opens opens faults faults
refused-at n store k place opens faults first last none answer = record {
  makes = in-any store answer;
  good_before = in-any store (λ files. tt);
  opened = record { first = first; last = last; opened = ap (opens_behind opens) (sym none) };
  cause = refl;
}

-- a judge that told a bad place of the k-th file, or lacked memory
judged-stops : {T : Type 0} (n : ℕ) (store : Option Store) (k : ℕ) (bad : Option Place) (judged : Result T Stop) (P : T → Type 0) (h : Halt) (r : Result (Vec ℕ) Halt) (opens faults : ℕ)
    → 0 < k → k ≤ 3 → opens_of (take k (files_of (make_sum n))) ≡ 0
    → ((place : Place) → bad ≡ Some place → (files : Store) → answer_of_command files (make_sum n) ≡ Answer.refused (in_file k place))
    → JudgesUnlessNoMemory bad judged P → judged_in k judged ≡ Err h → IsErrAnd r (λ x. x ≡ h)
    → Carries (make_sum n) store r opens opens faults faults
judged-stops n store k bad (Ok x) P h r opens faults first last none answer judges told stops = absurd cc
judged-stops n store k bad (Err (stop.Refused place)) P h r opens faults first last none answer judges told stops =
    let same : Halt.Refused (in_file k place) ≡ h = cc in
    carried (make_sum n) store h r opens opens faults faults stops
    (subst (λ x. Carries (make_sum n) store (Err x) opens opens faults faults) same (refused-at n store k place opens faults first last none (answer place judges)))
judged-stops n store k bad (Err stop.NoMemory) P h r opens faults first last none answer judges told stops =
    let same : Halt.NoMemory ≡ h = cc in made-lacks (make_sum n) store r opens faults (subst (λ x. IsErrAnd r (λ y. y ≡ x)) (sym same) stops)

pub binary-stops : {T : Type 0} (n : ℕ) (store : Option Store) (bytes : List ℕ) (judged : Result T Stop) (P : T → Type 0) (h : Halt) (r : Result (Vec ℕ) Halt) (opens faults : ℕ)
    → bytes ≡ case_file bin_file n → JudgesUnlessNoMemory (first_bad_of_binary bytes) judged P → judged_in 1 judged ≡ Err h → IsErrAnd r (λ x. x ≡ h)
    → Carries (make_sum n) store r opens opens faults faults
binary-stops n store bytes judged P h r opens faults is judges told stops =
    judged-stops n store 1 (first_bad_of_binary bytes) judged P h r opens faults (omega arith) (omega arith) refl
    (λ place bad files. answer-is files n ∙ ap (λ b. unless_bad 1 b (answer-of-samples n)) (ap first_bad_of_binary (sym is) ∙ bad)) judges told stops

pub samples-stop : {T : Type 0} (n : ℕ) (store : Option Store) (judged : Result T Stop) (P : T → Type 0) (h : Halt) (r : Result (Vec ℕ) Halt) (opens faults : ℕ)
    → first_bad_of_binary (case_file bin_file n) ≡ None
    → JudgesUnlessNoMemory (first_bad_of_text 2 (case_file perf_file n)) judged P → judged_in 2 judged ≡ Err h → IsErrAnd r (λ x. x ≡ h)
    → Carries (make_sum n) store r opens opens faults faults
samples-stop n store judged P h r opens faults first judges told stops =
    judged-stops n store 2 (first_bad_of_text 2 (case_file perf_file n)) judged P h r opens faults (omega arith) (omega arith) refl
    (λ place bad files. behind-binary files n first ∙ ap (λ b. unless_bad 2 b (answer-of-blocks n)) bad) judges told stops

pub blocks-stop : {T : Type 0} (n : ℕ) (store : Option Store) (text : List ℕ) (judged : Result T Stop) (P : T → Type 0) (h : Halt) (r : Result (Vec ℕ) Halt) (opens faults : ℕ)
    → first_bad_of_binary (case_file bin_file n) ≡ None → first_bad_of_text 2 (case_file perf_file n) ≡ None → text ≡ case_file cfg_file n
    → JudgesUnlessNoMemory (first_bad_of_blocks 3 text) judged P → judged_in 3 judged ≡ Err h → IsErrAnd r (λ x. x ≡ h)
    → Carries (make_sum n) store r opens opens faults faults
blocks-stop n store text judged P h r opens faults first second is judges told stops =
    judged-stops n store 3 (first_bad_of_blocks 3 text) judged P h r opens faults (omega arith) (omega arith) refl
    (λ place bad files. behind-samples files n first second ∙ ap (λ b. unless_bad 3 b (answer-of-good n)) (ap (first_bad_of_blocks 3) (sym is) ∙ bad)) judges told stops

-- All three are good, and this is their summary.
pub made-summary : (n : ℕ) (store : Option Store) (text : Vec ℕ) (opens faults : ℕ)
    → first_bad_of_binary (case_file bin_file n) ≡ None → first_bad_of_text 2 (case_file perf_file n) ≡ None → first_bad_of_blocks 3 (case_file cfg_file n) ≡ None
    → IsSummaryOf (case_file bin_file n) (case_file perf_file n) (case_file cfg_file n) text.items
    → Carries (make_sum n) store (Ok text) opens opens faults faults
made-summary n store text opens faults first second third is = record {
  makes = in-any store (λ files. (
    case_file bin_file n ∷ case_file perf_file n ∷ case_file cfg_file n ∷ [],
    behind-samples files n first second ∙ ap (λ b. unless_bad 3 b (answer-of-good n)) third,
    is,
  ));
  good_before = in-any store (λ files. tt);
  opened = refl;
  cause = refl;
}

-- What is written of a binary, of what was counted and of a block text is their summary.
abbrev pub Sums : Binary → Tally → List ℕ → Vec ℕ → Type 0
Sums binary counts blocks out =
    (file perf : List ℕ) → IsBinary file false binary → counts.with_ranges ≡ true → Tells None (lines_of perf) counts → IsSummaryOf file perf blocks out.items

-- The summary of the case's files is one of the case.
pub summed : (n : ℕ) (bytes blocks out : List ℕ) → bytes ≡ case_file bin_file n → blocks ≡ case_file cfg_file n
    → IsSummaryOf bytes (case_file perf_file n) blocks out → IsSummaryOf (case_file bin_file n) (case_file perf_file n) (case_file cfg_file n) out
summed n bytes blocks out bytes_are blocks_are is =
    subst (λ b. IsSummaryOf b (case_file perf_file n) (case_file cfg_file n) out) bytes_are
    (subst (λ b. IsSummaryOf bytes (case_file perf_file n) b out) blocks_are is)

-- A good block text has sound functions.
good-by-lines : (file : ℕ) (text : List ℕ) → first_bad_of_blocks file text ≡ None → block_model.first_bad_of_text file text ≡ None
unfolding first_bad_of_blocks
good-by-lines file text good = by (size_item file max_block_bytes text) (block_model.first_bad_of_text file text) good
  where
    by : (size lines : Option Place) → first_bad (size ∷ lines ∷ []) ≡ None → lines ≡ None
    by None lines is = sym (alone lines) ∙ is
    by (Some place) lines is = absurd cc

pub sound-funs : (text : List ℕ) (funs : List Fun) → first_bad_of_blocks 3 text ≡ None → map function_of funs ≡ functions_of text
    → All (λ fun. IsSound fun.blocks fun.edges) funs
sound-funs text funs good are = read_soundly 3 text funs (good-by-lines 3 text good) are
