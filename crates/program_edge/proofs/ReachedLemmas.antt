-- A command's files, one behind the other: what was reached, and what comes of each end.
use Rattle.std.proofs.Common.{◌≡◌, ◌+◌, ◌-◌, ℕ, zero, suc, Bool, true, false, List, [], ◌∷◌, ◌++◌, length, take, Option, None, Some, Result, Ok, Err, refl, sym, ap, subst, ◌∙◌, arith}
use Rattle.std.specs.Prelude.{IfSome, IsSomeAnd, cond, slice_get}
use Rattle.std.specs.Global.{Vec}
use Rattle.std.specs.Result.{IsErrAnd}
use Rattle.std.proofs.lemmas.List.{length-append}
use Rattle.std.proofs.lemmas.List.Sums.{sum_by-cons}
use Rattle.refusal.specs.declared.place.Place.{Place}
use Rattle.refusal.specs.declared.place.Stop.{Stop}
use Rattle.refusal.specs.declared.place.Stop.TheVariants as stop
use Rattle.io_edge.specs.Faults.{HasCauseWhere, raised}
use Rattle.io_edge.specs.Inputs.{Store}
use Rattle.command_model.specs.Answer.{Answer, answer_behind, answer_of_command, answer_of_good, in_file, no_such_file, unless_bad, unless_failed, with_file}
use Rattle.command_model.specs.Command.{Command}
use Rattle.command_model.specs.Files.{Asked, IsOutput, failed_line, files_of, named}
use Rattle.command_model.specs.Good.{AreGood, AreGoodBefore}
use Rattle.refusal.specs.Place.{JudgesUnlessNoMemory}
use Rattle.program_edge.specs.Halt.{IfAnswers, answer_in, judged_in}
use Rattle.program_edge.specs.Opens.{HasOpened, Reaches, ReachesNamed, is_named, opens_behind, opens_of}
use Rattle.program_edge.specs.Output.{Carries, EndsAt, EndsJudged, HasFileCause, IfReadFault, IsOfFile, Makes, ReadsFile, tells_read_fault}
use Rattle.program_edge.specs.declared.halt.Halt.{Halt}
use Rattle.program_edge.specs.declared.halt.Halt.TheVariants.{CheckFailed, NoSuchFile, Refused, ReadFault, NoMemory}

-- The command's files up to some place are there and good, with these bytes, and these are still asked for.
pub record Reached (command : Command) (store : Option Store) (before : List (List ℕ)) (rest : List Asked) (opens opens_now : ℕ) : Type 0 where
  pub opened : ℕ
  pub opens_are : opens_now ≡ opens_behind opens opened
  pub all_opens : opens_of (files_of command) ≡ opened + opens_of rest
  pub first_opens : (m : ℕ) → opens_of (take (length before + m) (files_of command)) ≡ opened + opens_of (take m rest)
  pub long : length (files_of command) ≡ length before + length rest
  pub answer : IfSome store (λ files. answer_of_command files command ≡ answer_behind files (answer_of_good command) before rest)
  pub good : IfSome store (λ files. (m : ℕ) → AreGood files before (take m rest) → AreGood files [] (take (length before + m) (files_of command)))

answers-at-start : (command : Command) (store : Option Store) → IfSome store (λ files. answer_of_command files command ≡ answer_behind files (answer_of_good command) [] (files_of command))
answers-at-start command None = tt
answers-at-start command (Some files) = refl

good-at-start : (command : Command) (store : Option Store)
    → IfSome store (λ files. (m : ℕ) → AreGood files [] (take m (files_of command)) → AreGood files [] (take (0 + m) (files_of command)))
good-at-start command None = tt
good-at-start command (Some files) = λ m good. let same : m ≡ 0 + m = omega arith in subst (λ n. AreGood files [] (take n (files_of command))) same good

pub Reached-start : (command : Command) (store : Option Store) (opens : ℕ) → Reached command store [] (files_of command) opens opens
Reached-start command store opens = record {
  opened = 0;
  opens_are = refl;
  all_opens = omega arith;
  first_opens = λ m. let same : 0 + m ≡ m = omega arith in ap (λ n. opens_of (take n (files_of command))) same ∙ omega arith;
  long = omega arith;
  answer = answers-at-start command store;
  good = good-at-start command store;
}

-- ---- one file more

-- the file is there, with these bytes, and good
abbrev pub IsGood : Option Store → List ℕ → (List ℕ → Option Place) → List ℕ → Type 0
IsGood store name judge bytes = IfSome store (λ files. (files name ≡ Some bytes) × (judge bytes ≡ None))

answers-behind : (command : Command) (store : Option Store) (before : List (List ℕ)) (name : List ℕ) (judge : List (List ℕ) → List ℕ → Option Place) (rest : List Asked) (bytes : List ℕ)
    → IfSome store (λ files. answer_of_command files command ≡ answer_behind files (answer_of_good command) before (record { source = named name; judge = judge } ∷ rest))
    → IsGood store name (judge before) bytes
    → IfSome store (λ files. answer_of_command files command ≡ answer_behind files (answer_of_good command) (before ++ bytes ∷ []) rest)
answers-behind command None before name judge rest bytes answer good = tt
answers-behind command (Some files) before name judge rest bytes answer good =
    answer
    ∙ ap (λ file. with_file (length before + 1) file (judge before) (λ b. answer_behind files (answer_of_good command) (before ++ b ∷ []) rest)) good.0
    ∙ ap (λ bad. unless_bad (length before + 1) bad (answer_behind files (answer_of_good command) (before ++ bytes ∷ []) rest)) good.1

longer : (before : List (List ℕ)) (bytes : List ℕ) (m : ℕ) → length before + (suc m) ≡ length (before ++ bytes ∷ []) + m
longer before bytes m = omega (arith, length-append before (bytes ∷ []))

good-behind : (command : Command) (store : Option Store) (before : List (List ℕ)) (name : List ℕ) (judge : List (List ℕ) → List ℕ → Option Place) (rest : List Asked) (bytes : List ℕ)
    → IfSome store (λ files. (m : ℕ) → AreGood files before (take m (record { source = named name; judge = judge } ∷ rest)) → AreGood files [] (take (length before + m) (files_of command)))
    → IsGood store name (judge before) bytes
    → IfSome store (λ files. (m : ℕ) → AreGood files (before ++ bytes ∷ []) (take m rest) → AreGood files [] (take (length (before ++ bytes ∷ []) + m) (files_of command)))
good-behind command None before name judge rest bytes so_far good = tt
good-behind command (Some files) before name judge rest bytes so_far good =
    λ m more. subst (λ n. AreGood files [] (take n (files_of command))) (longer before bytes m) (so_far (suc m) (bytes, good.0, good.1, more))

one_more_opened : (name : List ℕ) (judge : List (List ℕ) → List ℕ → Option Place) (rest : List Asked) → opens_of (record { source = named name; judge = judge } ∷ rest) ≡ 1 + opens_of rest
one_more_opened name judge rest = sum_by-cons (λ (file : Asked). cond (is_named file.source) 1 0) (record { source = named name; judge = judge }) rest

opened-behind : (opens opens_now opened : ℕ) → opens_now ≡ opens_behind opens opened → raised opens_now ≡ opens_behind opens (opened + 1)
opened-behind opens opens_now opened is = let next : suc opened ≡ opened + 1 = omega arith in ap raised is ∙ ap (opens_behind opens) next

pub Reached-more : (command : Command) (store : Option Store) (before : List (List ℕ)) (name : List ℕ) (judge : List (List ℕ) → List ℕ → Option Place) (rest : List Asked) (bytes : List ℕ) (opens opens_now opens_after : ℕ)
    → Reached command store before (record { source = named name; judge = judge } ∷ rest) opens opens_now
    → IsGood store name (judge before) bytes → opens_after ≡ raised opens_now
    → Reached command store (before ++ bytes ∷ []) rest opens opens_after
Reached-more command store before name judge rest bytes opens opens_now opens_after so_far good rose =
    let this : Asked = record { source = named name; judge = judge } in
    let longer_by = length-append before (bytes ∷ []) in
    record {
      opened = so_far.opened + 1;
      opens_are = rose ∙ opened-behind opens opens_now so_far.opened so_far.opens_are;
      all_opens = let all = so_far.all_opens in let more = one_more_opened name judge rest in omega (arith, all, more);
      first_opens = λ m.
          let first = ap (λ n. opens_of (take n (files_of command))) (sym (longer before bytes m)) ∙ so_far.first_opens (suc m) in
          let more = one_more_opened name judge (take m rest) in omega (arith, first, more);
      long = let long = so_far.long in omega (arith, long, longer_by);
      answer = answers-behind command store before name judge rest bytes so_far.answer good;
      good = good-behind command store before name judge rest bytes so_far.good good;
    }

-- ---- the file ends the command

-- the opens up to a file
opens-with : (command : Command) (store : Option Store) (before : List (List ℕ)) (name : List ℕ) (judge : List (List ℕ) → List ℕ → Option Place) (rest : List Asked) (opens opens_now opens_after : ℕ)
    → Reached command store before (record { source = named name; judge = judge } ∷ rest) opens opens_now → opens_after ≡ raised opens_now
    → opens_after ≡ opens_behind opens (opens_of (take (length before + 1) (files_of command)))
opens-with command store before name judge rest opens opens_now opens_after so_far rose =
    let first = so_far.first_opens 1 in
    let one = one_more_opened name judge [] in
    let count : so_far.opened + 1 ≡ opens_of (take (length before + 1) (files_of command)) = omega (arith, first, one) in
    rose ∙ opened-behind opens opens_now so_far.opened so_far.opens_are ∙ ap (opens_behind opens) count

reaches : (command : Command) (store : Option Store) (before : List (List ℕ)) (name : List ℕ) (judge : List (List ℕ) → List ℕ → Option Place) (rest : List Asked) (opens opens_now opens_after k : ℕ)
    → Reached command store before (record { source = named name; judge = judge } ∷ rest) opens opens_now → opens_after ≡ raised opens_now
    → k ≡ length before + 1 → Reaches command k opens opens_after
reaches command store before name judge rest opens opens_now opens_after k so_far rose is =
    subst (λ n. Reaches command n opens opens_after) (sym is) (record {
      first = omega arith;
      last = let long = so_far.long in omega (arith, long);
      opened = opens-with command store before name judge rest opens opens_now opens_after so_far rose;
    })

-- how many files are opened of one that is named or not
abbrev one_if : Bool → ℕ
one_if t = cond t 1 0

-- where one file more opens one file more, that file is named
named-there : (n : ℕ) (files : List Asked) → opens_of (take (suc n) files) ≡ opens_of (take n files) + 1
    → IsSomeAnd (slice_get files n) (λ file. is_named file.source ≡ true)
named-there zero [] more = absurd (omega (arith, more))
named-there (suc n) [] more = absurd (omega (arith, more))
named-there zero (file ∷ files) more = by_test (is_named file.source) refl
  where
    by_test : (t : Bool) → is_named file.source ≡ t → is_named file.source ≡ true
    by_test true is = is
    by_test false is =
        let one = sum_by-cons (λ (f : Asked). cond (is_named f.source) 1 0) file [] in
        let none : one_if (is_named file.source) ≡ 0 = ap one_if is in
        absurd (omega (arith, more, one, none))
named-there (suc n) (file ∷ files) more =
    let front = sum_by-cons (λ (f : Asked). cond (is_named f.source) 1 0) file (take (suc n) files) in
    let behind = sum_by-cons (λ (f : Asked). cond (is_named f.source) 1 0) file (take n files) in
    named-there n files (omega (arith, more, front, behind))

reaches-named : (command : Command) (store : Option Store) (before : List (List ℕ)) (name : List ℕ) (judge : List (List ℕ) → List ℕ → Option Place) (rest : List Asked) (opens opens_now opens_after k : ℕ)
    → Reached command store before (record { source = named name; judge = judge } ∷ rest) opens opens_now → opens_after ≡ raised opens_now
    → k ≡ length before + 1 → ReachesNamed command k opens opens_after
reaches-named command store before name judge rest opens opens_now opens_after k so_far rose is =
    let first = so_far.first_opens 1 in
    let none = so_far.first_opens 0 in
    let one = one_more_opened name judge [] in
    let same : length before + 0 ≡ length before = omega arith in
    let at : opens_of (take (length before) (files_of command)) ≡ opens_of (take (length before + 0) (files_of command)) = ap (λ n. opens_of (take n (files_of command))) (sym same) in
    let next : suc (length before) ≡ length before + 1 = omega arith in
    let behind = ap (λ n. opens_of (take n (files_of command))) next in
    let there = named-there (length before) (files_of command) (omega (arith, first, none, one, at, behind)) in
    let index : length before ≡ k - 1 = omega (arith, is) in
    record {
      reached = reaches command store before name judge rest opens opens_now opens_after k so_far rose is;
      is_named = subst (λ n. IsSomeAnd (slice_get (files_of command) n) (λ file. is_named file.source ≡ true)) index there;
    }

opened-by : (command : Command) (store : Option Store) (before : List (List ℕ)) (name : List ℕ) (judge : List (List ℕ) → List ℕ → Option Place) (rest : List Asked) (opens opens_now opens_after : ℕ) (h : Halt)
    → Reached command store before (record { source = named name; judge = judge } ∷ rest) opens opens_now → opens_after ≡ raised opens_now
    → IsOfFile {A = Vec ℕ} (length before + 1) (Err h) → HasOpened {A = Vec ℕ} command (Err h) opens opens_after
opened-by command store before name judge rest opens opens_now opens_after (NoSuchFile j) so_far rose is = reaches-named command store before name judge rest opens opens_now opens_after j so_far rose is
opened-by command store before name judge rest opens opens_now opens_after (Refused place) so_far rose is = reaches command store before name judge rest opens opens_now opens_after place.file so_far rose is
opened-by command store before name judge rest opens opens_now opens_after (CheckFailed line) so_far rose is = absurd is
opened-by command store before name judge rest opens opens_now opens_after (ReadFault j) so_far rose is = reaches-named command store before name judge rest opens opens_now opens_after j so_far rose is
opened-by command store before name judge rest opens opens_now opens_after NoMemory so_far rose is =
    (length before + 1, let long = so_far.long in omega (arith, long), opens-with command store before name judge rest opens opens_now opens_after so_far rose)

ended-by : (command : Command) (files : Store) (before : List (List ℕ)) (name : List ℕ) (judge : List (List ℕ) → List ℕ → Option Place) (rest : List Asked) (told : Option Answer)
    → answer_of_command files command ≡ answer_behind files (answer_of_good command) before (record { source = named name; judge = judge } ∷ rest)
    → IfSome told (EndsAt (length before + 1) (files name) (judge before)) → IfSome told (λ a. answer_of_command files command ≡ a)
ended-by command files before name judge rest None so_far ends = tt
ended-by command files before name judge rest (Some a) so_far ends = so_far ∙ ends (λ b. answer_behind files (answer_of_good command) (before ++ b ∷ []) rest)

made-none : (command : Command) (store : Option Store) (before : List (List ℕ)) (name : List ℕ) (judge : List (List ℕ) → List ℕ → Option Place) (rest : List Asked) (h : Halt)
    → IfSome store (λ files. answer_of_command files command ≡ answer_behind files (answer_of_good command) before (record { source = named name; judge = judge } ∷ rest))
    → IfSome store (λ files. IfAnswers h (EndsAt (length before + 1) (files name) (judge before))) → IfSome store (λ files. Makes files command (Err h))
made-none command None before name judge rest h so_far ends = tt
made-none command (Some files) before name judge rest h so_far ends = ended-by command files before name judge rest _ so_far ends

good-at : (command : Command) (files : Store) (before : List (List ℕ)) (rest : List Asked) (h : Halt)
    → ((m : ℕ) → AreGood files before (take m rest) → AreGood files [] (take (length before + m) (files_of command)))
    → IsOfFile {A = Vec ℕ} (length before + 1) (Err h) → IfReadFault {A = Vec ℕ} (Err h) (AreGoodBefore files command)
good-at command files before rest (NoSuchFile j) so_far is = tt
good-at command files before rest (Refused place) so_far is = tt
good-at command files before rest NoMemory so_far is = tt
good-at command files before rest (CheckFailed line) so_far is = tt
good-at command files before rest (ReadFault j) so_far is =
    let same : length before + 0 ≡ j - 1 = omega (arith, is) in
    subst (λ n. AreGood files [] (take n (files_of command))) same (so_far 0 tt)

good-before : (command : Command) (store : Option Store) (before : List (List ℕ)) (rest : List Asked) (h : Halt)
    → IfSome store (λ files. (m : ℕ) → AreGood files before (take m rest) → AreGood files [] (take (length before + m) (files_of command)))
    → IsOfFile {A = Vec ℕ} (length before + 1) (Err h) → IfSome store (λ files. IfReadFault {A = Vec ℕ} (Err h) (AreGoodBefore files command))
good-before command None before rest h so_far is = tt
good-before command (Some files) before rest h so_far is = good-at command files before rest h so_far is

-- what a result of one type says of a fault, one of another says of it
same-cause : (A B : Type 0) (h : Halt) (faults faults_after : ℕ) → HasCauseWhere (tells_read_fault {A = A}) faults faults_after (Err h) → HasCauseWhere (tells_read_fault {A = B}) faults faults_after (Err h)
same-cause A B (NoSuchFile j) faults faults_after is = is
same-cause A B (Refused place) faults faults_after is = is
same-cause A B (ReadFault j) faults faults_after is = is
same-cause A B (CheckFailed line) faults faults_after is = is
same-cause A B NoMemory faults faults_after is = is

same-file : (A B : Type 0) (h : Halt) (k : ℕ) → IsOfFile {A = A} k (Err h) → IsOfFile {A = B} k (Err h)
same-file A B (NoSuchFile j) k is = is
same-file A B (Refused place) k is = is
same-file A B (ReadFault j) k is = is
same-file A B (CheckFailed line) k is = is
same-file A B NoMemory k is = is

pub carried : (command : Command) (store : Option Store) (h : Halt) (r : Result (Vec ℕ) Halt) (opens opens_after faults faults_after : ℕ)
    → IsErrAnd r (λ x. x ≡ h) → Carries command store (Err h) opens opens_after faults faults_after → Carries command store r opens opens_after faults faults_after
carried command store h (Ok text) opens opens_after faults faults_after is carries = absurd is
carried command store h (Err other) opens opens_after faults faults_after is carries =
    subst (λ x. Carries command store (Err x) opens opens_after faults faults_after) (sym is) carries

-- The file of this name, which was opened, ends the command: it is missing, bad or could not be read, or memory was refused.
pub Reached-stop : (A : Type 0) (command : Command) (store : Option Store) (before : List (List ℕ)) (name : List ℕ) (judge : List (List ℕ) → List ℕ → Option Place) (rest : List Asked) (k : ℕ) (h : Halt) (r : Result (Vec ℕ) Halt) (opens opens_now opens_after faults faults_after : ℕ)
    → Reached command store before (record { source = named name; judge = judge } ∷ rest) opens opens_now
    → k ≡ length before + 1 → opens_after ≡ raised opens_now
    → IfSome store (λ files. IfAnswers h (EndsAt k (files name) (judge before)))
    → HasFileCause {A = A} k faults faults_after (Err h) → IsErrAnd r (λ x. x ≡ h)
    → Carries command store r opens opens_after faults faults_after
Reached-stop A command store before name judge rest k h r opens opens_now opens_after faults faults_after so_far is rose ends cause stops =
    let of_file : IsOfFile {A = Vec ℕ} (length before + 1) (Err h) = subst (λ n. IsOfFile {A = Vec ℕ} n (Err h)) is (same-file A (Vec ℕ) h k cause.1) in
    carried command store h r opens opens_after faults faults_after stops (record {
      makes = made-none command store before name judge rest h so_far.answer (subst (λ n. IfSome store (λ files. IfAnswers h (EndsAt n (files name) (judge before)))) is ends);
      good_before = good-before command store before (record { source = named name; judge = judge } ∷ rest) h so_far.good of_file;
      opened = opened-by command store before name judge rest opens opens_now opens_after h so_far rose of_file;
      cause = same-cause A (Vec ℕ) h faults faults_after cause.0;
    })

-- The file of this name was opened, and memory was refused.
pub Reached-lacks : (command : Command) (store : Option Store) (before : List (List ℕ)) (name : List ℕ) (judge : List (List ℕ) → List ℕ → Option Place) (rest : List Asked) (r : Result (Vec ℕ) Halt) (opens opens_now opens_after faults faults_after : ℕ)
    → Reached command store before (record { source = named name; judge = judge } ∷ rest) opens opens_now
    → opens_after ≡ raised opens_now → faults_after ≡ faults → IsErrAnd r (λ x. x ≡ NoMemory)
    → Carries command store r opens opens_after faults faults_after
Reached-lacks command store before name judge rest r opens opens_now opens_after faults faults_after so_far rose same stops =
    Reached-stop (Vec ℕ) command store before name judge rest (length before + 1) NoMemory r opens opens_now opens_after faults faults_after so_far refl rose (nothing store) (same, tt) stops
  where
    nothing : (store : Option Store) → IfSome store (λ files. IfAnswers NoMemory (EndsAt (length before + 1) (files name) (judge before)))
    nothing None = tt
    nothing (Some files) = tt

-- Memory was refused behind these files.
pub Reached-no-memory : (command : Command) (store : Option Store) (before : List (List ℕ)) (rest : List Asked) (r : Result (Vec ℕ) Halt) (opens opens_now faults faults_after : ℕ)
    → Reached command store before rest opens opens_now → faults_after ≡ faults → IsErrAnd r (λ x. x ≡ NoMemory)
    → Carries command store r opens opens_now faults faults_after
Reached-no-memory command store before rest r opens opens_now faults faults_after so_far same stops =
    carried command store NoMemory r opens opens_now faults faults_after stops (record {
      makes = nothing store;
      good_before = nothing-unread store;
      opened = (length before + 0, let long = so_far.long in omega (arith, long), let first = so_far.first_opens 0 in let count : so_far.opened ≡ opens_of (take (length before + 0) (files_of command)) = omega (arith, first) in so_far.opens_are ∙ ap (opens_behind opens) count);
      cause = same;
    })
  where
    nothing : (store : Option Store) → IfSome store (λ files. Makes files command (Err NoMemory))
    nothing None = tt
    nothing (Some files) = tt

    nothing-unread : (store : Option Store) → IfSome store (λ files. IfReadFault {A = Vec ℕ} (Err NoMemory) (AreGoodBefore files command))
    nothing-unread None = tt
    nothing-unread (Some files) = tt

-- All files are good, and this is an output.
pub Reached-all : (command : Command) (store : Option Store) (before : List (List ℕ)) (text : Vec ℕ) (opens opens_now faults faults_after : ℕ)
    → Reached command store before [] opens opens_now → failed_line command before ≡ None → IfSome store (λ files. IsOutput command before text.items)
    → faults_after ≡ faults → Carries command store (Ok text) opens opens_now faults faults_after
Reached-all command store before text opens opens_now faults faults_after so_far passes is same = record {
  makes = all-made store so_far.answer is;
  good_before = unread store;
  opened = let all = so_far.all_opens in let count : so_far.opened ≡ opens_of (files_of command) = omega (arith, all) in so_far.opens_are ∙ ap (opens_behind opens) count;
  cause = same;
}
  where
    all-made : (store : Option Store) → IfSome store (λ files. answer_of_command files command ≡ answer_behind files (answer_of_good command) before []) → IfSome store (λ files. IsOutput command before text.items) → IfSome store (λ files. Makes files command (Ok text))
    all-made None answer is = tt
    all-made (Some files) answer is = (before, answer ∙ ap (λ failed. unless_failed failed (Answer.writes command before)) passes, is)

    unread : (store : Option Store) → IfSome store (λ files. IfReadFault {A = Vec ℕ} (Ok text) (AreGoodBefore files command))
    unread None = tt
    unread (Some files) = tt

-- All files are good, and this line is the first that fails the check.
pub Reached-failed : (command : Command) (store : Option Store) (before : List (List ℕ)) (line opens opens_now faults faults_after : ℕ)
    → Reached command store before [] opens opens_now → failed_line command before ≡ Some line → faults_after ≡ faults
    → Carries command store (Err (CheckFailed line)) opens opens_now faults faults_after
Reached-failed command store before line opens opens_now faults faults_after so_far fails same = record {
  makes = all-failed store so_far.answer;
  good_before = unread store;
  opened = let all = so_far.all_opens in let count : so_far.opened ≡ opens_of (files_of command) = omega (arith, all) in so_far.opens_are ∙ ap (opens_behind opens) count;
  cause = same;
}
  where
    all-failed : (store : Option Store) → IfSome store (λ files. answer_of_command files command ≡ answer_behind files (answer_of_good command) before []) → IfSome store (λ files. Makes files command (Err (CheckFailed line)))
    all-failed None answer = tt
    all-failed (Some files) answer = answer ∙ ap (λ failed. unless_failed failed (Answer.writes command before)) fails

    unread : (store : Option Store) → IfSome store (λ files. IfReadFault {A = Vec ℕ} (Err (CheckFailed line)) (AreGoodBefore files command))
    unread None = tt
    unread (Some files) = tt

-- ---- what readers say of their file, as what ends the command

-- what holds of a halt holds of what hands it on
pub handed-on : {A : Type 0} (r : Result A Halt) (h : Halt) (P : Result A Halt → Type 0) → IsErrAnd r (λ x. x ≡ h) → P (Err h) → P r
handed-on (Ok x) h P is p = absurd is
handed-on (Err other) h P is p = subst (λ x. P (Err x)) (sym is) p

-- a place of the k-th file
pub bad-place : (k : ℕ) (bad : Option Place) (place : Place) → bad ≡ Some place → EndsJudged k bad (Answer.refused (in_file k place))
bad-place k bad place is = λ next. ap (λ b. unless_bad k b next) is

pub judged-at : (k : ℕ) (file : Option (List ℕ)) (bytes : List ℕ) (judge : List ℕ → Option Place) (h : Halt) → file ≡ Some bytes
    → IfAnswers h (EndsJudged k (judge bytes)) → IfAnswers h (EndsAt k file judge)
judged-at k file bytes judge (NoSuchFile j) there ends = λ next. ap (λ f. with_file k f judge next) there ∙ ends (next bytes)
judged-at k file bytes judge (Refused place) there ends = λ next. ap (λ f. with_file k f judge next) there ∙ ends (next bytes)
judged-at k file bytes judge (ReadFault j) there ends = tt
judged-at k file bytes judge (CheckFailed line) there ends = λ next. ap (λ f. with_file k f judge next) there ∙ ends (next bytes)
judged-at k file bytes judge NoMemory there ends = tt

-- a judge of the k-th file that found it good,
pub judged-good : {T : Type 0} (k : ℕ) (bad : Option Place) (r : Result T Stop) (P : T → Type 0) (x : T)
    → JudgesUnlessNoMemory bad r P → judged_in k r ≡ Ok x → (bad ≡ None) × P x
judged-good k bad (Ok y) P x judges is = let same : y ≡ x = cc in (judges.0, subst P same judges.1)
judged-good k bad (Err stop) P x judges is = absurd cc

-- or told a bad place, or lacked memory
pub judged-ends : {T : Type 0} (k : ℕ) (bad : Option Place) (r : Result T Stop) (P : T → Type 0) (h : Halt)
    → JudgesUnlessNoMemory bad r P → judged_in k r ≡ Err h → IfAnswers h (EndsJudged k bad)
judged-ends k bad (Ok y) P h judges is = absurd cc
judged-ends k bad (Err (stop.Refused place)) P h judges is =
    let same : Halt.Refused (in_file k place) ≡ h = cc in subst (λ x. IfAnswers x (EndsJudged k bad)) same (bad-place k bad place judges)
judged-ends k bad (Err stop.NoMemory) P h judges is =
    let same : Halt.NoMemory ≡ h = cc in subst (λ x. IfAnswers x (EndsJudged k bad)) same tt

judged-cause : {T : Type 0} (k : ℕ) (r : Result T Stop) (h : Halt) (faults faults_after : ℕ) → judged_in k r ≡ Err h → faults_after ≡ faults
    → HasFileCause {A = T} k faults faults_after (Err h)
judged-cause k (Ok y) h faults faults_after is same = absurd cc
judged-cause {T} k (Err (stop.Refused place)) h faults faults_after is same =
    let eq : Halt.Refused (in_file k place) ≡ h = cc in subst (λ x. HasFileCause {A = T} k faults faults_after (Err x)) eq (same, refl)
judged-cause {T} k (Err stop.NoMemory) h faults faults_after is same =
    let eq : Halt.NoMemory ≡ h = cc in subst (λ x. HasFileCause {A = T} k faults faults_after (Err x)) eq (same, tt)

pub there-ends : (store : Option Store) (name : List ℕ) (bytes : List ℕ) (k : ℕ) (judge : List ℕ → Option Place) (h : Halt)
    → IfSome store (λ files. files name ≡ Some bytes) → IfAnswers h (EndsJudged k (judge bytes)) → IfSome store (λ files. IfAnswers h (EndsAt k (files name) judge))
there-ends None name bytes k judge h there ends = tt
there-ends (Some files) name bytes k judge h there ends = judged-at k (files name) bytes judge h there ends

-- The file of this name was read, and its judge ends the command.
pub Reached-judged : {T : Type 0} (command : Command) (store : Option Store) (before : List (List ℕ)) (name : List ℕ) (judge : List (List ℕ) → List ℕ → Option Place) (rest : List Asked) (k : ℕ) (bytes : List ℕ) (judged : Result T Stop) (P : T → Type 0) (h : Halt) (r : Result (Vec ℕ) Halt) (opens opens_now opens_after faults faults_after : ℕ)
    → Reached command store before (record { source = named name; judge = judge } ∷ rest) opens opens_now
    → k ≡ length before + 1 → opens_after ≡ raised opens_now → IfSome store (λ files. files name ≡ Some bytes)
    → JudgesUnlessNoMemory (judge before bytes) judged P → judged_in k judged ≡ Err h → faults_after ≡ faults → IsErrAnd r (λ x. x ≡ h)
    → Carries command store r opens opens_after faults faults_after
Reached-judged {T} command store before name judge rest k bytes judged P h r opens opens_now opens_after faults faults_after so_far is rose there judges told same stops =
    Reached-stop T command store before name judge rest k h r opens opens_now opens_after faults faults_after so_far is rose
    (there-ends store name bytes k (judge before) h there (judged-ends k (judge before bytes) judged P h judges told))
    (judged-cause k judged h faults faults_after told same) stops

missing-by : (told : Option Answer) (k : ℕ) (file : Option (List ℕ)) (judge : List ℕ → Option Place)
    → IfSome told (λ a. (file ≡ None) × (a ≡ no_such_file k)) → IfSome told (EndsAt k file judge)
missing-by None k file judge is = tt
missing-by (Some a) k file judge is = λ next. ap (λ f. with_file k f judge next) is.0 ∙ sym is.1

-- A file that was not opened is missing, if the files are what ends the command.
pub missing-ends : (store : Option Store) (name : List ℕ) (k : ℕ) (judge : List ℕ → Option Place) (h : Halt)
    → IfSome store (λ files. IfAnswers h (λ a. (files name ≡ None) × (a ≡ no_such_file k))) → IfSome store (λ files. IfAnswers h (EndsAt k (files name) judge))
missing-ends None name k judge h is = tt
missing-ends (Some files) name k judge h is = missing-by (answer_in h) k (files name) judge is

-- What holds of any store, and what one says of a store leads to.
pub any-store : {P : Type 0} (store : Option Store) → P → IfSome store (λ files. P)
any-store None p = tt
any-store (Some files) p = p

pub where-told : {P Q : Store → Type 0} (store : Option Store) → IfSome store P → ((files : Store) → P files → Q files) → IfSome store Q
where-told None is leads = tt
where-told (Some files) is leads = leads files is

-- A file that was read is there.
pub is-there : (store : Option Store) (name : List ℕ) (k limit : ℕ) (bytes : Vec ℕ) (now : List ℕ)
    → IfSome store (λ files. ReadsFile k limit (files name) (Ok bytes)) → now ≡ bytes.items → IfSome store (λ files. files name ≡ Some now)
is-there None name k limit bytes now is same = tt
is-there (Some files) name k limit bytes now is same = is.0 ∙ ap (λ b. Some b) (sym same)

pub is-good : (store : Option Store) (name : List ℕ) (judge : List ℕ → Option Place) (bytes : List ℕ)
    → IfSome store (λ files. files name ≡ Some bytes) → judge bytes ≡ None → IsGood store name judge bytes
is-good None name judge bytes there good = tt
is-good (Some files) name judge bytes there good = (there, good)

-- What is said of the store at one time holds of it at another.
pub said-behind : (P : Store → Type 0) (store was : Option Store) → was ≡ store → IfSome was P → IfSome store P
said-behind P store was same is = subst (λ s. IfSome s P) same is

-- What a result of one type says of a file and a fault, one of another that hands it on says too.
pub cause-on : (A : Type 0) {B : Type 0} (k : ℕ) (h : Halt) (before now after : ℕ) (r : Result B Halt) → HasFileCause {A = A} k now after (Err h) → now ≡ before → IsErrAnd r (λ x. x ≡ h)
    → HasFileCause k before after r
cause-on A {B} k h before now after r cause same out =
    subst (λ n. HasFileCause k n after r) same (handed-on r h (HasFileCause k now after) out (same-cause A B h now after cause.0, same-file A B h k cause.1))
