-- A walk over a command's files, one by one: it starts, takes one file more, and ends. Each end is proved once, for all commands.
use Rattle.std.proofs.Common.{◌≡◌, ◌+◌, ◌≤◌, ℕ, List, [], ◌∷◌, ◌++◌, length, Option, None, Some, Result, Ok, Err, refl, subst, sym, ◌∙◌}
use Rattle.std.specs.Prelude.{IfSome}
use Rattle.std.specs.Global.{Vec}
use Rattle.std.specs.Result.{IsErrAnd}
use Rattle.refusal.specs.declared.place.Place.{Place}
use Rattle.refusal.specs.declared.place.Stop.{Stop}
use Rattle.refusal.specs.Place.{JudgesUnlessNoMemory, size_item}
use Rattle.io_edge.specs.Inputs.{Store}
use Rattle.command_model.specs.Command.{Command}
use Rattle.command_model.specs.Files.{Asked, IsOutput, failed_line, files_of, named}
use Rattle.program_edge.specs.Halt.{IfAnswers, answer_in, judged_in}
use Rattle.program_edge.specs.Output.{Carries, EndsAt, HasFileCause, ReadsFile, TakesFile}
use Rattle.program_edge.specs.declared.halt.Halt.{Halt}
use Rattle.program_edge.specs.declared.halt.Halt.TheVariants.{CheckFailed, NoMemory}
use Rattle.program_edge.proofs.ReachedLemmas.{Reached, Reached-all, Reached-failed, Reached-judged, Reached-more, Reached-no-memory, Reached-start, Reached-stop, is-good, is-there, judged-good, said-behind}
use Rattle.program_edge.proofs.SizedLemmas.{Sized, answers-wider, judged-sized}

-- The command's files up to some place are there and good, with these bytes, and no call has failed; these are still asked for.
pub record Walk (command : Command) (store store_now : Option Store) (before : List (List ℕ)) (rest : List Asked)
    (opens opens_now faults faults_now : ℕ) : Type 0 where
  pub reached : Reached command store before rest opens opens_now
  pub stays : store_now ≡ store
  pub unfailed : faults_now ≡ faults

pub start : {store : Option Store} {opens faults : ℕ} (command : Command) → Walk command store store [] (files_of command) opens opens faults faults
start command = record { reached = Reached-start command _ _; stays = refl; unfailed = refl }

-- The same, where the files that it asks for are said in other words.
pub start-at : {store : Option Store} {opens faults : ℕ} {rest : List Asked} (command : Command) → files_of command ≡ rest → Walk command store store [] rest opens opens faults faults
start-at {store} {opens} {faults} command same = subst (λ asked. Walk command store store [] asked opens opens faults faults) same (start command)

-- ---- what was taken of a file ends the command

-- What is said of a file, of any store.
said-of : {Says Ends : Option (List ℕ) → Type 0} (store : Option Store) (name : List ℕ) → ((file : Option (List ℕ)) → Says file → Ends file)
    → IfSome store (λ files. Says (files name)) → IfSome store (λ files. Ends (files name))
said-of None name leads is = tt
said-of (Some files) name leads is = leads (files name) is

pub stops : {A : Type 0} {Says : Option (List ℕ) → Result A Halt → Type 0} {command : Command} {store store_now : Option Store} {before : List (List ℕ)} {name : List ℕ} {judge : List (List ℕ) → List ℕ → Option Place} {rest : List Asked} {k : ℕ} {h : Halt} {r : Result (Vec ℕ) Halt} {opens opens_now opens_after faults faults_now faults_after : ℕ}
    → Walk command store store_now before (record { source = named name; judge = judge } ∷ rest) opens opens_now faults faults_now
    → TakesFile Says k name store_now (Err h) opens_now opens_after faults_now faults_after
    → ((file : Option (List ℕ)) → Says file (Err h) → IfAnswers h (EndsAt k file (judge before)))
    → k ≡ length before + 1 → IsErrAnd r (λ x. x ≡ h) → Carries command store r opens opens_after faults faults_after
stops {A} {Says} {command} {store} {store_now} {before} {name} {judge} {rest} {k} {h} {r} {opens} {opens_now} {opens_after} {faults} {faults_now} {faults_after} walk took ends is out =
    Reached-stop A command store before name judge rest k h r opens opens_now opens_after faults faults_after walk.reached is took.opened
    (said-behind (λ files. IfAnswers h (EndsAt k (files name) (judge before))) store store_now walk.stays
    (said-of {Says = λ file. Says file (Err h)} {Ends = λ file. IfAnswers h (EndsAt k file (judge before))} store_now name ends took.file))
    (subst (λ n. HasFileCause {A = A} k n faults_after (Err h)) walk.unfailed took.cause) out

-- A file that could not be read whole is refused by its size, if the files are what ends the command.
size-ends : {k limit : ℕ} {judge inner : List ℕ → Option Place} (h : Halt) → Sized k limit judge inner → (file : Option (List ℕ)) → ReadsFile k limit file (Err h) → IfAnswers h (EndsAt k file judge)
size-ends {k = k} {limit = limit} {judge = judge} h sized file ends = answers-wider (answer_in h) k file (size_item k limit) judge sized.too_large ends

pub said-unread : {k limit : ℕ} {judge inner : List ℕ → Option Place} (h : Halt) → Sized k limit judge inner → (store : Option Store) (name : List ℕ)
    → IfSome store (λ files. ReadsFile k limit (files name) (Err h)) → IfSome store (λ files. IfAnswers h (EndsAt k (files name) judge))
said-unread {k = k} {limit = limit} {judge = judge} h sized store name is =
    said-of {Says = λ file. ReadsFile k limit file (Err h)} {Ends = λ file. IfAnswers h (EndsAt k file judge)} store name (size-ends h sized) is

pub unread : {command : Command} {store store_now : Option Store} {before : List (List ℕ)} {name : List ℕ} {judge : List (List ℕ) → List ℕ → Option Place} {rest : List Asked} {inner : List ℕ → Option Place} {k limit : ℕ} {h : Halt} {r : Result (Vec ℕ) Halt} {opens opens_now opens_after faults faults_now faults_after : ℕ}
    → Walk command store store_now before (record { source = named name; judge = judge } ∷ rest) opens opens_now faults faults_now
    → TakesFile (ReadsFile k limit) k name store_now (Err h) opens_now opens_after faults_now faults_after → Sized k limit (judge before) inner
    → k ≡ length before + 1 → IsErrAnd r (λ x. x ≡ h) → Carries command store r opens opens_after faults faults_after
unread {h = h} walk took sized is out = stops walk took (size-ends h sized) is out

-- It was read, and is bad,
pub bad : {T : Type 0} (judged : Result T Stop) (P : T → Type 0) {command : Command} {store store_now : Option Store} {before : List (List ℕ)} {name now : List ℕ} {judge : List (List ℕ) → List ℕ → Option Place} {rest : List Asked} {inner : List ℕ → Option Place} {k limit : ℕ} {bytes : Vec ℕ} {h : Halt} {r : Result (Vec ℕ) Halt} {opens opens_now opens_after faults faults_now faults_after : ℕ}
    → Walk command store store_now before (record { source = named name; judge = judge } ∷ rest) opens opens_now faults faults_now
    → TakesFile (ReadsFile k limit) k name store_now (Ok bytes) opens_now opens_after faults_now faults_after → length bytes.items ≤ limit → now ≡ bytes.items
    → Sized k limit (judge before) inner → JudgesUnlessNoMemory (inner now) judged P → judged_in k judged ≡ Err h
    → k ≡ length before + 1 → IsErrAnd r (λ x. x ≡ h) → Carries command store r opens opens_after faults faults_after
bad {T} judged P {command} {store} {store_now} {before} {name} {now} {judge} {rest} {inner} {k} {limit} {bytes} {h} {r} {opens} {opens_now} {opens_after} {faults} {faults_now} {faults_after} walk took within same sized judges told is out =
    Reached-judged {T = T} command store before name judge rest k now judged P h r opens opens_now opens_after faults faults_after walk.reached is took.opened
    (said-behind (λ files. files name ≡ Some now) store store_now walk.stays (is-there store_now name k limit bytes now took.file same))
    (judged-sized judged P sized now (subst (λ t. length t ≤ limit) (sym same) within) judges) told (took.cause.0 ∙ walk.unfailed) out

-- or is good: the walk goes on, with what was made of it.
pub good : {T : Type 0} (judged : Result T Stop) (P : T → Type 0) {command : Command} {store store_now store_after : Option Store} {before : List (List ℕ)} {name now : List ℕ} {judge : List (List ℕ) → List ℕ → Option Place} {rest : List Asked} {inner : List ℕ → Option Place} {k limit : ℕ} {bytes : Vec ℕ} {x : T} {opens opens_now opens_after faults faults_now faults_after : ℕ}
    → Walk command store store_now before (record { source = named name; judge = judge } ∷ rest) opens opens_now faults faults_now
    → TakesFile (ReadsFile k limit) k name store_now (Ok bytes) opens_now opens_after faults_now faults_after → length bytes.items ≤ limit → store_after ≡ store_now → now ≡ bytes.items
    → Sized k limit (judge before) inner → JudgesUnlessNoMemory (inner now) judged P → judged_in k judged ≡ Ok x
    → Walk command store store_after (before ++ now ∷ []) rest opens opens_after faults faults_after × P x
good {T} judged P {command} {store} {store_now} {store_after} {before} {name} {now} {judge} {rest} {inner} {k} {limit} {bytes} {x} {opens} {opens_now} {opens_after} {faults} {faults_now} {faults_after} walk took within stays same sized judges told =
    let found = judged-good {T = T} k (judge before now) judged P x (judged-sized judged P sized now (subst (λ t. length t ≤ limit) (sym same) within) judges) told in (
      record {
        reached = Reached-more command store before name judge rest now opens opens_now opens_after walk.reached
            (is-good store name (judge before) now (said-behind (λ files. files name ≡ Some now) store store_now walk.stays (is-there store_now name k limit bytes now took.file same)) found.0)
            took.opened;
        stays = stays ∙ walk.stays;
        unfailed = took.cause.0 ∙ walk.unfailed;
      },
      found.1,
    )

-- ---- behind the files

pub lacks : {command : Command} {store store_now : Option Store} {before : List (List ℕ)} {rest : List Asked} {r : Result (Vec ℕ) Halt} {opens opens_now faults faults_now : ℕ}
    → Walk command store store_now before rest opens opens_now faults faults_now → IsErrAnd r (λ x. x ≡ NoMemory) → Carries command store r opens opens_now faults faults_now
lacks walk out = Reached-no-memory _ _ _ _ _ _ _ _ _ walk.reached walk.unfailed out

pub all : {command : Command} {store store_now : Option Store} {before : List (List ℕ)} {text : Vec ℕ} {opens opens_now faults faults_now : ℕ}
    → Walk command store store_now before [] opens opens_now faults faults_now → failed_line command before ≡ None → IfSome store (λ files. IsOutput command before text.items)
    → Carries command store (Ok text) opens opens_now faults faults_now
all walk passes is = Reached-all _ _ _ _ _ _ _ _ walk.reached passes is walk.unfailed

pub fails : {command : Command} {store store_now : Option Store} {before : List (List ℕ)} {line opens opens_now faults faults_now : ℕ}
    → Walk command store store_now before [] opens opens_now faults faults_now → failed_line command before ≡ Some line
    → Carries command store (Err (CheckFailed line)) opens opens_now faults faults_now
fails walk failed = Reached-failed _ _ _ _ _ _ _ _ walk.reached failed walk.unfailed
