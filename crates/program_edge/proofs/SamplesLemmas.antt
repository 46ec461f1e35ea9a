-- A branch text that is counted, and what is written of a binary and of its samples.
use Rattle.std.proofs.Common.{◌≡◌, ℕ, Bool, true, List, [], ◌∷◌, ◌++◌, Option, None, Some, Result, Ok, Err, Bor, refl, ap, subst, ◌∙◌}
use Rattle.std.specs.Prelude.{IfSome}
use Rattle.std.specs.Option.{option_map}
use Rattle.std.specs.Result.{IsErrAnd}
use Rattle.io_edge.specs.Inputs.{Store}
use Rattle.sample_model.specs.Judging.{first_bad_of_text}
use Rattle.sample_model.specs.Moves.{LoadMap}
use Rattle.text_model.specs.Lines.{lines_of}
use Rattle.load_model.specs.declared.load_segment.LoadSegment.{LoadSegment}
use Rattle.elf_model.specs.Segments.{code_loads}
use Rattle.branch_counts.specs.Tally.{Tally, Tells}
use Rattle.binary_places.specs.declared.binary.Binary.{Binary}
use Rattle.binary_places.specs.Binary.{IsBinary}
use Rattle.output_model.specs.Output.{loading_of}
use Rattle.command_model.specs.Command.{Command}
use Rattle.command_model.specs.Files.{Asked, named}
use Rattle.program_edge.specs.Halt.{IfAnswers}
use Rattle.program_edge.specs.Output.{EndsAt, OpensFile, TakesFile}
use Rattle.program_edge.specs.BranchText.{JudgesText}
use Rattle.program_edge.specs.Samples.{CountsFile}
use Rattle.program_edge.specs.declared.halt.Halt.{Halt}
use Rattle.program_edge.proofs.ReachedLemmas.{IsGood, Reached-more, handed-on, judged-at, said-behind}
use Rattle.program_edge.proofs.WalkLemmas.{Walk}

-- what moves the addresses is told by the binary's own segments
pub same-loading : (map : Option (Bor (List ℕ))) (loads : List LoadSegment) (bytes : List ℕ) → loads ≡ code_loads bytes
    → option_map (λ name. record { name = name.now; segments = loads }) map ≡ loading_of (option_map (λ name. name.now) map) bytes
same-loading None loads bytes same = refl
same-loading (Some name) loads bytes same = ap (λ segments. Some (record { name = name.now; segments = segments })) same

-- What is spelled of a binary and of what was counted of a branch text.
pub written_by : (spell : List ℕ → Bool → Option LoadMap → List (List ℕ) → List ℕ) (bytes : List ℕ) (base : Bool) (binary : Binary) (map : Option (Bor (List ℕ))) (loads : List LoadSegment) (counts : Tally) (text out : List ℕ)
    → IsBinary bytes base binary → loads ≡ binary.loads.items
    → ((file : List ℕ) (base : Bool) (loading : Option LoadMap) (lines : List (List ℕ)) → IsBinary file base binary → counts.with_ranges ≡ true → Tells loading lines counts
    → out ≡ spell file base loading lines)
    → counts.with_ranges ≡ true → Tells (option_map (λ name. record { name = name.now; segments = loads }) map) (lines_of text) counts
    → out ≡ spell bytes base (loading_of (option_map (λ name. name.now) map) bytes) (lines_of text)
written_by spell bytes base binary map loads counts text out is same made ranged tells =
    made bytes base (option_map (λ name. record { name = name.now; segments = loads }) map) (lines_of text) is ranged tells
    ∙ ap (λ l. spell bytes base l (lines_of text)) (same-loading map loads bytes (same ∙ is.loads_are))

-- ---- the text, opened and judged

-- what a branch text that was opened ends the command with
text-ends : (store : Option Store) (name : List ℕ) (left : Option (List ℕ)) (k : ℕ) (loading : Option LoadMap) (h : Halt) (tally : Tally)
    → IfSome store (λ files. OpensFile (files name) k (Ok tt) left) → IfSome left (λ text. JudgesText loading k text (Err h) tally)
    → IfSome store (λ files. IfAnswers h (EndsAt k (files name) (first_bad_of_text k)))
text-ends None name left k loading h tally opens is = tt
text-ends (Some files) name left k loading h tally opens is =
    let judged : JudgesText loading k opens.0 (Err h) tally = subst (λ l. IfSome l (λ text. JudgesText loading k text (Err h) tally)) opens.2 is in
    judged-at k (files name) opens.0 (first_bad_of_text k) h opens.1 judged

-- what a branch text that was counted says
counted-text : (store : Option Store) (name : List ℕ) (k : ℕ) (loading : Option LoadMap) (tally : Tally) → IfSome store (λ files. CountsFile k loading (files name) (Ok tally))
    → (text : List ℕ) × IsGood store name (first_bad_of_text k) text × IfSome store (λ files. Tells loading (lines_of text) tally)
counted-text None name k loading tally is = ([], tt, tt)
counted-text (Some files) name k loading tally is = (is.text, (is.there, is.good), is.tells)

-- A branch text that was opened is counted, or ends the command.
pub text-counted : (store : Option Store) (name : List ℕ) (left : Option (List ℕ)) (k : ℕ) (by loading : Option LoadMap) (counts : Tally)
    → IfSome store (λ files. OpensFile (files name) k (Ok tt) left) → IfSome left (λ text. JudgesText by k text (Ok tt) counts) → by ≡ loading
    → IfSome store (λ files. CountsFile k loading (files name) (Ok counts))
text-counted None name left k by loading counts opens is same = tt
text-counted (Some files) name left k by loading counts opens is same =
    let judged : JudgesText loading k opens.0 (Ok tt) counts =
    subst (λ b. JudgesText b k opens.0 (Ok tt) counts) same (subst (λ l. IfSome l (λ text. JudgesText by k text (Ok tt) counts)) opens.2 is) in
    record { text = opens.0; there = opens.1; good = judged.0; tells = judged.1 }

pub text-stopped : (store : Option Store) (name : List ℕ) (left : Option (List ℕ)) (k : ℕ) (by loading : Option LoadMap) (h : Halt) (tally : Tally) (r : Result Tally Halt)
    → IfSome store (λ files. OpensFile (files name) k (Ok tt) left) → IfSome left (λ text. JudgesText by k text (Err h) tally) → IsErrAnd r (λ x. x ≡ h)
    → IfSome store (λ files. CountsFile k loading (files name) r)
text-stopped store name left k by loading h tally r opens is out =
    handed-on r h (λ x. IfSome store (λ files. CountsFile k loading (files name) x)) out (text-ends store name left k by h tally opens is)

-- The branch text is there and good, and the walk goes on with what was counted of it.
pub counted : {command : Command} {store store_now store_after : Option Store} {before : List (List ℕ)} {name : List ℕ} {rest : List Asked} {k : ℕ} {loading : Option LoadMap} {counts : Tally} {opens opens_now opens_after faults faults_now faults_after : ℕ}
    → Walk command store store_now before (record { source = named name; judge = λ files. first_bad_of_text k } ∷ rest) opens opens_now faults faults_now
    → TakesFile (CountsFile k loading) k name store_now (Ok counts) opens_now opens_after faults_now faults_after → store_after ≡ store_now
    → (text : List ℕ) × Walk command store store_after (before ++ text ∷ []) rest opens opens_after faults faults_after
    × IfSome store (λ files. Tells loading (lines_of text) counts)
counted {command} {store} {store_now} {store_after} {before} {name} {rest} {k} {loading} {counts} {opens} {opens_now} {opens_after} walk took stays =
    let text = counted-text store name k loading counts (said-behind (λ files. CountsFile k loading (files name) (Ok counts)) store store_now walk.stays took.file) in (
      text.0,
      record {
        reached = Reached-more command store before name (λ files. first_bad_of_text k) rest text.0 opens opens_now opens_after walk.reached text.1 took.opened;
        stays = stays ∙ walk.stays;
        unfailed = took.cause.0 ∙ walk.unfailed;
      },
      text.2,
    )
