-- From the clauses of `run` to plain words: over values, not over a call.
use Rattle.std.proofs.Common.{◌≡◌, ◌⊎◌, ◌<◌, ◌≤◌, ℕ, zero, suc, true, false, List, [], ◌∷◌, ◌++◌, Option, None, Some, take, drop, inl, inr, refl, sym, ap, subst, ◌∙◌, arith}
use Rattle.std.specs.Prelude.{IfSome, IsSomeAnd}
use Rattle.std.specs.Io.KnownBytes.{Appends}
use Rattle.std.proofs.lemmas.List.{take-append-drop}
use Rattle.refusal.specs.declared.place.Place.{Place}
use Rattle.sample_model.specs.Judging.{first_bad_of_text}
use Rattle.sample_model.specs.Samples.{branches_of}
use Rattle.io_edge.specs.Faults.{Rises}
use Rattle.io_edge.specs.Inputs.{Store}
use Rattle.io_edge.specs.MemorySink.{SinkInMemory}
use Rattle.io_edge.specs.MemoryInputs.{InputsInMemory, stored}
use Rattle.io_edge.specs.Sink.{AppendsPrefix}
use Rattle.command_model.specs.Answer.{Answer, answer_of, answer_of_good, answer_of_words, in_file, no_such_file, refused, unless_bad, with_file, writes}
use Rattle.command_model.specs.Command.{Command, check, command_of, counts}
use Rattle.command_model.specs.Counts.{counts_text}
use Rattle.command_model.specs.Files.{Asked, IsOutput, Source, named, made}
use Rattle.command_model.specs.Good.{AreGoodBefore}
use Rattle.program_edge.specs.Opens.{AgreesWithOpens, Reaches, ReachesNamed, ReachesSome, is_named}
use Rattle.program_edge.specs.Run.{HasWritten, IsCutShort}
use Rattle.program_edge.specs.declared.status.Status.{Status}
use Rattle.program_edge.specs.declared.status.Status.TheVariants.{Done, CheckFailed, Usage, NoSuchFile, Refused, ReadFault, WriteFault, NoMemory}
use Rattle.clause_uses.specs.Run.{FitsOpensOfTwo, GetsFirstPart, IsEither, IsGoodBlockFile, IsLastOpened, NamesFile}

-- ---- counts of failed calls

-- A count that is 0 did not rise.
pub not-risen : {before after : ℕ} → after ≡ 0 → Rises before after → ⊥
not-risen none rises = grind (arith, rises.rose)

-- A count that rose is not 0.
pub risen : {before after : ℕ} → Rises before after → 0 < after
risen rises = grind (arith, rises.rose)

-- ---- no call failed

-- A run without a failed call is cut short by `NoMemory` only.
no-memory : (status : Status) → IsCutShort status → ((k : ℕ) → status ≡ ReadFault k → ⊥) → (status ≡ WriteFault → ⊥) → status ≡ NoMemory
no-memory Done cut read written = absurd cut
no-memory (CheckFailed line) cut read written = absurd cut
no-memory Usage cut read written = absurd cut
no-memory (NoSuchFile k) cut read written = absurd cut
no-memory (Refused place) cut read written = absurd cut
no-memory (ReadFault k) cut read written = absurd (read k refl)
no-memory WriteFault cut read written = absurd (written refl)
no-memory NoMemory cut read written = refl

pub either : {status due : Status} → (status ≡ due) ⊎ IsCutShort status → ((k : ℕ) → status ≡ ReadFault k → ⊥) → (status ≡ WriteFault → ⊥) → IsEither status due NoMemory
either {status} comes read written = elim comes [ inl same ↦ inl same | inr cut ↦ inr (no-memory status cut read written) ]

-- ---- a value that may be missing

pub if-at : {A : Type 0} (P : A → Type 0) {found : Option A} {x : A} → found ≡ Some x → IfSome found P → P x
if-at P is holds = subst (λ o. IfSome o P) is holds

pub and-at : {A : Type 0} (P : A → Type 0) {found : Option A} {x : A} → found ≡ Some x → IsSomeAnd found P → P x
and-at P is holds = subst (λ o. IsSomeAnd o P) is holds

pub and-wider : {A : Type 0} (P Q : A → Type 0) (found : Option A) → ((x : A) → P x → Q x) → IsSomeAnd found P → IsSomeAnd found Q
and-wider P Q None wider holds = absurd holds
and-wider P Q (Some x) wider holds = wider x holds

-- ---- files that are opened

-- A file that is not made by the program has a name.
name-of : (source : Source) → is_named source ≡ true → (name : List ℕ) × (source ≡ named name)
name-of (named name) is = (name, refl)
name-of (made bytes) is = let false_is : false ≡ true = is in absurd cc

named-file : (found : Option Asked) → IsSomeAnd found (λ file. is_named file.source ≡ true) → (name : List ℕ) × IsSomeAnd found (λ file. file.source ≡ named name)
named-file None is = absurd is
named-file (Some file) is = name-of file.source is

pub names-file : (k opens after : ℕ) (command : Command) → ReachesNamed command k opens after → NamesFile command k
names-file k opens after command reaches =
    let file = named-file _ reaches.is_named in
    record { name = file.0; counted = reaches.reached.first; named_so = file.1 }

last-opened : (blocks repairs : List ℕ) (k after : ℕ) → Reaches (check blocks repairs) k 0 after → IsLastOpened k after
last-opened blocks repairs zero after reaches = absurd (omega (arith, reaches.first))
last-opened blocks repairs (suc zero) after reaches = (reaches.opened, inl refl)
last-opened blocks repairs (suc (suc zero)) after reaches = (reaches.opened, inr refl)
last-opened blocks repairs (suc (suc (suc k))) after reaches = absurd (omega (arith, reaches.last))

some-opened : (blocks repairs : List ℕ) (after : ℕ) → ReachesSome (check blocks repairs) 0 after → after ≤ 2
some-opened blocks repairs after (zero, within, opened) = omega (arith, opened)
some-opened blocks repairs after (suc zero, within, opened) = omega (arith, opened)
some-opened blocks repairs after (suc (suc zero), within, opened) = omega (arith, opened)
some-opened blocks repairs after (suc (suc (suc k)), within, opened) = absurd (omega (arith, within))

opens-of-two : (blocks repairs : List ℕ) (status : Status) (after : ℕ) → AgreesWithOpens (check blocks repairs) status 0 after → FitsOpensOfTwo status after
opens-of-two blocks repairs Done after agrees = agrees
opens-of-two blocks repairs (CheckFailed line) after agrees = agrees
opens-of-two blocks repairs Usage after agrees = agrees
opens-of-two blocks repairs (NoSuchFile k) after agrees = last-opened blocks repairs k after agrees.reached
opens-of-two blocks repairs (Refused place) after agrees = last-opened blocks repairs place.file after agrees
opens-of-two blocks repairs (ReadFault k) after agrees = last-opened blocks repairs k after agrees.reached
opens-of-two blocks repairs WriteFault after agrees = agrees
opens-of-two blocks repairs NoMemory after agrees = some-opened blocks repairs after agrees

pub two-opened : (blocks repairs : List ℕ) (status : Status) (opens after : ℕ) → opens ≡ 0 → AgreesWithOpens (check blocks repairs) status opens after → FitsOpensOfTwo status after
two-opened blocks repairs status opens after none agrees =
    opens-of-two blocks repairs status after (subst (λ n. AgreesWithOpens (check blocks repairs) status n after) none agrees)

pub good-first : (inputs : InputsInMemory) (blocks repairs : List ℕ) → AreGoodBefore (stored inputs.files) (check blocks repairs) 2 → IsGoodBlockFile inputs blocks
good-first inputs blocks repairs (bytes, there, good, rest) = record { bytes = bytes; there = there; good = good }

-- ---- what is written

pub first-part : (answer : Answer) (command : Command) (contents : List (List ℕ)) (old new : SinkInMemory) → answer ≡ writes command contents
    → HasWritten answer (AppendsPrefix (Some old.written) (Some new.written)) → GetsFirstPart old new command contents
first-part answer command contents old new due (its, bytes, text, is, output, (n, grows)) =
    let same : its ≡ command = cc in
    let alike : bytes ≡ contents = cc in
    let output_here : IsOutput command contents text =
    subst (λ b. IsOutput command b text) alike (subst (λ a. IsOutput a bytes text) same output) in
    record {
      part = take n text;
      rest = drop n text;
      is_output = subst (λ t. IsOutput command contents t) (sym (take-append-drop n text)) output_here;
      grows = grows;
    }

-- ---- one file that is counted

judged : (files : Store) (words : List (List ℕ)) (name bytes : List ℕ) → command_of words ≡ Some (counts name) → files name ≡ Some bytes
    → answer_of files words ≡ unless_bad 1 (first_bad_of_text 1 bytes) (writes (counts name) (bytes ∷ []))
judged files words name bytes is there =
    ap (answer_of_words files) is ∙ ap (λ file. with_file 1 file (first_bad_of_text 1) (λ b. answer_of_good (counts name) (b ∷ []))) there

pub counts-missing : (files : Store) (words : List (List ℕ)) (name : List ℕ) → command_of words ≡ Some (counts name) → files name ≡ None → answer_of files words ≡ no_such_file 1
counts-missing files words name is missing =
    ap (answer_of_words files) is ∙ ap (λ file. with_file 1 file (first_bad_of_text 1) (λ bytes. answer_of_good (counts name) (bytes ∷ []))) missing

pub counts-bad : (files : Store) (words : List (List ℕ)) (name bytes : List ℕ) (place : Place) → command_of words ≡ Some (counts name) → files name ≡ Some bytes
    → first_bad_of_text 1 bytes ≡ Some place → answer_of files words ≡ refused (in_file 1 place)
counts-bad files words name bytes place is there bad =
    judged files words name bytes is there ∙ ap (λ found. unless_bad 1 found (writes (counts name) (bytes ∷ []))) bad

pub counts-good : (files : Store) (words : List (List ℕ)) (name bytes : List ℕ) → command_of words ≡ Some (counts name) → files name ≡ Some bytes
    → first_bad_of_text 1 bytes ≡ None → answer_of files words ≡ writes (counts name) (bytes ∷ [])
counts-good files words name bytes is there good =
    judged files words name bytes is there ∙ ap (λ found. unless_bad 1 found (writes (counts name) (bytes ∷ []))) good

pub counts-written : (answer : Answer) (name bytes : List ℕ) (old new : List ℕ) → answer ≡ writes (counts name) (bytes ∷ [])
    → HasWritten answer (Appends (Some old) (Some new)) → new ≡ old ++ counts_text (branches_of bytes)
counts-written answer name bytes old new due (its, contents, text, is, output, grows) =
    let same : its ≡ counts name = cc in
    let alike : contents ≡ bytes ∷ [] = cc in
    let output_here : IsOutput (counts name) (bytes ∷ []) text =
    subst (λ b. IsOutput (counts name) b text) alike (subst (λ a. IsOutput a contents text) same output) in
    grows ∙ ap (λ t. old ++ t) output_here

-- ---- what stays

pub same-file : {before after : Store} → Some after ≡ Some before → (name : List ℕ) → after name ≡ before name
same-file {before} {after} stays name = let same : after ≡ before = cc in ap (λ (files : Store). files name) same
