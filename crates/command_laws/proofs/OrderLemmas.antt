-- What `merge` answers to the same files in another order.
use Rattle.std.proofs.Common.{◌≡◌, ℕ, ◌+◌, true, false, List, [], ◌∷◌, ◌++◌, length, map, None, Some, refl, sym, ap, ◌∙◌, subst}
use Rattle.std.specs.Prelude.{nat_lt, unwrap_or}
use Rattle.std.specs.List.{All}
use Rattle.std.proofs.lemmas.List.{append-nil, append_assoc, length-map, map-append}
use Rattle.std.proofs.lemmas.List.Elements.{All-cons, All-head, All-nil, All-tail}
use Rattle.std.proofs.lemmas.List.Sorted.{All-permutation, IsPermutation-map}
use Rattle.refusal.specs.declared.kind.Kind.TheVariants.{FileTooLarge}
use Rattle.refusal.specs.Place.{fails_at, size_item}
use Rattle.io_edge.specs.Inputs.{Store}
use Rattle.profile_model.specs.Merge.{first_bad_of_summed, merge_text, merged}
use Rattle.profile_model.specs.Profile.{Profile}
use Rattle.profile_laws.proofs.OnceLemmas.{numbers_stand_once}
use Rattle.merge_laws.specs.Orders.{AreGoodBehind}
use Rattle.merge_laws.proofs.GoodLemmas.{order_is_no_matter}
use Rattle.command_model.specs.Answer.{Answer, answer_behind, answer_of_good, unless_bad, with_file, writes}
use Rattle.command_model.specs.Command.{merge}
use Rattle.command_model.specs.Files.{asked_part, first_bad_of_part, max_profile_bytes, weighed_texts}
use Rattle.command_laws.specs.Orders.{MergesInAnyOrder}
use Rattle.command_laws.proofs.AnswerLemmas.{has_file, same_contents}
use Rattle.command_laws.proofs.CheckedLemmas.{both_none}

-- ---- files and texts

-- A file that is merged, by its weight and name; its bytes, and these with its weight.
abbrev Part : Type 0
Part = ℕ × List ℕ

abbrev bytes_in : Store → Part → List ℕ
bytes_in files part = unwrap_or (files part.1) []

abbrev text_in : Store → Part → ℕ × List ℕ
text_in files part = (part.0, bytes_in files part)

-- A file is there, and is no larger than a profile text can be.
record IsThere (files : Store) (part : Part) : Type 0 where
  there : files part.1 ≡ Some (bytes_in files part)
  small : size_item 1 max_profile_bytes (bytes_in files part) ≡ None

texts_before : (files : Store) (done rest : List Part) → weighed_texts (done ++ rest) (map (bytes_in files) done) ≡ map (text_in files) done
texts_before files [] [] = refl
texts_before files [] (part ∷ rest) = refl
texts_before files (part ∷ done) rest = ap (λ texts. text_in files part ∷ texts) (texts_before files done rest)

all_texts : (files : Store) (parts : List Part) → weighed_texts parts (map (bytes_in files) parts) ≡ map (text_in files) parts
all_texts files parts = ap (λ whole. weighed_texts whole (map (bytes_in files) parts)) (sym (append-nil parts)) ∙ texts_before files parts []

-- ---- how a file is judged

any_size : (file other : ℕ) (text : List ℕ) → size_item file max_profile_bytes text ≡ None → size_item other max_profile_bytes text ≡ None
any_size file other text good =
    elim (nat_lt max_profile_bytes (length text)) as
    (λ b. fails_at b (record { file = file; at = max_profile_bytes; kind = FileTooLarge }) ≡ None → fails_at b (record { file = other; at = max_profile_bytes; kind = FileTooLarge }) ≡ None) [
      | true ↦ λ is. absurd cc
      | false ↦ λ is. refl
    ] good

part_judged : (file weight : ℕ) (before : Profile) (text : List ℕ) → first_bad_of_part file weight before text ≡ None
    → (size_item file max_profile_bytes text ≡ None) × (first_bad_of_summed file weight before text ≡ None)
unfolding first_bad_of_part
part_judged file weight before text good = both_none (size_item file max_profile_bytes text) (first_bad_of_summed file weight before text) good

part_good : (file weight : ℕ) (before : Profile) (text : List ℕ) → size_item file max_profile_bytes text ≡ None → first_bad_of_summed file weight before text ≡ None
    → first_bad_of_part file weight before text ≡ None
unfolding first_bad_of_part
part_good file weight before text small good = rw (small, good) refl

-- A file is summed behind the texts before it.
summed_behind : (files : Store) (whole done : List Part) (part : Part) (rest : List Part) (text : List ℕ) → whole ≡ done ++ part ∷ rest
    → first_bad_of_summed (length (map (bytes_in files) done) + 1) part.0 (merged (weighed_texts whole (map (bytes_in files) done))) text
    ≡ first_bad_of_summed (length (map (text_in files) done) + 1) part.0 (merged (map (text_in files) done)) text
summed_behind files whole done part rest text is =
    ap (λ n. first_bad_of_summed (n + 1) part.0 (merged (weighed_texts whole (map (bytes_in files) done))) text) (length-map done (bytes_in files) ∙ sym (length-map done (text_in files)))
    ∙ ap (λ texts. first_bad_of_summed (length (map (text_in files) done) + 1) part.0 (merged texts) text)
    (ap (λ w. weighed_texts w (map (bytes_in files) done)) is ∙ texts_before files done (part ∷ rest))

-- ---- the answers

-- What was accepted of files behind others: each is there, and good behind those before it.
record WasRead (files : Store) (whole done rest : List Part) (contents : List (List ℕ)) : Type 0 where
  there : All (IsThere files) rest
  good : AreGoodBehind (map (text_in files) done) (map (text_in files) rest)
  are : contents ≡ map (bytes_in files) whole

abbrev answer_from : Store → List Part → List (List ℕ) → List Part → Answer
answer_from files whole before rest = answer_behind files (answer_of_good (merge whole)) before (map (asked_part whole) rest)

was_read : (files : Store) (whole done rest : List Part) (contents : List (List ℕ)) → whole ≡ done ++ rest
    → answer_from files whole (map (bytes_in files) done) rest ≡ writes (merge whole) contents → WasRead files whole done rest contents
was_read files whole done [] contents is answers = record {
  there = All-nil (IsThere files);
  good = tt;
  are = sym (same_contents (merge whole) (merge whole) contents (map (bytes_in files) done) answers) ∙ ap (map (bytes_in files)) (sym (is ∙ append-nil done));
}
was_read files whole done (part ∷ rest) contents is answers =
    let before = map (bytes_in files) done in
    let file = length before + 1 in
    let found = has_file file (files part.1) (first_bad_of_part file part.0 (merged (weighed_texts whole before)))
    (λ bytes. answer_from files whole (before ++ bytes ∷ []) rest) (merge whole) contents answers in
    let same : found.file ≡ bytes_in files part = sym (ap (λ bytes. unwrap_or bytes []) found.there) in
    let judged = part_judged file part.0 (merged (weighed_texts whole before)) (bytes_in files part)
    (subst (λ text. first_bad_of_part file part.0 (merged (weighed_texts whole before)) text ≡ None) same found.good) in
    let longer : before ++ found.file ∷ [] ≡ map (bytes_in files) (done ++ part ∷ []) =
    ap (λ bytes. before ++ bytes ∷ []) same ∙ sym (map-append (bytes_in files) done (part ∷ [])) in
    let behind = was_read files whole (done ++ part ∷ []) rest contents (is ∙ sym (append_assoc done (part ∷ []) rest))
    (subst (λ bytes. answer_from files whole bytes rest ≡ writes (merge whole) contents) longer found.then) in
    record {
      there = All-cons (IsThere files) part rest
          (record { there = found.there ∙ ap Some same; small = any_size file 1 (bytes_in files part) judged.0 }) behind.there;
      good = (
        sym (summed_behind files whole done part rest (bytes_in files part) is) ∙ judged.1,
        subst (λ texts. AreGoodBehind texts (map (text_in files) rest)) (map-append (text_in files) done (part ∷ [])) behind.good,
      );
      are = behind.are;
    }

accepts : (files : Store) (whole done rest : List Part) → whole ≡ done ++ rest → All (IsThere files) rest
    → AreGoodBehind (map (text_in files) done) (map (text_in files) rest)
    → answer_from files whole (map (bytes_in files) done) rest ≡ writes (merge whole) (map (bytes_in files) whole)
accepts files whole done [] is there good = ap (λ parts. writes (merge whole) (map (bytes_in files) parts)) (sym (is ∙ append-nil done))
accepts files whole done (part ∷ rest) is there good =
    let one = All-head (IsThere files) part rest there in
    let before = map (bytes_in files) done in
    let file = length before + 1 in
    let judge = first_bad_of_part file part.0 (merged (weighed_texts whole before)) in
    let fits : judge (bytes_in files part) ≡ None =
    part_good file part.0 (merged (weighed_texts whole before)) (bytes_in files part) (any_size 1 file (bytes_in files part) one.small)
    (summed_behind files whole done part rest (bytes_in files part) is ∙ good.0) in
    ap (λ bytes. with_file file bytes judge (λ bytes. answer_from files whole (before ++ bytes ∷ []) rest)) one.there
    ∙ ap (λ bad. unless_bad file bad (answer_from files whole (before ++ bytes_in files part ∷ []) rest)) fits
    ∙ ap (λ bytes. answer_from files whole bytes rest) (sym (map-append (bytes_in files) done (part ∷ [])))
    ∙ accepts files whole (done ++ part ∷ []) rest (is ∙ sym (append_assoc done (part ∷ []) rest)) (All-tail (IsThere files) part rest there)
    (subst (λ texts. AreGoodBehind texts (map (text_in files) rest)) (sym (map-append (text_in files) done (part ∷ []))) good.1)

pub merges_in_any_order : MergesInAnyOrder
merges_in_any_order files parts others contents moved answers =
    let read = was_read files parts [] parts contents refl answers in
    let law = order_is_no_matter numbers_stand_once (map (text_in files) parts) (map (text_in files) others) (IsPermutation-map (text_in files) parts others moved) read.good in (
      map (bytes_in files) others,
      accepts files others [] others refl (All-permutation (IsThere files) parts others moved read.there) law.0,
      λ text wrote. wrote ∙ ap (λ found. merge_text (weighed_texts parts found)) read.are ∙ ap merge_text (all_texts files parts) ∙ sym law.1
          ∙ ap merge_text (sym (all_texts files others)),
    )
