-- A file within a size: its judge goes by the size first. One that was not read, or is too large, ends the command as its judge says.
use Rattle.std.proofs.Common.{◌≡◌, ◌≤◌, ℕ, Bool, false, nat_lt, List, [], ◌∷◌, length, Option, None, Some, Result, refl, sym, ap, subst, ◌∙◌, arith}
use Rattle.std.specs.Prelude.{IfSome}
use Rattle.std.proofs.lemmas.Bool.Decides.{nat_tests}
use Rattle.refusal.specs.declared.kind.Kind.TheVariants.{FileTooLarge}
use Rattle.refusal.specs.declared.place.Place.{Place}
use Rattle.refusal.specs.declared.place.Stop.{Stop}
use Rattle.refusal.specs.Place.{JudgesUnlessNoMemory, fails_at, first_bad, size_item}
use Rattle.binary_model.specs.Binary.{first_bad_of_binary, items_behind_size, max_binary_bytes}
use Rattle.block_model.specs.Function.{Function}
use Rattle.block_model.specs.Judging.{first_bad_of_text}
use Rattle.profile_model.specs.Judging.{first_bad_of_profile}
use Rattle.profile_model.specs.Merge.{first_bad_of_summed}
use Rattle.profile_model.specs.Profile.{Profile}
use Rattle.repair_model.specs.Judging.{first_bad_of_repairs}
use Rattle.command_model.specs.Files.{first_bad_of_blocks, first_bad_of_built, first_bad_of_part, first_bad_of_profile_text, first_bad_of_repair_text, max_block_bytes, max_profile_bytes, max_repair_bytes}
use Rattle.command_model.specs.Answer.{Answer, fails_check, unless_bad, usage}
use Rattle.program_edge.specs.Output.{EndsAt}

-- A file of more bytes than this is refused for its size; another is judged by what stands in it.
pub record Sized (k limit : ℕ) (judge inner : List ℕ → Option Place) : Type 0 where
  pub too_large : (bytes : List ℕ) (place : Place) → size_item k limit bytes ≡ Some place → judge bytes ≡ Some place
  pub by_content : (bytes : List ℕ) → length bytes ≤ limit → judge bytes ≡ inner bytes

pub judged-sized : {T : Type 0} {k limit : ℕ} {judge inner : List ℕ → Option Place} (r : Result T Stop) (P : T → Type 0) → Sized k limit judge inner → (bytes : List ℕ) → length bytes ≤ limit
    → JudgesUnlessNoMemory (inner bytes) r P → JudgesUnlessNoMemory (judge bytes) r P
judged-sized r P sized bytes within judges = subst (λ bad. JudgesUnlessNoMemory bad r P) (sym (sized.by_content bytes within)) judges

-- What is not too large, and an item by itself.
not_above : (n most : ℕ) → n ≤ most → nat_lt most n ≡ false
not_above n most within = grind (arith, nat_tests)

pub alone : (item : Option Place) → first_bad (item ∷ []) ≡ item
alone None = refl
alone (Some place) = refl

-- a judge of the size and of further items
by-items : (k limit : ℕ) (judge : List ℕ → Option Place) (items : List ℕ → List (Option Place)) → ((bytes : List ℕ) → judge bytes ≡ first_bad (size_item k limit bytes ∷ items bytes))
    → Sized k limit judge (λ bytes. first_bad (items bytes))
by-items k limit judge items is = record {
  too_large = λ bytes place large. is bytes ∙ ap (λ item. first_bad (item ∷ items bytes)) large;
  by_content = λ bytes within. is bytes ∙ ap (λ (t : Bool). first_bad (fails_at t (record { file = k; at = limit; kind = FileTooLarge }) ∷ items bytes)) (not_above (length bytes) limit within);
}

-- and of one
by-item : (k limit : ℕ) (judge item : List ℕ → Option Place) → ((bytes : List ℕ) → judge bytes ≡ first_bad (size_item k limit bytes ∷ item bytes ∷ [])) → Sized k limit judge item
by-item k limit judge item is =
    let sized = by-items k limit judge (λ bytes. item bytes ∷ []) is in
    record { too_large = sized.too_large; by_content = λ bytes within. sized.by_content bytes within ∙ alone (item bytes) }

-- ---- the judges of commands

pub sized-binary : Sized 1 max_binary_bytes first_bad_of_binary first_bad_of_binary
unfolding first_bad_of_binary
sized-binary = record {
  too_large = λ bytes place large. ap (λ item. first_bad (item ∷ items_behind_size bytes)) large;
  by_content = λ bytes within. refl;
}

pub sized-blocks : (file : ℕ) → Sized file max_block_bytes (first_bad_of_blocks file) (first_bad_of_text file)
unfolding first_bad_of_blocks
sized-blocks file = by-item file max_block_bytes (first_bad_of_blocks file) (first_bad_of_text file) (λ bytes. refl)

pub sized-repairs : (file : ℕ) (funs : List Function) → Sized file max_repair_bytes (first_bad_of_repair_text file funs) (first_bad_of_repairs file funs)
unfolding first_bad_of_repair_text
sized-repairs file funs = by-item file max_repair_bytes (first_bad_of_repair_text file funs) (first_bad_of_repairs file funs) (λ bytes. refl)

pub sized-built : (file : ℕ) (funs : List Function) → Sized file max_repair_bytes (first_bad_of_built file funs) (λ bytes. first_bad (first_bad_of_profile file bytes ∷ first_bad_of_repairs file funs bytes ∷ []))
unfolding first_bad_of_built
sized-built file funs = by-items file max_repair_bytes (first_bad_of_built file funs) (λ bytes. first_bad_of_profile file bytes ∷ first_bad_of_repairs file funs bytes ∷ []) (λ bytes. refl)

pub sized-profile : (file : ℕ) → Sized file max_profile_bytes (first_bad_of_profile_text file) (first_bad_of_profile file)
unfolding first_bad_of_profile_text
sized-profile file = by-item file max_profile_bytes (first_bad_of_profile_text file) (first_bad_of_profile file) (λ bytes. refl)

pub sized-part : (file weight : ℕ) (before : Profile) → Sized file max_profile_bytes (first_bad_of_part file weight before) (first_bad_of_summed file weight before)
unfolding first_bad_of_part
sized-part file weight before = by-item file max_profile_bytes (first_bad_of_part file weight before) (first_bad_of_summed file weight before) (λ bytes. refl)

-- ---- an answer that does not hang on what comes behind the file

-- by a judge whose bad places are those of another
ends-wider : (k : ℕ) (file : Option (List ℕ)) (judge wider : List ℕ → Option Place) (a : Answer)
    → ((bytes : List ℕ) (place : Place) → judge bytes ≡ Some place → wider bytes ≡ Some place) → EndsAt k file judge a → EndsAt k file wider a
ends-wider k None judge wider a more ends = λ next. ends next
ends-wider k (Some bytes) judge wider a more ends = by (judge bytes) refl
  where
    leads : (next : List ℕ → Answer) → judge bytes ≡ None → next bytes ≡ a
    leads next good = ap (λ b. unless_bad k b (next bytes)) (sym good) ∙ ends next

    by : (bad : Option Place) → judge bytes ≡ bad → EndsAt k (Some bytes) wider a
    by None good = let one : usage ≡ fails_check 0 = leads (λ b. usage) good ∙ sym (leads (λ b. fails_check 0) good) in absurd cc
    by (Some place) bad = λ next. ap (λ b. unless_bad k b (next bytes)) (more bytes place bad) ∙ sym (ap (λ b. unless_bad k b (next bytes)) bad) ∙ ends next

pub answers-wider : (told : Option Answer) (k : ℕ) (file : Option (List ℕ)) (judge wider : List ℕ → Option Place)
    → ((bytes : List ℕ) (place : Place) → judge bytes ≡ Some place → wider bytes ≡ Some place) → IfSome told (EndsAt k file judge) → IfSome told (EndsAt k file wider)
answers-wider None k file judge wider more ends = tt
answers-wider (Some a) k file judge wider more ends = ends-wider k file judge wider a more ends
