-- The laws of the definitions.
use Rattle.std.proofs.Common.{◌≡◌, ℕ, ◌+◌, ◌≤◌, Bool, true, false, ◌&&◌, ltb, List, [], ◌∷◌, ◌++◌, length, Option, None, Some, Decides, refl, subst, arith, cond, inl, inr}
use Rattle.std.specs.Prelude.{◌⊎◌, find}
use Rattle.std.specs.List.{Any, list_any, flat_map}
use Rattle.std.proofs.lemmas.Bool.Decides.{nat_tests, Decides-and, Decides-ltb}
use Rattle.std.proofs.lemmas.Grind.{and_numeral}
use Rattle.std.proofs.lemmas.List.Folds.{Any-from_list_any, list_any-from_Any}
use Rattle.refusal.specs.declared.place.Place.{Place}
use Rattle.refusal.specs.Place.{first_bad}
use Rattle.refusal.proofs.PlaceLemmas.{first_bad-none}
use Rattle.elf_model.specs.Tables.{SectionHeader, ProgramHeader, program_headers}
use Rattle.elf_model.specs.Sections.{start, file_size, section, sections, is_named}
use Rattle.elf_model.specs.Segments.{is_live, is_code, holds}
use Rattle.elf_model.specs.Items.{items, items_of, header_items, section_items, extent_item}
use Rattle.elf_model.specs.Laws.{HoldsCode, LiveRangesAreCode, SectionsAreWithin}

-- ---- live ranges

code_to : (lo hi : ℕ) (s : ProgramHeader) → (is_code s && holds lo hi s) ≡ true → HoldsCode lo hi s
code_to lo hi s h = let e = and_numeral s.p_flags 0 refl in grind (arith, nat_tests)

code_from : (lo hi : ℕ) (s : ProgramHeader) → HoldsCode lo hi s → (is_code s && holds lo hi s) ≡ true
code_from lo hi s h = let e = and_numeral s.p_flags 0 refl in grind (arith, nat_tests)

code_is : (lo hi : ℕ) (segments : List ProgramHeader) → Decides (list_any (λ s. is_code s && holds lo hi s) segments) (Any (HoldsCode lo hi) segments)
code_is lo hi segments = (
  λ e. let a = Any-from_list_any (λ s. is_code s && holds lo hi s) segments e in (a.0, a.1, a.2, a.3, code_to lo hi a.1 a.4),
  λ a. list_any-from_Any (λ s. is_code s && holds lo hi s) segments (a.0, a.1, a.2, a.3, code_from lo hi a.1 a.4),
)

pub live_ranges_are_code : LiveRangesAreCode
unfolding is_live
live_ranges_are_code file lo hi =
    let range = Decides-and (ltb 0 lo) (ltb lo hi) (Decides-ltb 0 lo) (Decides-ltb lo hi) in
    let all = Decides-and (ltb 0 lo && ltb lo hi) _ range (code_is lo hi (program_headers file)) in
    (λ e. let h = all.0 e in (h.0.0, h.0.1, h.1), λ h. all.1 ((h.0, h.1), h.2))

-- ---- sections within the file

first_bad-append_none : (xs ys : List (Option Place)) → first_bad (xs ++ ys) ≡ None → first_bad ys ≡ None
first_bad-append_none [] ys h = h
first_bad-append_none (x ∷ xs) ys h = first_bad-append_none xs ys (first_bad-none x (xs ++ ys) h).1

found : (b : Bool) (x header : SectionHeader) (later : Option SectionHeader) → cond b (Some x) later ≡ Some header → (x ≡ header) ⊎ (later ≡ Some header)
found true x header later h = inl cc
found false x header later h = inr h

good_extent : (file : List ℕ) (test : SectionHeader → Bool) (headers : List SectionHeader) (header : SectionHeader)
    → first_bad (flat_map (items_of file) headers) ≡ None → find test headers ≡ Some header → extent_item file header ≡ None
good_extent file test [] header good h = absurd cc
good_extent file test (x ∷ xs) header good h =
    let here = first_bad-none (extent_item file x) _ good in
    let later = first_bad-none _ (flat_map (items_of file) xs) here.1 in
    elim (found (test x) x header (find test xs) h) [
      | inl same ↦ subst (λ (y : SectionHeader). extent_item file y ≡ None) same here.0
      | inr rest ↦ good_extent file test xs header later.1 rest
    ]

within : (file : List ℕ) (header : SectionHeader) → extent_item file header ≡ None → start file header + file_size header ≤ length file
within file header h = grind (arith, nat_tests)

pub sections_are_within : SectionsAreWithin
unfolding items section
sections_are_within file name header good h =
    let behind = first_bad-append_none (header_items file) (section_items file) good in
    let each = first_bad-none _ (flat_map (items_of file) (sections file)) behind in
    within file header (good_extent file (is_named file name) (sections file) header each.1 h)
