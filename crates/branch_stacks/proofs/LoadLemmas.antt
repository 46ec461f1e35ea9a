-- That a line with branches tells of no load, and the branches that were moved so far.
use Rattle.std.proofs.Common.{◌≡◌, ℕ, ◌+◌, ◌<◌, ◌≤◌, nat_eq, Bool, true, false, List, [], ◌∷◌, ◌++◌, ◌||◌, length, map, get_or, take, drop, Option, None, Some, refl, sym, ap, subst, ◌∙◌, arith}
use Rattle.std.specs.Prelude.{codes, not, if◌then◌else◌}
use Rattle.std.specs.List.{filter_map, starts_with, zip}
use Rattle.std.proofs.lemmas.List.{length-map, map_push, take_more}
use Rattle.std.proofs.lemmas.Slice.Zip.{length-zip}
use Rattle.text_model.proofs.LineTestLemmas.{contains-parts, parts-contains}
use Rattle.text_model.specs.Fields.{fields_of}
use Rattle.text_model.specs.LineTests.{contains, is_blank_line, is_comment}
use Rattle.sample_model.specs.Line.{branches_of_line, entry_fields, entry_of, is_other_record, is_sample}
use Rattle.sample_model.specs.Loads.{LoadLine, behind_first, behind_where, load_line_of, loads_of}
use Rattle.sample_model.specs.Moves.{MovedBranch, counted_branch, moved_range_between, moved_ranges, or_0, range_from}
use Rattle.branch_stacks.specs.Loads.{range_behind}

-- ---- a line with branches is no load line

found_front : (test : List ℕ → Bool) (bytes text rest : List ℕ) → behind_where test bytes text ≡ Some rest → contains text bytes ≡ true
found_front test bytes [] rest is = absurd (cc)
found_front test bytes (b ∷ text) rest is =
    elim (starts_with nat_eq (b ∷ text) bytes) as (λ v. starts_with nat_eq (b ∷ text) bytes ≡ v → contains (b ∷ text) bytes ≡ true) [
      | true ↦ λ starts. rw starts refl
      | false ↦ λ starts.
          let later : behind_where test bytes text ≡ Some rest = rw starts at is in
          rw (starts, found_front test bytes text rest later) refl
    ] refl

marked : (line : List ℕ) → contains line (codes "PERF_RECORD_MMAP2 ") ≡ true → is_other_record line ≡ true
marked line is =
    let parts = parts-contains line (codes "PERF_RECORD_MMAP2 ") is in
    subst (λ (t : List ℕ). is_other_record t ≡ true) (sym parts.2) (contains-parts parts.0 (codes "PERF_RECORD_") (codes "MMAP2 " ++ parts.1))

-- where a line has no mark it is no load line
unmarked : (line : List ℕ) → behind_first (codes "PERF_RECORD_MMAP2 ") line ≡ None → load_line_of line ≡ None
unfolding load_line_of
unmarked line none = rw none (either (is_comment line))
  where
    either : (b : Bool) → ◌≡◌ {A = Option LoadLine} (if b then None else None) None
    either true = refl
    either false = refl

a_sample : (line : List ℕ) → 0 < length (branches_of_line line) → is_sample line ≡ true
unfolding branches_of_line
a_sample line some = elim (is_sample line) as (λ v. 0 < length (if v then filter_map entry_of (entry_fields (fields_of line)) else []) → v ≡ true) [ true ↦ λ _. refl | false ↦ λ none. absurd (omega (arith, none)) ] some

not_other : (line : List ℕ) → is_sample line ≡ true → is_other_record line ≡ false
unfolding is_sample
not_other line sample = third (is_blank_line line) (is_comment line) (is_other_record line) sample
  where
    third : (a b c : Bool) → not (a || (b || c)) ≡ true → c ≡ false
    third true b c is = absurd (cc)
    third false true c is = absurd (cc)
    third false false true is = absurd (cc)
    third false false false is = refl

pub no_loads : (name line : List ℕ) → 0 < length (branches_of_line line) → loads_of name (line ∷ []) ≡ []
no_loads name line some =
    let record_no : is_other_record line ≡ false = not_other line (a_sample line some) in
    let none : behind_first (codes "PERF_RECORD_MMAP2 ") line ≡ None = without (behind_first (codes "PERF_RECORD_MMAP2 ") line) refl record_no in
    rw (unmarked line none) refl
  where
    without : (found : Option (List ℕ)) → behind_first (codes "PERF_RECORD_MMAP2 ") line ≡ found → is_other_record line ≡ false → found ≡ None
    without None is other = refl
    without (Some rest) is other =
        let yes_mark : is_other_record line ≡ true = marked line (found_front (λ _. true) (codes "PERF_RECORD_MMAP2 ") line rest is) in absurd (cc)

-- ---- moved branches

-- The list is empty, or its last branch has this source.
abbrev pub EndsIn : List MovedBranch → Option (Option ℕ) → Type 0
EndsIn moved None = moved ≡ []
EndsIn moved (Some source) = (front : List MovedBranch) × (last : MovedBranch) × (moved ≡ front ++ last ∷ []) × (last.0 ≡ source)

moved_ranges-push : (front : List MovedBranch) (last next : MovedBranch)
    → moved_ranges ((front ++ last ∷ []) ++ next ∷ []) ≡ moved_ranges (front ++ last ∷ []) ++ range_from next.1 last.0 ∷ []
unfolding moved_ranges
moved_ranges-push [] last next = refl
moved_ranges-push (x ∷ []) last next = refl
moved_ranges-push (x ∷ y ∷ more) last next = ap (λ (ps : List (ℕ × ℕ)). moved_range_between (x, y) ∷ ps) (moved_ranges-push (y ∷ more) last next)

ranges-next : (moved : List MovedBranch) (newer : Option (Option ℕ)) (next : MovedBranch) → EndsIn moved newer → moved_ranges (moved ++ next ∷ []) ≡ moved_ranges moved ++ range_behind newer next.1
unfolding moved_ranges
ranges-next moved None next ends = rw ends refl
ranges-next moved (Some source) next ends =
    rw ends.2 (moved_ranges-push ends.0 ends.1 next ∙ ap (λ (s : Option ℕ). moved_ranges (ends.0 ++ ends.1 ∷ []) ++ range_from next.1 s ∷ []) ends.3)

-- These branches were moved so far, newest first, and these are the ranges between them.
pub record MovedSoFar (move : ℕ × ℕ → MovedBranch) (done branches ranges : List (ℕ × ℕ)) (newer : Option (Option ℕ)) : Type 0 where
  pub branches_are : branches ≡ map counted_branch (map move done)
  pub ranges_are : ranges ≡ moved_ranges (map move done)
  pub ends : EndsIn (map move done) newer

pub MovedSoFar-none : (move : ℕ × ℕ → MovedBranch) (branches ranges : List (ℕ × ℕ)) → branches ≡ [] → ranges ≡ [] → MovedSoFar move [] branches ranges None
unfolding moved_ranges
MovedSoFar-none move branches ranges none no_range = record { branches_are = none; ranges_are = no_range; ends = refl }

pub MovedSoFar-more : (move : ℕ × ℕ → MovedBranch) (done branches ranges new_branches new_ranges : List (ℕ × ℕ)) (newer : Option (Option ℕ)) (entry : ℕ × ℕ) → MovedSoFar move done branches ranges newer
    → new_branches ≡ branches ++ counted_branch (move entry) ∷ [] → new_ranges ≡ ranges ++ range_behind newer (move entry).1
    → MovedSoFar move (done ++ entry ∷ []) new_branches new_ranges (Some (move entry).0)
MovedSoFar-more move done branches ranges new_branches new_ranges newer entry so_far pushed ran =
    let moved : map move (done ++ entry ∷ []) ≡ map move done ++ move entry ∷ [] = map_push move done entry in
    record {
      branches_are = pushed ∙ ap (λ (bs : List (ℕ × ℕ)). bs ++ counted_branch (move entry) ∷ []) so_far.branches_are
          ∙ sym (ap (map counted_branch) moved ∙ map_push counted_branch (map move done) (move entry));
      ranges_are = ran ∙ ap (λ (rs : List (ℕ × ℕ)). rs ++ range_behind newer (move entry).1) so_far.ranges_are
          ∙ sym (ap moved_ranges moved ∙ ranges-next (map move done) newer (move entry) so_far.ends);
      ends = (map move done, move entry, moved, refl);
    }

-- one turn of the loop that moves them
pub MovedSoFar-turn : (move : ℕ × ℕ → MovedBranch) (all : List (ℕ × ℕ)) (i : ℕ) (branches ranges new_branches new_ranges : List (ℕ × ℕ)) (newer : Option (Option ℕ)) (source target : Option ℕ) → i < length all
    → MovedSoFar move (take i all) branches ranges newer → source ≡ (move (get_or all i (0, 0))).0 → target ≡ (move (get_or all i (0, 0))).1
    → new_branches ≡ branches ++ (or_0 source, or_0 target) ∷ [] → new_ranges ≡ ranges ++ range_behind newer target → MovedSoFar move (take (i + 1) all) new_branches new_ranges (Some source)
MovedSoFar-turn move all i branches ranges new_branches new_ranges newer source target below so_far from to pushed ran =
    let entry : ℕ × ℕ = get_or all i (0, 0) in
    let branch : (or_0 source, or_0 target) ≡ counted_branch (move entry) =
    ap (λ (s : Option ℕ). (or_0 s, or_0 target)) from ∙ ap (λ (t : Option ℕ). (or_0 (move entry).0, or_0 t)) to in
    let turned : MovedSoFar move (take i all ++ entry ∷ []) new_branches new_ranges (Some (move entry).0) =
    MovedSoFar-more move (take i all) branches ranges new_branches new_ranges newer entry so_far (pushed ∙ ap (λ (p : ℕ × ℕ). branches ++ p ∷ []) branch)
    (ran ∙ ap (λ (t : Option ℕ). ranges ++ range_behind newer t) to) in
    subst (λ (done : List (ℕ × ℕ)). MovedSoFar move done new_branches new_ranges (Some source)) (sym (take_more all i (0, 0) below))
    (subst (λ (s : Option ℕ). MovedSoFar move (take i all ++ entry ∷ []) new_branches new_ranges (Some s)) (sym from) turned)

pub length-range_behind : (newer : Option (Option ℕ)) (target : Option ℕ) → length (range_behind newer target) ≤ 1
length-range_behind None target = omega arith
length-range_behind (Some source) target = omega arith

-- a sample has fewer ranges than branches
pub length-moved_ranges : (moved : List MovedBranch) → length (moved_ranges moved) ≤ length (map counted_branch moved)
unfolding moved_ranges
length-moved_ranges moved =
    omega (arith, length-map (zip moved (drop 1 moved)) moved_range_between, length-zip moved (drop 1 moved), length-map moved counted_branch)
