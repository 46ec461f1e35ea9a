-- What counted lines tell, and one line more.
use Rattle.std.proofs.Common.{◌≡◌, ℕ, ◌≤◌, Bool, true, false, List, [], ◌∷◌, ◌++◌, length, map, Option, None, Some, refl, sym, ap, subst, ◌∙◌, arith}
use Rattle.std.specs.List.{flat_map}
use Rattle.std.proofs.lemmas.Grind.{flat_map-append}
use Rattle.std.proofs.lemmas.List.{append-nil, append_assoc}
use Rattle.std.proofs.lemmas.List.Sums.{sum_by-cons}
use Rattle.sample_model.specs.declared.load.Load.{Load}
use Rattle.sample_model.specs.Line.{branches_of_line}
use Rattle.sample_model.specs.Loads.{load_of, loads_of}
use Rattle.sample_model.specs.Moves.{LoadMap, MovedBranch, branches_by, counted_branch, moved_line, moved_lines, moved_ranges, ranges_by}
use Rattle.sample_model.specs.Samples.{ranges_between, ranges_of_line, branches_of_lines, ranges_of_lines}
use Rattle.sample_model.specs.declared.pair.Pair.{Pair}
use Rattle.sample_model.proofs.MoveLemmas.{moved_branches}
use Rattle.branch_stacks.specs.Loads.{met_in, AddsLine}
use Rattle.branch_counts.specs.Table.{Tallies, IsTable, total_in}
use Rattle.branch_counts.specs.Tally.{Tally, counted, total_of, AddsStack, Tells, IsCounted}
use Rattle.branch_counts.proofs.TableLemmas.{Tallies-more}

of_lines-push : (f : List ℕ → List (ℕ × ℕ)) (lines : List (List ℕ)) (line : List ℕ) → flat_map f (lines ++ line ∷ []) ≡ flat_map f lines ++ f line
of_lines-push f lines line = flat_map-append f lines (line ∷ []) ∙ ap (λ (ps : List (ℕ × ℕ)). flat_map f lines ++ ps) (append-nil (f line))

-- the ranges of one line more, or none where ranges are left out
counted_ranges-push : (with_ranges : Bool) (lines : List (List ℕ)) (line : List ℕ)
    → ranges_of_lines (counted with_ranges (lines ++ line ∷ [])) ≡ ranges_of_lines (counted with_ranges lines) ++ ranges_between (counted with_ranges (branches_of_line line))
unfolding ranges_between
counted_ranges-push true lines line = of_lines-push ranges_of_line lines line
counted_ranges-push false lines line = refl

pub Tells_none-more : (lines : List (List ℕ)) (line : List ℕ) (old new : Tally) → Tells None lines old → AddsStack old new (branches_of_line line) → Tells None (lines ++ line ∷ []) new
Tells_none-more lines line old new tells adds = record {
  branches = subst (λ (ps : List (ℕ × ℕ)). Tallies ps new.branches) (sym (of_lines-push branches_of_line lines line))
      (Tallies-more (branches_of_lines lines) (branches_of_line line) old.branches new.branches tells.branches adds.branches);
  ranges = subst (λ (ps : List (ℕ × ℕ)). Tallies ps new.ranges)
      (sym (ap (λ (w : Bool). ranges_of_lines (counted w (lines ++ line ∷ []))) adds.with_ranges ∙ counted_ranges-push old.with_ranges lines line))
      (Tallies-more (ranges_of_lines (counted old.with_ranges lines)) (ranges_between (counted old.with_ranges (branches_of_line line))) old.ranges new.ranges tells.ranges adds.ranges);
}

-- ---- lines whose addresses are moved

loads_of-append : (name : List ℕ) (lines more : List (List ℕ)) → loads_of name (lines ++ more) ≡ loads_of name lines ++ loads_of name more
loads_of-append name [] more = refl
loads_of-append name (line ∷ lines) more = elim (load_of name line) as (λ o. first o (loads_of name (lines ++ more)) ≡ first o (loads_of name lines) ++ loads_of name more) [
  | None ↦ loads_of-append name lines more
  | Some load ↦ ap (λ (ls : List Load). load ∷ ls) (loads_of-append name lines more)
]
  where
    first : Option Load → List Load → List Load
    first None loads = loads
    first (Some load) loads = load ∷ loads

-- the loads of one line more
pub met_in-more : (loading : Option LoadMap) (lines : List (List ℕ)) (line : List ℕ) → met_in loading (lines ++ line ∷ []) ≡ met_in loading lines ++ met_in loading (line ∷ [])
met_in-more None lines line = refl
met_in-more (Some loading) lines line = loads_of-append loading.name lines (line ∷ [])

-- the moved branches of one line more
moved_lines-push : (loading : LoadMap) (before : List Load) (lines : List (List ℕ)) (line : List ℕ)
    → moved_lines loading before (lines ++ line ∷ []) ≡ moved_lines loading before lines ++ moved_line loading.segments (before ++ loads_of loading.name lines) line ∷ []
moved_lines-push loading before [] line = ap (λ (ls : List Load). moved_line loading.segments ls line ∷ []) (sym (append-nil before))
moved_lines-push loading before (first ∷ lines) line =
    ap (λ (ms : List (List MovedBranch)). moved_line loading.segments before first ∷ ms)
    (moved_lines-push loading (before ++ loads_of loading.name (first ∷ [])) lines line
    ∙ ap (λ (ls : List Load). moved_lines loading (before ++ loads_of loading.name (first ∷ [])) lines ++ moved_line loading.segments ls line ∷ [])
    (append_assoc before (loads_of loading.name (first ∷ [])) (loads_of loading.name lines) ∙ ap (λ (ls : List Load). before ++ ls) (sym (loads_of-append loading.name (first ∷ []) lines))))

moved-push : (f : List MovedBranch → List (ℕ × ℕ)) (loading : LoadMap) (lines : List (List ℕ)) (line : List ℕ)
    → flat_map f (moved_lines loading [] (lines ++ line ∷ [])) ≡ flat_map f (moved_lines loading [] lines) ++ f (moved_line loading.segments (loads_of loading.name lines) line)
moved-push f loading lines line =
    let last = moved_line loading.segments (loads_of loading.name lines) line in
    ap (flat_map f) (moved_lines-push loading [] lines line) ∙ flat_map-append f (moved_lines loading [] lines) (last ∷ [])
    ∙ ap (λ (ps : List (ℕ × ℕ)). flat_map f (moved_lines loading [] lines) ++ ps) (append-nil (f last))

-- the ranges of one line more, or none where ranges are left out
moved_ranges-push : (with_ranges : Bool) (loading : LoadMap) (lines : List (List ℕ)) (line : List ℕ)
    → ranges_by (Some loading) (counted with_ranges (lines ++ line ∷ []))
    ≡ ranges_by (Some loading) (counted with_ranges lines) ++ counted with_ranges (moved_ranges (moved_line loading.segments (loads_of loading.name lines) line))
moved_ranges-push true loading lines line = moved-push moved_ranges loading lines line
moved_ranges-push false loading lines line = refl

-- What is counted of lines, and one line more.
pub Tells-more : (loading : Option LoadMap) (lines : List (List ℕ)) (line : List ℕ) (old new : Tally) → Tells loading lines old → AddsLine loading (met_in loading lines) old new line
    → Tells loading (lines ++ line ∷ []) new
Tells-more None lines line old new tells adds = Tells_none-more lines line old new tells adds
Tells-more (Some loading) lines line old new tells adds =
    let moved = moved_line loading.segments (loads_of loading.name lines) line in
    record {
      branches = subst (λ (ps : List (ℕ × ℕ)). Tallies ps new.branches) (sym (moved-push (map counted_branch) loading lines line))
          (Tallies-more (branches_by (Some loading) lines) (map counted_branch moved) old.branches new.branches tells.branches adds.branches);
      ranges = subst (λ (ps : List (ℕ × ℕ)). Tallies ps new.ranges)
          (sym (ap (λ (w : Bool). ranges_by (Some loading) (counted w (lines ++ line ∷ []))) adds.with_ranges ∙ moved_ranges-push old.with_ranges loading lines line))
          (Tallies-more (ranges_by (Some loading) (counted old.with_ranges lines)) (counted old.with_ranges (moved_ranges moved)) old.ranges new.ranges
          (subst (λ (w : Bool). Tallies (ranges_by (Some loading) (counted w lines)) old.ranges) refl tells.ranges) adds.ranges);
    }

pub total_told : (loading : Option LoadMap) (lines : List (List ℕ)) (tally : Tally) → Tells loading lines tally → total_of tally ≡ length (branches_of_lines lines)
total_told None lines tally tells = tells.branches.total
total_told (Some loading) lines tally tells = tells.branches.total ∙ moved_branches loading [] lines

-- a table of nothing
empty_table : (rows : List Pair) → IsTable rows → total_in rows ≤ 0 → Tallies [] rows
empty_table [] table none = record { table = table; times = λ p. refl; total = refl }
empty_table (row ∷ rows) table none = absurd (omega (arith, table.positive.0, none, sum_by-cons (λ (r : Pair). r.times) row rows))

pub Tells_none-nothing : (tally : Tally) → IsCounted tally (total_of tally) → total_of tally ≡ 0 → Tells None [] tally
Tells_none-nothing tally kept none = record {
  branches = empty_table tally.branches kept.branches (omega arith);
  ranges = subst (λ (ps : List (ℕ × ℕ)). Tallies ps tally.ranges) (sym (nothing tally.with_ranges)) (empty_table tally.ranges kept.ranges (omega (arith, kept.fewer_ranges)));
}
  where
    nothing : (with_ranges : Bool) → ranges_of_lines (counted with_ranges []) ≡ []
    nothing true = refl
    nothing false = refl

-- nothing is told of no lines, whether addresses are moved or not
pub Tells-nothing : (loading : Option LoadMap) (tally : Tally) → Tells None [] tally → Tells loading [] tally
Tells-nothing None tally tells = tells
Tells-nothing (Some loading) tally tells = record { branches = tells.branches; ranges = by_ranges tally.with_ranges tally tells.ranges }
  where
    by_ranges : (w : Bool) (tally : Tally) → Tallies (ranges_of_lines (counted w [])) tally.ranges → Tallies (ranges_by (Some loading) (counted w [])) tally.ranges
    by_ranges true tally told = told
    by_ranges false tally told = told
