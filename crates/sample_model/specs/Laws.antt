-- Laws that tie the definitions to a second way of saying them.
use Rattle.std.specs.Prelude.{◌≡◌, ◌≤◌, ◌⊎◌, ◌↔◌, ℕ, ◌-◌, Bool, true, ◌||◌, List, [], ◌∷◌, ◌++◌, length, map, codes, Option, Some, is_none, if◌then◌else◌}
use Rattle.std.specs.List.{AllByRecursion, list_any}
use Rattle.refusal.specs.declared.place.Place.{Place}
use Rattle.load_model.specs.declared.load_segment.LoadSegment.{LoadSegment}
use Rattle.sample_model.specs.declared.load.Load.{Load}
use Rattle.sample_model.specs.Judging.{first_bad_of_piece, first_bad_of_text}
use Rattle.sample_model.specs.Limits.{max_text_bytes}
use Rattle.sample_model.specs.Line.{address_of, entry_of}
use Rattle.sample_model.specs.Moves.{move_of, moved_branch, moved_ranges, or_0}
use Rattle.sample_model.specs.Pairs.{same_pair, pair_lt, distinct_pairs}
use Rattle.sample_model.specs.Samples.{ranges_between}

-- Each pair stands below all pairs behind it.
abbrev pub IsAscending : List (ℕ × ℕ) → Type 0
IsAscending [] = Unit {0}
IsAscending (p ∷ pairs) = AllByRecursion (λ q. pair_lt p q ≡ true) pairs × IsAscending pairs

-- Whether a pair stands in a list.
abbrev pub has_pair : ℕ × ℕ → List (ℕ × ℕ) → Bool
has_pair p pairs = list_any (same_pair p) pairs

-- Two lists have the same pairs, however often.
abbrev pub HaveSamePairs : List (ℕ × ℕ) → List (ℕ × ℕ) → Type 0
HaveSamePairs pairs others = (p : ℕ × ℕ) → has_pair p pairs ≡ has_pair p others

-- The distinct pairs of a list ascend and are the pairs of that list, and no other list is so.
pub record IsDistinctPairs (pairs distinct : List (ℕ × ℕ)) : Type 0 where
  pub ascending : IsAscending distinct
  pub same : HaveSamePairs distinct pairs

-- The distinct pairs of a list are so.
abbrev pub DistinctPairsAscend : Type 0
DistinctPairsAscend = (pairs : List (ℕ × ℕ)) → IsDistinctPairs pairs (distinct_pairs pairs)

-- No other list is so.
abbrev pub DistinctPairsAreUnique : Type 0
DistinctPairsAreUnique =
    (pairs distinct : List (ℕ × ℕ)) → IsDistinctPairs pairs distinct → distinct ≡ distinct_pairs pairs

-- A field spells a branch as two addresses with a slash between, and behind them nothing, or a slash and any bytes.
pub record SpellsEntry (field : List ℕ) (branch : ℕ × ℕ) : Type 0 where
  pub from_text : List ℕ
  pub to_text : List ℕ
  pub rest : List ℕ
  pub joined : field ≡ from_text ++ (codes "/" ++ (to_text ++ rest))
  pub from : address_of from_text ≡ Some branch.0
  pub to : address_of to_text ≡ Some branch.1
  pub flags : (rest ≡ []) ⊎ ((more : List ℕ) × (rest ≡ codes "/" ++ more))

-- An entry is read exactly as it is spelled.
abbrev pub EntriesAreSpelled : Type 0
EntriesAreSpelled =
    (field : List ℕ) (branch : ℕ × ℕ) → (entry_of field ≡ Some branch) ↔ SpellsEntry field branch

-- What is bad in a text that comes in pieces is its first bad place, however the text goes on.
abbrev pub BadPlacesStay : Type 0
BadPlacesStay =
    (file : ℕ) (text piece rest : List ℕ) (place : Place) → length text ≤ max_text_bytes
    → first_bad_of_piece file text (max_text_bytes - length text) piece ≡ Some place
    → first_bad_of_text file (text ++ (piece ++ rest)) ≡ Some place

-- A range by its two ends: both moved, and from 0 to 0 where one of them is foreign.
abbrev pub moved_by_ends : (ℕ → Option ℕ) → ℕ × ℕ → ℕ × ℕ
moved_by_ends move range =
    if is_none (move range.0) || is_none (move range.1) then (0, 0) else (or_0 (move range.0), or_0 (move range.1))

-- The moved ranges of a sample are its ranges as they stand, each moved by its two ends.
abbrev pub RangesMoveByTheirEnds : Type 0
RangesMoveByTheirEnds =
    (segments : List LoadSegment) (loads : List Load) (branches : List (ℕ × ℕ))
    → moved_ranges (map (moved_branch segments loads) branches)
    ≡ map (moved_by_ends (move_of segments loads)) (ranges_between branches)
