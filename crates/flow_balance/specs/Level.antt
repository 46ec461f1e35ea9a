-- A search whose settled sides are put at one distance.
use Rattle.std.specs.Prelude.{◌≡◌, ℕ, true, false, List, length, Option, None, Some}
use Rattle.reached_sides.specs.declared.mark.Mark.{Mark}
use Rattle.path_search.specs.Search.{mark_at, is_settled, settled_count}

-- A mark at another distance.
abbrev pub put_at : ℕ → Option Mark → Option Mark
put_at distance None = None
put_at distance (Some mark) = Some (record mark { distance = distance })

-- The settled sides are put at a distance, and nothing else has changed.
pub record IsLevelled (old : List (Option Mark)) (limit : ℕ) (new : List (Option Mark)) : Type 0 where
  pub each : length new ≡ length old
  pub settled : (side : ℕ) → is_settled (mark_at old side) ≡ true → mark_at new side ≡ put_at limit (mark_at old side)
  pub others : (side : ℕ) → is_settled (mark_at old side) ≡ false → mark_at new side ≡ mark_at old side
  pub count : settled_count new ≡ settled_count old
