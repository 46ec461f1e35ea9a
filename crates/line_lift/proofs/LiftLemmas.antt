-- The lines of numbers with the counts of the keys that are held are those of what is lifted.
use Rattle.std.proofs.Common.{◌≡◌, ℕ, ◌<◌, List, [], Option, None, get_or, length, map}
use Rattle.block_model.specs.Function.{Function}
use Rattle.key_types.specs.Segments.{key_told}
use Rattle.key_types.specs.declared.key.Key.{Key}
use Rattle.key_types.specs.declared.places.Seg.{Seg}
use Rattle.output_model.specs.Lift.{held_by}
use Rattle.profile_laws.proofs.CountLemmas.{lines_are_by_counts}
use Rattle.profile_laws.specs.Counts.{CountTheSame}
use Rattle.profile_model.specs.Profile.{lines_of}
use Rattle.profile_text.specs.Numbers.{counted as counted_in}
use Rattle.profile_text.specs.declared.item.Item.{Item}
use Rattle.profile_tree.proofs.SumLemmas.{Given}
use Rattle.profile_tree.specs.Numbers.{Numbers, numbers_said}
use Rattle.repair_model.specs.Repair.{Repair}
use Rattle.line_lift.specs.Held.{HaveKeys, IsCountOfKey}
use Rattle.line_lift.specs.Largest.{IsLargest}
use Rattle.line_lift.specs.Lift.{lifted_by, way_in}
use Rattle.line_lift.specs.Spans.{IsOwnerOver, counted, span_of}
use Rattle.line_lift.specs.Stated.{AreWithHeld}
use Rattle.line_lift.proofs.CountLemmas.{held_alike}
use Rattle.line_lift.proofs.HeldLemmas.{are_held}

pub lifted_lines :
    (names : List (List ℕ)) (keys : List Key) (segments : List Seg) (funs : List (Function × Repair)) (items : List Item) (spans : ℕ → Option ℕ) (held : List (Option ℕ)) (old new : Numbers)
    → Given names keys [] [] → HaveKeys (length keys) segments → length held ≡ length keys
    → ((a : ℕ) → IsLargest (IsOwnerOver (map span_of (counted funs)) a) (spans a))
    → ((id : ℕ) → id < length keys → IsLargest (IsCountOfKey (key_told segments) spans id) (get_or held id None))
    → AreWithHeld held old new → CountTheSame (numbers_said names keys old) (counted_in names keys items)
    → lines_of (numbers_said names keys new) ≡ lines_of (lifted_by names keys segments funs items)
lifted_lines names keys segments funs items spans held old new numbered known len over of_keys with_held same =
    lines_are_by_counts _ _
    (held_alike names keys numbered (held_by (way_in names keys segments) funs) held (are_held names keys segments funs known numbered spans held len over of_keys) old new with_held (counted_in names keys items) same)
