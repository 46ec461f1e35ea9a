-- Ranges that are written out.
use Rattle.std.proofs.Common.{◌≤◌, List, [], ◌∷◌, arith}
use Rattle.std.proofs.lemmas.List.Elements.{All-cons}
use Rattle.profile_model.specs.declared.ran_range.RanRange.{RanRange}
use Rattle.profile_model.specs.Hits.{AreRanges}

pub ranges-nil : AreRanges []
ranges-nil k d within = absurd (omega (arith, within))

pub ranges-cons : (r : RanRange) (ranges : List RanRange) → r.lo ≤ r.hi → AreRanges ranges → AreRanges (r ∷ ranges)
ranges-cons r ranges order others = All-cons (λ range. range.lo ≤ range.hi) r ranges order others
