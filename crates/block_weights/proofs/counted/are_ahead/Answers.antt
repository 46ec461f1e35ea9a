use Rattle.std.proofs.Common.{arith, ap}
use Rattle.std.proofs.lemmas.List.{get_or_default}
use Rattle.key_types.proofs.SearchLemmas.{ends-rise-segments}
use Rattle.key_types.specs.declared.places.Seg.{Seg}
use Rattle.block_weights.proofs.counted.are_ahead.Goals as goal

-- what a place past the end of a slice reads as
none : Seg
none = record { lo = 0; hi = 0; key = record { 0 = 0 }; factor = 0 }

pub returns : goal.returns
unfolding none
returns c =
    let segments = c.args.segments.now in
    let place = c.args.place in
    λ _ k d from within. omega (
      arith,
      c.if-segments-place-2.false,
      ends-rise-segments segments c.requires place k d from within,
      ap (λ (s : Seg). s.hi) (get_or_default segments place none d (omega arith)),
    )
