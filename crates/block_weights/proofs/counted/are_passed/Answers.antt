use Rattle.std.proofs.Common.{◌-◌, arith, ap}
use Rattle.std.proofs.lemmas.List.{get_or_default}
use Rattle.key_types.proofs.SearchLemmas.{ends-rise-segments}
use Rattle.key_types.specs.declared.places.Seg.{Seg}
use Rattle.block_weights.proofs.counted.are_passed.Goals as goal

-- what a place past the end of a slice reads as
none : Seg
none = record { lo = 0; hi = 0; key = record { 0 = 0 }; factor = 0 }

pub returns : goal.returns
unfolding none
returns c =
    let segments = c.args.segments.now in
    let last = c.args.place - 1 in
    λ _ k d from below. omega (
      arith,
      c.if-lo-segments.false,
      ends-rise-segments segments c.requires.segments k last d (omega arith) (omega arith),
      ap (λ (s : Seg). s.hi) (get_or_default segments last none d (omega arith)),
    )
