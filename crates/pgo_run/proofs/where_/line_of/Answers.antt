use Rattle.binary_model.specs.Places.{place_of_address}
use Rattle.binary_places.proofs.ShownLemmas.{places_shown}
use Rattle.pgo_run.proofs.where_.line_of.Goals as goal

pub placed_at-requires : goal.placed_at-requires
placed_at-requires c = (c.args.file.now, c.args.base, c.in_ok-binary.ensures.1)

pub place_line-requires : goal.place_line-requires
place_line-requires c =
    let of = c.in_ok-placed.ensures c.args.file.now c.args.base c.in_ok-binary.ensures.1 in (
      place_of_address c.args.file.now c.args.base c.args.address,
      rw c.place.ensures (places_shown c.args.file.now c.args.base of.0 c.in_ok-placed.placed of.1 c.args.address of.2),
    )

pub returns : goal.returns
returns c =
    let of = c.in_ok-placed.ensures c.args.file.now c.args.base c.in_ok-binary.ensures.1 in (
      c.in_ok-binary.ensures.0,
      c.in_ok-place_line.ensures (place_of_address c.args.file.now c.args.base c.args.address)
          (rw c.place.ensures (places_shown c.args.file.now c.args.base of.0 c.in_ok-placed.placed of.1 c.args.address of.2)),
    )
