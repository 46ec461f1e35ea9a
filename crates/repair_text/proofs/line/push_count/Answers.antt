-- The parts of the line, one behind the other.
use Rattle.std.proofs.Common.{append_assoc}
use Rattle.repair_text.proofs.line.push_count.Goals as goal

pub returns-clause-written : goal.returns-clause-written
returns-clause-written c =
    rw (
      c.in_ok-push.ensures.items,
      c.in_ok-push_price-2.ensures.written,
      c.in_ok-extend_from_slice-3.ensures.items,
      c.in_ok-push_price.ensures.written,
      c.in_ok-extend_from_slice-2.ensures.items,
      c.in_ok-push_small.ensures,
      c.in_ok-extend_from_slice.ensures.items,
      c.in_ok-push_block.ensures,
    )
    (simp append_assoc)
