use Rattle.std.proofs.Common.{length, subst, sym}
use Rattle.profile_lists.specs.Segments.{AllFit}
use Rattle.key_types.specs.Segments.{AreSegments}
use Rattle.profile_bench.proofs.tree.counted.Goals as goal

pub build-requires-clause-segments : goal.build-requires-clause-segments
build-requires-clause-segments c = subst AreSegments (sym c.deref.ensures.value) c.requires.segments

pub build-requires-clause-fit : goal.build-requires-clause-fit
build-requires-clause-fit c = subst (AllFit (length c.args.laid.now.keys)) (sym c.deref.ensures.value) c.requires.fit

pub build-requires-clause-given : goal.build-requires-clause-given
build-requires-clause-given c =
    rw (c.deref-2.ensures.value, c.deref-3.ensures.value)
    (record { key_names = c.requires.named; called = c.in_ok-calls.ensures.given; entered = c.in_ok-heads.ensures.given })
