-- The derived order of items is that of their definition.
use Rattle.std.proofs.Common.{◌≡◌, refl}
use Rattle.std.specs.Cmp.Lexicographic.{slice_cmp}
use Rattle.std.specs.Ordering.{nat_cmp, ordering_then}
use Rattle.profile_lists.specs.Ways.{kind_rank, step_cmp, item_cmp}
use Rattle.profile_lists.specs.contracts.item.KindOrd.TheImpl as kind_ord
use Rattle.profile_lists.specs.contracts.item.ItemOrd.TheImpl as item_ord
use Rattle.profile_lists.specs.declared.item.Item.{Item}
use Rattle.profile_lists.specs.declared.item.Kind.{Kind}
use Rattle.profile_lists.specs.declared.item.Kind.TheVariants.{Function, Body, Call}
use Rattle.profile_lists.specs.declared.item.Step.{Step}

pub derived_kind : (k l : Kind) → kind_ord.ghosts.cmp k l ≡ nat_cmp (kind_rank k) (kind_rank l)
derived_kind Function Function = refl
derived_kind Function Body = refl
derived_kind Function Call = refl
derived_kind Body Function = refl
derived_kind Body Body = refl
derived_kind Body Call = refl
derived_kind Call Function = refl
derived_kind Call Body = refl
derived_kind Call Call = refl

pub derived_step : (s t : Step) → ordering_then (kind_ord.ghosts.cmp s.kind t.kind) (ordering_then (nat_cmp s.offset t.offset) (ordering_then (nat_cmp s.disc t.disc) (nat_cmp s.rank t.rank))) ≡ step_cmp s t
derived_step s t = λ i. ordering_then (derived_kind s.kind t.kind i) (ordering_then (nat_cmp s.offset t.offset) (ordering_then (nat_cmp s.disc t.disc) (nat_cmp s.rank t.rank)))

pub derived_item : (x y : Item) → item_ord.ghosts.cmp x y ≡ item_cmp x y
derived_item x y = λ i. ordering_then (slice_cmp (λ s t. derived_step s t i) x.way.items y.way.items) (ordering_then (nat_cmp x.count y.count) (nat_cmp x.key y.key))
