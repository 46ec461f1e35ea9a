-- The order of steps is total and tells apart.
use Rattle.std.proofs.Common.{◌≡◌, refl, arith}
use Rattle.std.specs.Cmp.{IsTotalOrder}
use Rattle.std.specs.declared.cmp.Ordering.TheVariants.{Equal}
use Rattle.std.proofs.lemmas.Cmp.{nat_cmp_total, on_total, then_total}
use Rattle.profile_model.specs.Laws.{TellsApart}
use Rattle.profile_model.proofs.OrderLemmas.{then_first, then_second, nat_apart}
use Rattle.profile_lists.specs.Ways.{kind_rank, step_cmp}
use Rattle.profile_lists.specs.declared.item.Kind.{Kind}
use Rattle.profile_lists.specs.declared.item.Kind.TheVariants.{Function, Body, Call}
use Rattle.profile_lists.specs.declared.item.Step.{Step}

kinds_apart : (k l : Kind) → kind_rank k ≡ kind_rank l → k ≡ l
kinds_apart Function Function e = refl
kinds_apart Function Body e = absurd (omega arith)
kinds_apart Function Call e = absurd (omega arith)
kinds_apart Body Function e = absurd (omega arith)
kinds_apart Body Body e = refl
kinds_apart Body Call e = absurd (omega arith)
kinds_apart Call Function e = absurd (omega arith)
kinds_apart Call Body e = absurd (omega arith)
kinds_apart Call Call e = refl

step_total : IsTotalOrder step_cmp
step_total =
    then_total (on_total (λ s. kind_rank s.kind) nat_cmp_total)
    (then_total (on_total (λ s. s.offset) nat_cmp_total)
    (then_total (on_total (λ s. s.disc) nat_cmp_total) (on_total (λ s. s.rank) nat_cmp_total)))

steps_apart : (s t : Step) → step_cmp s t ≡ Equal → s ≡ t
steps_apart s t e =
    let kind : s.kind ≡ t.kind = kinds_apart s.kind t.kind (nat_apart _ _ (then_first _ _ e)) in
    let behind_kind = then_second _ _ e in
    let offset : s.offset ≡ t.offset = nat_apart _ _ (then_first _ _ behind_kind) in
    let behind_offset = then_second _ _ behind_kind in
    let disc : s.disc ≡ t.disc = nat_apart _ _ (then_first _ _ behind_offset) in
    let rank : s.rank ≡ t.rank = nat_apart _ _ (then_second _ _ behind_offset) in
    λ i. record { kind = kind i; offset = offset i; disc = disc i; rank = rank i }

pub steps_tell_apart : TellsApart step_cmp
steps_tell_apart = record { total = step_total; apart = steps_apart }
