use Rattle.std.proofs.Common.{◌≡◌, ℕ, Ok, Err, IfOk, ◌∙◌}
use Rattle.address_spans.specs.Spans.{AreDisjoint, owner_at}
use Rattle.load_index.specs.Offsets.{TellFirst}
use Rattle.load_index.proofs.OffsetLemmas.{tells_first}
use Rattle.load_index.proofs.segments.spanned.Goals as goal

pub returns-clause-told : goal.returns-clause-told
returns-clause-told c =
    let segments = c.args.segments.now in
    let in_order = c.deref.result.now in
    elim c.disjoint.result as (λ r. IfOk r (λ made. AreDisjoint made.items) → IfOk r (λ made. (a : ℕ) → owner_at made.items a ≡ owner_at in_order a) → IfOk r (λ spans. TellFirst c.args.base segments spans.items)) [
      | Ok made ↦ λ apart same. tells_first c.args.base segments in_order made.items (c.deref.ensures.value ∙ c.in_ok-in_order.ensures.spans) apart same
      | Err stop ↦ λ _ _. tt
    ] c.disjoint.ensures.disjoint c.disjoint.ensures.same
