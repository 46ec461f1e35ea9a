use Rattle.std.proofs.Common.{◌≡◌, ℕ, take}
use Rattle.address_spans.specs.Spans.{owner_at}
use Rattle.chain_model.specs.Chains.{function_at}
use Rattle.span_cover.proofs.functions.all_pieces.Given as goal

abbrev pub invariant-loop-number : goal.invariant-loop-number
invariant-loop-number l = (address : ℕ) → owner_at l.spans.items address ≡ function_at (take l.number l.members) address
