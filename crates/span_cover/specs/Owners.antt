-- What members own.
use Rattle.std.specs.Prelude.{ℕ, Bool, ◌==◌, List, [], ◌∷◌, map, Option, None, Some, if◌then◌else◌}
use Rattle.std.specs.List.{last_or}
use Rattle.std.specs.Option.{option_map, option_or}
use Rattle.address_spans.specs.declared.span.Span.{Span}
use Rattle.address_spans.specs.Spans.{framed_owner}
use Rattle.chain_model.specs.declared.member.Member.{Member}
use Rattle.chain_model.specs.Chains.{holds}
use Rattle.chain_model.specs.Pass.{chain_from}
use Rattle.span_cover.specs.Asked.{is_asked}

-- Pieces as spans of one owner.
abbrev pub spans_of : ℕ → List (ℕ × ℕ) → List Span
spans_of owner pieces = map (λ piece. record { lo = piece.0; hi = piece.1; owner = owner }) pieces

-- Where a member holds an address, it owns it.
abbrev pub owned : ℕ → ℕ → Member → Option ℕ
owned address number member = if holds address member then Some number else None

-- The number of the innermost member from a depth on.
abbrev pub innermost_from : ℕ → ℕ → List (ℕ × Member) → Option ℕ
innermost_from depth address members = option_map (λ member. member.0) (last_or None (chain_from depth address members))

-- Where a function holds an address, its owner there: the innermost of it and the members behind it, or nobody where it
-- is not asked for.
abbrev pub owned_by_function : List Bool → ℕ → ℕ → ℕ × Member → List (ℕ × Member) → Option ℕ
owned_by_function marks nobody address function behind =
    if is_asked marks function.0
    then framed_owner (owned address function.0 function.1) (innermost_from 1 address behind)
    else owned address nobody function.1

-- The owner of an address by the first of some functions that holds it.
abbrev pub owned_from : List Bool → ℕ → ℕ → List (ℕ × Member) → Option ℕ
owned_from marks nobody address [] = None
owned_from marks nobody address (member ∷ behind) = option_or
    (if member.1.depth == 0 then owned_by_function marks nobody address member behind else None)
    (owned_from marks nobody address behind)
