-- The chain of an address in one pass over the members, for the crates that walk through them.
use Rattle.std.specs.Prelude.{ℕ, ◌+◌, nat_lt, List, [], ◌∷◌, ◌++◌, if◌then◌else◌}
use Rattle.chain_model.specs.declared.member.Member.{Member}
use Rattle.chain_model.specs.Chains.{holds_at}

-- The chain of an address from a depth on: the first member there that holds the address, then the chain from the next
-- depth on of those behind it. It ends before a member that is less deep.
abbrev pub chain_from : ℕ → ℕ → List (ℕ × Member) → List (ℕ × Member)
chain_from depth address [] = []
chain_from depth address (member ∷ behind) =
    if nat_lt member.1.depth depth then [] else
    ((if holds_at depth address member.1 then member ∷ [] else [])
    ++ chain_from (if holds_at depth address member.1 then depth + 1 else depth) address behind)
