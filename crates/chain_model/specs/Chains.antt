-- The function that holds an address, and the calls inlined there (DWARF 5, sections 3.3.1 and 3.3.8).
use Rattle.std.specs.Prelude.{ℕ, zero, suc, ◌+◌, Bool, ◌&&◌, ◌==◌, nat_lt, nat_le, List, [], ◌∷◌, ◌++◌, length, take, find, take_while, Option, None, Some, if◌then◌else◌}
use Rattle.std.specs.List.{enumerate_from, last_or, list_any}
use Rattle.std.specs.Option.{option_map, option_map_or}
use Rattle.chain_model.specs.declared.member.Member.{Member}

-- A piece holds the addresses from its first one on that are below its end.
abbrev pub piece_holds : ℕ → ℕ × ℕ → Bool
piece_holds address piece = nat_le piece.0 address && nat_lt address piece.1

-- A member holds an address where one of its pieces does.
abbrev pub holds : ℕ → Member → Bool
holds address member = list_any (piece_holds address) member.pieces

-- A member stands at a depth and holds an address.
abbrev pub holds_at : ℕ → ℕ → Member → Bool
holds_at depth address member = member.depth == depth && holds address member

-- A member's number is its index in the list, from 0.
abbrev pub numbered : List Member → List (ℕ × Member)
numbered members = enumerate_from 0 members

-- The function of an address: the first one that holds it.
abbrev pub function_of : List Member → ℕ → Option (ℕ × Member)
function_of members address = find (λ member. holds_at 0 address member.1) (numbered members)

-- The number of the function of an address.
abbrev pub function_at : List Member → ℕ → Option ℕ
function_at members address = option_map (λ function. function.0) (function_of members address)

-- Of the members behind one, those below it: up to the next that is not deeper.
abbrev pub below : ℕ × Member → List (ℕ × Member) → List (ℕ × Member)
below member behind = take_while (λ next. nat_lt member.1.depth next.1.depth) behind

-- The first of some members that stands at a depth and holds an address, and the members below it.
abbrev pub first_at : ℕ → ℕ → List (ℕ × Member) → Option ((ℕ × Member) × List (ℕ × Member))
first_at depth address [] = None
first_at depth address (member ∷ behind) =
    if holds_at depth address member.1 then Some (member, below member behind) else first_at depth address behind

-- The chain of an address among members, no longer than a bound, from a depth on: the first that stands at the depth
-- and holds the address, then the chain among those below it, from the next depth on. It ends where there is none.
-- Why: The bound is there since a definition has to recur on something that gets smaller.
abbrev pub chain_among : ℕ → ℕ → ℕ → List (ℕ × Member) → List (ℕ × Member)
chain_among zero depth address members = []
chain_among (suc most) depth address members =
    option_map_or (λ found. found.0 ∷ chain_among most (depth + 1) address found.1) (first_at depth address members) []

-- The chain of an address: its function, then each time the first call inlined into the last member that holds it. It
-- is no longer than there are members.
abbrev pub chain : List Member → ℕ → List (ℕ × Member)
chain members address = chain_among (length members) 0 address (numbered members)

-- The number of the last member of the chain.
abbrev pub innermost : List Member → ℕ → Option ℕ
innermost members address = option_map (λ member. member.0) (last_or None (chain members address))

-- The path to the last of some members, from the path to the one before them: a member is put behind as many members as
-- it stands below.
abbrev pub path_from : List (ℕ × Member) → List (ℕ × Member) → List (ℕ × Member)
path_from path [] = path
path_from path (member ∷ behind) = path_from (take member.1.depth path ++ member ∷ []) behind

-- The path to a member, by its number: the members that it stands below, the outermost first, and itself.
abbrev pub path : List Member → ℕ → List (ℕ × Member)
path members number = path_from [] (take (number + 1) (numbered members))
