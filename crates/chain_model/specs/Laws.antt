-- What follows from the definitions.
use Rattle.std.specs.Prelude.{◌≡◌, ◌↔◌, ℕ, ◌+◌, ◌<◌, Bool, IsTrue, List, [], ◌∷◌, ◌++◌, find, slice_get, Option, None, Some, IsSome, IsSomeAnd}
use Rattle.std.specs.List.{AllByRecursion}
use Rattle.chain_model.specs.declared.member.Member.{Member}
use Rattle.chain_model.specs.Chains.{holds_at, numbered, below, function_of, chain, innermost, path}
use Rattle.chain_model.specs.Pass.{chain_from}
use Rattle.chain_model.specs.Places.{HasKey, LineAndDisc, chain_members, row_of, place_at}

-- A chain, said step by step: of the members that come into question the first one that stands at the depth and holds
-- the address, then the chain of those below it. Where there is none it ends.
pub data IsChain (address : ℕ) : ℕ → List (ℕ × Member) → List (ℕ × Member) → Type 0 where
  ends : (depth : ℕ) (members : List (ℕ × Member))
      → find (λ member. holds_at depth address member.1) members ≡ None
      → IsChain address depth members []
  goes_on : (depth : ℕ) (before : List (ℕ × Member)) (member : ℕ × Member) (behind rest : List (ℕ × Member))
      → find (λ member. holds_at depth address member.1) before ≡ None
      → IsTrue (holds_at depth address member.1)
      → IsChain address (depth + 1) (below member behind) rest
      → IsChain address depth (before ++ member ∷ behind) (member ∷ rest)

-- The chain of an address is such.
abbrev pub ChainsGoStepByStep : Type 0
ChainsGoStepByStep =
    (members : List Member) (address : ℕ) → IsChain address 0 (numbered members) (chain members address)

-- One pass over the members finds it.
abbrev pub OnePassFindsChains : Type 0
OnePassFindsChains =
    (members : List Member) (address : ℕ) → chain members address ≡ chain_from 0 address (numbered members)

-- Members each behind the one before in the list and deeper by one, from a depth on.
abbrev pub GoDown : ℕ → List (ℕ × Member) → Type 0
GoDown depth [] = Unit {0}
GoDown depth (member ∷ rest) =
    (member.1.depth ≡ depth) × AllByRecursion (λ other. member.0 < other.0) rest × GoDown (depth + 1) rest

-- A chain goes down, so no member stands in it twice.
abbrev pub ChainsGoDown : Type 0
ChainsGoDown = (members : List Member) (address : ℕ) → GoDown 0 (chain members address)

-- A chain begins with the function of its address; there is none without a function.
abbrev pub ChainsBeginWithTheFunction : Type 0
ChainsBeginWithTheFunction = (members : List Member) (address : ℕ)
    → slice_get (chain members address) 0 ≡ function_of members address

-- A chain is the path to its last member.
abbrev pub ChainsArePaths : Type 0
ChainsArePaths = (members : List Member) (address number : ℕ)
    → innermost members address ≡ Some number → chain members address ≡ path members number

-- An address has a key exactly where a function holds it, each member of its chain has a name, and its row has a line.
abbrev pub KeysAreWhereNamesAndLineAre : Type 0
KeysAreWhereNamesAndLineAre =
    (rows : ℕ → ℕ → Option LineAndDisc) (base : Bool) (members : List Member) (address : ℕ)
    → HasKey (place_at rows base members address)
    ↔ (IsSome (function_of members address)
    × AllByRecursion (λ member. IsSome member.name) (chain_members members address)
    × IsSomeAnd (row_of rows (chain_members members address) address) (λ row. 0 < row.0))
