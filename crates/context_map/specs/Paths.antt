-- The members that a member stands below, by their numbers.
use Rattle.std.specs.Prelude.{◌≡◌, ℕ, ◌<◌, List, [], ◌∷◌, ◌++◌, length, slice_index_or, Option, None, Some}
use Rattle.chain_model.specs.declared.member.Member.{Member}
use Rattle.chain_model.specs.Chains.{path}

-- What stands past the end of the members.
abbrev pub nobody : Member
nobody = record { depth = 0; unit = 0; name = None; start = 0; line = 0; disc = 0; pieces = [] }

-- The member of a number.
abbrev pub member_at : List Member → ℕ → Member
member_at members number = slice_index_or members number nobody

-- The same with its number.
abbrev pub numbered_at : List Member → ℕ → ℕ × Member
numbered_at members number = (number, member_at members number)

-- The parent of a member, by its number, if it has one.
abbrev pub parent_at : List (Option ℕ) → ℕ → Option ℕ
parent_at parents number = slice_index_or parents number None

-- The path to a parent: without one there is none.
abbrev pub path_to_parent : List Member → Option ℕ → List (ℕ × Member)
path_to_parent members None = []
path_to_parent members (Some number) = path members number

-- A parent stands before a number.
abbrev pub IsBefore : Option ℕ → ℕ → Type 0
IsBefore None number = Unit {0}
IsBefore (Some parent) number = parent < number

-- These are the parents of the first `n` members: the path to a member is that to its parent, and itself.
pub record AreParentsOf (n : ℕ) (members : List Member) (parents : List (Option ℕ)) : Type 0 where
  pub one_each : length parents ≡ n
  pub before : (number : ℕ) → number < n → IsBefore (parent_at parents number) number
  pub way : (number : ℕ) → number < n
      → path members number ≡ path_to_parent members (parent_at parents number) ++ numbered_at members number ∷ []

-- These are the parents of all members.
abbrev pub AreParents : List Member → List (Option ℕ) → Type 0
AreParents members parents = AreParentsOf (length members) members parents
