-- The members of one depth, and what they own.
use Rattle.std.specs.Prelude.{◌≡◌, ℕ, ◌≤◌, nat_lt, List, [], ◌∷◌, length, drop, Option, None, Some, if◌then◌else◌}
use Rattle.std.specs.Option.{option_or}
use Rattle.address_spans.specs.declared.span.Span.{Span}
use Rattle.address_spans.specs.Spans.{AreDisjoint, owner_at}
use Rattle.chain_model.specs.declared.member.Member.{Member}
use Rattle.chain_model.specs.Chains.{numbered}
use Rattle.span_cover.specs.Owners.{innermost_from}

-- Of some members those from the first on that is less deep.
abbrev pub past : ℕ → List (ℕ × Member) → List (ℕ × Member)
past depth [] = []
past depth (member ∷ behind) = if nat_lt member.1.depth depth then member ∷ behind else past depth behind

-- The first of some members, unless it is less deep than this.
abbrev pub next_in : ℕ → List (ℕ × Member) → Option Member
next_in depth [] = None
next_in depth (member ∷ behind) = if nat_lt member.1.depth depth then None else Some member.1

-- The cover of the members of a depth from a number on, and the number at which they end.
pub record IsLevel (members : List Member) (first depth : ℕ) (spans : List Span) (end : ℕ) : Type 0 where
  pub disjoint : AreDisjoint spans
  pub owners : (address : ℕ) → owner_at spans address ≡ innermost_from depth address (drop first (numbered members))
  pub onward : first ≤ end
  pub within : end ≤ length members
  pub rest : drop end (numbered members) ≡ past depth (drop first (numbered members))

-- The same up to a number: what the members before it own, and the innermost of the others.
pub record LevelSoFar (members : List Member) (first depth : ℕ) (spans : List Span) (at : ℕ) : Type 0 where
  pub owners : (address : ℕ)
      → option_or (owner_at spans address) (innermost_from depth address (drop at (numbered members)))
      ≡ innermost_from depth address (drop first (numbered members))
  pub onward : first ≤ at
  pub within : at ≤ length members
  pub rest : past depth (drop at (numbered members)) ≡ past depth (drop first (numbered members))
