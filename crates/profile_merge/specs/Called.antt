-- Sums of calls, each of a function from a key.
use Rattle.std.specs.Prelude.{◌≡◌, ◌<◌, ℕ, ◌==◌, Bool, ◌&&◌, List, IsSome, if◌then◌else◌}
use Rattle.std.specs.List.{AllByRecursion, IsDistinct}
use Rattle.std.specs.Map.{keys_of, lookup}
use Rattle.std.specs.Option.{unwrap_or}
use Rattle.key_types.specs.declared.ids.KeyId.{KeyId}
use Rattle.key_types.specs.declared.ids.NameId.{NameId}

-- A key and the function that was called from it.
abbrev pub Target : Type 0
Target = KeyId × NameId

abbrev pub same_target : Target → Target → Bool
same_target t u = t.0.0 == u.0.0 && t.1.0 == u.1.0

-- The sum of a key and a callee: 0 where none is told.
abbrev pub called_sum : List (Target × ℕ) → KeyId → NameId → ℕ
called_sum calls key callee = unwrap_or (lookup (same_target (key, callee)) calls) 0

-- A key and a callee have a place.
abbrev pub IsCalled : List (Target × ℕ) → KeyId → NameId → Type 0
IsCalled calls key callee = IsSome (lookup (same_target (key, callee)) calls)

-- The numbers of a key and a callee were given.
abbrev pub IsGivenTarget : ℕ → ℕ → Target → Type 0
IsGivenTarget names keys target = (target.0.0 < keys) × (target.1.0 < names)

-- Each key and callee stands once, and their numbers were given.
pub record AreCallsOf (names keys : ℕ) (calls : List (Target × ℕ)) : Type 0 where
  pub given : AllByRecursion (IsGivenTarget names keys) (keys_of calls)
  pub once : IsDistinct same_target (keys_of calls)

-- A place was made for a key and a callee, whose sum is 0 as before.
pub record AreReached (old new : List (Target × ℕ)) (key : KeyId) (callee : NameId) : Type 0 where
  pub same : (k : KeyId) (n : NameId) → called_sum new k n ≡ called_sum old k n
  pub kept : (k : KeyId) (n : NameId) → IsCalled old k n → IsCalled new k n
  pub of : (names keys : ℕ) → key.0 < keys → callee.0 < names → AreCallsOf names keys old → AreCallsOf names keys new

-- A key and a callee got this sum, and all others kept theirs.
pub record AreWithSum (old new : List (Target × ℕ)) (key : KeyId) (callee : NameId) (sum : ℕ) : Type 0 where
  pub each : (k : KeyId) (n : NameId)
      → called_sum new k n ≡ (if same_target (key, callee) (k, n) then sum else called_sum old k n)
  pub kept : (k : KeyId) (n : NameId) → IsCalled old k n → IsCalled new k n
  pub of : (names keys : ℕ) → AreCallsOf names keys old → AreCallsOf names keys new
