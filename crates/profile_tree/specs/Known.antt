-- Numbers that were given.
use Rattle.std.specs.Prelude.{◌<◌, ℕ}
use Rattle.std.specs.List.{AllByRecursion}
use Rattle.key_types.specs.declared.key.Key.{Key}
use Rattle.profile_lists.specs.declared.pairs.Call.{Call}

-- The names of a key were given.
abbrev pub HasNames : ℕ → Key → Type 0
HasNames names key = (key.root.0 < names) × AllByRecursion (λ frame. frame.name.0 < names) key.calls

-- The key and the callee of a call were given.
abbrev pub IsGiven : ℕ → ℕ → Call → Type 0
IsGiven keys names call = (call.key.0 < keys) × (call.callee.0 < names)

-- The key and the callee of a call.
abbrev pub called_from : Call → ℕ × ℕ
called_from call = (call.key.0, call.callee.0)
