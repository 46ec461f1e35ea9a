-- Counts that stand still at their end, and what a count of faults says of a failed call.
use Rattle.std.specs.Prelude.{◌≡◌, ◌⊎◌, ℕ, ◌+◌, ◌-◌, ◌^◌, ◌<◌, ◌≤◌, min, Bool, is_err, Result}
use Rattle.std.specs.Bool.{MatchBool}

-- One more; at the largest 64-bit number a count stands still.
abbrev pub raised : ℕ → ℕ
raised n = min (n + 1) (2 ^ 64 - 1)

-- A count rose during a call: it is greater after it, or stands at its end. It never falls, nor passes its end.
pub record Rises (before after : ℕ) : Type 0 where
  pub later : before ≤ after
  pub rose : (before < after) ⊎ (after ≡ 2 ^ 64 - 1)
  pub bounded : after ≤ 2 ^ 64 - 1

-- Some answers tell of a failed call. The count of faults rose under these, and is as it was under every other.
abbrev pub HasCauseWhere : {A : Type 0} → (A → Bool) → ℕ → ℕ → A → Type 0
HasCauseWhere tells_fault before after answer = MatchBool (tells_fault answer) (Rises before after) (after ≡ before)

-- The count of faults rose where the call failed, and is as it was where it did not.
abbrev pub HasCause : {T E : Type 0} → ℕ → ℕ → Result T E → Type 0
HasCause before after answer = HasCauseWhere is_err before after answer
