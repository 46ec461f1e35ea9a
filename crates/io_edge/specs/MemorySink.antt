-- A sink in memory, and the calls at which writing to it fails.
use Rattle.std.specs.Prelude.{◌≡◌, ℕ, ◌-◌, min, Bool, ◌==◌, ◌||◌, List, length}
use Rattle.std.specs.List.{list_any}

-- What a sink in memory shows: the bytes written, how many bytes it has room for and a write takes at most, the
-- numbers of the calls that are to fail, how many writes and failed calls there were, and whether it is finished.
pub record SinkInMemory : Type 0 where
  pub written : List ℕ
  pub room : ℕ
  pub piece : ℕ
  pub fails : List ℕ
  pub writes : ℕ
  pub faults : ℕ
  pub finished : Bool

-- The call of this number is to fail: 0 is `finish`, and writes count from 1.
abbrev pub is_to_fail : List ℕ → ℕ → Bool
is_to_fail fails call = list_any (λ number. number == call) fails

-- The write of this number fails: it is to fail, or the room is full.
abbrev pub write_fails : SinkInMemory → ℕ → Bool
write_fails sink call = is_to_fail sink.fails call || (length sink.written == sink.room)

-- How many of so many bytes a write takes: all of them, or as many as a piece and the room that is left allow.
abbrev pub taken_of : SinkInMemory → ℕ → ℕ
taken_of sink size = min (min size sink.piece) (sink.room - length sink.written)

-- A call leaves the room, the piece and the calls that are to fail.
pub record KeepsPlan (old new : SinkInMemory) : Type 0 where
  pub room_stays : new.room ≡ old.room
  pub piece_stays : new.piece ≡ old.piece
  pub plan_stays : new.fails ≡ old.fails
