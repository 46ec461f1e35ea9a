-- The functions so far, each with the calls inlined into it, and a frame for each entry that the next may stand below.
use Rattle.std.specs.Prelude.{ℕ, ◌+◌, nat_lt, if◌then◌else◌, List, [], ◌∷◌, ◌++◌, length, None, Some}
use Rattle.std.specs.List.{flat_map}
use Rattle.tree_model.specs.Tree.{with_call}
use Rattle.member_lists.specs.declared.frame.EntryFrame.{EntryFrame}

-- An entry that stands below no subprogram and no inlined subroutine, or a subprogram without pieces.
abbrev pub outside : EntryFrame
outside = record { calls = 0; function = None }

-- The function of a number.
abbrev pub frame_of_function : ℕ → EntryFrame
frame_of_function number = record { calls = 0; function = Some number }

-- A call with pieces below a frame, and one without.
abbrev pub one_deeper : EntryFrame → EntryFrame
one_deeper above = record { calls = above.calls + 1; function = above.function }

abbrev pub left_out : EntryFrame → EntryFrame
left_out above = record { calls = above.calls + 1; function = None }

-- Of frames with the depths of their entries, the innermost first, those of the entries that one at a depth stands
-- below.
abbrev pub frames_above : ℕ → List (ℕ × EntryFrame) → List (ℕ × EntryFrame)
frames_above depth [] = []
frames_above depth (frame ∷ rest) = if nat_lt frame.0 depth then frame ∷ rest else frames_above depth rest

-- The first of some frames.
abbrev pub first_frame : List (ℕ × EntryFrame) → EntryFrame
first_frame [] = outside
first_frame (frame ∷ rest) = frame.1

-- The frame of the entry right above one at a depth.
abbrev pub frame_above : ℕ → List (ℕ × EntryFrame) → EntryFrame
frame_above depth frames = first_frame (frames_above depth frames)

-- The frames down to an entry at a depth.
abbrev pub frames_to : ℕ → EntryFrame → List (ℕ × EntryFrame) → List (ℕ × EntryFrame)
frames_to depth frame frames = (depth, frame) ∷ frames_above depth frames

-- The functions so far, each a list of members: itself, then the calls inlined into it; how many pieces the entries
-- have; and the frames of the last entry of the unit and of those that it stands below, with their depths.
pub record SoFar (T : Type 0) : Type 0 where
  pub functions : List (List T)
  pub pieces : ℕ
  pub frames : List (ℕ × EntryFrame)

abbrev pub nothing : {T : Type 0} → SoFar T
nothing = record { functions = []; pieces = 0; frames = [] }

-- Behind an entry at a depth that is no member, with its frame and the number of its pieces.
abbrev pub behind_other : {T : Type 0} → ℕ → EntryFrame → ℕ → SoFar T → SoFar T
behind_other depth frame count so_far = record {
  functions = so_far.functions;
  pieces = so_far.pieces + count;
  frames = frames_to depth frame so_far.frames;
}

-- Behind a function, which gets the next number.
abbrev pub behind_function : {T : Type 0} → ℕ → T → ℕ → SoFar T → SoFar T
behind_function depth function count so_far = record {
  functions = so_far.functions ++ (function ∷ []) ∷ [];
  pieces = so_far.pieces + count;
  frames = frames_to depth (frame_of_function (length so_far.functions)) so_far.frames;
}

-- Behind a call, which is a member where it is of a function.
abbrev pub behind_call : {T : Type 0} → ℕ → EntryFrame → T → ℕ → SoFar T → SoFar T
behind_call depth frame call count so_far = record {
  functions = with_call frame.function call so_far.functions;
  pieces = so_far.pieces + count;
  frames = frames_to depth frame so_far.frames;
}

-- Behind a unit, where no entry of it is left to stand below.
abbrev pub behind_unit : {T : Type 0} → SoFar T → SoFar T
behind_unit so_far = record { functions = so_far.functions; pieces = so_far.pieces; frames = [] }

-- The members of all functions, one function behind the other.
abbrev pub all_members : {T : Type 0} → SoFar T → List T
all_members so_far = flat_map (λ function. function) so_far.functions
