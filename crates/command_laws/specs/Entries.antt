-- Where an entry of a function counts in a profile.
use Rattle.std.specs.Prelude.{◌≡◌, ℕ, Bool, false, ◌&&◌, List, count_by, sum_by}
use Rattle.std.specs.Option.{option_map_or}
use Rattle.profile_model.specs.Profile.{head_of, target_of}
use Rattle.profile_model.specs.Ways.{Way, same_name}
use Rattle.report_model.specs.Branches.{is_entry}
use Rattle.report_model.specs.Report.{Sampled, branches_where}
use Rattle.output_model.specs.Program.{Program}
use Rattle.output_model.specs.Sampled.{classes_of, has_way, profile_of}

-- A branch enters the function of this name.
abbrev pub enters : Program → List ℕ → ℕ × ℕ → Bool
enters program name branch = option_map_or (same_name name) (program.entered branch.1) false

-- All heads together are as many as the entries that the report tells of. The head of each function is as many as the
-- sampled branches that enter it, and its target at a way as many of these as come from there.
pub record EntriesCountIn (program : Program) (sampled : Sampled) : Type 0 where
  pub all : sum_by (λ head. head.1) (profile_of program sampled).heads
      ≡ branches_where (classes_of program) sampled is_entry
  pub heads : (name : List ℕ) → head_of (profile_of program sampled) name
      ≡ count_by (enters program name) sampled.branches
  pub targets : (way : Way) (name : List ℕ) → target_of (profile_of program sampled) way name
      ≡ count_by (λ branch. has_way program way branch.0 && enters program name branch) sampled.branches

-- So an entry counts once in its head, and once in its target.
abbrev pub EntriesCount : Type 0
EntriesCount = (program : Program) (sampled : Sampled) → EntriesCountIn program sampled
