-- What lifting comes to.
use Rattle.std.specs.Prelude.{ℕ, Bool, List, [], ◌∷◌, Option}
use Rattle.refusal.specs.declared.place.Place.{Place}
use Rattle.refusal.specs.Place.{first_bad}
use Rattle.block_model.specs.Function.{Function}
use Rattle.block_model.specs.Text.{functions_of}
use Rattle.output_model.specs.Lift.{lift_output}
use Rattle.profile_model.specs.Judging.{first_bad_of_profile}
use Rattle.repair_model.specs.Checking.{failed_line}
use Rattle.repair_model.specs.Judging.{first_bad_of_repairs}
use Rattle.repair_model.specs.Text.{repairs_of}
use Rattle.lift_maker.specs.Tested.{LiftsTo}
use Rattle.lift_maker.specs.declared.maker.Lifted.{Lifted}

-- The first bad line of what was built with these functions: as that of a profile text, or else as that of a repair
-- text.
abbrev pub first_bad_of_lines : ℕ → List Function → List ℕ → Option Place
first_bad_of_lines file funs text =
    first_bad (first_bad_of_profile file text ∷ first_bad_of_repairs file funs text ∷ [])

-- The line of a repair is the first to fail its test; or none does, and this is the text that is written of a binary, a
-- block text and what was built of them.
abbrev pub Lifts : List ℕ → Bool → List ℕ → List ℕ → Lifted → Type 0
Lifts binary base blocks text =
    LiftsTo (failed_line (functions_of blocks) (repairs_of (functions_of blocks) text))
    (lift_output base binary blocks text)
