-- What lifting comes to, step by step.
use Rattle.std.specs.Prelude.{◌≡◌, ℕ, List, Option, None, Some}
use Rattle.block_model.specs.Text.{functions_of}
use Rattle.output_model.specs.Lift.{held_by, lifted, repaired_in}
use Rattle.profile_model.specs.Spelled.{spelled}
use Rattle.profile_model.specs.Text.{profile_text}
use Rattle.profile_model.specs.Ways.{Way}
use Rattle.repair_model.specs.Checking.{failed_line}
use Rattle.repair_model.specs.Text.{repairs_of}
use Rattle.lift_maker.specs.declared.maker.Lifted.{Lifted}
use Rattle.lift_maker.specs.declared.maker.Lifted.TheVariants.{Failed, Text}

-- The line that fails is told; or none fails, and this is the text.
abbrev pub LiftsTo : Option ℕ → List ℕ → Lifted → Type 0
LiftsTo failed text (Failed line) = failed ≡ Some line
LiftsTo failed text (Text out) = (failed ≡ None) × (out.items ≡ text)

-- What lifting comes to by the ways of addresses, of a block text and what was built of it.
abbrev pub LiftsBy : (ℕ → Option Way) → List ℕ → List ℕ → Lifted → Type 0
LiftsBy way blocks text =
    LiftsTo (failed_line (functions_of blocks) (repairs_of (functions_of blocks) text))
    (profile_text (lifted (held_by way (repaired_in (functions_of blocks) text)) (spelled text)))
