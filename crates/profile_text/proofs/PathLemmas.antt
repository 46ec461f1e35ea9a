-- What stays open of a path.
use Rattle.std.proofs.Common.{◌≡◌, ℕ, zero, suc, ◌-◌, ◌<◌, Bool, true, false, List, ◌∷◌, take, refl, sym, ap, arith}
use Rattle.std.specs.List.{take-map}
use Rattle.key_types.specs.declared.ids.NameId.{NameId}
use Rattle.key_types.specs.declared.key.Frame.{Frame}
use Rattle.profile_tree.specs.Steps.{NumberedStep, at_function, frame_step}
use Rattle.profile_text.specs.Path.{steps_open}

pub closed : (begun : Bool) (root : NameId) (frames : List Frame) (depth : ℕ) → 0 < depth
    → steps_open begun root (take (depth - 1) frames) ≡ take depth (steps_open begun root frames)
closed begun root frames zero some = absurd (omega (arith, some))
closed false root frames (suc depth) some = refl
closed true root frames (suc depth) some =
    let same : suc depth - 1 ≡ depth = omega arith in
    rw same (ap (λ (steps : List NumberedStep). at_function root.0 ∷ steps) (sym (take-map frame_step depth frames)))
