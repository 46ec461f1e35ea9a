-- The words of `pgo-cold`.
use Rattle.std.proofs.Common.{◌≡◌, [], ◌∷◌, refl, Some, None, true, false}
use Rattle.std.specs.Prelude.{codes}
use Rattle.command_model.specs.Cold.{cold_of}
use Rattle.command_model.specs.Command.{cold, cold_profile, command_of}
use Rattle.command_model.specs.Options.{Options, map_name, options_of}

abbrev plain : Options
plain = record { map = None; base = false; repairs = record { edges = false; scaled = false } }

abbrev based : Options
based = record { map = None; base = true; repairs = record { edges = false; scaled = false } }

-- An option stands in front, once, and no words of `pgo` ask for it.
words : (cold_of (codes "bin" ∷ codes "prof" ∷ []) ≡ Some (cold plain (codes "bin") (codes "prof")))
    × (cold_of (codes "--base" ∷ codes "bin" ∷ codes "prof" ∷ []) ≡ Some (cold based (codes "bin") (codes "prof")))
    × (cold_of (codes "bin" ∷ codes "--base" ∷ []) ≡ Some (cold plain (codes "bin") (codes "--base")))
    × (cold_of (codes "--base" ∷ codes "--base" ∷ codes "bin" ∷ codes "prof" ∷ []) ≡ None)
    × (cold_of (codes "--edges" ∷ codes "bin" ∷ codes "prof" ∷ []) ≡ None)
    × (cold_of (codes "--map=y" ∷ codes "bin" ∷ codes "prof" ∷ []) ≡ None)
    × (cold_of (codes "bin" ∷ []) ≡ None) × (cold_of [] ≡ None)
    × (command_of (codes "cold" ∷ codes "bin" ∷ codes "prof" ∷ []) ≡ None)
unfolding cold_of command_of options_of map_name
words = (refl, refl, refl, refl, refl, refl, refl, refl, refl)

abbrev both : Options
both = record { map = Some (codes "y"); base = true; repairs = record { edges = false; scaled = false } }

-- Behind `profile` stand the words of `pgo profile`. Two words are a binary and a profile, whatever they are.
profile_words : (cold_of (codes "profile" ∷ codes "bin" ∷ codes "perf" ∷ []) ≡ Some (cold_profile plain (codes "bin") (codes "perf")))
    × (cold_of (codes "profile" ∷ codes "--map=y" ∷ codes "--base" ∷ codes "bin" ∷ codes "perf" ∷ []) ≡ Some (cold_profile both (codes "bin") (codes "perf")))
    × (cold_of (codes "profile" ∷ codes "profile" ∷ codes "perf" ∷ []) ≡ Some (cold_profile plain (codes "profile") (codes "perf")))
    × (cold_of (codes "profile" ∷ codes "prof" ∷ []) ≡ Some (cold plain (codes "profile") (codes "prof")))
    × (cold_of (codes "--base" ∷ codes "profile" ∷ codes "prof" ∷ []) ≡ Some (cold based (codes "profile") (codes "prof")))
    × (cold_of (codes "--base" ∷ codes "profile" ∷ codes "bin" ∷ codes "perf" ∷ []) ≡ None)
    × (cold_of (codes "profile" ∷ codes "--edges" ∷ codes "bin" ∷ codes "perf" ∷ []) ≡ None)
    × (cold_of (codes "profile" ∷ codes "bin" ∷ codes "perf" ∷ codes "more" ∷ []) ≡ None)
    × (cold_of (codes "lift" ∷ codes "bin" ∷ codes "perf" ∷ []) ≡ None)
unfolding cold_of options_of map_name
profile_words = (refl, refl, refl, refl, refl, refl, refl, refl, refl)
