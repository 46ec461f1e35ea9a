-- What follows from the definitions.
use Rattle.std.specs.Prelude.{◌≡◌, List, []}
use Rattle.profile_laws.specs.Counts.{CountTheSame}
use Rattle.profile_model.specs.Profile.{Profile, lines_of}
use Rattle.profile_model.specs.Ways.{Way}
use Rattle.cold_model.specs.Cold.{lines_with}

-- Where no keys have lines besides, the lines are those of the profile.
abbrev pub NoneBesides : Type 0
NoneBesides = (p : Profile) → lines_with [] p ≡ lines_of p

-- Profiles that count the same have the same lines, whichever keys have lines besides.
abbrev pub LinesWithAreByCounts : Type 0
LinesWithAreByCounts =
    (besides : List Way) (p q : Profile) → CountTheSame p q → lines_with besides p ≡ lines_with besides q
