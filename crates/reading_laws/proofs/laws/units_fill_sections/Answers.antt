use Rattle.reading_laws.proofs.UnitLemmas.{units_fill-sections}
use Rattle.reading_laws.proofs.laws.units_fill_sections.Goals as goal

pub returns : goal.returns
returns c = units_fill-sections
