use Rattle.text_model.proofs.PlaceLemmas.{numbers_by_place, capitals_spell_the_same, leading_zeros_spell_nothing}
use Rattle.text_model.proofs.laws.numbers_are_by_place.Goals as goal

pub returns : goal.returns
returns c = record { places = numbers_by_place; capitals = capitals_spell_the_same; zeros = leading_zeros_spell_nothing }
