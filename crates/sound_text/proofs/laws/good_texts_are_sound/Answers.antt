use Rattle.sound_text.proofs.TextLemmas.{good_texts_are_sound, good_texts_are_apart}
use Rattle.sound_text.proofs.laws.good_texts_are_sound.Goals as goal

pub returns : goal.returns
returns c = record { sound = good_texts_are_sound; apart = good_texts_are_apart }
