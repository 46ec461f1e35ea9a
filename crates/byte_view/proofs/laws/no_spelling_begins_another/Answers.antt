use Rattle.byte_view.specs.Reading.{SpellsField, SpellsRun, SpellsSleb, SpellsText, SpellsUleb, field_at, run_at, sleb_at, text_at, uleb_at}
use Rattle.byte_view.proofs.Spellings.{field_at-again, run_at-again, text_at-again, uleb_at-again, sleb_at-again, prefix_free-from_read}
use Rattle.byte_view.proofs.laws.no_spelling_begins_another.Goals as goal

pub returns : goal.returns
returns c = record {
  field = λ size. prefix_free-from_read (SpellsField size) (field_at size) (field_at-again size);
  run = λ size. prefix_free-from_read (SpellsRun size) (run_at size) (run_at-again size);
  text = prefix_free-from_read SpellsText text_at text_at-again;
  uleb = prefix_free-from_read SpellsUleb uleb_at uleb_at-again;
  sleb = prefix_free-from_read SpellsSleb sleb_at sleb_at-again;
}
