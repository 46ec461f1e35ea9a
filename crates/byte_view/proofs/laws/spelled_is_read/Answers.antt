use Rattle.byte_view.proofs.Spellings.{field_at-again, run_at-again, text_at-again, uleb_at-again, sleb_at-again}
use Rattle.byte_view.proofs.laws.spelled_is_read.Goals as goal

pub returns : goal.returns
returns c = record {
  field = field_at-again;
  run = run_at-again;
  text = text_at-again;
  uleb = uleb_at-again;
  sleb = sleb_at-again;
}
