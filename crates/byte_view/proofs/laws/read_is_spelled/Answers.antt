use Rattle.byte_view.proofs.Fronts.{field_at-spelled, run_at-spelled, text_at-spelled, uleb_at-spelled, sleb_at-spelled}
use Rattle.byte_view.proofs.laws.read_is_spelled.Goals as goal

pub returns : goal.returns
returns c = record {
  field = field_at-spelled;
  run = run_at-spelled;
  text = text_at-spelled;
  uleb = uleb_at-spelled;
  sleb = sleb_at-spelled;
}
