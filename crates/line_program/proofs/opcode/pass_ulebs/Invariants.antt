use Rattle.std.proofs.Common.{◌≡◌, ◌≤◌, ◌-◌, length}
use Rattle.line_model.specs.Reading.{ulebs_at}
use Rattle.line_program.proofs.opcode.pass_ulebs.Given as goal

abbrev pub invariant-loop : goal.invariant-loop
invariant-loop l = record {
  same : ulebs_at (l.count - l.counter) l.cur.left ≡ ulebs_at l.count l.fn.cur.left;
  shorter : length l.cur.left ≤ length l.fn.cur.left;
}
