use Rattle.std.proofs.Common.{◌≡◌, ◌++◌, take}
use Rattle.std.specs.List.{flat_map}
use Rattle.answer_text.specs.Calls.{call_text}
use Rattle.answer_text.proofs.place.push_calls.Given as goal

abbrev pub invariant-loop-call : goal.invariant-loop-call
invariant-loop-call l = l.out.items ≡ l.initial.out.items ++ flat_map (call_text l.names) (take l.call-index l.calls)
