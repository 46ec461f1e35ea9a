use Rattle.std.proofs.Common.{◌≡◌, ◌+◌, ◌-◌, take, drop, arith, length, length-drop}
use Rattle.std.proofs.lemmas.List.{take_all}
use Rattle.profile_text.proofs.PartLemmas.{part_ended, last_part}
use Rattle.profile_text.proofs.parts.split_part.Goals as goal

pub returns-in-Some : goal.returns-in-Some
returns-in-Some c =
    let text = c.args.text.now in
    let end = c.in-Some.end in
    let found = rw c.in-Some.is at c.memchr.ensures in
    let rest : take (length text - (end + 1)) (drop (end + 1) text) ≡ drop (end + 1) text =
    take_all _ _ (omega (arith, length-drop (end + 1) text)) in
    rw rest (part_ended c.args.byte text end found)

pub returns-in-None : goal.returns-in-None
returns-in-None c =
    let none = rw c.in-None.is at c.memchr.ensures in
    last_part c.args.byte c.args.text.now none
