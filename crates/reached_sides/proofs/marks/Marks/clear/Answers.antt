use Rattle.std.proofs.Common.{rules, arith, ◌∙◌, ap, sym, replicate}
use Rattle.std.proofs.lemmas.List.{length-map}
use Rattle.std.proofs.lemmas.List.Elements.{recursion_from_All}
use Rattle.reached_sides.proofs.RoundLemmas.{no_mark, none_made, none_made_later}
use Rattle.reached_sides.specs.Rounds.{made_in, IsUpTo}
use Rattle.reached_sides.proofs.marks.Marks.clear.Goals as goal

pub returns-then-self : goal.returns-then-self
returns-then-self c =
    let same = c.fill.ensures.items (search rules) in
    let before = c.none.ensures in
    rw (← c.self.view_is, same) (none_made 1 _ c.none.result (omega (arith, before))
    ∙ ap (λ n. replicate n no_mark) (sym (length-map c.self.inside.sides.items (made_in c.self.inside.round) ∙ sym c.self.inside.sides.ok.0)))

pub returns-else-self : goal.returns-else-self
returns-else-self c =
    rw (← c.self.view_is) (none_made_later c.self.inside.round c.self.inside.sides.items (recursion_from_All (IsUpTo c.self.inside.round) _ c.self.invariant))
