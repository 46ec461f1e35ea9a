-- Marks of one round.
use Rattle.std.proofs.Common.{◌≡◌, ℕ, zero, suc, ◌+◌, ◌<◌, ◌==◌, false, List, [], ◌∷◌, length, map, replicate, Option, None, Some, refl, arith, ap, ◌∙◌}
use Rattle.std.specs.List.{AllByRecursion}
use Rattle.std.proofs.lemmas.Bool.{eq-eqb, ne_eqb}
use Rattle.std.proofs.lemmas.List.{map-set}
use Rattle.std.specs.Prelude.{slice_set}
use Rattle.reached_sides.specs.declared.mark.Mark.{Mark}
use Rattle.reached_sides.specs.declared.marks.Stamped.{Stamped}
use Rattle.reached_sides.specs.Rounds.{IsUpTo, made_in, mark_of}

abbrev pub no_mark : Option Mark
no_mark = None

not_made_before : (round : ℕ) (stamped : Stamped) → stamped.round < round → made_in round stamped ≡ None
not_made_before round stamped before =
    let other : (stamped.round == round) ≡ false = ne_eqb stamped.round round (λ e. omega (arith, e, before)) in rw other refl

pub none_made : (round n : ℕ) (stamped : Stamped) → stamped.round < round
    → map (made_in round) (replicate n stamped) ≡ replicate n no_mark
none_made round zero stamped before = refl
none_made round (suc n) stamped before =
    rw (not_made_before round stamped before)
    (ap (λ (marks : List (Option Mark)). no_mark ∷ marks) (none_made round n stamped before))

pub none_made_later : (round : ℕ) (sides : List Stamped) → AllByRecursion (IsUpTo round) sides
    → map (made_in (round + 1)) sides ≡ replicate (length (map (made_in round) sides)) no_mark
none_made_later round [] up = refl
none_made_later round (stamped ∷ sides) up =
    let here = up.0 in
    let more = none_made_later round sides up.1 in
    rw (not_made_before (round + 1) stamped (omega (arith, here))) (ap (λ (marks : List (Option Mark)). no_mark ∷ marks) more)

pub made_now : (round : ℕ) (sides : List Stamped) (side : ℕ) (stamped : Stamped) (mark : Mark)
    → stamped.round ≡ round → mark_of stamped ≡ mark
    → map (made_in round) (slice_set sides side stamped) ≡ slice_set (map (made_in round) sides) side (Some mark)
made_now round sides side stamped mark now is =
    let itself : made_in round stamped ≡ Some mark = rw (eq-eqb stamped.round round now) (ap (λ (m : Mark). Some m) is) in
    map-set (made_in round) sides side stamped ∙ ap (λ (made : Option Mark). slice_set (map (made_in round) sides) side made) itself
