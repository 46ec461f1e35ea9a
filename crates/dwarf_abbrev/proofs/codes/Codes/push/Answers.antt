use Rattle.std.proofs.Common.{◌≡◌, ◌≢◌, ◌-◌, ℕ, List, [], ◌∷◌, ◌++◌, length, None, Some, sym, subst, ap, ◌∙◌, arith}
use Rattle.std.proofs.lemmas.Grind.{common_steps}
use Rattle.dwarf_abbrev.specs.Codes.{IsIndex, place_of}
use Rattle.dwarf_abbrev.proofs.CodeLemmas.{IsIndex-in_order, IsIndex-other}
use Rattle.dwarf_abbrev.proofs.codes.Codes.push.Goals as goal

pub invariant_of-self-then-code-place : goal.invariant_of-self-then-code-place
invariant_of-self-then-code-place c =
    let codes = c.self.inside.codes.items in
    let fresh : place_of codes c.args.code ≡ None = subst (λ (cs : List ℕ). place_of cs c.args.code ≡ None) (sym c.self.view_is) c.requires.fresh in
    let at : c.args.code - 1 ≡ length codes = omega (arith, c.try_reserve.new.self.ok.0, ap (λ (cs : List ℕ). length cs) c.in_ok-try_reserve.ensures.items) in
    subst (λ (cs : List ℕ). IsIndex cs c.self.inside.others) (sym (c.push_reserved.ensures.items ∙ ap (λ (cs : List ℕ). cs ++ c.args.code ∷ []) c.in_ok-try_reserve.ensures.items))
    (IsIndex-in_order codes c.self.inside.others c.args.code c.self.invariant fresh c.requires.positive at)

pub invariant_of-self-2 : goal.invariant_of-self-2
invariant_of-self-2 c =
    let codes = c.self.inside.codes.items in
    let fresh : place_of codes c.args.code ≡ None = subst (λ (cs : List ℕ). place_of cs c.args.code ≡ None) (sym c.self.view_is) c.requires.fresh in
    let place : c.len-place.result ≡ length codes = omega (arith, c.try_reserve.new.self.ok.0, ap (λ (cs : List ℕ). length cs) c.in_ok-try_reserve.ensures.items) in
    let apart : c.args.code - 1 ≢ length codes = λ e. c.if-code-place.false (e ∙ sym place) in
    subst (λ (cs : List ℕ). IsIndex cs c.insert.new.self) (sym (c.push_reserved-2.ensures.items ∙ ap (λ (cs : List ℕ). cs ++ c.args.code ∷ []) c.in_ok-try_reserve.ensures.items))
    (IsIndex-other codes c.self.inside.others c.insert.new.self c.args.code c.self.invariant fresh apart (c.in_ok-insert.ensures.updates.1 ∙ ap Some place)
    (λ q unlike. let h = c.in_ok-insert.ensures.updates.0 q in grind (arith, common_steps)))
