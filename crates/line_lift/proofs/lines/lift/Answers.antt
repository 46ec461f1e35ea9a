-- The largest counts are over the addresses of keys, and what has them is of given keys and names.
use Rattle.std.proofs.Common.{◌∙◌, ℕ, List, Option, None, ap, arith, get_or, length, subst, sym}
use Rattle.std.proofs.lemmas.Result.{IfOk-weaker}
use Rattle.address_spans.specs.Spans.{owner_at}
use Rattle.address_spans.specs.declared.span.Span.{Span}
use Rattle.cold_model.proofs.ColdLemmas.{none_besides}
use Rattle.key_types.specs.Segments.{key_told}
use Rattle.profile_laws.specs.Counts.{CountTheSame}
use Rattle.profile_text.specs.Numbers.{AreNumbersOf, counted}
use Rattle.profile_text.specs.declared.item.Item.{Item}
use Rattle.profile_tree.proofs.SumLemmas.{given_alone}
use Rattle.profile_tree.specs.Numbers.{numbers_said}
use Rattle.profile_tree.specs.Stated.{AreGiven}
use Rattle.line_lift.specs.Held.{IsCountOfKey}
use Rattle.line_lift.specs.Largest.{IsLargest}
use Rattle.line_lift.specs.Lift.{repaired}
use Rattle.line_lift.specs.Spans.{IsOwnerOver}
use Rattle.line_lift.proofs.LiftLemmas.{lifted_lines}
use Rattle.line_lift.proofs.lines.lift.Goals as goal

pub numbers_of-requires : goal.numbers_of-requires
numbers_of-requires c =
    (length c.args.names.now, subst (AreNumbersOf (length c.args.names.now) c.args.keys.now) (sym c.as_slice-items.ensures) c.requires.numbers)

pub hold-requires-clause-len : goal.hold-requires-clause-len
hold-requires-clause-len c =
    let of = c.in_ok-numbers.ensures.of (length c.args.names.now) (subst (AreNumbersOf (length c.args.names.now) c.args.keys.now) (sym c.as_slice-items.ensures) c.requires.numbers) in
    ap length c.deref-2.ensures.value ∙ c.in_ok-held.ensures.len ∙ c.len.ensures ∙ sym of.len

pub tree_of-requires-clause-numbers : goal.tree_of-requires-clause-numbers
tree_of-requires-clause-numbers c =
    let names = length c.args.names.now in
    let keys = c.args.keys.now in
    let old = c.in_ok-numbers.numbers in
    let held = c.hold.ensures in
    let of = c.in_ok-numbers.ensures.of names (subst (AreNumbersOf names keys) (sym c.as_slice-items.ensures) c.requires.numbers) in
    record {
      len = held.len ∙ of.len;
      given = subst (λ calls. AreGiven names keys calls c.hold.new.numbers.heads) (sym held.calls) (subst (AreGiven names keys old.calls) (sym held.heads) of.given);
    }

pub returns-clause-lines : goal.returns-clause-lines
returns-clause-lines c =
    let names = c.args.names.now in
    let keys = c.args.keys.now in
    let given = subst (AreNumbersOf (length names) keys) (sym c.as_slice-items.ensures) c.requires.numbers in
    let new = c.hold.new.numbers in
    let same : CountTheSame (numbers_said names keys c.in_ok-numbers.numbers) (counted names keys c.args.part.now.items) =
    subst (λ (items : List Item). CountTheSame (numbers_said names keys c.in_ok-numbers.numbers) (counted names keys items)) c.as_slice-items.ensures (c.in_ok-numbers.ensures.told names given) in
    IfOk-weaker c.tree_of.result _ _
    (λ tree is. is ∙ none_besides (numbers_said names keys new)
    ∙ lifted_lines names keys c.args.segments.now (repaired c.args.funs.now c.args.repairs.now) c.args.part.now.items (owner_at c.deref.result.now) c.deref-2.result.now c.in_ok-numbers.numbers new
    (given_alone names keys c.each_once-2.ensures c.each_once.ensures c.requires.numbers.key_names) c.requires.known
    (ap length c.deref-2.ensures.value ∙ c.in_ok-held.ensures.len ∙ c.len.ensures)
    (λ a. subst (λ (given : List Span). IsLargest (IsOwnerOver given a) (owner_at c.deref.result.now a)) c.in_ok-spans_of.ensures
    (subst (λ (made : List Span). IsLargest (IsOwnerOver c.in_ok-spans_of.field-0.items a) (owner_at made a)) (sym c.deref.ensures.value) (c.in_ok-spans.ensures.largest a)))
    (λ id low. subst (λ (held : List (Option ℕ)). IsLargest (IsCountOfKey (key_told c.args.segments.now) (owner_at c.deref.result.now) id) (get_or held id None)) (sym c.deref-2.ensures.value)
    (c.in_ok-held.ensures.largest id (omega (arith, low, c.len.ensures))))
    c.hold.ensures same) c.tree_of.ensures.lines
