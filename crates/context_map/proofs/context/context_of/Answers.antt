use Rattle.std.proofs.Common.{◌<◌, arith, ap, get_or, refl}
use Rattle.key_types.proofs.SearchLemmas.{get_or-within}
use Rattle.chain_model.specs.declared.member.Member.{Member}
use Rattle.context_map.specs.Paths.{nobody}
use Rattle.context_map.proofs.ParentLemmas.{climb-before, member-is}
use Rattle.context_map.proofs.NameLemmas.{ClimbedSoFar-more, ClimbedSoFar-all}
use Rattle.context_map.proofs.context.context_of.Goals as goal

pub loop-function-preserved-then-named : goal.loop-function-preserved-then-named
loop-function-preserved-then-named c =
    let members = c.args.members.now in
    let function = c.loop-function.function in
    let parent = c.in-Some.parent in
    let before : parent < function = climb-before members c.args.parents.now function parent c.requires.parents c.loop-function.invariant.here c.in-Some.is in
    let start = get_or-within members parent c.index-members-parent.result nobody (omega (arith, before, c.loop-function.invariant.here)) in
    let call = member-is members function c.index-members-function.result c.loop-function.invariant.here c.index-members-function.is in
    ClimbedSoFar-more members c.args.parents.now c.args.base c.args.number function parent _ _ _ c.loop-function.all_named _ _ _
    c.loop-function.invariant c.requires.parents c.in-Some.is call (ap (λ (m : Member). m.start) start) c.in_ok-named.ensures
    (rw c.if-named.true refl)

pub loop-function-preserved : goal.loop-function-preserved
loop-function-preserved c =
    let members = c.args.members.now in
    let function = c.loop-function.function in
    let parent = c.in-Some.parent in
    let before : parent < function = climb-before members c.args.parents.now function parent c.requires.parents c.loop-function.invariant.here c.in-Some.is in
    let start = get_or-within members parent c.index-members-parent.result nobody (omega (arith, before, c.loop-function.invariant.here)) in
    let call = member-is members function c.index-members-function.result c.loop-function.invariant.here c.index-members-function.is in
    ClimbedSoFar-more members c.args.parents.now c.args.base c.args.number function parent _ _ _ c.loop-function.all_named _ _ _
    c.loop-function.invariant c.requires.parents c.in-Some.is call (ap (λ (m : Member). m.start) start) c.in_ok-named.ensures
    (rw c.if-named.false refl)

pub returns : goal.returns
returns c =
    let members = c.args.members.now in
    let function = c.loop-function.function in
    let here = c.loop-function.invariant.here in
    ClimbedSoFar-all members c.args.parents.now c.args.base c.args.number c.index-members-number.result.start _ _ _
    (get_or members function c.index-members-function-2.result) _
    c.loop-function.invariant c.requires.parents c.in_default.is
    (get_or-within members function c.index-members-function-2.result nobody here)
    (ap (λ (m : Member). m.start) (member-is members c.args.number c.index-members-number.result c.requires.there c.index-members-number.is))
    (ap (λ (m : Member). m.unit) (get_or-within members function c.index-members-function-3.result c.index-members-function-2.result here))
    c.reverse.ensures.items c.named_by-named.ensures
