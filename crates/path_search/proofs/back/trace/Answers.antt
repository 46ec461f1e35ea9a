use Rattle.std.proofs.Common.{◌≡◌, ℕ, ◌<◌, ◌++◌, ◌∷◌, [], Option, subst, sym}
use Rattle.flow_model.specs.Network.{arcs_of}
use Rattle.reached_sides.specs.declared.mark.Mark.{Mark}
use Rattle.path_search.specs.Path.{step_start}
use Rattle.path_search.specs.Trace.{TellsStep}
use Rattle.path_search.proofs.TraceLemmas.{level_at, IsTracing, marked, traced_more, step_inside, traced_all}
use Rattle.path_search.proofs.back.trace.Goals as goal

pub bounds-arcs-step : goal.bounds-arcs-step
bounds-arcs-step c =
    let has = c.requires.ways in
    let mark = marked c.args.marks.now c.args.side c.loop-current.current has.waits c.loop-current.invariant.known in
    let told = subst (λ (at : Option Mark). TellsStep at c.step_to-step.result) mark.1 c.step_to-step.ensures in
    rw c.arcs-arcs.ensures.arcs (step_inside _ _ _ _ _ _ has mark.1 c.loop-current-test.true told).0

pub loop-current-smaller : goal.loop-current-smaller
loop-current-smaller c =
    let has = c.requires.ways in
    let mark = marked c.args.marks.now c.args.side c.loop-current.current has.waits c.loop-current.invariant.known in
    let told = subst (λ (at : Option Mark). TellsStep at c.step_to-step.result) mark.1 c.step_to-step.ensures in
    let at : c.start_of-current.result ≡ step_start (arcs_of c.args.net.now) c.step_to-step.result =
    rw c.arcs-arcs.ensures.arcs at c.start_of-current.ensures in
    subst (λ (s : ℕ). level_at c.args.marks.now s < level_at c.args.marks.now c.loop-current.current) (sym at)
    (step_inside _ _ _ _ _ _ has mark.1 c.loop-current-test.true told).1

pub loop-current-preserved : goal.loop-current-preserved
loop-current-preserved c =
    let has = c.requires.ways in
    let mark = marked c.args.marks.now c.args.side c.loop-current.current has.waits c.loop-current.invariant.known in
    let told = subst (λ (at : Option Mark). TellsStep at c.step_to-step.result) mark.1 c.step_to-step.ensures in
    let at : c.start_of-current.result ≡ step_start (arcs_of c.args.net.now) c.step_to-step.result =
    rw c.arcs-arcs.ensures.arcs at c.start_of-current.ensures in
    let more = traced_more _ _ _ _ _ _ _ has mark.1 c.loop-current-test.true told c.loop-current.invariant in
    rw c.in_ok-push.ensures.items (subst (λ (s : ℕ). IsTracing (arcs_of c.args.net.now) c.args.marks.now c.args.source c.args.side s
    (c.loop-current.path.items ++ c.step_to-step.result ∷ [])) (sym at) more)

pub returns : goal.returns
returns c = traced_all _ _ _ _ _ _ c.loop-current-test.false c.loop-current.invariant
