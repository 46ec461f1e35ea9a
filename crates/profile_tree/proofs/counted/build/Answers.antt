use Rattle.std.proofs.Common.{◌∙◌, sym}
use Rattle.std.specs.Prelude.{IfOk, Result, Ok, Err}
use Rattle.cold_model.proofs.ColdLemmas.{none_besides}
use Rattle.profile_model.specs.Profile.{lines_of}
use Rattle.profile_tree.specs.Numbers.{numbers_said}
use Rattle.profile_tree.specs.Said.{said}
use Rattle.profile_tree.proofs.counted.build.Goals as goal

both : {T E : Type 0} (r : Result T E) (P Q R : T → Type 0) → ((x : T) → P x → Q x → R x) → IfOk r P → IfOk r Q → IfOk r R
both (Ok x) P Q R f p q = f x p q
both (Err e) P Q R f p q = tt

pub returns-clause-lines : goal.returns-clause-lines
returns-clause-lines c =
    let names = c.args.names.now in
    let keys = c.args.keys.now in
    let calls_are = c.in_ok-numbers.ensures.calls ∙ c.in_ok-calls.ensures.items in
    let heads_are = c.in_ok-numbers.ensures.heads ∙ c.in_ok-heads.ensures.items in
    both c.tree_of.result _ _ _
    (λ tree lines counts.
    lines ∙ none_besides (numbers_said names keys c.in_ok-numbers.numbers)
    ∙ (λ i. lines_of (said names keys (sym counts i) (calls_are i) (heads_are i)))) c.tree_of.ensures.lines c.tree_of.ensures.counts
