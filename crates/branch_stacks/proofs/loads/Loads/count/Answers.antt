use Rattle.std.proofs.Common.{◌≡◌, ◌<◌, ◌++◌, ◌∷◌, [], ℕ, List, Ok, Err, length, map, ap, subst, sym, ◌∙◌, arith, OnOk}
use Rattle.std.proofs.lemmas.Grind.{common_steps}
use Rattle.std.proofs.lemmas.List.{append-nil}
use Rattle.sample_model.specs.Loads.{loads_of}
use Rattle.sample_model.specs.Moves.{moved_branch}
use Rattle.branch_stacks.proofs.LoadLemmas.{length-moved_ranges, no_loads}
use Rattle.branch_stacks.proofs.loads.Loads.count.Goals as goal
use Rattle.branch_stacks.proofs.loads.Loads.count.Goals.{then-is_empty+in_ok-meet, else-is_empty}

pub add_sample-requires : goal.add_sample-requires
add_sample-requires c =
    let moved = map (moved_branch c.if-is_empty.self.segments c.if-is_empty.self.met) c.args.branches.now in
    let parts = c.in_ok-move_branches.ensures.branches in
    omega (
      arith,
      length-moved_ranges moved,
      ap (λ (t : List (ℕ × ℕ)). length t) (c.deref.ensures.value ∙ parts.0),
      ap (λ (t : List (ℕ × ℕ)). length t) (c.deref-2.ensures.value ∙ parts.1),
    )

pub returns-clause-met : goal.returns-clause-met
returns-clause-met c =
    let line = c.args.line.now in
    let name = c.args.self.now.name.items in
    let met : c.if-is_empty.self.met ≡ c.args.self.now.met ++ loads_of name (line ∷ []) = elim c.if-is_empty.branch [
      | then-is_empty+in_ok-meet w ↦ rw w.self-is w.in_ok-meet.ensures.met
      | else-is_empty w ↦
          let some : 0 < length c.args.branches.now = grind (arith, common_steps) in
          let none : loads_of name (line ∷ []) ≡ [] = no_loads name line (subst (λ (bs : List (ℕ × ℕ)). 0 < length bs) c.requires some) in
          rw (w.self-is, none) (sym (append-nil c.args.self.now.met))
    ]
    in
    let all : c.move_branches.new.self.met ≡ c.args.self.now.met ++ loads_of name (line ∷ []) = c.move_branches.ensures.same.1 ∙ met in
    elim c.add_sample.result as (λ r. OnOk r (c.move_branches.new.self.met ≡ c.args.self.now.met ++ loads_of name (line ∷ []))) [ Ok done ↦ all | Err stop ↦ tt ]
