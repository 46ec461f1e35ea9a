use Rattle.std.proofs.Common.{◌≡◌, ◌++◌, List, ℕ, ap, ◌∙◌, arith}
use Rattle.branch_stacks.specs.Loads.{map_of, met_of}
use Rattle.branch_stacks.specs.Reader.{Reading, held_of}
use Rattle.branch_stacks.proofs.ReaderLemmas.{held_more}
use Rattle.branch_stacks.proofs.reader.Reader.hold.Goals as goal

pub returns : goal.returns
returns c =
    let added = rw c.unwrap.ensures at c.extend_from_slice.ensures.items in
    let inside = c.self.inside in
    let held : c.extend_from_slice.new.self.items ≡ held_of (inside.held.items ++ c.args.more.now) = held_more _ _ _ _ (omega (arith, c.self.invariant.0)) (omega arith) added in
    let now : Reading = record { file = inside.file; loading = map_of inside.loads; ended_lines = inside.ended_lines; met = met_of inside.loads; held = inside.held.items; size = inside.size; stop = inside.stop } in
    ap (λ (h : List ℕ). record now { held = h }) held ∙ ap (λ (r : Reading). record r { held = held_of (r.held ++ c.args.more.now) }) c.self.view_is
