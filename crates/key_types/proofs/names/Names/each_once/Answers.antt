use Rattle.std.proofs.Common.{ℕ, List, map, nat_eq, subst}
use Rattle.std.specs.Cmp.Lexicographic.{pointwise, bytes_decides}
use Rattle.key_types.specs.Numbers.{IsNumbered}
use Rattle.key_types.specs.declared.names.Text.{Text}
use Rattle.key_types.proofs.NumberLemmas.{numbered, IsDistinct-map}
use Rattle.key_types.proofs.names.Names.each_once.Goals as goal

pub returns : goal.returns
returns c =
    let name : Text → List ℕ = λ text. text.0.now in
    let items = c.self.inside.names.keys in
    subst (λ (names : List (List ℕ)). IsNumbered names) c.self.view_is
    (numbered (pointwise nat_eq) bytes_decides (map name items) (IsDistinct-map name (pointwise nat_eq) items c.len-len.ensures.unique))
