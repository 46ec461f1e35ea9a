-- As many unknown weights as a function has edges.
use Rattle.std.proofs.Common.{◌≡◌, ◌<◌, ◌≤◌, ◌+◌, ◌^◌, ℕ, List, [], ◌∷◌, ◌++◌, length, map, take, refl, sym, ap, subst, ◌∙◌, arith, get_or}
use Rattle.std.proofs.lemmas.List.{length-map, map_push, take_all, take_more}
use Rattle.std.proofs.lemmas.List.Elements.{All-from_get_or, All-map}
use Rattle.block_model.specs.declared.parts.Edge.{Edge}
use Rattle.block_model.specs.declared.parts.Weight.{Weight}
use Rattle.block_model.specs.declared.parts.Weight.TheVariants.{Unknown}
use Rattle.block_model.specs.Limits.{bound_bits}
use Rattle.block_model.specs.Function.{unbounded}
use Rattle.flow_model.specs.Network.{weight_of}
use Rattle.flow_model.specs.Sound.{AreWeights}

-- So many edges have an unknown weight.
pub record UnknownSoFar (edges : List Edge) (n : ℕ) (made : List Weight) : Type 0 where
  pub same : made ≡ map (λ edge. Unknown) (take n edges)

pub UnknownSoFar-start : (edges : List Edge) → UnknownSoFar edges 0 []
UnknownSoFar-start edges = record { same = refl }

-- some edge, for a place behind the end
abbrev no_edge : Edge
no_edge = record { from = 0; to = 0; bound = unbounded }

pub UnknownSoFar-more : (edges : List Edge) (n : ℕ) (made : List Weight) → UnknownSoFar edges n made → n < length edges
    → UnknownSoFar edges (n + 1) (made ++ Unknown ∷ [])
UnknownSoFar-more edges n made so_far within = record {
  same = ap (λ ws. ws ++ Unknown ∷ []) so_far.same
      ∙ sym (ap (map (λ e. Unknown)) (take_more edges n no_edge within) ∙ map_push (λ e. Unknown) (take n edges) (get_or edges n no_edge));
}

pub UnknownSoFar-end : (edges : List Edge) (n : ℕ) (made : List Weight) → UnknownSoFar edges n made → length edges ≤ n → made ≡ map (λ edge. Unknown) edges
UnknownSoFar-end edges n made so_far past = so_far.same ∙ ap (map (λ e. Unknown)) (take_all n edges past)

-- Unknown weights are small.
pub unknown_small : (edges : List Edge) (made : List Weight) → made ≡ map (λ edge. Unknown) edges → AreWeights (length edges) made
unknown_small edges made is = subst (λ ws. AreWeights (length edges) ws) (sym is) (record {
  each = length-map edges (λ edge. Unknown);
  small = All-map (λ weight. weight_of weight < 2 ^ bound_bits) (λ edge. Unknown) edges
      (All-from_get_or (λ edge. 0 < 2 ^ bound_bits) edges no_edge (λ i within. omega arith));
})
