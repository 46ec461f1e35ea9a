-- One arc more, of those that a function's network has.
use Rattle.std.proofs.Common.{◌≡◌, ℕ, ◌+◌, ◌<◌, ◌≤◌, Bool, true, false, List, [], ◌∷◌, ◌++◌, length, get_or, drop, if◌then◌else◌, refl, append_assoc, ap, ◌∙◌, sym}
use Rattle.std.specs.Prelude.{nat_lt}
use Rattle.std.proofs.lemmas.List.{drop_more, drop_all, append-nil}
use Rattle.block_model.specs.declared.parts.Block.{Block}
use Rattle.block_model.specs.declared.parts.Edge.{Edge}
use Rattle.block_model.specs.declared.parts.Weight.{Weight}
use Rattle.flow_model.specs.declared.arc.Arc.{Arc}
use Rattle.flow_model.specs.Circulation.{root}
use Rattle.flow_model.specs.Network.{weight_of, some_sampled, block_arc, block_arcs, edge_arc, edge_arcs, out_side, free_arc, return_arcs}

pushed : (arcs rest all : List Arc) (x : Arc) → arcs ++ (x ∷ rest) ≡ all → (arcs ++ x ∷ []) ++ rest ≡ all
pushed arcs rest all x e = rw append_assoc e

pub block_pushed : (arcs all : List Arc) (number : ℕ) (blocks : List Block) (weights : List Weight) (block : Block) (weight : Weight)
    → number < length blocks → number < length weights
    → arcs ++ block_arcs number (drop number blocks) (drop number weights) ≡ all
    → (arcs ++ block_arc number (get_or blocks number block) (get_or weights number weight) ∷ [])
    ++ block_arcs (number + 1) (drop (number + 1) blocks) (drop (number + 1) weights) ≡ all
block_pushed arcs all number blocks weights block weight within also so_far =
    let at = rw (drop_more blocks number block within, drop_more weights number weight also) at so_far in
    pushed arcs _ all _ at

pub edge_pushed : (arcs all : List Arc) (number : ℕ) (edges : List Edge) (weights : List Weight) (edge : Edge) (weight : Weight)
    → number < length edges → number < length weights
    → arcs ++ edge_arcs (drop number edges) (drop number weights) ≡ all
    → (arcs ++ edge_arc (get_or edges number edge) (get_or weights number weight) ∷ [])
    ++ edge_arcs (drop (number + 1) edges) (drop (number + 1) weights) ≡ all
edge_pushed arcs all number edges weights edge weight within also so_far =
    let at = rw (drop_more edges number edge within, drop_more weights number weight also) at so_far in
    pushed arcs _ all _ at

apart : (b : Bool) (x : Arc) (rest : List Arc) → (if b then x ∷ rest else rest) ≡ (if b then x ∷ [] else []) ++ rest
apart true x rest = refl
apart false x rest = refl

pub return_pushed : (arcs all : List Arc) (number : ℕ) (blocks : List Block) (block : Block)
    → number < length blocks
    → arcs ++ return_arcs number (drop number blocks) ≡ all
    → (arcs ++ (if (get_or blocks number block).exit then free_arc (out_side number) root 0 ∷ [] else []))
    ++ return_arcs (number + 1) (drop (number + 1) blocks) ≡ all
return_pushed arcs all number blocks block within so_far =
    let at = rw (drop_more blocks number block within) at so_far in
    let rest = return_arcs (number + 1) (drop (number + 1) blocks) in
    let new = free_arc (out_side number) root 0 in
    append_assoc arcs (if (get_or blocks number block).exit then new ∷ [] else []) rest
    ∙ (ap (λ (more : List Arc). arcs ++ more) (sym (apart (get_or blocks number block).exit new rest)) ∙ at)

-- behind the last one
pub blocks_done : (arcs all : List Arc) (number : ℕ) (blocks : List Block) (weights : List Weight) → length blocks ≤ number
    → arcs ++ block_arcs number (drop number blocks) (drop number weights) ≡ all → arcs ≡ all
blocks_done arcs all number blocks weights past so_far =
    let at = rw (drop_all number blocks past) at so_far in sym (append-nil arcs) ∙ at

pub edges_done : (arcs all : List Arc) (number : ℕ) (edges : List Edge) (weights : List Weight) → length edges ≤ number
    → arcs ++ edge_arcs (drop number edges) (drop number weights) ≡ all → arcs ≡ all
edges_done arcs all number edges weights past so_far =
    let at = rw (drop_all number edges past) at so_far in sym (append-nil arcs) ∙ at

pub returns_done : (arcs all : List Arc) (number : ℕ) (blocks : List Block) → length blocks ≤ number
    → arcs ++ return_arcs number (drop number blocks) ≡ all → arcs ≡ all
returns_done arcs all number blocks past so_far =
    let at = rw (drop_all number blocks past) at so_far in sym (append-nil arcs) ∙ at

-- who was sampled
pub sampled_here : (weights : List Weight) (i : ℕ) (weight : Weight) → i < length weights
    → nat_lt 0 (weight_of (get_or weights i weight)) ≡ true
    → some_sampled (drop i weights) ≡ some_sampled weights → true ≡ some_sampled weights
sampled_here weights i weight within some so_far =
    let at = rw (drop_more weights i weight within, some) at so_far in at

pub sampled_later : (weights : List Weight) (i : ℕ) (weight : Weight) → i < length weights
    → nat_lt 0 (weight_of (get_or weights i weight)) ≡ false
    → some_sampled (drop i weights) ≡ some_sampled weights → some_sampled (drop (i + 1) weights) ≡ some_sampled weights
sampled_later weights i weight within none so_far =
    let at = rw (drop_more weights i weight within, none) at so_far in at
