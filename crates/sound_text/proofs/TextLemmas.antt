-- The functions of a good text are sound.
use Rattle.std.proofs.Common.{◌≡◌, ℕ, zero, suc, get_or, ◌+◌, ◌<◌, ◌≤◌, ◌==◌, ◌||◌, Bool, true, false, not, List, [], ◌∷◌, ◌++◌, length, Option, None, Some, refl, arith, sym, subst}
use Rattle.std.specs.Prelude.{nat_le, ⊤}
use Rattle.std.specs.List.{All, AllPairs, AllByRecursion, list_any}
use Rattle.std.proofs.lemmas.Bool.{leb-false, ltb-false, eqb-true, eqb-false, not-false, or_parts}
use Rattle.std.proofs.lemmas.List.{length_push, nil_from_length}
use Rattle.std.proofs.lemmas.Bool.Decides.{nat_tests}
use Rattle.std.proofs.lemmas.List.Elements.{All-from_recursion}
use Rattle.std.proofs.lemmas.List.Quantifiers.{all_pairs_push}
use Rattle.list_lemmas.proofs.Each.{all_append, all_push}
use Rattle.refusal.specs.declared.kind.Kind.{Kind}
use Rattle.refusal.specs.declared.kind.Kind.TheVariants.{BadLine, TooManyBlocks, BlockOrder, BlockEmpty, BlockOverlap, TooManyEdges, EdgeEnd, EdgeTwice, NoBlocks, BadBound}
use Rattle.refusal.specs.Place.{first_bad, first_cause}
use Rattle.refusal.proofs.PlaceLemmas.{first_bad-none}
use Rattle.text_model.specs.Lines.{lines_of}
use Rattle.block_model.specs.declared.parts.Block.{Block}
use Rattle.block_model.specs.declared.parts.Bound.{Bound}
use Rattle.block_model.specs.declared.parts.Edge.{Edge}
use Rattle.block_model.specs.Function.{Function, named, with_block, with_edge, overlap, joins}
use Rattle.block_model.specs.Judging.{exceeds, is_bad_bound, cause_of_block, cause_of_edge, cause_of_line, item, items_from, first_bad_of_text}
use Rattle.block_model.specs.Limits.{max_blocks, max_edges}
use Rattle.block_model.specs.Line.{Line, passed, begins, tells_block, tells_edge, ends, line_of}
use Rattle.block_model.specs.Text.{open_behind_line, closed_by_line, functions_from, functions_of}
use Rattle.flow_model.specs.Sound.{IsSoundUpper, IsSoundBound, JoinsBlocks, IsSound}
use Rattle.sound_text.specs.Laws.{GoodTextsAreSound, GoodTextsAreApart, AreApart, ShareNone, LeadApart}
use Rattle.sound_text.proofs.LineLemmas.{IsSmallUpper, IsSmall, SaysSmall, Of, small_line}

-- what a function keeps while it is open
record IsOpen (fun : Function) : Type 0 where
  pub few_blocks : length fun.blocks ≤ max_blocks
  pub few_edges : length fun.edges ≤ max_edges
  pub joined : AllByRecursion (JoinsBlocks (length fun.blocks)) fun.edges
  pub bounded_blocks : AllByRecursion (λ block. IsSoundBound block.bound) fun.blocks
  pub bounded_edges : AllByRecursion (λ edge. IsSoundBound edge.bound) fun.edges
  pub filled : AllByRecursion (λ block. block.lo < block.hi) fun.blocks
  pub blocks_apart : AllPairs ShareNone fun.blocks
  pub edges_apart : AllPairs LeadApart fun.edges

Keeps : Option Function → Type 0
Keeps None = ⊤
Keeps (Some fun) = IsOpen fun

abbrev Sound : Function → Type 0
Sound fun = IsSound fun.blocks fun.edges × AreApart fun.blocks fun.edges

none_at : {A : Type 0} (p : A → Bool) (xs : List A) (k : ℕ) (d : A) → list_any p xs ≡ false → k < length xs → p (get_or xs k d) ≡ false
none_at p [] k d none within = absurd (omega (arith, within))
none_at p (x ∷ xs) zero d none within = (or_parts (p x) (list_any p xs) none).0
none_at p (x ∷ xs) (suc k) d none within = none_at p xs k d (or_parts (p x) (list_any p xs) none).1 (omega (arith, within))

-- blocks that do not overlap share no address; edges that do not join the same blocks lead apart
share_none : (earlier block : Block) → overlap block earlier ≡ false → ShareNone earlier block
share_none earlier block apart a from below from_too below_too = grind (arith, nat_tests)

lead_apart : (earlier : Edge) (from to : ℕ) (bound : Bound) → joins from to earlier ≡ false → LeadApart earlier (record { from = from; to = to; bound = bound })
lead_apart earlier from to bound apart same_from same_to = grind (arith, nat_tests)

no_cause : (b : Bool) (kind : Kind) (rest : List (Bool × Kind)) → first_cause ((b, kind) ∷ rest) ≡ None → (b ≡ false) × (first_cause rest ≡ None)
no_cause true kind rest none = absurd (cc)
no_cause false kind rest none = (refl, none)

-- none of the causes of a block or of an edge, in their order
no_causes : (a b c d : Bool) (k l m n : Kind) (rest : List (Bool × Kind))
    → first_cause ((a, k) ∷ (b, l) ∷ (c, m) ∷ (d, n) ∷ rest) ≡ None
    → (a ≡ false) × (b ≡ false) × (c ≡ false) × (d ≡ false) × (first_cause rest ≡ None)
no_causes true b c d k l m n rest none = absurd (cc)
no_causes false true c d k l m n rest none = absurd (cc)
no_causes false false true d k l m n rest none = absurd (cc)
no_causes false false false true k l m n rest none = absurd (cc)
no_causes false false false false k l m n rest none = (refl, refl, refl, refl, none)

no_item : (file number : ℕ) (cause : Option Kind) → item file number cause ≡ None → cause ≡ None
no_item file number None none = refl
no_item file number (Some kind) none = absurd (cc)

sound_upper : (least : ℕ) (upper : Option ℕ) → exceeds least upper ≡ false → IsSmallUpper upper → IsSoundUpper least upper
unfolding IsSmallUpper
sound_upper least None fits small = tt
sound_upper least (Some most) fits small = (ltb-false most least fits, small)

sound_bound : (bound : Bound) → is_bad_bound bound ≡ false → IsSmall bound → IsSoundBound bound
sound_bound bound good small = record { small = small.low; ordered = sound_upper bound.lower bound.upper good small.high }

block_added : (fun : Function) (number : ℕ) (block : Block) → IsOpen fun → IsSmall block.bound → cause_of_block fun number block ≡ None → IsOpen (with_block fun block)
unfolding cause_of_block
block_added fun number block open' small good =
    let last : List (Bool × Kind) = (is_bad_bound block.bound, BadBound) ∷ [] in
    let rest : List (Bool × Kind) = (list_any (overlap block) fun.blocks, BlockOverlap) ∷ last in
    let causes = no_causes (not (length fun.edges == 0)) (nat_le max_blocks (length fun.blocks)) (not (number == length fun.blocks)) (nat_le block.hi block.lo)
    BadLine TooManyBlocks BlockOrder BlockEmpty rest good in
    let fifth = no_cause (list_any (overlap block) fun.blocks) BlockOverlap last causes.4 in
    let sixth = no_cause (is_bad_bound block.bound) BadBound [] fifth.1 in
    let none = nil_from_length fun.edges (eqb-true (length fun.edges) 0 (not-false _ causes.0)) in
    let few = leb-false max_blocks (length fun.blocks) causes.1 in
    let more = length_push fun.blocks block in
    record {
      few_blocks = omega (arith, few, more);
      few_edges = open'.few_edges;
      joined = subst (λ (edges : List Edge). AllByRecursion (JoinsBlocks (length (fun.blocks ++ block ∷ []))) edges) (sym none) tt;
      bounded_blocks = all_push (λ block. IsSoundBound block.bound) fun.blocks block open'.bounded_blocks (sound_bound block.bound sixth.0 small);
      bounded_edges = open'.bounded_edges;
      filled = all_push (λ block. block.lo < block.hi) fun.blocks block open'.filled (leb-false block.hi block.lo causes.3);
      blocks_apart = all_pairs_push ShareNone fun.blocks block open'.blocks_apart
          (λ k d within. share_none (get_or fun.blocks k d) block (none_at (overlap block) fun.blocks k d fifth.0 within));
      edges_apart = open'.edges_apart;
    }

edge_added : (fun : Function) (from to : ℕ) (bound : Bound) → IsOpen fun → IsSmall bound → cause_of_edge fun from to bound ≡ None
    → IsOpen (with_edge fun (record { from = from; to = to; bound = bound }))
unfolding cause_of_edge
edge_added fun from to bound open' small good =
    let edge : Edge = record { from = from; to = to; bound = bound } in
    let causes = no_causes (nat_le max_edges (length fun.edges)) (nat_le (length fun.blocks) from || nat_le (length fun.blocks) to) (list_any (joins from to) fun.edges) (is_bad_bound bound)
    TooManyEdges EdgeEnd EdgeTwice BadBound [] good in
    let ends_at = or_parts (nat_le (length fun.blocks) from) (nat_le (length fun.blocks) to) causes.1 in
    let few = leb-false max_edges (length fun.edges) causes.0 in
    let more = length_push fun.edges edge in
    record {
      few_blocks = open'.few_blocks;
      few_edges = omega (arith, few, more);
      joined = all_push (JoinsBlocks (length fun.blocks)) fun.edges edge open'.joined
          (record { leaves = leb-false (length fun.blocks) from ends_at.0; enters = leb-false (length fun.blocks) to ends_at.1 });
      bounded_blocks = open'.bounded_blocks;
      bounded_edges = all_push (λ edge. IsSoundBound edge.bound) fun.edges edge open'.bounded_edges (sound_bound bound causes.3 small);
      filled = open'.filled;
      blocks_apart = open'.blocks_apart;
      edges_apart = all_pairs_push LeadApart fun.edges edge open'.edges_apart
          (λ k d within. lead_apart (get_or fun.edges k d) from to bound (none_at (joins from to) fun.edges k d causes.2 within));
    }

ended : (fun : Function) → IsOpen fun → (length fun.blocks ≡ 0 → ⊥) → Sound fun
ended fun open' some = (
  record {
    some = omega (arith, some);
    few_blocks = open'.few_blocks;
    few_edges = open'.few_edges;
    joined = All-from_recursion (JoinsBlocks (length fun.blocks)) fun.edges open'.joined;
    bounded_blocks = All-from_recursion (λ block. IsSoundBound block.bound) fun.blocks open'.bounded_blocks;
    bounded_edges = All-from_recursion (λ edge. IsSoundBound edge.bound) fun.edges open'.bounded_edges;
  },
  record {
    filled = All-from_recursion (λ block. block.lo < block.hi) fun.blocks open'.filled;
    blocks_apart = open'.blocks_apart;
    edges_apart = open'.edges_apart;
  },
)

none_apart : {A : Type 0} (R : A → A → Type 0) → AllPairs R []
none_apart R i j d before within = absurd (omega (arith, within))

new : (name : List ℕ) → IsOpen (named name)
new name = record {
  few_blocks = omega arith;
  few_edges = omega arith;
  joined = tt;
  bounded_blocks = tt;
  bounded_edges = tt;
  filled = tt;
  blocks_apart = none_apart ShareNone;
  edges_apart = none_apart LeadApart;
}

-- one good line
stepped : (opened : Option Function) (said : Option Line) → Keeps opened → Of SaysSmall said → cause_of_line opened said ≡ None
    → Keeps (open_behind_line opened said) × AllByRecursion Sound (closed_by_line opened said)
unfolding cause_of_line Keeps
stepped opened None keeps small good = absurd (cc)
stepped None (Some passed) keeps small good = (tt, tt)
stepped (Some fun) (Some passed) keeps small good = (keeps, tt)
stepped None (Some (begins name)) keeps small good = (new name, tt)
stepped None (Some (tells_block number block)) keeps small good = absurd (cc)
stepped None (Some (tells_edge from to bound)) keeps small good = absurd (cc)
stepped None (Some ends) keeps small good = absurd (cc)
stepped (Some fun) (Some (begins name)) keeps small good = absurd (cc)
stepped (Some fun) (Some (tells_block number block)) keeps small good = (block_added fun number block keeps small good, tt)
stepped (Some fun) (Some (tells_edge from to bound)) keeps small good = (edge_added fun from to bound keeps small good, tt)
stepped (Some fun) (Some ends) keeps small good =
    let none = no_cause (length fun.blocks == 0) NoBlocks [] good in (tt, (ended fun keeps (eqb-false (length fun.blocks) 0 none.0), tt))

all_sound : (file number : ℕ) (opened : Option Function) (lines : List (List ℕ)) → Keeps opened
    → first_bad (items_from file number opened lines) ≡ None → AllByRecursion Sound (functions_from opened lines)
unfolding items_from functions_from
all_sound file number opened [] keeps good = tt
all_sound file number opened (line ∷ lines) keeps good =
    let parts = first_bad-none _ _ good in
    let step = stepped opened (line_of line) keeps (small_line line) (no_item file number _ parts.0) in
    all_append Sound (closed_by_line opened (line_of line)) (functions_from (open_behind_line opened (line_of line)) lines) step.1
    (all_sound file (number + 1) (open_behind_line opened (line_of line)) lines step.0 parts.1)

both : (file : ℕ) (text : List ℕ) → first_bad_of_text file text ≡ None → All Sound (functions_of text)
unfolding Keeps
both file text good =
    All-from_recursion Sound (functions_from None (lines_of text)) (all_sound file 1 None (lines_of text) tt good)

pub good_texts_are_sound : GoodTextsAreSound
good_texts_are_sound file text good k d within = (both file text good k d within).0

pub good_texts_are_apart : GoodTextsAreApart
good_texts_are_apart file text good k d within = (both file text good k d within).1
