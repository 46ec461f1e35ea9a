-- What is asked for, one row or block behind the other.
use Rattle.std.proofs.Common.{◌≡◌, ◌+◌, ◌<◌, ℕ, Bool, true, List, length, take, get_or, Option, None, Some, refl, subst}
use Rattle.std.specs.List.{All}
use Rattle.std.proofs.lemmas.List.Elements.{All-more, All-nil, All-weaker}
use Rattle.block_model.specs.declared.parts.Block.{Block}
use Rattle.cfg_text.specs.declared.fun.Fun.{Fun}
use Rattle.sample_model.specs.declared.pair.Pair.{Pair}
use Rattle.span_cover.specs.Asked.{Keeps, asks}
use Rattle.profile_maker.specs.Asked.{AsksBlock, AsksBlocks, AsksEnds}

-- what was asked for is asked for still
still : (marks more : List Bool) → Keeps marks more → (function : Option ℕ) → asks marks function ≡ true → asks more function ≡ true
still marks more keeps None asked = refl
still marks more keeps (Some function) asked = keeps function asked

pub keeps_all : (marks : List Bool) → Keeps marks marks
keeps_all marks = λ function asked. asked

pub keeps_both : (marks more most : List Bool) → Keeps marks more → Keeps more most → Keeps marks most
keeps_both marks more most one two = λ function asked. two function (one function asked)

module _ (function : ℕ → Option ℕ) where
  -- ---- rows

  ends_still : (marks more : List Bool) → Keeps marks more → (row : Pair) → AsksEnds function marks row → AsksEnds function more row
  ends_still marks more keeps row asks = record {
    from = still marks more keeps (function row.from) asks.from;
    to = still marks more keeps (function row.to) asks.to;
  }

  pub rows_still : (marks more : List Bool) → Keeps marks more → (rows : List Pair) → All (AsksEnds function marks) rows → All (AsksEnds function more) rows
  rows_still marks more keeps rows all =
      All-weaker (AsksEnds function marks) (AsksEnds function more) (ends_still marks more keeps) rows all

  -- The ends of so many rows were asked for.
  pub record AskedRows (first : List Bool) (rows : List Pair) (n : ℕ) (marks : List Bool) : Type 0 where
    pub each : All (AsksEnds function marks) (take n rows)
    pub kept : Keeps first marks

  pub rows_start : (first : List Bool) (rows : List Pair) → AskedRows first rows 0 first
  rows_start first rows = record { each = All-nil (AsksEnds function first); kept = keeps_all first }

  pub rows_more : (first marks between more : List Bool) (rows : List Pair) (n : ℕ) (d : Pair) → n < length rows → AskedRows first rows n marks
      → asks between (function (get_or rows n d).from) ≡ true → Keeps marks between
      → asks more (function (get_or rows n d).to) ≡ true → Keeps between more → AskedRows first rows (n + 1) more
  rows_more first marks between more rows n d within so_far from one to two =
      let kept : Keeps marks more = keeps_both marks between more one two in
      record {
        each = All-more (AsksEnds function more) rows n d within (rows_still marks more kept (take n rows) so_far.each)
            (record { from = still between more two (function (get_or rows n d).from) from; to = to });
        kept = keeps_both first marks more so_far.kept kept;
      }

  -- ---- blocks

  block_still : (marks more : List Bool) → Keeps marks more → (block : Block) → AsksBlock function marks block → AsksBlock function more block
  block_still marks more keeps block asked = λ address low high. still marks more keeps (function address) (asked address low high)

  pub blocks_still : (marks more : List Bool) → Keeps marks more → (blocks : List Block) → AsksBlocks function marks blocks → AsksBlocks function more blocks
  blocks_still marks more keeps blocks all =
      All-weaker (AsksBlock function marks) (AsksBlock function more) (block_still marks more keeps) blocks all

  -- The places in so many blocks were asked for.
  pub record AskedBlocks (first : List Bool) (blocks : List Block) (n : ℕ) (marks : List Bool) : Type 0 where
    pub each : AsksBlocks function marks (take n blocks)
    pub kept : Keeps first marks

  pub blocks_start : (first : List Bool) (blocks : List Block) → AskedBlocks first blocks 0 first
  blocks_start first blocks = record { each = All-nil (AsksBlock function first); kept = keeps_all first }

  pub blocks_more : (first marks more : List Bool) (blocks : List Block) (n : ℕ) (d : Block) → n < length blocks → AskedBlocks first blocks n marks
      → AsksBlock function more (get_or blocks n d) → Keeps marks more → AskedBlocks first blocks (n + 1) more
  blocks_more first marks more blocks n d within so_far asked one = record {
    each = All-more (AsksBlock function more) blocks n d within (blocks_still marks more one (take n blocks) so_far.each) asked;
    kept = keeps_both first marks more so_far.kept one;
  }

  -- The places in the blocks of so many functions were asked for.
  pub record AskedFuns (first : List Bool) (funs : List Fun) (n : ℕ) (marks : List Bool) : Type 0 where
    pub each : All (λ (fun : Fun). AsksBlocks function marks fun.blocks) (take n funs)
    pub kept : Keeps first marks

  pub funs_start : (first : List Bool) (funs : List Fun) → AskedFuns first funs 0 first
  funs_start first funs = record { each = All-nil (λ (fun : Fun). AsksBlocks function first fun.blocks); kept = keeps_all first }

  pub funs_more : (first marks more : List Bool) (funs : List Fun) (n : ℕ) (fun : Fun) → n < length funs → fun ≡ get_or funs n fun → AskedFuns first funs n marks
      → AsksBlocks function more fun.blocks → Keeps marks more → AskedFuns first funs (n + 1) more
  funs_more first marks more funs n fun within here so_far asked one = record {
    each = All-more (λ (f : Fun). AsksBlocks function more f.blocks) funs n fun within
        (All-weaker (λ (f : Fun). AsksBlocks function marks f.blocks) (λ (f : Fun). AsksBlocks function more f.blocks)
        (λ f all. blocks_still marks more one f.blocks all) (take n funs) so_far.each)
        (subst (λ (f : Fun). AsksBlocks function more f.blocks) here asked);
    kept = keeps_both first marks more so_far.kept one;
  }
