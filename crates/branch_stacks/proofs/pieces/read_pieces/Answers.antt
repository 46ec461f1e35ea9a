use Rattle.std.proofs.Common.{◌≡◌, ℕ, List, take, refl, subst, arith, Bor}
use Rattle.std.specs.List.{flat_map}
use Rattle.std.proofs.lemmas.List.{take_all}
use Rattle.std.proofs.lemmas.Result.{err_from_is_err_and}
use Rattle.branch_stacks.proofs.PieceLemmas.{PiecesSoFar, PiecesSoFar-none, pieces_ended, pieces_stopped}
use Rattle.branch_stacks.proofs.TextLemmas.{Tells_none-nothing}
use Rattle.branch_stacks.proofs.pieces.read_pieces.Goals as goal

pub loop-piece-init : goal.loop-piece-init
loop-piece-init c = record { read = PiecesSoFar-none _ _ c.requires.new (Tells_none-nothing _ c.keeps.ensures c.requires.nothing); ranged = refl }

pub returns-in_err-feed-clause-judged : goal.returns-in_err-feed-clause-judged
returns-in_err-feed-clause-judged c =
    let p = err_from_is_err_and c.from_residual.result c.from_residual.ensures.1 in
    rw (p.1, p.2) (pieces_stopped (λ (piece : Bor (List ℕ)). piece.now) c.args.pieces.now c.loop-piece.piece-index _ c.args.reader.now.loading c.args.reader.now.file c.loop-piece.reader c.feed.new.self c.loop-piece.counts c.feed.new.counts _
    (omega arith) c.loop-piece.invariant.read c.in_err-feed.ensures.judged).0

pub returns-in_err-feed-clause-before : goal.returns-in_err-feed-clause-before
returns-in_err-feed-clause-before c =
    let p = err_from_is_err_and c.from_residual.result c.from_residual.ensures.1 in
    rw (p.1, p.2) (pieces_stopped (λ (piece : Bor (List ℕ)). piece.now) c.args.pieces.now c.loop-piece.piece-index _ c.args.reader.now.loading c.args.reader.now.file c.loop-piece.reader c.feed.new.self c.loop-piece.counts c.feed.new.counts _
    (omega arith) c.loop-piece.invariant.read c.in_err-feed.ensures.judged).1

pub returns-clause-judged : goal.returns-clause-judged
returns-clause-judged c =
    let text : List (Bor (List ℕ)) → List ℕ = λ pieces. flat_map (λ (piece : Bor (List ℕ)). piece.now) pieces in
    let all : take c.loop-piece.piece-index c.args.pieces.now ≡ c.args.pieces.now = take_all _ _ (omega arith) in
    (pieces_ended c.args.reader.now.loading c.args.reader.now.file (text c.args.pieces.now) c.loop-piece.reader c.finish.new.self c.loop-piece.counts c.finish.new.counts c.finish.result
    (subst (λ pieces. PiecesSoFar c.args.reader.now.loading c.args.reader.now.file (text pieces) c.loop-piece.reader c.loop-piece.counts) all c.loop-piece.invariant.read) c.finish.ensures.judged).0

pub returns-clause-before : goal.returns-clause-before
returns-clause-before c =
    let text : List (Bor (List ℕ)) → List ℕ = λ pieces. flat_map (λ (piece : Bor (List ℕ)). piece.now) pieces in
    let all : take c.loop-piece.piece-index c.args.pieces.now ≡ c.args.pieces.now = take_all _ _ (omega arith) in
    (pieces_ended c.args.reader.now.loading c.args.reader.now.file (text c.args.pieces.now) c.loop-piece.reader c.finish.new.self c.loop-piece.counts c.finish.new.counts c.finish.result
    (subst (λ pieces. PiecesSoFar c.args.reader.now.loading c.args.reader.now.file (text pieces) c.loop-piece.reader c.loop-piece.counts) all c.loop-piece.invariant.read) c.finish.ensures.judged).1
