-- A chain goes down step by step.
use Rattle.std.proofs.Common.{ℕ, ◌+◌, ◌<◌, List, [], ◌∷◌, sym, arith, subst}
use Rattle.std.specs.List.{AllByRecursion, enumerate_from}
use Rattle.chain_model.specs.declared.member.Member.{Member}
use Rattle.chain_model.specs.Pass.{chain_from}
use Rattle.chain_model.specs.Laws.{GoDown, ChainsGoDown}
use Rattle.chain_model.proofs.PassLemmas.{left, taken, passed, step, chain-left, chain-taken, chain-passed, at_depth, one_pass}

-- the numbers behind one are greater
numbers-above : (k a i j : ℕ) (xs : List Member) → i < j → AllByRecursion (λ (other : ℕ × Member). i < other.0) (chain_from k a (enumerate_from j xs))
numbers-above k a i j [] above = tt
numbers-above k a i j (x ∷ xs) above =
    let Goal : List (ℕ × Member) → Type 0 = λ ys. AllByRecursion (λ (other : ℕ × Member). i < other.0) ys in
    let rest : (n : ℕ) → Goal (chain_from n a (enumerate_from (j + 1) xs)) = λ n. numbers-above n a i (j + 1) xs (omega arith) in
    elim (step k a x) [
      | left is ↦ subst Goal (sym (chain-left k a (j, x) (enumerate_from (j + 1) xs) is)) tt
      | passed is missed ↦ subst Goal (sym (chain-passed k a (j, x) (enumerate_from (j + 1) xs) is missed)) (rest k)
      | taken is held ↦ subst Goal (sym (chain-taken k a (j, x) (enumerate_from (j + 1) xs) is held)) (above, rest (k + 1))
    ]

go_down : (k a j : ℕ) (xs : List Member) → GoDown k (chain_from k a (enumerate_from j xs))
go_down k a j [] = tt
go_down k a j (x ∷ xs) = elim (step k a x) [
  | left is ↦ subst (GoDown k) (sym (chain-left k a (j, x) (enumerate_from (j + 1) xs) is)) tt
  | passed is missed ↦ subst (GoDown k) (sym (chain-passed k a (j, x) (enumerate_from (j + 1) xs) is missed)) (go_down k a (j + 1) xs)
  | taken is held ↦
      subst (GoDown k) (sym (chain-taken k a (j, x) (enumerate_from (j + 1) xs) is held))
      (at_depth k a x held, numbers-above (k + 1) a j (j + 1) xs (omega arith), go_down (k + 1) a (j + 1) xs)
]

pub chains_go_down : ChainsGoDown
chains_go_down members address = subst (GoDown 0) (sym (one_pass members address)) (go_down 0 address 0 members)
