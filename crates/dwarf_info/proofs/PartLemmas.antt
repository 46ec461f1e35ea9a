-- A piece from an offset in it on.
use Rattle.std.proofs.Common.{◌≡◌, ℕ, ◌+◌, ◌-◌, ◌≤◌, List, take, drop, sym, ap, ◌∙◌, arith}
use Rattle.std.proofs.lemmas.List.{drop-take, drop-drop}

-- what is left of a piece behind its first bytes
pub drop-piece : (file : List ℕ) (at len offset : ℕ) → offset ≤ len → take (len - offset) (drop (at + offset) file) ≡ drop offset (take len (drop at file))
drop-piece file at len offset le =
    let whole : len ≡ offset + (len - offset) = omega arith in
    ap (take (len - offset)) (sym (drop-drop offset at file)) ∙ sym (drop-take offset (len - offset) (drop at file)) ∙ ap (λ (n : ℕ). drop offset (take n (drop at file))) (sym whole)

pub ruleset part_lemmas = (drop-piece)
