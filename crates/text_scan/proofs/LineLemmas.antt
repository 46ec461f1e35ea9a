-- Lines with their numbers, first to last.
use Rattle.std.proofs.Common.{◌≡◌, ℕ, suc, ◌+◌, List, [], ◌∷◌, length, refl, arith, sym, ◌∙◌, ap}
use Rattle.std.specs.List.{enumerate_from}
use Rattle.text_scan.specs.declared.lines.Line.{Line}
use Rattle.text_scan.specs.Lines.{as_numbered}

abbrev front : List (ℕ × List ℕ) → ℕ × List ℕ
front [] = (0, [])
front (x ∷ xs) = x

abbrev others_of : List (ℕ × List ℕ) → List (ℕ × List ℕ)
others_of [] = []
others_of (x ∷ xs) = xs

-- the first of the lines that are left
pub record IsFirst (at : ℕ) (rest : List (List ℕ)) (line : Line) (left : List (ℕ × List ℕ)) : Type 0 where
  pub others : List (List ℕ)
  pub split : rest ≡ line.bytes.now ∷ others
  pub number : line.number ≡ at + 1
  pub behind : left ≡ enumerate_from (line.number + 1) others

pub first_of : (at : ℕ) (rest : List (List ℕ)) (line : Line) (all left : List (ℕ × List ℕ)) → all ≡ enumerate_from (at + 1) rest → all ≡ as_numbered line ∷ left → IsFirst at rest line left
first_of at [] line all left numbered is = absurd (cc)
first_of at (bytes ∷ others) line all left numbered is =
    let both : (at + 1, bytes) ∷ enumerate_from (at + 1 + 1) others ≡ (line.number, line.bytes.now) ∷ left = sym numbered ∙ is in
    let number : line.number ≡ at + 1 = sym (ap (λ (xs : List (ℕ × List ℕ)). (front xs).0) both) in
    let same : bytes ≡ line.bytes.now = ap (λ (xs : List (ℕ × List ℕ)). (front xs).1) both in
    let behind : left ≡ enumerate_from (at + 1 + 1) others = sym (ap others_of both) in
    let next : line.number + 1 ≡ at + 1 + 1 = omega (arith, number) in
    record {
      others = others;
      split = ap (λ (b : List ℕ). b ∷ others) same;
      number = number;
      behind = behind ∙ ap (λ (n : ℕ). enumerate_from n others) (sym next);
    }

pub no_rest : (n : ℕ) (rest : List (List ℕ)) → [] ≡ enumerate_from n rest → rest ≡ []
no_rest n [] none = refl
no_rest n (line ∷ rest) none = absurd (cc)

pub length-enumerated : (n : ℕ) (lines : List (List ℕ)) → length (enumerate_from n lines) ≡ length lines
length-enumerated n [] = refl
length-enumerated n (line ∷ lines) = ap suc (length-enumerated (n + 1) lines)
