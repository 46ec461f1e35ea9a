-- How far code reaches from each address on.
use Rattle.std.proofs.Common.{◌≡◌, ℕ, zero, suc, ◌+◌, ◌<◌, ◌≤◌, Bool, true, false, List, [], ◌∷◌, length, get_or, refl, sym, ap, ◌∙◌, arith, cond, map, filter, leb-false, le-leb}
use Rattle.std.specs.Prelude.{◌&&◌, ◌||◌, nat_le, max}
use Rattle.std.specs.List.{list_any}
use Rattle.std.specs.List.Sorted.{IsNonDecreasingBy, IsPermutation}
use Rattle.std.proofs.lemmas.List.Folds.{list_any_none}
use Rattle.std.proofs.lemmas.List.Sorted.{list_any-IsPermutation}
use mathlib.Core.Bool.{or-false, or_assoc}
use Rattle.load_model.specs.declared.load_segment.LoadSegment.{LoadSegment}
use Rattle.elf_model.specs.Tables.{ProgramHeader}
use Rattle.elf_model.specs.Segments.{is_code, holds, load_of}
use Rattle.elf_sections.specs.declared.reach.Reach.{Reach}
use Rattle.elf_sections.specs.Reach.{AreReaches, Rise, farthest, reaches_from}

-- ---- the segments of code, as they are loaded

-- a segment as it is loaded holds a range
abbrev is_held : ℕ → ℕ → LoadSegment → Bool
is_held lo hi load = nat_le load.vaddr lo && nat_le hi (load.vaddr + load.size)

any_loaded : (lo hi : ℕ) (xs : List ProgramHeader) → list_any (λ segment. is_code segment && holds lo hi segment) xs ≡ list_any (is_held lo hi) (map load_of (filter is_code xs))
any_loaded lo hi [] = refl
any_loaded lo hi (x ∷ xs) = by (is_code x) refl (any_loaded lo hi xs)
  where
    by : (b : Bool) → is_code x ≡ b → list_any (λ segment. is_code segment && holds lo hi segment) xs ≡ list_any (is_held lo hi) (map load_of (filter is_code xs))
        → (b && holds lo hi x || list_any (λ segment. is_code segment && holds lo hi segment) xs) ≡ list_any (is_held lo hi) (map load_of (cond b (x ∷ filter is_code xs) (filter is_code xs)))
    by true e rest = ap (λ b. holds lo hi x || b) rest
    by false e rest = rest

-- ---- the farthest end

abbrev Rising : List LoadSegment → Type 0
Rising loads = IsNonDecreasingBy (λ load. load.vaddr) loads

rising-rest : (x : LoadSegment) (xs : List LoadSegment) → Rising (x ∷ xs) → Rising xs
rising-rest x xs rising i j d before within = rising (suc i) (suc j) d (omega (arith, before)) (omega (arith, within))

-- no segment holds a range that begins before the first of them
none_held : (lo hi : ℕ) (x : LoadSegment) (xs : List LoadSegment) → Rising (x ∷ xs) → lo < x.vaddr → list_any (is_held lo hi) (x ∷ xs) ≡ false
none_held lo hi x xs rising before = list_any_none (is_held lo hi) (x ∷ xs) (λ k d within. behind (get_or (x ∷ xs) k d) (rising 0 k d (omega arith) within))
  where
    behind : (y : LoadSegment) → x.vaddr ≤ y.vaddr → is_held lo hi y ≡ false
    behind y after = grind (arith, before, after)

-- a range that ends before the farther of two ends, ends before one of them
either : (hi a b : ℕ) → nat_le hi (max a b) ≡ (nat_le hi a || nat_le hi b)
either hi a b = grind arith

reach_tells : (far lo hi : ℕ) (xs : List LoadSegment) → Rising xs → (nat_le hi far || list_any (is_held lo hi) xs) ≡ nat_le hi (farthest far (reaches_from far xs) lo)
reach_tells far lo hi [] rising = or-false (nat_le hi far)
reach_tells far lo hi (x ∷ xs) rising =
    by (nat_le x.vaddr lo) refl (reach_tells (max far (x.vaddr + x.size)) lo hi xs (rising-rest x xs rising))
  where
    end : ℕ
    end = max far (x.vaddr + x.size)

    by : (b : Bool) → nat_le x.vaddr lo ≡ b → (nat_le hi end || list_any (is_held lo hi) xs) ≡ nat_le hi (farthest end (reaches_from end xs) lo)
        → (nat_le hi far || (nat_le x.vaddr lo && nat_le hi (x.vaddr + x.size) || list_any (is_held lo hi) xs)) ≡ nat_le hi (cond b (farthest end (reaches_from end xs) lo) far)
    by true e rest =
        ap (λ b. nat_le hi far || (b && nat_le hi (x.vaddr + x.size) || list_any (is_held lo hi) xs)) e
        ∙ sym (or_assoc (nat_le hi far) (nat_le hi (x.vaddr + x.size)) (list_any (is_held lo hi) xs))
        ∙ ap (λ b. b || list_any (is_held lo hi) xs) (sym (either hi far (x.vaddr + x.size)))
        ∙ rest
    by false e rest =
        ap (λ b. nat_le hi far || b) (none_held lo hi x xs rising (leb-false x.vaddr lo e))
        ∙ or-false (nat_le hi far)

-- ---- in order

long : (far : ℕ) (xs : List LoadSegment) → length (reaches_from far xs) ≡ length xs
long far [] = refl
long far (x ∷ xs) = ap suc (long (max far (x.vaddr + x.size)) xs)

from-at : (far k : ℕ) (xs : List LoadSegment) (d : Reach) (e : LoadSegment) → k < length xs → (get_or (reaches_from far xs) k d).from ≡ (get_or xs k e).vaddr
from-at far k [] d e within = absurd (omega (arith, within))
from-at far zero (x ∷ xs) d e within = refl
from-at far (suc k) (x ∷ xs) d e within = from-at (max far (x.vaddr + x.size)) k xs d e (omega (arith, within))

rise : (far : ℕ) (xs : List LoadSegment) → Rising xs → Rise (reaches_from far xs)
rise far xs rising i j d before within =
    let none : LoadSegment = record { offset = 0; vaddr = 0; size = 0 } in
    let inside : j < length xs = omega (arith, within, long far xs) in
    omega (arith, rising i j none before inside, from-at far i xs d none (omega (arith, before, inside)), from-at far j xs d none inside)

pub reaches_tell : (segments : List ProgramHeader) (loads sorted : List LoadSegment) (reaches : List Reach) → loads ≡ map load_of (filter is_code segments) → IsPermutation loads sorted
    → IsNonDecreasingBy (λ load. load.vaddr) sorted → reaches ≡ reaches_from 0 sorted → AreReaches segments reaches
reaches_tell segments loads sorted reaches are same rising made = rw made (record {
  rise = rise 0 sorted rising;
  told = λ lo hi some. any_loaded lo hi segments
      ∙ ap (list_any (is_held lo hi)) (sym are)
      ∙ list_any-IsPermutation (is_held lo hi) loads sorted same
      ∙ sym (ap (λ b. b || list_any (is_held lo hi) sorted) (not_at_0 hi some))
      ∙ reach_tells 0 lo hi sorted rising;
})
  where
    not_at_0 : (hi : ℕ) → 0 < hi → nat_le hi 0 ≡ false
    not_at_0 hi some = grind (arith, some)

-- ---- the search

farthest-on : (far address : ℕ) (x : Reach) (xs : List Reach) → x.from ≤ address → farthest far (x ∷ xs) address ≡ farthest x.end xs address
farthest-on far address x xs begun = rw (le-leb x.from address begun) refl

farthest-before : (far address : ℕ) (x : Reach) (xs : List Reach) → address < x.from → farthest far (x ∷ xs) address ≡ far
farthest-before far address x xs before = rw (gt-leb x.from address before) refl
  where
    gt-leb : (a b : ℕ) → b < a → nat_le a b ≡ false
    gt-leb a b lt = grind (arith, lt)

-- the one in front of the place where those begin that are behind an address
pub farthest-at : (far address last : ℕ) (xs : List Reach) (d : Reach) → last < length xs
    → ((k : ℕ) (d : Reach) → k ≤ last → k < length xs → (get_or xs k d).from ≤ address) → ((k : ℕ) (d : Reach) → last < k → k < length xs → address < (get_or xs k d).from)
    → (get_or xs last d).end ≡ farthest far xs address
farthest-at far address last [] d within begun behind = absurd (omega (arith, within))
farthest-at far address zero (x ∷ []) d within begun behind = sym (farthest-on far address x [] (begun 0 d (omega arith) (omega arith)))
farthest-at far address zero (x ∷ y ∷ xs) d within begun behind =
    sym (farthest-on far address x (y ∷ xs) (begun 0 d (omega arith) (omega arith))
    ∙ farthest-before x.end address y xs (behind 1 d (omega arith) (omega arith)))
farthest-at far address (suc last) (x ∷ xs) d within begun behind =
    farthest-at x.end address last xs d (omega (arith, within))
    (λ k e before inside. begun (suc k) e (omega (arith, before)) (omega (arith, inside)))
    (λ k e after inside. behind (suc k) e (omega (arith, after)) (omega (arith, inside)))
    ∙ sym (farthest-on far address x xs (begun 0 d (omega arith) (omega arith)))

pub farthest-none : (far address : ℕ) (xs : List Reach) → ((k : ℕ) (d : Reach) → k < length xs → address < (get_or xs k d).from) → far ≡ farthest far xs address
farthest-none far address [] behind = refl
farthest-none far address (x ∷ xs) behind = sym (farthest-before far address x xs (behind 0 x (omega arith)))
