-- Blocks that stand behind one another, and edges by their ways: which of them decides, and what one more leaves.
use Rattle.std.proofs.Common.{◌≡◌, ◌≢◌, ℕ, zero, suc, ◌<◌, ◌≤◌, ◌-◌, Bool, true, false, ◌&&◌, ◌||◌, nat_eq, nat_lt, List, [], ◌∷◌, ◌++◌, length, map, take, drop, slice_get, slice_index_or, Some, refl, arith, inl, inr, sym, ◌∙◌, ap}
use Rattle.std.specs.List.{AllByRecursion, AllWithin, list_any}
use Rattle.std.specs.List.Sorted.{IsNonDecreasingBy}
use Rattle.std.proofs.lemmas.Bool.{and_right, eq-eqb, ne_eqb, lt-ltb, le-ltb, cases_lt}
use Rattle.std.proofs.lemmas.List.{take-append-drop}
use Rattle.std.proofs.lemmas.List.Folds.{list_any-append}
use Rattle.block_model.specs.declared.parts.Block.{Block}
use Rattle.block_model.specs.declared.parts.Edge.{Edge}
use Rattle.cfg_text.specs.Draft.{way_by}
use Rattle.cfg_text.specs.Taken.{AreApart, meets, span_of}
use Rattle.cfg_text.proofs.TakenLemmas.{later_end}

-- ---- the order of blocks

least : (from : ℕ) (blocks : List Block) (j : ℕ) (d : Block) → AreApart from (map span_of blocks) → j < length blocks
    → (from ≤ (slice_index_or blocks j d).lo) × (from < (slice_index_or blocks j d).hi)
least from [] j d apart inside = (omega arith, omega arith)
least from (block ∷ blocks) zero d apart inside = (apart.0, omega (arith, apart.0, apart.1))
least from (block ∷ blocks) (suc j) d apart inside =
    let more = least block.hi blocks j d apart.2 (omega arith) in
    (omega (arith, more.0, apart.0, apart.1), omega (arith, more.1, apart.0, apart.1))

pub rises : (from : ℕ) (blocks : List Block) → AreApart from (map span_of blocks) → IsNonDecreasingBy (λ (block : Block). block.lo) blocks
rises from [] apart i j d le lt = omega arith
rises from (block ∷ blocks) apart zero zero d le lt = omega arith
rises from (block ∷ blocks) apart zero (suc j) d le lt = omega (arith, (least block.hi blocks j d apart.2 (omega arith)).0, apart.1)
rises from (block ∷ blocks) apart (suc i) zero d le lt = omega arith
rises from (block ∷ blocks) apart (suc i) (suc j) d le lt = rises block.hi blocks apart.2 i j d (omega arith) (omega arith)

-- ---- the last block decides what all end by

pub ends : (lo from : ℕ) (blocks : List Block) (last : Block) → AreApart from (map span_of blocks)
    → slice_get blocks (length blocks - 1) ≡ Some last → last.hi ≤ lo → AllByRecursion (λ (block : Block). block.hi ≤ lo) blocks
ends lo from [] last apart is past = absurd (cc)
ends lo from (block ∷ []) last apart is past =
    let same : block ≡ last = cc in
    (omega (arith, past, ap (λ (b : Block). b.hi) same), tt)
ends lo from (block ∷ other ∷ blocks) last apart is past =
    let at : length (block ∷ other ∷ blocks) - 1 ≡ suc (length blocks) = omega arith in
    let also : length (other ∷ blocks) - 1 ≡ length blocks = omega arith in
    let found : slice_get (block ∷ other ∷ blocks) (suc (length blocks)) ≡ Some last = ap (slice_get (block ∷ other ∷ blocks)) (sym at) ∙ is in
    let more = ends lo block.hi (other ∷ blocks) last apart.2 (ap (slice_get (other ∷ blocks)) also ∙ found) past in
    (omega (arith, more.0, apart.2.0, apart.2.1), more)

pub none_after : (lo hi : ℕ) (blocks : List Block) → AllByRecursion (λ (block : Block). block.hi ≤ lo) blocks
    → list_any (λ block. meets lo hi (span_of block)) blocks ≡ false
none_after lo hi [] all = refl
none_after lo hi (block ∷ blocks) all = rw (le-ltb lo block.hi all.0, none_after lo hi blocks all.1)

-- ---- the last block that begins before an address decides what meets

pub none_begun : (lo hi : ℕ) (blocks : List Block) → ((k : ℕ) (d : Block) → k < length blocks → hi ≤ (slice_index_or blocks k d).lo)
    → list_any (λ block. meets lo hi (span_of block)) blocks ≡ false
none_begun lo hi [] others = refl
none_begun lo hi (block ∷ blocks) others =
    let none = none_begun lo hi blocks (λ k d inside. others (suc k) d (omega arith)) in
    rw (le-ltb block.lo hi (others 0 block (omega arith)), and_right (nat_lt lo block.hi) false refl, none)

alone : (b : Bool) → b ≡ ((b && true) || false)
alone true = refl
alone false = refl

meet_at : (lo hi from i : ℕ) (blocks : List Block) (d : Block) → AreApart from (map span_of blocks) → i < length blocks
    → ((k : ℕ) (d : Block) → k ≤ i → (slice_index_or blocks k d).lo < hi)
    → ((k : ℕ) (d : Block) → i < k → k < length blocks → hi ≤ (slice_index_or blocks k d).lo)
    → nat_lt lo (slice_index_or blocks i d).hi ≡ list_any (λ block. meets lo hi (span_of block)) blocks
meet_at lo hi from i [] d apart inside begun others = absurd (omega arith)
meet_at lo hi from zero (block ∷ blocks) d apart inside begun others =
    let none = none_begun lo hi blocks (λ k e within. others (suc k) e (omega arith) (omega arith)) in
    rw (lt-ltb block.lo hi (begun 0 d (omega arith)), none) (alone (nat_lt lo block.hi))
meet_at lo hi from (suc i) (block ∷ blocks) d apart inside begun others =
    let more = meet_at lo hi block.hi i blocks d apart.2 (omega arith) (λ k e within. begun (suc k) e (omega arith)) (λ k e past within. others (suc k) e (omega arith) (omega arith)) in
    let ends = (least block.hi blocks i d apart.2 (omega arith)).1 in
    rw (lt-ltb block.lo hi (begun 0 d (omega arith)))
    (later_end lo block.hi (slice_index_or blocks i d).hi (list_any (λ b. meets lo hi (span_of b)) blocks) ends more)

pub meet_last : (lo hi end : ℕ) (blocks : List Block) (d : Block) → AreApart 0 (map span_of blocks) → end ≢ 0 → end ≤ length blocks
    → AllWithin (λ (block : Block). block.lo < hi) blocks 0 end → AllWithin (λ (block : Block). hi ≤ block.lo) blocks end (length blocks)
    → nat_lt lo (slice_index_or blocks (end - 1) d).hi ≡ list_any (λ block. meets lo hi (span_of block)) blocks
meet_last lo hi zero blocks d apart some within begun others = absurd (some refl)
meet_last lo hi (suc i) blocks d apart some within begun others =
    let at : suc i - 1 ≡ i = omega arith in
    ap (λ k. nat_lt lo (slice_index_or blocks k d).hi) at
    ∙ meet_at lo hi 0 i blocks d apart (omega arith) (λ k e inside. begun k e (omega arith) (omega arith)) (λ k e past inside. others k e (omega arith) inside)

-- ---- one block more

pub apart_push : (from : ℕ) (blocks : List Block) (block : Block) → AreApart from (map span_of blocks)
    → AllByRecursion (λ (b : Block). b.hi ≤ block.lo) blocks → from ≤ block.lo → block.lo < block.hi → AreApart from (map span_of (blocks ++ block ∷ []))
apart_push from [] block apart all past filled = (past, filled, tt)
apart_push from (b ∷ blocks) block apart all past filled = (apart.0, apart.1, apart_push b.hi blocks block apart.2 all.1 all.0 filled)

-- ---- a list in two parts

pub any_parts : {A : Type 0} (p : A → Bool) (n : ℕ) (xs : List A) → (list_any p (take n xs) || list_any p (drop n xs)) ≡ list_any p xs
any_parts p n xs = sym (list_any-append p (take n xs) (drop n xs)) ∙ ap (list_any p) (take-append-drop n xs)

-- ---- ways

pub got : {A : Type 0} (xs : List A) (i : ℕ) (x d : A) → slice_get xs i ≡ Some x → slice_index_or xs i d ≡ x
got [] i x d is = absurd (cc)
got (y ∷ xs) zero x d is = cc
got (y ∷ xs) (suc i) x d is = got xs i x d is

none_holds : {A : Type 0} (p : A → Bool) (xs : List A) → ((k : ℕ) (d : A) → k < length xs → p (slice_index_or xs k d) ≡ false) → list_any p xs ≡ false
none_holds p [] each = refl
none_holds p (x ∷ xs) each = rw (each 0 x (omega arith), none_holds p xs (λ k d inside. each (suc k) d (omega arith)))

one_holds : {A : Type 0} (p : A → Bool) (xs : List A) (i : ℕ) (d : A) → i < length xs → p (slice_index_or xs i d) ≡ true → list_any p xs ≡ true
one_holds p [] i d inside holds = absurd (omega arith)
one_holds p (x ∷ xs) zero d inside holds = rw (holds)
one_holds p (x ∷ xs) (suc i) d inside holds = rw (one_holds p xs i d (omega arith) holds) (or_yes (p x))
  where
    or_yes : (b : Bool) → (b || true) ≡ true
    or_yes true = refl
    or_yes false = refl

pub strictly : (a b : ℕ) → a ≤ b → a ≢ b → a < b
strictly a b within apart =
    elim (cases_lt a b) [
      | inl below ↦ below
      | inr past ↦ absurd (apart (omega (arith, past, within)))
    ]

pub no_way : (way place : ℕ) (edges : List Edge) → place ≡ length edges → AllWithin (λ edge. way_by edge < way) edges 0 place
    → false ≡ list_any (λ edge. nat_eq way (way_by edge)) edges
no_way way place edges all before =
    sym (none_holds (λ (edge : Edge). nat_eq way (way_by edge)) edges
    (λ k d inside. ne_eqb way (way_by (slice_index_or edges k d)) (λ same. let below = before k d (omega arith) (omega (arith, inside, all)) in absurd (omega (arith, below, same)))))

pub way_at : (way place : ℕ) (edges : List Edge) (d : Edge) → IsNonDecreasingBy way_by edges → place < length edges
    → AllWithin (λ edge. way_by edge < way) edges 0 place → AllWithin (λ edge. way ≤ way_by edge) edges place (length edges)
    → nat_eq (way_by (slice_index_or edges place d)) way ≡ list_any (λ edge. nat_eq way (way_by edge)) edges
way_at way place edges d up inside before others =
    let least = others place d (omega arith) inside in
    elim (cases_lt way (way_by (slice_index_or edges place d))) [
      | inl above ↦
          ne_eqb (way_by (slice_index_or edges place d)) way (λ same. absurd (omega (arith, above, same)))
          ∙ sym (none_holds (λ (edge : Edge). nat_eq way (way_by edge)) edges (λ k e within.
          elim (cases_lt k place) [
            | inl first ↦ ne_eqb way (way_by (slice_index_or edges k e)) (λ same. let below = before k e (omega arith) first in absurd (omega (arith, below, same)))
            | inr later ↦ ne_eqb way (way_by (slice_index_or edges k e)) (λ same.
                let past = up place k e later within in
                let least_too = at_default edges place d e inside in
                absurd (omega (arith, past, same, above, ap way_by least_too)))
          ]))
      | inr most ↦
          let same : way ≡ way_by (slice_index_or edges place d) = omega (arith, most, least) in
          eq-eqb (way_by (slice_index_or edges place d)) way (sym same)
          ∙ sym (one_holds (λ (edge : Edge). nat_eq way (way_by edge)) edges place d inside (eq-eqb way (way_by (slice_index_or edges place d)) same))
    ]
  where
    at_default : {A : Type 0} (xs : List A) (i : ℕ) (d e : A) → i < length xs → slice_index_or xs i d ≡ slice_index_or xs i e
    at_default [] i d e inside = absurd (omega arith)
    at_default (x ∷ xs) zero d e inside = refl
    at_default (x ∷ xs) (suc i) d e inside = at_default xs i d e (omega arith)
