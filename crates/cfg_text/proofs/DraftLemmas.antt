-- What a draft keeps as lines are added.
use Rattle.std.proofs.Common.{◌≡◌, ℕ, ◌<◌, ◌≤◌, ◌+◌, ◌-◌, Bool, true, false, not, ◌&&◌, ◌||◌, nat_eq, List, [], ◌∷◌, ◌++◌, length, map, take, drop, slice_index_or, None, refl, arith, inl, inr, sym, ◌∙◌, ap, subst, cond}
use Rattle.std.specs.Prelude.{nat_le, ◌==◌}
use Rattle.std.specs.BTreeSet.{BTreeSet, contains}
use Rattle.std.specs.List.{AllByRecursion, list_any}
use Rattle.std.specs.List.Sorted.{IsNonDecreasingBy}
use Rattle.std.specs.Ordering.{nat_cmp, is_eq}
use Rattle.std.specs.Cmp.{nat_cmp_is}
use Rattle.std.specs.declared.cmp.Ordering.TheVariants.{Less, Equal, Greater}
use Rattle.std.proofs.lemmas.Bool.{eq-eqb, ne_eqb, cases_eq, cases_lt}
use Rattle.std.proofs.lemmas.Bool.{le-leb}
use Rattle.std.proofs.lemmas.List.{take_all, drop_all, take-append-le, drop-append-le}
use Rattle.std.proofs.lemmas.List.Sorted.{IsNonDecreasingBy-push}
use Rattle.list_lemmas.proofs.Each.{all_push}
use Rattle.refusal.specs.declared.kind.Kind.TheVariants.{BadLine, TooManyBlocks, BlockOrder, BlockEmpty, BlockOverlap, TooManyEdges, EdgeEnd, EdgeTwice, BadBound}
use Rattle.refusal.specs.Place.{first_cause}
use Rattle.block_model.specs.declared.parts.Block.{Block}
use Rattle.block_model.specs.declared.parts.Bound.{Bound}
use Rattle.block_model.specs.declared.parts.Edge.{Edge}
use Rattle.block_model.specs.Function.{Function, overlap, joins}
use Rattle.block_model.specs.Judging.{cause_of_block, cause_of_edge, is_bad_bound}
use Rattle.block_model.specs.Limits.{max_blocks, max_edges}
use Rattle.cfg_text.specs.Draft.{IsDraft, way_by, way_of}
use Rattle.cfg_text.specs.Taken.{AreApart, meets, span_of}
use Rattle.cfg_text.proofs.RisingLemmas.{any_parts, apart_push}

-- ---- what no cause leaves

none_of_six : (a b c d e f : Bool) → None ≡ first_cause ((a, BadLine) ∷ (b, TooManyBlocks) ∷ (c, BlockOrder) ∷ (d, BlockEmpty) ∷ (e, BlockOverlap) ∷ (f, BadBound) ∷ [])
    → (b ≡ false) × (d ≡ false) × (e ≡ false)
none_of_six true b c d e f none = absurd (cc)
none_of_six false true c d e f none = absurd (cc)
none_of_six false false true d e f none = absurd (cc)
none_of_six false false false true e f none = absurd (cc)
none_of_six false false false false true f none = absurd (cc)
none_of_six false false false false false f none = (refl, refl, refl)

none_of_four : (a b c d e : Bool) → None ≡ first_cause ((a, TooManyEdges) ∷ (b || c, EdgeEnd) ∷ (d, EdgeTwice) ∷ (e, BadBound) ∷ [])
    → (b ≡ false) × (c ≡ false)
none_of_four true b c d e none = absurd (cc)
none_of_four false true c d e none = absurd (cc)
none_of_four false false true d e none = absurd (cc)
none_of_four false false false d e none = (refl, refl)

below_from : (a b : ℕ) → nat_le a b ≡ false → b < a
below_from a b not_le =
    elim (cases_lt b a) [
      | inl below ↦ below
      | inr past ↦ let at : true ≡ false = sym (le-leb a b past) ∙ not_le in absurd (cc)
    ]

pub record GoodBlock (fun : Function) (block : Block) : Type 0 where
  pub few : length fun.blocks < max_blocks
  pub filled : block.lo < block.hi
  pub free : list_any (overlap block) fun.blocks ≡ false

pub good_block : (fun : Function) (number : ℕ) (block : Block) → None ≡ cause_of_block fun number block → GoodBlock fun block
unfolding cause_of_block
good_block fun number block none =
    let all = none_of_six (not (length fun.edges == 0)) (nat_le max_blocks (length fun.blocks)) (not (number == length fun.blocks))
    (nat_le block.hi block.lo) (list_any (overlap block) fun.blocks) (is_bad_bound block.bound) none in
    record { few = below_from max_blocks (length fun.blocks) all.0; filled = below_from block.hi block.lo all.1; free = all.2 }

pub record GoodEdge (fun : Function) (from to : ℕ) : Type 0 where
  pub from_block : from < length fun.blocks
  pub to_block : to < length fun.blocks

pub good_edge : (fun : Function) (from to : ℕ) (bound : Bound) → None ≡ cause_of_edge fun from to bound → GoodEdge fun from to
unfolding cause_of_edge
good_edge fun from to bound none =
    let both = none_of_four (nat_le max_edges (length fun.edges)) (nat_le (length fun.blocks) from) (nat_le (length fun.blocks) to)
    (list_any (joins from to) fun.edges) (is_bad_bound bound) none in
    record { from_block = below_from (length fun.blocks) from both.0; to_block = below_from (length fun.blocks) to both.1 }

-- ---- one more

any_push : {A : Type 0} (p : A → Bool) (xs : List A) (x : A) → list_any p (xs ++ x ∷ []) ≡ (p x || list_any p xs)
any_push p [] x = refl
any_push p (y ∷ xs) x = ap (λ (v : Bool). p y || v) (any_push p xs x) ∙ swap_or (p y) (p x) (list_any p xs)
  where
    swap_or : (a b c : Bool) → (a || (b || c)) ≡ (b || (a || c))
    swap_or true true c = refl
    swap_or true false c = refl
    swap_or false true c = refl
    swap_or false false c = refl

length_push : {A : Type 0} (xs : List A) (x : A) → length (xs ++ x ∷ []) ≡ length xs + 1
length_push [] x = refl
length_push (y ∷ xs) x = let more = length_push xs x in omega (arith, more)

pub with_rising_is : (blocks : List Block) (edges : List Edge) (rising : ℕ) (spans : List (ℕ × ℕ)) (sorted : ℕ) (ways : BTreeSet ℕ) (block : Block)
    → IsDraft blocks edges rising spans sorted ways → length blocks < max_blocks → rising ≡ length blocks
    → AllByRecursion (λ (b : Block). b.hi ≤ block.lo) blocks → block.lo < block.hi
    → IsDraft (blocks ++ block ∷ []) edges (rising + 1) spans sorted ways
with_rising_is blocks edges rising spans sorted ways block kept few all behind filled =
    let longer = length_push blocks block in
    let was = take_all rising blocks (omega (arith, all)) in
    let is = take_all (rising + 1) (blocks ++ block ∷ []) (omega (arith, all, longer)) in
    let rose = subst (λ (bs : List Block). AreApart 0 (map span_of bs)) was kept.rise in
    let none = drop_all rising blocks (omega (arith, all)) in
    let none_too = drop_all (rising + 1) (blocks ++ block ∷ []) (omega (arith, all, longer)) in
    record {
      few = omega (arith, few, longer);
      within = omega (arith, all, longer);
      rise = subst (λ (bs : List Block). AreApart 0 (map span_of bs)) (sym is) (apart_push 0 blocks block rose behind (omega arith) filled);
      taken = λ lo hi. kept.taken lo hi ∙ ap (list_any (λ (b : Block). meets lo hi (span_of b))) (none ∙ sym none_too);
      ends = kept.ends;
      inside = kept.inside;
      ascend = kept.ascend;
      joined = kept.joined;
    }

pub with_block_is : (blocks : List Block) (edges : List Edge) (rising : ℕ) (spans new : List (ℕ × ℕ)) (sorted : ℕ) (ways : BTreeSet ℕ) (block : Block)
    → IsDraft blocks edges rising spans sorted ways → length blocks < max_blocks
    → ((p : ℕ × ℕ → Bool) → list_any p new ≡ (p (block.lo, block.hi) || list_any p spans))
    → IsDraft (blocks ++ block ∷ []) edges rising new sorted ways
with_block_is blocks edges rising spans new sorted ways block kept few added =
    let longer = length_push blocks block in
    record {
      few = omega (arith, few, longer);
      within = omega (arith, kept.within, longer);
      rise = subst (λ (bs : List Block). AreApart 0 (map span_of bs)) (sym (take-append-le rising blocks (block ∷ []) kept.within)) kept.rise;
      taken = λ lo hi. added (meets lo hi) ∙ ap (λ (v : Bool). meets lo hi (block.lo, block.hi) || v) (kept.taken lo hi)
          ∙ sym (any_push (λ (b : Block). meets lo hi (span_of b)) (drop rising blocks) block)
          ∙ ap (list_any (λ (b : Block). meets lo hi (span_of b))) (sym (drop-append-le rising blocks (block ∷ []) kept.within));
      ends = kept.ends;
      inside = kept.inside;
      ascend = kept.ascend;
      joined = kept.joined;
    }

pub with_sorted_is : (blocks : List Block) (edges : List Edge) (rising : ℕ) (spans : List (ℕ × ℕ)) (sorted : ℕ) (ways : BTreeSet ℕ) (edge : Edge)
    → IsDraft blocks edges rising spans sorted ways → edge.to < 65536 → sorted ≡ length edges
    → ((d : Edge) → 0 < length edges → way_by (slice_index_or edges (length edges - 1) d) ≤ way_by edge)
    → IsDraft blocks (edges ++ edge ∷ []) rising spans (sorted + 1) ways
with_sorted_is blocks edges rising spans sorted ways edge kept small all last =
    let longer = length_push edges edge in
    let was = take_all sorted edges (omega (arith, all)) in
    let is = take_all (sorted + 1) (edges ++ edge ∷ []) (omega (arith, all, longer)) in
    let rose = subst (IsNonDecreasingBy way_by) was kept.ascend in
    let none = drop_all sorted edges (omega (arith, all)) in
    let none_too = drop_all (sorted + 1) (edges ++ edge ∷ []) (omega (arith, all, longer)) in
    record {
      few = kept.few;
      within = kept.within;
      rise = kept.rise;
      taken = kept.taken;
      ends = all_push (λ (e : Edge). e.to < 65536) edges edge kept.ends small;
      inside = omega (arith, all, longer);
      ascend = subst (IsNonDecreasingBy way_by) (sym is) (IsNonDecreasingBy-push way_by edges edge rose last);
      joined = λ way. kept.joined way ∙ ap (list_any (λ (e : Edge). nat_eq way (way_by e))) (none ∙ sym none_too);
    }

pub with_edge_is : (blocks : List Block) (edges : List Edge) (rising : ℕ) (spans : List (ℕ × ℕ)) (sorted : ℕ) (ways new : BTreeSet ℕ) (edge : Edge)
    → IsDraft blocks edges rising spans sorted ways → edge.to < 65536
    → ((way : ℕ) → contains nat_cmp new way ≡ (nat_eq way (way_of edge.from edge.to) || contains nat_cmp ways way))
    → IsDraft blocks (edges ++ edge ∷ []) rising spans sorted new
with_edge_is blocks edges rising spans sorted ways new edge kept small added =
    let longer = length_push edges edge in
    record {
      few = kept.few;
      within = kept.within;
      rise = kept.rise;
      taken = kept.taken;
      ends = all_push (λ (e : Edge). e.to < 65536) edges edge kept.ends small;
      inside = omega (arith, kept.inside, longer);
      ascend = subst (IsNonDecreasingBy way_by) (sym (take-append-le sorted edges (edge ∷ []) kept.inside)) kept.ascend;
      joined = λ way. added way ∙ ap (λ (v : Bool). nat_eq way (way_of edge.from edge.to) || v) (kept.joined way)
          ∙ sym (any_push (λ (e : Edge). nat_eq way (way_by e)) (drop sorted edges) edge)
          ∙ ap (list_any (λ (e : Edge). nat_eq way (way_by e))) (sym (drop-append-le sorted edges (edge ∷ []) kept.inside));
    }

-- ---- ways

same_way : (from to f t : ℕ) → to < 65536 → t < 65536 → nat_eq (way_of from to) (way_of f t) ≡ (nat_eq f from && nat_eq t to)
same_way from to f t small one =
    elim (cases_eq f from) [
      | inl same ↦ elim (cases_eq t to) [
        | inl also ↦ rw (eq-eqb f from same, eq-eqb t to also, eq-eqb (way_of from to) (way_of f t) (omega (arith, same, also)))
        | inr apart ↦ rw (eq-eqb f from same, ne_eqb t to apart, ne_eqb (way_of from to) (way_of f t) (λ e. apart (omega (arith, same, e))))
      ]
      | inr apart ↦ rw (ne_eqb f from apart, ne_eqb (way_of from to) (way_of f t) (λ e. apart (omega (arith, e, small, one))))
    ]

ways_joined : (from to : ℕ) (edges : List Edge) → to < 65536 → AllByRecursion (λ edge. edge.to < 65536) edges
    → list_any (λ edge. nat_eq (way_of from to) (way_of edge.from edge.to)) edges ≡ list_any (joins from to) edges
ways_joined from to [] small ends = refl
ways_joined from to (edge ∷ edges) small ends =
    rw (same_way from to edge.from edge.to small ends.0, ways_joined from to edges small ends.1)

pub way_taken : (blocks : List Block) (edges : List Edge) (rising : ℕ) (spans : List (ℕ × ℕ)) (sorted : ℕ) (ways : BTreeSet ℕ) (from to : ℕ)
    → IsDraft blocks edges rising spans sorted ways → to < 65536
    → (list_any (λ edge. nat_eq (way_of from to) (way_by edge)) (take sorted edges) || contains nat_cmp ways (way_of from to)) ≡ list_any (joins from to) edges
way_taken blocks edges rising spans sorted ways from to kept small =
    ap (λ (v : Bool). list_any (λ (edge : Edge). nat_eq (way_of from to) (way_by edge)) (take sorted edges) || v) (kept.joined (way_of from to))
    ∙ any_parts (λ (edge : Edge). nat_eq (way_of from to) (way_by edge)) sorted edges ∙ ways_joined from to edges small kept.ends

pub block_taken : (blocks : List Block) (edges : List Edge) (rising : ℕ) (spans : List (ℕ × ℕ)) (sorted : ℕ) (ways : BTreeSet ℕ) (lo hi : ℕ)
    → IsDraft blocks edges rising spans sorted ways
    → (list_any (λ block. meets lo hi (span_of block)) (take rising blocks) || list_any (meets lo hi) spans) ≡ list_any (λ block. meets lo hi (span_of block)) blocks
block_taken blocks edges rising spans sorted ways lo hi kept =
    ap (λ (v : Bool). list_any (λ (block : Block). meets lo hi (span_of block)) (take rising blocks) || v) (kept.taken lo hi)
    ∙ any_parts (λ (block : Block). meets lo hi (span_of block)) rising blocks

-- ---- where one of two holds

pub other_free : (a b : Bool) → (a || b) ≡ false → b ≡ false
other_free true b none = absurd (cc)
other_free false b none = none

pub first_holds : (a b c : Bool) → a ≡ true → (a || b) ≡ c → true ≡ c
first_holds true b c holds is = is
first_holds false b c holds is = absurd (cc)

pub other_holds : (a b c : Bool) → a ≡ false → (a || b) ≡ c → b ≡ c
other_holds true b c fails is = absurd (cc)
other_holds false b c fails is = is

pub way_added : (way q : ℕ) (b : Bool) → cond (is_eq (nat_cmp way q)) true b ≡ (nat_eq q way || b)
way_added way q b =
    elim (cases_eq q way) [
      | inl same ↦ rw (sym (nat_cmp_is way q Equal (sym same)), eq-eqb q way same)
      | inr apart ↦ elim (cases_lt way q) [
        | inl below ↦ rw (sym (nat_cmp_is way q Less below), ne_eqb q way apart)
        | inr past ↦ let above : q < way = omega (arith, past, apart) in rw (sym (nat_cmp_is way q Greater above), ne_eqb q way apart)
      ]
    ]
