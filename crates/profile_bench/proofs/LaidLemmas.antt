-- One key, one segment, one call more.
use Rattle.std.proofs.Common.{◌≡◌, ◌⊎◌, ◌≤◌, ◌<◌, ℕ, ◌+◌, ◌-◌, ◌^◌, ◌==◌, Bool, true, false, cond, ◌&&◌, List, [], ◌∷◌, ◌++◌, length, map, get_or, sum_by, All, Some, sym, ap, subst, ◌∙◌, inl, inr, arith}
use Rattle.std.proofs.lemmas.List.Sums.{sum_by-le-sum_by}
use Rattle.std.proofs.lemmas.Option.{slice_get_within, get_or_from_slice_get, slice_get-get_or}
use Rattle.std.specs.List.{slice_get}
use Rattle.address_spans.specs.Spans.{AreBetween}
use Rattle.profile_lists.specs.Segments.{AllFit}
use Rattle.key_types.specs.Segments.{AreSegments, span_of}
use Rattle.key_types.proofs.ToldLemmas.{AreBetween-wider}
use Rattle.key_types.specs.Numbers.{Adds}
use Rattle.key_types.specs.declared.places.Seg.{Seg}
use Rattle.profile_tree.specs.Sums.{calls_of, entries_of}
use Rattle.profile_tree.specs.declared.head.Head.{Head}
use Rattle.profile_lists.specs.declared.pairs.Call.{Call}

-- an item that was added
below_or_at : (k n m : ℕ) → k < n → n ≤ m + 1 → (k < m) ⊎ (k ≡ m)
below_or_at k n m h g = grind arith

pub all_added : {V : Type 0} (P : V → Type 0) (old new : List V) (item : V) (id : ℕ) → Adds old new item → slice_get new id ≡ Some item → length new ≤ length old + 1 → All P old → P item → All P new
all_added {V} P old new item id adds at more all mine = λ k d h.
    elim (below_or_at k (length new) (length old) h more) as (λ _. P (get_or new k d)) [
      | inl low ↦
          let x = get_or old k d in
          let there : slice_get new k ≡ Some x = adds.kept k x (slice_get-get_or old k d low) in
          subst P (sym (get_or_from_slice_get new k x d there)) (all k d low)
      | inr end ↦
          elim (below_or_at id (length new) (length old) (slice_get_within new id item at) more) as (λ _. P (get_or new k d)) [
            | inl low ↦
                let x = get_or old id item in
                let there : slice_get new id ≡ Some x = adds.kept id x (slice_get-get_or old id item low) in
                let same : x ≡ item = some_inner x item (sym there ∙ at) in
                let known : new ≡ old = adds.known (id, low, same) in
                absurd (omega (arith, h, end, ap length known))
            | inr last ↦ subst P (sym (get_or_from_slice_get new k item d (ap (slice_get new) (end ∙ sym last) ∙ at))) mine
          ]
    ]
  where
    some_inner : {V : Type 0} (x y : V) → Some x ≡ Some y → x ≡ y
    some_inner x y e = cc

pub not_fewer : {V : Type 0} (old new : List V) (item : V) → Adds old new item → length old ≤ length new
not_fewer [] new item adds = omega arith
not_fewer {V} (x ∷ old) new item adds =
    let last = get_or (x ∷ old) (length old) x in
    let there : slice_get new (length old) ≡ Some last = adds.kept (length old) last (slice_get-get_or (x ∷ old) (length old) x (omega arith)) in
    let low : length old < length new = slice_get_within new (length old) last there in
    omega (arith, low)

-- a segment behind others
pub laid_more : (from end : ℕ) (xs : List Seg) (s : Seg) → AreBetween from end (map span_of xs) → end ≤ s.lo → s.lo < s.hi → AreBetween from s.hi (map span_of (xs ++ s ∷ []))
laid_more from end [] s lie h g = (omega (arith, lie, h), g, omega arith)
laid_more from end (x ∷ xs) s lie h g = (lie.0, lie.1, laid_more x.hi end xs s lie.2 h g)

pub are_laid : (end : ℕ) (xs : List Seg) → AreBetween 0 end (map span_of xs) → end ≤ 2 ^ 64 - 1 → AreSegments xs
are_laid end xs lie low = AreBetween-wider (map span_of xs) 0 end (2 ^ 64 - 1) lie low

pub fit_more : (m n : ℕ) (xs : List Seg) (s : Seg) → m ≤ n → AllFit m xs → s.key.0 < n → s.factor < 4096 → AllFit n (xs ++ s ∷ [])
fit_more m n [] s h fit key factor = (key, factor, tt)
fit_more m n (x ∷ xs) s h fit key factor = (omega (arith, fit.0), fit.1, fit_more m n xs s h fit.2 key factor)

-- sums of parts
part_of : (b : Bool) (n : ℕ) → cond b n 0 ≤ n
part_of true n = omega arith
part_of false n = omega arith

pub calls_within : (calls : List Call) (key callee : ℕ) → calls_of calls key callee ≤ sum_by (λ call. call.times) calls
calls_within calls key callee = sum_by-le-sum_by (λ call. cond (call.key.0 == key && call.callee.0 == callee) call.times 0) (λ call. call.times) calls (λ call. part_of (call.key.0 == key && call.callee.0 == callee) call.times)

pub entries_within : (heads : List Head) (name : ℕ) → entries_of heads name ≤ sum_by (λ head. head.times) heads
entries_within heads name = sum_by-le-sum_by (λ head. cond (head.name.0 == name) head.times 0) (λ head. head.times) heads (λ head. part_of (head.name.0 == name) head.times)
