-- Sums as calls and heads, each once.
use Rattle.std.proofs.Common.{◌≡◌, ℕ, ◌+◌, ◌<◌, ◌≤◌, true, List, [], ◌∷◌, ◌++◌, map, length, get_or, All, sym, ap, subst, ◌∙◌, arith}
use Rattle.std.specs.List.{AllByRecursion, IsDistinct, range_with_len}
use Rattle.std.specs.Map.{keys_of}
use Rattle.std.proofs.lemmas.List.{get_or-map, length-map}
use Rattle.std.proofs.lemmas.List.FromFn.{get_or-map-range_with_len, length-map-range_with_len, map-range_with_len_more}
use Rattle.std.proofs.lemmas.Map.Made.{AllPairs-from_IsDistinct}
use Rattle.key_types.specs.declared.key.Key.{Key}
use Rattle.profile_laws.specs.Once.{StandOnce}
use Rattle.profile_lists.specs.declared.pairs.Call.{Call}
use Rattle.profile_text.specs.Stamps.{ReadsTheSame}
use Rattle.profile_tree.proofs.ListLemmas.{all_places, map_map}
use Rattle.profile_tree.specs.Known.{HasNames, IsGiven, called_from}
use Rattle.profile_tree.specs.Said.{said, way_at}
use Rattle.profile_tree.specs.Stated.{AreSummed}
use Rattle.profile_tree.specs.Steps.{name_at}
use Rattle.profile_tree.specs.declared.head.Head.{Head}
use Rattle.profile_merge.proofs.CalledLemmas.{targets_same, target_itself}
use Rattle.profile_merge.specs.Called.{Target, same_target, IsGivenTarget}
use Rattle.profile_merge.specs.Stated.{head_at, call_of, heads_at}
use Rattle.profile_merge.specs.Sums.{AreSumsOf, Sums}
use Rattle.profile_merge.specs.Told.{sums_told}

head_here : (sums : List ℕ) (k : ℕ) (d : Head) → k < length (heads_at sums) → get_or (heads_at sums) k d ≡ head_at sums k
head_here sums k d h = get_or-map-range_with_len (head_at sums) 0 (length sums) k k d (let e = length-map-range_with_len (head_at sums) 0 (length sums) in omega arith) (omega arith)

heads_given : (sums : List ℕ) (n : ℕ) → length sums ≤ n → All (λ head. head.name.0 < n) (heads_at sums)
heads_given sums n few k d h =
    let here = ap (λ (c : Head). c.name.0) (head_here sums k d h) in
    let e = length-map-range_with_len (head_at sums) 0 (length sums) in
    omega arith

heads_once : (sums : List ℕ) → StandOnce (λ head. head.name.0) (heads_at sums)
heads_once sums i j d less within same =
    let here = ap (λ (c : Head). c.name.0) (head_here sums i d (omega arith)) in
    let there = ap (λ (c : Head). c.name.0) (head_here sums j d within) in
    absurd (omega arith)

target_at : (calls : List (Target × ℕ)) (k : ℕ) (d : Call) (t : Target) → k < length calls → ((get_or (map call_of calls) k d).key, (get_or (map call_of calls) k d).callee) ≡ get_or (keys_of calls) k t
target_at calls k d t h =
    ap (λ (c : Call). (c.key, c.callee)) (get_or-map call_of calls k ((d.key, d.callee), d.times) d h)
    ∙ sym (get_or-map (λ (c : Target × ℕ). c.0) calls k ((d.key, d.callee), d.times) t h)

calls_given : (names keys : ℕ) (calls : List (Target × ℕ)) → AllByRecursion (IsGivenTarget names keys) (keys_of calls) → All (IsGiven keys names) (map call_of calls)
calls_given names keys calls given k d h =
    let within : k < length calls = omega (arith, h, length-map calls call_of) in
    let t : Target = (d.key, d.callee) in
    let here = all_places (IsGivenTarget names keys) (keys_of calls) given k t (omega (arith, within, length-map calls (λ (c : Target × ℕ). c.0))) in
    let same = target_at calls k d t within in
    (subst (λ (u : Target). u.0.0 < keys) (sym same) here.0, subst (λ (u : Target). u.1.0 < names) (sym same) here.1)

calls_once : (calls : List (Target × ℕ)) → IsDistinct same_target (keys_of calls) → StandOnce called_from (map call_of calls)
calls_once calls once i j d less within same =
    let short : j < length calls = omega (arith, within, length-map calls call_of) in
    let t : Target = (d.key, d.callee) in
    let apart = AllPairs-from_IsDistinct {eq = same_target} (λ a b. (λ e. targets_same a b e, λ e. subst (λ (u : Target). same_target a u ≡ true) e (target_itself a))) (keys_of calls) once in
    apart i j t less (omega (arith, short, length-map calls (λ (c : Target × ℕ). c.0)))
    (sym (target_at calls i d t (omega (arith, less, short))) ∙ (λ n. (record { 0 = (same n).0 }, record { 0 = (same n).1 })) ∙ target_at calls j d t short)

pub sums_summed : (names : ℕ) (keys : List Key) (sums : Sums) (calls : List Call) (heads : List Head) → All (HasNames names) keys → AreSumsOf names (length keys) sums
    → calls ≡ map call_of sums.called → heads ≡ heads_at sums.heads → AreSummed names keys calls heads
sums_summed names keys sums calls heads key_names are calls_are heads_are = record {
  given = record {
    key_names = key_names;
    called = subst (All (IsGiven (length keys) names)) (sym calls_are) (calls_given names (length keys) sums.called are.called.given);
    entered = subst (All (λ (head : Head). head.name.0 < names)) (sym heads_are) (heads_given sums.heads names are.heads);
  };
  calls_once = subst (StandOnce called_from) (sym calls_are) (calls_once sums.called are.called.once);
  heads_once = subst (StandOnce (λ (head : Head). head.name.0)) (sym heads_are) (heads_once sums.heads);
}

pub said_is : (names : List (List ℕ)) (keys : List Key) (sums : Sums) (counts : List ℕ) → ReadsTheSame sums.counts counts
    → said names keys counts (map call_of sums.called) (heads_at sums.heads) ≡ sums_told names keys sums
said_is names keys sums counts reads = λ i. record {
  counts = map (λ id. (way_at names keys id, reads id i)) (range_with_len 0 (length keys));
  calls = map_map (λ (call : Call). (way_at names keys call.key.0, name_at names call.callee.0, call.times)) call_of sums.called i;
  heads = map_map (λ (head : Head). (name_at names head.name.0, head.times)) (head_at sums.heads) (range_with_len 0 (length sums.heads)) i;
}

-- ---- one more
pub heads_more : (sums : List ℕ) (n : ℕ) (heads : List Head) → heads ≡ map (head_at sums) (range_with_len 0 n) → heads ++ head_at sums n ∷ [] ≡ map (head_at sums) (range_with_len 0 (n + 1))
heads_more sums n heads so_far = ap (λ list. list ++ head_at sums n ∷ []) so_far ∙ sym (map-range_with_len_more (head_at sums) 0 n n (omega arith))
