-- Counts, calls and heads that are stated, each once.
use Rattle.std.proofs.Common.{◌≡◌, ◌<◌, ℕ, suc, ◌+◌, ◌^◌, ◌==◌, Bool, true, false, cond, ◌&&◌, List, [], ◌∷◌, map, take, length, get_or, set, replicate, sum_by, All, AllPairs, refl, sym, ap, ◌∙◌, arith, zero-add}
use Rattle.std.proofs.lemmas.Bool.Decides.{nat_tests}
use Rattle.std.proofs.lemmas.List.{take_more, length-replicate, get_or-replicate, get_or-take, get_or_default, length-take-le}
use Rattle.std.proofs.lemmas.List.Sums.{sum_by-cons, sum_by_push}
use Rattle.std.specs.List.{range_with_len}
use Rattle.key_types.specs.declared.key.Key.{Key}
use Rattle.cold_model.proofs.ColdLemmas.{lines_with_are_by_counts}
use Rattle.cold_model.specs.Cold.{lines_with}
use Rattle.profile_laws.proofs.TotalLemmas.{sum_both}
use Rattle.profile_laws.specs.Counts.{CountTheSame}
use Rattle.profile_laws.specs.Once.{StandOnce}
use Rattle.profile_lists.specs.declared.pairs.Call.{Call}
use Rattle.profile_model.specs.Profile.{count_of}
use Rattle.profile_model.specs.Ways.{Way, same_way}
use Rattle.profile_tree.proofs.Filled.{one_changed, add_none, test_is}
use Rattle.profile_tree.proofs.ListLemmas.{and_first, and_second, bool_cases, bool_same, nat_same, all_among, among_range, sum_map, sum_filter, sum_none, sum_same, one_of_range}
use Rattle.profile_tree.specs.Known.{called_from}
use Rattle.profile_tree.specs.Said.{said, stated, way_at}
use Rattle.profile_tree.specs.Sums.{AreEach, calls_of, count_stated, entries_of}
use Rattle.profile_tree.specs.declared.head.Head.{Head}
use Rattle.profile_tree.specs.declared.key_count.KeyCount.{KeyCount}

-- ---- sums to which one item adds at most

none_passes : {T : Type 0} (test : T → Bool) (f : T → ℕ) (xs : List T) → ((k : ℕ) (d : T) → k < length xs → test (get_or xs k d) ≡ true → ⊥)
    → sum_by (λ x. cond (test x) (f x) 0) xs ≡ 0
none_passes test f [] never = refl
none_passes test f (x ∷ xs) never =
    sum_by-cons (λ y. cond (test y) (f y) 0) x xs
    ∙ ap (λ n. n + sum_by (λ y. cond (test y) (f y) 0) xs) (bool_cases (test x) (λ e. absurd (never 0 x (omega arith) e)) (λ e. ap (λ b. cond b (f x) 0) e))
    ∙ zero-add (sum_by (λ y. cond (test y) (f y) 0) xs)
    ∙ none_passes test f xs (λ k d within. never (suc k) d (omega arith))

one_passes : {T : Type 0} (test : T → Bool) (f : T → ℕ) (most : ℕ) (xs : List T) → 0 < most → AllPairs (λ x y. test x ≡ true → test y ≡ true → ⊥) xs
    → All (λ x. f x < most) xs → sum_by (λ x. cond (test x) (f x) 0) xs < most
one_passes test f most [] some once small = some
one_passes test f most (x ∷ xs) some once small =
    bool_cases (test x) passes
    (fails (one_passes test f most xs some (λ i j d less within. once (suc i) (suc j) d (omega arith) (omega arith)) (λ k d within. small (suc k) d (omega arith))))
  where
    first : sum_by (λ y. cond (test y) (f y) 0) (x ∷ xs) ≡ cond (test x) (f x) 0 + sum_by (λ y. cond (test y) (f y) 0) xs
    first = sum_by-cons (λ y. cond (test y) (f y) 0) x xs

    passes : test x ≡ true → sum_by (λ y. cond (test y) (f y) 0) (x ∷ xs) < most
    passes e =
        let behind = none_passes test f xs (λ k d within there. once 0 (suc k) d (omega arith) (omega arith) e there) in
        let here : cond (test x) (f x) 0 ≡ f x = ap (λ b. cond b (f x) 0) e in
        omega (arith, first, behind, here, small 0 x (omega arith))

    fails : sum_by (λ y. cond (test y) (f y) 0) xs < most → test x ≡ false → sum_by (λ y. cond (test y) (f y) 0) (x ∷ xs) < most
    fails behind e =
        let here : cond (test x) (f x) 0 ≡ 0 = ap (λ b. cond b (f x) 0) e in
        omega (arith, first, behind, here)

pub calls_once_fit : (calls : List Call) → StandOnce called_from calls → All (λ call. call.times < 2 ^ 64) calls → (key callee : ℕ) → calls_of calls key callee < 2 ^ 64
calls_once_fit calls once small key callee =
    one_passes (λ (call : Call). call.key.0 == key && call.callee.0 == callee) (λ (call : Call). call.times) (2 ^ 64) calls (omega arith)
    (λ i j d less within one other.
    let keys : (get_or calls i d).key.0 ≡ (get_or calls j d).key.0 = nat_same _ _ (and_first _ _ one) ∙ sym (nat_same _ _ (and_first _ _ other)) in
    let callees : (get_or calls i d).callee.0 ≡ (get_or calls j d).callee.0 = nat_same _ _ (and_second _ _ one) ∙ sym (nat_same _ _ (and_second _ _ other)) in
    once i j d less within (λ at. (keys at, callees at))) small

pub heads_once_fit : (heads : List Head) → StandOnce (λ head. head.name.0) heads → All (λ head. head.times < 2 ^ 64) heads → (name : ℕ) → entries_of heads name < 2 ^ 64
heads_once_fit heads once small name =
    one_passes (λ (head : Head). head.name.0 == name) (λ (head : Head). head.times) (2 ^ 64) heads (omega arith)
    (λ i j d less within one other. once i j d less within (nat_same _ _ one ∙ sym (nat_same _ _ other))) small

-- ---- the count of each key, one by one

pub none_stated : (n : ℕ) → AreEach n (count_stated []) (replicate n 0)
none_stated n = record { len = length-replicate n 0; each = λ id h. get_or-replicate n id 0 0 h }

stated_more : (counts : List KeyCount) (i m : ℕ) (d : KeyCount) → i < length counts
    → count_stated (take (i + 1) counts) m ≡ count_stated (take i counts) m + cond ((get_or counts i d).key.0 == m) (get_or counts i d).times 0
stated_more counts i m d h =
    ap (λ xs. count_stated xs m) (take_more counts i d h)
    ∙ sum_by_push (λ count. cond (count.key.0 == m) count.times 0) (take i counts) (get_or counts i d)

test_itself : (k m : ℕ) → k ≡ m → (k == m) ≡ true
test_itself k m e = grind (arith, nat_tests)

pub one_stated : (n i : ℕ) (counts : List KeyCount) (d : KeyCount) (numbers : List ℕ) → i < length counts → (get_or counts i d).key.0 < n
    → StandOnce (λ count. count.key.0) counts → AreEach n (count_stated (take i counts)) numbers
    → AreEach n (count_stated (take (i + 1) counts)) (set numbers (get_or counts i d).key.0 (get_or counts i d).times)
one_stated n i counts d numbers h low once far =
    one_changed n (count_stated (take i counts)) (count_stated (take (i + 1) counts)) numbers this.key.0 this.times low far
    (sym (stated_more counts i this.key.0 d h ∙ (λ k. before k + cond (test_itself this.key.0 this.key.0 refl k) this.times 0) ∙ zero-add this.times))
    (λ m ne. stated_more counts i m d h ∙ ap (λ b. count_stated (take i counts) m + cond b this.times 0) (test_is this.key.0 m ne) ∙ add_none (count_stated (take i counts) m))
  where
    this : KeyCount
    this = get_or counts i d

    before : count_stated (take i counts) this.key.0 ≡ 0
    before =
        none_passes (λ (count : KeyCount). count.key.0 == this.key.0) (λ (count : KeyCount). count.times) (take i counts)
        (λ k e within there.
        let below : k < i = omega (arith, within, length-take-le i counts (omega (arith, h))) in
        let same : get_or (take i counts) k e ≡ get_or counts k e = get_or-take i counts k e below in
        once k i e below h (ap (λ (count : KeyCount). count.key.0) (sym same) ∙ nat_same _ _ there ∙ ap (λ (count : KeyCount). count.key.0) (get_or_default counts i d e h)))

-- ---- the lines of counts that are stated

cond_add : (b : Bool) (m n : ℕ) → cond b (m + n) 0 ≡ cond b m 0 + cond b n 0
cond_add true m n = refl
cond_add false m n = refl

cond_none : (b : Bool) → ◌≡◌ {A = ℕ} (cond b 0 0) 0
cond_none true = refl
cond_none false = refl

cond_swap : (a b c : Bool) (n : ℕ) → b ≡ c → cond a (cond b n 0) 0 ≡ cond c (cond a n 0) 0
cond_swap true true true n e = refl
cond_swap true false false n e = refl
cond_swap false true true n e = refl
cond_swap false false false n e = refl
cond_swap a true false n e = absurd cc
cond_swap a false true n e = absurd cc

turned : (m n : ℕ) → (m == n) ≡ (n == m)
turned m n = bool_same (m == n) (n == m) (λ e. test_itself n m (sym (nat_same m n e))) (λ e. test_itself m n (sym (nat_same n m e)))

-- over all keys, what some test passes of the counts
over_keys : (test : ℕ → Bool) (n : ℕ) (counts : List KeyCount) → All (λ count. count.key.0 < n) counts
    → sum_by (λ id. cond (test id) (count_stated counts id) 0) (range_with_len 0 n) ≡ sum_by (λ count. cond (test count.key.0) count.times 0) counts
over_keys test n [] low = sum_none (λ id. cond (test id) 0 0) (range_with_len 0 n) (all_among (λ id. cond (test id) 0 0 ≡ 0) (range_with_len 0 n) (λ id there. cond_none (test id)))
over_keys test n (count ∷ counts) low =
    sum_same (λ id. cond (test id) (count_stated (count ∷ counts) id) 0) (λ id. cond (id == count.key.0) (cond (test id) count.times 0) 0 + cond (test id) (count_stated counts id) 0) (range_with_len 0 n)
    (all_among (λ id. cond (test id) (count_stated (count ∷ counts) id) 0 ≡ cond (id == count.key.0) (cond (test id) count.times 0) 0 + cond (test id) (count_stated counts id) 0) (range_with_len 0 n)
    (λ id there.
    ap (λ k. cond (test id) k 0) (sum_by-cons (λ c. cond (c.key.0 == id) c.times 0) count counts)
    ∙ cond_add (test id) (cond (count.key.0 == id) count.times 0) (count_stated counts id)
    ∙ ap (λ k. k + cond (test id) (count_stated counts id) 0) (cond_swap (test id) (count.key.0 == id) (id == count.key.0) count.times (turned count.key.0 id))))
    ∙ sum_both (λ id. cond (id == count.key.0) (cond (test id) count.times 0) 0) (λ id. cond (test id) (count_stated counts id) 0) (range_with_len 0 n)
    ∙ ap (λ k. k + sum_by (λ id. cond (test id) (count_stated counts id) 0) (range_with_len 0 n)) (one_of_range (λ id. cond (test id) count.times 0) count.key.0 0 n (omega arith) (let first : count.key.0 < n = low 0 count (omega arith) in omega (arith, first)))
    ∙ ap (λ k. cond (test count.key.0) count.times 0 + k) (over_keys test n counts (λ k d within. low (suc k) d (omega arith)))
    ∙ sym (sum_by-cons (λ c. cond (test c.key.0) c.times 0) count counts)

module _ (names : List (List ℕ)) (keys : List Key) (counts : List KeyCount) (numbers : List ℕ) (calls : List Call) (heads : List Head)
    (low : All (λ count. count.key.0 < length keys) counts) (are : AreEach (length keys) (count_stated counts) numbers) where
  same_count : (way : Way) → count_of (said names keys numbers calls heads) way ≡ count_of (stated names keys counts calls heads) way
  same_count way =
      sum_filter (λ c. c.1) (λ c. same_way way c.0) (map (λ id. (way_at names keys id, get_or numbers id 0)) (range_with_len 0 (length keys)))
      ∙ sum_map (λ c. cond (same_way way c.0) c.1 0) (λ id. (way_at names keys id, get_or numbers id 0)) (range_with_len 0 (length keys))
      ∙ sum_same (λ id. cond (same_way way (way_at names keys id)) (get_or numbers id 0) 0) (λ id. cond (same_way way (way_at names keys id)) (count_stated counts id) 0) (range_with_len 0 (length keys))
      (all_among (λ id. cond (same_way way (way_at names keys id)) (get_or numbers id 0) 0 ≡ cond (same_way way (way_at names keys id)) (count_stated counts id) 0) (range_with_len 0 (length keys))
      (λ id there. ap (λ k. cond (same_way way (way_at names keys id)) k 0) (are.each id (let b = among_range 0 (length keys) id there in omega (arith, b.1)))))
      ∙ over_keys (λ id. same_way way (way_at names keys id)) (length keys) counts low
      ∙ sym (sum_map (λ c. cond (same_way way c.0) c.1 0) (λ (count : KeyCount). (way_at names keys count.key.0, count.times)) counts)
      ∙ sym (sum_filter (λ c. c.1) (λ c. same_way way c.0) (map (λ (count : KeyCount). (way_at names keys count.key.0, count.times)) counts))

  -- What is said counts the same as what is stated.
  pub same_counts : CountTheSame (said names keys numbers calls heads) (stated names keys counts calls heads)
  same_counts = record { keys = same_count; targets = λ way name. refl; heads = λ name. refl }

  pub stated_lines : (besides : List Way) → lines_with besides (said names keys numbers calls heads) ≡ lines_with besides (stated names keys counts calls heads)
  stated_lines besides = lines_with_are_by_counts besides (said names keys numbers calls heads) (stated names keys counts calls heads) same_counts
