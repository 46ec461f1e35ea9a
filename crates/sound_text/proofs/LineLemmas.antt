-- The bounds that a line spells are small.
use Rattle.std.proofs.Common.{ℕ, ◌^◌, ◌<◌, Bool, true, false, ◌&&◌, List, [], ◌∷◌, Option, None, Some, arith}
use Rattle.std.specs.Prelude.{nat_lt, codes, ⊤}
use Rattle.std.specs.Option.{option_map, option_or}
use Rattle.std.specs.Str.{bytes_eq}
use Rattle.std.proofs.lemmas.Bool.{cond_both, ltb-true}
use Rattle.text_model.specs.Fields.{fields_of}
use Rattle.text_model.specs.LineTests.{is_comment}
use Rattle.text_model.specs.Numbers.{decimal_of}
use Rattle.block_model.specs.declared.parts.Bound.{Bound}
use Rattle.block_model.specs.Function.{unbounded}
use Rattle.block_model.specs.Line.{Line, passed, begins, tells_block, tells_edge, ends, ◌>>=◌, within_bits, place_of, address_of, behind, count_of, bounded_by, at_least, at_most, bound_by_number, bound_by_word, bound_by_words, bound_of, exit_and_bound_of, block_line_of, edge_line_of, func_line_of, end_line_of, line_by_fields, line_of}

unfoldable pub IsSmallUpper : Option ℕ → Type 0
IsSmallUpper None = ⊤
IsSmallUpper (Some most) = most < 2 ^ 44

pub record IsSmall (bound : Bound) : Type 0 where
  pub low : bound.lower < 2 ^ 44
  pub high : IsSmallUpper bound.upper

abbrev pub SaysSmall : Line → Type 0
SaysSmall (tells_block number block) = IsSmall block.bound
SaysSmall (tells_edge from to bound) = IsSmall bound
SaysSmall passed = ⊤
SaysSmall (begins name) = ⊤
SaysSmall ends = ⊤

-- what holds of a value, if there is one
abbrev pub Of : {A : Type 0} → (A → Type 0) → Option A → Type 0
Of P None = ⊤
Of P (Some a) = P a

chained : {A B : Type 0} (P : A → Type 0) (Q : B → Type 0) (o : Option A) (f : A → Option B) → Of P o → ((a : A) → P a → Of Q (f a)) → Of Q (o >>= f)
chained P Q None f of then = tt
chained P Q (Some a) f of then = then a of

anything : {A : Type 0} (o : Option A) → Of (λ a. ⊤) o
anything None = tt
anything (Some a) = tt

mapped : {A B : Type 0} (P : A → Type 0) (Q : B → Type 0) (f : A → B) → ((a : A) → P a → Q (f a)) → (o : Option A) → Of P o → Of Q (option_map f o)
mapped P Q f holds None of = tt
mapped P Q f holds (Some a) of = holds a of

either : {A : Type 0} (P : A → Type 0) (o other : Option A) → Of P o → Of P other → Of P (option_or o other)
either P None other of also = also
either P (Some a) other of also = of

Small : ℕ → Type 0
Small n = n < 2 ^ 44

small_count : (digits : List ℕ) → Of Small (count_of digits)
unfolding count_of Small
small_count digits =
    chained (λ n. ⊤) Small (decimal_of digits) (within_bits 44) (anything (decimal_of digits))
    (λ n _. cond_both (nat_lt n (2 ^ 44)) (Some n) None (Of Small) (λ below. ltb-true n (2 ^ 44) below) (λ _. tt))

small_bounded : (front field : List ℕ) → Of Small (bounded_by front field)
unfolding bounded_by
small_bounded front field = chained (λ n. ⊤) Small (behind front field) count_of (anything (behind front field)) (λ digits _. small_count digits)

small_least : (n : ℕ) → Small n → IsSmall (at_least n)
unfolding Small IsSmallUpper
small_least n small = record { low = small; high = tt }

small_most : (n : ℕ) → Small n → IsSmall (at_most n)
unfolding Small IsSmallUpper
small_most n small = record { low = omega arith; high = small }

no_bound : IsSmall unbounded
unfolding IsSmallUpper
no_bound = record { low = omega arith; high = tt }

small_by_number : (field : List ℕ) → Of IsSmall (bound_by_number field)
small_by_number field =
    either IsSmall (option_map at_least (bounded_by (codes "lo=") field)) (option_map at_most (bounded_by (codes "hi=") field))
    (mapped Small IsSmall at_least small_least (bounded_by (codes "lo=") field) (small_bounded (codes "lo=") field))
    (mapped Small IsSmall at_most small_most (bounded_by (codes "hi=") field) (small_bounded (codes "hi=") field))

zero_is_small : Small 0
unfolding Small
zero_is_small = omega arith

one_is_small : Small 1
unfolding Small
one_is_small = omega arith

small_by_word : (for_block : Bool) (field : List ℕ) → Of IsSmall (bound_by_word for_block field)
unfolding bound_by_word
small_by_word for_block field =
    cond_both (bytes_eq field (codes "never")) (Some (at_most 0)) _ (Of IsSmall) (λ _. small_most 0 zero_is_small)
    (λ _. cond_both (for_block && bytes_eq field (codes "ran")) (Some (at_least 1)) _ (Of IsSmall) (λ _. small_least 1 one_is_small) (λ _. small_by_number field))

small_by_words : (low high : List ℕ) → Of IsSmall (bound_by_words low high)
unfolding bound_by_words IsSmallUpper Small
small_by_words low high =
    chained Small IsSmall (bounded_by (codes "lo=") low) _ (small_bounded (codes "lo=") low)
    (λ lower least. chained Small IsSmall (bounded_by (codes "hi=") high) _ (small_bounded (codes "hi=") high) (λ upper most. record { low = least; high = most }))

small_bound : (for_block : Bool) (words : List (List ℕ)) → Of IsSmall (bound_of for_block words)
unfolding bound_of
small_bound for_block [] = no_bound
small_bound for_block (word ∷ []) = small_by_word for_block word
small_bound for_block (low ∷ high ∷ []) = small_by_words low high
small_bound for_block (low ∷ high ∷ more ∷ words) = tt

SmallLast : Bool × Bound → Type 0
SmallLast last = IsSmall last.1

small_exit_and_bound : (words : List (List ℕ)) → Of SmallLast (exit_and_bound_of words)
unfolding SmallLast
small_exit_and_bound [] = no_bound
small_exit_and_bound (word ∷ words) =
    cond_both (bytes_eq word (codes "exit")) _ _ (Of SmallLast)
    (λ _. chained IsSmall SmallLast (bound_of true words) _ (small_bound true words) (λ bound small. small))
    (λ _. chained IsSmall SmallLast (bound_of true (word ∷ words)) _ (small_bound true (word ∷ words)) (λ bound small. small))

small_block_line : (words : List (List ℕ)) → Of SaysSmall (block_line_of words)
unfolding block_line_of SmallLast
small_block_line [] = tt
small_block_line (a ∷ []) = tt
small_block_line (a ∷ b ∷ []) = tt
small_block_line (number ∷ lo ∷ hi ∷ words) =
    chained (λ n. ⊤) SaysSmall (place_of number) _ (anything (place_of number))
    (λ number _. chained (λ n. ⊤) SaysSmall (address_of lo) _ (anything (address_of lo))
    (λ lo _. chained (λ n. ⊤) SaysSmall (address_of hi) _ (anything (address_of hi))
    (λ hi _. chained SmallLast SaysSmall (exit_and_bound_of words) _ (small_exit_and_bound words) (λ last small. small))))

small_edge_line : (words : List (List ℕ)) → Of SaysSmall (edge_line_of words)
unfolding edge_line_of
small_edge_line [] = tt
small_edge_line (a ∷ []) = tt
small_edge_line (from ∷ to ∷ words) =
    chained (λ n. ⊤) SaysSmall (place_of from) _ (anything (place_of from))
    (λ from _. chained (λ n. ⊤) SaysSmall (place_of to) _ (anything (place_of to))
    (λ to _. chained IsSmall SaysSmall (bound_of false words) _ (small_bound false words) (λ bound small. small)))

small_func_line : (words : List (List ℕ)) → Of SaysSmall (func_line_of words)
small_func_line [] = tt
small_func_line (name ∷ []) = tt
small_func_line (name ∷ more ∷ words) = tt

small_end_line : (words : List (List ℕ)) → Of SaysSmall (end_line_of words)
small_end_line [] = tt
small_end_line (word ∷ words) = tt

small_fields : (words : List (List ℕ)) → Of SaysSmall (line_by_fields words)
unfolding line_by_fields
small_fields [] = tt
small_fields (word ∷ words) =
    cond_both (bytes_eq word (codes "block")) _ _ (Of SaysSmall) (λ _. small_block_line words)
    (λ _. cond_both (bytes_eq word (codes "edge")) _ _ (Of SaysSmall) (λ _. small_edge_line words)
    (λ _. cond_both (bytes_eq word (codes "func")) _ _ (Of SaysSmall) (λ _. small_func_line words)
    (λ _. cond_both (bytes_eq word (codes "end")) _ None (Of SaysSmall) (λ _. small_end_line words) (λ _. tt))))

pub small_line : (line : List ℕ) → Of SaysSmall (line_of line)
unfolding line_of
small_line line =
    cond_both (is_comment line) (Some passed) _ (Of SaysSmall) (λ _. tt) (λ _. small_fields (fields_of line))
