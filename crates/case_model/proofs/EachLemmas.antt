-- The parts of n functions: one function more, and how long they are.
use Rattle.std.proofs.Common.{◌≡◌, ℕ, zero, suc, ◌+◌, ◌*◌, List, ◌++◌, length, sym, ap, ◌∙◌, append_assoc, append-nil, arith, length-append, add-zero, add-one}
use Rattle.std.specs.List.{flat_map, range_with_len}
use Rattle.case_model.specs.Bytes.{for_each_function}

parts_more : (part : ℕ → List ℕ) (a n : ℕ) → flat_map part (range_with_len a (suc n)) ≡ flat_map part (range_with_len a n) ++ part (a + n)
parts_more part a zero = append-nil (part a) ∙ ap part (sym (add-zero a))
parts_more part a (suc n) =
    ap (λ rest. part a ++ rest) (parts_more part (a + 1) n ∙ ap (λ k. flat_map part (range_with_len (a + 1) n) ++ part k) (omega arith))
    ∙ sym (append_assoc (part a) _ _)

pub for_each_function-more : (part : ℕ → List ℕ) (n : ℕ) → for_each_function part (n + 1) ≡ for_each_function part n ++ part n
unfolding for_each_function
for_each_function-more part n = rw add-one (parts_more part 0 n ∙ ap (λ k. flat_map part (range_with_len 0 n) ++ part k) (omega arith))

length-parts : (part : ℕ → List ℕ) (size : ℕ) → ((k : ℕ) → length (part k) ≡ size) → (a n : ℕ) → length (flat_map part (range_with_len a n)) ≡ size * n
length-parts part size sized a zero = omega arith
length-parts part size sized a (suc n) =
    length-append (part a) (flat_map part (range_with_len (a + 1) n)) ∙ omega (arith, sized a, length-parts part size sized (a + 1) n)

pub length-for_each_function : (part : ℕ → List ℕ) (size : ℕ) → ((k : ℕ) → length (part k) ≡ size) → (n : ℕ) → length (for_each_function part n) ≡ size * n
unfolding for_each_function
length-for_each_function part size sized n = length-parts part size sized 0 n
