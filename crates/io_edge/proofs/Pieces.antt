-- The first file that passes, and what a read gives of the bytes that are left.
use Rattle.std.proofs.Common.{◌≡◌, ℕ, zero, suc, ◌+◌, ◌<◌, ◌≤◌, min, Bool, true, false, cond, ltb, List, [], ◌∷◌, ◌++◌, length, take, drop, Option, None, Some, is_some, find, slice_get, option_and_then, refl, sym, ap, ◌∙◌, arith}
use Rattle.std.specs.List.{position_or_len}
use Rattle.std.proofs.lemmas.Bool.Decides.{nat_tests}
use Rattle.std.proofs.lemmas.List.{take-append-drop, take-take, drop-drop, length-take, length-append, nil_from_length}
use Rattle.std.proofs.lemmas.List.Folds.{find_at}
use Rattle.std.proofs.lemmas.Option.{slice_get_past}
use Rattle.io_edge.specs.MemoryInputs.{rest_of}
use Rattle.io_edge.specs.declared.memory_inputs.StoredFile.{StoredFile}

-- the index of the first element that passes leads to it
pub record Leads {X : Type 0} (p : X → Bool) (xs : List X) (r : Option ℕ) : Type 0 where
  pub file : option_and_then (slice_get xs) r ≡ find p xs
  pub found : is_some r ≡ is_some (find p xs)

within : {X : Type 0} (xs : List X) (i : ℕ) → i < length xs → is_some (slice_get xs i) ≡ true
within [] i h = absurd (omega arith)
within (x ∷ xs) zero h = refl
within (x ∷ xs) (suc i) h = within xs i (omega arith)

below : (m n : ℕ) → true ≡ ltb m n → m < n
below m n h = grind (arith, nat_tests)

not_below : (m n : ℕ) → false ≡ ltb m n → n ≤ m
not_below m n h = grind (arith, nat_tests)

leads_by : {X : Type 0} (p : X → Bool) (xs : List X) (r : Option ℕ) (b : Bool) → b ≡ ltb (position_or_len p xs) (length xs)
    → r ≡ cond b (Some (position_or_len p xs)) None → Leads p xs r
leads_by p xs r true test is = record {
  file = ap (option_and_then (slice_get xs)) is ∙ sym (find_at p xs);
  found = ap is_some is ∙ sym (ap is_some (find_at p xs) ∙ within xs (position_or_len p xs) (below _ _ test));
}
leads_by p xs r false test is =
    let none : find p xs ≡ None = find_at p xs ∙ slice_get_past xs (position_or_len p xs) (not_below _ _ test) in
    record {
      file = ap (option_and_then (slice_get xs)) is ∙ sym none;
      found = ap is_some is ∙ sym (ap is_some none);
    }

pub leads : {X : Type 0} (p : X → Bool) (xs : List X) (r : Option ℕ)
    → r ≡ cond (ltb (position_or_len p xs) (length xs)) (Some (position_or_len p xs)) None → Leads p xs r
leads p xs r is = leads_by p xs r _ refl is

-- what a read of a piece gives of the bytes behind a place, and what it leaves
pub record Gives (left after given : List ℕ) (n room : ℕ) : Type 0 where
  pub split : left ≡ given ++ after
  pub at_end : n ≡ 0 → 0 < room → after ≡ []

gives_of : (bytes : List ℕ) (at n size piece : ℕ) (rest old new : List ℕ) → 0 < piece
    → rest ≡ drop at bytes → size ≡ min (length rest) piece → n ≡ min (length (take size rest)) (length old)
    → take n new ≡ take n (take size rest) → length new ≡ length old
    → Gives (drop at bytes) (drop (at + n) bytes) (take n new) n (length new)
gives_of bytes at n size piece rest old new some is_rest is_size is_n front same =
    let of_size = length-take size rest in
    let fits : n ≤ size = omega (arith, of_size, is_n) in
    let given : take n new ≡ take n rest = front ∙ take-take n size rest fits in
    let after : drop n rest ≡ drop (at + n) bytes = ap (drop n) is_rest ∙ drop-drop n at bytes in
    record {
      split = sym is_rest ∙ sym (take-append-drop n rest) ∙ ap (λ l. l ++ drop n rest) (sym given) ∙ ap (λ l. take n new ++ l) after;
      at_end = λ none room.
          let short : length rest ≡ 0 = omega (arith, of_size, is_size, is_n, none, room, same, some) in
          let nothing : length (drop n rest) ≡ 0 = omega (arith, short, ap length (take-append-drop n rest), length-append (take n rest) (drop n rest)) in
          sym after ∙ nil_from_length (drop n rest) nothing;
    }

pub gives : (files : List StoredFile) (current : Option ℕ) (at n size piece : ℕ) (rest old new : List ℕ) → 0 < piece
    → rest ≡ rest_of files current at → size ≡ min (length rest) piece → n ≡ min (length (take size rest)) (length old)
    → take n new ≡ take n (take size rest) → length new ≡ length old
    → Gives (rest_of files current at) (rest_of files current (at + n)) (take n new) n (length new)
gives files current at n size piece rest old new some is_rest is_size is_n front same =
    gives_of _ at n size piece rest old new some is_rest is_size is_n front same
