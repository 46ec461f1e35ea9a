-- The lines of a text, taken off its front one at a time.
use Rattle.std.proofs.Common.{◌≡◌, ℕ, suc, ◌+◌, ◌<◌, ◌∙◌, get_or, take, drop, length-take, add-one, Bool, true, false, List, [], ◌∷◌, ◌++◌, refl, sym, ap, All, arith, length, ◌==◌}
use Rattle.std.proofs.lemmas.Bool.Decides.{nat_tests}
use Rattle.std.proofs.Math.Seq.{split_at}
use Rattle.std.proofs.lemmas.Bool.{false_from_ne_true, eqb-true}
use Rattle.std.proofs.lemmas.List.{get_or-take, get_or_default}
use Rattle.std.specs.List.{slice_split, onto_first}
use Rattle.std.proofs.lemmas.List.Splits.{slice_split_at, slice_split_none, slice_split-cons_yes, slice_split-cons_no}
use Rattle.text_model.specs.Lines.{is_line_feed, lines_of, ended_lines_of, without_end, without_empty_end}

-- there is always a first part
pub some_part : {X : Type 0} (p : X → Bool) (xs : List X) → (first : List X) × (parts : List (List X)) × (slice_split p xs ≡ first ∷ parts)
some_part p [] = ([], [], refl)
some_part p (x ∷ xs) = some_part_on p x xs (p x) refl
  where
    onto : {X : Type 0} (x : X) (parts : List (List X)) → (first : List X) × (rest : List (List X)) × (onto_first x parts ≡ first ∷ rest)
    onto x [] = (x ∷ [], [], refl)
    onto x (part ∷ parts) = (x ∷ part, parts, refl)

    some_part_on : {X : Type 0} (p : X → Bool) (x : X) (xs : List X) (b : Bool) → p x ≡ b → (first : List X) × (parts : List (List X)) × (slice_split p (x ∷ xs) ≡ first ∷ parts)
    some_part_on p x xs true e = ([], slice_split p xs, rw e)
    some_part_on p x xs false e = rw e (onto x (slice_split p xs))

pub lines_of-nil : lines_of [] ≡ []
unfolding lines_of
lines_of-nil = refl

-- a line that a line feed ends
pub lines_of-ended : (line text : List ℕ) → All (λ b. is_line_feed b ≡ false) line → lines_of (line ++ 10 ∷ text) ≡ line ∷ lines_of text
unfolding lines_of
lines_of-ended line text clean =
    let (first, parts, is) = some_part is_line_feed text in
    rw (slice_split_at is_line_feed line 10 text clean refl, is)

-- a last line, that the text's end ends
pub lines_of-last : (b : ℕ) (line : List ℕ) → All (λ b. is_line_feed b ≡ false) (b ∷ line) → lines_of (b ∷ line) ≡ (b ∷ line) ∷ []
unfolding lines_of
lines_of-last b line clean =
    let filled : (length (b ∷ line) == 0) ≡ false = grind (arith, nat_tests) in
    rw (slice_split_none is_line_feed (b ∷ line) clean, filled)

pub ended_lines_of-ended : (line text : List ℕ) → All (λ b. is_line_feed b ≡ false) line → ended_lines_of (line ++ 10 ∷ text) ≡ line ∷ ended_lines_of text
unfolding ended_lines_of
ended_lines_of-ended line text clean =
    let (first, parts, is) = some_part is_line_feed text in
    rw (slice_split_at is_line_feed line 10 text clean refl, is)

pub ended_lines_of-last : (line : List ℕ) → All (λ b. is_line_feed b ≡ false) line → ended_lines_of line ≡ []
unfolding ended_lines_of
ended_lines_of-last line clean = ap without_end (slice_split_none is_line_feed line clean)

-- no element below place i passes the test
pub none_below : (p : ℕ → Bool) (xs : List ℕ) (i : ℕ) → ((k : ℕ) → k < i → k < length xs → ¬ (p (get_or xs k 0) ≡ true)) → All (λ b. p b ≡ false) (take i xs)
none_below p xs i none k d lt =
    let below : k < i = omega (arith, length-take i xs, lt) in
    let within : k < length xs = omega (arith, length-take i xs, lt) in
    rw (get_or-take i xs k d below, get_or_default xs k d 0 within) (false_from_ne_true (p (get_or xs k 0)) (none k below within))

-- no element passes the test
pub none_in : (p : ℕ → Bool) (xs : List ℕ) → ((k : ℕ) → k < length xs → ¬ (p (get_or xs k 0) ≡ true)) → All (λ b. p b ≡ false) xs
none_in p xs none k d within = rw (get_or_default xs k d 0 within) (false_from_ne_true (p (get_or xs k 0)) (none k within))

-- the line that ends at the first line feed, at place i
pub lines_of-first : (text : List ℕ) (i : ℕ) → i < length text → ((k : ℕ) → k < i → k < length text → ¬ (is_line_feed (get_or text k 0) ≡ true)) → is_line_feed (get_or text i 0) ≡ true → lines_of text ≡ take i text ∷ lines_of (drop (i + 1) text)
lines_of-first text i within none ends =
    let byte : get_or text i 0 ≡ 10 = eqb-true (get_or text i 0) 10 ends in
    let parts = split_at text i 0 within in
    let same : lines_of text ≡ lines_of (take i text ++ 10 ∷ drop (suc i) text) = ap lines_of (rw byte at parts) in
    rw add-one (same ∙ lines_of-ended (take i text) (drop (suc i) text) (none_below is_line_feed text i none))

-- a text without a line feed is one line
pub lines_of-whole : (text : List ℕ) → 0 < length text → ((k : ℕ) → k < length text → ¬ (is_line_feed (get_or text k 0) ≡ true)) → lines_of text ≡ text ∷ []
lines_of-whole [] some none = absurd (omega (arith, some))
lines_of-whole (b ∷ line) some none = lines_of-last b line (none_in is_line_feed (b ∷ line) none)

pub lines_of-empty : (text : List ℕ) → (length text == 0) ≡ true → lines_of text ≡ []
lines_of-empty [] empty = lines_of-nil
lines_of-empty (b ∷ line) empty = absurd (omega (arith, eqb-true (length (b ∷ line)) 0 empty))

-- the parts of a text around a line feed
split-around : (xs ys : List ℕ) (b : ℕ) → is_line_feed b ≡ true → slice_split is_line_feed (xs ++ b ∷ ys) ≡ slice_split is_line_feed xs ++ slice_split is_line_feed ys
split-around [] ys b feed = slice_split-cons_yes is_line_feed b ys feed
split-around (x ∷ xs) ys b feed =
    elim (is_line_feed x) as (λ v. is_line_feed x ≡ v → slice_split is_line_feed (x ∷ (xs ++ b ∷ ys)) ≡ slice_split is_line_feed (x ∷ xs) ++ slice_split is_line_feed ys) [
      | true ↦ λ yes. slice_split-cons_yes is_line_feed x (xs ++ b ∷ ys) yes ∙ ap (λ (parts : List (List ℕ)). [] ∷ parts) (split-around xs ys b feed)
          ∙ ap (λ (parts : List (List ℕ)). parts ++ slice_split is_line_feed ys) (sym (slice_split-cons_yes is_line_feed x xs yes))
      | false ↦ λ no. slice_split-cons_no is_line_feed x (xs ++ b ∷ ys) no ∙ ap (onto_first x) (split-around xs ys b feed)
          ∙ onto_first-append x (slice_split is_line_feed xs) (slice_split is_line_feed ys) (some_part is_line_feed xs)
          ∙ ap (λ (parts : List (List ℕ)). parts ++ slice_split is_line_feed ys) (sym (slice_split-cons_no is_line_feed x xs no))
    ] refl
  where
    onto_first-append : (x : ℕ) (parts more : List (List ℕ)) → (first : List ℕ) × (rest : List (List ℕ)) × (parts ≡ first ∷ rest) → onto_first x (parts ++ more) ≡ onto_first x parts ++ more
    onto_first-append x parts more some =
        ap (λ (ps : List (List ℕ)). onto_first x (ps ++ more)) some.2 ∙ sym (ap (λ (ps : List (List ℕ)). onto_first x ps ++ more) some.2)

without_end-push : (parts : List (List ℕ)) (last : List ℕ) → without_end (parts ++ last ∷ []) ≡ parts
without_end-push [] last = refl
without_end-push (part ∷ []) last = refl
without_end-push (part ∷ next ∷ parts) last = ap (λ (ps : List (List ℕ)). part ∷ ps) (without_end-push (next ∷ parts) last)

without_empty_end-push : (parts : List (List ℕ)) → without_empty_end (parts ++ [] ∷ []) ≡ parts
without_empty_end-push [] = refl
without_empty_end-push (part ∷ []) = refl
without_empty_end-push (part ∷ next ∷ parts) = ap (λ (ps : List (List ℕ)). part ∷ ps) (without_empty_end-push (next ∷ parts))

-- up to its last line feed a text has its ended lines
pub lines_of-ended_part : (front rest : List ℕ) (b : ℕ) → is_line_feed b ≡ true → All (λ c. is_line_feed c ≡ false) rest → lines_of (front ++ b ∷ []) ≡ ended_lines_of (front ++ b ∷ rest)
unfolding lines_of ended_lines_of
lines_of-ended_part front rest b feed none =
    ap without_empty_end (split-around front [] b feed) ∙ without_empty_end-push (slice_split is_line_feed front)
    ∙ sym (ap without_end (split-around front rest b feed ∙ ap (λ (ps : List (List ℕ)). slice_split is_line_feed front ++ ps) (slice_split_none is_line_feed rest none)) ∙ without_end-push (slice_split is_line_feed front) rest)
