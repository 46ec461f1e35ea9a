-- That spans tell the last load that holds an address.
use Rattle.std.proofs.Common.{◌≡◌, ℕ, ◌+◌, ◌-◌, ◌^◌, ◌<◌, ◌≤◌, nat_lt, nat_le, Bool, true, false, ◌&&◌, List, [], ◌∷◌, ◌++◌, length, length-append, take, drop, None, Some, refl, sym, ap, subst, ◌∙◌, append_assoc, arith, take-append-drop}
use Rattle.std.specs.Prelude.{find, reverse, slice_get, min, option_and_then}
use Rattle.std.specs.Option.{option_or}
use Rattle.std.proofs.lemmas.List.{append-nil, length-reverse, reverse-append, reverse-reverse}
use Rattle.std.proofs.lemmas.List.Folds.{find-append}
use Rattle.address_spans.specs.declared.span.Span.{Span}
use Rattle.address_spans.specs.Spans.{holds as span_holds, owner_at}
use Rattle.sample_model.specs.declared.load.Load.{Load}
use Rattle.sample_model.specs.Moves.{holds, last_load}
use Rattle.load_index.specs.Spans.{newest_first, span_of}

-- ---- the last load of a list

pub last_load-push : (before : List Load) (load : Load) (all : List Load) (address : ℕ) → all ≡ before ++ load ∷ [] → last_load all address ≡ find (holds address) (load ∷ reverse before)
last_load-push before load all address is = ap (λ (ls : List Load). find (holds address) (reverse ls)) is ∙ ap (find (holds address)) (reverse-append before (load ∷ []))

pub last_load-holds : (before : List Load) (load : Load) (all : List Load) (address : ℕ) → all ≡ before ++ load ∷ [] → holds address load ≡ true → last_load all address ≡ Some load
last_load-holds before load all address is here = last_load-push before load all address is ∙ first_found (holds address) load (reverse before) here
  where
    first_found : (p : Load → Bool) (x : Load) (xs : List Load) → p x ≡ true → find p (x ∷ xs) ≡ Some x
    first_found p x xs here = rw here refl

pub last_load-before : (before : List Load) (load : Load) (all : List Load) (address : ℕ) → all ≡ before ++ load ∷ [] → holds address load ≡ false → last_load before address ≡ last_load all address
last_load-before before load all address is here = sym (last_load-push before load all address is ∙ passed (holds address) load (reverse before) here)
  where
    passed : (p : Load → Bool) (x : Load) (xs : List Load) → p x ≡ false → find p (x ∷ xs) ≡ find p xs
    passed p x xs here = rw here refl

pub last_load-none : (all : List Load) (address : ℕ) → length all ≡ 0 → last_load all address ≡ None
last_load-none [] address none = refl
last_load-none (load ∷ all) address none = absurd (omega arith)

pub last_load-parts : (front back all : List Load) (address : ℕ) → all ≡ front ++ back → last_load all address ≡ option_or (last_load back address) (last_load front address)
last_load-parts front back all address is =
    ap (λ (ls : List Load). find (holds address) (reverse ls)) is
    ∙ ap (find (holds address)) (reverse-append front back)
    ∙ find-append (holds address) (reverse back) (reverse front)

pub split_whole : (all front back : List Load) (n : ℕ) → front ≡ take n all → back ≡ drop n all → all ≡ front ++ back
split_whole all front back n first second = sym (take-append-drop n all) ∙ ap (λ (ls : List Load). ls ++ drop n all) (sym first) ∙ ap (λ (ls : List Load). front ++ ls) (sym second)

found_holds : (p : Load → Bool) (loads : List Load) (load : Load) → find p loads ≡ Some load → p load ≡ true
found_holds p [] load is = absurd (cc)
found_holds p (first ∷ loads) load is =
    elim (p first) as (λ b. p first ≡ b → p load ≡ true) [
      | true ↦ λ here.
          let found : find p (first ∷ loads) ≡ Some first = rw here refl in
          let same : first ≡ load = some_same first load (sym found ∙ is) in
          subst (λ (l : Load). p l ≡ true) same here
      | false ↦ λ here.
          let passed : find p (first ∷ loads) ≡ find p loads = rw here refl in
          found_holds p loads load (sym passed ∙ is)
    ] refl
  where
    some_same : (a b : Load) → Some a ≡ Some b → a ≡ b
    some_same a b is = cc

starts : (load : Load) (address : ℕ) → holds address load ≡ true → load.start ≤ address
starts load address here = grind arith

pub last_load-starts : (loads : List Load) (address : ℕ) (load : Load) → last_load loads address ≡ Some load → load.start ≤ address
last_load-starts loads address load is = starts load address (found_holds (holds address) (reverse loads) load is)

-- ---- spans, the newest first

lt_min : (a x m : ℕ) → a < m → nat_lt a (min x m) ≡ nat_lt a x
lt_min a x m below = grind arith

span_holds_as : (place address : ℕ) (load : Load) → address < 2 ^ 64 - 1 → span_holds address (span_of place load) ≡ holds address load
span_holds_as place address load below = ap (λ (b : Bool). nat_le load.start address && b) (lt_min address (load.start + load.len) (2 ^ 64 - 1) below)

slice_get_end : (xs ys : List Load) (x : Load) → slice_get (xs ++ x ∷ ys) (length xs) ≡ Some x
slice_get_end [] ys x = refl
slice_get_end (y ∷ xs) ys x = slice_get_end xs ys x

pub owner_here : (s : Span) (spans : List Span) (address : ℕ) → span_holds address s ≡ true → owner_at (s ∷ spans) address ≡ Some s.owner
owner_here s spans address here = rw here refl

pub owner_there : (s : Span) (spans : List Span) (address : ℕ) → span_holds address s ≡ false → owner_at (s ∷ spans) address ≡ owner_at spans address
owner_there s spans address here = rw here refl

-- what further loads hold, laid over spans that tell the loads before them
pub told_over : (front more newest : List Load) (below : List Span) (address : ℕ) → address < 2 ^ 64 - 1
    → ((further : List Load) → last_load front address ≡ option_and_then (slice_get (front ++ further)) (owner_at below address))
    → last_load (front ++ reverse newest) address ≡ option_and_then (slice_get ((front ++ reverse newest) ++ more)) (owner_at (newest_first (length front) newest ++ below) address)
told_over front more [] below address near told =
    rw (append-nil front) (told more)
told_over front more (load ∷ older) below address near told =
    let before : List Load = front ++ reverse older in
    let all : front ++ reverse (load ∷ older) ≡ before ++ load ∷ [] =
    ap (λ (ls : List Load). front ++ ls) (reverse-append (load ∷ []) older) ∙ sym (append_assoc front (reverse older) (load ∷ [])) in
    let whole : (front ++ reverse (load ∷ older)) ++ more ≡ before ++ load ∷ more =
    ap (λ (ls : List Load). ls ++ more) all ∙ append_assoc before (load ∷ []) more in
    let place : length before ≡ length front + length older = simp (length-append, length-reverse) refl in
    let s = span_of (length front + length older) load in
    let spans : List Span = newest_first (length front) older ++ below in
    let as_load = span_holds_as (length front + length older) address load near in
    elim (holds address load) as (λ b. holds address load ≡ b → last_load (front ++ reverse (load ∷ older)) address ≡ option_and_then (slice_get ((front ++ reverse (load ∷ older)) ++ more)) (owner_at (s ∷ spans) address)) [
      | true ↦ λ here.
          last_load-holds before load (front ++ reverse (load ∷ older)) address all here
          ∙ sym (slice_get_end before more load)
          ∙ ap (λ (ls : List Load). slice_get ls (length before)) (sym whole)
          ∙ ap (λ (n : ℕ). slice_get ((front ++ reverse (load ∷ older)) ++ more) n) place
          ∙ ap (option_and_then (slice_get ((front ++ reverse (load ∷ older)) ++ more))) (sym (owner_here s spans address (as_load ∙ here)))
      | false ↦ λ here.
          sym (last_load-before before load (front ++ reverse (load ∷ older)) address all here)
          ∙ told_over front (load ∷ more) older below address near told
          ∙ ap (λ (xs : List Load). option_and_then (slice_get xs) (owner_at spans address)) (sym whole)
          ∙ ap (option_and_then (slice_get ((front ++ reverse (load ∷ older)) ++ more))) (sym (owner_there s spans address (as_load ∙ here)))
    ] refl

pub told_by_spans : (front recent loads : List Load) (below spans : List Span) → loads ≡ front ++ recent
    → ((address : ℕ) → owner_at spans address ≡ owner_at (newest_first (length front) (reverse recent) ++ below) address)
    → ((further : List Load) (address : ℕ) → address < 2 ^ 64 - 1 → last_load front address ≡ option_and_then (slice_get (front ++ further)) (owner_at below address))
    → (more : List Load) (address : ℕ) → address < 2 ^ 64 - 1 → last_load loads address ≡ option_and_then (slice_get (loads ++ more)) (owner_at spans address)
told_by_spans front recent loads below spans whole same told more address near =
    let parts : front ++ reverse (reverse recent) ≡ loads = ap (λ (ls : List Load). front ++ ls) (reverse-reverse recent) ∙ sym whole in
    subst (λ (ls : List Load). last_load ls address ≡ option_and_then (slice_get (ls ++ more)) (owner_at spans address)) parts
    (told_over front more (reverse recent) below address near (λ further. told further address near)
    ∙ ap (option_and_then (slice_get ((front ++ reverse (reverse recent)) ++ more))) (sym (same address)))

-- with no load behind those that the spans tell of
pub told_now : (loads : List Load) (spans : List Span) (address : ℕ) → ((more : List Load) → last_load loads address ≡ option_and_then (slice_get (loads ++ more)) (owner_at spans address))
    → last_load loads address ≡ option_and_then (slice_get loads) (owner_at spans address)
told_now loads spans address told =
    subst (λ (ls : List Load). last_load loads address ≡ option_and_then (slice_get ls) (owner_at spans address)) (append-nil loads) (told [])
