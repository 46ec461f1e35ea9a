-- What searches of a line find, in the words of the definitions.
use Rattle.std.proofs.Common.{◌≡◌, ℕ, zero, suc, ◌+◌, ◌<◌, ◌≤◌, ◌^◌, nat_lt, Bool, true, false, ◌||◌, ◌&&◌, List, [], ◌∷◌, ◌++◌, length, take, drop, Option, None, Some, Ok, Err, refl, sym, ap, subst, ◌∙◌, arith}
use Rattle.std.specs.Prelude.{is_some, is_ok, if◌then◌else◌}
use Rattle.std.specs.List.{position_or_len, list_all, filter_map}
use Rattle.std.specs.Result.{result_ok}
use Rattle.std.proofs.lemmas.Bool.{false_from_ne_true, lt-ltb, le-ltb}
use Rattle.std.proofs.lemmas.List.{append-nil, append_assoc, drop_at, length-append, length-take, take_all, take-append-le, take-append-drop, take-take}
use Rattle.std.proofs.lemmas.List.Prefix.{at_from_reads, at_reads}
use Rattle.std.proofs.lemmas.List.Sums.{position_or_len_is}
use Rattle.memchr.specs.Find.{FindsNeedle, IsFirstByte, is_byte}
use Rattle.text_model.specs.LineTests.{contains}
use Rattle.text_model.proofs.LineTestLemmas.{contains-parts, parts-contains}
use Rattle.text_scan.specs.Numbers.{within}
use Rattle.text_scan.specs.declared.read.NumberFault.TheVariants.{NumberTooLarge}
use Rattle.refusal.specs.declared.kind.Kind.{Kind}
use Rattle.refusal.specs.declared.kind.Kind.TheVariants.{BadLine, LineTooLong, TooManyEntries}
use Rattle.text_model.specs.Fields.{fields_of}
use Rattle.branch_lines.specs.Line.{kept, ReadsEntry, ReadsSample, ReadsLine}
use Rattle.sample_model.specs.Judging.{cause_of_line}
use Rattle.sample_model.specs.Limits.{max_line_bytes, max_entries}
use Rattle.sample_model.specs.Line.{◌>>=◌, within_64_bits, is_slash, entry_of, entry_fields, is_sample, is_well_formed, branches_of_line}

-- the first slash, where there is one
pub first_slash : (text : List ℕ) (slash : ℕ) → IsFirstByte (is_byte 47) text (Some slash) → position_or_len is_slash text ≡ slash
first_slash text slash found =
    position_or_len_is is_slash text slash 0 (omega (arith, found.0.high)) (λ k below. false_from_ne_true _ (found.0.before k (omega arith) below)) (λ _. found.1)

pub no_slash : (text : List ℕ) → IsFirstByte (is_byte 47) text None → position_or_len is_slash text ≡ length text
no_slash text none =
    position_or_len_is is_slash text (length text) 0 (omega arith) (λ k below. false_from_ne_true _ (none k (omega arith) below)) (λ past. absurd (omega arith))

-- a number that fits 64 bits, as it is answered and as it is defined
pub result_ok-within : (n : Option ℕ) → result_ok (within 64 n) ≡ (n >>= within_64_bits)
result_ok-within None = refl
result_ok-within (Some n) =
    elim (nat_lt n (2 ^ 64)) as (λ b. result_ok (if b then Ok n else Err NumberTooLarge) ≡ (if b then Some n else None)) [ true ↦ refl | false ↦ refl ]

pub is_ok-within : (n : Option ℕ) → is_ok (within 64 n) ≡ is_some (n >>= within_64_bits)
is_ok-within None = refl
is_ok-within (Some n) =
    elim (nat_lt n (2 ^ 64)) as (λ b. is_ok (if b then Ok n else Err NumberTooLarge) ≡ is_some (if b then Some n else None)) [ true ↦ refl | false ↦ refl ]

-- what a || b answers, by the way it took
pub or-then : (a b answer : Bool) → a ≡ true → answer ≡ true → answer ≡ (a || b)
or-then true b answer is said = said
or-then false b answer is said = absurd (cc)

pub or-else : (a b answer : Bool) → a ≡ false → answer ≡ b → answer ≡ (a || b)
or-else true b answer is said = absurd (cc)
or-else false b answer is said = said

pub or_regroup : (a b c : Bool) → ((a || b) || c) ≡ (a || (b || c))
or_regroup true b c = refl
or_regroup false b c = refl

-- the search for a needle finds one exactly where the text contains it
pub find-contains : (text needle : List ℕ) (found : Option ℕ) → FindsNeedle text needle 0 found → is_some found ≡ contains text needle
find-contains text needle (Some k) finds =
    let here : drop k text ≡ needle ++ drop (k + length needle) text = at_from_reads 0 text needle k finds.1.fits finds.1.reads in
    let whole : take k text ++ (needle ++ drop (k + length needle) text) ≡ text = ap (λ (t : List ℕ). take k text ++ t) (sym here) ∙ take-append-drop k text in
    sym (subst (λ (t : List ℕ). contains t needle ≡ true) whole (contains-parts (take k text) needle (drop (k + length needle) text)))
find-contains text needle None finds =
    sym (false_from_ne_true (contains text needle) (λ is.
    let parts = parts-contains text needle is in
    let here : drop (length parts.0) text ≡ needle ++ parts.1 = subst (λ (t : List ℕ). drop (length parts.0) t ≡ needle ++ parts.1) (sym parts.2) (drop_at parts.0 (needle ++ parts.1) (length parts.0) refl) in
    let fits : length parts.0 + length needle ≤ length text = omega (arith, ap length parts.2, length-append parts.0 (needle ++ parts.1), length-append needle parts.1) in
    finds (length parts.0) (omega arith) (omega arith) (record { fits = fits; reads = at_reads 0 text needle (length parts.0) parts.1 here })))

abbrev is_entry : List ℕ → Bool
is_entry field = is_some (entry_of field)

-- a front of a list that goes on
pub take-again : {A : Type 0} (n : ℕ) (xs ys : List A) → take n (take n xs ++ ys) ≡ take n (xs ++ ys)
take-again zero xs ys = refl
take-again (suc n) [] ys = refl
take-again (suc n) (x ∷ xs) ys = ap (λ (zs : List _). x ∷ zs) (take-again n xs ys)

-- one more is kept while there is place, and none where there is not
pub kept-push : (old : List (ℕ × ℕ)) (branch : ℕ × ℕ) → length old < max_entries + 1 → old ++ branch ∷ [] ≡ kept (old ++ branch ∷ [])
kept-push old branch few = sym (take_all (max_entries + 1) (old ++ branch ∷ []) (omega (arith, length-append old (branch ∷ []))))

pub kept-full : (old : List (ℕ × ℕ)) (branch : ℕ × ℕ) → max_entries + 1 ≤ length old → kept old ≡ old → old ≡ kept (old ++ branch ∷ [])
kept-full old branch many whole = sym whole ∙ sym (take-append-le (max_entries + 1) old (branch ∷ []) many)

-- These fields are left of a sample's. Those before them are entries, and their branches were read, as far as they are
-- kept.
pub record EntriesSoFar (fields left : List (List ℕ)) (branches : List (ℕ × ℕ)) : Type 0 where
  pub done : List (ℕ × ℕ)
  pub good : list_all is_entry fields ≡ list_all is_entry left
  pub joined : done ++ filter_map entry_of left ≡ filter_map entry_of fields
  pub read : branches ≡ kept done

pub EntriesSoFar-none : (fields : List (List ℕ)) (branches : List (ℕ × ℕ)) → branches ≡ [] → EntriesSoFar fields fields branches
EntriesSoFar-none fields branches empty = record { done = []; good = refl; joined = refl; read = empty }

filter_map-first : (field : List ℕ) (branch : ℕ × ℕ) (rest : List (List ℕ)) → entry_of field ≡ Some branch → filter_map entry_of (field ∷ rest) ≡ branch ∷ filter_map entry_of rest
filter_map-first field branch rest is = rw is refl

pub EntriesSoFar-more : (fields left rest : List (List ℕ)) (branches new : List (ℕ × ℕ)) (field : List ℕ) → EntriesSoFar fields left branches
    → left ≡ field ∷ rest → ReadsEntry field (Ok tt) branches new → EntriesSoFar fields rest new
EntriesSoFar-more fields left rest branches new field so_far first reads =
    let branch = reads.0 in
    let here : kept branches ≡ branches = ap kept so_far.read ∙ take-take (max_entries + 1) (max_entries + 1) so_far.done (omega arith) ∙ sym so_far.read in
    record {
      done = so_far.done ++ branch ∷ [];
      good = so_far.good ∙ ap (list_all is_entry) first ∙ ap (λ o. is_some o && list_all is_entry rest) reads.1;
      joined = append_assoc so_far.done (branch ∷ []) (filter_map entry_of rest)
          ∙ ap (λ (bs : List (ℕ × ℕ)). so_far.done ++ bs) (sym (filter_map-first field branch rest reads.1))
          ∙ ap (λ (fs : List (List ℕ)). so_far.done ++ filter_map entry_of fs) (sym first) ∙ so_far.joined;
      read = reads.2 here ∙ ap (λ (bs : List (ℕ × ℕ)). kept (bs ++ branch ∷ [])) so_far.read ∙ take-again (max_entries + 1) so_far.done (branch ∷ []);
    }

pub EntriesSoFar-all : (fields left : List (List ℕ)) (branches : List (ℕ × ℕ)) → EntriesSoFar fields left branches → left ≡ [] → (list_all is_entry fields ≡ true) × (branches ≡ kept (filter_map entry_of fields))
EntriesSoFar-all fields left branches so_far none = (
  so_far.good ∙ ap (list_all is_entry) none,
  so_far.read ∙ ap kept (sym (append-nil so_far.done) ∙ ap (λ (fs : List (List ℕ)). so_far.done ++ filter_map entry_of fs) (sym none) ∙ so_far.joined),
)

pub EntriesSoFar-bad : (fields left rest : List (List ℕ)) (branches : List (ℕ × ℕ)) (field : List ℕ) → EntriesSoFar fields left branches → left ≡ field ∷ rest → entry_of field ≡ None → list_all is_entry fields ≡ false
EntriesSoFar-bad fields left rest branches field so_far first none = so_far.good ∙ ap (list_all is_entry) first ∙ ap (λ o. is_some o && list_all is_entry rest) none

-- an entry that was not read, as the sample's stop
pub ReadsSample-stop : (line field : List ℕ) (left rest : List (List ℕ)) (branches : List (ℕ × ℕ)) (kind : Kind) → EntriesSoFar (entry_fields (fields_of line)) left branches
    → left ≡ field ∷ rest → (kind ≡ BadLine) × (entry_of field ≡ None) → (kind ≡ BadLine) × (is_well_formed line ≡ false)
unfolding is_well_formed
ReadsSample-stop line field left rest branches kind so_far first reads =
    (reads.0, EntriesSoFar-bad (entry_fields (fields_of line)) left rest branches field so_far first reads.1)

pub ReadsSample-all : (line : List ℕ) (left : List (List ℕ)) (branches : List (ℕ × ℕ)) → EntriesSoFar (entry_fields (fields_of line)) left branches → left ≡ [] → ReadsSample line (Ok tt) branches
unfolding is_well_formed
ReadsSample-all line left branches so_far none = EntriesSoFar-all (entry_fields (fields_of line)) left branches so_far none

-- The causes of a line, one after the other: it is too long,
pub cause-too_long : (before : ℕ) (line : List ℕ) → max_line_bytes < length line → cause_of_line before line ≡ Some LineTooLong
unfolding cause_of_line
cause-too_long before line long = let is : nat_lt max_line_bytes (length line) ≡ true = lt-ltb _ _ long in rw is refl

-- it is no sample,
pub reads_no_sample : (line : List ℕ) (branches : List (ℕ × ℕ)) → length line ≤ max_line_bytes → is_sample line ≡ false → branches ≡ [] → ReadsLine line (Ok tt) branches
unfolding cause_of_line branches_of_line
reads_no_sample line branches short none empty =
    let within : nat_lt max_line_bytes (length line) ≡ false = le-ltb _ _ short in
    (rw (none, empty) refl, λ before. rw (within, none, empty) refl)

-- it is a sample that is not well formed,
pub ReadsLine-stop : (line : List ℕ) (kind : Kind) → length line ≤ max_line_bytes → is_sample line ≡ true → (kind ≡ BadLine) × (is_well_formed line ≡ false) → (before : ℕ) → cause_of_line before line ≡ Some kind
unfolding cause_of_line
ReadsLine-stop line kind short sample reads before =
    let within : nat_lt max_line_bytes (length line) ≡ false = le-ltb _ _ short in
    rw (within, sample, reads.1, reads.0) refl

-- its branches are too many, or within the limit.
branches_of_sample : (line : List ℕ) → is_sample line ≡ true → filter_map entry_of (entry_fields (fields_of line)) ≡ branches_of_line line
unfolding branches_of_line
branches_of_sample line sample = rw sample refl

kept-many : (all branches : List (ℕ × ℕ)) → branches ≡ kept all → max_entries < length branches → max_entries < length all
kept-many all branches is many = omega (arith, ap length is, length-take (max_entries + 1) all)

kept-few : (all branches : List (ℕ × ℕ)) → branches ≡ kept all → length branches ≤ max_entries → branches ≡ all
kept-few all branches is few = is ∙ take_all (max_entries + 1) all (omega (arith, ap length is, length-take (max_entries + 1) all))

pub cause-many_entries : (line : List ℕ) (branches : List (ℕ × ℕ)) → length line ≤ max_line_bytes → is_sample line ≡ true → ReadsSample line (Ok tt) branches
    → max_entries < length branches → (before : ℕ) → cause_of_line before line ≡ Some TooManyEntries
unfolding cause_of_line
cause-many_entries line branches short sample reads many before =
    let within : nat_lt max_line_bytes (length line) ≡ false = le-ltb _ _ short in
    let all = filter_map entry_of (entry_fields (fields_of line)) in
    let too_many : nat_lt max_entries (length all) ≡ true = lt-ltb _ _ (kept-many all branches reads.1 many) in
    rw (within, sample, reads.0, ← branches_of_sample line sample, too_many) refl

pub reads_sample : (line : List ℕ) (branches : List (ℕ × ℕ)) → length line ≤ max_line_bytes → is_sample line ≡ true → ReadsSample line (Ok tt) branches → length branches ≤ max_entries → ReadsLine line (Ok tt) branches
unfolding cause_of_line
reads_sample line branches short sample reads few =
    let within : nat_lt max_line_bytes (length line) ≡ false = le-ltb _ _ short in
    let not_many : nat_lt max_entries (length branches) ≡ false = le-ltb _ _ few in
    let whole : branches ≡ branches_of_line line = kept-few (filter_map entry_of (entry_fields (fields_of line))) branches reads.1 few ∙ branches_of_sample line sample in
    (whole, λ before. rw (within, sample, reads.0, ← whole, not_many) refl)
