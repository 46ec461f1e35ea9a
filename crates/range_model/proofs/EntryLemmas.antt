-- What an entry leaves is the end of what there was, behind a byte at least.
use Rattle.std.proofs.Common.{◌≡◌, ◌<◌, ◌≤◌, ◌+◌, ℕ, Bool, true, false, inl, inr, List, [], ◌∷◌, ◌++◌, length, Some, Ok, Err, refl, ap, sym, ◌∙◌, arith}
use Rattle.std.specs.Prelude.{◌==◌, ◌&&◌, ◌^◌, ◌-◌}
use Rattle.std.proofs.lemmas.Bool.{cases_Bool}
use Rattle.std.proofs.lemmas.List.{append_assoc, length-append}
use Rattle.byte_view.specs.Reading.{Reading, field_at, uleb_at}
use Rattle.byte_view.proofs.Fronts.{field_at-spelled, uleb_at-spelled}
use Rattle.range_model.specs.Entries.{Entry, EntryReading, NumberReading, by_kind, uleb, word, behind, one, two, entry_codes, coded, coded_entry_at, pair_entry, pair_entry_at, entry_at}

-- what is left stands behind a front of so many bytes at least
pub record Ends (size : ℕ) (bytes rest : List ℕ) : Type 0 where
  pub front : List ℕ
  pub long : size ≤ length front
  pub parts : bytes ≡ front ++ rest

ends-through : (m n : ℕ) (bytes more rest : List ℕ) → Ends m bytes more → Ends n more rest → Ends (m + n) bytes rest
ends-through m n bytes more rest outer inner =
    record {
      front = outer.front ++ inner.front;
      long = omega (arith, outer.long, inner.long, length-append outer.front inner.front);
      parts = outer.parts ∙ ap (λ (x : List ℕ). outer.front ++ x) inner.parts
          ∙ sym (append_assoc outer.front inner.front rest);
    }

-- fewer bytes than those
ends-less : (m n : ℕ) (bytes rest : List ℕ) → m ≤ n → Ends n bytes rest → Ends m bytes rest
ends-less m n bytes rest less ends =
    record { front = ends.front; long = omega (arith, less, ends.long); parts = ends.parts }

abbrev NumberEnds : ℕ → (List ℕ → NumberReading) → Type 0
NumberEnds size reading = (bytes rest : List ℕ) (n : ℕ) → reading bytes ≡ Ok (n, rest) → Ends size bytes rest

by_kind-ok : (reading : Reading ℕ) (n : ℕ) (rest : List ℕ) → by_kind reading ≡ Ok (n, rest) → reading ≡ Ok (n, rest)
by_kind-ok (Ok (m, left)) n rest e =
    let pair : ◌≡◌ {A = ℕ × List ℕ} (m, left) (n, rest) = cc in ap (λ (p : ℕ × List ℕ). Ok p) pair
by_kind-ok (Err fault) n rest e = absurd (cc)

field-ends : (size : ℕ) → NumberEnds size (λ bytes. by_kind (field_at size bytes))
field-ends size bytes rest n e =
    let begins = field_at-spelled size bytes rest n (by_kind-ok (field_at size bytes) n rest e) in
    record { front = begins.front; long = omega (arith, begins.spelled.sized); parts = begins.parts }

uleb-ends : NumberEnds 0 uleb
uleb-ends bytes rest n e =
    let begins = uleb_at-spelled bytes rest n (by_kind-ok (uleb_at bytes) n rest e) in
    record { front = begins.front; long = omega (arith); parts = begins.parts }

word-ends : NumberEnds 0 word
word-ends bytes rest n e = ends-less 0 8 bytes rest (omega (arith)) (field-ends 8 bytes rest n e)

-- an entry behind a number
record Behind (reading : NumberReading) (next : ℕ → List ℕ → EntryReading) (entry : Entry) (rest : List ℕ) : Type 0 where
  pub n : ℕ
  pub more : List ℕ
  pub number : reading ≡ Ok (n, more)
  pub then : next n more ≡ Ok (Some (entry, rest))

behind-parts : (reading : NumberReading) (next : ℕ → List ℕ → EntryReading) (entry : Entry) (rest : List ℕ)
    → behind reading next ≡ Ok (Some (entry, rest)) → Behind reading next entry rest
behind-parts (Ok (n, more)) next entry rest e = record { n = n; more = more; number = refl; then = e }
behind-parts (Err kind) next entry rest e = absurd (cc)

-- the rest of an answer
same_rest : (a b : Entry) (rest behind_it : List ℕ)
    → ◌≡◌ {A = EntryReading} (Ok (Some (a, rest))) (Ok (Some (b, behind_it))) → rest ≡ behind_it
same_rest a b rest behind_it e =
    let pair : ◌≡◌ {A = Entry × List ℕ} (a, rest) (b, behind_it) = cc in ap (λ (p : Entry × List ℕ). p.1) pair

-- what an entry leaves
abbrev EntryEnds : ℕ → (List ℕ → EntryReading) → Type 0
EntryEnds size reading =
    (bytes rest : List ℕ) (entry : Entry) → reading bytes ≡ Ok (Some (entry, rest)) → Ends size bytes rest

one-ends : (operand : List ℕ → NumberReading) (make : ℕ → Entry) → NumberEnds 0 operand
    → EntryEnds 0 (one operand make)
one-ends operand make ends bytes rest entry e =
    let parts = behind-parts (operand bytes) (λ n more. Ok (Some (make n, more))) entry rest e in
    let rest_is = same_rest _ _ _ _ parts.then in
    rw (← rest_is) (ends bytes parts.more parts.n parts.number)

two-ends : (first second : List ℕ → NumberReading) (make : ℕ → ℕ → Entry) → NumberEnds 0 first → NumberEnds 0 second
    → EntryEnds 0 (two first second make)
two-ends first second make ends ends_too bytes rest entry e =
    let parts = behind-parts (first bytes) (λ m more. behind (second more) (λ n left. Ok (Some (make m n, left)))) entry rest e in
    ends-through 0 0 bytes parts.more rest (ends bytes parts.more parts.n parts.number)
    (one-ends second (make parts.n) ends_too parts.more rest entry parts.then)

abbrev EachEnds : List (ℕ × (List ℕ → EntryReading)) → Type 0
EachEnds [] = Unit {0}
EachEnds ((code, reading) ∷ rest) = EntryEnds 0 reading × EachEnds rest

entry_codes-ends : EachEnds entry_codes
entry_codes-ends = (
  λ bytes rest entry e. absurd (cc),
  (
    one-ends uleb _ uleb-ends,
    (
      two-ends uleb uleb _ uleb-ends uleb-ends,
      (
        two-ends uleb uleb _ uleb-ends uleb-ends,
        (
          two-ends uleb uleb _ uleb-ends uleb-ends,
          (
            one-ends word _ word-ends,
            (
              two-ends word word _ word-ends word-ends,
              (
                two-ends word uleb _ word-ends uleb-ends,
                tt {0},
              ),
            ),
          ),
        ),
      ),
    ),
  ),
)

coded-ends : (table : List (ℕ × (List ℕ → EntryReading))) (code : ℕ) → EachEnds table → EntryEnds 0 (coded table code)
coded-ends [] code each bytes rest entry e = absurd (cc)
coded-ends ((first, reading) ∷ more) code each bytes rest entry e =
    elim (cases_Bool (code == first)) [
      | inl same ↦ each.0 bytes rest entry (rw same at e)
      | inr other ↦ coded-ends more code each.1 bytes rest entry (rw other at e)
    ]

coded_entry_at-ends : EntryEnds 1 coded_entry_at
unfolding coded_entry_at
coded_entry_at-ends bytes rest entry e =
    let parts = behind-parts (by_kind (field_at 1 bytes)) (coded entry_codes) entry rest e in
    ends-through 1 0 bytes parts.more rest (field-ends 1 bytes parts.more parts.n parts.number)
    (coded-ends entry_codes parts.n entry_codes-ends parts.more rest entry parts.then)

pair_entry-rest : (first second : ℕ) (more rest : List ℕ) (entry : Entry) → pair_entry first second more ≡ Ok (Some (entry, rest)) → more ≡ rest
pair_entry-rest first second more rest entry e =
    elim (cases_Bool (first == 0 && second == 0)) [
      | inl ends ↦ absurd (let no = rw ends at e in cc)
      | inr goes_on ↦ elim (cases_Bool (first == 2 ^ 64 - 1)) [
        | inl sets ↦ same_rest _ _ _ _ (rw (goes_on, sets) at e)
        | inr counted ↦ same_rest _ _ _ _ (rw (goes_on, counted) at e)
      ]
    ]

pair_entry_at-ends : EntryEnds 1 pair_entry_at
unfolding pair_entry_at
pair_entry_at-ends bytes rest entry e =
    let parts = behind-parts (word bytes) (λ first more. behind (word more) (λ second left. pair_entry first second left)) entry rest e in
    let inner = behind-parts (word parts.more) (λ second left. pair_entry parts.n second left) entry rest parts.then in
    let rest_is = pair_entry-rest parts.n inner.n inner.more rest entry inner.then in
    let first = ends-less 1 8 bytes parts.more (omega (arith)) (field-ends 8 bytes parts.more parts.n parts.number) in
    rw (← rest_is) (ends-through 1 0 bytes parts.more inner.more first (word-ends parts.more inner.more inner.n inner.number))

pub entry_at-ends : (pairs : Bool) → EntryEnds 1 (entry_at pairs)
entry_at-ends true = pair_entry_at-ends
entry_at-ends false = coded_entry_at-ends

pub entry_at-shorter : (pairs : Bool) (bytes rest : List ℕ) (entry : Entry) → entry_at pairs bytes ≡ Ok (Some (entry, rest)) → length rest < length bytes
entry_at-shorter pairs bytes rest entry e =
    let ends = entry_at-ends pairs bytes rest entry e in
    omega (arith, ends.long, ap length ends.parts, length-append ends.front rest)
