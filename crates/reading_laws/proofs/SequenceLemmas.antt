-- Sequences and rows, by where the rows stand.
use Rattle.std.proofs.Common.{◌≡◌, ℕ, zero, suc, ◌+◌, ◌<◌, ◌≤◌, Bool, true, false, cond, nat_le, nat_lt, List, [], ◌∷◌, ◌++◌, length, get_or, map, reverse, Option, None, Some, refl, sym, ap, subst, ◌∙◌, arith}
use Rattle.std.specs.Prelude.{slice_get, find, filter}
use Rattle.std.specs.List.{onto_first, slice_split, zip}
use Rattle.std.specs.Option.{option_or}
use Rattle.std.proofs.lemmas.Bool.{and_parts, ltb-true, leb-true, leb-false}
use Rattle.std.proofs.lemmas.Bool.Decides.{nat_tests}
use Rattle.std.proofs.lemmas.List.{reverse-append}
use Rattle.std.proofs.lemmas.List.Elements.{All-cons, All-head, All-tail}
use Rattle.std.proofs.lemmas.List.Folds.{find-append}
use Rattle.std.proofs.lemmas.List.Kept.{AllPairs-cons}
use Rattle.elf_model.specs.Segments.{is_live}
use Rattle.line_model.specs.declared.row.Row.{Row}
use Rattle.line_model.specs.Rows.{Sequence, ends, holds, is_live_sequence, never_fall, sequences_of}
use Rattle.reading_laws.specs.Sequences.{NoneEnds, AreCutInto, SequencesAreCut, Ascend, IsLive, LiveSequencesAscend, RowsCoverAddresses}

-- ---- what rows are cut into

-- a row more in front of the first of some sequences
abbrev longer : Row → List Sequence → List Sequence
longer row [] = []
longer row (s ∷ more) = record { rows = row ∷ s.rows; end = s.end } ∷ more

abbrev made : List (List Row) → List Row → List Sequence
made parts last = map (λ (p : List Row × Row). record { rows = p.0; end = p.1 }) (zip parts last)

made-longer : (row : Row) (parts : List (List Row)) (last : List Row) → length last < length parts → made (onto_first row parts) last ≡ longer row (made parts last)
made-longer row [] last few = absurd (omega (arith, few))
made-longer row (part ∷ parts) [] few = refl
made-longer row (part ∷ parts) (e ∷ last) few = refl

-- there is a part more than rows that end one
length-onto_first : (row : Row) (parts : List (List Row)) → 0 < length parts → length (onto_first row parts) ≡ length parts
length-onto_first row [] some = absurd (omega (arith, some))
length-onto_first row (part ∷ parts) some = refl

abbrev last_rows : List Row → List Row
last_rows rows = filter ends rows

abbrev parts_of : List Row → List (List Row)
parts_of rows = slice_split ends rows

fewer : (rows : List Row) → length (last_rows rows) < length (parts_of rows)
fewer [] = omega arith
fewer (row ∷ rows) = by_end (fewer rows) (ends row) refl
  where
    by_end : length (last_rows rows) < length (parts_of rows) → (b : Bool) → ends row ≡ b → length (last_rows (row ∷ rows)) < length (parts_of (row ∷ rows))
    by_end few true is = rw is (omega (arith, few))
    by_end few false is =
        subst (λ b. length (cond b (row ∷ last_rows rows) (last_rows rows)) < length (cond b ([] ∷ parts_of rows) (onto_first row (parts_of rows)))) (sym is)
        (omega (arith, few, length-onto_first row (parts_of rows) (omega (arith, few))))

sequences-end : (row : Row) (rows : List Row) → ends row ≡ true → sequences_of (row ∷ rows) ≡ record { rows = []; end = row } ∷ sequences_of rows
sequences-end row rows is = rw is refl

sequences-longer : (row : Row) (rows : List Row) → ends row ≡ false → sequences_of (row ∷ rows) ≡ longer row (sequences_of rows)
sequences-longer row rows is =
    ap (λ b. made (cond b ([] ∷ parts_of rows) (onto_first row (parts_of rows))) (cond b (row ∷ last_rows rows) (last_rows rows))) is
    ∙ made-longer row (parts_of rows) (last_rows rows) (fewer rows)

cut-longer : (row : Row) (rows : List Row) (sequences : List Sequence) → ends row ≡ false → AreCutInto rows sequences → AreCutInto (row ∷ rows) (longer row sequences)
cut-longer row rows [] is none = All-cons (λ (r : Row). ends r ≡ false) row rows is none
cut-longer row rows (s ∷ more) is cut =
    (All-cons (λ (r : Row). ends r ≡ false) row s.rows is cut.0, cut.1, cut.2, ap (λ (rs : List Row). row ∷ rs) cut.3, cut.4)

cut : (rows : List Row) → AreCutInto rows (sequences_of rows)
cut [] = λ k d low. absurd (omega (arith, low))
cut (row ∷ rows) = by_end (cut rows) (ends row) refl
  where
    by_end : AreCutInto rows (sequences_of rows) → (b : Bool) → ends row ≡ b → AreCutInto (row ∷ rows) (sequences_of (row ∷ rows))
    by_end later true is =
        subst (λ (ss : List Sequence). AreCutInto (row ∷ rows) ss) (sym (sequences-end row rows is))
        (λ k d low. absurd (omega (arith, low)), is, rows, refl, later)
    by_end later false is =
        subst (λ (ss : List Sequence). AreCutInto (row ∷ rows) ss) (sym (sequences-longer row rows is)) (cut-longer row rows (sequences_of rows) is later)

none-made : (rows : List Row) → NoneEnds rows → sequences_of rows ≡ []
none-made [] none = refl
none-made (row ∷ rows) none =
    sequences-longer row rows (All-head (λ (r : Row). ends r ≡ false) row rows none)
    ∙ ap (longer row) (none-made rows (All-tail (λ (r : Row). ends r ≡ false) row rows none))

one-made : (own : List Row) (end : Row) (rest : List Row) → NoneEnds own → ends end ≡ true
    → sequences_of ((own ++ end ∷ []) ++ rest) ≡ record { rows = own; end = end } ∷ sequences_of rest
one-made [] end rest none is = sequences-end end rest is
one-made (row ∷ own) end rest none is =
    sequences-longer row ((own ++ end ∷ []) ++ rest) (All-head (λ (r : Row). ends r ≡ false) row own none)
    ∙ ap (longer row) (one-made own end rest (All-tail (λ (r : Row). ends r ≡ false) row own none) is)

only : (rows : List Row) (sequences : List Sequence) → AreCutInto rows sequences → sequences_of rows ≡ sequences
only rows [] none = none-made rows none
only rows (s ∷ more) is =
    ap sequences_of is.3 ∙ one-made s.rows s.end is.2 is.0 is.1 ∙ ap (λ (ss : List Sequence). s ∷ ss) (only is.2 more is.4)

pub sequences-cut : SequencesAreCut
sequences-cut rows sequences = (only rows sequences, λ is. subst (λ (ss : List Sequence). AreCutInto rows ss) is (cut rows))

-- ---- live sequences

abbrev NotAbove : Row → Row → Type 0
NotAbove before behind = before.address ≤ behind.address

abbrev places_of : List Row → List ℕ
places_of rows = map (λ (row : Row). row.address) rows

rises-step : (a b : ℕ) (rest : List ℕ) → never_fall (a ∷ b ∷ rest) ≡ true → (a ≤ b) × (never_fall (b ∷ rest) ≡ true)
rises-step a b rest rises =
    let two = and_parts (nat_le a b) (never_fall (b ∷ rest)) rises in
    (leb-true a b two.0, two.1)

ascends : (rows : List Row) → never_fall (places_of rows) ≡ true → Ascend rows
ascends [] rises = λ i j d less low. absurd (omega (arith, low))
ascends (row ∷ []) rises = λ i j d less low. absurd (omega (arith, less, low))
ascends (row ∷ next ∷ rows) rises =
    let step = rises-step row.address next.address (places_of rows) rises in
    let later : Ascend (next ∷ rows) = ascends (next ∷ rows) step.1 in
    AllPairs-cons NotAbove row (next ∷ rows)
    (All-cons (NotAbove row) next rows step.0 (λ k d low. let above : next.address ≤ (get_or rows k d).address = later 0 (suc k) d (omega arith) (omega (arith, low)) in omega (arith, step.0, above)))
    later

rises : (rows : List Row) → Ascend rows → never_fall (places_of rows) ≡ true
rises [] ascend = refl
rises (row ∷ []) ascend = refl
rises (row ∷ next ∷ rows) ascend =
    let first : row.address ≤ next.address = ascend 0 1 row (omega arith) (omega arith) in
    let here : nat_le row.address next.address ≡ true = grind (arith, nat_tests) in
    rw here (rises (next ∷ rows) (λ i j d less low. ascend (suc i) (suc j) d (omega (arith, less)) (omega (arith, low))))

live-is : (file : List ℕ) (rows : List Row) (end : Row) → is_live_sequence file (record { rows = rows; end = end }) ≡ true → IsLive file (record { rows = rows; end = end })
live-is file [] end live = absurd cc
live-is file (row ∷ rows) end live =
    let two = and_parts (is_live file row.address end.address) (never_fall (places_of (row ∷ rows ++ end ∷ []))) live in
    record { first = row; begins = refl; code = two.0; ascends = ascends (row ∷ rows ++ end ∷ []) two.1 }

is-live : (file : List ℕ) (rows : List Row) (end : Row) → IsLive file (record { rows = rows; end = end }) → is_live_sequence file (record { rows = rows; end = end }) ≡ true
is-live file [] end live = absurd (let none : None ≡ Some live.first = live.begins in cc)
is-live file (row ∷ rows) end live =
    let same : row ≡ live.first = cc live.begins in
    let code : is_live file row.address end.address ≡ true = ap (λ (r : Row). is_live file r.address end.address) same ∙ live.code in
    let up = rises (row ∷ rows ++ end ∷ []) live.ascends in
    rw (code, up) refl

pub live-ascend : LiveSequencesAscend
live-ascend file sequence = (live-is file sequence.rows sequence.end, is-live file sequence.rows sequence.end)

-- ---- the row of an address

abbrev up_to : ℕ → Row → Bool
up_to address row = nat_le row.address address

abbrev last_up_to : ℕ → List Row → Option Row
last_up_to address rows = find (up_to address) (reverse rows)

last-cons : (address : ℕ) (row : Row) (rows : List Row)
    → last_up_to address (row ∷ rows) ≡ option_or (last_up_to address rows) (find (up_to address) (row ∷ []))
last-cons address row rows =
    ap (find (up_to address)) (reverse-append (row ∷ []) rows) ∙ find-append (up_to address) (reverse rows) (row ∷ [])

-- what covers an address, by the rows of a sequence and its end
record CoversIn (rows : List Row) (end row : Row) (address : ℕ) : Type 0 where
  place : ℕ
  there : slice_get rows place ≡ Some row
  next : Row
  behind : slice_get (rows ++ end ∷ []) (place + 1) ≡ Some next
  from : row.address ≤ address
  to : address < next.address

-- the first of some rows and their end
abbrev first_or : List Row → Row → Row
first_or [] end = end
first_or (row ∷ rows) end = row

first-there : (rows : List Row) (end : Row) → slice_get (rows ++ end ∷ []) 0 ≡ Some (first_or rows end)
first-there [] end = refl
first-there (row ∷ rows) end = refl

first-above : (row : Row) (rows : List Row) (end : Row) → Ascend (row ∷ rows ++ end ∷ []) → row.address ≤ (first_or rows end).address
first-above row [] end up = up 0 1 row (omega arith) (omega arith)
first-above row (next ∷ rows) end up = up 0 1 row (omega arith) (omega arith)

tail-ascends : (row : Row) (rows : List Row) → Ascend (row ∷ rows) → Ascend rows
tail-ascends row rows up i j d less low = up (suc i) (suc j) d (omega (arith, less)) (omega (arith, low))

some_or : (o : Option Row) (row : Row) → option_or o (Some row) ≡ None → ⊥
some_or None row is = cc
some_or (Some other) row is = cc

-- where no row is found the first stands above the address
above-first : (address : ℕ) (rows : List Row) (end : Row) → address < end.address → last_up_to address rows ≡ None → address < (first_or rows end).address
above-first address [] end low none = low
above-first address (row ∷ rows) end low none = by_test (up_to address row) refl
  where
    by_test : (b : Bool) → up_to address row ≡ b → address < row.address
    by_test false is = leb-false row.address address is
    by_test true is =
        absurd (some_or (last_up_to address rows) row
        (ap (λ b. option_or (last_up_to address rows) (cond b (Some row) None)) (sym is) ∙ sym (last-cons address row rows) ∙ none))

found-covers : (address : ℕ) (rows : List Row) (end row : Row) → address < end.address → last_up_to address rows ≡ Some row → CoversIn rows end row address
found-covers address [] end row low found = absurd (let none : None ≡ Some row = found in cc)
found-covers address (x ∷ rows) end row low found = by_later (λ some. found-covers address rows end row low some) (last_up_to address rows) refl
  where
    by_here : (b : Bool) → up_to address x ≡ b → last_up_to address rows ≡ None → cond b (Some x) None ≡ Some row → CoversIn (x ∷ rows) end row address
    by_here true is none here = record {
      place = 0;
      there = here;
      next = first_or rows end;
      behind = first-there rows end;
      from = let e : Some x ≡ Some row = here in let same : x ≡ row = cc in subst (λ (r : Row). r.address ≤ address) same (leb-true x.address address is);
      to = above-first address rows end low none;
    }
    by_here false is none here = absurd (let e : None ≡ Some row = here in cc)

    by_later : (last_up_to address rows ≡ Some row → CoversIn rows end row address) → (o : Option Row) → last_up_to address rows ≡ o → CoversIn (x ∷ rows) end row address
    by_later again None none =
        by_here (up_to address x) refl none
        (ap (λ o. option_or o (find (up_to address) (x ∷ []))) (sym none) ∙ sym (last-cons address x rows) ∙ found)
    by_later again (Some r) some =
        let same : Some r ≡ Some row = ap (λ o. option_or o (find (up_to address) (x ∷ []))) (sym some) ∙ sym (last-cons address x rows) ∙ found in
        let later = again (some ∙ same) in
        let one : suc later.place + 1 ≡ suc (later.place + 1) = omega arith in
        record {
          place = suc later.place;
          there = later.there;
          next = later.next;
          behind = ap (slice_get (x ∷ rows ++ end ∷ [])) one ∙ later.behind;
          from = later.from;
          to = later.to;
        }

none-up : (address : ℕ) (rows : List Row) (end : Row) → Ascend (rows ++ end ∷ []) → address < (first_or rows end).address → last_up_to address rows ≡ None
none-up address [] end up low = refl
none-up address (row ∷ rows) end up low =
    let above = first-above row rows end up in
    let here : up_to address row ≡ false = grind (arith, nat_tests) in
    last-cons address row rows
    ∙ ap (λ o. option_or o (find (up_to address) (row ∷ []))) (none-up address rows end (tail-ascends row (rows ++ end ∷ []) up) (omega (arith, above, low)))
    ∙ ap (λ b. cond b (Some row) None) here

covers-found : (address : ℕ) (rows : List Row) (end row : Row) (place : ℕ) (next : Row) → Ascend (rows ++ end ∷ []) → slice_get rows place ≡ Some row
    → slice_get (rows ++ end ∷ []) (place + 1) ≡ Some next → row.address ≤ address → address < next.address → last_up_to address rows ≡ Some row
covers-found address [] end row place next up there behind from to = absurd (let none : None ≡ Some row = there in cc)
covers-found address (x ∷ rows) end row zero next up there behind from to =
    let e : Some x ≡ Some row = there in
    let same : x ≡ row = cc in
    let f : Some (first_or rows end) ≡ Some next = sym (first-there rows end) ∙ behind in
    let first : first_or rows end ≡ next = cc in
    let low : address < (first_or rows end).address = subst (λ (r : Row). address < r.address) (sym first) to in
    let under : x.address ≤ address = subst (λ (r : Row). r.address ≤ address) (sym same) from in
    let here : up_to address x ≡ true = grind (arith, nat_tests) in
    last-cons address x rows
    ∙ ap (λ o. option_or o (find (up_to address) (x ∷ []))) (none-up address rows end (tail-ascends x (rows ++ end ∷ []) up) low)
    ∙ ap (λ b. cond b (Some x) None) here ∙ there
covers-found address (x ∷ rows) end row (suc place) next up there behind from to =
    let one : suc place + 1 ≡ suc (place + 1) = omega arith in
    last-cons address x rows
    ∙ ap (λ o. option_or o (find (up_to address) (x ∷ [])))
    (covers-found address rows end row place next (tail-ascends x (rows ++ end ∷ []) up) there (ap (slice_get (x ∷ rows ++ end ∷ [])) (sym one) ∙ behind) from to)

held-below : (address : ℕ) (rows : List Row) (end : Row) → holds address (record { rows = rows; end = end }) ≡ true → address < end.address
held-below address [] end held = absurd cc
held-below address (row ∷ rows) end held = ltb-true address end.address (and_parts (nat_le row.address address) (nat_lt address end.address) held).1

pub rows-cover : RowsCoverAddresses
rows-cover sequence address row up held = (
  λ found. let c = found-covers address sequence.rows sequence.end row (held-below address sequence.rows sequence.end held) found in record {
    place = c.place;
    there = c.there;
    next = c.next;
    behind = c.behind;
    from = c.from;
    to = c.to;
  },
  λ c. covers-found address sequence.rows sequence.end row c.place c.next up c.there c.behind c.from c.to,
)
