-- The map of a binary shows the program that the binary tells, as far as it was asked for.
use Rattle.std.proofs.Common.{◌≡◌, ◌++◌, ℕ, Bool, true, false, List, [], ◌∷◌, map, Option, None, Some, refl, sym, ap, subst, ◌∙◌, inl, inr}
use Rattle.std.specs.Prelude.{IsSome, slice_get, unwrap_or, option_and_then, if◌then◌else◌}
use Rattle.std.specs.Option.{option_map}
use Rattle.std.proofs.lemmas.Bool.{cases_Bool, true≢false}
use Rattle.std.proofs.lemmas.Option.{slice_get_within}
use Rattle.address_spans.specs.Spans.{owner_at}
use Rattle.key_types.specs.declared.ids.KeyId.{KeyId}
use Rattle.key_types.specs.declared.ids.NameId.{NameId}
use Rattle.key_types.specs.declared.key.Frame.{Frame}
use Rattle.key_types.specs.declared.key.Key.{Key}
use Rattle.key_types.specs.declared.places.Seg.{Seg}
use Rattle.key_types.specs.declared.places.Where.{Where}
use Rattle.key_types.specs.declared.places.Where.TheVariants.{Outside, Nameless, NoLine, At}
use Rattle.key_types.specs.Discriminators as packed
use Rattle.chain_model.specs.declared.member.Member.{Member}
use Rattle.chain_model.specs.Chains.{chain, function_of}
use Rattle.chain_model.specs.Places as by_number
use Rattle.chain_model.specs.Places.{LineAndDisc, Tells, chain_members, factor_at, is_entered_at, row_of}
use Rattle.chain_model.proofs.ChainLemmas.{begin_with_the_function}
use Rattle.entry_facts.specs.Meaning.{IsNumberOf}
use Rattle.tree_model.specs.Members.{Told}
use Rattle.key_types.specs.Segments as segments
use Rattle.key_types.specs.Segments.{segment_at}
use Rattle.span_cover.specs.Stretches as stretches
use Rattle.context_map.specs.Parts.{with_factor}
use Rattle.context_map.specs.Maps as maps
use Rattle.context_map.specs.Maps.{place_told, rows_of}
use Rattle.profile_model.specs.Ways.{to_body, to_call, to_function}
use Rattle.profile_tree.specs.Steps.{frame_step, named, at_line, steps_of, steps_of_given}
use Rattle.binary_model.specs.Addresses.{entered_at, factor_of_address}
use Rattle.binary_model.specs.Binary.{members_in, tables_in}
use Rattle.binary_model.specs.Places.{Place, outside, nameless, no_line, at_way, names_of, numbered_from, place_of_address, row_in, way_of}
use Rattle.key_types.specs.Numbers.{name_of}
use Rattle.binary_places.specs.Binary.{IsPlaced, IsWay, TellsNamed, asks_in}
use Rattle.binary_places.specs.declared.binary.Placed.{Placed}
use Rattle.binary_places.proofs.FunctionLemmas.{SameFound, SameName, function_same, same_found}
use Rattle.binary_places.proofs.NumberLemmas.{are-told}
use Rattle.binary_places.proofs.ShownLemmas.{places_shown, rows-agree}
use Rattle.profile_writer.specs.Told.{TellsName, TellsPlace, key_of}
use Rattle.profile_maker.specs.Asked.{lack_of, program_asked}
use Rattle.profile_maker.specs.Laws.{BinariesShowPrograms}
use Rattle.profile_maker.proofs.SegmentLemmas.{asked_of, nothing_at}

-- ---- places

calls_alike : (names : List (List ℕ)) (calls : List Frame) (offset disc : ℕ)
    → map (named names) (map frame_step calls ++ at_line offset disc ∷ []) ≡ map (λ call. to_call call.offset call.disc (name_of names call.name)) calls ++ to_body offset disc ∷ []
calls_alike names [] offset disc = refl
calls_alike names (call ∷ calls) offset disc = ap (λ steps. to_call call.offset call.disc (name_of names call.name) ∷ steps) (calls_alike names calls offset disc)

key_alike : (names : List (List ℕ)) (key : Key) → map (named names) (steps_of key) ≡ way_of names key
key_alike names key = ap (λ steps. to_function (name_of names key.root) ∷ steps) (calls_alike names key.calls key.offset key.disc)

place_shown : (names : List (List ℕ)) (keys : List Key) (place : Place) (answer : Where) → TellsNamed names keys place answer → TellsPlace names keys place answer
place_shown names keys outside answer shown = shown
place_shown names keys nameless answer shown = shown
place_shown names keys no_line answer shown = shown
place_shown names keys (at_way way) answer shown =
    let is : IsWay names keys way shown.0 = shown.2 in (
      shown.0,
      shown.1,
      record {
        inside = slice_get_within keys shown.0.0 is.key is.at_number;
        way_is = ap (λ key. map (named names) (steps_of_given key)) is.at_number ∙ key_alike names is.key ∙ sym is.way_is;
      },
    )

-- an answer without a key tells what it lacks
lack_shown : (names : List (List ℕ)) (keys : List Key) (answer : Where) → key_of answer ≡ None → TellsPlace names keys (lack_of answer) answer
lack_shown names keys Outside none = refl
lack_shown names keys Nameless none = refl
lack_shown names keys NoLine none = refl
lack_shown names keys (At key) none = absurd (cc)

asked_shown : (b : Bool) (names : List (List ℕ)) (keys : List Key) (place : Place) (answer : Where) → (b ≡ true → TellsNamed names keys place answer)
    → (b ≡ false → key_of answer ≡ None) → TellsPlace names keys (if b then place else lack_of answer) answer
asked_shown true names keys place answer told none = place_shown names keys place answer (told refl)
asked_shown false names keys place answer told none = lack_shown names keys answer (none refl)

-- ---- the same name by two numberings of names

module _ (names others : List (List ℕ)) where
  -- the name of what is entered there
  abbrev name_where : ℕ → Option (ℕ × Member) → Option NameId
  name_where address function = option_and_then (λ function. if is_entered_at address function.1.pieces then function.1.name else None) function

  same_name : (name : Option (List ℕ)) (one other : Option NameId) → IsNumberOf names name one → IsNumberOf others name other → TellsName names (option_map (name_of others) other) one
  same_name name None None h k = refl
  same_name None None (Some j) h k = absurd (true≢false (sym k.0))
  same_name (Some n) None (Some j) h k = absurd cc
  same_name None (Some i) other h k = absurd (true≢false (sym h.0))
  same_name (Some n) (Some i) None h k = absurd cc
  same_name (Some n) (Some i) (Some j) h k = (i, refl, h.1 ∙ ap (λ o. Some (unwrap_or o [])) (sym k.1))

  name_if : (b : Bool) (p q : Option NameId) → SameName names others p q → TellsName names (option_map (name_of others) (if b then q else None)) (if b then p else None)
  name_if true p q h = same_name h.0 p q h.1 h.2
  name_if false p q h = refl

  same_entry : (address : ℕ) (x y : Option (ℕ × Member)) → SameFound names others x y → TellsName names (option_map (name_of others) (name_where address y)) (name_where address x)
  same_entry address None None h = refl
  same_entry address None (Some q) h = absurd h
  same_entry address (Some p) None h = absurd h
  same_entry address (Some p) (Some q) h =
      subst (λ pieces. TellsName names (option_map (name_of others) (if is_entered_at address pieces then q.1.name else None)) (name_where address (Some p))) h.pieces_are
      (name_if (is_entered_at address p.1.pieces) p.1.name q.1.name h.name_is)

  -- the row of its unit
  same_row : (f g : ℕ → ℕ → Option LineAndDisc) → ((unit address : ℕ) → f unit address ≡ g unit address) → (address : ℕ) (x y : Option (ℕ × Member)) → SameFound names others x y
      → option_and_then (λ function. f function.1.unit address) x ≡ option_and_then (λ function. g function.1.unit address) y
  same_row f g rows address None None h = refl
  same_row f g rows address None (Some q) h = absurd h
  same_row f g rows address (Some p) None h = absurd h
  same_row f g rows address (Some p) (Some q) h = ap (λ unit. f unit address) h.unit_is ∙ rows q.1.unit address

row_by_first : (rows : ℕ → ℕ → Option LineAndDisc) (address : ℕ) (xs : List (ℕ × Member))
    → row_of rows (map (λ member. member.1) xs) address ≡ option_and_then (λ function. rows function.1.unit address) (slice_get xs 0)
row_by_first rows address [] = refl
row_by_first rows address (x ∷ xs) = refl

row_by_function : (rows : ℕ → ℕ → Option LineAndDisc) (members : List Member) (address : ℕ)
    → row_of rows (chain_members members address) address ≡ option_and_then (λ function. rows function.1.unit address) (function_of members address)
row_by_function rows members address =
    row_by_first rows address (chain members address) ∙ ap (option_and_then (λ function. rows function.1.unit address)) (begin_with_the_function members address)

-- ---- segments

abbrev number_by : Option Seg → Option ℕ
number_by segment = option_map (λ segment. segment.key.0) segment

abbrev factor_in : Option Seg → ℕ
factor_in segment = unwrap_or (option_map (λ segment. segment.factor) segment) 1

key_of_place : (segment : Option Seg) (function span : Option ℕ) → number_by segment ≡ key_of (maps.place_by (option_map (λ s. s.key) segment) function span)
key_of_place (Some s) function span = refl
key_of_place None None span = refl
key_of_place None (Some f) (Some s) = refl
key_of_place None (Some f) None = refl

no_key : (function span : Option ℕ) → key_of (maps.place_by None function span) ≡ None
no_key None span = refl
no_key (Some f) (Some s) = refl
no_key (Some f) None = refl

no_place : (id : KeyId) → Outside ≡ At id → ⊥
no_place id e = cc

no_name : (id : KeyId) → Nameless ≡ At id → ⊥
no_name id e = cc

no_row : (id : KeyId) → NoLine ≡ At id → ⊥
no_row id e = cc

same_key : (i j : KeyId) → At i ≡ At j → i ≡ j
same_key i j e = cc

second : Option (Key × ℕ) → ℕ
second None = 0
second (Some p) = p.1

second_of : (x y : Key × ℕ) → Some x ≡ Some y → x.1 ≡ y.1
unfolding second
second_of x y e = ap second e

factor_from : (keys : List Key) (s : Seg) (place : by_number.Place) (factor : ℕ) (answer : Where) → Tells keys place answer → answer ≡ At s.key
    → segments.key_and_factor keys s ≡ with_factor place factor → s.factor ≡ factor
factor_from keys s by_number.outside factor answer tells at told = absurd (no_place s.key (sym tells ∙ at))
factor_from keys s by_number.nameless factor answer tells at told = absurd (no_name s.key (sym tells ∙ at))
factor_from keys s by_number.no_line factor answer tells at told = absurd (no_row s.key (sym tells ∙ at))
factor_from keys s (by_number.has_key key) factor answer tells at told =
    let id : s.key ≡ tells.0 = same_key s.key tells.0 (sym at ∙ tells.1) in
    let there : slice_get keys s.key.0 ≡ Some key = ap (λ (k : KeyId). slice_get keys k.0) id ∙ tells.2 in
    second_of (key, s.factor) (key, factor) (sym (ap (option_map (λ key. (key, s.factor))) there) ∙ told)

factor_there : (keys : List Key) (segment : Option Seg) (function span : Option ℕ) (place : by_number.Place) (factor : ℕ)
    → Tells keys place (maps.place_by (option_map (λ s. s.key) segment) function span) → IsSome (number_by segment)
    → option_and_then (segments.key_and_factor keys) segment ≡ with_factor place factor → factor_in segment ≡ factor
factor_there keys None function span place factor tells some told = absurd (true≢false (sym some))
factor_there keys (Some s) function span place factor tells some told = factor_from keys s place factor (At s.key) tells refl told

-- ---- rows

-- ---- all together

number_none : (segment : Option Seg) → option_map (λ (s : Seg). s.key) segment ≡ None → IsSome (number_by segment) → ⊥
number_none None none some = true≢false (sym some)
number_none (Some s) none some = cc

module _ (file : List ℕ) (base : Bool) (marks : List Bool) (placed : Placed) (is : IsPlaced file base marks placed) where
  place_here : (address : ℕ) → TellsPlace placed.names placed.keys ((program_asked file base marks placed).place address) (place_told placed.map address)
  place_here address =
      asked_shown (asks_in file marks address) placed.names placed.keys (place_of_address file base address) (place_told placed.map address)
      (λ asked. places_shown file base marks placed is address asked)
      (λ other.
      let function = stretches.function_at placed.map.stretches address in
      let span = owner_at placed.map.nameless address in
      ap (λ key. key_of (maps.place_by key function span)) (nothing_at file base marks placed is address other) ∙ no_key function span)

  abbrev tolds : List Told
  tolds = members_in file

  abbrev cs : List Member
  cs = numbered_from 0 tolds

  same : (address : ℕ) → SameFound placed.names (names_of tolds) (function_of is.members address) (function_of cs address)
  same address = same_found placed.names (names_of tolds) address 0 tolds is.members cs is.told (are-told tolds)

  abbrev rows : ℕ → ℕ → Option LineAndDisc
  rows = rows_of (tables_in file)

  factor_asked : (address : ℕ) → asks_in file marks address ≡ true → IsSome (number_by (segment_at placed.map.segments address))
      → factor_in (segment_at placed.map.segments address) ≡ factor_of_address file base address
  unfolding factor_of_address
  factor_asked address asked some =
      let factor : ℕ → Option LineAndDisc → ℕ = λ _ row. unwrap_or (option_map (λ row. if base then packed.factor row.1 else 1) row) 1 in
      let here = asked_of file base marks placed is address asked in
      factor_there placed.keys (segment_at placed.map.segments address) _ _ (by_number.place_at rows base is.members address) (factor_at rows base is.members address) (is.map.place address here)
      some (is.map.tell address here)
      ∙ ap (factor 0)
      (row_by_function rows is.members address
      ∙ same_row placed.names (names_of tolds) rows (row_in (tables_in file)) (rows-agree (tables_in file)) address (function_of is.members address) (function_of cs address) (same address)
      ∙ sym (row_by_function (row_in (tables_in file)) cs address))

  factor_here : (address : ℕ) → IsSome (number_by (segment_at placed.map.segments address))
      → factor_in (segment_at placed.map.segments address) ≡ factor_of_address file base address
  factor_here address some = elim (cases_Bool (asks_in file marks address)) [
    | inl asked ↦ factor_asked address asked some
    | inr other ↦ absurd (number_none (segment_at placed.map.segments address) (nothing_at file base marks placed is address other) some)
  ]

pub programs_shown : BinariesShowPrograms
unfolding entered_at
programs_shown file base marks placed is =
    let tolds = members_in file in
    let others = names_of tolds in
    let cs = numbered_from 0 tolds in
    record {
      places = place_here file base marks placed is;
      functions = λ address. is.map.function address ∙ function_same file placed.names is.members is.told address;
      entrances = λ address.
          subst (TellsName placed.names (entered_at file address)) (sym (is.map.entry address))
          (same_entry placed.names others address (function_of is.members address) (function_of cs address) (same file base marks placed is address));
      keys_told = λ address. key_of_place (segment_at placed.map.segments address) _ _;
      factors_told = factor_here file base marks placed is;
    }
