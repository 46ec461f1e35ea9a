-- The ways of a program's places are ways that lines can tell.
use Rattle.std.proofs.Common.{◌≡◌, ◌<◌, ◌≤◌, ◌+◌, ◌*◌, ◌/◌, ◌%◌, ◌^◌, ◌==◌, ℕ, zero, suc, Bool, true, false, List, [], ◌∷◌, ◌++◌, map, take, length, Option, None, Some, option_map, refl, sym, ap, ◌∙◌, arith, append_assoc}
use Rattle.std.specs.Prelude.{⊤, if◌then◌else◌, nat_lt, option_and_then, slice_get, unwrap_or}
use Rattle.std.specs.List.{AllByRecursion, enumerate_from, prefix_len}
use Rattle.std.specs.Option.{option_map_or}
use Rattle.std.proofs.lemmas.List.{length-append, length-map}
use Rattle.key_types.specs.declared.ids.NameId.{NameId}
use Rattle.key_types.specs.declared.key.Frame.{Frame}
use Rattle.key_types.specs.declared.key.Key.{Key}
use Rattle.key_types.specs.Discriminators as packed
use Rattle.chain_model.specs.Chains.{below, chain, chain_among, first_at, function_of, holds, holds_at, numbered}
use Rattle.chain_model.specs.Places as by_number
use Rattle.chain_model.specs.Places.{LineAndDisc, chain_members, frame, frames, is_entered_at, kept, key, last_start, line_offset, place_at, place_by, place_of, row_of}
use Rattle.chain_model.specs.declared.member.Member.{Member}
use Rattle.profile_model.proofs.StepLemmas.{and_first, nat_same}
use Rattle.profile_model.specs.Names.{is_name}
use Rattle.profile_model.specs.Ways.{Step, to_body, to_call}
use Rattle.spelling_laws.specs.Told.{EndInBody, IsToldWay}
use Rattle.tree_model.specs.Members.{Told}
use Rattle.binary_model.specs.Addresses.{entered_at}
use Rattle.binary_model.specs.Binary.{members_in, tables_in}
use Rattle.binary_model.specs.Places.{Place, at_way, in_names, names_of, nameless, no_line, numbered_from, outside, place_among, place_of_address, row_in, way_of}
use Rattle.key_types.specs.Numbers.{name_of}
use Rattle.way_laws.specs.Rows.{HasDisc}
use Rattle.way_laws.proofs.EachLemmas.{OfSome, one_found}
use Rattle.way_laws.proofs.NameLemmas.{AreTold, IsNameIfAny, members_are_told}
use Rattle.way_laws.proofs.RowLemmas.{rows_have_discriminators}

-- ---- members by number

abbrev HasName : List (List ℕ) → Option NameId → Type 0
HasName names None = ⊤
HasName names (Some id) = is_name (name_of names id) ≡ true

abbrev IsMember : List (List ℕ) → Member → Type 0
IsMember names member = HasName names member.name × (member.disc < 2 ^ 32) × (member.depth ≤ 255)

at_place : (front : List (List ℕ)) (name : List ℕ) (rest : List (List ℕ)) (n : ℕ) → n ≡ length front → unwrap_or (slice_get (front ++ name ∷ rest) n) [] ≡ name
at_place [] name rest zero is = refl
at_place [] name rest (suc n) is = absurd (omega (arith, is))
at_place (x ∷ front) name rest zero is = absurd (omega (arith, is))
at_place (x ∷ front) name rest (suc n) is = at_place front name rest n (omega (arith, is))

pushed : (front : List (List ℕ)) (name : List ℕ) (n : ℕ) → n ≡ length front → n + 1 ≡ length (front ++ name ∷ [])
pushed [] name n is = omega (arith, is)
pushed (x ∷ front) name zero is = absurd (omega (arith, is))
pushed (x ∷ front) name (suc n) is = let rest = pushed front name n (omega (arith, is)) in omega (arith, rest)

numbered_members : (names front : List (List ℕ)) (n : ℕ) (members : List Told) → names ≡ front ++ names_of members → n ≡ length front → AreTold members
    → AllByRecursion (IsMember names) (numbered_from n members)
numbered_members names front n [] is size all = tt
numbered_members names front n (told ∷ members) is size all = (
  (named told.name refl all.0.0, all.0.1, all.0.2),
  numbered_members names (front ++ unwrap_or told.name [] ∷ []) (n + 1) members
      (is ∙ sym (append_assoc front (unwrap_or told.name [] ∷ []) (names_of members))) (pushed front (unwrap_or told.name []) n size) all.1,
)
  where
    named : (name : Option (List ℕ)) → told.name ≡ name → IsNameIfAny name → HasName names (option_map (λ name. record { 0 = n }) name)
    named None same has = tt
    named (Some name) same has =
        ap is_name
        (ap (λ (all : List (List ℕ)). unwrap_or (slice_get all n) []) (is ∙ ap (λ (o : Option (List ℕ)). front ++ unwrap_or o [] ∷ names_of members) same)
        ∙ at_place front name (names_of members) n size)
        ∙ has

members_named : (file : List ℕ) → AllByRecursion (IsMember (names_of (members_in file))) (numbered_from 0 (members_in file))
members_named file = numbered_members (names_of (members_in file)) [] 0 (members_in file) refl refl (members_are_told file)

-- ---- chains are of members

all_numbered : (P : Member → Type 0) (n : ℕ) (members : List Member) → AllByRecursion P members → AllByRecursion (λ (m : ℕ × Member). P m.1) (enumerate_from n members)
all_numbered P n [] all = tt
all_numbered P n (member ∷ members) all = (all.0, all_numbered P (n + 1) members all.1)

all_take : {X : Type 0} (P : X → Type 0) (n : ℕ) (xs : List X) → AllByRecursion P xs → AllByRecursion P (take n xs)
all_take P zero xs all = tt
all_take P (suc n) [] all = tt
all_take P (suc n) (x ∷ xs) all = (all.0, all_take P n xs all.1)

abbrev IsFound : (Member → Type 0) → (ℕ × Member) × List (ℕ × Member) → Type 0
IsFound P found = P found.0.1 × AllByRecursion (λ (m : ℕ × Member). P m.1) found.1

first_found : (P : Member → Type 0) (depth address : ℕ) (members : List (ℕ × Member)) → AllByRecursion (λ (m : ℕ × Member). P m.1) members → OfSome (IsFound P) (first_at depth address members)
first_found P depth address [] all = tt
first_found P depth address (member ∷ behind) all =
    either (holds_at depth address member.1) (Some (member, below member behind)) (first_at depth address behind)
    (all.0, all_take (λ (m : ℕ × Member). P m.1) (prefix_len (λ next. nat_lt member.1.depth next.1.depth) behind) behind all.1) (first_found P depth address behind all.1)
  where
    either : (b : Bool) (one other : Option ((ℕ × Member) × List (ℕ × Member))) → OfSome (IsFound P) one → OfSome (IsFound P) other → OfSome (IsFound P) (if b then one else other)
    either true one other is also = is
    either false one other is also = also

chained : (P : Member → Type 0) (most depth address : ℕ) (members : List (ℕ × Member)) → AllByRecursion (λ (m : ℕ × Member). P m.1) members
    → AllByRecursion (λ (m : ℕ × Member). P m.1) (chain_among most depth address members)
chained P zero depth address members all = tt
chained P (suc most) depth address members all =
    by (first_at depth address members) (first_found P depth address members all) (λ more rest. chained P most (depth + 1) address more rest)
  where
    by : (o : Option ((ℕ × Member) × List (ℕ × Member))) → OfSome (IsFound P) o
        → ((more : List (ℕ × Member)) → AllByRecursion (λ (m : ℕ × Member). P m.1) more → AllByRecursion (λ (m : ℕ × Member). P m.1) (chain_among most (depth + 1) address more))
        → AllByRecursion (λ (m : ℕ × Member). P m.1) (option_map_or (λ found. found.0 ∷ chain_among most (depth + 1) address found.1) o [])
    by None is next = tt
    by (Some found) is next = (is.0, next found.1 is.1)

unnumbered : (P : Member → Type 0) (members : List (ℕ × Member)) → AllByRecursion (λ (m : ℕ × Member). P m.1) members → AllByRecursion P (map (λ member. member.1) members)
unnumbered P [] all = tt
unnumbered P (member ∷ members) all = (all.0, unnumbered P members all.1)

members_of_chain : (P : Member → Type 0) (members : List Member) (address : ℕ) → AllByRecursion P members → AllByRecursion P (chain_members members address)
members_of_chain P members address all =
    unnumbered P (chain members address) (chained P (length members) 0 address (numbered members) (all_numbered P 0 members all))

-- A chain goes down a step each time, so it has at most 256 members.
first_depth : (depth address : ℕ) (members : List (ℕ × Member)) → OfSome (λ (found : (ℕ × Member) × List (ℕ × Member)). found.0.1.depth ≡ depth) (first_at depth address members)
first_depth depth address [] = tt
first_depth depth address (member ∷ behind) = by (holds_at depth address member.1) refl (first_depth depth address behind)
  where
    by : (b : Bool) → holds_at depth address member.1 ≡ b → OfSome (λ (found : (ℕ × Member) × List (ℕ × Member)). found.0.1.depth ≡ depth) (first_at depth address behind)
        → OfSome (λ (found : (ℕ × Member) × List (ℕ × Member)). found.0.1.depth ≡ depth) (if b then Some (member, below member behind) else first_at depth address behind)
    by true e rest = nat_same member.1.depth depth (and_first (member.1.depth == depth) (holds address member.1) e)
    by false e rest = rest

shallow : (most depth address : ℕ) (members : List (ℕ × Member)) → AllByRecursion (λ (m : ℕ × Member). m.1.depth ≤ 255) members → depth ≤ 256
    → depth + length (chain_among most depth address members) ≤ 256
shallow zero depth address members all low = omega (arith, low)
shallow (suc most) depth address members all low =
    by (first_at depth address members) (first_found (λ (m : Member). m.depth ≤ 255) depth address members all) (first_depth depth address members)
    (λ more rest lower. shallow most (depth + 1) address more rest lower)
  where
    by : (o : Option ((ℕ × Member) × List (ℕ × Member))) → OfSome (IsFound (λ (m : Member). m.depth ≤ 255)) o
        → OfSome (λ (found : (ℕ × Member) × List (ℕ × Member)). found.0.1.depth ≡ depth) o
        → ((more : List (ℕ × Member)) → AllByRecursion (λ (m : ℕ × Member). m.1.depth ≤ 255) more → depth + 1 ≤ 256 → depth + 1 + length (chain_among most (depth + 1) address more) ≤ 256)
        → depth + length (option_map_or (λ found. found.0 ∷ chain_among most (depth + 1) address found.1) o []) ≤ 256
    by None is at next = omega (arith, low)
    by (Some found) is at next =
        let here = is.0 in
        let rest = next found.1 is.1 (omega (arith, here, at)) in
        omega (arith, rest)

depths : (names : List (List ℕ)) (members : List (ℕ × Member)) → AllByRecursion (λ (m : ℕ × Member). IsMember names m.1) members → AllByRecursion (λ (m : ℕ × Member). m.1.depth ≤ 255) members
depths names [] all = tt
depths names (member ∷ members) all = (all.0.2, depths names members all.1)

few_members : (names : List (List ℕ)) (members : List Member) (address : ℕ) → AllByRecursion (IsMember names) members → length (chain_members members address) ≤ 256
few_members names members address all =
    let short = shallow (length members) 0 address (numbered members) (depths names (numbered members) (all_numbered (IsMember names) 0 members all)) (omega arith) in
    let size = length-map (chain members address) (λ (m : ℕ × Member). m.1) in
    omega (arith, short, size)

-- ---- keys

offset_low : (first line : ℕ) → line_offset first line < 2 ^ 16
offset_low first line = omega arith

component_low : (d : ℕ) → packed.component d < 2 ^ 32
component_low d = by (packed.begins_with_zero d) (packed.is_long d)
  where
    by : (a b : Bool) → (if a then 0 else (if b then d / 2 ^ 7 % 2 ^ 7 * 2 ^ 5 + d / 2 % 2 ^ 5 else d / 2 % 2 ^ 5)) < 2 ^ 32
    by true b = omega arith
    by false true = omega arith
    by false false = omega arith

kept_low : (base : Bool) (disc : ℕ) → disc < 2 ^ 32 → kept base disc < 2 ^ 32
kept_low true disc small = component_low disc
kept_low false disc small = small

abbrev IsFrame : List (List ℕ) → Frame → Type 0
IsFrame names call = (is_name (name_of names call.name) ≡ true) × (call.offset < 2 ^ 16) × (call.disc < 2 ^ 32)

pub record IsKey (names : List (List ℕ)) (it : Key) : Type 0 where
  root : is_name (name_of names it.root) ≡ true
  calls : AllByRecursion (IsFrame names) it.calls
  few : length it.calls ≤ 255
  offset : it.offset < 2 ^ 16
  disc : it.disc < 2 ^ 32

abbrev IsPlaceOf : List (List ℕ) → by_number.Place → Type 0
IsPlaceOf names by_number.outside = ⊤
IsPlaceOf names by_number.nameless = ⊤
IsPlaceOf names by_number.no_line = ⊤
IsPlaceOf names (by_number.has_key it) = IsKey names it

-- The frames of so many calls.
abbrev AreFrames : List (List ℕ) → ℕ → List Frame → Type 0
AreFrames names n calls = AllByRecursion (IsFrame names) calls × (length calls ≡ n)

framed : (names : List (List ℕ)) (base : Bool) (start : ℕ) (calls : List Member) → AllByRecursion (IsMember names) calls → OfSome (AreFrames names (length calls)) (frames base start calls)
framed names base start [] all = (tt, refl)
framed names base start (call ∷ calls) all = by call.name all.0.0 (frames base call.start calls) (framed names base call.start calls all.1)
  where
    by : (name : Option NameId) → HasName names name → (rest : Option (List Frame)) → OfSome (AreFrames names (length calls)) rest
        → OfSome (AreFrames names (suc (length calls))) (option_and_then (λ name. option_map (λ rest. frame base start call name ∷ rest) rest) name)
    by None has rest is = tt
    by (Some name) has None is = tt
    by (Some name) has (Some rest) is = (((has, offset_low start call.line, kept_low base call.disc all.0.1), is.0), ap suc is.1)

keyed : (names : List (List ℕ)) (base : Bool) (start : ℕ) (root : Option NameId) (n : ℕ) (calls : Option (List Frame)) (row : Option LineAndDisc)
    → HasName names root → OfSome (AreFrames names n) calls → n ≤ 255 → HasDisc row → IsPlaceOf names (place_by base start root calls row)
keyed names base start None n calls row has is few disc = tt
keyed names base start (Some root) n None row has is few disc = tt
keyed names base start (Some root) n (Some calls) None has is few disc = tt
keyed names base start (Some root) n (Some calls) (Some row) has is few disc = by (row.0 == 0)
  where
    by : (b : Bool) → IsPlaceOf names (if b then by_number.no_line else by_number.has_key (key base root calls start row))
    by true = tt
    by false = record { root = has; calls = is.0; few = (let size = is.1 in omega (arith, size, few)); offset = offset_low start row.0; disc = kept_low base row.1 disc }

placed : (names : List (List ℕ)) (base : Bool) (members : List Member) (row : Option LineAndDisc) → AllByRecursion (IsMember names) members → length members ≤ 256 → HasDisc row
    → IsPlaceOf names (place_of base members row)
placed names base [] row all few disc = tt
placed names base (function ∷ calls) row all few disc =
    keyed names base (last_start function.start calls) function.name (length calls) (frames base function.start calls) row all.0.0 (framed names base function.start calls all.1)
    (omega (arith, few)) disc

-- ---- ways

ended : (names : List (List ℕ)) (calls : List Frame) (offset disc : ℕ) → AllByRecursion (IsFrame names) calls → offset < 2 ^ 16 → disc < 2 ^ 32
    → EndInBody (map (λ call. to_call call.offset call.disc (name_of names call.name)) calls ++ to_body offset disc ∷ [])
ended names [] offset disc all low disc_low = (refl, low, disc_low)
ended names (call ∷ []) offset disc all low disc_low = ((refl, all.0.1, all.0.2, all.0.0), (refl, low, disc_low))
ended names (call ∷ next ∷ calls) offset disc all low disc_low = ((refl, all.0.1, all.0.2, all.0.0), ended names (next ∷ calls) offset disc all.1 low disc_low)

way_told : (names : List (List ℕ)) (it : Key) → IsKey names it → IsToldWay (way_of names it)
way_told names it is = (
  (refl, is.root),
  ended names it.calls it.offset it.disc is.calls is.offset is.disc,
  (let steps : Frame → Step = λ call. to_call call.offset call.disc (name_of names call.name) in
      let size = length-append (map steps it.calls) (to_body it.offset it.disc ∷ []) in
      let calls = length-map it.calls steps in
      let few = is.few in
      omega (arith, size, calls, few)),
)

abbrev pub IsToldPlace : Place → Type 0
IsToldPlace outside = ⊤
IsToldPlace nameless = ⊤
IsToldPlace no_line = ⊤
IsToldPlace (at_way way) = IsToldWay way

named_place : (names : List (List ℕ)) (place : by_number.Place) → IsPlaceOf names place → IsToldPlace (in_names names place)
named_place names by_number.outside is = tt
named_place names by_number.nameless is = tt
named_place names by_number.no_line is = tt
named_place names (by_number.has_key it) is = way_told names it is

row_has_disc : (file : List ℕ) (members : List Member) (address : ℕ) → HasDisc (row_of (row_in (tables_in file)) members address)
row_has_disc file [] address = tt
row_has_disc file (function ∷ calls) address = rows_have_discriminators file function.unit address

-- Each place of a binary is told so.
pub places_are_told : (file : List ℕ) (base : Bool) (address : ℕ) → IsToldPlace (place_of_address file base address)
unfolding place_of_address place_among
places_are_told file base address =
    let names = names_of (members_in file) in
    let members = numbered_from 0 (members_in file) in
    let chain = chain_members members address in
    named_place names (place_at (row_in (tables_in file)) base members address)
    (placed names base chain (row_of (row_in (tables_in file)) chain address) (members_of_chain (IsMember names) members address (members_named file))
    (few_members names members address (members_named file)) (row_has_disc file chain address))

-- ---- entries

pub entries_are_named : (file : List ℕ) (address : ℕ) → IsNameIfAny (entered_at file address)
unfolding entered_at
entries_are_named file address =
    by (function_of members address) (one_found (λ (m : ℕ × Member). IsMember names m.1) (λ member. holds_at 0 address member.1) (numbered members) (all_numbered (IsMember names) 0 members (members_named file)))
  where
    names : List (List ℕ)
    names = names_of (members_in file)

    members : List Member
    members = numbered_from 0 (members_in file)

    mapped : (id : Option NameId) → HasName names id → IsNameIfAny (option_map (name_of names) id)
    mapped None is = tt
    mapped (Some id) is = is

    entered : (b : Bool) (function : ℕ × Member) → IsMember names function.1 → IsNameIfAny (option_map (name_of names) (if b then function.1.name else None))
    entered true function is = mapped function.1.name is.0
    entered false function is = tt

    by : (o : Option (ℕ × Member)) → OfSome (λ (m : ℕ × Member). IsMember names m.1) o
        → IsNameIfAny (option_map (name_of names) (option_and_then (λ function. if is_entered_at address function.1.pieces then function.1.name else None) o))
    by None is = tt
    by (Some function) is = entered (is_entered_at address function.1.pieces) function is
