-- The definitions on worked values: two functions over one another, and calls in the first of them.
use Rattle.std.proofs.Common.{◌≡◌, ℕ, true, false, List, [], ◌∷◌, Option, Some, None, map, refl, ◌&&◌, ◌==◌, nat_lt, if◌then◌else◌}
use Rattle.key_types.specs.declared.ids.NameId.{NameId}
use Rattle.key_types.specs.declared.key.Frame.{Frame}
use Rattle.key_types.specs.declared.key.Key.{Key}
use Rattle.chain_model.specs.declared.member.Member.{Member}
use Rattle.chain_model.specs.Chains.{chain, function_at, innermost, path}
use Rattle.chain_model.specs.Places.{outside, nameless, no_line, has_key, LineAndDisc, line_offset, place_at, factor_at, entry_name}

name_of : ℕ → Option NameId
name_of n = Some (record { 0 = n })

member : ℕ → Option NameId → ℕ → ℕ → ℕ → List (ℕ × ℕ) → Member
unfolding name_of
member depth name start line disc pieces =
    record { depth = depth; unit = 3; name = name; start = start; line = line; disc = disc; pieces = pieces }

-- Function 0 from 100 to 200 has call 1 from 110 to 150, in which are call 2 from 120 to 130 and call 3, without a
-- name, from 140 on. Call 4 in function 0 reaches behind it. Function 5 is over all of function 0.
members : List Member
unfolding member name_of
members =
    member 0 (name_of 0) 10 0 0 ((100, 200) ∷ [])
    ∷ member 1 (name_of 1) 70000 12 2 ((110, 150) ∷ [])
    ∷ member 2 (name_of 2) 5 70001 17 ((120, 130) ∷ [])
    ∷ member 2 None 6 70002 0 ((140, 145) ∷ (125, 126) ∷ [])
    ∷ member 1 (name_of 3) 30 9 0 ((145, 160) ∷ (190, 210) ∷ [])
    ∷ member 0 (name_of 4) 40 0 0 ((50, 300) ∷ [])
    ∷ []

numbers : ℕ → List ℕ
unfolding members member name_of
numbers address = map (λ m. m.0) (chain members address)

chains : (numbers 99 ≡ 5 ∷ []) × (numbers 100 ≡ 0 ∷ []) × (numbers 110 ≡ 0 ∷ 1 ∷ [])
    × (numbers 125 ≡ 0 ∷ 1 ∷ 2 ∷ []) × (numbers 140 ≡ 0 ∷ 1 ∷ 3 ∷ []) × (numbers 149 ≡ 0 ∷ 1 ∷ [])
    × (numbers 150 ≡ 0 ∷ 4 ∷ []) × (numbers 200 ≡ 5 ∷ []) × (numbers 300 ≡ [])
unfolding numbers members member name_of
chains = (refl, refl, refl, refl, refl, refl, refl, refl, refl)

functions : (function_at members 99 ≡ Some 5) × (function_at members 125 ≡ Some 0) × (function_at members 300 ≡ None)
unfolding members member name_of
functions = (refl, refl, refl)

innermosts : (innermost members 125 ≡ Some 2) × (innermost members 49 ≡ None)
unfolding members member name_of
innermosts = (refl, refl)

paths : (map (λ m. m.0) (path members 3) ≡ 0 ∷ 1 ∷ 3 ∷ []) × (map (λ m. m.0) (path members 4) ≡ 0 ∷ 4 ∷ [])
unfolding members member name_of
paths = (refl, refl)

entries : (entry_name members 100 ≡ name_of 0) × (entry_name members 101 ≡ None) × (entry_name members 50 ≡ name_of 4)
unfolding members member name_of
entries = (refl, refl, refl)

offsets : (line_offset 10 12 ≡ 2) × (line_offset 10 9 ≡ 65535) × (line_offset 70000 5 ≡ 61077)
    × (line_offset 65536 0 ≡ 0)
offsets = (refl, refl, refl, refl)

-- In unit 3 an address below 100 has line 0, one below 190 line 7 and discriminator 772, and the others have no row.
rows : ℕ → ℕ → Option LineAndDisc
rows unit address =
    if unit == 3 && nat_lt address 190 then Some (if nat_lt address 100 then (0, 0) else (7, 772)) else None

frame_of : ℕ → ℕ → ℕ → Frame
frame_of name offset disc = record { name = record { 0 = name }; offset = offset; disc = disc }

key_of : ℕ → List Frame → ℕ → ℕ → Key
key_of root calls offset disc = record { root = record { 0 = root }; calls = calls; offset = offset; disc = disc }

no_places : (place_at rows false members 300 ≡ outside) × (place_at rows false members 141 ≡ nameless)
    × (place_at rows false members 60 ≡ no_line) × (place_at rows false members 195 ≡ no_line)
unfolding rows members member name_of
no_places = (refl, refl, refl, refl)

keys : (place_at rows false members 100 ≡ has_key (key_of 0 [] 65533 772))
    × (place_at rows false members 125 ≡ has_key (key_of 0 (frame_of 1 2 2 ∷ frame_of 2 1 17 ∷ []) 2 772))
    × (place_at rows true members 125 ≡ has_key (key_of 0 (frame_of 1 2 1 ∷ frame_of 2 1 0 ∷ []) 2 2))
    × (place_at rows false members 150 ≡ has_key (key_of 0 (frame_of 3 65535 0 ∷ []) 65513 772))
unfolding rows members member name_of frame_of key_of
keys = (refl, refl, refl, refl)

factors : (factor_at rows true members 125 ≡ 3) × (factor_at rows false members 125 ≡ 1)
unfolding rows members member name_of
factors = (refl, refl)

-- a function without a name, of which the second piece stands first; none of its addresses has a row from 190 on
pieces_apart : Option NameId → List Member
unfolding member
pieces_apart name = member 0 name 10 0 0 ((190, 200) ∷ (100, 110) ∷ []) ∷ []

entered_at_the_first_piece : (entry_name (pieces_apart (name_of 5)) 190 ≡ name_of 5) × (entry_name (pieces_apart (name_of 5)) 100 ≡ None)
unfolding pieces_apart member name_of
entered_at_the_first_piece = (refl, refl)

a_name_is_asked_first : (place_at rows false (pieces_apart None) 105 ≡ nameless) × (place_at rows false (pieces_apart None) 195 ≡ nameless)
    × (place_at (λ unit address. None) false members 141 ≡ nameless)
unfolding rows pieces_apart members member name_of
a_name_is_asked_first = (refl, refl, refl)
