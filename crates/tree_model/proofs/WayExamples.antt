-- Ways through two units, and what they say.
use Rattle.std.proofs.Common.{◌≡◌, ℕ, zero, suc, ◌+◌, ◌-◌, true, false, List, [], ◌∷◌, map, None, Some, Ok, Err, refl}
use Rattle.std.specs.Prelude.{codes, Result}
use Rattle.refusal.specs.declared.kind.Kind.TheVariants.{BadReference, NoBase, OriginTooLong}
use Rattle.refusal.specs.declared.place.Place.{Place}
use Rattle.refusal.specs.Place.{in_binary}
use Rattle.value_model.specs.Value.{Value, const, ref, ref_info, sig, str_index, text}
use Rattle.range_model.specs.Texts.{text_of}
use Rattle.unit_model.specs.Values.{Found}
use Rattle.unit_model.specs.Entries.{Entry}
use Rattle.tree_model.specs.Bases.{bases_of_unit, root_of}
use Rattle.tree_model.specs.Way.{Info, next_on_way, way}
use Rattle.tree_model.specs.Origin.{Origin, is_name, origin}

abbrev found : ℕ → ℕ → Value → Found
found name at value = record { name = name; at = at; value = value }

abbrev entry : ℕ → ℕ → List Found → Entry
entry at unit found = record { at = at; depth = 1; tag = 0x2e; unit = unit; found = found }

-- an inlined call, its function, which is declared in another unit, and entries that lead nowhere or to themselves
abbrev call : Entry
call = entry 120 0 (found 0x31 121 (ref 40) ∷ [])

abbrev defined : Entry
defined = entry 140 0 (found 0x03 141 (text (codes "b")) ∷ found 0x3b 143 (const 9) ∷ found 0x47 144 (ref_info 120) ∷ [])

abbrev lost : Entry
lost = entry 170 0 (found 0x31 171 (ref 99) ∷ [])

abbrev endless : Entry
endless = entry 180 0 (found 0x31 181 (ref 80) ∷ [])

abbrev declared : Entry
declared = entry 220 1 (found 0x2007 221 (text (codes "_b")) ∷ found 0x3b 224 (const 7) ∷ [])

-- two units of a section that begins at 100, and one behind them that was passed over
abbrev info : Info
info = record {
  start = 100;
  units = record {
    units = record { at = 100; end = 200; version = 5; wide = false; first = 0; count = 4 }
        ∷ record { at = 200; end = 300; version = 5; wide = false; first = 4; count = 1 }
        ∷ [];
    entries = call ∷ defined ∷ lost ∷ endless ∷ declared ∷ [];
    skipped = (300, 340) ∷ [];
  };
}

abbrev said : Entry → Result Origin Place
said entry = origin (record { str = None; line_str = None; str_offsets = None; addr = None }) info entry

the_way_of_a_call : way info call ≡ Ok (call ∷ defined ∷ declared ∷ [])
unfolding way next_on_way
the_way_of_a_call = refl

-- the linkage name counts, though a name stands before it; the first line counts
through_the_other_unit : said call ≡ Ok (record { name = Some (codes "_b"); line = 9 })
unfolding origin way next_on_way text_of
through_the_other_unit = refl

-- a signature ends the way, also where a specification stands beside it
a_signature : said (entry 150 0 (found 0x03 151 (text (codes "c")) ∷ found 0x31 153 (sig 5) ∷ found 0x47 161 (ref 40) ∷ []))
    ≡ Ok (record { name = Some (codes "c"); line = 0 })
unfolding origin way next_on_way text_of
a_signature = refl

-- so does a unit that was passed over
a_unit_passed_over : said (entry 230 1 (found 0x3b 231 (const 3) ∷ found 0x31 232 (ref 100) ∷ []))
    ≡ Ok (record { name = None; line = 3 })
unfolding origin way next_on_way text_of
a_unit_passed_over = refl

no_entry_there : said lost ≡ Err (in_binary 171 BadReference)
unfolding origin way next_on_way text_of
no_entry_there = refl

no_end : said endless ≡ Err (in_binary 180 OriginTooLong)
unfolding origin way next_on_way text_of
no_end = refl

-- the bases are those of the unit in which the name stands, and it has none
no_base : said (entry 190 0 (found 0x6e 191 (str_index 0) ∷ found 0x31 192 (ref 40) ∷ [])) ≡ Err (in_binary 191 NoBase)
unfolding origin way next_on_way text_of bases_of_unit root_of
no_base = refl

-- texts that are no names
nameless : List ℕ → Result Origin Place
nameless name = said (entry 190 0 (found 0x03 191 (text name) ∷ []))

a_colon : nameless (codes "a:b") ≡ Ok (record { name = None; line = 0 })
unfolding nameless origin way next_on_way text_of
a_colon = refl

a_digit_first : nameless (codes "7b") ≡ Ok (record { name = None; line = 0 })
unfolding nameless origin way next_on_way text_of
a_digit_first = refl

a_digit_behind : nameless (codes "b7") ≡ Ok (record { name = Some (codes "b7"); line = 0 })
unfolding nameless origin way next_on_way text_of
a_digit_behind = refl

empty : nameless [] ≡ Ok (record { name = None; line = 0 })
unfolding nameless origin way next_on_way text_of
empty = refl

-- each byte that no name has, and each that none begins with, beside those that are near to it
no_names : map is_name (codes "a b" ∷ codes "a\t" ∷ (97 ∷ 0 ∷ []) ∷ (97 ∷ 0x7f ∷ []) ∷ codes ":" ∷ codes "!a" ∷ codes "#a" ∷ codes "0a" ∷ codes "9" ∷ [] ∷ [])
    ≡ false ∷ false ∷ false ∷ false ∷ false ∷ false ∷ false ∷ false ∷ false ∷ false ∷ []
no_names = refl

names : map is_name (codes "a!" ∷ codes "a#" ∷ codes "a0" ∷ codes "/" ∷ codes ";" ∷ codes "~" ∷ codes "$a" ∷ codes "\"" ∷ (0x80 ∷ 0xff ∷ []) ∷ [])
    ≡ true ∷ true ∷ true ∷ true ∷ true ∷ true ∷ true ∷ true ∷ true ∷ []
names = refl

-- the linkage name counts before that of MIPS, wherever both stand
a_linkage_name_first : said (entry 190 0 (found 0x2007 191 (text (codes "_m")) ∷ found 0x6e 195 (text (codes "_l")) ∷ []))
    ≡ Ok (record { name = Some (codes "_l"); line = 0 })
unfolding origin way next_on_way text_of
a_linkage_name_first = refl

-- a unit that was passed over goes up to its end, which is no place of it
the_end_of_a_unit_passed_over :
    (said (entry 190 0 (found 0x31 191 (ref_info 239) ∷ [])) ≡ Ok (record { name = None; line = 0 }))
    × (said (entry 190 0 (found 0x31 191 (ref_info 240) ∷ [])) ≡ Err (in_binary 191 BadReference))
unfolding origin way next_on_way text_of
the_end_of_a_unit_passed_over = (refl, refl)

-- so many entries that lead to the one before each, from an offset on, and one at 100 that has a name
abbrev chain : ℕ → List Entry
chain zero = entry 100 0 (found 0x03 101 (text (codes "n")) ∷ []) ∷ []
chain (suc more) = entry (101 + more) 0 (found 0x31 101 (ref more) ∷ []) ∷ chain more

abbrev said_in_chain : ℕ → Result Origin Place
said_in_chain steps =
    origin (record { str = None; line_str = None; str_offsets = None; addr = None })
    (record info { units = record info.units { entries = chain steps } })
    (entry (100 + steps) 0 (found 0x31 101 (ref (steps - 1)) ∷ []))

sixteen_steps : (said_in_chain 16 ≡ Ok (record { name = Some (codes "n"); line = 0 })) × (said_in_chain 17 ≡ Err (in_binary 117 OriginTooLong))
unfolding origin way next_on_way text_of
sixteen_steps = (refl, refl)
