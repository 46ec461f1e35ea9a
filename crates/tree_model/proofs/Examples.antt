-- The functions and calls of a unit, in a file with one segment of code, from 0x401000 up to 0x403000.
use Rattle.std.proofs.Common.{◌≡◌, ℕ, zero, suc, ◌+◌, false, List, [], ◌∷◌, length, take, None, Some, Ok, Err, refl}
use Rattle.std.specs.Prelude.{reverse}
use Rattle.refusal.specs.declared.kind.Kind.TheVariants.{BadReference, InlineTooDeep, NoSection}
use Rattle.refusal.specs.Place.{in_binary}
use Rattle.value_model.specs.Value.{Value, addr, addr_index, const, offset, ref, str_at, text}
use Rattle.byte_view.specs.Reading.{field_at}
use Rattle.range_model.specs.Texts.{address_of, text_of}
use Rattle.range_model.specs.Lists.{RangeSections}
use Rattle.unit_model.specs.Values.{Found}
use Rattle.unit_model.specs.Entries.{Entry}
use Rattle.elf_model.specs.Fields.{number_at}
use Rattle.elf_model.specs.Segments.{is_live}
use Rattle.tree_model.specs.Bases.{base_address, bases_of_unit, root_of}
use Rattle.tree_model.specs.Pieces.{InUnit, pieces, spelled_ranges}
use Rattle.tree_model.specs.Way.{next_on_way, way}
use Rattle.tree_model.specs.Origin.{origin}
use Rattle.tree_model.specs.Members.{Told}
use Rattle.tree_model.specs.Depths.{Standing, calls_on, inlined_into, way_up}
use Rattle.tree_model.specs.Tree.{Source, Tree, call_with, members, next_call, next_entry, next_function, next_unit}

abbrev file : List ℕ
file =
    127 ∷ 69 ∷ 76 ∷ 70 ∷ 2 ∷ 1 ∷ 1 ∷ 0 ∷ 0 ∷ 0 ∷ 0 ∷ 0 ∷ 0 ∷ 0 ∷ 0 ∷ 0 ∷ 2 ∷ 0 ∷ 62 ∷ 0 ∷
    1 ∷ 0 ∷ 0 ∷ 0 ∷ 0 ∷ 0 ∷ 0 ∷ 0 ∷ 0 ∷ 0 ∷ 0 ∷ 0 ∷ 64 ∷ 0 ∷ 0 ∷ 0 ∷ 0 ∷ 0 ∷ 0 ∷ 0 ∷
    0 ∷ 0 ∷ 0 ∷ 0 ∷ 0 ∷ 0 ∷ 0 ∷ 0 ∷ 0 ∷ 0 ∷ 0 ∷ 0 ∷ 64 ∷ 0 ∷ 56 ∷ 0 ∷ 1 ∷ 0 ∷ 64 ∷ 0 ∷
    0 ∷ 0 ∷ 0 ∷ 0 ∷ 1 ∷ 0 ∷ 0 ∷ 0 ∷ 5 ∷ 0 ∷ 0 ∷ 0 ∷ 0 ∷ 0 ∷ 0 ∷ 0 ∷ 0 ∷ 0 ∷ 0 ∷ 0 ∷
    0 ∷ 16 ∷ 64 ∷ 0 ∷ 0 ∷ 0 ∷ 0 ∷ 0 ∷ 0 ∷ 16 ∷ 64 ∷ 0 ∷ 0 ∷ 0 ∷ 0 ∷ 0 ∷ 0 ∷ 0 ∷ 0 ∷ 0 ∷
    0 ∷ 0 ∷ 0 ∷ 0 ∷ 0 ∷ 32 ∷ 0 ∷ 0 ∷ 0 ∷ 0 ∷ 0 ∷ 0 ∷ 0 ∷ 16 ∷ 0 ∷ 0 ∷ 0 ∷ 0 ∷ 0 ∷ 0 ∷ []

abbrev sections : RangeSections
sections = record {
  ranges = None;
  rnglists = None;
  texts = record { str = None; line_str = None; str_offsets = None; addr = None };
}

abbrev source : List Entry → Source
source entries = record {
  file = file;
  sections = sections;
  info = record {
    start = 166;
    units = record {
      units = record { at = 166; end = 300; version = 4; wide = false; first = 0; count = length entries } ∷ [];
      entries = entries;
      skipped = [];
    };
  };
}

abbrev found : ℕ → ℕ → Value → Found
found at name value = record { name = name; at = at; value = value }

-- attributes of a function of a name of one letter that starts in a line, and of a call of `g` in a line
abbrev named : ℕ → ℕ → ℕ → List Found → List Found
named at letter line more = found at 3 (text (letter ∷ [])) ∷ found (at + 1) 0x3b (const line) ∷ more

abbrev called_in : ℕ → ℕ → List Found → List Found
called_in at line more = found at 0x31 (ref 16) ∷ found (at + 1) 0x59 (const line) ∷ more

-- the attributes of a range
abbrev from : ℕ → ℕ → ℕ → List Found
from at start size = found (at + 2) 0x11 (addr start) ∷ found (at + 3) 0x12 (const size) ∷ []

abbrev entry : ℕ → ℕ → ℕ → List Found → Entry
entry at depth tag found = record { at = at; depth = depth; tag = tag; unit = 0; found = found }

abbrev entries : List Entry
entries =
    entry 177 0 0x11 []
    ∷ entry 182 1 0x2e (named 183 0x67 5 [])
    ∷ entry 190 1 0x2e (named 191 0x66 10 (from 191 0x401000 0x40))
    -- a call below a lexical block
    ∷ entry 200 2 0x0b []
    ∷ entry 205 3 0x1d (called_in 206 12 (found 216 0x2136 (const 1) ∷ from 206 0x401010 0x10))
    -- a function that stands in another one, and a call inlined into it
    ∷ entry 220 2 0x2e (named 221 0x68 20 (from 221 0x402000 0x10))
    ∷ entry 230 3 0x1d (called_in 231 21 (from 231 0x402004 4))
    -- a call of the outer function, and one below a call without pieces
    ∷ entry 240 2 0x1d (called_in 241 13 (from 241 0x401030 8))
    ∷ entry 250 3 0x1d (called_in 251 14 [])
    ∷ entry 260 4 0x1d (called_in 261 15 (from 261 0x401034 2))
    ∷ []

abbrev f : Told
f = record {
  depth = 0;
  unit = 0;
  name = Some (0x66 ∷ []);
  start = 10;
  line = 0;
  disc = 0;
  pieces = (0x401000, 0x401040) ∷ [];
}

abbrev h : Told
h = record {
  depth = 0;
  unit = 0;
  name = Some (0x68 ∷ []);
  start = 20;
  line = 0;
  disc = 0;
  pieces = (0x402000, 0x402010) ∷ [];
}

abbrev g_in : ℕ → ℕ → ℕ → ℕ → Told
g_in line disc start end = record {
  depth = 1;
  unit = 0;
  name = Some (0x67 ∷ []);
  start = 5;
  line = line;
  disc = disc;
  pieces = (start, end) ∷ [];
}

nested_function_behind : members (source entries)
    ≡ Ok (f ∷ g_in 12 1 0x401010 0x401020 ∷ g_in 13 0 0x401030 0x401038 ∷ h ∷ g_in 21 0 0x402004 0x402008 ∷ [])
unfolding members next_unit next_entry next_function next_call pieces spelled_ranges is_live number_at address_of text_of origin way next_on_way base_address bases_of_unit root_of
nested_function_behind = refl

-- the root's address is judged before all, a call's origin behind its pieces, and only where it has any
bad_origin : members
    (source (entry 177 0 0x11 [] ∷ entry 182 1 0x1d (found 183 0x31 (ref 17) ∷ from 183 0x401000 4) ∷ []))
    ≡ Err (in_binary 183 BadReference)
unfolding members next_unit next_entry next_function next_call pieces spelled_ranges is_live number_at address_of text_of origin way next_on_way base_address bases_of_unit root_of
bad_origin = refl

no_origin_without_pieces : members (source (entry 177 0 0x11 [] ∷ entry 182 1 0x1d (found 183 0x31 (ref 17) ∷ []) ∷ []))
    ≡ Ok []
unfolding members next_unit next_entry next_function next_call pieces spelled_ranges is_live number_at address_of text_of origin way next_on_way base_address bases_of_unit root_of
no_origin_without_pieces = refl

bad_name : members (source (entry 177 0 0x11 [] ∷ entry 182 1 0x2e (found 183 3 (str_at 0) ∷ from 183 0x401000 4) ∷ []))
    ≡ Err (in_binary 183 NoSection)
unfolding members next_unit next_entry next_function next_call pieces spelled_ranges is_live number_at address_of text_of origin way next_on_way base_address bases_of_unit root_of
bad_name = refl

abbrev of_unit : InUnit
of_unit = record {
  sections = sections;
  version = 4;
  base = 0;
  bases = record { wide = false; str_offsets = None; addr = None; rnglists = None };
}

-- by the depths alone: the last entry stands below two calls, of which one has no pieces, and no call of the outer
-- function is one of the inner's
abbrev way_of_last : List Standing
way_of_last = way_up 4 (reverse (take 9 entries))

abbrev way_of_inner : List Standing
way_of_inner = way_up 3 (reverse (take 6 entries))

depths_count_calls : (length way_of_last ≡ 4) × (length (calls_on way_of_last) ≡ 2) × (length (calls_on way_of_inner) ≡ 0)
depths_count_calls = (refl, refl, refl)

depths_tell_functions : (inlined_into file of_unit 0 way_of_last ≡ None) × (inlined_into file of_unit 0 way_of_inner ≡ Some 1)
unfolding spelled_ranges is_live number_at address_of
depths_tell_functions = (refl, refl)

-- an entry that is less deep by two stands below those at its new depth alone
skipped_levels : length (way_up 2 (entry 3 3 0x1d [] ∷ entry 2 1 0x1d [] ∷ entry 1 1 0x1d [] ∷ entry 0 0 0x11 [] ∷ [])) ≡ 2
skipped_levels = refl

-- so many calls, each below the one before, the last one first
calls_up : ℕ → List Entry
calls_up zero = []
calls_up (suc depth) = entry (1000 + depth) depth 0x1d [] ∷ calls_up depth

abbrev no_functions : Tree
no_functions = record { functions = []; pieces = 0 }

deepest_call : next_entry (source []) of_unit 0 (calls_up 254) (entry 1254 254 0x1d []) no_functions ≡ Ok no_functions
unfolding calls_up next_entry next_call pieces spelled_ranges
deepest_call = refl

one_call_too_deep : next_entry (source []) of_unit 0 (calls_up 255) (entry 1255 255 0x1d []) no_functions
    ≡ Err (in_binary 1255 InlineTooDeep)
unfolding calls_up next_entry next_call pieces spelled_ranges
one_call_too_deep = refl

-- Of two units the second has a function whose address goes by an index, and in it a call of itself, of which 32 bits of the
-- discriminator count.
abbrev entry_of : ℕ → ℕ → ℕ → ℕ → List Found → Entry
entry_of unit at depth tag found = record { at = at; depth = depth; tag = tag; unit = unit; found = found }

abbrev two_units : Source
two_units = record {
  file = file;
  sections = record sections { texts = record sections.texts { addr = Some (0 ∷ 0x20 ∷ 0x40 ∷ 0 ∷ 0 ∷ 0 ∷ 0 ∷ 0 ∷ []) } };
  info = record {
    start = 166;
    units = record {
      units = record { at = 166; end = 290; version = 4; wide = false; first = 0; count = 2 }
          ∷ record { at = 290; end = 400; version = 5; wide = false; first = 2; count = 3 }
          ∷ [];
      entries = entry_of 0 177 0 0x11 []
          ∷ entry_of 0 190 1 0x2e (named 191 0x66 10 (from 191 0x401000 0x40))
          ∷ entry_of 1 300 0 0x11 (found 301 0x73 (offset 0) ∷ [])
          ∷ entry_of 1 310 1 0x2e (named 311 0x68 20 (found 313 0x11 (addr_index 0) ∷ found 314 0x12 (const 0x10) ∷ []))
          ∷ entry_of 1 320 2 0x1d (found 321 0x31 (ref 20) ∷ found 322 0x59 (const 21) ∷ found 323 0x2136 (const 0x100012345) ∷ from 321 0x402004 4)
          ∷ [];
      skipped = [];
    };
  };
}

each_unit_by_its_own : members two_units
    ≡ Ok (f ∷ record h { unit = 1 } ∷ record {
      depth = 1;
      unit = 1;
      name = Some (0x68 ∷ []);
      start = 20;
      line = 21;
      disc = 0x12345;
      pieces = (0x402004, 0x402008) ∷ [];
    } ∷ [])
unfolding members next_unit next_entry next_function next_call pieces spelled_ranges is_live number_at address_of field_at text_of origin way next_on_way base_address bases_of_unit root_of
each_unit_by_its_own = refl

-- the pieces of a call count toward the limit as those of a function do
pieces_of_a_call : call_with two_units None 1 (entry_of 0 9 1 0x1d []) no_functions ((1, 2) ∷ (3, 4) ∷ []) ≡ Ok (record { functions = []; pieces = 2 })
unfolding text_of origin way next_on_way
pieces_of_a_call = refl
