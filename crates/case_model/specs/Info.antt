-- The section `.debug_info`: one unit of version 4, with a function that is inlined once into each other function.
use Rattle.std.specs.Prelude.{ℕ, ◌+◌, List, [], ◌∷◌, ◌++◌, codes}
use Rattle.case_model.specs.Bytes.{u16_bytes, u32_bytes, u64_bytes, uleb, with_nul, counted, for_each_function}
use Rattle.case_model.specs.Functions.{address, function_size, name}
use Rattle.case_model.specs.Abbrev.{unit_code, abstract_code, function_code, inlined_code}

-- DWARF 4, section 7.5.1.1, behind the length: version 4, the abbreviations at 0, addresses of 8 bytes.
abbrev pub unit_header : List ℕ
unit_header = u16_bytes 4 ++ u32_bytes 0 ++ 8 ∷ []

-- The unit's own entry: its line program at 0.
abbrev pub unit_entry : List ℕ
unit_entry = uleb unit_code ++ u32_bytes 0

-- The function that is inlined: g, declared in line 5.
abbrev pub abstract_entry : List ℕ
abstract_entry = uleb abstract_code ++ with_nul (codes "g") ++ 5 ∷ []

-- Where the entry of the function that is inlined stands, counted from the start of the unit.
abbrev pub abstract_at : ℕ
abstract_at = 16

-- The inlined call of g in function k: 16 bytes from 16 on, called in line 12 with discriminator 1.
abbrev pub inlined_entry : ℕ → List ℕ
inlined_entry k =
    uleb inlined_code ++ u32_bytes abstract_at ++ u64_bytes (address k + 0x10) ++ u32_bytes 0x10
    ++ u16_bytes 12 ++ 1 ∷ []

-- Function k, declared in line 10, with the call below it and the end of those below.
unfoldable pub function_entry : ℕ → List ℕ
function_entry k =
    uleb function_code ++ with_nul (name k) ++ u16_bytes 10 ++ u64_bytes (address k) ++ u32_bytes function_size
    ++ inlined_entry k ++ 0 ∷ []

-- What stands between the length and the functions.
unfoldable pub front : List ℕ
front = unit_header ++ unit_entry ++ abstract_entry

-- The unit of n functions, behind its length.
unfoldable pub debug_info : ℕ → List ℕ
debug_info n = counted (front ++ for_each_function function_entry n ++ 0 ∷ [])
