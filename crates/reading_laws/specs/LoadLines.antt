-- Which lines are load lines, by what they are made of.
use Rattle.std.specs.Prelude.{◌≡◌, ◌<◌, ◌↔◌, ℕ, Bool, true, false, ◌==◌, List, ◌++◌, length, codes, Some}
use Rattle.std.specs.List.{list_all, list_any}
use Rattle.text_model.specs.Fields.{is_blank}
use Rattle.text_model.specs.LineTests.{is_comment}
use Rattle.sample_model.specs.Line.{address_of}
use Rattle.sample_model.specs.Loads.{LoadLine, is_field_end, load_line_of, offset_of}

-- These bytes stand in a text, and behind them stands a rest that passes a test. They stand so nowhere before.
pub record StandFirst (passes : List ℕ → Bool) (bytes text rest : List ℕ) : Type 0 where
  pub front : List ℕ
  pub text_is : text ≡ front ++ bytes ++ rest
  pub passed : passes rest ≡ true
  pub first : (shorter other : List ℕ) → length shorter < length front → text ≡ shorter ++ bytes ++ other
      → passes other ≡ false

-- A text begins with a field, behind blanks or none, and the rest goes on behind the whole of it.
pub record BeginsWithField (text field rest : List ℕ) : Type 0 where
  pub blanks : List ℕ
  pub text_is : text ≡ blanks ++ field ++ rest
  pub blank : list_all is_blank blanks ≡ true
  pub unbroken : list_any is_blank field ≡ false
  pub filled : 0 < length field
  pub whole : is_field_end rest ≡ true

-- A field is [0xSTART(0xLEN), with no other bracket of the same kind.
pub record SpellsExtent (field : List ℕ) (start len : ℕ) : Type 0 where
  pub from : List ℕ
  pub count : List ℕ
  pub field_is : field ≡ codes "[" ++ from ++ codes "(" ++ count ++ codes ")"
  pub one_opens : list_any (λ b. b == 40) from ≡ false
  pub one_closes : list_any (λ b. b == 41) count ≡ false
  pub start_is : address_of from ≡ Some start
  pub len_is : address_of count ≡ Some len

-- A name is what stands behind blanks or none, and begins with no blank.
pub record SpellsName (text name : List ℕ) : Type 0 where
  pub blanks : List ℕ
  pub text_is : text ≡ blanks ++ name
  pub blank : list_all is_blank blanks ≡ true
  pub filled : 0 < length name
  pub begins : is_field_end name ≡ false

-- A line is a load line: no comment, and behind its mark fields up to one that ends in a colon, the addresses, @, the
-- offset, fields up to one that ends in ]:, a field, and the name.
pub record SpellsLoad (line : List ℕ) (load : LoadLine) : Type 0 where
  pub no_comment : is_comment line ≡ false
  pub at_mark : List ℕ
  pub mark : StandFirst (λ _. true) (codes "PERF_RECORD_MMAP2 ") line at_mark
  pub at_extent : List ℕ
  pub process : StandFirst is_field_end (codes ":") at_mark at_extent
  pub extent : List ℕ
  pub behind_extent : List ℕ
  pub addresses : BeginsWithField at_extent extent behind_extent
  pub extent_is : SpellsExtent extent load.start load.len
  pub at_offset : List ℕ
  pub at : BeginsWithField behind_extent (codes "@") at_offset
  pub digits : List ℕ
  pub behind_offset : List ℕ
  pub offset : BeginsWithField at_offset digits behind_offset
  pub offset_is : offset_of digits ≡ Some load.offset
  pub at_rights : List ℕ
  pub device : StandFirst is_field_end (codes "]:") behind_offset at_rights
  pub rights : List ℕ
  pub at_name : List ℕ
  pub flags : BeginsWithField at_rights rights at_name
  pub name : SpellsName at_name load.name

-- The load lines are these, and they tell these loads.
abbrev pub LoadLinesAreSpelled : Type 0
LoadLinesAreSpelled = (line : List ℕ) (load : LoadLine) → (load_line_of line ≡ Some load) ↔ SpellsLoad line load
