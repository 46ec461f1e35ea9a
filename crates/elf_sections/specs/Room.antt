-- The room that a judged section header table has.
use Rattle.std.specs.Prelude.{◌≡◌, ◌+◌, ◌*◌, ◌≤◌, List, ℕ, length}
use Rattle.elf_model.specs.Fields.{e_shoff}
use Rattle.elf_model.specs.Tables.{section_count}

-- The section headers are within the file, and header 0 at least where it is read.
pub record HasRoom (file : List ℕ) (count : ℕ) : Type 0 where
  pub counted : count ≡ section_count file
  pub first : e_shoff file + 64 ≤ length file
  pub all : e_shoff file + 64 * count ≤ length file
