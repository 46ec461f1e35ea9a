use Rattle.std.proofs.Common.{◌≡◌, None}
use Rattle.std.specs.Prelude.{find}
use Rattle.refusal.specs.Place.{first_bad}
use Rattle.elf_model.specs.Sections.{used, is_named}
use Rattle.elf_sections.specs.Tables.{judged}
use Rattle.elf_sections.proofs.elf.Elf.find.Given as goal

-- The headers that are left answer as all of them do, and none of them is bad.
abbrev pub invariant-loop-header : goal.invariant-loop-header
invariant-loop-header l =
    let file = l.self-inside.file.now in record {
      same : find (is_named file l.name) (used l.header-iterator) ≡ find (is_named file l.name) (used l.initial.header-iterator);
      good : first_bad (judged file l.header-iterator) ≡ None;
    }
