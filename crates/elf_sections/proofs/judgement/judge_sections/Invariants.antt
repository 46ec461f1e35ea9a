use Rattle.std.proofs.Common.{◌≡◌}
use Rattle.refusal.specs.Place.{first_bad}
use Rattle.elf_sections.specs.Tables.{judged}
use Rattle.elf_sections.proofs.judgement.judge_sections.Given as goal

-- The headers that are left have the first bad place of all of them.
abbrev pub invariant-loop-header : goal.invariant-loop-header
invariant-loop-header l =
    first_bad (judged l.file l.header-iterator) ≡ first_bad (judged l.file l.initial.header-iterator)
