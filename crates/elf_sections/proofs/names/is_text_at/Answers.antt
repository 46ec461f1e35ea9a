use Rattle.std.proofs.Common.{◌∙◌, sym}
use Rattle.elf_sections.proofs.Texts.{text-is_compared, text-is_other}
use Rattle.elf_sections.proofs.names.is_text_at.Goals as goal

pub returns-then-ne : goal.returns-then-ne
returns-then-ne c =
    let rest = c.in-Some.ensures.lookup.0 in
    let bytes = c.in-Some-get.ensures.lookup.0 in
    text-is_other c.args.table.now c.in-Some.rest.now c.in-Some-get.bytes.now c.args.name.now c.args.at c.memchr.result rest.2 bytes.2 bytes.1 c.memchr.ensures
    (sym c.ne.ensures ∙ c.if-ne.true)

pub returns : goal.returns
returns c =
    let rest = c.in-Some.ensures.lookup.0 in
    let bytes = c.in-Some-get.ensures.lookup.0 in
    c.eq.ensures ∙ text-is_compared c.args.table.now c.in-Some.rest.now c.in-Some-get.bytes.now c.args.name.now c.args.at c.memchr.result rest.2 bytes.2 bytes.1
    c.memchr.ensures (sym c.ne.ensures ∙ c.if-ne.false)
