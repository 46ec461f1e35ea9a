use Rattle.case_maker.proofs.Joins.{headers-written}
use Rattle.case_maker.proofs.elf.push_section_headers.Goals as goal

pub returns : goal.returns
returns c =
    headers-written _ _ _ _ _ _ _ _ _ _ _ c.in_ok-push_empty_header.ensures c.in_ok-push_section_header.ensures
    c.in_ok-push_section_header-2.ensures c.info_size.ensures.is
    c.in_ok-push_section_header-3.ensures c.line_at.ensures.is c.line_size.ensures.is
    c.in_ok-push_section_header-4.ensures c.names_at.ensures.is
