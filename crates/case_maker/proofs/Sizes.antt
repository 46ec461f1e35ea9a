-- How long the sections are.
use Rattle.case_model.proofs.SizeLemmas.{length-debug_abbrev, length-debug_info, length-debug_line}

pub ruleset section_sizes = (length-debug_abbrev, length-debug_info, length-debug_line)
