use Rattle.std.proofs.Common.{refl}
use Rattle.binary_places.proofs.SectionLemmas.{ranges-are, stop}
use Rattle.binary_places.proofs.sections.Sections.find.Goals as goal

pub returns-in_err-abbrev : goal.returns-in_err-abbrev
returns-in_err-abbrev c = stop _ _ c.in_err-abbrev.field-0.0 _ (rw c.in_err-abbrev.ensures refl) c.from_residual.ensures.1

pub returns-in_err-info : goal.returns-in_err-info
returns-in_err-info c = rw c.in_ok-abbrev.ensures.0 (stop _ _ c.in_err-info.field-0.0 _ (rw c.in_err-info.ensures refl) c.from_residual-in_err-info.ensures.1)

pub returns-in_err-line : goal.returns-in_err-line
returns-in_err-line c = rw (c.in_ok-abbrev.ensures.0, c.in_ok-info.ensures.0) (stop _ _ c.in_err-line.field-0.0 _ (rw c.in_err-line.ensures refl) c.from_residual-in_err-line.ensures.1)

pub returns-in_err-str : goal.returns-in_err-str
returns-in_err-str c = rw (c.in_ok-abbrev.ensures.0, c.in_ok-info.ensures.0, c.in_ok-line.ensures.0) (stop _ _ c.in_err-str.field-0.0 _ (rw c.in_err-str.ensures refl) c.from_residual-in_err-str.ensures.1)

pub returns-in_err-line_str : goal.returns-in_err-line_str
returns-in_err-line_str c = rw (c.in_ok-abbrev.ensures.0, c.in_ok-info.ensures.0, c.in_ok-line.ensures.0, c.in_ok-str.ensures.0) (stop _ _ c.in_err-line_str.field-0.0 _ (rw c.in_err-line_str.ensures refl) c.from_residual-in_err-line_str.ensures.1)

pub returns-in_err-str_offsets : goal.returns-in_err-str_offsets
returns-in_err-str_offsets c = rw (c.in_ok-abbrev.ensures.0, c.in_ok-info.ensures.0, c.in_ok-line.ensures.0, c.in_ok-str.ensures.0, c.in_ok-line_str.ensures.0) (stop _ _ c.in_err-str_offsets.field-0.0 _ (rw c.in_err-str_offsets.ensures refl) c.from_residual-in_err-str_offsets.ensures.1)

pub returns-in_err-addr : goal.returns-in_err-addr
returns-in_err-addr c = rw (c.in_ok-abbrev.ensures.0, c.in_ok-info.ensures.0, c.in_ok-line.ensures.0, c.in_ok-str.ensures.0, c.in_ok-line_str.ensures.0, c.in_ok-str_offsets.ensures.0) (stop _ _ c.in_err-addr.field-0.0 _ (rw c.in_err-addr.ensures refl) c.from_residual-in_err-addr.ensures.1)

pub returns-in_err-ranges : goal.returns-in_err-ranges
returns-in_err-ranges c = rw (c.in_ok-abbrev.ensures.0, c.in_ok-info.ensures.0, c.in_ok-line.ensures.0, c.in_ok-str.ensures.0, c.in_ok-line_str.ensures.0, c.in_ok-str_offsets.ensures.0, c.in_ok-addr.ensures.0) (stop _ _ c.in_err-ranges.field-0.0 _ (rw c.in_err-ranges.ensures refl) c.from_residual-in_err-ranges.ensures.1)

pub returns-in_err-rnglists : goal.returns-in_err-rnglists
returns-in_err-rnglists c = rw (c.in_ok-abbrev.ensures.0, c.in_ok-info.ensures.0, c.in_ok-line.ensures.0, c.in_ok-str.ensures.0, c.in_ok-line_str.ensures.0, c.in_ok-str_offsets.ensures.0, c.in_ok-addr.ensures.0, c.in_ok-ranges.ensures.0) (stop _ _ c.in_err-rnglists.field-0.0 _ (rw c.in_err-rnglists.ensures refl) c.from_residual-in_err-rnglists.ensures.1)

pub returns : goal.returns
returns c = rw (c.in_ok-abbrev.ensures.0, c.in_ok-info.ensures.0, c.in_ok-line.ensures.0, c.in_ok-str.ensures.0, c.in_ok-line_str.ensures.0, c.in_ok-str_offsets.ensures.0, c.in_ok-addr.ensures.0, c.in_ok-ranges.ensures.0, c.in_ok-rnglists.ensures.0) (
  refl,
  record {
    abbrev_is = c.in_ok-abbrev.ensures.1;
    info_is = c.in_ok-info.ensures.1;
    line_is = c.in_ok-line.ensures.1;
    ranges_are = ranges-are c.args.elf.now _ _ _ _ _ _ c.in_ok-ranges.ensures.1 c.in_ok-rnglists.ensures.1 c.in_ok-str.ensures.1 c.in_ok-line_str.ensures.1
        c.in_ok-str_offsets.ensures.1 c.in_ok-addr.ensures.1;
  },
)
