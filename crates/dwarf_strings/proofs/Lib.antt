pub mod SectionLemmas
