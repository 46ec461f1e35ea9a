-- How long the parts of a binary are, and where each stands.
use Rattle.std.proofs.Common.{◌≡◌, ℕ, ◌+◌, ◌-◌, ◌*◌, List, [], ◌∷◌, ◌++◌, length, take, drop, refl, ap, subst, ◌∙◌, append_assoc, append-nil, arith, length-append}
use Rattle.std.proofs.Math.Seq.{drop-append_seam, take-append_seam}
use Rattle.case_model.specs.Bytes.{u16_bytes, u32_bytes, u64_bytes, for_each_function}
use Rattle.case_model.specs.Functions.{name}
use Rattle.case_model.specs.Abbrev.{debug_abbrev, unit_kind, abstract_kind, function_kind, inlined_kind}
use Rattle.case_model.specs.Info.{front, debug_info, function_entry}
use Rattle.case_model.specs.Line.{header_fields, debug_line, sequence, extended}
use Rattle.case_model.specs.Elf.{file_header, e_ident, program_fields, count_fields, program_header, section_header, empty_header, shstrtab, section_headers, binary}
use Rattle.case_model.specs.Laws.{HasSizes, IsWellPlaced, bytes_at}
use Rattle.case_model.proofs.EachLemmas.{length-for_each_function}

pub length-function_entry : (k : ℕ) → length (function_entry k) ≡ 42
unfolding function_entry u16_bytes u32_bytes u64_bytes name
length-function_entry k = refl

pub length-sequence : (k : ℕ) → length (sequence k) ≡ 27
unfolding sequence u16_bytes u32_bytes u64_bytes extended
length-sequence k = refl

pub length-debug_abbrev : length debug_abbrev ≡ 46
unfolding debug_abbrev unit_kind abstract_kind function_kind inlined_kind
length-debug_abbrev = refl

pub length-debug_info : (n : ℕ) → length (debug_info n) ≡ 21 + 42 * n
unfolding debug_info u16_bytes u32_bytes u64_bytes front
length-debug_info n = omega (arith, length-append (for_each_function function_entry n) (0 ∷ []), length-for_each_function function_entry 42 length-function_entry n)

pub length-debug_line : (n : ℕ) → length (debug_line n) ≡ 30 + 27 * n
unfolding debug_line u16_bytes u32_bytes u64_bytes header_fields
length-debug_line n = omega (arith, length-for_each_function sequence 27 length-sequence n)

pub length-header_fields : length header_fields ≡ 20
unfolding header_fields
length-header_fields = refl

pub length-front : length front ≡ 16
unfolding front u16_bytes u32_bytes
length-front = refl

pub length-file_header : (n : ℕ) → length (file_header n) ≡ 64
unfolding file_header u16_bytes u32_bytes u64_bytes e_ident program_fields count_fields
length-file_header n = refl

pub length-program_header : (n : ℕ) → length (program_header n) ≡ 56
unfolding program_header u16_bytes u32_bytes u64_bytes
length-program_header n = refl

length-section_header : (name type offset size : ℕ) → length (section_header name type offset size) ≡ 64
unfolding section_header u32_bytes u64_bytes
length-section_header name type offset size = refl

pub length-section_headers : (n : ℕ) → length (section_headers n) ≡ 320
unfolding section_headers empty_header section_header u32_bytes u64_bytes
length-section_headers n = refl

length-binary : (n : ℕ) → length (binary n) ≡ 586 + 69 * n
unfolding binary
length-binary n =
    simp length-append (omega (arith, length-file_header n, length-program_header n, length-debug_abbrev, length-debug_info n, length-debug_line n, length-section_headers n))

pub sizes : (n : ℕ) → HasSizes n
sizes n = record {
  abbrev_size = length-debug_abbrev;
  info_size = length-debug_info n;
  line_size = length-debug_line n;
  names_size = refl;
  whole_size = length-binary n;
}

-- a part in the middle
middle : (before part rest : List ℕ) → bytes_at (before ++ part ++ rest) (length before) (length part) ≡ part
middle before part rest =
    ap (λ file. take (length before + length part - length before) (drop (length before) file)) (append_assoc before part rest)
    ∙ ap (λ n. take n (drop (length before) (before ++ (part ++ rest)))) (omega arith)
    ∙ ap (take (length part)) (drop-append_seam before (part ++ rest)) ∙ take-append_seam part rest

-- the same, where the file is put together in another way
placed : (file before part rest : List ℕ) (at size : ℕ) → before ++ part ++ rest ≡ file → length before ≡ at → length part ≡ size → bytes_at file at size ≡ part
placed file before part rest at size joined before_len part_len =
    subst (λ (whole : List ℕ). bytes_at whole at size ≡ part) joined
    (subst (λ (i : ℕ). bytes_at (before ++ part ++ rest) i size ≡ part) before_len
    (subst (λ (j : ℕ). bytes_at (before ++ part ++ rest) (length before) j ≡ part) part_len (middle before part rest)))

-- the parts in front of each section
headers : ℕ → List ℕ
headers n = file_header n ++ program_header n

length-headers : (n : ℕ) → length (headers n) ≡ 120
unfolding headers
length-headers n = simp length-append (omega (arith, length-file_header n, length-program_header n))

pub places : (n : ℕ) → IsWellPlaced n
unfolding binary headers
places n = record {
  abbrev_there = placed (binary n) (headers n) debug_abbrev (debug_info n ++ (debug_line n ++ (shstrtab ++ section_headers n))) _ _ (simp append_assoc) (length-headers n) refl;
  info_there = placed (binary n) (headers n ++ debug_abbrev) (debug_info n) (debug_line n ++ (shstrtab ++ section_headers n)) _ _ (simp append_assoc)
      (simp length-append (omega (arith, length-file_header n, length-program_header n))) refl;
  line_there = placed (binary n) (headers n ++ debug_abbrev ++ debug_info n) (debug_line n) (shstrtab ++ section_headers n) _ _ (simp append_assoc)
      (simp length-append (omega (arith, length-file_header n, length-program_header n))) refl;
  names_there = placed (binary n) (headers n ++ debug_abbrev ++ debug_info n ++ debug_line n) shstrtab (section_headers n) _ _ refl
      (simp length-append (omega (arith, length-file_header n, length-program_header n))) refl;
  headers_there = placed (binary n) (headers n ++ debug_abbrev ++ debug_info n ++ debug_line n ++ shstrtab) (section_headers n) [] _ _ (append-nil _)
      (simp length-append (omega (arith, length-file_header n, length-program_header n))) (length-section_headers n);
}
