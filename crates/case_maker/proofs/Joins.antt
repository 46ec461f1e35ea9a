-- The sections and texts as the parts that are written one behind the other.
use Rattle.std.proofs.Common.{◌≡◌, ℕ, ◌+◌, ◌-◌, ◌*◌, List, [], ◌∷◌, ◌++◌, length, take, drop, refl, sym, ap, ◌∙◌, append_assoc, append-nil, arith, length-append, length-drop}
use Rattle.std.proofs.lemmas.List.{take_all}
use Rattle.std.specs.Prelude.{codes, replicate}
use Rattle.std.specs.List.{concat}
use Rattle.std.proofs.lemmas.Grind.{replicate_next}
use Rattle.std.proofs.lemmas.List.Folds.{concat-append}
use Rattle.text_model.specs.Numbers.{hex_text}
use Rattle.case_model.specs.Bytes.{u16_bytes, u32_bytes, for_each_function}
use Rattle.case_model.specs.Info.{front, function_entry, debug_info}
use Rattle.case_model.specs.Line.{header_fields, sequence, debug_line}
use Rattle.case_model.specs.Elf.{empty_header, section_header, section_headers, line_at, shstrtab_at}
use Rattle.case_model.specs.Samples.{branch, often_sample, once_sample}
use Rattle.case_model.proofs.EachLemmas.{for_each_function-more, length-for_each_function}
use Rattle.case_model.proofs.SizeLemmas.{length-debug_abbrev, length-front, length-function_entry, length-header_fields, length-sequence}

length-u32_bytes : (n : ℕ) → length (u32_bytes n) ≡ 4
unfolding u32_bytes
length-u32_bytes n = refl

length-u16_bytes : (n : ℕ) → length (u16_bytes n) ≡ 2
unfolding u16_bytes
length-u16_bytes n = refl

length-body : (n : ℕ) → length (front ++ for_each_function function_entry n ++ 0 ∷ []) ≡ 17 + 42 * n
length-body n =
    simp length-append (omega (arith, length-front, length-for_each_function function_entry 42 length-function_entry n))

length-program : (n : ℕ) → length (u16_bytes 4 ++ (u32_bytes (length header_fields) ++ header_fields) ++ for_each_function sequence n) ≡ 26 + 27 * n
length-program n =
    simp length-append
    (omega (arith, length-u16_bytes 4, length-u32_bytes (length header_fields), length-header_fields, length-for_each_function sequence 27 length-sequence n))

pub debug_info-is : (n : ℕ) → debug_info n ≡ u32_bytes (17 + 42 * n) ++ (front ++ (for_each_function function_entry n ++ 0 ∷ []))
unfolding debug_info
debug_info-is n =
    ap (λ size. u32_bytes size ++ (front ++ for_each_function function_entry n ++ 0 ∷ [])) (length-body n) ∙ simp append_assoc

pub debug_line-is : (n : ℕ) → debug_line n ≡ u32_bytes (26 + 27 * n) ++ (u16_bytes 4 ++ (u32_bytes 20 ++ (header_fields ++ for_each_function sequence n)))
unfolding debug_line
debug_line-is n =
    ap (λ size. u32_bytes size ++ (u16_bytes 4 ++ (u32_bytes (length header_fields) ++ header_fields) ++ for_each_function sequence n)) (length-program n)
    ∙ ap (λ size. u32_bytes (26 + 27 * n) ++ (u16_bytes 4 ++ (u32_bytes size ++ header_fields) ++ for_each_function sequence n)) length-header_fields
    ∙ simp append_assoc

-- before the first function nothing stands there
pub none_yet : (start : List ℕ) (part : ℕ → List ℕ) → start ≡ start ++ for_each_function part 0
unfolding for_each_function
none_yet start part = sym (append-nil start)

-- one function more
pub one_more : (start before after : List ℕ) (part : ℕ → List ℕ) (k : ℕ) → before ≡ start ++ for_each_function part k → after ≡ before ++ part k
    → after ≡ start ++ for_each_function part (k + 1)
one_more start before after part k done pushed =
    pushed ∙ ap (λ front. front ++ part k) done ∙ append_assoc start (for_each_function part k) (part k)
    ∙ ap (λ rest. start ++ rest) (sym (for_each_function-more part k))

-- one line more
pub line_more : (start before after line : List ℕ) (k : ℕ) → before ≡ start ++ concat (replicate k line) → after ≡ before ++ line
    → after ≡ start ++ concat (replicate (k + 1) line)
line_more start before after line k done pushed =
    pushed ∙ ap (λ front. front ++ line) done ∙ append_assoc start (concat (replicate k line)) line
    ∙ ap (λ rest. start ++ rest) (sym (ap concat (replicate_next k line) ∙ concat-append (replicate k line) (line ∷ []) ∙ ap (λ last. concat (replicate k line) ++ last) (append-nil line)))

-- a sample with the 0x that its first number has not
often_sample-is : (here there : ℕ)
    → hex_text (there + 0x36) ++ branch (here + 0x38, there + 0x36) ++ branch (here + 0xc, here + 0x20) ++ branch (there + 0x34, here) ++ 10 ∷ []
    ≡ codes "0x" ++ often_sample here there
unfolding often_sample hex_text
often_sample-is here there = simp append_assoc refl

once_sample-is : (here there : ℕ)
    → hex_text (there + 0x36) ++ branch (here + 0x38, there + 0x36) ++ branch (here + 0x4, here + 0x10) ++ 10 ∷ []
    ≡ codes "0x" ++ once_sample here there
unfolding once_sample hex_text
once_sample-is here there = simp append_assoc refl

joined_4 : (old a b c d : List ℕ) → old ++ a ++ b ++ c ++ d ≡ old ++ (a ++ (b ++ (c ++ d)))
joined_4 old a b c d = simp append_assoc

joined_5 : (old a b c d e : List ℕ) → old ++ a ++ b ++ c ++ d ++ e ≡ old ++ (a ++ (b ++ (c ++ (d ++ e))))
joined_5 old a b c d e = simp append_assoc

-- a sample without the first two bytes of its text
pub tail_of : (text : List ℕ) → take (length text - 2) (drop 2 text) ≡ drop 2 text
tail_of text = take_all (length text - 2) (drop 2 text) (omega (arith, length-drop 2 text))

pub often-written : (here there : ℕ) (l0 l1 l2 l3 l4 l5 : List ℕ)
    → l0 ≡ [] → l1 ≡ l0 ++ hex_text (there + 0x36) → l2 ≡ l1 ++ branch (here + 0x38, there + 0x36) → l3 ≡ l2 ++ branch (here + 0xc, here + 0x20)
    → l4 ≡ l3 ++ branch (there + 0x34, here) → l5 ≡ l4 ++ 10 ∷ []
    → l5 ≡ codes "0x" ++ often_sample here there
often-written here there l0 l1 l2 l3 l4 l5 a b c d e f =
    let start : l1 ≡ hex_text (there + 0x36) = b ∙ ap (λ front. front ++ hex_text (there + 0x36)) a in
    let put = often_sample-is here there in
    cc

pub once-written : (here there : ℕ) (l0 l1 l2 l3 l4 : List ℕ)
    → l0 ≡ [] → l1 ≡ l0 ++ hex_text (there + 0x36) → l2 ≡ l1 ++ branch (here + 0x38, there + 0x36) → l3 ≡ l2 ++ branch (here + 0x4, here + 0x10)
    → l4 ≡ l3 ++ 10 ∷ []
    → l4 ≡ codes "0x" ++ once_sample here there
once-written here there l0 l1 l2 l3 l4 a b c d e =
    let start : l1 ≡ hex_text (there + 0x36) = b ∙ ap (λ front. front ++ hex_text (there + 0x36)) a in
    let put = once_sample-is here there in
    cc

pub info-written : (old sized fronted filled out : List ℕ) (n k size : ℕ)
    → sized ≡ old ++ u32_bytes size → size ≡ 17 + 42 * n → fronted ≡ sized ++ front
    → filled ≡ fronted ++ for_each_function function_entry k → k ≡ n → out ≡ filled ++ 0 ∷ []
    → out ≡ old ++ debug_info n
info-written old sized fronted filled out n k size a b c d e f =
    let put : old ++ u32_bytes (17 + 42 * n) ++ front ++ for_each_function function_entry n ++ 0 ∷ [] ≡ old ++ debug_info n =
    joined_4 old _ _ _ _ ∙ ap (λ rest. old ++ rest) (sym (debug_info-is n)) in
    cc

pub line-written : (old sized versioned headed fronted filled : List ℕ) (n k size : ℕ)
    → sized ≡ old ++ u32_bytes size → size ≡ 26 + 27 * n → versioned ≡ sized ++ u16_bytes 4 → headed ≡ versioned ++ u32_bytes 20
    → fronted ≡ headed ++ header_fields → filled ≡ fronted ++ for_each_function sequence k → k ≡ n
    → filled ≡ old ++ debug_line n
line-written old sized versioned headed fronted filled n k size a b c d e f g =
    let put : old ++ u32_bytes (26 + 27 * n) ++ u16_bytes 4 ++ u32_bytes 20 ++ header_fields ++ for_each_function sequence n ≡ old ++ debug_line n =
    joined_5 old _ _ _ _ _ ∙ ap (λ rest. old ++ rest) (sym (debug_line-is n)) in
    cc

section_headers-is : (n : ℕ) → section_headers n
    ≡ empty_header ++ (section_header 1 1 120 46 ++ (section_header 15 1 166 (length (debug_info n))
    ++ (section_header 27 1 (line_at n) (length (debug_line n)) ++ section_header 39 3 (shstrtab_at n) 49)))
unfolding section_headers
section_headers-is n = rw length-debug_abbrev (simp append_assoc)

pub headers-written : (old o0 o1 o2 o3 o4 : List ℕ) (n info line lines names : ℕ)
    → o0 ≡ old ++ empty_header → o1 ≡ o0 ++ section_header 1 1 120 46
    → o2 ≡ o1 ++ section_header 15 1 166 info → info ≡ length (debug_info n)
    → o3 ≡ o2 ++ section_header 27 1 line lines → line ≡ line_at n → lines ≡ length (debug_line n)
    → o4 ≡ o3 ++ section_header 39 3 names 49 → names ≡ shstrtab_at n
    → o4 ≡ old ++ section_headers n
headers-written old o0 o1 o2 o3 o4 n info line lines names a b c d e f g h i =
    let put : old ++ empty_header ++ section_header 1 1 120 46 ++ section_header 15 1 166 (length (debug_info n)) ++ section_header 27 1 (line_at n) (length (debug_line n))
    ++ section_header 39 3 (shstrtab_at n) 49 ≡ old ++ section_headers n =
    joined_5 old _ _ _ _ _ ∙ ap (λ rest. old ++ rest) (sym (section_headers-is n)) in
    cc
