-- The definitions on worked values.
use Rattle.std.proofs.Common.{◌≡◌, ℕ, true, false, List, [], ◌∷◌, ◌++◌, refl, Some, None}
use Rattle.std.specs.Prelude.{Bool, Option, codes, replicate}
use Rattle.std.specs.List.{flat_map}
use Rattle.std.specs.Option.{option_map}
use Rattle.refusal.specs.declared.kind.Kind.TheVariants.{BadLine, LineTooLong, TooManyEntries, TooManyBranches, FileTooLarge}
use Rattle.load_model.specs.declared.load_segment.LoadSegment.{LoadSegment}
use Rattle.load_model.specs.Segments.{address_of_offset}
use Rattle.text_model.specs.Lines.{lines_of, ended_lines_of}
use Rattle.text_model.specs.Fields.{fields_of}
use Rattle.text_model.specs.Numbers.{number_of, prefixed_of}
use Rattle.sample_model.specs.Line.{address_of, is_ip, entry_of, is_sample, is_well_formed, branches_of_line}
use Rattle.sample_model.specs.declared.load.Load.{Load}
use Rattle.sample_model.specs.Loads.{LoadLine, load_line_of, extent_of, offset_of, behind_at, name_in}
use Rattle.sample_model.specs.Moves.{LoadMap, move_of, moved_ranges, branches_by, ranges_by}
use Rattle.sample_model.specs.Samples.{ranges_between, branches_of, ranges_of}
use Rattle.sample_model.specs.Judging.{cause_of_line, items_of_lines, judged_lines_of, first_bad_of_text, first_bad_of_piece, lines_before_bad}
use Rattle.sample_model.specs.Limits.{max_text_bytes}
use Rattle.sample_model.specs.Pairs.{distinct_pairs, times_of}

-- two samples, and their branches and ranges
sampled : List ℕ
sampled =
    codes "401036 0x401038/0x401036/P/-/-/1 0x40100c/0x401020/P/-/-/1 0x401034/0x401000/P/-/-/1\n"
    ++ codes "401036 0x401038/0x401036/P/-/-/1 0x401004/0x401010/P/-/-/1\n"

five_branches : branches_of sampled
    ≡ (0x401038, 0x401036) ∷ (0x40100c, 0x401020) ∷ (0x401034, 0x401000) ∷ (0x401038, 0x401036) ∷ (0x401004, 0x401010) ∷ []
unfolding sampled lines_of fields_of number_of prefixed_of address_of is_ip entry_of is_sample branches_of_line
five_branches = refl

three_ranges : ranges_of sampled ≡ (0x401020, 0x401038) ∷ (0x401000, 0x40100c) ∷ (0x401010, 0x401038) ∷ []
unfolding sampled lines_of fields_of number_of prefixed_of address_of is_ip entry_of is_sample branches_of_line ranges_between
three_ranges = refl

no_bad_place : first_bad_of_text 1 sampled ≡ None
unfolding sampled lines_of ended_lines_of fields_of number_of prefixed_of address_of is_ip entry_of is_sample is_well_formed branches_of_line cause_of_line items_of_lines judged_lines_of
no_bad_place = refl

second_line_bad : first_bad_of_text 1 (codes "401036 0x1/0x2\n401036 zz\n0x1\n") ≡ Some (record { file = 1; at = 2; kind = BadLine })
unfolding lines_of ended_lines_of fields_of number_of prefixed_of address_of is_ip entry_of is_sample is_well_formed branches_of_line cause_of_line items_of_lines judged_lines_of
second_line_bad = refl

not_samples : (is_sample (codes "# 0x1/0x2") ≡ false) × (is_sample (codes " 1 PERF_RECORD_MMAP2 2") ≡ false) × (is_sample (codes " \t") ≡ false) × (is_sample (codes " # 0x1/0x2") ≡ true)
    × (is_sample (codes "PERF_RECORD_ 0x1/0x2") ≡ false) × (is_sample (codes "PERF_RECORD 0x1/0x2") ≡ true)
unfolding is_sample fields_of
not_samples = (refl, refl, refl, refl, refl, refl)

entries : (entry_of (codes "0x1/0xfF") ≡ Some (1, 255)) × (entry_of (codes "0x1/0x2/P/-\r") ≡ Some (1, 2)) × (entry_of (codes "0x1") ≡ None) × (entry_of (codes "1/0x2") ≡ None)
    × (entry_of (codes "0x1/0x2\r") ≡ None) × (entry_of (codes "0x1/0x10000000000000000") ≡ None)
unfolding entry_of address_of prefixed_of number_of
entries = (refl, refl, refl, refl, refl, refl)

ips : (is_ip (codes "401036") ≡ true) × (is_ip (codes "0x401036") ≡ true) × (is_ip (codes "0x") ≡ false) × (is_ip (codes "10000000000000000") ≡ false)
unfolding is_ip address_of prefixed_of number_of
ips = (refl, refl, refl, refl)

-- a sample with its columns as perf aligns them
perf_line : List ℕ
perf_line = codes "          401036  0x401038/0xffffffff81e00010/P/-/-/0//-  0xffffffff81e01020/0x401036/M/-/-/12//-"

as_perf_prints : (branches_of perf_line ≡ (0x401038, 0xffffffff81e00010) ∷ (0xffffffff81e01020, 0x401036) ∷ [])
    × (ranges_of perf_line ≡ (0x401036, 0x401038) ∷ []) × (first_bad_of_text 1 perf_line ≡ None)
unfolding perf_line lines_of ended_lines_of fields_of number_of prefixed_of address_of is_ip entry_of is_sample is_well_formed branches_of_line ranges_between cause_of_line items_of_lines judged_lines_of
as_perf_prints = (refl, refl, refl)

ip_in_front_alone : (cause_of_line 0 (codes "401036") ≡ None) × (cause_of_line 0 (codes "0x") ≡ Some BadLine)
    × (cause_of_line 0 (codes "0x1/0x2 401036") ≡ Some BadLine) × (cause_of_line 0 (codes "1 2") ≡ Some BadLine)
    × (cause_of_line 0 (codes "00000000000000001 0x1/0x2") ≡ None) × (cause_of_line 0 (codes "10000000000000000 0x1/0x2") ≡ Some BadLine)
    × (cause_of_line 0 (codes "0X1 0x1/0x2") ≡ Some BadLine) × (cause_of_line 0 (codes "PERF_RECORD 0x1/0x2") ≡ Some BadLine)
unfolding fields_of number_of prefixed_of address_of is_ip entry_of is_sample is_well_formed branches_of_line cause_of_line
ip_in_front_alone = (refl, refl, refl, refl, refl, refl, refl, refl)

slashes : (entry_of (codes "0x1/0x2/") ≡ Some (1, 2)) × (entry_of (codes "0x1/0x2/P//-") ≡ Some (1, 2)) × (entry_of (codes "0x1//0x2") ≡ None)
    × (entry_of (codes "/0x1/0x2") ≡ None) × (entry_of (codes "0x1/") ≡ None) × (entry_of (codes "0x1/0x2P") ≡ None)
unfolding entry_of address_of prefixed_of number_of
slashes = (refl, refl, refl, refl, refl, refl)

-- A carriage return is a byte of the field in front of it, and a field of its own behind a blank or alone.
carriage_returns : (cause_of_line 0 (codes "0x1/0x2/P\r") ≡ None) × (cause_of_line 0 (codes "0x1/0x2\r") ≡ Some BadLine)
    × (cause_of_line 0 (codes "0x1/0x2/P \r") ≡ Some BadLine) × (cause_of_line 0 (codes "\r") ≡ Some BadLine) × (cause_of_line 0 (codes "#\r") ≡ None)
unfolding fields_of number_of prefixed_of address_of is_ip entry_of is_sample is_well_formed branches_of_line cause_of_line
carriage_returns = (refl, refl, refl, refl, refl)

longest_line : (cause_of_line 0 (replicate 65536 32) ≡ None) × (cause_of_line 0 (replicate 65537 32) ≡ Some LineTooLong)
    × (cause_of_line 0 (35 ∷ replicate 65536 32) ≡ Some LineTooLong) × (cause_of_line 0 (codes "zz" ++ replicate 65535 32) ≡ Some LineTooLong)
unfolding fields_of number_of prefixed_of address_of is_ip entry_of is_sample is_well_formed branches_of_line cause_of_line
longest_line = (refl, refl, refl, refl)

-- a line of n entries
entries_of : ℕ → List ℕ
entries_of n = flat_map (λ field. field) (replicate n (codes " 0x1/0x2"))

most_entries : (cause_of_line 0 (codes "401036" ++ entries_of 1024) ≡ None) × (cause_of_line 0 (entries_of 1025) ≡ Some TooManyEntries)
    × (cause_of_line 0 (entries_of 1025 ++ codes " zz") ≡ Some BadLine) × (cause_of_line 4294967295 (entries_of 1025) ≡ Some TooManyEntries)
unfolding entries_of fields_of number_of prefixed_of address_of is_ip entry_of is_sample is_well_formed branches_of_line cause_of_line
most_entries = (refl, refl, refl, refl)

most_branches : (cause_of_line 4294967294 (codes "0x1/0x2") ≡ None) × (cause_of_line 4294967295 (codes "0x1/0x2") ≡ Some TooManyBranches)
    × (cause_of_line 4294967294 (codes "0x1/0x2 0x1/0x2") ≡ Some TooManyBranches) × (cause_of_line 4294967295 (codes "401036") ≡ None)
unfolding fields_of number_of prefixed_of address_of is_ip entry_of is_sample is_well_formed branches_of_line cause_of_line
most_branches = (refl, refl, refl, refl)

-- A text in pieces: an open rest is not judged, the line that a piece ends is, and the size only behind it.
pieces : (first_bad_of_piece 1 (codes "0x1/0x2\nz") 9 (codes "z") ≡ None)
    × (first_bad_of_piece 1 (codes "0x1/0x2\nz") 9 (codes "z\n0x3") ≡ Some (record { file = 1; at = 2; kind = BadLine }))
    × (first_bad_of_piece 1 (codes "0x1/0x2\nz") 2 (codes "z\nzz") ≡ Some (record { file = 1; at = 2; kind = BadLine }))
    × (first_bad_of_piece 1 (codes "0x1/0x2\nz") 1 (codes "z\nzz") ≡ Some (record { file = 1; at = max_text_bytes; kind = FileTooLarge }))
unfolding lines_of ended_lines_of fields_of number_of prefixed_of address_of is_ip entry_of is_sample is_well_formed branches_of_line cause_of_line items_of_lines
pieces = (refl, refl, refl, refl)

lines_before : (lines_before_bad 1 (codes "#" ∷ codes "zz" ∷ codes "1" ∷ []) ≡ codes "#" ∷ []) × (lines_before_bad 1 (codes "#" ∷ codes "1" ∷ []) ≡ codes "#" ∷ codes "1" ∷ [])
unfolding fields_of number_of prefixed_of address_of is_ip entry_of is_sample is_well_formed branches_of_line cause_of_line items_of_lines
lines_before = (refl, refl)

-- ---- load lines

-- what is read of a load line: its addresses, its offset and its name
told : List ℕ → Option (ℕ × ℕ × ℕ × List ℕ)
told line = option_map (λ (l : LoadLine). (l.start, l.len, l.offset, l.name)) (load_line_of line)

loads_as_perf_prints_them :
    (told (codes "x 7 PERF_RECORD_MMAP2 7/7: [0x7f0000000000(0x1000) @ 0 08:02 5 0]: r-xp /bin/x") ≡ Some (0x7f0000000000, 0x1000, 0, codes "/bin/x"))
    × (told (codes "app 811/812  5.25: PERF_RECORD_MMAP2 811/811: [0x55e000001000(0x2000) @ 0x1000 fd:01 917 3019]: r-xp /opt/a b ") ≡ Some (0x55e000001000, 0x2000, 0x1000, codes "/opt/a b "))
    × (told (codes "PERF_RECORD_MMAP2  a b:\t[0x10(0x0)\t@ 0x0 ]: r \t//anon\r") ≡ Some (0x10, 0, 0, codes "//anon\r"))
unfolding told load_line_of extent_of offset_of behind_at name_in address_of prefixed_of number_of
loads_as_perf_prints_them = (refl, refl, refl)

no_load_lines :
    (told (codes "#PERF_RECORD_MMAP2 7/7: [0x1(0x1) @ 0 ]: r /x") ≡ None)
    × (told (codes "PERF_RECORD_MMAP 7/7: [0x1(0x1) @ 0 ]: r /x") ≡ None)
    × (told (codes "PERF_RECORD_MMAP2 7/7 [0x1(0x1) @ 0 ]: r /x") ≡ None)
    × (told (codes "PERF_RECORD_MMAP2 7/7: x [0x1(0x1) @ 0 ]: r /x") ≡ None)
    × (told (codes "PERF_RECORD_MMAP2 7/7: [1(0x1) @ 0 ]: r /x") ≡ None)
    × (told (codes "PERF_RECORD_MMAP2 7/7: [0x1(0x1 @ 0 ]: r /x") ≡ None)
    × (told (codes "PERF_RECORD_MMAP2 7/7: [0x1(0x1)) @ 0 ]: r /x") ≡ None)
    × (told (codes "PERF_RECORD_MMAP2 7/7: [0x1(0x1) 0 ]: r /x") ≡ None)
    × (told (codes "PERF_RECORD_MMAP2 7/7: [0x1(0x1) @ 00 ]: r /x") ≡ None)
    × (told (codes "PERF_RECORD_MMAP2 7/7: [0x1(0x1) @ 0x10000000000000000 ]: r /x") ≡ None)
    × (told (codes "PERF_RECORD_MMAP2 7/7: [0x1(0x1) @ 0 ] r /x") ≡ None)
    × (told (codes "PERF_RECORD_MMAP2 7/7: [0x1(0x1) @ 0 ]: r \t") ≡ None)
unfolding told load_line_of extent_of offset_of behind_at name_in address_of prefixed_of number_of
no_load_lines = (refl, refl, refl, refl, refl, refl, refl, refl, refl, refl, refl, refl)

-- The first place of the mark counts, and what it does not go on to is no load line.
first_mark : told (codes "PERF_RECORD_MMAP2 x PERF_RECORD_MMAP2 7/7: [0x1(0x1) @ 0 ]: r /x") ≡ Some (1, 1, 0, codes "/x")
unfolding told load_line_of extent_of offset_of behind_at name_in address_of prefixed_of number_of
first_mark = refl

-- ---- moves

load : ℕ → ℕ → ℕ → Bool → Load
load start len offset is_wanted = record { start = start; len = len; offset = offset; is_wanted = is_wanted }

segments : List LoadSegment
segments = record { offset = 0x1000; vaddr = 0x401000; size = 0x1000 } ∷ record { offset = 0; vaddr = 0; size = 0x2000 } ∷ []

moves :
    (move_of segments (load 0x5000 0x1000 0x1000 true ∷ []) 0x5034 ≡ Some 0x401034)
    × (move_of segments (load 0x5000 0x1000 0x1000 true ∷ []) 0x6000 ≡ None)
    × (move_of segments (load 0x5000 0x1000 0x800 true ∷ []) 0x5000 ≡ Some 0x800)
    × (move_of segments (load 0x5000 0x9000 0 true ∷ []) 0x7000 ≡ None)
    × (move_of segments (load 0x5000 0x1000 0x1000 true ∷ load 0x5800 1 0 false ∷ []) 0x5800 ≡ None)
    × (move_of segments (load 0x5800 1 0 false ∷ load 0x5000 0x1000 0x1000 true ∷ []) 0x5800 ≡ Some 0x401800)
    × (move_of segments [] 0x5000 ≡ None)
unfolding load segments move_of address_of_offset
moves = (refl, refl, refl, refl, refl, refl, refl)

-- A program that was loaded, then one more, and foreign addresses; nothing is moved behind the sample.
moved_text : List ℕ
moved_text = codes "0x5004/0x5008\n1 PERF_RECORD_MMAP2 7/7: [0x5000(0x1000) @ 0x1000 08:02 5 0]: r-xp /bin/x\n0x5004/0x9 0x9/0x5000\n0x5034/0x5000 0x5020/0x5030\n"

x_loaded : LoadMap
x_loaded = record { name = codes "/bin/x"; segments = segments }

moved_samples :
    (branches_by (Some x_loaded) (lines_of moved_text) ≡ (0, 0) ∷ (0x401004, 0) ∷ (0, 0x401000) ∷ (0x401034, 0x401000) ∷ (0x401020, 0x401030) ∷ [])
    × (ranges_by (Some x_loaded) (lines_of moved_text) ≡ (0x401000, 0x401004) ∷ (0x401030, 0x401034) ∷ [])
    × (branches_by (Some (record x_loaded { name = codes "/bin/y" })) (lines_of moved_text) ≡ (0, 0) ∷ (0, 0) ∷ (0, 0) ∷ (0, 0) ∷ (0, 0) ∷ [])
    × (ranges_by (Some (record x_loaded { name = codes "/bin/y" })) (lines_of moved_text) ≡ (0, 0) ∷ (0, 0) ∷ [])
unfolding moved_text x_loaded segments lines_of fields_of number_of prefixed_of address_of is_ip entry_of is_sample branches_of_line load_line_of extent_of offset_of behind_at name_in move_of address_of_offset moved_ranges
moved_samples = (refl, refl, refl, refl)

-- The newer end of a range alone is foreign, then the older one, then neither.
half_foreign : List ℕ
half_foreign =
    codes "1 PERF_RECORD_MMAP2 7/7: [0x5000(0x1000) @ 0x1000 08:02 5 0]: r-xp /bin/x\n"
    ++ codes "0x9/0x5004 0x5004/0x5008\n0x5004/0x5008 0x5004/0x9\n0x5008/0x9 0x9/0x5004\n"

foreign_by_one_end :
    ranges_by (Some x_loaded) (lines_of half_foreign) ≡ (0, 0) ∷ (0, 0) ∷ (0x401004, 0x401008) ∷ []
unfolding half_foreign x_loaded segments lines_of fields_of number_of prefixed_of address_of is_ip entry_of is_sample branches_of_line load_line_of extent_of offset_of behind_at name_in move_of address_of_offset moved_ranges
foreign_by_one_end = refl

-- a byte more than a text may have
largest_text : first_bad_of_piece 1 [] 0 (codes "#") ≡ Some (record { file = 1; at = 0x10000000000; kind = FileTooLarge })
unfolding lines_of ended_lines_of fields_of number_of prefixed_of address_of is_ip entry_of is_sample is_well_formed branches_of_line cause_of_line items_of_lines
largest_text = refl

up_to_the_size : first_bad_of_piece 1 [] 1 (codes "#") ≡ None
unfolding lines_of ended_lines_of fields_of number_of prefixed_of address_of is_ip entry_of is_sample is_well_formed branches_of_line cause_of_line items_of_lines
up_to_the_size = refl

-- ---- pairs

five_pairs : List (ℕ × ℕ)
five_pairs = (2, 1) ∷ (1, 3) ∷ (1, 2) ∷ (2, 1) ∷ (1, 3) ∷ []

three_distinct : distinct_pairs five_pairs ≡ (1, 2) ∷ (1, 3) ∷ (2, 1) ∷ []
unfolding five_pairs
three_distinct = refl

times : (times_of (1, 3) five_pairs ≡ 2) × (times_of (1, 2) five_pairs ≡ 1) × (times_of (3, 1) five_pairs ≡ 0) × (times_of (2, 3) five_pairs ≡ 0)
unfolding five_pairs
times = (refl, refl, refl, refl)
