-- What `pgo-cold` writes of samples is what it writes of the text of their profile, with the report behind.
use Rattle.std.proofs.Common.{◌≡◌, ℕ, ◌+◌, ◌≤◌, ◌==◌, List, [], ◌∷◌, ◌++◌, length, map, filter, Option, None, Some, inl, inr, refl, sym, ap, ◌∙◌, subst}
use Rattle.std.specs.List.{AllByRecursion, filter_map, flat_map}
use Rattle.std.proofs.lemmas.Bool.{le-ltb}
use Rattle.refusal.specs.Place.{size_item}
use Rattle.io_edge.specs.Inputs.{Store}
use Rattle.text_model.specs.Lines.{lines_of}
use Rattle.cold_model.proofs.ColdLemmas.{lines_with_are_by_counts}
use Rattle.cold_model.specs.Cold.{cold_lines_of, lines_with, standing_lines_of, stands_in, told_cold}
use Rattle.list_lemmas.proofs.Among.{Among, among_either, among_filter_back, among_flat, among_flat_back, among_left, among_map, among_map_back, among_right}
use Rattle.profile_laws.proofs.CountLemmas.{Inside, append_inside, back, entered_inside, flat_inside, ordered_alike, recorded_inside}
use Rattle.profile_laws.proofs.TotalLemmas.{among_from_has, has_from_among}
use Rattle.profile_laws.specs.Counts.{CountTheSame}
use Rattle.profile_model.proofs.OrderLemmas.{ways_tell_apart}
use Rattle.profile_model.proofs.OrderedLemmas.{ordered_is_in_order}
use Rattle.profile_model.specs.Judging.{first_bad_of_profile}
use Rattle.profile_model.specs.Orders.{way_cmp}
use Rattle.profile_model.specs.Profile.{Profile, Line, function_line, body_line, call_line, entered, line_at, recorded, total_of_function, written}
use Rattle.profile_model.specs.Spelled.{What, Number, head, count, target, as_count, numbers_on, profile_by, spelled}
use Rattle.profile_model.specs.Text.{profile_text, text_of_lines}
use Rattle.profile_model.specs.Ways.{Way, beginnings}
use Rattle.profile_tree.proofs.ListLemmas.{kept_from}
use Rattle.profile_tree.proofs.StandingLemmas.{standing_lines_by_counts}
use Rattle.report_model.specs.Report.{Sampled, report_text}
use Rattle.sample_model.specs.Judging.{first_bad_of_text}
use Rattle.spelling_laws.proofs.BackLemmas.{numbers_read, text_is_read_back}
use Rattle.spelling_laws.proofs.LineLemmas.{numbers_told}
use Rattle.spelling_laws.specs.Told.{CanBeWritten, IsComment, text_with}
use Rattle.output_model.specs.Cold.{cold_lines, sampled_lines, sampled_text}
use Rattle.output_model.specs.Program.{Program, way_at}
use Rattle.output_model.specs.Sampled.{all_addresses, classes_of, profile_of}
use Rattle.command_model.specs.Answer.{answer_of_command, writes}
use Rattle.command_model.specs.Command.{cold, cold_profile, profile}
use Rattle.command_model.specs.Files.{file_at, first_bad_of_profile_text, max_profile_bytes}
use Rattle.command_model.specs.Options.{Options}
use Rattle.binary_model.specs.Binary.{first_bad_of_binary}
use Rattle.command_laws.specs.Cold.{ColdIsOfBoth}
use Rattle.command_laws.proofs.AnswerLemmas.{has_file, same_contents}
use Rattle.command_laws.proofs.LineLemmas.{report_comments}
use Rattle.command_laws.proofs.MergedLemmas.{can_be_told, output_is, program_in, sampled_in}

-- ---- lines that stand already

-- what begins a beginning begins the whole
begins : {T : Type 0} (z w v : List T) → Among z (beginnings w) → Among w (beginnings v) → Among z (beginnings v)
begins z w [] h g = absurd g
begins {T} z w (s ∷ way) h g = elim g as (λ _. Among z (beginnings (s ∷ way))) [
  | inl e ↦ elim (subst (λ v. Among z (beginnings v)) e h) as (λ _. Among z (beginnings (s ∷ way))) [ inl q ↦ inl q | inr r ↦ absurd r ]
  | inr r ↦
      let from = among_map_back (λ (front : List T). s ∷ front) w (beginnings way) r in
      elim (subst (λ v. Among z (beginnings v)) from.2 h) as (λ _. Among z (beginnings (s ∷ way))) [
        | inl q ↦ inl q
        | inr k ↦
            let one = among_map_back (λ (front : List T). s ∷ front) z (beginnings from.0) k in
            inr (subst (λ v. Among v (map (λ front. s ∷ front) (beginnings way))) (sym one.2)
            (among_map (λ (front : List T). s ∷ front) one.0 (beginnings way) (begins one.0 from.0 way one.1 from.1)))
      ]
]

-- Lines that stand there already stand there once.
already : (q : Profile) (told ways : List Way) → Inside told (flat_map beginnings (recorded q ++ entered q)) → lines_with (told ++ ways) q ≡ lines_with ways q
unfolding lines_with Inside
already q told ways inside =
    let cmp = way_cmp (total_of_function q) in
    let t = ways_tell_apart (total_of_function q) in
    let more : List Way = recorded q ++ (entered q ++ (told ++ ways)) in
    let less : List Way = recorded q ++ (entered q ++ ways) in
    let own : (v : Way) → Among v (recorded q ++ entered q) → Among v less = λ v h.
    elim (among_either v (recorded q) (entered q) h) as (λ _. Among v less) [
      | inl l ↦ among_left v (recorded q) (entered q ++ ways) l
      | inr r ↦ among_right v (recorded q) (entered q ++ ways) (among_left v (entered q) ways r)
    ] in
    let kept : (x v : Way) → Among v more → Among x (beginnings v) → Among x (flat_map beginnings less) = λ x v h b.
    elim (among_either v (recorded q) (entered q ++ (told ++ ways)) h) as (λ _. Among x (flat_map beginnings less)) [
      | inl l ↦ among_flat beginnings x v less (among_left v (recorded q) (entered q ++ ways) l) b
      | inr r ↦ elim (among_either v (entered q) (told ++ ways) r) as (λ _. Among x (flat_map beginnings less)) [
        | inl l ↦ among_flat beginnings x v less (among_right v (recorded q) (entered q ++ ways) (among_left v (entered q) ways l)) b
        | inr k ↦ elim (among_either v told ways k) as (λ _. Among x (flat_map beginnings less)) [
          | inl l ↦
              let found = among_flat_back beginnings v (recorded q ++ entered q) (inside v l) in
              among_flat beginnings x found.0 less (own found.0 found.1) (begins x v found.0 b found.2)
          | inr w ↦ among_flat beginnings x v less (among_right v (recorded q) (entered q ++ ways) (among_right v (entered q) ways w)) b
        ]
      ]
    ] in
    ap (map (line_at q))
    (ordered_alike cmp t (flat_map beginnings more) (flat_map beginnings less)
    (λ x h. let found = among_flat_back beginnings x more h in kept x found.0 found.1 found.2)
    (flat_inside beginnings less more
    (append_inside (recorded q) (entered q ++ ways) (recorded q) (entered q ++ (told ++ ways)) (λ x h. h)
    (append_inside (entered q) ways (entered q) (told ++ ways) (λ x h. h) (λ x h. among_right x told ways h)))))

-- ---- the counts of 0 in a profile's text

some_way : (x y : Way × ℕ) → Some x ≡ Some y → y.0 ≡ x.0
some_way x y e = sym (ap (λ (c : Way × ℕ). c.0) (inner e))
  where
    inner : Some x ≡ Some y → x ≡ y
    inner e = cc

none_there : (y : Way × ℕ) → None ≡ Some y → ⊥
none_there y e = cc

-- a count on a line is that of its way
count_on : (n : ℕ) (way w : Way) (t : ℕ) (line : Line) (number : Number) → Among number (numbers_on n way line) → as_count number.what number.times ≡ Some (w, t) → w ≡ way
count_on n way w t (function_line name total entered) number h e = elim h as (λ _. w ≡ way) [
  | inl q ↦ absurd (none_there (w, t) (sym (ap (λ (x : Number). as_count x.what x.times) q) ∙ e))
  | inr r ↦ absurd r
]
count_on n way w t (body_line depth offset disc times targets) number h e = elim h as (λ _. w ≡ way) [
  | inl q ↦ some_way (way, times) (w, t) (sym (ap (λ (x : Number). as_count x.what x.times) q) ∙ e)
  | inr r ↦
      let from = among_map_back (λ (called : List ℕ × ℕ). record { line = n; what = target way called.0; times = called.1 }) number targets r in
      absurd (none_there (w, t) (sym (ap (λ (x : Number). as_count x.what x.times) from.2) ∙ e))
]
count_on n way w t (call_line depth offset disc name total) number h e = absurd h

counts_on : (p : Profile) (n : ℕ) (ways : List Way) (w : Way) (t : ℕ) (number : Number) → Among number (numbers_told p n ways) → as_count number.what number.times ≡ Some (w, t) → Among w ways
counts_on p n [] w t number h e = absurd h
counts_on p n (way ∷ ways) w t number h e =
    elim (among_either number (numbers_on n way (line_at p way)) (numbers_told p (n + 1) ways) h) as (λ _. Among w (way ∷ ways)) [
      | inl l ↦ inl (count_on n way w t (line_at p way) number l e)
      | inr r ↦ inr (counts_on p (n + 1) ways w t number r e)
    ]

told_written : (p : Profile) (comments : List (List ℕ)) → CanBeWritten p → AllByRecursion IsComment comments → Inside (told_cold (spelled (text_with p comments))) (written p)
unfolding profile_by Inside
told_written p comments can passed w h =
    let told = subst (λ (numbers : List Number). Among w (told_cold (profile_by numbers))) (numbers_read p comments can passed) h in
    let numbers = numbers_told p 1 (written p) in
    let counts = filter_map (λ (number : Number). as_count number.what number.times) numbers in
    let one = among_map_back (λ (c : Way × ℕ). c.0) w (filter (λ (c : Way × ℕ). c.1 == 0) counts) told in
    let kept = among_filter_back (λ (c : Way × ℕ). c.1 == 0) one.0 counts one.1 in
    let from = kept_from (λ (number : Number). as_count number.what number.times) one.0 numbers kept.1 in
    subst (λ v. Among v (written p)) (sym one.2) (counts_on p 1 (written p) one.0.0 one.0.1 from.0 from.1 from.2)

written_begins : (p : Profile) → Inside (written p) (flat_map beginnings (recorded p ++ entered p))
unfolding Inside
written_begins p w h =
    let cmp = way_cmp (total_of_function p) in
    let t = ways_tell_apart (total_of_function p) in
    let items = flat_map beginnings (recorded p ++ entered p) in
    among_from_has cmp t w items (sym ((ordered_is_in_order cmp t items).same w) ∙ has_from_among cmp t w (written p) h)

told_there : (p : Profile) (comments : List (List ℕ)) → CanBeWritten p → AllByRecursion IsComment comments → CountTheSame (spelled (text_with p comments)) p
    → Inside (told_cold (spelled (text_with p comments))) (flat_map beginnings (recorded (spelled (text_with p comments)) ++ entered (spelled (text_with p comments))))
unfolding Inside
told_there p comments can passed same w h =
    let q = spelled (text_with p comments) in
    flat_inside beginnings (recorded p ++ entered p) (recorded q ++ entered q)
    (append_inside (recorded p) (entered p) (recorded q) (entered q) (recorded_inside p q (back same)) (entered_inside p q (back same)))
    w (written_begins p w (told_written p comments can passed w h))

-- ---- both ways

lines_of_both : (program : Program) (sampled : Sampled) (comments : List (List ℕ)) → CanBeWritten (profile_of program sampled) → AllByRecursion IsComment comments
    → sampled_lines program sampled ≡ cold_lines program (spelled (text_with (profile_of program sampled) comments))
unfolding cold_lines sampled_lines
lines_of_both program sampled comments can passed =
    let p = profile_of program sampled in
    let q = spelled (text_with p comments) in
    let places = filter_map (way_at program) all_addresses in
    let same : CountTheSame q p = (text_is_read_back p comments 2 can passed).1 in
    standing_lines_by_counts places p q (back same)
    ∙ sym (already q (told_cold q) (filter (stands_in q) places) (told_there p comments can passed same))

good_size : (text : List ℕ) → length text ≤ max_profile_bytes → size_item 2 max_profile_bytes text ≡ None
good_size text small = rw (le-ltb max_profile_bytes (length text) small) refl

good_text : (text : List ℕ) → length text ≤ max_profile_bytes → first_bad_of_profile 2 text ≡ None → first_bad_of_profile_text 2 text ≡ None
unfolding first_bad_of_profile_text
good_text text small good = rw (good_size text small, good) refl

writes_text : (files : Store) (options : Options) (bin out file text : List ℕ) → files bin ≡ Some file → first_bad_of_binary file ≡ None → files out ≡ Some text → first_bad_of_profile_text 2 text ≡ None
    → answer_of_command files (cold options bin out) ≡ writes (cold options bin out) (file ∷ text ∷ [])
writes_text files options bin out file text here good there good_too = rw (here, good, there, good_too) refl

writes_samples : (files : Store) (options : Options) (bin perf file text : List ℕ) → files bin ≡ Some file → first_bad_of_binary file ≡ None → files perf ≡ Some text → first_bad_of_text 2 text ≡ None
    → answer_of_command files (cold_profile options bin perf) ≡ writes (cold_profile options bin perf) (file ∷ text ∷ [])
writes_samples files options bin perf file text here good there good_too = rw (here, good, there, good_too) refl

text_of_both : (program : Program) (sampled : Sampled) (text lines whole : List ℕ) (comments : List (List ℕ)) → CanBeWritten (profile_of program sampled) → AllByRecursion IsComment comments
    → text ≡ text_with (profile_of program sampled) comments → lines ≡ text_of_lines (cold_lines program (spelled text)) → whole ≡ sampled_text program sampled
    → whole ≡ lines ++ report_text (classes_of program) sampled
unfolding sampled_text
text_of_both program sampled text lines whole comments can passed is lines_are whole_is =
    whole_is
    ∙ ap (λ (ls : List Line). text_of_lines ls ++ report_text (classes_of program) sampled)
    (lines_of_both program sampled comments can passed ∙ ap (λ t. cold_lines program (spelled t)) (sym is))
    ∙ ap (λ (t : List ℕ). t ++ report_text (classes_of program) sampled) (sym lines_are)

pub cold_is_of_both : ColdIsOfBoth
cold_is_of_both files options bin perf out contents text answers may small there =
    let command = profile options bin perf in
    let one = has_file 1 (files bin) first_bad_of_binary _ command contents answers in
    let two = has_file 2 (files perf) (first_bad_of_text 2) _ command contents one.then in
    let are : one.file ∷ two.file ∷ [] ≡ contents = same_contents command command contents (one.file ∷ two.file ∷ []) two.then in
    let good : first_bad_of_text 2 (file_at 1 contents) ≡ None = subst (λ (found : List (List ℕ)). first_bad_of_text 2 (file_at 1 found) ≡ None) are two.good in
    let program = program_in options contents in
    let sampled = sampled_in options contents in
    let p = profile_of program sampled in
    let can = can_be_told options contents good in
    let comments = report_comments (classes_of program) sampled in
    let is : text ≡ text_with p comments.lines = output_is program sampled text may ∙ ap (λ t. profile_text p ++ t) comments.joined in
    let read = text_is_read_back p comments.lines 2 can comments.passed in (
      subst (λ (found : List (List ℕ)). answer_of_command files (cold options bin out) ≡ writes (cold options bin out) (file_at 0 found ∷ text ∷ [])) are
          (writes_text files options bin out one.file text one.there one.good there (good_text text small (ap (first_bad_of_profile 2) is ∙ read.0))),
      subst (λ (found : List (List ℕ)). answer_of_command files (cold_profile options bin perf) ≡ writes (cold_profile options bin perf) found) are
          (writes_samples files options bin perf one.file two.file one.there one.good two.there two.good),
      λ lines whole lines_are whole_is. text_of_both program sampled text lines whole comments.lines can comments.passed is lines_are whole_is,
    )
