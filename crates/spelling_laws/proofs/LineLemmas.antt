-- The lines of a profile that can be told: each can be told, and none is refused behind those before it.
use Rattle.std.proofs.Common.{◌≡◌, ◌<◌, ◌^◌, ◌-◌, ℕ, ◌+◌, ◌&&◌, ◌||◌, nat_lt, Bool, true, false, List, [], ◌∷◌, ◌++◌, filter, map, length, None, refl, sym, ap, subst, ◌∙◌, inl, inr, arith}
use Rattle.std.specs.Cmp.Lexicographic.{bytes_decides}
use Rattle.std.specs.List.{AllByRecursion, enumerate_from, list_any}
use Rattle.std.specs.List.Sorted.{IsStrictlySortedBy}
use Rattle.std.specs.declared.cmp.Ordering.TheVariants.{Less, Equal}
use Rattle.std.proofs.lemmas.Bool.{true≢false, le-ltb}
use Rattle.std.proofs.lemmas.Cmp.{tied_itself}
use Rattle.list_lemmas.proofs.Among.{among_filter, among_map_back, among_filter_back, all_among, among_all}
use Rattle.refusal.specs.Place.{first_bad}
use Rattle.profile_model.proofs.OrderLemmas.{targets_tell_apart}
use Rattle.profile_model.proofs.OrderedLemmas.{ordered_is_in_order}
use Rattle.profile_model.proofs.StepLemmas.{same_ways, and_second}
use Rattle.profile_model.specs.Judging.{cause_of, cause_of_line, with_line, item, items_from}
use Rattle.profile_model.specs.Orders.{target_cmp}
use Rattle.profile_model.specs.Profile.{Profile, capped, target_of, targets_of, line_at}
use Rattle.profile_model.specs.Spelled.{Number, numbers_on, numbers_of_line, numbers_from}
use Rattle.profile_model.specs.Standing.{depth_of, targets_on, again_among, has_twice, tells_again}
use Rattle.profile_model.specs.Names.{is_name}
use Rattle.profile_model.specs.Ways.{Way, same_name, same_way}
use Rattle.profile_laws.proofs.TotalLemmas.{Among, among_from_has, has_from_among}
use Rattle.spelling_laws.specs.Lines.{CanBeTold, IsNamed}
use Rattle.spelling_laws.specs.Told.{CanBeWritten}
use Rattle.spelling_laws.proofs.ReadLemmas.{line_text_is_read}
use Rattle.spelling_laws.proofs.TextLemmas.{texts_of}
use Rattle.spelling_laws.proofs.PathLemmas.{lines, stands, way_is, ways_are}
use Rattle.spelling_laws.proofs.OrderLemmas.{Stand, cmp_of, has_open, one_on, tells_of}
use Rattle.spelling_laws.proofs.WayLemmas.{IsLineWay, LineOf, a_function, a_body, a_call, depth_is, line_of_way}

-- ---- targets

abbrev called_of : Profile → Way → List (List ℕ × ℕ)
called_of p way = map (λ c. (c.1, target_of p way c.1)) (filter (λ c. same_way way c.0 && nat_lt 0 c.2) p.calls)

pub target_from : (p : Profile) (way : Way) (t : List ℕ × ℕ) → Among t (targets_of p way)
    → (c : Way × List ℕ × ℕ) × Among c (filter (λ c. same_way way c.0 && nat_lt 0 c.2) p.calls) × (t ≡ (c.1, target_of p way c.1))
target_from p way t there =
    among_map_back (λ c. (c.1, target_of p way c.1)) t (filter (λ c. same_way way c.0 && nat_lt 0 c.2) p.calls)
    (among_from_has target_cmp targets_tell_apart t (called_of p way)
    (sym ((ordered_is_in_order target_cmp targets_tell_apart (called_of p way)).same t) ∙ has_from_among target_cmp targets_tell_apart t (targets_of p way) there))

pub targets_ascend : (p : Profile) (way : Way) → IsStrictlySortedBy target_cmp (targets_of p way)
targets_ascend p way = (ordered_is_in_order target_cmp targets_tell_apart (called_of p way)).ascending

pub target_times : (p : Profile) (way : Way) (t : List ℕ × ℕ) → Among t (targets_of p way) → t.1 ≡ target_of p way t.0
target_times p way t there =
    let from = target_from p way t there in
    ap (λ (u : List ℕ × ℕ). u.1) from.2 ∙ ap (λ (u : List ℕ × ℕ). target_of p way u.0) (sym from.2)

targets_named : (p : Profile) (way : Way) → CanBeWritten p → AllByRecursion IsNamed (targets_of p way)
targets_named p way can = all_among IsNamed (targets_of p way) each
  where
    each : (t : List ℕ × ℕ) → Among t (targets_of p way) → IsNamed t
    each t there =
        let from = target_from p way t there in
        let c = from.0 in
        let kept = among_filter_back (λ c. same_way way c.0 && nat_lt 0 c.2) c p.calls from.1 in
        let called = among_filter (λ (d : Way × List ℕ × ℕ). nat_lt 0 d.2) c p.calls (and_second (same_way way c.0) (nat_lt 0 c.2) kept.0) kept.1 in
        let name : is_name c.1 ≡ true = among_all (λ (d : Way × List ℕ × ℕ). is_name d.1 ≡ true) c (filter (λ d. nat_lt 0 d.2) p.calls) can.callees called in
        subst IsNamed (sym from.2) (name, can.targets_fit way c.1)

-- ---- each line can be told

pub line_told : (p : Profile) (way : Way) → CanBeWritten p → IsLineWay way → CanBeTold (line_at p way)
line_told p [] can is = absurd is
line_told p (s ∷ way) can is = by (line_of_way p (s ∷ way) is)
  where
    total_fits : (n : ℕ) → capped n < 2 ^ 64
    total_fits n = omega arith

    by : LineOf p (s ∷ way) → CanBeTold (line_at p (s ∷ way))
    by (a_function t e f line) = subst CanBeTold (sym line) ((f.1, total_fits _), can.heads_fit t.name)
    by (a_body u t rest e b line) =
        subst CanBeTold (sym line) ((subst (λ w. 0 < length w - 1) (sym e) (omega arith), b.1, b.2), can.counts_fit (s ∷ way), targets_named p (s ∷ way) can)
    by (a_call u t rest e c line) =
        subst CanBeTold (sym line) ((subst (λ w. 0 < length w - 1) (sym e) (omega arith), c.1, c.2), (c.3, total_fits _))

-- ---- none is refused

-- targets that differ in more than how often they were called
names_differ : (p : Profile) (way : Way) (t u : List ℕ × ℕ) → Among t (targets_of p way) → Among u (targets_of p way) → target_cmp t u ≡ Less → same_name t.0 u.0 ≡ false
names_differ p way t u here there less = by (same_name t.0 u.0) refl
  where
    less_or_equal : Less ≡ Equal → ⊥
    less_or_equal e = cc

    by : (b : Bool) → same_name t.0 u.0 ≡ b → b ≡ false
    by false e = refl
    by true e =
        let name : t.0 ≡ u.0 = (bytes_decides t.0 u.0).0 e in
        let times : t.1 ≡ u.1 = target_times p way t here ∙ ap (target_of p way) name ∙ sym (target_times p way u there) in
        let one : t ≡ u = λ i. (name i, times i) in
        absurd (less_or_equal (sym less ∙ ap (λ v. target_cmp v u) one ∙ tied_itself targets_tell_apart.total u))

abbrev names : List (List ℕ × ℕ) → List (List ℕ)
names targets = map (λ target. target.0) targets

new_names : (before : List (List ℕ)) (targets : List (List ℕ × ℕ)) → ((t u : List ℕ × ℕ) → Among t targets → Among u targets → target_cmp t u ≡ Less → same_name t.0 u.0 ≡ false)
    → IsStrictlySortedBy target_cmp targets → AllByRecursion (λ t. list_any (same_name t.0) before ≡ false) targets → again_among before (names targets) ≡ false
unfolding again_among IsStrictlySortedBy
new_names before [] differ up new = refl
new_names before (t ∷ targets) differ up new =
    ap (λ b. b || again_among (t.0 ∷ before) (names targets)) new.0
    ∙ new_names (t.0 ∷ before) targets (λ u v h g. differ u v (inr h) (inr g)) up.1
    (all_among (λ u. list_any (same_name u.0) (t.0 ∷ before) ≡ false) targets
    (λ u h. ap (λ b. b || list_any (same_name u.0) before) (turned u h) ∙ among_all (λ v. list_any (same_name v.0) before ≡ false) u targets new.1 h))
  where
    turned : (u : List ℕ × ℕ) → Among u targets → same_name u.0 t.0 ≡ false
    turned u h =
        elim (same_name u.0 t.0) as (λ b. same_name u.0 t.0 ≡ b → b ≡ false) [
          | true ↦ λ e.
              absurd (true≢false (sym ((bytes_decides t.0 u.0).1 (sym ((bytes_decides u.0 t.0).0 e)))
              ∙ differ t u (inl refl) (inr h) (among_all (λ v. target_cmp t v ≡ Less) u targets up.0 h)))
          | false ↦ λ _. refl
        ] refl

once_told : (p : Profile) (way : Way) → has_twice (names (targets_of p way)) ≡ false
once_told p way = new_names [] (targets_of p way) (names_differ p way) (targets_ascend p way) (all_among (λ t. list_any (same_name t.0) [] ≡ false) (targets_of p way) (λ t h. refl))

once_on : (p : Profile) (way : Way) → IsLineWay way → has_twice (names (targets_on (line_at p way))) ≡ false
unfolding again_among
once_on p [] is = absurd is
once_on p (s ∷ way) is = by (line_of_way p (s ∷ way) is)
  where
    by : LineOf p (s ∷ way) → has_twice (names (targets_on (line_at p (s ∷ way)))) ≡ false
    by (a_function t e f line) = ap (λ l. has_twice (names (targets_on l))) line
    by (a_body u t rest e b line) = ap (λ l. has_twice (names (targets_on l))) line ∙ once_told p (s ∷ way)
    by (a_call u t rest e c line) = ap (λ l. has_twice (names (targets_on l))) line

not_told : (p : Profile) (way : Way) (ways : List Way) → AllByRecursion (λ x. cmp_of p x way ≡ Less) ways → list_any (same_way way) ways ≡ false
not_told p way [] all = refl
not_told p way (x ∷ ways) all = ap (λ b. b || list_any (same_way way) ways) (by (same_way way x) refl) ∙ not_told p way ways all.1
  where
    less_or_equal : Less ≡ Equal → ⊥
    less_or_equal e = cc

    by : (b : Bool) → same_way way x ≡ b → b ≡ false
    by false e = refl
    by true e = absurd (less_or_equal (sym all.0 ∙ ap (cmp_of p x) (same_ways way x e) ∙ tied_itself (tells_of p).total x))

tells_new : (p : Profile) (before : List Way) (way : Way) (rest : List Way) → Stand p before (way ∷ rest) → tells_again (lines p before) (line_at p way) ≡ false
unfolding tells_again
tells_new p before way rest stand =
    (λ i. list_any (same_way (way_is p way before stand.next.0 (has_open p before way rest stand) stand.known stand.pathed i)) (ways_are p before stand.known stand.pathed i)
    || has_twice (names (targets_on (line_at p way))))
    ∙ ap (λ b. b || has_twice (names (targets_on (line_at p way)))) (not_told p way before stand.behind.0)
    ∙ once_on p way stand.next.0

not_deep : (p : Profile) (way : Way) → IsLineWay way → nat_lt 256 (depth_of (line_at p way)) ≡ false
not_deep p [] is = absurd is
not_deep p (s ∷ way) is = ap (nat_lt 256) (depth_is p s way is) ∙ le-ltb 256 (length way) (omega (arith, is.2))

pub no_cause : (p : Profile) (before : List Way) (way : Way) (rest : List Way) → Stand p before (way ∷ rest) → cause_of (lines p before) (line_at p way) ≡ None
unfolding cause_of
no_cause p before way rest stand =
    rw (not_deep p way stand.next.0, stands p way before stand.next.0 (has_open p before way rest stand) stand.known, tells_new p before way rest stand)

-- ---- what is read

abbrev pub text_lines : Profile → ℕ → List Way → List (ℕ × List ℕ)
text_lines p n ways = enumerate_from n (texts_of (lines p ways))

pub none_refused : (p : Profile) → CanBeWritten p → (file n : ℕ) (before rest : List Way) → Stand p before rest → first_bad (items_from file (lines p before) (text_lines p n rest)) ≡ None
unfolding items_from
none_refused p can file n before [] stand = refl
none_refused p can file n before (way ∷ rest) stand =
    let line = line_at p way in
    let more = text_lines p (n + 1) rest in
    ap (λ said. first_bad (item file n (cause_of_line (lines p before) said) ∷ items_from file (with_line (lines p before) said) more)) (line_text_is_read line (line_told p way can stand.next.0))
    ∙ ap (λ cause. first_bad (item file n cause ∷ items_from file (line ∷ lines p before) more)) (no_cause p before way rest stand)
    ∙ none_refused p can file (n + 1) (way ∷ before) rest (one_on p before way rest stand)

-- the numbers on the lines of ways
abbrev pub numbers_told : Profile → ℕ → List Way → List Number
numbers_told p n [] = []
numbers_told p n (way ∷ ways) = numbers_on n way (line_at p way) ++ numbers_told p (n + 1) ways

pub numbers_are : (p : Profile) → CanBeWritten p → (n : ℕ) (before rest : List Way) → Stand p before rest → numbers_from (lines p before) (text_lines p n rest) ≡ numbers_told p n rest
unfolding numbers_from
numbers_are p can n before [] stand = refl
numbers_are p can n before (way ∷ rest) stand =
    let line = line_at p way in
    let more = text_lines p (n + 1) rest in
    ap (λ said. numbers_of_line n (lines p before) said ++ numbers_from (with_line (lines p before) said) more) (line_text_is_read line (line_told p way can stand.next.0))
    ∙ (λ i. numbers_on n (way_is p way before stand.next.0 (has_open p before way rest stand) stand.known stand.pathed i) line
    ++ numbers_are p can (n + 1) (way ∷ before) rest (one_on p before way rest stand) i)
