-- Texts that are good one behind the other, by the sum of all.
use Rattle.std.proofs.Common.{◌≡◌, ◌≢◌, ◌≤◌, ◌<◌, ◌^◌, ℕ, ◌+◌, ◌*◌, Bool, true, false, cond, ◌&&◌, List, [], ◌∷◌, ◌++◌, length, zero, suc, Option, None, Some, refl, sym, ap, subst, ◌∙◌, arith, inl, inr}
use Rattle.std.specs.Prelude.{slice_index_or, if◌then◌else◌}
use Rattle.std.specs.List.{All, cons_option}
use Rattle.std.specs.Option.{option_or}
use Rattle.std.specs.Cmp.Lexicographic.{bytes_decides}
use Rattle.std.proofs.Math.Nat.{mul-zero, mul-le-mul_left}
use Rattle.std.proofs.lemmas.Bool.{cases_lt, le-leb, lt-leb}
use Rattle.std.proofs.lemmas.List.{append-nil, append_assoc}
use Rattle.std.proofs.lemmas.List.Elements.{All-cons, All-head, All-nil, All-tail}
use Rattle.std.proofs.lemmas.List.Sorted.{All-permutation}
use Rattle.refusal.specs.declared.kind.Kind.{Kind}
use Rattle.refusal.specs.declared.kind.Kind.TheVariants.{CountTooLarge}
use Rattle.refusal.specs.declared.place.Place.{Place}
use Rattle.refusal.specs.Place.{first_bad}
use Rattle.refusal.proofs.PlaceLemmas.{first_bad-append, option_or-none}
use Rattle.profile_model.specs.Judging.{cause_of_line, first_bad_of_profile, item, items_from, kept_lines_of, with_line}
use Rattle.profile_model.specs.Merge.{first_bad_of_summed, merged, sum_items}
use Rattle.profile_model.specs.Profile.{Line, Profile}
use Rattle.profile_model.specs.Reading.{line_of}
use Rattle.profile_model.specs.Spelled.{Number, What, as_call, as_count, as_head, head, count, target, number_in, numbers_of, profile_by, spelled}
use Rattle.profile_model.specs.Ways.{same_name, same_way}
use Rattle.profile_model.proofs.StepLemmas.{and_both, and_first, and_second, same_ways, way_itself}
use Rattle.profile_laws.specs.Once.{NumbersStandOnce, StandOnce}
use Rattle.merge_laws.specs.Orders.{AreGoodBehind, OrderIsNoMatter}
use Rattle.merge_laws.proofs.SumLemmas.{kept_more, merges_are_alike, number_in-behind, number_in-merged, number_in-one, number_in-permuted}

-- ---- first bad places

-- which file a text is, is no matter for its lines
any_file : (file other : ℕ) (before : List Line) (lines : List (ℕ × List ℕ)) → first_bad (items_from file before lines) ≡ None → first_bad (items_from other before lines) ≡ None
unfolding items_from
any_file file other before [] good = refl
any_file file other before (line ∷ lines) good =
    by (cause_of_line before (line_of line.1)) refl (any_file file other (with_line before (line_of line.1)) lines)
  where
    behind : ℕ → Option Kind → Option Place
    behind f cause = first_bad (item f line.0 cause ∷ items_from f (with_line before (line_of line.1)) lines)

    by : (cause : Option Kind) → cause_of_line before (line_of line.1) ≡ cause
        → (first_bad (items_from file (with_line before (line_of line.1)) lines) ≡ None → first_bad (items_from other (with_line before (line_of line.1)) lines) ≡ None)
        → behind other (cause_of_line before (line_of line.1)) ≡ None
    by None is rest = ap (behind other) is ∙ rest (sym (ap (behind file) is) ∙ good)
    by (Some kind) is rest = let told : behind file (Some kind) ≡ None = sym (ap (behind file) is) ∙ good in absurd cc

-- so many times a number fits together with what was summed before
abbrev pub Fits : ℕ → Profile → Number → Type 0
Fits w before number = w * number.times + number_in before number.what < 2 ^ 64

pub sums_good : (file w : ℕ) (before : Profile) (numbers : List Number) → All (Fits w before) numbers → first_bad (sum_items file w before numbers) ≡ None
unfolding sum_items
sums_good file w before [] fit = refl
sums_good file w before (n ∷ ns) fit =
    let small = lt-leb (2 ^ 64) (w * n.times + number_in before n.what) (All-head (Fits w before) n ns fit) in
    ap (λ b. first_bad ((if b then Some (record { file = file; at = n.line; kind = CountTooLarge }) else None) ∷ sum_items file w before ns)) small
    ∙ sums_good file w before ns (All-tail (Fits w before) n ns fit)

sums_fit : (file w : ℕ) (before : Profile) (numbers : List Number) → first_bad (sum_items file w before numbers) ≡ None → All (Fits w before) numbers
unfolding sum_items
sums_fit file w before [] good = All-nil (Fits w before)
sums_fit file w before (n ∷ ns) good =
    elim (cases_lt (w * n.times + number_in before n.what) (2 ^ 64)) [
      | inl small ↦
          All-cons (Fits w before) n ns small
          (sums_fit file w before ns (sym (ap judged (lt-leb (2 ^ 64) (w * n.times + number_in before n.what) small)) ∙ good))
      | inr large ↦
          let told : judged true ≡ None = sym (ap judged (le-leb (2 ^ 64) (w * n.times + number_in before n.what) large)) ∙ good in
          absurd cc
    ]
  where
    judged : Bool → Option Place
    judged b = first_bad ((if b then Some (record { file = file; at = n.line; kind = CountTooLarge }) else None) ∷ sum_items file w before ns)

summed_parts : (file w : ℕ) (before : Profile) (text : List ℕ) → first_bad_of_summed file w before text ≡ None
    → (first_bad_of_profile file text ≡ None) × All (Fits w before) (numbers_of text)
summed_parts file w before text good =
    let parts = option_or-none (first_bad_of_profile file text) (first_bad (sum_items file w before (numbers_of text)))
    (sym (first_bad-append (items_from file [] (kept_lines_of text)) (sum_items file w before (numbers_of text))) ∙ good) in
    (parts.0, sums_fit file w before (numbers_of text) parts.1)

summed_good : (file w : ℕ) (before : Profile) (text : List ℕ) → first_bad_of_profile file text ≡ None → All (Fits w before) (numbers_of text)
    → first_bad_of_summed file w before text ≡ None
summed_good file w before text good fit =
    first_bad-append (items_from file [] (kept_lines_of text)) (sum_items file w before (numbers_of text))
    ∙ ap (λ bad. option_or bad (first_bad (sum_items file w before (numbers_of text)))) good
    ∙ sums_good file w before (numbers_of text) fit

-- ---- a number of a text

-- Whether a head, a key or a target is another.
abbrev pub same_what : What → What → Bool
same_what (head a) (head b) = same_name a b
same_what (head a) (count way) = false
same_what (head a) (target way b) = false
same_what (count way) (head b) = false
same_what (count way) (count other) = same_way way other
same_what (count way) (target other b) = false
same_what (target way a) (head b) = false
same_what (target way a) (count other) = false
same_what (target way a) (target other b) = same_way way other && same_name a b

what_same : (x y : What) → same_what x y ≡ true → x ≡ y
what_same (head a) (head b) is = ap head ((bytes_decides a b).0 is)
what_same (head a) (count way) is = absurd cc
what_same (head a) (target way b) is = absurd cc
what_same (count way) (head b) is = absurd cc
what_same (count way) (count other) is = ap count (same_ways way other is)
what_same (count way) (target other b) is = absurd cc
what_same (target way a) (head b) is = absurd cc
what_same (target way a) (count other) is = absurd cc
what_same (target way a) (target other b) is =
    ap (λ w. target w a) (same_ways way other (and_first (same_way way other) (same_name a b) is))
    ∙ ap (target other) ((bytes_decides a b).0 (and_second (same_way way other) (same_name a b) is))

what_itself : (x : What) → same_what x x ≡ true
what_itself (head a) = (bytes_decides a a).1 refl
what_itself (count way) = way_itself way
what_itself (target way a) = and_both (same_way way way) (same_name a a) (way_itself way) ((bytes_decides a a).1 refl)

none_more : (n : ℕ) → n ≡ 0 + n
none_more n = omega arith

-- a profile with one number more
with_number : What → ℕ → Profile → Profile
with_number what times p = record {
  counts = cons_option (as_count what times) p.counts;
  calls = cons_option (as_call what times) p.calls;
  heads = cons_option (as_head what times) p.heads;
}

number_more : (w : What) (times : ℕ) (p : Profile) (what : What) → number_in (with_number w times p) what ≡ cond (same_what what w) times 0 + number_in p what
unfolding with_number
number_more (head b) times p (head a) = kept_more (λ h. same_name a h.0) (λ h. h.1) (b, times) p.heads
number_more (head b) times p (count way) = none_more (number_in p (count way))
number_more (head b) times p (target way a) = none_more (number_in p (target way a))
number_more (count other) times p (head a) = none_more (number_in p (head a))
number_more (count other) times p (count way) = kept_more (λ c. same_way way c.0) (λ c. c.1) (other, times) p.counts
number_more (count other) times p (target way a) = none_more (number_in p (target way a))
number_more (target other b) times p (head a) = none_more (number_in p (head a))
number_more (target other b) times p (count way) = none_more (number_in p (count way))
number_more (target other b) times p (target way a) = kept_more (λ c. same_way way c.0 && same_name a c.1) (λ c. c.2) (other, b, times) p.calls

spelled_more : (n : Number) (ns : List Number) (what : What) → number_in (profile_by (n ∷ ns)) what ≡ cond (same_what what n.what) n.times 0 + number_in (profile_by ns) what
unfolding profile_by with_number
spelled_more n ns what = number_more n.what n.times (profile_by ns) what

spelled_none : (what : What) → number_in (profile_by []) what ≡ 0
unfolding profile_by
spelled_none (head name) = refl
spelled_none (count way) = refl
spelled_none (target way name) = refl

once_head : (n : Number) (ns : List Number) → StandOnce (λ x. x.what) (n ∷ ns) → All (λ m. n.what ≢ m.what) ns
once_head n ns once = λ k d within. once zero (suc k) d (omega arith) (omega (arith, within))

once_tail : (n : Number) (ns : List Number) → StandOnce (λ x. x.what) (n ∷ ns) → StandOnce (λ x. x.what) ns
once_tail n ns once = λ i j d before within. once (suc i) (suc j) d (omega (arith, before)) (omega (arith, within))

-- what no number tells has 0
absent : (what : What) (ns : List Number) → All (λ m. what ≢ m.what) ns → number_in (profile_by ns) what ≡ 0
absent what [] none = spelled_none what
absent what (m ∷ ms) none =
    spelled_more m ms what
    ∙ elim (same_what what m.what) as (λ b. same_what what m.what ≡ b → cond b m.times 0 + number_in (profile_by ms) what ≡ 0) [
      | true ↦ λ is. absurd (All-head (λ x. what ≢ x.what) m ms none (what_same what m.what is))
      | false ↦ λ is. sym (none_more (number_in (profile_by ms) what)) ∙ absent what ms (All-tail (λ x. what ≢ x.what) m ms none)
    ] refl

-- each number that stands once is all that is told of its thing, so that the sums fit where the numbers do
bounded : (w : ℕ) (before : Profile) (what : What) (ns : List Number) → StandOnce (λ n. n.what) ns → All (Fits w before) ns
    → number_in before what < 2 ^ 64 → w * number_in (profile_by ns) what + number_in before what < 2 ^ 64
bounded w before what [] once fit small =
    subst (λ n. w * n + number_in before what < 2 ^ 64) (sym (spelled_none what))
    (let none = mul-zero w in omega (arith, none, small))
bounded w before what (n ∷ ns) once fit small =
    subst (λ k. w * k + number_in before what < 2 ^ 64) (sym (spelled_more n ns what))
    (elim (same_what what n.what) as (λ b. same_what what n.what ≡ b → w * (cond b n.times 0 + number_in (profile_by ns) what) + number_in before what < 2 ^ 64) [
      | true ↦ λ is. here (what_same what n.what is)
      | false ↦ λ is.
          subst (λ k. w * k + number_in before what < 2 ^ 64) (none_more (number_in (profile_by ns) what))
          (bounded w before what ns (once_tail n ns once) (All-tail (Fits w before) n ns fit) small)
    ] refl)
  where
    here : what ≡ n.what → w * (n.times + number_in (profile_by ns) what) + number_in before what < 2 ^ 64
    here same =
        let others : number_in (profile_by ns) what ≡ 0 = absent what ns (subst (λ x. All (λ m. x ≢ m.what) ns) (sym same) (once_head n ns once)) in
        let alone : n.times ≡ n.times + number_in (profile_by ns) what = omega (arith, others) in
        subst (λ k. w * k + number_in before what < 2 ^ 64) alone
        (subst (λ x. w * n.times + number_in before x < 2 ^ 64) (sym same) (All-head (Fits w before) n ns fit))

-- a number is at most what is told of its thing
at_most : (ns : List Number) → All (λ n. n.times ≤ number_in (profile_by ns) n.what) ns
at_most [] = All-nil (λ n. n.times ≤ number_in (profile_by []) n.what)
at_most (n ∷ ns) = All-cons (λ m. m.times ≤ number_in (profile_by (n ∷ ns)) m.what) n ns first (λ k d within. wider (slice_index_or ns k d) (at_most ns k d within))
  where
    first : n.times ≤ number_in (profile_by (n ∷ ns)) n.what
    first =
        let is = spelled_more n ns n.what ∙ ap (λ b. cond b n.times 0 + number_in (profile_by ns) n.what) (what_itself n.what) in
        omega (arith, is)

    wider : (m : Number) → m.times ≤ number_in (profile_by ns) m.what → m.times ≤ number_in (profile_by (n ∷ ns)) m.what
    wider m few = let is = spelled_more n ns m.what in omega (arith, is, few)

-- ---- texts

-- A text is good by itself.
abbrev pub IsGoodAlone : ℕ × List ℕ → Type 0
IsGoodAlone text = first_bad_of_profile 1 text.1 ≡ None

-- All sums fit.
abbrev pub SumsFit : List (ℕ × List ℕ) → Type 0
SumsFit texts = (what : What) → number_in (merged texts) what < 2 ^ 64

one_more_fits : NumbersStandOnce → (before : List (ℕ × List ℕ)) (text : ℕ × List ℕ) → SumsFit before
    → first_bad_of_profile 1 text.1 ≡ None → All (Fits text.0 (merged before)) (numbers_of text.1) → SumsFit (before ++ text ∷ [])
one_more_fits once before text small good fit = λ what.
    let sum = bounded text.0 (merged before) what (numbers_of text.1) (once 1 text.1 good) fit (small what) in
    let behind = number_in-behind before (text ∷ []) what in
    let one = number_in-one text [] what in
    let none = number_in-merged [] what in
    omega (arith, sum, behind, one, none)

good_texts_fit : NumbersStandOnce → (before rest : List (ℕ × List ℕ)) → SumsFit before → AreGoodBehind before rest → All IsGoodAlone rest × SumsFit (before ++ rest)
good_texts_fit once before [] small good = (All-nil IsGoodAlone, subst SumsFit (sym (append-nil before)) small)
good_texts_fit once before (text ∷ rest) small good =
    let parts = summed_parts (length before + 1) text.0 (merged before) text.1 good.0 in
    let alone = any_file (length before + 1) 1 [] (kept_lines_of text.1) parts.0 in
    let more = good_texts_fit once (before ++ text ∷ []) rest (one_more_fits once before text small alone parts.1) good.1 in
    (All-cons IsGoodAlone text rest alone more.0, subst SumsFit (append_assoc before (text ∷ []) rest) more.1)

texts_are_good : (before rest : List (ℕ × List ℕ)) → All IsGoodAlone rest → SumsFit (before ++ rest) → AreGoodBehind before rest
texts_are_good before [] good small = tt
texts_are_good before (text ∷ rest) good small = (
  summed_good (length before + 1) text.0 (merged before) text.1
      (any_file 1 (length before + 1) [] (kept_lines_of text.1) (All-head IsGoodAlone text rest good))
      (λ k d within. fits (slice_index_or (numbers_of text.1) k d) (at_most (numbers_of text.1) k d within)),
  texts_are_good (before ++ text ∷ []) rest (All-tail IsGoodAlone text rest good) (subst SumsFit (sym (append_assoc before (text ∷ []) rest)) small),
)
  where
    fits : (n : Number) → n.times ≤ number_in (spelled text.1) n.what → Fits text.0 (merged before) n
    fits n few =
        let all = small n.what in
        let behind = number_in-behind before (text ∷ rest) n.what in
        let one = number_in-one text rest n.what in
        let more = mul-le-mul_left text.0 few in
        omega (arith, all, behind, one, more)

pub order_is_no_matter : NumbersStandOnce → OrderIsNoMatter
order_is_no_matter once texts others moved good =
    let fit = good_texts_fit once [] texts (λ what. let none = number_in-merged [] what in omega (arith, none)) good in (
      texts_are_good [] others (All-permutation IsGoodAlone texts others moved fit.0)
          (λ what. let same = number_in-permuted texts others moved what in let small = fit.1 what in omega (arith, same, small)),
      merges_are_alike texts others moved,
    )
