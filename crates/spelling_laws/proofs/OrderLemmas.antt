-- The ways that are written of a profile, one behind the other.
use Rattle.std.proofs.Common.{◌≡◌, ◌⊎◌, List, [], ◌∷◌, ◌++◌, flat_map, length, refl, sym, ap, subst, ◌∙◌, inl, inr, arith}
use Rattle.std.specs.List.{AllByRecursion}
use Rattle.std.specs.List.Sorted.{IsStrictlySortedBy}
use Rattle.std.specs.Ordering.{ordering_reverse}
use Rattle.std.specs.declared.cmp.Ordering.{Ordering}
use Rattle.std.specs.declared.cmp.Ordering.TheVariants.{Less, Greater}
use Rattle.list_lemmas.proofs.Among.{among_map, among_flat, among_either, among_map_back, among_flat_back, all_among, among_all}
use Rattle.profile_model.proofs.OrderLemmas.{step_total, ways_tell_apart}
use Rattle.profile_model.proofs.OrderedLemmas.{ordered_is_in_order}
use Rattle.profile_model.specs.Laws.{TellsApart}
use Rattle.profile_model.specs.Orders.{step_cmp, way_cmp}
use Rattle.profile_model.specs.Profile.{Profile, total_of_function, recorded, entered, written}
use Rattle.profile_model.specs.Ways.{Step, Way, beginnings, last_step}
use Rattle.profile_laws.proofs.TotalLemmas.{Among, among_from_has, has_from_among, written_ascends}
use Rattle.spelling_laws.specs.Told.{CanBeWritten, IsToldWay, IsFunctionWay}
use Rattle.spelling_laws.proofs.PathLemmas.{Descend, HasOpen, ArePathed, front_is_less, opens}
use Rattle.spelling_laws.proofs.WayLemmas.{IsLineWay, but_last, but_last_length, function_lines, joined, key_lines}

abbrev pub cmp_of : Profile → Way → Way → Ordering
cmp_of p = way_cmp (total_of_function p)

pub tells_of : (p : Profile) → TellsApart (cmp_of p)
tells_of p = ways_tell_apart (total_of_function p)

-- ---- which ways are written

abbrev pub items_of : Profile → List Way
items_of p = flat_map beginnings (recorded p ++ entered p)

pub written_from : (p : Profile) (way : Way) → Among way (written p) → Among way (items_of p)
written_from p way there =
    among_from_has (cmp_of p) (tells_of p) way (items_of p)
    (sym ((ordered_is_in_order (cmp_of p) (tells_of p) (items_of p)).same way) ∙ has_from_among (cmp_of p) (tells_of p) way (written p) there)

pub written_is : (p : Profile) (way : Way) → Among way (items_of p) → Among way (written p)
written_is p way there =
    among_from_has (cmp_of p) (tells_of p) way (written p)
    ((ordered_is_in_order (cmp_of p) (tells_of p) (items_of p)).same way ∙ has_from_among (cmp_of p) (tells_of p) way (items_of p) there)

pub written_lines : (p : Profile) → CanBeWritten p → AllByRecursion IsLineWay (written p)
written_lines p can = all_among IsLineWay (written p) each
  where
    each : (way : Way) → Among way (written p) → IsLineWay way
    each way there =
        let from = among_flat_back beginnings way (recorded p ++ entered p) (written_from p way there) in
        elim (among_either from.0 (recorded p) (entered p) from.1) as (λ _. IsLineWay way) [
          | inl key ↦ key_lines from.0 (among_all IsToldWay from.0 (recorded p) can.keys key) way from.2
          | inr name ↦ function_lines from.0 (among_all IsFunctionWay from.0 (entered p) can.functions name) way from.2
        ]

no_rest : (s t : Step) (way : Way) (u : Step) → s ∷ t ∷ way ≡ u ∷ [] → ⊥
no_rest s t way u e = let sizes = ap length e in omega (arith, sizes)

abbrev head_of_way : Step → Way → Step
head_of_way d [] = d
head_of_way d (s ∷ way) = s

abbrev rest_of_way : Way → Way
rest_of_way [] = []
rest_of_way (s ∷ way) = way

-- a beginning without its last step is one too
shorter_begins : (key : Way) (s t : Step) (way : Way) → Among (s ∷ t ∷ way) (beginnings key) → Among (s ∷ but_last t way) (beginnings key)
shorter_begins [] s t way there = absurd there
shorter_begins (u ∷ key) s t way there = elim there as (λ _. Among (s ∷ but_last t way) (beginnings (u ∷ key))) [
  | inl e ↦ absurd (no_rest s t way u e)
  | inr r ↦
      let from = among_map_back (λ front. u ∷ front) (s ∷ t ∷ way) (beginnings key) r in
      let first : s ≡ u = ap (head_of_way u) from.2 in
      let behind : t ∷ way ≡ from.0 = ap rest_of_way from.2 in
      subst (λ v. Among (v ∷ but_last t way) (beginnings (u ∷ key))) (sym first)
      (by way (λ w more inside. shorter_begins key t w more inside) (subst (λ w. Among w (beginnings key)) (sym behind) from.1))
]
  where
    by : (way : Way) → ((w : Step) (more : Way) → Among (t ∷ w ∷ more) (beginnings key) → Among (t ∷ but_last w more) (beginnings key))
        → Among (t ∷ way) (beginnings key) → Among (u ∷ but_last t way) (beginnings (u ∷ key))
    by [] shorter inside = inl refl
    by (w ∷ way) shorter inside = inr (among_map (λ front. u ∷ front) (t ∷ but_last w way) (beginnings key) (shorter w way inside))

pub written_closed : (p : Profile) (s t : Step) (way : Way) → Among (s ∷ t ∷ way) (written p) → Among (s ∷ but_last t way) (written p)
written_closed p s t way there =
    let from = among_flat_back beginnings (s ∷ t ∷ way) (recorded p ++ entered p) (written_from p (s ∷ t ∷ way) there) in
    written_is p (s ∷ but_last t way) (among_flat beginnings (s ∷ but_last t way) from.0 (recorded p ++ entered p) from.1 (shorter_begins from.0 s t way from.2))

-- ---- one behind the other

pub record Stand (p : Profile) (before rest : List Way) : Type 0 where
  pub known : AllByRecursion IsLineWay before
  pub next : AllByRecursion IsLineWay rest
  pub down : Descend (cmp_of p) before
  pub behind : AllByRecursion (λ w. AllByRecursion (λ x. cmp_of p x w ≡ Less) before) rest
  pub up : IsStrictlySortedBy (cmp_of p) rest
  pub pathed : ArePathed before
  pub closed : (s t : Step) (way : Way) → Among (s ∷ t ∷ way) rest → Among (s ∷ but_last t way) before ⊎ Among (s ∷ but_last t way) rest

no_before : {T : Type 0} (P : T → Type 0) (xs : List T) → ((x : T) → P x) → AllByRecursion P xs
no_before P [] each = tt
no_before P (x ∷ xs) each = (each x, no_before P xs each)

pub at_first : (p : Profile) → CanBeWritten p → Stand p [] (written p)
at_first p can = record {
  known = tt;
  next = written_lines p can;
  down = tt;
  behind = no_before (λ w. AllByRecursion (λ x. cmp_of p x w ≡ Less) []) (written p) (λ w. tt);
  up = written_ascends p;
  pathed = tt;
  closed = λ s t way there. inr (written_closed p s t way there);
}

less_or_greater : Less ≡ Greater → ⊥
less_or_greater e = cc

pub has_open : (p : Profile) (before : List Way) (way : Way) (rest : List Way) → Stand p before (way ∷ rest) → HasOpen way before
unfolding IsStrictlySortedBy
has_open p before [] rest stand = absurd stand.next.0
has_open p before (s ∷ []) rest stand = tt
has_open p before (s ∷ t ∷ way) rest stand =
    let v = s ∷ but_last t way in
    elim (stand.closed s t way (inl refl)) as (λ _. HasOpen (s ∷ t ∷ way) before) [
      | inl there ↦
          opens (step_cmp (total_of_function p)) (step_total (total_of_function p)) v (last_step t way) before stand.down
          (subst (λ w. AllByRecursion (λ x. cmp_of p x w ≡ Less) before) (sym (joined s (t ∷ way))) stand.behind.0) there
      | inr here ↦ elim here as (λ _. HasOpen (s ∷ t ∷ way) before) [
        | inl same ↦ let sizes = ap length same in let size = but_last_length t way in absurd (omega (arith, sizes, size))
        | inr later ↦
            let less : cmp_of p (s ∷ t ∷ way) v ≡ Less = among_all (λ y. cmp_of p (s ∷ t ∷ way) y ≡ Less) v rest stand.up.0 later in
            let front : cmp_of p v (s ∷ t ∷ way) ≡ Less =
            subst (λ w. cmp_of p v w ≡ Less) (joined s (t ∷ way)) (front_is_less (step_cmp (total_of_function p)) (step_total (total_of_function p)) v (last_step t way)) in
            absurd (less_or_greater (sym less ∙ (tells_of p).total.antisymm (s ∷ t ∷ way) v ∙ ap ordering_reverse front))
      ]
    ]

both_all : {T : Type 0} (P Q : T → Type 0) (xs : List T) → AllByRecursion P xs → AllByRecursion Q xs → AllByRecursion (λ x. P x × Q x) xs
both_all P Q [] one other = tt
both_all P Q (x ∷ xs) one other = ((one.0, other.0), both_all P Q xs one.1 other.1)

pub one_on : (p : Profile) (before : List Way) (way : Way) (rest : List Way) → Stand p before (way ∷ rest) → Stand p (way ∷ before) rest
unfolding IsStrictlySortedBy
one_on p before way rest stand = record {
  known = (stand.next.0, stand.known);
  next = stand.next.1;
  down = (stand.behind.0, stand.down);
  behind = both_all (λ w. cmp_of p way w ≡ Less) (λ w. AllByRecursion (λ x. cmp_of p x w ≡ Less) before) rest stand.up.0 stand.behind.1;
  up = stand.up.1;
  pathed = (has_open p before way rest stand, stand.pathed);
  closed = λ s t more there. elim (stand.closed s t more (inr there)) as (λ _. Among (s ∷ but_last t more) (way ∷ before) ⊎ Among (s ∷ but_last t more) rest) [
    | inl old ↦ inl (inr old)
    | inr new ↦ elim new as (λ _. Among (s ∷ but_last t more) (way ∷ before) ⊎ Among (s ∷ but_last t more) rest) [ inl e ↦ inl (inl e) | inr r ↦ inr r ]
  ];
}
