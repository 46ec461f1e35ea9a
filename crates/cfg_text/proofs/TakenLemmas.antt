-- Spans that stand apart: which of them can meet another, and what one more leaves.
use Rattle.std.proofs.Common.{◌≡◌, ℕ, ◌<◌, ◌≤◌, Bool, true, false, ◌&&◌, ◌||◌, not, List, [], ◌∷◌, ◌++◌, filter, ◌⊎◌, refl, arith, inl, inr, sym, ◌∙◌, ap}
use Rattle.std.specs.Prelude.{nat_lt}
use Rattle.std.specs.List.{list_any}
use Rattle.std.specs.Ordering.{nat_cmp, is_le}
use Rattle.std.specs.BTreeMap.Range.{entries_between}
use Rattle.std.specs.declared.ops.Bound.TheVariants.{Excluded, Unbounded}
use Rattle.std.specs.Cmp.{nat_cmp_is}
use Rattle.std.specs.declared.cmp.Ordering.TheVariants.{Less, Equal, Greater}
use Rattle.std.specs.BTreeMap.{insert_entry}
use Rattle.std.proofs.lemmas.Bool.{and_right, lt-ltb, le-ltb, cases_lt, or_parts}
use Rattle.cfg_text.specs.Taken.{meets, AreApart}

-- the spans that begin before hi
abbrev before : ℕ → List (ℕ × ℕ) → List (ℕ × ℕ)
before hi spans = filter (λ span. nat_lt span.0 hi) spans

-- behind the address that spans begin at or above, none begins before
none_before : (hi from : ℕ) (spans : List (ℕ × ℕ)) → AreApart from spans → hi ≤ from → before hi spans ≡ []
none_before hi from [] apart past = refl
none_before hi from (span ∷ spans) apart past =
    rw (le-ltb span.0 hi (omega (arith, apart.0))) (none_before hi span.1 spans apart.2 (omega (arith, apart.0, apart.1)))

none_meet : (lo hi from : ℕ) (spans : List (ℕ × ℕ)) → AreApart from spans → hi ≤ from → list_any (meets lo hi) spans ≡ false
none_meet lo hi from [] apart past = refl
none_meet lo hi from (span ∷ spans) apart past =
    let none = none_meet lo hi span.1 spans apart.2 (omega (arith, apart.0, apart.1)) in
    rw (le-ltb span.0 hi (omega (arith, apart.0)), and_right (nat_lt lo span.1) false refl, none)

pub meet_none : (lo hi from : ℕ) (spans : List (ℕ × ℕ)) → AreApart from spans → before hi spans ≡ [] → list_any (meets lo hi) spans ≡ false
meet_none lo hi from [] apart is = refl
meet_none lo hi from (span ∷ spans) apart is =
    elim (cases_lt span.0 hi) [
      | inl begins ↦ let at = rw (lt-ltb span.0 hi begins) at is in absurd (cc)
      | inr past ↦
          let none = none_meet lo hi span.1 spans apart.2 (omega (arith, past, apart.1)) in
          rw (le-ltb span.0 hi past, and_right (nat_lt lo span.1) false refl, none)
    ]

-- a later end decides
pub later_end : (lo a b : ℕ) (v : Bool) → a < b → nat_lt lo b ≡ v → nat_lt lo b ≡ ((nat_lt lo a && true) || v)
later_end lo a b v order is =
    elim (cases_lt lo a) [
      | inl below ↦ rw (lt-ltb lo a below, lt-ltb lo b (omega (arith, below, order)))
      | inr past ↦ rw (le-ltb lo a past) is
    ]

alone_end : (lo a b : ℕ) (v : Bool) → a ≡ b → v ≡ false → nat_lt lo b ≡ ((nat_lt lo a && true) || v)
alone_end lo a b v same none =
    elim (cases_lt lo a) [
      | inl below ↦ rw (lt-ltb lo a below, lt-ltb lo b (omega (arith, below, same)))
      | inr past ↦ rw (le-ltb lo a past, le-ltb lo b (omega (arith, past, same)), none)
    ]

pub meet_last : (lo hi from : ℕ) (spans front : List (ℕ × ℕ)) (last : ℕ × ℕ) → AreApart from spans → before hi spans ≡ front ++ last ∷ []
    → (nat_lt lo last.1 ≡ list_any (meets lo hi) spans) × (from < last.1)
meet_last lo hi from [] [] last apart is = absurd (cc)
meet_last lo hi from [] (f ∷ front) last apart is = absurd (cc)
meet_last lo hi from (span ∷ spans) [] last apart is =
    elim (cases_lt span.0 hi) [
      | inl begins ↦
          let at : span ∷ before hi spans ≡ last ∷ [] = rw (lt-ltb span.0 hi begins) at is in
          let same : span ≡ last = cc in
          let others : before hi spans ≡ [] = cc in
          let none = meet_none lo hi span.1 spans apart.2 others in
          let end : span.1 ≡ last.1 = ap (λ (s : ℕ × ℕ). s.1) same in
          (rw (lt-ltb span.0 hi begins) (alone_end lo span.1 last.1 (list_any (meets lo hi) spans) end none), omega (arith, end, apart.0, apart.1))
      | inr past ↦
          let none = none_before hi span.1 spans apart.2 (omega (arith, past, apart.1)) in
          let at : before hi spans ≡ last ∷ [] = rw (le-ltb span.0 hi past) at is in
          absurd (cc)
    ]
meet_last lo hi from (span ∷ spans) (f ∷ front) last apart is =
    elim (cases_lt span.0 hi) [
      | inl begins ↦
          let at : span ∷ before hi spans ≡ f ∷ (front ++ last ∷ []) = rw (lt-ltb span.0 hi begins) at is in
          let others : before hi spans ≡ front ++ last ∷ [] = cc in
          let more = meet_last lo hi span.1 spans front last apart.2 others in
          (rw (lt-ltb span.0 hi begins) (later_end lo span.1 last.1 (list_any (meets lo hi) spans) more.1 more.0), omega (arith, more.1, apart.0, apart.1))
      | inr past ↦
          let none = none_before hi span.1 spans apart.2 (omega (arith, past, apart.1)) in
          let at : before hi spans ≡ f ∷ (front ++ last ∷ []) = rw (le-ltb span.0 hi past) at is in
          absurd (cc)
    ]

-- ---- one span more

-- a span that another does not meet lies before or behind it
lies : (lo hi : ℕ) (span : ℕ × ℕ) → meets lo hi span ≡ false → (span.1 ≤ lo) ⊎ (hi ≤ span.0)
lies lo hi span free =
    elim (cases_lt lo span.1) [
      | inl inside ↦ elim (cases_lt span.0 hi) [
        | inl also ↦ let at : true ≡ false = rw (lt-ltb lo span.1 inside, lt-ltb span.0 hi also) at free in absurd (cc)
        | inr behind ↦ inr behind
      ]
      | inr ahead ↦ inl ahead
    ]

-- where one more span goes
placed_first : (lo hi : ℕ) (span : ℕ × ℕ) (spans : List (ℕ × ℕ)) → lo < hi → hi ≤ span.0 → insert_entry nat_cmp (span ∷ spans) lo hi ≡ (lo, hi) ∷ span ∷ spans
placed_first lo hi span spans filled behind = rw (sym (nat_cmp_is lo span.0 Less (omega (arith, filled, behind))))

placed_later : (lo hi : ℕ) (span : ℕ × ℕ) (spans : List (ℕ × ℕ)) → span.0 < span.1 → span.1 ≤ lo → insert_entry nat_cmp (span ∷ spans) lo hi ≡ span ∷ insert_entry nat_cmp spans lo hi
placed_later lo hi span spans filled ahead = rw (sym (nat_cmp_is lo span.0 Greater (omega (arith, filled, ahead))))

pub apart_with : (lo hi from : ℕ) (spans : List (ℕ × ℕ)) → AreApart from spans → from ≤ lo → lo < hi → list_any (meets lo hi) spans ≡ false
    → AreApart from (insert_entry nat_cmp spans lo hi)
apart_with lo hi from [] apart past filled free = (past, filled, tt)
apart_with lo hi from (span ∷ spans) apart past filled free =
    let frees = or_parts (meets lo hi span) (list_any (meets lo hi) spans) free in
    elim (lies lo hi span frees.0) [
      | inl ahead ↦ rw (placed_later lo hi span spans apart.1 ahead) (apart.0, apart.1, apart_with lo hi span.1 spans apart.2 ahead filled frees.1)
      | inr behind ↦ rw (placed_first lo hi span spans filled behind) (past, filled, (behind, apart.1, apart.2))
    ]

swap_or : (a b c : Bool) → (a || (b || c)) ≡ (b || (a || c))
swap_or true true c = refl
swap_or true false c = refl
swap_or false true c = refl
swap_or false false c = refl

pub any_with : (p : ℕ × ℕ → Bool) (lo hi from : ℕ) (spans : List (ℕ × ℕ)) → AreApart from spans → lo < hi → list_any (meets lo hi) spans ≡ false
    → list_any p (insert_entry nat_cmp spans lo hi) ≡ (p (lo, hi) || list_any p spans)
any_with p lo hi from [] apart filled free = refl
any_with p lo hi from (span ∷ spans) apart filled free =
    let frees = or_parts (meets lo hi span) (list_any (meets lo hi) spans) free in
    elim (lies lo hi span frees.0) [
      | inl ahead ↦
          let more = any_with p lo hi span.1 spans apart.2 filled frees.1 in
          ap (list_any p) (placed_later lo hi span spans apart.1 ahead) ∙ ap (λ (v : Bool). p span || v) more ∙ swap_or (p span) (p (lo, hi)) (list_any p spans)
      | inr behind ↦ ap (list_any p) (placed_first lo hi span spans filled behind)
    ]

-- ---- what a look-up by range sees

not_past : (hi q : ℕ) → not (is_le (nat_cmp hi q)) ≡ nat_lt q hi
not_past hi q =
    elim (cases_lt q hi) [
      | inl below ↦ rw (sym (nat_cmp_is hi q Greater below), lt-ltb q hi below)
      | inr past ↦ elim (cases_lt hi q) [
        | inl above ↦ rw (sym (nat_cmp_is hi q Less above), le-ltb q hi past)
        | inr most ↦ let same : hi ≡ q = omega (arith, past, most) in rw (sym (nat_cmp_is hi q Equal same), le-ltb q hi past)
      ]
    ]

pub between_is : (hi : ℕ) (spans : List (ℕ × ℕ)) → entries_between nat_cmp Unbounded (Excluded hi) spans ≡ before hi spans
between_is hi [] = refl
between_is hi (span ∷ spans) = rw (not_past hi span.0, between_is hi spans)

pub ranged_last : (lo hi : ℕ) (spans front ranged : List (ℕ × ℕ)) (last : ℕ × ℕ) → AreApart 0 spans → ranged ≡ entries_between nat_cmp Unbounded (Excluded hi) spans
    → ranged ≡ front ++ last ∷ [] → nat_lt lo last.1 ≡ list_any (meets lo hi) spans
ranged_last lo hi spans front ranged last apart is ends =
    (meet_last lo hi 0 spans front last apart (sym (between_is hi spans) ∙ sym is ∙ ends)).0

pub ranged_none : (lo hi : ℕ) (spans ranged : List (ℕ × ℕ)) → AreApart 0 spans → ranged ≡ entries_between nat_cmp Unbounded (Excluded hi) spans
    → ranged ≡ [] → false ≡ list_any (meets lo hi) spans
ranged_none lo hi spans ranged apart is ends = sym (meet_none lo hi 0 spans apart (sym (between_is hi spans) ∙ sym is ∙ ends))
