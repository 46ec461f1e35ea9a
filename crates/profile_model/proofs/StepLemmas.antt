-- Tests of steps and ways.
use Rattle.std.proofs.Common.{◌≡◌, ℕ, ◌==◌, Bool, true, false, ◌&&◌, [], ◌∷◌, refl, sym, arith}
use Rattle.std.proofs.lemmas.Bool.{true≢false}
use Rattle.std.proofs.lemmas.Bool.Decides.{nat_tests}
use Rattle.std.specs.Cmp.Lexicographic.{bytes_decides}
use Rattle.profile_model.specs.Ways.{Step, Way, kind_rank, same_step, same_way}
use Rattle.profile_model.proofs.OrderLemmas.{kinds_apart}

-- ---- tests

pub and_first : (a b : Bool) → (a && b) ≡ true → a ≡ true
and_first true b e = refl
and_first false b e = e

pub and_second : (a b : Bool) → (a && b) ≡ true → b ≡ true
and_second true b e = e
and_second false b e = absurd (true≢false (sym e))

pub and_both : (a b : Bool) → a ≡ true → b ≡ true → (a && b) ≡ true
and_both true b e f = f
and_both false b e f = e

pub nat_same : (x y : ℕ) → (x == y) ≡ true → x ≡ y
nat_same x y e = grind (arith, nat_tests)

pub nat_refl : (x : ℕ) → (x == x) ≡ true
nat_refl x = grind (arith, nat_tests)

pub bool_same : (a b : Bool) → (a ≡ true → b ≡ true) → (b ≡ true → a ≡ true) → a ≡ b
bool_same true b f g = sym (f refl)
bool_same false true f g = g refl
bool_same false false f g = refl

-- ---- steps and ways

pub same_steps : (s t : Step) → same_step s t ≡ true → s ≡ t
same_steps s t e =
    let kind : s.kind ≡ t.kind = kinds_apart s.kind t.kind (nat_same _ _ (and_first _ _ e)) in
    let behind_kind = and_second _ _ e in
    let offset : s.offset ≡ t.offset = nat_same _ _ (and_first _ _ behind_kind) in
    let behind_offset = and_second _ _ behind_kind in
    let disc : s.disc ≡ t.disc = nat_same _ _ (and_first _ _ behind_offset) in
    let name : s.name ≡ t.name = (bytes_decides s.name t.name).0 (and_second _ _ behind_offset) in
    λ i. record { kind = kind i; offset = offset i; disc = disc i; name = name i }

pub step_itself : (s : Step) → same_step s s ≡ true
step_itself s =
    and_both _ _ (nat_refl (kind_rank s.kind)) (and_both _ _ (nat_refl s.offset) (and_both _ _ (nat_refl s.disc) ((bytes_decides s.name s.name).1 refl)))

pub same_ways : (x y : Way) → same_way x y ≡ true → x ≡ y
same_ways [] [] e = refl
same_ways [] (t ∷ y) e = absurd (true≢false (sym e))
same_ways (s ∷ x) [] e = absurd (true≢false (sym e))
same_ways (s ∷ x) (t ∷ y) e =
    let first : s ≡ t = same_steps s t (and_first (same_step s t) (same_way x y) e) in
    let rest : x ≡ y = same_ways x y (and_second (same_step s t) (same_way x y) e) in
    λ i. first i ∷ rest i

pub way_itself : (x : Way) → same_way x x ≡ true
way_itself [] = refl
way_itself (s ∷ x) = and_both (same_step s s) (same_way x x) (step_itself s) (way_itself x)
