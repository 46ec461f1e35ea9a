-- The orders of a profile are total and tell apart.
use Rattle.std.proofs.Common.{◌≡◌, ℕ, List, [], ◌∷◌, refl, sym, arith}
use Rattle.std.specs.Cmp.{IsTotalOrder}
use Rattle.std.specs.Cmp.Lexicographic.{slice_cmp, lists_total}
use Rattle.std.specs.declared.cmp.Ordering.{Ordering}
use Rattle.std.specs.declared.cmp.Ordering.TheVariants.{Less, Equal, Greater}
use Rattle.std.specs.Ordering.{nat_cmp, ordering_then}
use Rattle.std.proofs.lemmas.Bool.Decides.{nat_tests}
use Rattle.std.proofs.lemmas.Cmp.{nat_cmp_total, nat_list_cmp_total, on_total, then_total, back_total}
use Rattle.profile_model.specs.Laws.{TellsApart, OrdersTellApart}
use Rattle.profile_model.specs.Orders.{name_cmp, function_total, step_cmp, way_cmp, target_cmp}
use Rattle.profile_model.specs.Ways.{Kind, Step, kind_rank, function, body, call}

pub nat_apart : (x y : ℕ) → nat_cmp x y ≡ Equal → x ≡ y
nat_apart x y e = grind (arith, nat_tests)

pub then_first : (r s : Ordering) → ordering_then r s ≡ Equal → r ≡ Equal
then_first Less s e = cc
then_first Equal s e = refl
then_first Greater s e = cc

pub then_second : (r s : Ordering) → ordering_then r s ≡ Equal → s ≡ Equal
then_second Less s e = cc
then_second Equal s e = e
then_second Greater s e = cc

pub lists_apart : {T : Type 0} (cmp : T → T → Ordering) → ((x y : T) → cmp x y ≡ Equal → x ≡ y) → (xs ys : List T) → slice_cmp cmp xs ys ≡ Equal → xs ≡ ys
lists_apart cmp apart [] [] e = refl
lists_apart cmp apart [] (y ∷ ys) e = cc
lists_apart cmp apart (x ∷ xs) [] e = cc
lists_apart cmp apart (x ∷ xs) (y ∷ ys) e =
    let first : x ≡ y = apart x y (then_first (cmp x y) (slice_cmp cmp xs ys) e) in
    let rest : xs ≡ ys = lists_apart cmp apart xs ys (then_second (cmp x y) (slice_cmp cmp xs ys) e) in
    λ i. first i ∷ rest i

pub names_apart : (x y : List ℕ) → name_cmp x y ≡ Equal → x ≡ y
names_apart = lists_apart nat_cmp nat_apart

pub kinds_apart : (k l : Kind) → kind_rank k ≡ kind_rank l → k ≡ l
kinds_apart function function e = refl
kinds_apart function body e = absurd (omega arith)
kinds_apart function call e = absurd (omega arith)
kinds_apart body function e = absurd (omega arith)
kinds_apart body body e = refl
kinds_apart body call e = absurd (omega arith)
kinds_apart call function e = absurd (omega arith)
kinds_apart call body e = absurd (omega arith)
kinds_apart call call e = refl

pub step_total : (total : List ℕ → ℕ) → IsTotalOrder (step_cmp total)
step_total total =
    then_total (on_total (λ s. kind_rank s.kind) nat_cmp_total)
    (then_total (back_total (on_total (λ s. function_total total s.kind s.name) nat_cmp_total))
    (then_total (on_total (λ s. s.offset) nat_cmp_total)
    (then_total (on_total (λ s. s.disc) nat_cmp_total) (on_total (λ s. s.name) nat_list_cmp_total))))

pub steps_apart : (total : List ℕ → ℕ) (s t : Step) → step_cmp total s t ≡ Equal → s ≡ t
steps_apart total s t e =
    let kind : s.kind ≡ t.kind = kinds_apart s.kind t.kind (nat_apart _ _ (then_first _ _ e)) in
    let behind_kind = then_second _ _ e in
    let behind_total = then_second _ _ behind_kind in
    let offset : s.offset ≡ t.offset = nat_apart _ _ (then_first _ _ behind_total) in
    let behind_offset = then_second _ _ behind_total in
    let disc : s.disc ≡ t.disc = nat_apart _ _ (then_first _ _ behind_offset) in
    let name : s.name ≡ t.name = names_apart _ _ (then_second _ _ behind_offset) in
    λ i. record { kind = kind i; offset = offset i; disc = disc i; name = name i }

pub ways_tell_apart : (total : List ℕ → ℕ) → TellsApart (way_cmp total)
ways_tell_apart total = record {
  total = lists_total (step_total total);
  apart = lists_apart (step_cmp total) (steps_apart total);
}

pub targets_tell_apart : TellsApart target_cmp
targets_tell_apart = record {
  total = then_total (back_total (on_total (λ x. x.1) nat_cmp_total)) (on_total (λ x. x.0) nat_list_cmp_total);
  apart = λ x y e.
      let times : y.1 ≡ x.1 = nat_apart _ _ (then_first _ _ e) in
      let name : x.0 ≡ y.0 = names_apart _ _ (then_second _ _ e) in
      λ i. (name i, sym times i);
}

pub orders_tell_apart : OrdersTellApart
orders_tell_apart = (ways_tell_apart, targets_tell_apart)
