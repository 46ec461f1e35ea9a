-- Functions that are asked for, one after the other.
use Rattle.std.proofs.Common.{◌≡◌, ℕ, suc, ◌+◌, ◌<◌, ◌≤◌, Bool, true, false, List, [], ◌∷◌, Option, None, Some, refl, sym, ap, ◌∙◌, arith, inl, inr, length, take, set, get_or, get_or-set_other, get_or-set_same}
use Rattle.std.specs.Option.{option_or}
use Rattle.std.proofs.Math.Seq.{take-suc}
use Rattle.std.proofs.lemmas.Bool.{cases_eq}
use Rattle.std.proofs.lemmas.List.{take_all}
use Rattle.address_spans.specs.declared.span.Span.{Span}
use Rattle.address_spans.specs.Spans.{holds, owner_at}
use Rattle.address_spans.proofs.SpanLemmas.{owner-append, owner-hit, owner-miss}
use Rattle.span_cover.specs.Asked.{Keeps, asks, is_asked}

pub marked : (marks : List Bool) (function : ℕ) → function < length marks → is_asked (set marks function true) function ≡ true
marked marks function there = get_or-set_same marks function true true there

pub marked-keeps : (marks : List Bool) (function : ℕ) → function < length marks → Keeps marks (set marks function true)
marked-keeps marks function there other asked = elim (cases_eq other function) [
  | inl same ↦ ap (is_asked (set marks function true)) same ∙ marked marks function there
  | inr apart ↦ get_or-set_other marks function other true true apart ∙ asked
]

asks-more : (marks more : List Bool) (o : Option ℕ) → Keeps marks more → asks marks o ≡ true → asks more o ≡ true
asks-more marks more None kept asked = refl
asks-more marks more (Some function) kept asked = kept function asked

asks-or : (marks : List Bool) (o p : Option ℕ) → asks marks o ≡ true → asks marks p ≡ true → asks marks (option_or o p) ≡ true
asks-or marks None p first second = second
asks-or marks (Some function) p first second = first

asks-span : (marks : List Bool) (x : Span) (a : ℕ) → is_asked marks x.owner ≡ true → asks marks (owner_at (x ∷ []) a) ≡ true
asks-span marks x a asked = by (holds a x) refl
  where
    by : (b : Bool) → holds a x ≡ b → asks marks (owner_at (x ∷ []) a) ≡ true
    by true hit = ap (asks marks) (owner-hit x [] a hit) ∙ asked
    by false miss = ap (asks marks) (owner-miss x [] a miss)

-- how far the owners of spans were taken
pub record AsksSoFar (old : List Bool) (spans : List Span) (i : ℕ) (marks : List Bool) : Type 0 where
  pub asked : (a : ℕ) → asks marks (owner_at (take i spans) a) ≡ true
  pub kept : Keeps old marks

pub AsksSoFar-none : (old : List Bool) (spans : List Span) → AsksSoFar old spans 0 old
AsksSoFar-none old spans = record { asked = λ a. refl; kept = λ function asked. asked }

pub AsksSoFar-more : (old : List Bool) (spans : List Span) (i : ℕ) (marks more : List Bool) (d : Span) → i < length spans → AsksSoFar old spans i marks
    → is_asked more (get_or spans i d).owner ≡ true → Keeps marks more → AsksSoFar old spans (i + 1) more
AsksSoFar-more old spans i marks more d there so_far asked kept = record {
  asked = λ a.
      ap (λ (ss : List Span). asks more (owner_at ss a)) (let one : i + 1 ≡ suc i = omega arith in ap (λ n. take n spans) one ∙ take-suc spans i d there)
      ∙ ap (asks more) (owner-append (take i spans) (get_or spans i d ∷ []) a)
      ∙ asks-or more (owner_at (take i spans) a) (owner_at (get_or spans i d ∷ []) a) (asks-more marks more (owner_at (take i spans) a) kept (so_far.asked a)) (asks-span more (get_or spans i d) a asked);
  kept = λ function before. kept function (so_far.kept function before);
}

pub AsksSoFar-all : (old : List Bool) (spans : List Span) (i : ℕ) (marks : List Bool) → length spans ≤ i → AsksSoFar old spans i marks → (a : ℕ) → asks marks (owner_at spans a) ≡ true
AsksSoFar-all old spans i marks end so_far a = ap (λ (ss : List Span). asks marks (owner_at ss a)) (sym (take_all i spans end)) ∙ so_far.asked a
