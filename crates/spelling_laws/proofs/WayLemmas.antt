-- The ways of lines, and the lines of ways.
use Rattle.std.proofs.Common.{◌≡◌, ◌⊎◌, ◌<◌, ◌≤◌, ◌-◌, ℕ, suc, ◌+◌, ◌==◌, true, List, [], ◌∷◌, ◌++◌, map, length, refl, sym, ap, subst, ◌∙◌, inl, inr, arith}
use Rattle.std.specs.Prelude.{⊤}
use Rattle.std.proofs.lemmas.Bool.Decides.{nat_tests}
use Rattle.profile_model.specs.Profile.{Profile, line_by, line_at}
use Rattle.profile_model.specs.Standing.{depth_of, step_of, encloses}
use Rattle.profile_model.specs.Ways.{Step, Way, function, body, call, beginnings, last_step}
use Rattle.profile_laws.proofs.TotalLemmas.{Among}
use Rattle.spelling_laws.specs.Told.{IsFunctionStep, IsBodyStep, IsCallStep, EndInBody, IsToldWay, IsFunctionWay}

-- What stands behind the function on a line: inlined calls, and a call or a body line last; or nothing.
abbrev pub EndInLine : Way → Type 0
EndInLine [] = ⊤
EndInLine (s ∷ []) = IsCallStep s ⊎ IsBodyStep s
EndInLine (s ∷ t ∷ way) = IsCallStep s × EndInLine (t ∷ way)

-- The way of a line.
abbrev pub IsLineWay : Way → Type 0
IsLineWay [] = ⊥
IsLineWay (s ∷ way) = IsFunctionStep s × EndInLine way × (length way ≤ 256)

-- all steps but the last one
abbrev pub but_last : Step → Way → Way
but_last s [] = []
but_last s (t ∷ way) = s ∷ but_last t way

pub joined : (s : Step) (way : Way) → but_last s way ++ last_step s way ∷ [] ≡ s ∷ way
joined s [] = refl
joined s (t ∷ way) = ap (λ w. s ∷ w) (joined t way)

pub but_last_length : (s : Step) (way : Way) → length (but_last s way) ≡ length way
but_last_length s [] = refl
but_last_length s (t ∷ way) = ap suc (but_last_length t way)

-- ---- the beginnings of a key's way

record IsBeginning (way : Way) : Type 0 where
  ends : EndInLine way
  some : 0 < length way

in_front : (s : Step) (way : Way) → IsCallStep s → IsBeginning way → IsBeginning (s ∷ way)
in_front s [] is rest = absurd (let none = rest.some in omega arith)
in_front s (t ∷ way) is rest = record { ends = (is, rest.ends); some = omega arith }

among_longer : (P : Way → Type 0) (s : Step) (ways : List Way) → ((way : Way) → Among way ways → P (s ∷ way)) → (way : Way) → Among way (map (λ front. s ∷ front) ways) → P way
among_longer P s [] each way there = absurd there
among_longer P s (first ∷ ways) each way there = elim there as (λ _. P way) [
  | inl e ↦ subst P (sym e) (each first (inl refl))
  | inr r ↦ among_longer P s ways (λ w h. each w (inr h)) way r
]

-- lengths of beginnings
pub beginning_length : (key : Way) (way : Way) → Among way (beginnings key) → length way ≤ length key
beginning_length [] way there = absurd there
beginning_length (s ∷ key) way there = elim there as (λ _. length way ≤ suc (length key)) [
  | inl e ↦ let is = ap length e in omega arith
  | inr r ↦ among_longer (λ w. length w ≤ suc (length key)) s (beginnings key) (λ w h. let short = beginning_length key w h in omega (arith, short)) way r
]

ends_in_line : (key : Way) → EndInBody key → (way : Way) → Among way (beginnings key) → IsBeginning way
ends_in_line [] ends way there = absurd ends
ends_in_line (s ∷ []) ends way there = elim there as (λ _. IsBeginning way) [
  | inl e ↦ subst IsBeginning (sym e) (record { ends = inr ends; some = omega arith })
  | inr r ↦ absurd r
]
ends_in_line (s ∷ t ∷ key) ends way there = elim there as (λ _. IsBeginning way) [
  | inl e ↦ subst IsBeginning (sym e) (record { ends = inl ends.0; some = omega arith })
  | inr r ↦ among_longer IsBeginning s (beginnings (t ∷ key)) (λ w h. in_front s w ends.0 (ends_in_line (t ∷ key) ends.1 w h)) way r
]

pub key_lines : (key : Way) → IsToldWay key → (way : Way) → Among way (beginnings key) → IsLineWay way
key_lines [] told way there = absurd told
key_lines (s ∷ key) told way there = elim there as (λ _. IsLineWay way) [
  | inl e ↦ subst IsLineWay (sym e) (told.0, tt, omega arith)
  | inr r ↦ among_longer IsLineWay s (beginnings key)
      (λ w h. (told.0, (ends_in_line key told.1 w h).ends, (let short = beginning_length key w h in omega (arith, short, told.2)))) way r
]

pub function_lines : (key : Way) → IsFunctionWay key → (way : Way) → Among way (beginnings key) → IsLineWay way
function_lines [] told way there = absurd told
function_lines (s ∷ []) told way there = elim there as (λ _. IsLineWay way) [
  | inl e ↦ subst IsLineWay (sym e) (told, tt, omega arith)
  | inr r ↦ absurd r
]
function_lines (s ∷ t ∷ key) told way there = absurd told

-- ---- last steps

pub last_is : (s : Step) (way : Way) → EndInLine (s ∷ way) → IsCallStep (last_step s way) ⊎ IsBodyStep (last_step s way)
last_is s [] ends = ends
last_is s (t ∷ way) ends = last_is t way ends.1

-- what stands before the last one
pub call_above : (s t : Step) (way : Way) → EndInLine (s ∷ t ∷ way) → IsCallStep (last_step s (but_last t way))
call_above s t [] ends = ends.0
call_above s t (u ∷ way) ends = call_above t u way ends.1

kind_of_call : (s : Step) → IsCallStep s → s.kind ≡ call
kind_of_call s is = ap (λ (t : Step). t.kind) is.0

kind_of_body : (s : Step) → IsBodyStep s → s.kind ≡ body
kind_of_body s is = ap (λ (t : Step). t.kind) is.0

kind_of_function : (s : Step) → IsFunctionStep s → s.kind ≡ function
kind_of_function s is = ap (λ (t : Step). t.kind) is.0

-- ---- the lines of ways

-- What the line of a way is, by its last step.
pub data LineOf (p : Profile) (way : Way) : Type 0 where
  a_function : (s : Step) → way ≡ s ∷ [] → IsFunctionStep s → line_at p way ≡ line_by p way s function → LineOf p way
  a_body : (s t : Step) (rest : Way) → way ≡ s ∷ t ∷ rest → IsBodyStep (last_step t rest) → line_at p way ≡ line_by p way (last_step t rest) body → LineOf p way
  a_call : (s t : Step) (rest : Way) → way ≡ s ∷ t ∷ rest → IsCallStep (last_step t rest) → line_at p way ≡ line_by p way (last_step t rest) call → LineOf p way

pub line_of_way : (p : Profile) (way : Way) → IsLineWay way → LineOf p way
line_of_way p [] is = absurd is
line_of_way p (s ∷ []) is = a_function s refl is.0 (ap (line_by p (s ∷ []) s) (kind_of_function s is.0))
line_of_way p (s ∷ t ∷ way) is = elim (last_is t way is.1) as (λ _. LineOf p (s ∷ t ∷ way)) [
  | inl c ↦ a_call s t way refl c (ap (line_by p (s ∷ t ∷ way) (last_step t way)) (kind_of_call (last_step t way) c))
  | inr b ↦ a_body s t way refl b (ap (line_by p (s ∷ t ∷ way) (last_step t way)) (kind_of_body (last_step t way) b))
]

pub depth_is : (p : Profile) (s : Step) (way : Way) → IsLineWay (s ∷ way) → depth_of (line_at p (s ∷ way)) ≡ length way
depth_is p s [] is = ap (λ k. depth_of (line_by p (s ∷ []) s k)) (kind_of_function s is.0)
depth_is p s (t ∷ way) is =
    elim (last_is t way is.1) as (λ _. depth_of (line_at p (s ∷ t ∷ way)) ≡ suc (length way)) [
      | inl c ↦ ap (λ k. depth_of (line_by p (s ∷ t ∷ way) (last_step t way) k)) (kind_of_call (last_step t way) c) ∙ one_less (suc (length way))
      | inr b ↦ ap (λ k. depth_of (line_by p (s ∷ t ∷ way) (last_step t way) k)) (kind_of_body (last_step t way) b) ∙ one_less (suc (length way))
    ]
  where
    one_less : (n : ℕ) → suc n - 1 ≡ n
    one_less n = omega arith

pub step_is : (p : Profile) (s : Step) (way : Way) → IsLineWay (s ∷ way) → step_of (line_at p (s ∷ way)) ≡ last_step s way
step_is p s [] is = ap (λ k. step_of (line_by p (s ∷ []) s k)) (kind_of_function s is.0) ∙ sym is.0.0
step_is p s (t ∷ way) is =
    elim (last_is t way is.1) as (λ _. step_of (line_at p (s ∷ t ∷ way)) ≡ last_step t way) [
      | inl c ↦ ap (λ k. step_of (line_by p (s ∷ t ∷ way) (last_step t way) k)) (kind_of_call (last_step t way) c) ∙ sym c.0
      | inr b ↦ ap (λ k. step_of (line_by p (s ∷ t ∷ way) (last_step t way) k)) (kind_of_body (last_step t way) b) ∙ sym b.0
    ]

-- the line above another encloses it
pub encloses_is : (p : Profile) (s t : Step) (way : Way) → IsLineWay (s ∷ t ∷ way) → encloses (suc (length way)) (line_at p (s ∷ but_last t way)) ≡ true
encloses_is p s t [] is = ap (λ k. encloses 1 (line_by p (s ∷ []) s k)) (kind_of_function s is.0)
encloses_is p s t (u ∷ way) is =
    ap (λ k. encloses (suc (suc (length way))) (line_by p (s ∷ t ∷ but_last u way) (last_step t (but_last u way)) k)) (kind_of_call (last_step t (but_last u way)) (call_above t u way is.1))
    ∙ ap (λ n. suc (suc (length way)) == suc (suc n) - 1 + 1) (but_last_length u way) ∙ same (length way)
  where
    same : (n : ℕ) → (suc (suc n) == suc (suc n) - 1 + 1) ≡ true
    same n = grind (arith, nat_tests)
