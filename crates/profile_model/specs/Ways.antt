-- Ways: where a line of a profile stands, as the steps that lead to it from the function that was compiled.
use Rattle.std.specs.Prelude.{ℕ, ◌==◌, nat_eq, Bool, true, false, ◌&&◌, List, [], ◌∷◌, map}
use Rattle.std.specs.Cmp.Lexicographic.{pointwise}

-- What a step leads to.
pub data Kind : Type 0 where
  -- A function that was compiled.
  function : Kind
  -- A body line: a line of the function that the steps before lead to.
  body : Kind
  -- A call that was inlined, and the function that it calls.
  call : Kind

-- The kinds stand in this order.
abbrev pub kind_rank : Kind → ℕ
kind_rank function = 0
kind_rank body = 1
kind_rank call = 2

-- A step. The offset counts lines from the first one of the function above. A function has offset and discriminator 0,
-- and a body line has the empty name.
pub record Step : Type 0 where
  pub kind : Kind
  pub offset : ℕ
  pub disc : ℕ
  pub name : List ℕ

-- A way: at least one step, the outermost first.
abbrev pub Way : Type 0
Way = List Step

abbrev pub to_function : List ℕ → Step
to_function name = record { kind = function; offset = 0; disc = 0; name = name }

abbrev pub to_body : ℕ → ℕ → Step
to_body offset disc = record { kind = body; offset = offset; disc = disc; name = [] }

abbrev pub to_call : ℕ → ℕ → List ℕ → Step
to_call offset disc name = record { kind = call; offset = offset; disc = disc; name = name }

-- Two names are the same where their bytes are.
abbrev pub same_name : List ℕ → List ℕ → Bool
same_name = pointwise nat_eq

-- Two steps are the same where all their parts are.
abbrev pub same_step : Step → Step → Bool
same_step s t =
    kind_rank s.kind == kind_rank t.kind
    && (s.offset == t.offset && (s.disc == t.disc && same_name s.name t.name))

-- Two ways are the same where their steps are.
abbrev pub same_way : Way → Way → Bool
same_way = pointwise same_step

-- Whether the second list begins with the first.
abbrev pub is_front : {T : Type 0} → (T → T → Bool) → List T → List T → Bool
is_front same [] list = true
is_front same (s ∷ front) [] = false
is_front same (s ∷ front) (t ∷ list) = same s t && is_front same front list

-- Whether the second way begins with the first.
abbrev pub leads_to : Way → Way → Bool
leads_to = is_front same_step

-- The ways that a way begins with, the shortest first and itself last.
abbrev pub beginnings : {T : Type 0} → List T → List (List T)
beginnings [] = []
beginnings (s ∷ way) = (s ∷ []) ∷ map (λ front. s ∷ front) (beginnings way)

-- The last step of a way that goes on behind a step.
abbrev pub last_step : Step → Way → Step
last_step s [] = s
last_step s (t ∷ way) = last_step t way
