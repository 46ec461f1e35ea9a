-- The orders of a profile, and lists in an order.
use Rattle.std.specs.Prelude.{ℕ, List, [], ◌∷◌}
use Rattle.std.specs.Cmp.Lexicographic.{slice_cmp}
use Rattle.std.specs.declared.cmp.Ordering.{Ordering}
use Rattle.std.specs.declared.cmp.Ordering.TheVariants.{Less, Equal, Greater}
use Rattle.std.specs.Ordering.{nat_cmp, on, flip_args, then_cmp}
use Rattle.profile_model.specs.Ways.{Kind, Step, Way, kind_rank, function, body, call}

-- Names go by their bytes.
abbrev pub name_cmp : List ℕ → List ℕ → Ordering
name_cmp = slice_cmp nat_cmp

-- The total of a function; other steps have none.
abbrev pub function_total : (List ℕ → ℕ) → Kind → List ℕ → ℕ
function_total total function name = total name
function_total total body name = 0
function_total total call name = 0

-- Functions go by their totals, the greatest first, then by name. Below one, body lines come before calls. Body lines
-- go by offset, then by discriminator. Calls go by offset, by discriminator, then by the callee's name.
abbrev pub step_cmp : (List ℕ → ℕ) → Step → Step → Ordering
step_cmp total =
    then_cmp (on (λ s. kind_rank s.kind) nat_cmp)
    (then_cmp (flip_args (on (λ s. function_total total s.kind s.name) nat_cmp))
    (then_cmp (on (λ s. s.offset) nat_cmp)
    (then_cmp (on (λ s. s.disc) nat_cmp) (on (λ s. s.name) name_cmp))))

-- Ways go by their first step that differs. A way comes before those that begin with it.
-- Why: Lines are ordered by their ways, the steps that lead to them, so that one order gives the whole text.
abbrev pub way_cmp : (List ℕ → ℕ) → Way → Way → Ordering
way_cmp total = slice_cmp (step_cmp total)

-- Targets, each a callee and how often it was called, go by that number, the greatest first, then by name.
abbrev pub target_cmp : List ℕ × ℕ → List ℕ × ℕ → Ordering
target_cmp = then_cmp (flip_args (on (λ target. target.1) nat_cmp)) (on (λ target. target.0) name_cmp)

-- An item before or behind the first of others, of which `more` are those behind the first together with the item.
abbrev pub placed : {T : Type 0} → Ordering → T → T → List T → List T → List T
placed Less x y items more = x ∷ y ∷ items
placed Equal x y items more = y ∷ items
placed Greater x y items more = y ∷ more

-- An ordered list with one more item in its place, unless it is there already.
abbrev pub with_item : {T : Type 0} → (T → T → Ordering) → T → List T → List T
with_item cmp x [] = x ∷ []
with_item cmp x (y ∷ items) = placed (cmp x y) x y items (with_item cmp x items)

-- The distinct items of a list, in order.
abbrev pub ordered : {T : Type 0} → (T → T → Ordering) → List T → List T
ordered cmp [] = []
ordered cmp (x ∷ items) = with_item cmp x (ordered cmp items)
