-- One more space, target or line.
use Rattle.std.proofs.Common.{◌≡◌, ℕ, ◌+◌, List, [], ◌∷◌, ◌++◌, refl, ap, ◌∙◌, zero, suc, add-one, append_assoc}
use Rattle.profile_model.specs.Text.{indent}

one_more_space : (k : ℕ) → indent k ++ 32 ∷ [] ≡ indent (suc k)
one_more_space zero = refl
one_more_space (suc k) = ap (λ bs. 32 ∷ bs) (one_more_space k)

pub indent_more : (bs : List ℕ) (k : ℕ) → (bs ++ indent k) ++ 32 ∷ [] ≡ bs ++ indent (k + 1)
indent_more bs k = rw add-one (append_assoc bs (indent k) (32 ∷ []) ∙ ap (λ cs. bs ++ cs) (one_more_space k))
