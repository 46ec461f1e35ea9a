-- Texts appended one by one.
use Rattle.std.proofs.Common.{◌≡◌, ℕ, List, ◌++◌, ◌∙◌, append_assoc}

joined : (o a b : List ℕ) → (o ++ a) ++ b ≡ o ++ (a ++ b)
joined o a b = append_assoc o a b

pub joined4 : (o a b c d : List ℕ) → (((o ++ a) ++ b) ++ c) ++ d ≡ o ++ (a ++ (b ++ (c ++ d)))
joined4 o a b c d = joined ((o ++ a) ++ b) c d ∙ joined (o ++ a) b (c ++ d) ∙ joined o a (b ++ (c ++ d))

pub joined5 : (o a b c d e : List ℕ) → ((((o ++ a) ++ b) ++ c) ++ d) ++ e ≡ o ++ (a ++ (b ++ (c ++ (d ++ e))))
joined5 o a b c d e =
    joined (((o ++ a) ++ b) ++ c) d e ∙ joined ((o ++ a) ++ b) c (d ++ e) ∙ joined (o ++ a) b (c ++ (d ++ e)) ∙ joined o a (b ++ (c ++ (d ++ e)))

pub joined9 : (o a b c d e f g h i : List ℕ) → ((((((((o ++ a) ++ b) ++ c) ++ d) ++ e) ++ f) ++ g) ++ h) ++ i ≡ o ++ (a ++ (b ++ (c ++ (d ++ (e ++ (f ++ (g ++ (h ++ i))))))))
joined9 o a b c d e f g h i =
    joined5 ((((o ++ a) ++ b) ++ c) ++ d) e f g h i ∙ joined (((o ++ a) ++ b) ++ c) d (e ++ (f ++ (g ++ (h ++ i))))
    ∙ joined ((o ++ a) ++ b) c (d ++ (e ++ (f ++ (g ++ (h ++ i))))) ∙ joined (o ++ a) b (c ++ (d ++ (e ++ (f ++ (g ++ (h ++ i)))))) ∙ joined o a _
