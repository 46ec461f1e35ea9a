-- Targets, word by word.
use Rattle.std.proofs.Common.{◌≡◌, ℕ, List, [], ◌∷◌, ◌++◌, Option, None, Some, refl, sym, ap, ◌∙◌, append_assoc, append-nil}
use Rattle.std.specs.Option.{option_map}
use Rattle.profile_model.specs.Reading.{◌>>=◌, named_of, targets_of}

-- targets behind others, if there are any
abbrev pub after : List (List ℕ × ℕ) → Option (List (List ℕ × ℕ)) → Option (List (List ℕ × ℕ))
after front targets = option_map (λ list. front ++ list) targets

pub no_more : (front : List (List ℕ × ℕ)) (whole : Option (List (List ℕ × ℕ))) → whole ≡ after front (targets_of []) → Some front ≡ whole
unfolding targets_of
no_more front whole is = sym (is ∙ ap Some (append-nil front))

pub one_more : (front : List (List ℕ × ℕ)) (whole : Option (List (List ℕ × ℕ))) (word : List ℕ) (words : List (List ℕ)) (target : List ℕ × ℕ)
    → whole ≡ after front (targets_of (word ∷ words)) → named_of word ≡ Some target → whole ≡ after (front ++ target ∷ []) (targets_of words)
unfolding targets_of
one_more front whole word words target is read = is ∙ rw read (joined (targets_of words))
  where
    joined : (more : Option (List (List ℕ × ℕ))) → after front (more >>= (λ list. Some (target ∷ list))) ≡ after (front ++ target ∷ []) more
    joined None = refl
    joined (Some list) = ap Some (sym (append_assoc front (target ∷ []) list))

pub none_read : (front : List (List ℕ × ℕ)) (whole : Option (List (List ℕ × ℕ))) (word : List ℕ) (words : List (List ℕ))
    → whole ≡ after front (targets_of (word ∷ words)) → named_of word ≡ None → None ≡ whole
unfolding targets_of
none_read front whole word words is none = sym (is ∙ rw none refl)
