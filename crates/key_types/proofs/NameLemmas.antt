-- Whether a text is a name, by its first byte.
use Rattle.std.proofs.Common.{◌≡◌, ℕ, true, false, not, List, [], ◌∷◌, None, Some, refl, ap, sym, ◌∙◌}
use Rattle.std.specs.Prelude.{◌&&◌, slice_get}
use Rattle.std.specs.List.{list_any}
use Rattle.std.proofs.lemmas.Option.{same_Some}
use Rattle.profile_model.specs.Names.{begins_no_name, is_name, parts_names}

pub is_name-none : (text : List ℕ) → slice_get text 0 ≡ None → false ≡ is_name text
is_name-none [] none = refl
is_name-none (byte ∷ text) none = cc

pub is_name-bad : (text : List ℕ) (first : ℕ) → slice_get text 0 ≡ Some first → begins_no_name first ≡ true → false ≡ is_name text
is_name-bad [] first is bad = cc
is_name-bad (byte ∷ text) first is bad =
    let same : byte ≡ first = same_Some _ _ is in
    sym (ap (λ b. not b && not (list_any parts_names (byte ∷ text))) (ap begins_no_name same ∙ bad))

pub is_name-good : (text : List ℕ) (first : ℕ) → slice_get text 0 ≡ Some first → begins_no_name first ≡ false → not (list_any parts_names text) ≡ is_name text
is_name-good [] first is good = cc
is_name-good (byte ∷ text) first is good =
    let same : byte ≡ first = same_Some _ _ is in
    sym (ap (λ b. not b && not (list_any parts_names (byte ∷ text))) (ap begins_no_name same ∙ good))

pub ruleset name_lemmas = (is_name-none, is_name-bad, is_name-good)
