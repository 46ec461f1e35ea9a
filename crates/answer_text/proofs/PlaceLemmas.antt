-- The text of a place by its parts.
use Rattle.std.proofs.Common.{◌≡◌, ℕ, List, [], ◌∷◌, ◌++◌, Result, Ok, Err, ap, sym, ◌∙◌, append_assoc}
use Rattle.std.specs.Prelude.{codes, map, OnOk}
use Rattle.std.specs.List.{flat_map}
use Rattle.std.proofs.lemmas.List.{append-nil}
use Rattle.key_types.specs.declared.key.Frame.{Frame}
use Rattle.key_types.specs.declared.key.Key.{Key}
use Rattle.profile_model.specs.Text.{location_text}
use Rattle.profile_model.specs.Ways.{to_body, to_call}
use Rattle.binary_model.specs.Places.{way_of}
use Rattle.key_types.specs.Numbers.{name_of}
use Rattle.command_model.specs.Where.{step_text, way_text}
use Rattle.answer_text.specs.Calls.{call_text}

calls-text : (names : List (List ℕ)) (calls : List Frame) (offset disc : ℕ)
    → flat_map (λ step. step_text step.kind step) (map (λ call. to_call call.offset call.disc (name_of names call.name)) calls ++ to_body offset disc ∷ [])
    ≡ flat_map (call_text names) calls ++ (codes " " ++ location_text offset disc)
calls-text names [] offset disc = append-nil (codes " " ++ location_text offset disc)
calls-text names (call ∷ calls) offset disc =
    ap (λ rest. call_text names call ++ rest) (calls-text names calls offset disc)
    ∙ sym (append_assoc (call_text names call) (flat_map (call_text names) calls) (codes " " ++ location_text offset disc))

-- the text of a key, in the order in which it is written
pub key-text : (names : List (List ℕ)) (key : Key) (out front calls all : List ℕ)
    → front ≡ out ++ name_of names key.root → calls ≡ front ++ flat_map (call_text names) key.calls → all ≡ calls ++ (codes " " ++ location_text key.offset key.disc)
    → all ≡ out ++ way_text (way_of names key)
key-text names key out front calls all first second third =
    let root = name_of names key.root in
    let inlined = flat_map (call_text names) key.calls in
    let body = codes " " ++ location_text key.offset key.disc in
    third ∙ ap (λ bs. bs ++ body) (second ∙ ap (λ bs. bs ++ inlined) first)
    ∙ append_assoc (out ++ root) inlined body ∙ append_assoc out root (inlined ++ body)
    ∙ ap (λ rest. out ++ (root ++ rest)) (sym (calls-text names key.calls key.offset key.disc))

pub on_ok : {T E A B : Type 0} (r : Result T E) → OnOk r A → (A → B) → OnOk r B
on_ok (Ok x) h f = f h
on_ok (Err e) h f = tt
