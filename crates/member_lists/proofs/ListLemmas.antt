-- A call more behind the members of one of several functions.
use Rattle.std.proofs.Common.{◌≡◌, ◌<◌, ◌≤◌, ℕ, zero, suc, List, [], ◌∷◌, ◌++◌, length, map, set, get_or, Option, Some, refl, sym, ap, ◌∙◌, append_assoc, append-nil, arith}
use Rattle.std.specs.List.{flat_map}
use Rattle.std.proofs.lemmas.List.{length-map}
use Rattle.tree_model.specs.Tree.{with_call, with_member}

with_member-at : {T X : Type 0} (items : X → List T) (number : ℕ) (call : T) (list new : X) (lists : List X) → number < length lists
    → list ≡ get_or lists number list → items new ≡ items list ++ call ∷ []
    → map items (set lists number new) ≡ with_member number call (map items lists)
with_member-at items number call list new [] within old more = absurd (omega arith)
with_member-at items zero call list new (first ∷ rest) within old more =
    ap (λ x. x ∷ map items rest) (more ∙ ap (λ l. items l ++ call ∷ []) old)
with_member-at items (suc number) call list new (first ∷ rest) within old more =
    ap (λ x. items first ∷ x) (with_member-at items number call list new rest (omega arith) old more)

with_member-past : {T : Type 0} (number : ℕ) (call : T) (lists : List (List T)) → length lists ≤ number → with_member number call lists ≡ lists
with_member-past number call [] past = refl
with_member-past zero call (first ∷ rest) past = absurd (omega arith)
with_member-past (suc number) call (first ∷ rest) past = ap (λ more. first ∷ more) (with_member-past number call rest (omega arith))

-- the function of the number has the call as well
pub with_call-at : {T X : Type 0} (items : X → List T) (function : Option ℕ) (number : ℕ) (call : T) (list new : X) (lists : List X) (now : List (List T))
    → function ≡ Some number → map items lists ≡ now → number < length lists → list ≡ get_or lists number list
    → items new ≡ items list ++ call ∷ [] → map items (set lists number new) ≡ with_call function call now
with_call-at items function number call list new lists now is view within old more =
    with_member-at items number call list new lists within old more
    ∙ ap (λ all. with_member number call all) view ∙ ap (λ f. with_call f call now) (sym is)

-- there is no function of that number
pub with_call-past : {T X : Type 0} (items : X → List T) (function : Option ℕ) (number : ℕ) (call : T) (lists : List X) (now : List (List T))
    → function ≡ Some number → map items lists ≡ now → length lists ≤ number → now ≡ with_call function call now
with_call-past items function number call lists now is view past =
    let same : length lists ≡ length now = simp length-map at (ap length view) in
    let few : length now ≤ number = omega arith in
    sym (ap (λ f. with_call f call now) is ∙ with_member-past number call now few)

-- ---- the lists one behind the other

-- a list more
pub joined-more : {T X : Type 0} (items : X → List T) (x : X) (old rest : List X) (before after total : List T)
    → old ≡ x ∷ rest → after ≡ before ++ items x → before ++ flat_map items old ≡ total → after ++ flat_map items rest ≡ total
joined-more items x old rest before after total first more joined =
    ap (λ l. l ++ flat_map items rest) more ∙ append_assoc before (items x) (flat_map items rest)
    ∙ ap (λ s. before ++ flat_map items s) (sym first) ∙ joined

nothing_left : {X : Type 0} (left : List X) → length left ≡ 0 → left ≡ []
nothing_left [] none = refl
nothing_left (x ∷ left) none = absurd (omega arith)

flat_map-lists : {T X : Type 0} (items : X → List T) (lists : List X) → flat_map items lists ≡ flat_map (λ l. l) (map items lists)
flat_map-lists items [] = refl
flat_map-lists items (x ∷ lists) = ap (λ l. items x ++ l) (flat_map-lists items lists)

-- all lists
pub joined-all : {T X : Type 0} (items : X → List T) (left given lists : List X) (made : List T) (now : List (List T))
    → length left ≡ 0 → made ++ flat_map items left ≡ flat_map items given → given ≡ lists → map items lists ≡ now
    → made ≡ flat_map (λ l. l) now
joined-all items left given lists made now none joined whole view =
    sym (append-nil made) ∙ ap (λ l. made ++ flat_map items l) (sym (nothing_left left none)) ∙ joined
    ∙ ap (λ l. flat_map items l) whole ∙ flat_map-lists items lists ∙ ap (λ l. flat_map (λ x. x) l) view
