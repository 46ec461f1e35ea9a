-- Packed attributes, as those that they stand for.
use Rattle.std.proofs.Common.{◌≡◌, ℕ, ◌+◌, ◌-◌, ◌<◌, List, [], ◌∷◌, ◌++◌, length, take, drop, get_or, Option, None, Some, refl, sym, ap, subst, ◌∙◌, arith}
use Rattle.std.specs.Prelude.{slice_range}
use Rattle.std.specs.Borrow.{Bor}
use Rattle.std.proofs.lemmas.List.{length-append, map-append, append-nil, get_or_append_left, get_or-append-add, drop-map, take-map, length-map}
use Rattle.value_model.specs.Value as model
use Rattle.unit_model.specs.Values.{Found}
use Rattle.dwarf_info.specs.declared.packed.ValueClass.{ValueClass}
use Rattle.dwarf_info.specs.declared.packed.ValueClass.TheVariants as classes
use Rattle.dwarf_info.specs.declared.packed.Packed.{Packed}
use Rattle.dwarf_info.specs.Packed.{texts_of, by_number, or_text, value_of, found_of, all_found, IsText, AreHeld, Extends, IsKeptAs, IsPackedAs}

-- ---- one value

-- a value that its number tells is kept as its class and number
pub kept-number : (texts : List (List ℕ)) (value : model.Value) (class : ValueClass) (n : ℕ) → by_number class n ≡ Some value → IsKeptAs texts value class n
kept-number texts value class n told = record {
  held = λ none. let e : ◌≡◌ {A = Option model.Value} None (Some value) = sym none ∙ told in absurd cc;
  is = ap (or_text texts n) told;
}

-- a text that was put behind the others is kept as its place
pub kept-text : (texts : List (Bor (List ℕ))) (text : Bor (List ℕ)) (n : ℕ) → n ≡ length texts → IsKeptAs (texts_of (texts ++ text ∷ [])) (model.text text.now) classes.Text n
kept-text texts text n at =
    let all : texts_of (texts ++ text ∷ []) ≡ texts_of texts ++ text.now ∷ [] = map-append (λ (t : Bor (List ℕ)). t.now) texts (text ∷ []) in
    let long : length (texts_of texts) ≡ length texts = length-map texts (λ (t : Bor (List ℕ)). t.now) in
    let place : n ≡ length (texts_of texts) + 0 = omega (arith, at, long) in
    record {
      held = λ none. omega (arith, at, length-map (texts ++ text ∷ []) (λ (t : Bor (List ℕ)). t.now), length-append texts (text ∷ []));
      is = ap (λ (ts : List (List ℕ)). model.text (get_or ts n [])) all
          ∙ ap (λ (k : ℕ). model.text (get_or (texts_of texts ++ text.now ∷ []) k [])) place
          ∙ ap (λ (t : List ℕ). model.text t) (get_or-append-add (texts_of texts) (text.now ∷ []) 0 []);
    }

pub extends-same : (texts : List (List ℕ)) → Extends texts texts
extends-same texts = ([], sym (append-nil texts))

pub texts-pushed : (texts : List (Bor (List ℕ))) (text : Bor (List ℕ)) → texts_of (texts ++ text ∷ []) ≡ texts_of texts ++ text.now ∷ []
texts-pushed texts text = map-append (λ (t : Bor (List ℕ)). t.now) texts (text ∷ [])

pub ruleset keep_lemmas = (extends-same, kept-number)

pub packed-is : (texts : List (List ℕ)) (packed : Packed) (more : Found) → packed.name ≡ more.name → packed.at ≡ more.at → IsKeptAs texts more.value packed.class packed.number → IsPackedAs texts more packed
packed-is texts packed more named here kept = record {
  held = kept.held;
  is = ap (λ (n : ℕ). record { name = n; at = packed.at; value = value_of texts packed.class packed.number }) named
      ∙ ap (λ (n : ℕ). record { name = more.name; at = n; value = value_of texts packed.class packed.number }) here
      ∙ ap (λ (v : model.Value). record { name = more.name; at = more.at; value = v }) kept.is;
}

pub ruleset pack_lemmas = (extends-same, packed-is)

-- ---- more texts

told-more : (texts more : List (List ℕ)) (n : ℕ) (told : Option model.Value) → (told ≡ None → n < length texts) → or_text (texts ++ more) n told ≡ or_text texts n told
told-more texts more n (Some value) held = refl
told-more texts more n None held = ap (λ (t : List ℕ). model.text t) (get_or_append_left texts more [] n (held refl))

found-more : (texts more : List (List ℕ)) (packed : Packed) → IsText texts packed.class packed.number → found_of (texts ++ more) packed ≡ found_of texts packed
found-more texts more packed held =
    ap (λ (v : model.Value). record { name = packed.name; at = packed.at; value = v }) (told-more texts more packed.number (by_number packed.class packed.number) held)

all-more : (texts more : List (List ℕ)) (packed : List Packed) → AreHeld texts packed → all_found (texts ++ more) packed ≡ all_found texts packed
all-more texts more [] held = refl
all-more texts more (p ∷ ps) held =
    ap (λ (f : Found). f ∷ all_found (texts ++ more) ps) (found-more texts more p held.0) ∙ ap (λ (fs : List Found). found_of texts p ∷ fs) (all-more texts more ps held.1)

held-more : (texts more : List (List ℕ)) (packed : List Packed) → AreHeld texts packed → AreHeld (texts ++ more) packed
held-more texts more [] held = tt
held-more texts more (p ∷ ps) held = (λ none. let here = held.0 none in omega (arith, here, length-append texts more), held-more texts more ps held.1)

-- the attributes stay what they are
pub all-extended : (old new : List (List ℕ)) (packed : List Packed) → Extends old new → AreHeld old packed → all_found new packed ≡ all_found old packed
all-extended old new packed extends held = ap (λ (ts : List (List ℕ)). all_found ts packed) extends.1 ∙ all-more old extends.0 packed held

pub held-extended : (old new : List (List ℕ)) (packed : List Packed) → Extends old new → AreHeld old packed → AreHeld new packed
held-extended old new packed extends held = subst (λ (ts : List (List ℕ)). AreHeld ts packed) (sym extends.1) (held-more old extends.0 packed held)

-- ---- one attribute more

held-push : (texts : List (List ℕ)) (packed : List Packed) (more : Packed) → AreHeld texts packed → IsText texts more.class more.number → AreHeld texts (packed ++ more ∷ [])
held-push texts [] more held here = (here, tt)
held-push texts (p ∷ ps) more held here = (held.0, held-push texts ps more held.1 here)

pub held-pushed : (old new : List (List ℕ)) (packed newer : List Packed) (more : Packed) (found : Found) → Extends old new → AreHeld old packed → IsPackedAs new found more → newer ≡ packed ++ more ∷ []
    → AreHeld new newer
held-pushed old new packed newer more found extends held is pushed =
    subst (λ (ps : List Packed). AreHeld new ps) (sym pushed) (held-push new packed more (held-extended old new packed extends held) is.held)

pub all-pushed : (old new : List (List ℕ)) (packed newer : List Packed) (more : Packed) (found : Found) → Extends old new → AreHeld old packed → IsPackedAs new found more → newer ≡ packed ++ more ∷ []
    → all_found new newer ≡ all_found old packed ++ found ∷ []
all-pushed old new packed newer more found extends held is pushed =
    ap (λ (ps : List Packed). all_found new ps) pushed
    ∙ map-append (found_of new) packed (more ∷ [])
    ∙ ap (λ (fs : List Found). fs ++ found_of new more ∷ []) (all-extended old new packed extends held)
    ∙ ap (λ (f : Found). all_found old packed ++ f ∷ []) is.is

-- ---- those of an entry

pub all-long : (texts : List (List ℕ)) (packed : List Packed) → length (all_found texts packed) ≡ length packed
all-long texts packed = length-map packed (found_of texts)

pub all-slice : (texts : List (List ℕ)) (packed : List Packed) (first end : ℕ) → all_found texts (slice_range packed first end) ≡ slice_range (all_found texts packed) first end
all-slice texts packed first end =
    sym (take-map (found_of texts) (end - first) (drop first packed)) ∙ ap (λ (fs : List Found). take (end - first) fs) (sym (drop-map (found_of texts) first packed))

pub ruleset list_lemmas = (all-long, all-slice, all-extended, held-extended, held-pushed, all-pushed)
