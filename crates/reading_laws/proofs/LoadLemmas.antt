-- Lines and their loads, by where they stand.
use Rattle.std.proofs.Common.{◌≡◌, ℕ, zero, suc, Bool, true, false, cond, List, [], ◌∷◌, ◌++◌, take, Option, None, Some, refl, sym, ap, ◌∙◌, arith}
use Rattle.std.specs.Prelude.{slice_get, find, reverse}
use Rattle.std.specs.List.{All, cons_option}
use Rattle.std.specs.Option.{option_map, option_map_or, option_or}
use Rattle.std.proofs.lemmas.List.{append-nil, append_assoc, reverse-append}
use Rattle.std.proofs.lemmas.List.Folds.{find-append}
use Rattle.std.proofs.lemmas.List.Elements.{filter_map-append}
use Rattle.sample_model.specs.declared.load.Load.{Load}
use Rattle.sample_model.specs.Line.{◌>>=◌}
use Rattle.sample_model.specs.Loads.{load_of, loads_of}
use Rattle.sample_model.specs.Moves.{LoadMap, address_in_load, holds, last_load, move_of, moved_line, moved_lines}
use Rattle.reading_laws.specs.Loads.{LinesAreMovedByThoseBefore, LastLoadMoves, UnloadedIsForeign, loads}

-- the same behind loads of before
moved-at : (loading : LoadMap) (before : List Load) (lines : List (List ℕ)) (i : ℕ)
    → slice_get (moved_lines loading before lines) i
    ≡ option_map (moved_line loading.segments (before ++ loads_of loading.name (take i lines))) (slice_get lines i)
moved-at loading before [] i = refl
moved-at loading before (line ∷ lines) zero =
    ap (λ (ls : List Load). Some (moved_line loading.segments ls line)) (sym (append-nil before))
moved-at loading before (line ∷ lines) (suc i) =
    let one = loads_of loading.name (line ∷ []) in
    moved-at loading (before ++ one) lines i
    ∙ ap (λ (ls : List Load). option_map (moved_line loading.segments ls) (slice_get lines i))
    (append_assoc before one (loads_of loading.name (take i lines))
    ∙ ap (λ (ls : List Load). before ++ ls) (sym (filter_map-append (load_of loading.name) (line ∷ []) (take i lines))))

pub lines-moved_by_those_before : LinesAreMovedByThoseBefore
lines-moved_by_those_before loading lines i = moved-at loading [] lines i

-- what none of a list passes, none of it reversed does
find-reverse : (test : Load → Bool) (ls : List Load) → find test ls ≡ None → find test (reverse ls) ≡ None
find-reverse test [] none = refl
find-reverse test (l ∷ ls) none = go (test l) refl none (λ e. find-reverse test ls e)
  where
    go : (b : Bool) → test l ≡ b → cond b (Some l) (find test ls) ≡ None → (find test ls ≡ None → find test (reverse ls) ≡ None)
        → find test (reverse (l ∷ ls)) ≡ None
    go true is e others = absurd cc
    go false is e others =
        ap (find test) (reverse-append (l ∷ []) ls)
        ∙ find-append test (reverse ls) (l ∷ [])
        ∙ ap (λ (o : Option Load). option_or o (find test (l ∷ []))) (others e)
        ∙ ap (λ (b : Bool). cond b (Some l) None) is

-- no line loads an address
none-loads : (loading : LoadMap) (address : ℕ) (lines : List (List ℕ)) → All (λ line. loads loading address line ≡ false) lines
    → find (holds address) (loads_of loading.name lines) ≡ None
none-loads loading address [] none = refl
none-loads loading address (line ∷ lines) none =
    go (load_of loading.name line) (none 0 line (omega arith))
    (none-loads loading address lines (λ k d less. none (suc k) d (omega (arith, less))))
  where
    go : (o : Option Load) → option_map_or (holds address) o false ≡ false → find (holds address) (loads_of loading.name lines) ≡ None
        → find (holds address) (cons_option o (loads_of loading.name lines)) ≡ None
    go None not others = others
    go (Some load) not others = ap (λ (b : Bool). cond b (Some load) (find (holds address) (loads_of loading.name lines))) not ∙ others

pub unloaded-foreign : UnloadedIsForeign
unfolding move_of
unloaded-foreign loading address lines none =
    ap (λ (o : Option Load). o >>= address_in_load loading.segments address)
    (find-reverse (holds address) (loads_of loading.name lines) (none-loads loading address lines none))

-- the last of a list that passes
find-last : (test : Load → Bool) (xs ys : List Load) (l : Load) → test l ≡ true → find test ys ≡ None
    → find test (reverse (xs ++ l ∷ ys)) ≡ Some l
find-last test xs ys l is none =
    ap (find test) (reverse-append xs (l ∷ ys) ∙ ap (λ (zs : List Load). zs ++ reverse xs) (reverse-append (l ∷ []) ys))
    ∙ find-append test (reverse ys ++ l ∷ []) (reverse xs)
    ∙ ap (λ (o : Option Load). option_or o (find test (reverse xs))) (
    find-append test (reverse ys) (l ∷ [])
    ∙ ap (λ (o : Option Load). option_or o (find test (l ∷ []))) (find-reverse test ys none)
    ∙ ap (λ (b : Bool). cond b (Some l) None) is
    )

pub last_load-moves : LastLoadMoves
unfolding move_of
last_load-moves loading address before behind line load is held none =
    let own : loads_of loading.name (before ++ line ∷ behind) ≡ loads_of loading.name before ++ load ∷ loads_of loading.name behind =
    filter_map-append (load_of loading.name) before (line ∷ behind)
    ∙ ap (λ (o : Option Load). loads_of loading.name before ++ cons_option o (loads_of loading.name behind)) is in
    ap (λ (ls : List Load). last_load ls address >>= address_in_load loading.segments address) own
    ∙ ap (λ (o : Option Load). o >>= address_in_load loading.segments address)
    (find-last (holds address) (loads_of loading.name before) (loads_of loading.name behind) load held (none-loads loading address behind none))
