-- The entry that begins at an offset, by its place among the entries.
use Rattle.std.proofs.Common.{◌≡◌, ℕ, ◌<◌, ◌≤◌, Bool, true, false, cond, nat_lt, List, [], length, get_or, Option, None, Some, refl, sym, ap, subst, ◌∙◌, arith}
use Rattle.std.specs.Prelude.{◌^◌, ◌==◌, slice_get}
use Rattle.std.specs.List.{position_or_len}
use Rattle.std.specs.Option.{option_and_then}
use Rattle.std.proofs.lemmas.Bool.{eq-eqb, ltb-false, ne_eqb}
use Rattle.std.proofs.lemmas.List.Folds.{find_at}
use Rattle.std.proofs.lemmas.List.Sums.{position_or_len_is}
use Rattle.std.proofs.lemmas.Option.{slice_get_past, slice_get_within, get_or_from_slice_get}
use Rattle.unit_model.specs.Entries.{Entry}
use Rattle.entry_model.specs.Order.{AreInOrder}
use Rattle.dwarf_info.specs.Found.{FindsEntry}
use Rattle.tree_model.specs.Way.{entry_beginning_at}

-- an entry begins at an offset
abbrev begins_at : ℕ → Entry → Bool
begins_at at entry = entry.at == at

at_place : (entries : List Entry) (place : ℕ) (entry : Entry) → AreInOrder 0 (2 ^ 64) entries → slice_get entries place ≡ Some entry
    → entry_beginning_at entries entry.at ≡ Some entry
at_place entries place entry order here =
    let inside : place < length entries = slice_get_within entries place entry here in
    let is : get_or entries place entry ≡ entry = get_or_from_slice_get entries place entry entry here in
    let before : (k : ℕ) → k < place → begins_at entry.at (get_or entries k entry) ≡ false = λ k below.
    let lower : (get_or entries k entry).at < (get_or entries place entry).at = order.ascending k place entry below inside in
    let lower_here : (get_or entries k entry).at < entry.at = subst (λ (e : Entry). (get_or entries k entry).at < e.at) is lower in
    ne_eqb _ _ (λ same. omega arith) in
    let there : place < length entries → begins_at entry.at (get_or entries place entry) ≡ true = λ _. eq-eqb _ _ (ap (λ (e : Entry). e.at) is) in
    let first = position_or_len_is (begins_at entry.at) entries place entry (omega arith) before there in
    find_at (begins_at entry.at) entries ∙ ap (slice_get entries) first ∙ here

no_place : (b : Bool) (n len : ℕ) → nat_lt n len ≡ b → cond b (Some n) None ≡ None → len ≤ n
no_place true n len is none = cc
no_place false n len is none = ltb-false n len is

-- what is found by its place is what begins there
pub entry_found : (entries : List Entry) (at : ℕ) (found : Option ℕ) → AreInOrder 0 (2 ^ 64) entries → FindsEntry entries at found
    → option_and_then (slice_get entries) found ≡ entry_beginning_at entries at
entry_found entries at None order none =
    let past = no_place (nat_lt (position_or_len (begins_at at) entries) (length entries)) (position_or_len (begins_at at) entries) (length entries) refl none in
    sym (find_at (begins_at at) entries ∙ slice_get_past entries (position_or_len (begins_at at) entries) past)
entry_found entries at (Some place) order (entry, here, is) =
    here ∙ sym (subst (λ n. entry_beginning_at entries n ≡ Some entry) is (at_place entries place entry order here))

abbrev nowhere : Entry
nowhere = record { at = 0; depth = 0; tag = 0; unit = 0; found = [] }

-- no entry begins past 64 bits
pub entry_past : (entries : List Entry) (at : ℕ) → AreInOrder 0 (2 ^ 64) entries → 2 ^ 64 ≤ at → entry_beginning_at entries at ≡ None
entry_past entries at order past =
    let before : (k : ℕ) → k < length entries → begins_at at (get_or entries k nowhere) ≡ false = λ k below.
    let low : (get_or entries k nowhere).at < 2 ^ 64 = (order.within k nowhere below).1 in
    ne_eqb _ _ (λ same. omega arith) in
    let last = position_or_len_is (begins_at at) entries (length entries) nowhere (omega arith) before (λ below. absurd (omega arith)) in
    find_at (begins_at at) entries ∙ slice_get_past entries _ (omega (arith, last))
