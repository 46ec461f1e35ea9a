-- Where an address has a key.
use Rattle.std.proofs.Common.{◌≡◌, ℕ, ◌<◌, Bool, true, false, List, [], ◌∷◌, ◌↔◌, Option, None, Some, refl, sym, ◌∙◌, arith, subst, map, cond}
use Rattle.std.specs.Prelude.{IsSome, IsSomeAnd, slice_get, option_and_then, nat_eq}
use Rattle.std.specs.List.{AllByRecursion}
use Rattle.std.specs.Option.{option_map}
use Rattle.std.proofs.lemmas.Bool.Decides.{nat_tests}
use Rattle.key_types.specs.declared.ids.NameId.{NameId}
use Rattle.key_types.specs.declared.key.Frame.{Frame}
use Rattle.chain_model.specs.declared.member.Member.{Member}
use Rattle.chain_model.specs.Chains.{chain}
use Rattle.chain_model.specs.Places.{HasKey, LineAndDisc, frame, frames, place_by, place_of, key, has_key, no_line, last_start, chain_members, row_of}
use Rattle.chain_model.specs.Laws.{KeysAreWhereNamesAndLineAre}
use Rattle.chain_model.proofs.ChainLemmas.{begin_with_the_function}

impossible : ◌≡◌ {A = Bool} false true → ⊥
impossible is = cc

both-some : (g : NameId → List Frame → List Frame) (o : Option NameId) (f : Option (List Frame)) → IsSome (option_and_then (λ n. option_map (g n) f) o) ↔ (IsSome o × IsSome f)
both-some g None f = (λ h. absurd (impossible h), λ h. absurd (impossible h.0))
both-some g (Some n) None = (λ h. absurd (impossible h), λ h. absurd (impossible h.1))
both-some g (Some n) (Some f) = (λ h. (refl, refl), λ h. refl)

frames-some : (base : Bool) (start : ℕ) (calls : List Member) → IsSome (frames base start calls) ↔ AllByRecursion (λ member. IsSome member.name) calls
frames-some base start [] = (λ h. tt, λ h. refl)
frames-some base start (call ∷ calls) =
    let both = both-some (λ name rest. frame base start call name ∷ rest) call.name (frames base call.start calls) in
    let rest = frames-some base call.start calls in
    (λ h. ((both.0 h).0, rest.0 (both.0 h).1), λ h. both.1 (h.0, rest.1 h.1))

above : (n : ℕ) → 0 < n → nat_eq n 0 ≡ false
above n lt = grind (arith, nat_tests)

not_zero : (n : ℕ) → nat_eq n 0 ≡ false → 0 < n
not_zero n is = grind (arith, nat_tests)

key-by : (base : Bool) (start : ℕ) (o : Option NameId) (f : Option (List Frame)) (r : Option LineAndDisc) → HasKey (place_by base start o f r) ↔ (IsSome o × IsSome f × IsSomeAnd r (λ row. 0 < row.0))
key-by base start None f r = (λ h. absurd h, λ h. absurd (impossible h.0))
key-by base start (Some o) None r = (λ h. absurd h, λ h. absurd (impossible h.1))
key-by base start (Some o) (Some f) None = (λ h. absurd h, λ h. absurd h.2)
key-by base start (Some o) (Some f) (Some row) = by (nat_eq row.0 0) refl
  where
    by : (b : Bool) → nat_eq row.0 0 ≡ b → HasKey (cond b no_line (has_key (key base o f start row))) ↔ (IsSome (Some o) × IsSome (Some f) × (0 < row.0))
    by true is = (λ h. absurd h, λ h. let no : nat_eq row.0 0 ≡ false = above row.0 h.2 in absurd (impossible (sym no ∙ is)))
    by false is = (λ h. (refl, refl, not_zero row.0 is), λ h. tt)

key-of : (base : Bool) (ms : List Member) (r : Option LineAndDisc) → HasKey (place_of base ms r) ↔ (IsSome (slice_get ms 0) × AllByRecursion (λ member. IsSome member.name) ms × IsSomeAnd r (λ row. 0 < row.0))
key-of base [] r = (λ h. absurd h, λ h. absurd (impossible h.0))
key-of base (function ∷ calls) r =
    let by = key-by base (last_start function.start calls) function.name (frames base function.start calls) r in
    let names = frames-some base function.start calls in
    (λ h. (refl, ((by.0 h).0, names.0 (by.0 h).1), (by.0 h).2), λ h. by.1 (h.1.0, names.1 h.1.1, h.2))

first-some : (xs : List (ℕ × Member)) → IsSome (slice_get (map (λ (m : ℕ × Member). m.1) xs) 0) ↔ IsSome (slice_get xs 0)
first-some [] = (λ h. h, λ h. h)
first-some (x ∷ xs) = (λ h. h, λ h. h)

pub keys_are_there : KeysAreWhereNamesAndLineAre
keys_are_there rows base members address =
    let begins = begin_with_the_function members address in
    let first = first-some (chain members address) in
    let of = key-of base (chain_members members address) (row_of rows (chain_members members address) address) in (
      λ h. (subst (λ (o : Option (ℕ × Member)). IsSome o) begins (first.0 (of.0 h).0), (of.0 h).1, (of.0 h).2),
      λ h. of.1 (first.1 (subst (λ (o : Option (ℕ × Member)). IsSome o) (sym begins) h.0), h.1, h.2),
    )
