-- The parents of members, and the paths that they lead along.
use Rattle.std.proofs.Common.{◌≡◌, ℕ, suc, ◌+◌, ◌-◌, ◌<◌, ◌⊎◌, inl, inr, Bool, true, false, List, [], ◌∷◌, ◌++◌, Option, None, Some, refl, sym, ap, ◌∙◌, arith, subst, length, take, get_or, map, add-one, length-append}
use Rattle.std.specs.Prelude.{slice_get, nat_lt}
use Rattle.std.proofs.Math.Seq.{take-suc, take-length, get_or-append_seam}
use Rattle.std.proofs.Math.ListN.{get_or-append, get_or-map}
use Rattle.std.proofs.lemmas.Bool.Decides.{nat_tests}
use Rattle.std.proofs.lemmas.Option.{slice_get-get_or}
use Rattle.std.proofs.lemmas.List.{get_or-take, take-take, take-append-le, length-take, map-append, take-map, length-map}
use Rattle.std.proofs.lemmas.List.FromFn.{length-enumerate_from, get_or-enumerate_from}
use Rattle.key_types.proofs.SearchLemmas.{get_or-within}
use Rattle.chain_model.specs.declared.member.Member.{Member}
use Rattle.chain_model.specs.Chains.{numbered, path_from, path}
use Rattle.context_map.specs.Paths.{nobody, member_at, numbered_at, parent_at, path_to_parent, IsBefore, AreParentsOf, AreParents}

-- the path to the last of the first members
abbrev pub after : List Member → ℕ → List (ℕ × Member)
after members i = path_from [] (take i (numbered members))

abbrev pub number : ℕ × Member → ℕ
number m = m.0

path_from-append : (p xs : List (ℕ × Member)) (y : ℕ × Member) → path_from p (xs ++ y ∷ []) ≡ take y.1.depth (path_from p xs) ++ y ∷ []
path_from-append p [] y = refl
path_from-append p (x ∷ xs) y = path_from-append (take x.1.depth p ++ x ∷ []) xs y

pub after-more : (members : List Member) (i : ℕ) → i < length members → after members (suc i) ≡ take (member_at members i).depth (after members i) ++ numbered_at members i ∷ []
after-more members i within =
    let inside : i < length (numbered members) = omega (arith, within, length-enumerate_from 0 members) in
    ap (path_from []) (take-suc (numbered members) i (0, nobody) inside)
    ∙ path_from-append [] (take i (numbered members)) (get_or (numbered members) i (0, nobody))
    ∙ ap (λ (m : ℕ × Member). take m.1.depth (after members i) ++ m ∷ []) (get_or-enumerate_from 0 members i (0, nobody) within ∙ ap (λ (n : ℕ). (n, get_or members i nobody)) (zero_plus i))
  where
    zero_plus : (i : ℕ) → 0 + i ≡ i
    zero_plus i = omega arith

path-after : (members : List Member) (n : ℕ) → path members n ≡ after members (suc n)
path-after members n = ap (after members) (add-one n)

at_last : (k n : ℕ) → k < suc n → (k < n) ⊎ (k ≡ n)
at_last k n below = by (nat_lt k n) refl
  where
    by : (t : Bool) → nat_lt k n ≡ t → (k < n) ⊎ (k ≡ n)
    by true is = inl (grind (arith, nat_tests))
    by false is = inr (grind (arith, nat_tests))

-- members one below the other: each of them ends the path to itself
pub record Stacked (members : List Member) (i : ℕ) (way : List (ℕ × Member)) : Type 0 where
  pub ends : (k : ℕ) → k < length way → take (suc k) way ≡ path members (get_or way k (0, nobody)).0
  pub small : (k : ℕ) → k < length way → (get_or way k (0, nobody)).0 < i

Stacked-take : (members : List Member) (i d : ℕ) (way : List (ℕ × Member)) → Stacked members i way → Stacked members i (take d way)
Stacked-take members i d way all = record {
  ends = λ k within.
      let below : (k < d) × (k < length way) = inside k within in
      take-take (suc k) d way (omega (arith, below.0)) ∙ all.ends k below.1 ∙ ap (λ (m : ℕ × Member). path members m.0) (sym (get_or-take d way k (0, nobody) below.0));
  small = λ k within.
      let below : (k < d) × (k < length way) = inside k within in
      subst (λ (m : ℕ × Member). m.0 < i) (sym (get_or-take d way k (0, nobody) below.0)) (all.small k below.1);
}
  where
    inside : (k : ℕ) → k < length (take d way) → (k < d) × (k < length way)
    inside k within = (omega (arith, within, length-take d way), omega (arith, within, length-take d way))

Stacked-push : (members : List Member) (i : ℕ) (way : List (ℕ × Member)) (m : Member) → Stacked members i way → path members i ≡ way ++ (i, m) ∷ [] → Stacked members (suc i) (way ++ (i, m) ∷ [])
Stacked-push members i way m all is = record {
  ends = λ k within. elim (where_in k within) [
    | inl below ↦
        take-append-le (suc k) way ((i, m) ∷ []) (omega (arith, below)) ∙ all.ends k below ∙ ap (λ (x : ℕ × Member). path members x.0) (sym (get_or-append way ((i, m) ∷ []) (0, nobody) k below))
    | inr last ↦
        ap (λ n. take n (way ++ (i, m) ∷ [])) (ap suc last ∙ sym (long way (i, m))) ∙ take-length (way ++ (i, m) ∷ []) ∙ sym is
        ∙ ap (λ (x : ℕ × Member). path members x.0) (sym (ap (λ n. get_or (way ++ (i, m) ∷ []) n (0, nobody)) last ∙ get_or-append_seam way (i, m) [] (0, nobody)))
  ];
  small = λ k within. elim (where_in k within) [
    | inl below ↦
        let less = all.small k below in
        subst (λ (x : ℕ × Member). x.0 < suc i) (sym (get_or-append way ((i, m) ∷ []) (0, nobody) k below)) (omega (arith, less))
    | inr last ↦
        subst (λ (x : ℕ × Member). x.0 < suc i) (sym (ap (λ n. get_or (way ++ (i, m) ∷ []) n (0, nobody)) last ∙ get_or-append_seam way (i, m) [] (0, nobody))) (omega arith)
  ];
}
  where
    long : (xs : List (ℕ × Member)) (x : ℕ × Member) → length (xs ++ x ∷ []) ≡ suc (length xs)
    long xs x = omega (arith, length-append xs (x ∷ []))

    where_in : (k : ℕ) → k < length (way ++ (i, m) ∷ []) → (k < length way) ⊎ (k ≡ length way)
    where_in k within = at_last k (length way) (omega (arith, within, length-append way ((i, m) ∷ [])))

-- the last of such members is the parent of what is put behind them
top : (members : List Member) (i : ℕ) (way : List (ℕ × Member)) (p : Option ℕ) → Stacked members i way → p ≡ slice_get (map number way) (length (map number way) - 1) → (path_to_parent members p ≡ way) × IsBefore p i
top members i [] p all is = (ap (path_to_parent members) is, subst (λ (o : Option ℕ). IsBefore o i) (sym is) tt)
top members i (x ∷ way) p all is =
    let long : length (map number way) ≡ length way = length-map way number in
    let last : length (map number (x ∷ way)) - 1 ≡ length way = omega (arith, long) in
    let within : length way < length (x ∷ way) = omega arith in
    let some : p ≡ Some (get_or (x ∷ way) (length way) (0, nobody)).0 =
    is ∙ ap (slice_get (map number (x ∷ way))) last
    ∙ slice_get-get_or (map number (x ∷ way)) (length way) 0 (omega (arith, long))
    ∙ ap Some (get_or-map number (x ∷ way) (length way) (0, nobody))
    in (
      ap (path_to_parent members) some ∙ sym (all.ends (length way) within) ∙ take-length (x ∷ way),
      subst (λ (o : Option ℕ). IsBefore o i) (sym some) (all.small (length way) within),
    )

-- how far the members were taken
pub record ParentsSoFar (members : List Member) (i : ℕ) (way : List ℕ) (parents : List (Option ℕ)) : Type 0 where
  pub done : AreParentsOf i members parents
  pub stack : way ≡ map number (after members i)
  pub stacked : Stacked members i (after members i)

pub ParentsSoFar-none : (members : List Member) (way : List ℕ) (parents : List (Option ℕ)) → way ≡ [] → parents ≡ [] → ParentsSoFar members 0 way parents
ParentsSoFar-none members way parents empty none = record {
  done = record {
    one_each = ap length none;
    before = λ n below. absurd (omega (arith, below));
    way = λ n below. absurd (omega (arith, below));
  };
  stack = empty;
  stacked = record { ends = λ k below. absurd (omega (arith, below)); small = λ k below. absurd (omega (arith, below)) };
}

pub ParentsSoFar-more : (members : List Member) (i : ℕ) (way cut next : List ℕ) (parents more : List (Option ℕ)) (p : Option ℕ) → ParentsSoFar members i way parents → i < length members
    → cut ≡ take (member_at members i).depth way → p ≡ slice_get cut (length cut - 1) → next ≡ cut ++ i ∷ [] → more ≡ parents ++ p ∷ [] → ParentsSoFar members (suc i) next more
ParentsSoFar-more members i way cut next parents more p so_far within cut_is p_is next_is more_is =
    let d = (member_at members i).depth in
    let kept : cut ≡ map number (take d (after members i)) = cut_is ∙ ap (take d) so_far.stack ∙ take-map number d (after members i) in
    let below = Stacked-take members i d (after members i) so_far.stacked in
    let up = top members i (take d (after members i)) p below (p_is ∙ ap (λ (ns : List ℕ). slice_get ns (length ns - 1)) kept) in
    let is : after members (suc i) ≡ take d (after members i) ++ numbered_at members i ∷ [] = after-more members i within in
    let here : path members i ≡ take d (after members i) ++ numbered_at members i ∷ [] = path-after members i ∙ is in record {
      done = parents_more members i parents more p so_far.done more_is up.1 (here ∙ ap (λ ms. ms ++ numbered_at members i ∷ []) (sym up.0));
      stack = next_is ∙ ap (λ ns. ns ++ i ∷ []) kept ∙ sym (ap (map number) is ∙ map-append number (take d (after members i)) (numbered_at members i ∷ []));
      stacked = subst (λ (ms : List (ℕ × Member)). Stacked members (suc i) ms) (sym is) (Stacked-push members i (take d (after members i)) (member_at members i) below here);
    }
  where
    parents_more : (members : List Member) (i : ℕ) (parents more : List (Option ℕ)) (p : Option ℕ) → AreParentsOf i members parents → more ≡ parents ++ p ∷ [] → IsBefore p i
        → path members i ≡ path_to_parent members p ++ numbered_at members i ∷ [] → AreParentsOf (suc i) members more
    parents_more members i parents more p done more_is before way = record {
      one_each = ap length more_is ∙ length-append parents (p ∷ []) ∙ let e : length parents + 1 ≡ suc i = omega (arith, done.one_each) in e;
      before = λ n below. elim (at_last n i below) [
        | inl less ↦ subst (λ (o : Option ℕ). IsBefore o n) (sym (old n less)) (done.before n less)
        | inr last ↦ subst (λ (o : Option ℕ). IsBefore o n) (sym (new n last)) (subst (λ k. IsBefore p k) (sym last) before)
      ];
      way = λ n below. elim (at_last n i below) [
        | inl less ↦ done.way n less ∙ ap (λ o. path_to_parent members o ++ numbered_at members n ∷ []) (sym (old n less))
        | inr last ↦ ap (path members) last ∙ way ∙ ap (λ o. path_to_parent members o ++ numbered_at members i ∷ []) (sym (new n last)) ∙ ap (λ k. path_to_parent members (parent_at more n) ++ numbered_at members k ∷ []) (sym last)
      ];
    }
      where
        old : (n : ℕ) → n < i → parent_at more n ≡ parent_at parents n
        old n less = ap (λ ps. parent_at ps n) more_is ∙ get_or-append parents (p ∷ []) None n (omega (arith, less, done.one_each))

        new : (n : ℕ) → n ≡ i → parent_at more n ≡ p
        new n last = ap (λ ps. parent_at ps n) more_is ∙ ap (λ k. get_or (parents ++ p ∷ []) k None) (let e : n ≡ length parents = omega (arith, last, done.one_each) in e) ∙ get_or-append_seam parents p [] None

-- climbing from a member to its parent
pub climb-more : (members : List Member) (parents : List (Option ℕ)) (n p : ℕ) → AreParents members parents → n < length members → parent_at parents n ≡ Some p → path members n ≡ path members p ++ numbered_at members n ∷ []
climb-more members parents n p all within is = all.way n within ∙ ap (λ o. path_to_parent members o ++ numbered_at members n ∷ []) is

pub climb-end : (members : List Member) (parents : List (Option ℕ)) (n : ℕ) → AreParents members parents → n < length members → parent_at parents n ≡ None → path members n ≡ numbered_at members n ∷ []
climb-end members parents n all within is = all.way n within ∙ ap (λ o. path_to_parent members o ++ numbered_at members n ∷ []) is

pub climb-before : (members : List Member) (parents : List (Option ℕ)) (n p : ℕ) → AreParents members parents → n < length members → parent_at parents n ≡ Some p → p < n
climb-before members parents n p all within is = subst (λ (o : Option ℕ). IsBefore o n) is (all.before n within)

pub member-is : (members : List Member) (n : ℕ) (m : Member) → n < length members → m ≡ get_or members n m → m ≡ member_at members n
member-is members n m within is = is ∙ get_or-within members n m nobody within

pub members-of : (members : List Member) (ns : List ℕ) → map (λ (m : ℕ × Member). m.1) (map (numbered_at members) ns) ≡ map (member_at members) ns
members-of members [] = refl
members-of members (n ∷ ns) = ap (λ ms. member_at members n ∷ ms) (members-of members ns)
