-- The function of an address is the same by two numberings of the names of the same members.
use Rattle.std.proofs.Common.{◌≡◌, ◌+◌, ◌==◌, ◌&&◌, ℕ, Bool, true, false, cond, List, [], ◌∷◌, Option, None, Some, refl, sym, ap, subst, ◌∙◌}
use Rattle.std.specs.Prelude.{find}
use Rattle.std.specs.List.{enumerate_from, list_any}
use Rattle.std.specs.Option.{option_map}
use Rattle.key_types.specs.declared.ids.NameId.{NameId}
use Rattle.chain_model.specs.declared.member.Member.{Member}
use Rattle.chain_model.specs.Chains.{function_at, function_of, holds_at, piece_holds}
use Rattle.entry_facts.specs.Meaning.{IsNumberOf}
use Rattle.tree_model.specs.Members.{Told}
use Rattle.inline_tree.specs.Told.{AreTold, IsTold}
use Rattle.binary_model.specs.Addresses.{function_of_address}
use Rattle.binary_model.specs.Binary.{members_in}
use Rattle.binary_model.specs.Places.{names_of, numbered_from}
use Rattle.binary_places.proofs.NumberLemmas.{are-told}

module _ (names others : List (List ℕ)) where
  -- a number among the ones and a number among the others are of the same name, or there is none
  abbrev pub SameName : Option NameId → Option NameId → Type 0
  SameName one other = (name : Option (List ℕ)) × IsNumberOf names name one × IsNumberOf others name other

  pub record SameMember (p q : ℕ × Member) : Type 0 where
    pub number_is : p.0 ≡ q.0
    pub unit_is : p.1.unit ≡ q.1.unit
    pub pieces_are : p.1.pieces ≡ q.1.pieces
    pub name_is : SameName p.1.name q.1.name

  abbrev pub SameFound : Option (ℕ × Member) → Option (ℕ × Member) → Type 0
  SameFound None None = Unit {0}
  SameFound None (Some q) = ⊥
  SameFound (Some p) None = ⊥
  SameFound (Some p) (Some q) = SameMember p q

  same_holds : (address : ℕ) (told : Told) (m c : Member) → IsTold names told m → IsTold others told c → holds_at 0 address m ≡ holds_at 0 address c
  same_holds address told m c is other =
      λ i. ((is.depth_is ∙ sym other.depth_is) i == 0) && list_any (piece_holds address) ((is.pieces_are ∙ sym other.pieces_are) i)

  same_member : (n : ℕ) (told : Told) (m c : Member) → IsTold names told m → IsTold others told c → SameMember (n, m) (n, c)
  same_member n told m c is other = record {
    number_is = refl;
    unit_is = is.unit_is ∙ sym other.unit_is;
    pieces_are = is.pieces_are ∙ sym other.pieces_are;
    name_is = (told.name, is.name_is, other.name_is);
  }

  found_first : (b : Bool) (p q : ℕ × Member) (x y : Option (ℕ × Member)) → SameMember p q → SameFound x y → SameFound (cond b (Some p) x) (cond b (Some q) y)
  found_first true p q x y same rest = same
  found_first false p q x y same rest = rest

  pub same_found : (address n : ℕ) (tolds : List Told) (ms cs : List Member) → AreTold names tolds ms → AreTold others tolds cs
      → SameFound (find (λ member. holds_at 0 address member.1) (enumerate_from n ms)) (find (λ member. holds_at 0 address member.1) (enumerate_from n cs))
  same_found address n [] [] [] h k = tt
  same_found address n [] [] (c ∷ cs) h k = absurd k
  same_found address n [] (m ∷ ms) cs h k = absurd h
  same_found address n (t ∷ tolds) [] cs h k = absurd h
  same_found address n (t ∷ tolds) (m ∷ ms) [] h k = absurd k
  same_found address n (t ∷ tolds) (m ∷ ms) (c ∷ cs) h k =
      let x = find (λ member. holds_at 0 address member.1) (enumerate_from (n + 1) ms) in
      let y = find (λ member. holds_at 0 address member.1) (enumerate_from (n + 1) cs) in
      subst (λ b. SameFound (cond (holds_at 0 address m) (Some (n, m)) x) (cond b (Some (n, c)) y)) (same_holds address t m c h.0 k.0)
      (found_first (holds_at 0 address m) (n, m) (n, c) x y (same_member n t m c h.0 k.0) (same_found address (n + 1) tolds ms cs h.1 k.1))

  -- its number
  pub same_number : (x y : Option (ℕ × Member)) → SameFound x y → option_map (λ function. function.0) x ≡ option_map (λ function. function.0) y
  same_number None None h = refl
  same_number None (Some q) h = absurd h
  same_number (Some p) None h = absurd h
  same_number (Some p) (Some q) h = ap (λ n. Some n) h.number_is

-- The members of a file have the function that the file tells.
pub function_same : (file : List ℕ) (names : List (List ℕ)) (members : List Member) → AreTold names (members_in file) members → (address : ℕ)
    → function_at members address ≡ function_of_address file address
unfolding function_of_address
function_same file names members told address =
    let tolds = members_in file in
    let others = names_of tolds in
    let cs = numbered_from 0 tolds in
    same_number names others (function_of members address) (function_of cs address) (same_found names others address 0 tolds members cs told (are-told tolds))
