-- The names and frames along a path, which is climbed from its end.
use Rattle.std.proofs.Common.{◌≡◌, ℕ, ◌<◌, Bool, true, false, List, [], ◌∷◌, ◌++◌, Option, None, Some, refl, sym, ap, ◌∙◌, arith, map, length, reverse, append_assoc, append-nil}
use Rattle.std.specs.Prelude.{option_and_then, ◌&&◌, slice_get}
use Rattle.std.specs.Option.{option_map}
use Rattle.std.proofs.lemmas.List.{reverse-append}
use Rattle.key_types.specs.declared.ids.NameId.{NameId}
use Rattle.key_types.specs.declared.key.Frame.{Frame}
use Rattle.chain_model.specs.declared.member.Member.{Member}
use Rattle.chain_model.specs.Chains.{path}
use Rattle.chain_model.specs.Places.{nameless, LineAndDisc, frame, frames, last_start, place_by, place_of, row_of}
use Rattle.context_map.specs.declared.context.Context.{Context}
use Rattle.context_map.specs.declared.named.NamedPath.{NamedPath}
use Rattle.context_map.specs.Paths.{member_at, numbered_at, parent_at, AreParents}
use Rattle.context_map.specs.Contexts.{place_in, told, IsContext}
use Rattle.context_map.proofs.ParentLemmas.{climb-more, climb-end, climb-before, members-of}

abbrev pub calls_at : List Member → List ℕ → List Member
calls_at members numbers = map (member_at members) numbers

-- how far a path was climbed: the members below the one that is reached, and their frames, the innermost first
pub record ClimbedSoFar (members : List Member) (base : Bool) (number at : ℕ) (made : List Frame) (all_named : Bool) : Type 0 where
  pub below : List ℕ
  pub here : at < length members
  pub way : path members number ≡ path members at ++ map (numbered_at members) below
  pub framed : frames base (member_at members at).start (calls_at members below) ≡ told all_named (reverse made)
  pub last : last_start (member_at members at).start (calls_at members below) ≡ (member_at members number).start

pub ClimbedSoFar-none : (members : List Member) (base : Bool) (number : ℕ) (made : List Frame) → number < length members → made ≡ [] → ClimbedSoFar members base number number made true
ClimbedSoFar-none members base number made within none = record {
  below = [];
  here = within;
  way = sym (append-nil (path members number));
  framed = ap (λ fs. Some (reverse fs)) (sym none);
  last = refl;
}

-- a call comes before those that were inlined into it
one_more : (named all_named : Bool) (made more : List Frame) (f : NameId → Frame) (name : Option NameId) → told named more ≡ option_map (λ n. made ++ f n ∷ []) name
    → option_and_then (λ n. option_map (λ rest. f n ∷ rest) (told all_named (reverse made))) name ≡ told (named && all_named) (reverse more)
one_more false all_named made more f None is = refl
one_more true all_named made more f None is = absurd cc
one_more false all_named made more f (Some n) is = absurd cc
one_more true false made more f (Some n) is = refl
one_more true true made more f (Some n) is =
    let e : more ≡ made ++ f n ∷ [] = cc in
    ap Some (sym (ap reverse e ∙ reverse-append made (f n ∷ [])))

pub ClimbedSoFar-more : (members : List Member) (parents : List (Option ℕ)) (base : Bool) (number at p start : ℕ) (made more : List Frame) (all_named named next : Bool) (call : Member)
    → ClimbedSoFar members base number at made all_named → AreParents members parents → parent_at parents at ≡ Some p → call ≡ member_at members at → start ≡ (member_at members p).start
    → told named more ≡ option_map (λ name. made ++ frame base start call name ∷ []) call.name → next ≡ named && all_named
    → ClimbedSoFar members base number p more next
ClimbedSoFar-more members parents base number at p start made more all_named named next call so_far all is call_is start_is pushed next_is = record {
  below = at ∷ so_far.below;
  here = omega (arith, so_far.here, climb-before members parents at p all so_far.here is);
  way = so_far.way
      ∙ ap (λ ms. ms ++ map (numbered_at members) so_far.below) (climb-more members parents at p all so_far.here is)
      ∙ append_assoc (path members p) (numbered_at members at ∷ []) (map (numbered_at members) so_far.below);
  framed =
      ap (λ s. frames base s (member_at members at ∷ calls_at members so_far.below)) (sym start_is)
      ∙ ap (λ m. frames base start (m ∷ calls_at members so_far.below)) (sym call_is)
      ∙ ap (λ o. option_and_then (λ n. option_map (λ rest. frame base start call n ∷ rest) o) call.name) (
      ap (λ (m : Member). frames base m.start (calls_at members so_far.below)) call_is ∙ so_far.framed)
      ∙ one_more named all_named made more (frame base start call) call.name pushed
      ∙ ap (λ b. told b (reverse more)) (sym next_is);
  last = so_far.last;
}

-- the places that names give
place-nameless : (base : Bool) (start : ℕ) (name : Option NameId) (row : Option LineAndDisc) → place_by base start name None row ≡ nameless
place-nameless base start None row = refl
place-nameless base start (Some root) row = refl

pub named-not : (base : Bool) (start : ℕ) (name : Option NameId) (row : Option LineAndDisc) → place_by base start name None row ≡ place_in base None row
named-not base start name row = place-nameless base start name row

pub named-all : (base : Bool) (named : NamedPath) (row : Option LineAndDisc) → place_by base named.start (Some named.root) (Some named.calls.items) row ≡ place_in base (Some named) row
named-all base named None = refl
named-all base named (Some row) = refl

-- the context of a member from which a function was reached
pub ClimbedSoFar-all : (members : List Member) (parents : List (Option ℕ)) (base : Bool) (number start : ℕ) (made calls : List Frame) (all_named : Bool) (function : Member) (context : Context)
    → ClimbedSoFar members base number context.function made all_named → AreParents members parents → parent_at parents context.function ≡ None
    → function ≡ member_at members context.function → start ≡ (member_at members number).start → context.unit ≡ function.unit → calls ≡ reverse made
    → ((base : Bool) (row : Option LineAndDisc) → place_by base start function.name (told all_named calls) row ≡ place_in base context.named row)
    → IsContext members base number context
ClimbedSoFar-all members parents base number start made calls all_named function context so_far all is function_is start_is unit_is calls_is named =
    let at = context.function in
    let below = so_far.below in
    let way : path members number ≡ map (numbered_at members) (at ∷ below) =
    so_far.way ∙ ap (λ ms. ms ++ map (numbered_at members) below) (climb-end members parents at all so_far.here is)
    in record {
      function = ap (λ (ms : List (ℕ × Member)). option_map (λ m. m.0) (slice_get ms 0)) way;
      row = λ rows a. ap (λ (ms : List (ℕ × Member)). row_of rows (map (λ m. m.1) ms) a) way
          ∙ ap (λ (m : Member). rows m.unit a) (sym function_is) ∙ ap (λ u. rows u a) (sym unit_is);
      place = λ row.
          ap (λ (ms : List (ℕ × Member)). place_of base (map (λ m. m.1) ms) row) way
          ∙ ap (λ (ms : List Member). place_of base ms row) (members-of members (at ∷ below))
          ∙ ap (λ s. place_by base s (member_at members at).name (frames base (member_at members at).start (calls_at members below)) row) (so_far.last ∙ sym start_is)
          ∙ ap (λ o. place_by base start (member_at members at).name o row) (so_far.framed ∙ ap (told all_named) (sym calls_is))
          ∙ ap (λ (m : Member). place_by base start m.name (told all_named calls) row) (sym function_is)
          ∙ named base row;
    }
