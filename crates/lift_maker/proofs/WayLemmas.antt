-- The ways of a binary's addresses, behind the names and keys that a text has added to those of the binary.
use Rattle.std.proofs.Common.{◌≡◌, ℕ, ◌<◌, ◌≤◌, Bool, List, [], ◌∷◌, ◌++◌, map, length, All, get_or, Option, None, Some, refl, sym, ap, ◌∙◌, arith}
use Rattle.std.specs.List.{AllByRecursion, zip}
use Rattle.std.specs.Option.{option_map, unwrap_or}
use Rattle.std.proofs.lemmas.Option.{slice_get-get_or}
use Rattle.binary_model.specs.Places.{Place, at_way, nameless, no_line, outside}
use Rattle.asked_laws.specs.Alike.{AreAlikeIn, AreAlikeInBlocks}
use Rattle.asked_laws.proofs.LiftLemmas.{lifts_ask_no_more}
use Rattle.binary_places.specs.Binary.{IsPlaced}
use Rattle.binary_places.specs.declared.binary.Placed.{Placed}
use Rattle.block_model.specs.Function.{Function}
use Rattle.block_model.specs.Text.{functions_of}
use Rattle.context_map.specs.Maps.{place_told}
use Rattle.key_types.specs.Segments.{segment_at}
use Rattle.key_types.specs.declared.key.Frame.{Frame}
use Rattle.key_types.specs.declared.key.Key.{Key}
use Rattle.key_types.specs.declared.places.Seg.{Seg}
use Rattle.key_types.specs.declared.places.Where.{Where}
use Rattle.line_lift.specs.Lift.{HaveKeys, way_in}
use Rattle.output_model.specs.Lift.{held_by, lifted as lifted_in, repaired_in}
use Rattle.output_model.specs.Program.{Program, program_of, way_at, way_of_place}
use Rattle.repair_model.specs.Text.{repairs_of}
use Rattle.profile_lists.specs.Segments.{AllFit}
use Rattle.profile_maker.specs.Asked.{program_asked}
use Rattle.profile_maker.proofs.NameLemmas.{keys_have_names}
use Rattle.profile_maker.proofs.SegmentLemmas.{segments_fit}
use Rattle.profile_maker.proofs.ShownLemmas.{programs_shown}
use Rattle.profile_model.specs.Spelled.{spelled}
use Rattle.profile_model.specs.Text.{profile_text}
use Rattle.profile_model.specs.Ways.{Way, to_call, to_function}
use Rattle.profile_text.proofs.OpenLemmas.{name_kept}
use Rattle.profile_text.specs.Draft.{Kept}
use Rattle.profile_tree.specs.Known.{HasNames}
use Rattle.profile_tree.specs.Said as said
use Rattle.profile_tree.specs.Steps.{at_line, frame_step, name_at, named, steps_of, steps_of_given}
use Rattle.profile_writer.specs.Told.{TellsPlace, key_of}
use Rattle.lift_maker.specs.Lift.{Lifts}
use Rattle.lift_maker.specs.Tested.{LiftsBy}
use Rattle.lift_maker.specs.declared.maker.Lifted.{Lifted}
use Rattle.lift_maker.specs.declared.maker.Lifted.TheVariants.{Failed, Text}

some_key : (keys : List Key) (k : ℕ) → k < length keys → Key
some_key [] k within = absurd (omega (arith, within))
some_key (key ∷ keys) k within = key

module _ (names more : List (List ℕ)) (keys more_keys : List Key) (given : All (HasNames (length names)) keys) (kept : Kept names more) (keys_kept : Kept keys more_keys) where
  name_same : (i : ℕ) → i < length names → name_at more i ≡ name_at names i
  name_same i within =
      let there = slice_get-get_or names i [] within in
      name_kept names more i _ kept there ∙ sym (ap (λ o. unwrap_or o []) there)

  calls_same : (calls : List Frame) → AllByRecursion (λ frame. frame.name.0 < length names) calls → (offset disc : ℕ)
      → map (named more) (map frame_step calls ++ at_line offset disc ∷ []) ≡ map (named names) (map frame_step calls ++ at_line offset disc ∷ [])
  calls_same [] all offset disc = refl
  calls_same (call ∷ calls) all offset disc = λ i. to_call call.offset call.disc (name_same call.name.0 all.0 i) ∷ calls_same calls all.1 offset disc i

  key_same : (key : Key) → HasNames (length names) key → map (named more) (steps_of key) ≡ map (named names) (steps_of key)
  key_same key is = λ i. to_function (name_same key.root.0 is.0 i) ∷ calls_same key.calls is.1 key.offset key.disc i

  way_same : (k : ℕ) → k < length keys → said.way_at more more_keys k ≡ said.way_at names keys k
  way_same k within =
      let d = some_key keys k within in
      let there = slice_get-get_or keys k d within in
      ap (λ o. map (named more) (steps_of_given o)) (keys_kept k _ there)
      ∙ key_same (get_or keys k d) (given k d within)
      ∙ sym (ap (λ o. map (named names) (steps_of_given o)) there)

  -- the way of a place
  place_same : (place : Place) (answer : Where) → TellsPlace names keys place answer → option_map (said.way_at more more_keys) (key_of answer) ≡ way_of_place place
  place_same outside answer is = ap (λ a. option_map (said.way_at more more_keys) (key_of a)) is
  place_same nameless answer is = ap (λ a. option_map (said.way_at more more_keys) (key_of a)) is
  place_same no_line answer is = ap (λ a. option_map (said.way_at more more_keys) (key_of a)) is
  place_same (at_way way) answer is =
      ap (λ a. option_map (said.way_at more more_keys) (key_of a)) is.1
      ∙ ap (λ w. Some w) (way_same is.0.0 is.2.inside ∙ is.2.way_is)

by_number : (f : ℕ → Way) (segment : Option Seg)
    → option_map (λ key. f key.0) (option_map (λ segment. segment.key) segment) ≡ option_map f (option_map (λ segment. segment.key.0) segment)
by_number f None = refl
by_number f (Some segment) = refl

-- The segments of a binary still tell its ways, as far as they were asked for.
pub ways_stay : (bytes : List ℕ) (base : Bool) (marks : List Bool) (placed : Placed) (more : List (List ℕ)) (more_keys : List Key) → IsPlaced bytes base marks placed
    → Kept placed.names more → Kept placed.keys more_keys
    → (address : ℕ) → way_in more more_keys placed.map.segments address ≡ way_at (program_asked bytes base marks placed) address
ways_stay bytes base marks placed more more_keys is kept keys_kept address =
    let shown = programs_shown bytes base marks placed is in
    by_number (said.way_at more more_keys) (segment_at placed.map.segments address)
    ∙ ap (option_map (said.way_at more more_keys)) (shown.keys_told address)
    ∙ place_same placed.names more placed.keys more_keys (keys_have_names bytes base marks placed is) kept keys_kept
    ((program_asked bytes base marks placed).place address) (place_told placed.map address) (shown.places address)

have_keys : (n m : ℕ) → n ≤ m → (segments : List Seg) → AllFit n segments → HaveKeys m segments
have_keys n m le [] fit = tt
have_keys n m le (segment ∷ segments) fit =
    let here = fit.0 in
    (omega (arith, here, le), have_keys n m le segments fit.2)

-- Its keys are among those that were told.
pub keys_told : (bytes : List ℕ) (base : Bool) (marks : List Bool) (placed : Placed) → IsPlaced bytes base marks placed
    → HaveKeys (length placed.keys) placed.map.segments
keys_told bytes base marks placed is =
    have_keys (length placed.keys) (length placed.keys) (omega (arith)) placed.map.segments (segments_fit bytes base marks placed is)

-- They stay among more keys.
pub more_have_keys : (n m : ℕ) → n ≤ m → (segments : List Seg) → HaveKeys n segments → HaveKeys m segments
more_have_keys n m le [] have = tt
more_have_keys n m le (segment ∷ segments) have =
    let here = have.0 in
    (omega (arith, here, le), more_have_keys n m le segments have.1)

-- What is held in the blocks is what the whole binary tells.
first_of : {B : Type 0} (P : Function → Type 0) (funs : List Function) (others : List B) → AllByRecursion P funs → AllByRecursion P (map (λ it. it.0) (zip funs others))
first_of P [] others all = tt
first_of P (fun ∷ funs) [] all = tt
first_of P (fun ∷ funs) (other ∷ others) all = (all.0, first_of P funs others all.1)

pub held_same : (program other : Program) (funs : List Function) (out : List ℕ) → AreAlikeInBlocks program other funs
    → held_by (way_at program) (repaired_in funs out) ≡ held_by (way_at other) (repaired_in funs out)
held_same program other funs out alike =
    lifts_ask_no_more program other (repaired_in funs out)
    (first_of (λ (fun : Function). AllByRecursion (AreAlikeIn program other) fun.blocks) funs (map (λ it. it.1) (repairs_of funs out)) alike)

-- What lifting comes to by its segments is what it comes to by the binary.
pub lifts_of_binary : (bytes : List ℕ) (base : Bool) (marks : List Bool) (placed : Placed) (more : List (List ℕ)) (more_keys : List Key) → IsPlaced bytes base marks placed
    → Kept placed.names more → Kept placed.keys more_keys → (segments : List Seg) → segments ≡ placed.map.segments
    → (blocks text : List ℕ) → AreAlikeInBlocks (program_asked bytes base marks placed) (program_of bytes base) (functions_of blocks)
    → (lifted : Lifted) → LiftsBy (way_in more more_keys segments) blocks text lifted → Lifts bytes base blocks text lifted
lifts_of_binary bytes base marks placed more more_keys is kept keys_kept segments same blocks text alike (Failed line) on = on
lifts_of_binary bytes base marks placed more more_keys is kept keys_kept segments same blocks text alike (Text out) on =
    let ways = ways_stay bytes base marks placed more more_keys is kept keys_kept in (
      on.0,
      on.1
          ∙ ap (λ segments. profile_text (lifted_in (held_by (way_in more more_keys segments) (repaired_in (functions_of blocks) text)) (spelled text))) same
          ∙ (λ i. profile_text (lifted_in (held_by (λ address. ways address i) (repaired_in (functions_of blocks) text)) (spelled text)))
          ∙ ap (λ held. profile_text (lifted_in held (spelled text)))
          (held_same (program_asked bytes base marks placed) (program_of bytes base) (functions_of blocks) text alike),
    )
