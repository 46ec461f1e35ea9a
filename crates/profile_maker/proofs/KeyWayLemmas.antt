-- Whatever is counted of a binary is the way of a key.
use Rattle.std.proofs.Common.{◌≡◌, ℕ, Bool, List, [], ◌∷◌, ◌++◌, map, Option, None, Some, refl, subst}
use Rattle.std.specs.List.{AllByRecursion, cons_option, filter_map}
use Rattle.key_types.specs.declared.key.Frame.{Frame}
use Rattle.key_types.specs.declared.key.Key.{Key}
use Rattle.chain_model.specs.Places as by_number
use Rattle.profile_model.specs.Orders.{way_cmp}
use Rattle.profile_model.specs.Ways.{Way, to_body, to_call}
use Rattle.profile_model.proofs.OrderedLemmas.{all_ordered}
use Rattle.profile_laws.specs.Totals.{EndsInBody, IsKeyWay}
use Rattle.binary_model.specs.Places.{in_names, place_among, place_of_address, way_of}
use Rattle.key_types.specs.Numbers.{name_of}
use Rattle.output_model.specs.Program.{program_of, way_at, way_of_place}
use Rattle.output_model.specs.Sampled.{all_addresses, count_among, profile_of, ways_among}
use Rattle.profile_maker.specs.Laws.{KeyWaysAreTold}

ends_in_body : (names : List (List ℕ)) (calls : List Frame) (offset disc : ℕ)
    → EndsInBody (map (λ call. to_call call.offset call.disc (name_of names call.name)) calls ++ to_body offset disc ∷ [])
ends_in_body names [] offset disc = refl
ends_in_body names (call ∷ []) offset disc = (refl, refl)
ends_in_body names (call ∷ next ∷ calls) offset disc = (refl, ends_in_body names (next ∷ calls) offset disc)

key_way : (names : List (List ℕ)) (key : Key) → IsKeyWay (way_of names key)
key_way names key = (refl, ends_in_body names key.calls key.offset key.disc)

told_way : (names : List (List ℕ)) (place : by_number.Place) (way : Way) → way_of_place (in_names names place) ≡ Some way → IsKeyWay way
told_way names by_number.outside way e = cc
told_way names by_number.nameless way e = cc
told_way names by_number.no_line way e = cc
told_way names (by_number.has_key key) way e =
    let same : way_of names key ≡ way = cc in
    subst IsKeyWay same (key_way names key)

all_cons : {T : Type 0} (P : T → Type 0) (item : Option T) (items : List T)
    → ((x : T) → item ≡ Some x → P x) → AllByRecursion P items → AllByRecursion P (cons_option item items)
all_cons P None items each all = all
all_cons P (Some x) items each all = (each x refl, all)

all_kept : {S T : Type 0} (P : T → Type 0) (f : S → Option T) → ((s : S) (x : T) → f s ≡ Some x → P x)
    → (list : List S) → AllByRecursion P (filter_map f list)
all_kept P f each [] = tt
all_kept P f each (s ∷ list) = all_cons P (f s) (filter_map f list) (each s) (all_kept P f each list)

all_counted : (count : Way → ℕ) (ways : List Way) → AllByRecursion IsKeyWay ways
    → AllByRecursion (λ (c : Way × ℕ). IsKeyWay c.0) (map (λ way. (way, count way)) ways)
all_counted count [] all = tt
all_counted count (way ∷ ways) all =
    let both : IsKeyWay way × AllByRecursion IsKeyWay ways = all in
    (both.0, all_counted count ways both.1)

way_of_address : (file : List ℕ) (base : Bool) (address : ℕ) (way : Way) → way_at (program_of file base) address ≡ Some way → IsKeyWay way
unfolding place_of_address place_among
way_of_address file base address way e = told_way _ _ way e

pub key_ways_are_told : KeyWaysAreTold
unfolding profile_of
key_ways_are_told file base sampled =
    let program = program_of file base in
    all_counted (count_among all_addresses program sampled) (ways_among all_addresses program)
    (all_ordered IsKeyWay (way_cmp (λ _. 0)) (filter_map (way_at program) all_addresses)
    (all_kept IsKeyWay (way_at program) (way_of_address file base) all_addresses))
