-- Lines besides those of recorded keys.
use Rattle.std.proofs.Common.{◌≡◌, List, [], ◌∷◌, ◌++◌, map, sym, ap, ◌∙◌}
use Rattle.std.specs.List.{flat_map}
use Rattle.std.proofs.lemmas.List.{append-nil}
use Rattle.profile_model.proofs.OrderLemmas.{ways_tell_apart}
use Rattle.profile_model.specs.Laws.{has}
use Rattle.profile_model.specs.Orders.{ordered, way_cmp}
use Rattle.profile_model.specs.Profile.{Profile, entered, line_at, lines_of, recorded, total_of_function}
use Rattle.profile_model.specs.Ways.{Way, beginnings, to_function}
use Rattle.profile_laws.proofs.CountLemmas.{Inside, append_inside, back, entered_inside, flat_inside, line_alike, ordered_alike, recorded_inside, totals_alike}
use Rattle.profile_laws.proofs.TotalLemmas.{among_from_has, has_from_among}
use Rattle.profile_laws.specs.Counts.{CountTheSame}
use Rattle.cold_model.specs.Cold.{lines_with, written_with}
use Rattle.cold_model.specs.Laws.{LinesWithAreByCounts, NoneBesides}

pub none_besides : NoneBesides
unfolding lines_with lines_of
none_besides p =
    ap (λ ways. map (line_at p) (ordered (way_cmp (total_of_function p)) (flat_map beginnings (recorded p ++ ways)))) (append-nil (entered p))

-- Lists in which the same ways stand give the same lines, whatever their order and however often a way stands in them.
pub same_lines : (p : Profile) (ways others : List Way) → ((z : Way) → has (way_cmp (total_of_function p)) z ways ≡ has (way_cmp (total_of_function p)) z others)
    → lines_with ways p ≡ lines_with others p
unfolding lines_with Inside
same_lines p ways others same =
    let cmp = way_cmp (total_of_function p) in
    let t = ways_tell_apart (total_of_function p) in
    let all : List Way → List Way = λ ws. recorded p ++ (entered p ++ ws) in
    let one : (xs ys : List Way) → ((z : Way) → has cmp z xs ≡ has cmp z ys) → Inside (flat_map beginnings (all xs)) (flat_map beginnings (all ys)) =
    λ xs ys alike. flat_inside beginnings (all xs) (all ys)
    (append_inside (recorded p) (entered p ++ xs) (recorded p) (entered p ++ ys) (λ x h. h)
    (append_inside (entered p) xs (entered p) ys (λ x h. h) (λ x h. among_from_has cmp t x ys (sym (alike x) ∙ has_from_among cmp t x xs h)))) in
    ap (map (line_at p))
    (ordered_alike cmp t (flat_map beginnings (all ways)) (flat_map beginnings (all others)) (one ways others same) (one others ways (λ z. sym (same z))))

all_inside : (besides : List Way) (p q : Profile) → CountTheSame p q
    → Inside (flat_map beginnings (recorded p ++ (entered p ++ besides))) (flat_map beginnings (recorded q ++ (entered q ++ besides)))
unfolding Inside
all_inside besides p q same =
    flat_inside beginnings (recorded p ++ (entered p ++ besides)) (recorded q ++ (entered q ++ besides))
    (append_inside (recorded p) (entered p ++ besides) (recorded q) (entered q ++ besides) (recorded_inside p q same)
    (append_inside (entered p) besides (entered q) besides (entered_inside p q same) (λ x h. h)))

written_alike : (besides : List Way) (p q : Profile) → CountTheSame p q → written_with besides p ≡ written_with besides q
written_alike besides p q same =
    ap (λ total. ordered (way_cmp total) (flat_map beginnings (recorded p ++ (entered p ++ besides)))) (λ i name. totals_alike p q same (to_function name ∷ []) i)
    ∙ ordered_alike (way_cmp (total_of_function q)) (ways_tell_apart (total_of_function q))
    (flat_map beginnings (recorded p ++ (entered p ++ besides))) (flat_map beginnings (recorded q ++ (entered q ++ besides)))
    (all_inside besides p q same) (all_inside besides q p (back same))

pub lines_with_are_by_counts : LinesWithAreByCounts
unfolding lines_with
lines_with_are_by_counts besides p q same =
    ap (λ line. map line (written_with besides p)) (λ i way. line_alike p q same way i) ∙ ap (map (line_at q)) (written_alike besides p q same)
