-- The lines of rows are those of the profile.
use Rattle.std.proofs.Common.{◌≡◌, ◌≤◌, ◌<◌, ℕ, suc, ◌-◌, ◌==◌, min, List, [], ◌∷◌, map, filter, length, get_or, replicate, ◌^◌, Some, refl, sym, ap, subst, ◌∙◌, arith, IsPermutation, All}
use Rattle.std.proofs.lemmas.List.{length-map, length-replicate}
use Rattle.std.specs.List.{AllByRecursion, AllZip}
use Rattle.key_types.specs.declared.ids.KeyId.{KeyId}
use Rattle.key_types.specs.declared.key.Key.{Key}
use Rattle.cold_model.specs.Cold.{lines_with}
use Rattle.profile_model.specs.Profile.{Line as told_line, function_line, body_line, call_line, count_of, head_of, targets_of, total_of, line_by, line_at}
use Rattle.profile_lists.specs.Ranks.{AreRanks}
use Rattle.profile_model.specs.Ways.{to_function}
use Rattle.profile_tree.proofs.ItemLemmas.{permuted_back}
use Rattle.std.proofs.lemmas.List.Sorted.{IsPermutation-sym, IsPermutation-trans}
use Rattle.profile_tree.proofs.ListLemmas.{SomeAll, all_among, all_places, among_map_back, among_filter_back}
use Rattle.profile_tree.proofs.RowLemmas.{fronts, fronts_named, key_of_row, last_named, last_of, last_ranked, last_is_named, rows_are, total_of_row, written_is}
use Rattle.profile_tree.proofs.SumLemmas.{ByName, Given, all_to_each, count_is, head_is, rank_back, rank_low, root_is}
use Rattle.profile_tree.proofs.TargetLemmas.{all_ranks_low, targets_are}
use Rattle.profile_tree.proofs.WayLemmas.{IsNamed, Ranked}
use Rattle.profile_tree.specs.Items.{ranked, ranked_source, sources, told_item}
use Rattle.profile_tree.specs.Rows.{IsKnown, IsKnownBy, line_of, line_by as row_line_by, target_of}
use Rattle.profile_tree.specs.Said.{said, ways_said}
use Rattle.profile_tree.specs.Steps.{NumberedStep, at_function, at_line, at_call, name_at, named}
use Rattle.profile_tree.specs.Sums.{AreEach, counts_below, entries_of, root_total}
use Rattle.profile_tree.specs.Told.{IsOf, told, told_target}
use Rattle.profile_tree.specs.declared.head.Head.{Head}
use Rattle.profile_tree.specs.declared.line.Target.{Target}
use Rattle.profile_tree.specs.declared.lines.Parts.{Parts}
use Rattle.profile_lists.specs.Lists.{AreTargets}
use Rattle.profile_lists.specs.declared.lists.Target.{Target as RankedTarget}
use Rattle.profile_lists.specs.declared.pairs.Call.{Call}
use Rattle.profile_lists.specs.Rows.{AreRowsOf, IsRowOf}
use Rattle.profile_lists.specs.declared.item.Item.{Item}
use Rattle.profile_lists.specs.declared.item.Kind.TheVariants.{Function, Body, Call as Inlined}
use Rattle.profile_lists.specs.declared.item.Step.{Step as RankedStep}
use Rattle.profile_lists.specs.declared.rows.Row.{Row}

some_inner : (s t : RankedStep) → Some s ≡ Some t → s ≡ t
some_inner s t e = cc

less_one : (d n : ℕ) → suc d ≡ n → d ≡ n - 1
less_one d n e = omega arith

-- a line of a way that is written
pub record Tells (names : List (List ℕ)) (parts : Parts) (row : Row) (line : told_line) : Type 0 where
  pub known : IsKnown parts row
  pub named : IsOf names (line_of parts row)
  pub is : told names (line_of parts row) ≡ line

pub record TellAll (names : List (List ℕ)) (parts : Parts) (rows : List Row) (lines : List told_line) : Type 0 where
  pub known : AllByRecursion (IsKnown parts) rows
  pub named : AllByRecursion (IsOf names) (map (line_of parts) rows)
  pub are : map (told names) (map (line_of parts) rows) ≡ lines

module _ (names : List (List ℕ)) (keys : List Key) (calls : List Call) (besides : List KeyId) (heads : List Head) (besides_given : All (λ key. key.0 < length keys) besides) (totals tr nr : List ℕ) (parts : Parts)
    (g : Given names keys calls heads) (r : Ranked names (λ name. total_of (said names keys parts.counts.now calls heads) (to_function name ∷ [])) totals tr parts.by_total.now.ids nr parts.by_name.now.ids)
    (items sorted : List Item) (told_is : map told_item items ≡ map (ranked_source tr nr) (sources keys parts.counts.now calls besides heads)) (permuted : IsPermutation items sorted)
    (targets_is : AreTargets nr calls parts.targets.now) (heads_are : AreEach (length names) (entries_of heads) parts.heads.now) (counts_each : length parts.counts.now ≡ length keys) where
  total_back : (i : ℕ) → i < length names → get_or parts.by_total.now.ids (get_or tr i 0) 0 ≡ i
  total_back i h = r.by_total.back i (omega (arith, length-map totals (λ t. 2 ^ 64 - 1 - t), r.size))

  total_low : (i : ℕ) → i < length names → get_or tr i 0 < length parts.by_total.now.ids
  total_low i h = r.by_total.below i (omega (arith, length-map totals (λ t. 2 ^ 64 - 1 - t), r.size))

  depth_is : (s : NumberedStep) (w : List NumberedStep) (row : Row) → IsRowOf sorted (map (ranked tr nr) (s ∷ w)) row → row.depth ≡ length (map (named names) (s ∷ w)) - 1
  depth_is s w row is = less_one row.depth (length (map (named names) (s ∷ w))) (is.depth ∙ length-map (s ∷ w) (ranked tr nr) ∙ sym (length-map (s ∷ w) (named names)))

  target_names : (k : ℕ) → (i : ℕ) (d : Target) → i < length (map (target_of parts.by_name.now.ids) (filter (λ t. t.key == k) parts.targets.now)) → (get_or (map (target_of parts.by_name.now.ids) (filter (λ t. t.key == k) parts.targets.now)) i d).name.0 < length names
  target_names k =
      let ni = parts.by_name.now.ids in
      all_places (λ t. t.name.0 < length names) (map (target_of ni) (filter (λ t. t.key == k) parts.targets.now))
      (all_among (λ t. t.name.0 < length names) (map (target_of ni) (filter (λ t. t.key == k) parts.targets.now)) (λ t h.
      let b = among_map_back (target_of ni) t (filter (λ x. x.key == k) parts.targets.now) h in
      let there = (among_filter_back (λ x. x.key == k) b.0 parts.targets.now b.1).1 in
      let low = all_to_each (λ x. x.rank < length ni) b.0 parts.targets.now (all_ranks_low names keys calls heads nr ni g r.by_name parts.targets.now targets_is) there in
      let known : get_or ni b.0.rank 0 < length {A = ℕ} (replicate (length names) 0) = r.by_name.known b.0.rank low in
      subst (λ x. x.name.0 < length names) (sym b.2) (omega (arith, known, length-replicate {A = ℕ} (length names) 0))))

  by_last : (s : NumberedStep) (w : List NumberedStep) (row : Row) → AllByRecursion (IsNamed (length names)) (s ∷ w) → IsRowOf sorted (map (ranked tr nr) (s ∷ w)) row → (e : NumberedStep) → IsNamed (length names) e → last_of s w ≡ e → row.step ≡ ranked tr nr e → Tells names parts row (line_by (said names keys parts.counts.now calls heads) (map (named names) (s ∷ w)) (named names e) (named names e).kind)
  by_last s w row all is (at_function i) h last here =
      let p = said names keys parts.counts.now calls heads in
      let kind : row.step.kind ≡ Function = ap (λ x. x.kind) here in
      let rank : row.step.rank ≡ get_or tr i 0 = ap (λ x. x.rank) here in
      let id : get_or parts.by_total.now.ids row.step.rank 0 ≡ i = ap (λ q. get_or parts.by_total.now.ids q 0) rank ∙ total_back i h in
      let low : row.step.rank < length parts.by_total.now.ids = subst (λ q. q < length parts.by_total.now.ids) (sym rank) (total_low i h) in
      let total : row.total ≡ total_of p (map (named names) (s ∷ w)) = total_of_row names keys parts.counts.now calls besides heads besides_given totals tr parts.by_total.now.ids nr parts.by_name.now.ids g r items sorted told_is permuted (s ∷ w) row all is in
      let head : get_or parts.heads.now (get_or parts.by_total.now.ids row.step.rank 0) 0 ≡ head_of p (name_at names i) =
      ap (λ k. get_or parts.heads.now k 0) id ∙ heads_are.each i h ∙ sym (head_is names keys parts.counts.now calls heads g i h) in
      record {
        known = subst (IsKnownBy parts row) (sym kind) (low, subst (λ k. k < length parts.heads.now) (sym id) (omega (arith, h, heads_are.len)));
        named = subst (λ k. IsOf names (row_line_by parts row k)) (sym kind) (subst (λ k. k < length names) (sym id) h);
        is = ap (λ k. told names (row_line_by parts row k)) kind ∙ (λ m. function_line (name_at names (id m)) (total m) (head m));
      }
  by_last s w row all is (at_line o d) h last here =
      let p = said names keys parts.counts.now calls heads in
      let ni = parts.by_name.now.ids in
      let kind : row.step.kind ≡ Body = ap (λ x. x.kind) here in
      let offset : row.step.offset ≡ o = ap (λ x. x.offset) here in
      let disc : row.step.disc ≡ d = ap (λ x. x.disc) here in
      let key = key_of_row names keys parts.counts.now calls besides heads besides_given totals tr parts.by_total.now.ids nr ni g r items sorted told_is permuted s w o d row all last is in
      let count : get_or parts.counts.now row.key 0 ≡ count_of p (map (named names) (s ∷ w)) =
      sym (count_is names keys parts.counts.now calls heads g row.key key.given) ∙ ap (count_of p) (sym key.is) in
      let targets : map (told_target names) (map (target_of ni) (filter (λ t. t.key == row.key) parts.targets.now)) ≡ targets_of p (map (named names) (s ∷ w)) =
      targets_are names keys parts.counts.now calls heads _ totals tr parts.by_total.now.ids nr ni g r parts.targets.now targets_is row.key key.given ∙ ap (targets_of p) (sym key.is) in
      record {
        known = subst (IsKnownBy parts row) (sym kind) (omega (arith, key.given, counts_each));
        named = subst (λ k. IsOf names (row_line_by parts row k)) (sym kind) (target_names row.key);
        is = ap (λ k. told names (row_line_by parts row k)) kind ∙ (λ m. body_line (depth_is s w row is m) (offset m) (disc m) (count m) (targets m));
      }
  by_last s w row all is (at_call o d i) h last here =
      let p = said names keys parts.counts.now calls heads in
      let ni = parts.by_name.now.ids in
      let b : ByName names nr ni = record { ranks = r.by_name } in
      let kind : row.step.kind ≡ Inlined = ap (λ x. x.kind) here in
      let offset : row.step.offset ≡ o = ap (λ x. x.offset) here in
      let disc : row.step.disc ≡ d = ap (λ x. x.disc) here in
      let rank : row.step.rank ≡ get_or nr i 0 = ap (λ x. x.rank) here in
      let id : get_or ni row.step.rank 0 ≡ i = ap (λ q. get_or ni q 0) rank ∙ rank_back names nr ni b i h in
      let total : row.total ≡ total_of p (map (named names) (s ∷ w)) = total_of_row names keys parts.counts.now calls besides heads besides_given totals tr parts.by_total.now.ids nr ni g r items sorted told_is permuted (s ∷ w) row all is in
      record {
        known = subst (IsKnownBy parts row) (sym kind) (subst (λ q. q < length ni) (sym rank) (rank_low names nr ni b i h));
        named = subst (λ k. IsOf names (row_line_by parts row k)) (sym kind) (subst (λ k. k < length names) (sym id) h);
        is = ap (λ k. told names (row_line_by parts row k)) kind ∙ (λ m. call_line (depth_is s w row is m) (offset m) (disc m) (name_at names (id m)) (total m));
      }

  row_tells : (s : NumberedStep) (w : List NumberedStep) (row : Row) → AllByRecursion (IsNamed (length names)) (s ∷ w) → IsRowOf sorted (map (ranked tr nr) (s ∷ w)) row → Tells names parts row (line_at (said names keys parts.counts.now calls heads) (map (named names) (s ∷ w)))
  row_tells s w row all is =
      let p = said names keys parts.counts.now calls heads in
      let e = last_of s w in
      let here : row.step ≡ ranked tr nr e = some_inner row.step (ranked tr nr e) (sym is.last ∙ last_ranked tr nr s w) in
      subst (λ t. Tells names parts row (line_by p (map (named names) (s ∷ w)) t t.kind)) (sym (last_named names s w))
      (by_last s w row all is e (last_is_named (length names) s w all.0 all.1) refl here)

  all_tell : (fs : List (List NumberedStep)) (rows : List Row) → AllByRecursion (SomeAll (IsNamed (length names))) fs → AllZip (IsRowOf sorted) (map (map (ranked tr nr)) fs) rows → TellAll names parts rows (map (line_at (said names keys parts.counts.now calls heads)) (map (map (named names)) fs))
  all_tell [] [] all zip = record { known = tt; named = tt; are = refl }
  all_tell [] (row ∷ rows) all zip = absurd zip
  all_tell (f ∷ fs) [] all zip = absurd zip
  all_tell ([] ∷ fs) (row ∷ rows) all zip = absurd all.0
  all_tell ((s ∷ w) ∷ fs) (row ∷ rows) all zip =
      let one = row_tells s w row all.0 zip.0 in
      let rest = all_tell fs rows all.1 zip.1 in
      record { known = (one.known, rest.known); named = (one.named, rest.named); are = λ i. one.is i ∷ rest.are i }

  pub rows_tell : (rows : List Row) → AreRowsOf sorted rows → TellAll names parts rows (lines_with (ways_said names keys besides) (said names keys parts.counts.now calls heads))
  unfolding lines_with
  rows_tell rows are =
      let p = said names keys parts.counts.now calls heads in
      let ni = parts.by_name.now.ids in
      let ti = parts.by_total.now.ids in
      let counts = parts.counts.now in
      let fs = fronts names keys counts calls besides heads besides_given totals tr ti nr ni g r items sorted told_is permuted in
      let zip : AllZip (IsRowOf sorted) (map (map (ranked tr nr)) fs) rows =
      subst (λ xs. AllZip (IsRowOf sorted) xs rows) (rows_are names keys counts calls besides heads besides_given totals tr ti nr ni g r items sorted told_is permuted) are in
      let told_all = all_tell fs rows (fronts_named names keys counts calls besides heads besides_given totals tr ti nr ni g r items sorted told_is permuted) zip in
      subst (TellAll names parts rows) (sym (ap (map (line_at p)) (written_is names keys counts calls besides heads besides_given totals tr ti nr ni g r items sorted told_is permuted))) told_all

at_most_cap : (m s : ℕ) → min s m ≤ m
at_most_cap m s = omega arith

pub all_told :
    (names : List (List ℕ)) (keys : List Key) (calls : List Call) (besides : List KeyId) (heads : List Head) (parts : Parts) (n : ℕ) (totals tr nr : List ℕ) (items sorted : List Item) (rows : List Row)
    → Given names keys calls heads → All (λ key. key.0 < length keys) besides → n ≡ length names → AreEach n (root_total keys parts.counts.now) totals
    → AreRanks names (map (λ t. 2 ^ 64 - 1 - t) totals) tr parts.by_total.now.ids → AreRanks names (replicate (length names) 0) nr parts.by_name.now.ids
    → map told_item items ≡ map (ranked_source tr nr) (sources keys parts.counts.now calls besides heads) → IsPermutation items sorted → AreRowsOf sorted rows
    → AreTargets nr calls parts.targets.now → AreEach (length names) (entries_of heads) parts.heads.now → length parts.counts.now ≡ length keys
    → TellAll names parts rows (lines_with (ways_said names keys besides) (said names keys parts.counts.now calls heads))
all_told names keys calls besides heads parts n totals tr nr items sorted rows g besides_given size total_each by_total by_name told_is permuted rows_is targets_is heads_are counts_each =
    let counts = parts.counts.now in
    rows_tell names keys calls besides heads besides_given totals tr nr parts g
    (record {
      apart = g.names_apart;
      by_total = by_total;
      by_name = by_name;
      size = total_each.len ∙ size;
      total_is = λ i h. root_is names keys counts calls heads g i h ∙ sym (total_each.each i (omega arith));
      small = λ i h. omega (arith, total_each.each i (omega arith), at_most_cap (2 ^ 64 - 1) (counts_below keys counts (length keys) i));
    })
    items sorted told_is permuted targets_is heads_are counts_each rows rows_is

-- the same, from what is known step by step, where lists that were lent have two names
pub all_told_from :
    {n m : ℕ} {totals lent_totals tr lent_tr nr lent_nr own_nr sums : List ℕ} {items sorted lent_items : List Item} {rows lent_rows : List Row}
    (names : List (List ℕ)) (keys : List Key) (calls : List Call) (besides : List KeyId) (heads : List Head) (parts : Parts)
    → Given names keys calls heads → All (λ key. key.0 < length keys) besides → n ≡ length names → AreEach n (root_total keys parts.counts.now) totals → lent_totals ≡ totals
    → AreRanks names (map (λ t. 2 ^ 64 - 1 - t) lent_totals) tr parts.by_total.now.ids → AreRanks names (replicate (length names) 0) nr parts.by_name.now.ids
    → lent_tr ≡ tr → lent_nr ≡ nr → IsPermutation (map told_item items) (map (ranked_source lent_tr lent_nr) (sources keys parts.counts.now calls besides heads))
    → IsPermutation items sorted → lent_items ≡ sorted → AreRowsOf lent_items rows → lent_rows ≡ rows
    → own_nr ≡ nr → AreTargets own_nr calls parts.targets.now → m ≡ length names → AreEach m (entries_of heads) sums → parts.heads.now ≡ sums
    → length parts.counts.now ≡ length keys → TellAll names parts lent_rows (lines_with (ways_said names keys besides) (said names keys parts.counts.now calls heads))
all_told_from {n} {m} {totals} {lent_totals} {tr} {lent_tr} {nr} {lent_nr} {own_nr} {sums} {items} {sorted} {lent_items} {rows} {lent_rows} names keys calls besides heads parts g besides_given size total_each totals_is by_total by_name tr_is nr_is told_is permuted items_is rows_is rows_lent own_is targets_is heads_size head_each heads_is counts_each =
    let in_order = permuted_back told_item items (map (ranked_source lent_tr lent_nr) (sources keys parts.counts.now calls besides heads)) told_is in
    all_told names keys calls besides heads parts n totals tr nr in_order.0 sorted lent_rows g besides_given size total_each
    (subst (λ ts. AreRanks names (map (λ t. 2 ^ 64 - 1 - t) ts) tr parts.by_total.now.ids) totals_is by_total) by_name
    (in_order.1 ∙ (λ i. map (ranked_source (tr_is i) (nr_is i)) (sources keys parts.counts.now calls besides heads)))
    (IsPermutation-trans in_order.0 items sorted (IsPermutation-sym items in_order.0 in_order.2) permuted)
    (subst (λ xs. AreRowsOf xs lent_rows) items_is (subst (AreRowsOf lent_items) (sym rows_lent) rows_is))
    (subst (λ xs. AreTargets xs calls parts.targets.now) own_is targets_is)
    (subst (λ k. AreEach k (entries_of heads) parts.heads.now) heads_size (subst (AreEach m (entries_of heads)) (sym heads_is) head_each)) counts_each

pub targets_low : (names : List (List ℕ)) (keys : List Key) (calls : List Call) (heads : List Head) (nr own_nr ni : List ℕ) (targets : List RankedTarget) → Given names keys calls heads → AreRanks names (replicate (length names) 0) nr ni → own_nr ≡ nr → AreTargets own_nr calls targets → (k : ℕ) (d : RankedTarget) → k < length targets → (get_or targets k d).rank < length ni
targets_low names keys calls heads nr own_nr ni targets g by_name own_is are =
    all_ranks_low names keys calls heads nr ni g by_name targets (subst (λ xs. AreTargets xs calls targets) own_is are)
