-- Calls and entries of rows are those of the branches that the rows tell of.
use Rattle.std.proofs.Common.{◌≡◌, ◌≤◌, ◌<◌, ℕ, ◌^◌, ◌==◌, Bool, true, false, cond, ◌&&◌, List, [], map, length, sum_by, Option, None, Some, refl, sym, ap, subst, ◌∙◌, arith}
use Rattle.std.specs.Prelude.{filter, slice_get}
use Rattle.std.specs.List.{All, filter_map}
use Rattle.std.specs.Option.{option_map, option_map_or, unwrap_or}
use Rattle.std.proofs.lemmas.Option.{slice_get_within}
use Rattle.key_types.specs.declared.ids.KeyId.{KeyId}
use Rattle.key_types.specs.declared.ids.NameId.{NameId}
use Rattle.key_types.specs.declared.key.Key.{Key}
use Rattle.key_types.specs.declared.places.Seg.{Seg}
use Rattle.key_types.specs.declared.places.Where.{Where}
use Rattle.key_types.specs.declared.places.Where.TheVariants.{Outside, Nameless, NoLine, At}
use Rattle.sample_model.specs.Limits.{max_branches}
use Rattle.sample_model.specs.declared.pair.Pair.{Pair}
use Rattle.branch_counts.specs.Table.{Tallies}
use Rattle.report_model.specs.declared.class.Class.{Class}
use Rattle.report_model.specs.declared.class.Class.TheVariants.{Entry, Inside, Unmapped}
use Rattle.report_model.specs.declared.class.Reason.{Reason}
use Rattle.report_model.specs.Branches.{branch_class, class_by, class_by_reason, reason_of}
use Rattle.binary_model.specs.Places.{Place, outside, nameless, no_line, at_way}
use Rattle.profile_model.specs.Profile.{head_of, target_of}
use Rattle.profile_model.specs.Ways.{Way, same_name, same_way}
use Rattle.profile_report.specs.Classed.{all_times, classed_by}
use Rattle.profile_report.specs.declared.classed.Classed.{Classed}
use Rattle.profile_tree.proofs.ListLemmas.{all_among, among_map_back, sum_at_most, sum_filter, sum_map}
use Rattle.profile_tree.specs.Known.{HasNames, IsGiven}
use Rattle.profile_tree.specs.Said.{said, way_at}
use Rattle.profile_tree.specs.Stated.{AreGiven}
use Rattle.profile_tree.specs.Steps.{name_at}
use Rattle.profile_tree.specs.Sums.{calls_of, entries_of}
use Rattle.profile_tree.specs.declared.head.Head.{Head}
use Rattle.profile_lists.specs.declared.pairs.Call.{Call}
use Rattle.output_model.specs.Program.{Program, way_of_place}
use Rattle.output_model.specs.Sampled as told
use Rattle.output_model.specs.Sampled.{call_by, call_of, has_way}
use Rattle.profile_writer.proofs.SumLemmas.{kept_all, kept_sum, members}
use Rattle.profile_writer.specs.Items.{call_from, call_from_key, call_in, head_by, head_in}
use Rattle.profile_writer.specs.Told.{TellsName, TellsPlace, TellsProgram}

-- a name is wanted
abbrev names : List ℕ → Option (List ℕ) → Bool
names name o = option_map_or (same_name name) o false

-- a way is
abbrev ways : Way → Option Way → Bool
ways way o = option_map_or (same_way way) o false

-- ---- entries

no_head : (reason : Option Reason) (times : ℕ) → head_by (class_by_reason reason) times ≡ None
no_head None times = refl
no_head (Some reason) times = refl

abbrev head_weight : List (List ℕ) → List ℕ → Head → ℕ
head_weight all name head = cond (same_name name (name_at all head.name.0)) head.times 0

head_row : (all : List (List ℕ)) (name : List ℕ) (o : Option (List ℕ)) (answer : Option NameId) → TellsName all o answer → (from to : Where) (times : ℕ)
    → option_map_or (head_weight all name) (head_by (class_by answer from to) times) 0 ≡ cond (names name o) times 0
head_row all name None answer shown from to times =
    (λ i. option_map_or (head_weight all name) (head_by (class_by (shown i) from to) times) 0)
    ∙ ap (λ o. option_map_or (head_weight all name) o 0) (no_head (reason_of from to) times)
head_row all name (Some n) answer shown from to times =
    (λ i. option_map_or (head_weight all name) (head_by (class_by (shown.1 i) from to) times) 0)
    ∙ ap (λ o. cond (same_name name (unwrap_or o [])) times 0) shown.2

head_member : (name : List ℕ) (o : Option (List ℕ)) → option_map_or (λ (h : List ℕ × ℕ). cond (same_name name h.0) h.1 0) (option_map (λ n. (n, 1)) o) 0 ≡ cond (names name o) 1 0
head_member name None = refl
head_member name (Some n) = refl

-- ---- calls

no_call : (key : KeyId) (reason : Option Reason) (times : ℕ) → call_from_key key (class_by_reason reason) times ≡ None
no_call key None times = refl
no_call key (Some reason) times = refl

and_false : (b : Bool) (n : ℕ) → cond (b && false) n 0 ≡ 0
and_false true n = refl
and_false false n = refl

abbrev call_weight : List (List ℕ) → List Key → Way → List ℕ → Call → ℕ
call_weight all keys way name call = cond (same_way way (way_at all keys call.key.0) && same_name name (name_at all call.callee.0)) call.times 0

call_row : (all : List (List ℕ)) (keys : List Key) (way : Way) (name : List ℕ) (place : Place) (from : Where) → TellsPlace all keys place from
    → (o : Option (List ℕ)) (answer : Option NameId) → TellsName all o answer → (to : Where) (times : ℕ)
    → option_map_or (call_weight all keys way name) (call_from from (class_by answer from to) times) 0 ≡ cond (ways way (way_of_place place) && names name o) times 0
call_row all keys way name outside from shown o answer named to times = λ i. option_map_or (call_weight all keys way name) (call_from (shown i) (class_by answer from to) times) 0
call_row all keys way name nameless from shown o answer named to times = λ i. option_map_or (call_weight all keys way name) (call_from (shown i) (class_by answer from to) times) 0
call_row all keys way name no_line from shown o answer named to times = λ i. option_map_or (call_weight all keys way name) (call_from (shown i) (class_by answer from to) times) 0
call_row all keys way name (at_way w) from shown None answer named to times =
    (λ i. option_map_or (call_weight all keys way name) (call_from (shown.1 i) (class_by (named i) (shown.1 i) to) times) 0)
    ∙ ap (λ c. option_map_or (call_weight all keys way name) c 0) (no_call shown.0 (reason_of (At shown.0) to) times)
    ∙ sym (and_false (same_way way w) times)
call_row all keys way name (at_way w) from shown (Some n) answer named to times =
    (λ i. option_map_or (call_weight all keys way name) (call_from (shown.1 i) (class_by (named.1 i) from to) times) 0)
    ∙ (λ i. cond (same_way way (shown.2.way_is i) && same_name name (unwrap_or (named.2 i) [])) times 0)

call_member : (way : Way) (name : List ℕ) (w : Option Way) (o : Option (List ℕ))
    → option_map_or (λ (c : Way × List ℕ × ℕ). cond (same_way way c.0 && same_name name c.1) c.2 0) (call_by w o) 0 ≡ cond (ways way w && names name o) 1 0
call_member way name None o = refl
call_member way name (Some w) None = sym (and_false (same_way way w) 1)
call_member way name (Some w) (Some n) = refl

-- a kept call or entry stands for no more than its row
head_small : (class : Class) (times : ℕ) (w : Head → ℕ) → ((head : Head) → w head ≤ head.times) → option_map_or w (head_by class times) 0 ≤ times
head_small (Entry name) times w least = least (record { name = name; times = times })
head_small Inside times w least = omega arith
head_small (Unmapped reason) times w least = omega arith

call_small : (place : Where) (class : Class) (times : ℕ) (w : Call → ℕ) → ((call : Call) → w call ≤ call.times) → option_map_or w (call_from place class times) 0 ≤ times
call_small Outside class times w least = omega arith
call_small Nameless class times w least = omega arith
call_small NoLine class times w least = omega arith
call_small (At key) (Entry callee) times w least = least (record { key = key; callee = callee; times = times })
call_small (At key) Inside times w least = omega arith
call_small (At key) (Unmapped reason) times w least = omega arith

cond_small : (b : Bool) (n : ℕ) → cond b n 0 ≤ n
cond_small true n = omega arith
cond_small false n = omega arith

pub entries_fit : (branches : List (Classed Class)) (name : ℕ) → entries_of (filter_map head_in branches) name ≤ all_times branches
entries_fit branches name =
    let w : Head → ℕ = λ head. cond (head.name.0 == name) head.times 0 in
    let least : sum_by (λ b. option_map_or w (head_in b) 0) branches ≤ all_times branches =
    sum_at_most (λ b. option_map_or w (head_in b) 0) (λ b. b.row.times) branches
    (all_among (λ b. option_map_or w (head_in b) 0 ≤ b.row.times) branches (λ b _. head_small b.class b.row.times w (λ head. cond_small (head.name.0 == name) head.times))) in
    omega (arith, least, kept_sum head_in w branches)

pub calls_fit : (place : ℕ → Where) (branches : List (Classed Class)) (key callee : ℕ) → calls_of (filter_map (call_in place) branches) key callee ≤ all_times branches
calls_fit place branches key callee =
    let w : Call → ℕ = λ call. cond (call.key.0 == key && call.callee.0 == callee) call.times 0 in
    let least : sum_by (λ b. option_map_or w (call_in place b) 0) branches ≤ all_times branches =
    sum_at_most (λ b. option_map_or w (call_in place b) 0) (λ b. b.row.times) branches
    (all_among (λ b. option_map_or w (call_in place b) 0 ≤ b.row.times) branches
    (λ b _. call_small (place b.row.from) b.class b.row.times w (λ call. cond_small (call.key.0 == key && call.callee.0 == callee) call.times))) in
    omega (arith, least, kept_sum (call_in place) w branches)

pub calls_small : (calls : List Call) (place : ℕ → Where) (branches : List (Classed Class)) → calls ≡ filter_map (call_in place) branches → all_times branches ≤ max_branches → (key callee : ℕ) → calls_of calls key callee < 2 ^ 64
calls_small calls place branches is few key callee = subst (λ (cs : List Call). calls_of cs key callee < 2 ^ 64) (sym is) (omega (arith, few, calls_fit place branches key callee))

pub heads_small : (heads : List Head) (branches : List (Classed Class)) → heads ≡ filter_map head_in branches → all_times branches ≤ max_branches → (name : ℕ) → entries_of heads name < 2 ^ 64
heads_small heads branches is few name = subst (λ (hs : List Head). entries_of hs name < 2 ^ 64) (sym is) (omega (arith, few, entries_fit branches name))

module _ (program : Program) (all : List (List ℕ)) (keys : List Key) (segments : List Seg) (place : ℕ → Where) (function : ℕ → Option ℕ) (entered : ℕ → Option NameId)
    (shown : TellsProgram program all keys segments place function entered) (pairs : List (ℕ × ℕ)) (rows : List Pair) (tallied : Tallies pairs rows) where
  abbrev classed : List (Classed Class)
  classed = map (classed_by (branch_class place entered)) rows

  pub heads_alike : (counts : List ℕ) (calls : List Call) (name : List ℕ)
      → head_of (said all keys counts calls (filter_map head_in classed)) name ≡ sum_by (λ h. h.1) (filter (λ h. same_name name h.0) (filter_map (told.head_of program) pairs))
  heads_alike counts calls name =
      sum_filter (λ h. h.1) (λ h. same_name name h.0) (map (λ head. (name_at all head.name.0, head.times)) (filter_map head_in classed))
      ∙ sum_map (λ h. cond (same_name name h.0) h.1 0) (λ head. (name_at all head.name.0, head.times)) (filter_map head_in classed)
      ∙ kept_sum head_in (head_weight all name) classed
      ∙ sum_map (λ b. option_map_or (head_weight all name) (head_in b) 0) (classed_by (branch_class place entered)) rows
      ∙ (λ i. sum_by (λ row. head_row all name (program.entered row.to) (entered row.to) (shown.entrances row.to) (place row.from) (place row.to) row.times i) rows)
      ∙ members pairs rows (λ p. names name (program.entered p.1)) tallied
      ∙ (λ i. sum_by (λ p. sym (head_member name (program.entered p.1)) i) pairs)
      ∙ sym (kept_sum (told.head_of program) (λ h. cond (same_name name h.0) h.1 0) pairs)
      ∙ sym (sum_filter (λ h. h.1) (λ h. same_name name h.0) (filter_map (told.head_of program) pairs))

  pub targets_alike : (counts : List ℕ) (heads : List Head) (way : Way) (name : List ℕ)
      → target_of (said all keys counts (filter_map (call_in place) classed) heads) way name
      ≡ sum_by (λ c. c.2) (filter (λ c. same_way way c.0 && same_name name c.1) (filter_map (call_of program) pairs))
  targets_alike counts heads way name =
      let calls = filter_map (call_in place) classed in
      let told_call : Call → Way × List ℕ × ℕ = λ call. (way_at all keys call.key.0, name_at all call.callee.0, call.times) in
      sum_filter (λ c. c.2) (λ c. same_way way c.0 && same_name name c.1) (map told_call calls)
      ∙ sum_map (λ c. cond (same_way way c.0 && same_name name c.1) c.2 0) told_call calls
      ∙ kept_sum (call_in place) (call_weight all keys way name) classed
      ∙ sum_map (λ b. option_map_or (call_weight all keys way name) (call_in place b) 0) (classed_by (branch_class place entered)) rows
      ∙ (λ i. sum_by (λ row. call_row all keys way name (program.place row.from) (place row.from) (shown.places row.from) (program.entered row.to) (entered row.to) (shown.entrances row.to) (place row.to) row.times i) rows)
      ∙ members pairs rows (λ p. ways way (way_of_place (program.place p.0)) && names name (program.entered p.1)) tallied
      ∙ (λ i. sum_by (λ p. sym (call_member way name (way_of_place (program.place p.0)) (program.entered p.1)) i) pairs)
      ∙ sym (kept_sum (call_of program) (λ c. cond (same_way way c.0 && same_name name c.1) c.2 0) pairs)
      ∙ sym (sum_filter (λ c. c.2) (λ c. same_way way c.0 && same_name name c.1) (filter_map (call_of program) pairs))

-- numbers in calls and entries were given

module _ (program : Program) (all : List (List ℕ)) (keys : List Key) (segments : List Seg) (place : ℕ → Where) (function : ℕ → Option ℕ) (entered : ℕ → Option NameId)
    (shown : TellsProgram program all keys segments place function entered) (rows : List Pair) where
  abbrev classed_rows : List (Classed Class)
  classed_rows = map (classed_by (branch_class place entered)) rows

  entered_given : (address : ℕ) (id : NameId) → entered address ≡ Some id → id.0 < length all
  entered_given address id e = by_name (program.entered address) (shown.entrances address)
    where
      by_name : (o : Option (List ℕ)) → TellsName all o (entered address) → id.0 < length all
      by_name None named = absurd (none_some id (sym named ∙ e))
        where
          none_some : (x : NameId) → None ≡ Some x → ⊥
          none_some x q = cc
      by_name (Some n) named =
          let same : named.0 ≡ id = inner named.0 id (sym named.1 ∙ e) in
          slice_get_within all id.0 n (ap (λ x. slice_get all x.0) (sym same) ∙ named.2)
        where
          inner : (x y : NameId) → Some x ≡ Some y → x ≡ y
          inner x y q = cc

  key_given : (address : ℕ) (id : KeyId) → place address ≡ At id → id.0 < length keys
  key_given address id e = by_place (program.place address) (shown.places address)
    where
      by_place : (p : Place) → TellsPlace all keys p (place address) → id.0 < length keys
      by_place outside is = absurd (no_key id (sym is ∙ e))
        where
          no_key : (x : KeyId) → Outside ≡ At x → ⊥
          no_key x q = cc
      by_place nameless is = absurd (no_key id (sym is ∙ e))
        where
          no_key : (x : KeyId) → Nameless ≡ At x → ⊥
          no_key x q = cc
      by_place no_line is = absurd (no_key id (sym is ∙ e))
        where
          no_key : (x : KeyId) → NoLine ≡ At x → ⊥
          no_key x q = cc
      by_place (at_way w) is = subst (λ (x : KeyId). x.0 < length keys) (inner is.0 id (sym is.1 ∙ e)) is.2.inside
        where
          inner : (x y : KeyId) → At x ≡ At y → x ≡ y
          inner x y q = cc

  head_given : (o : Option NameId) (from to : Where) (times : ℕ) (head : Head) → ((id : NameId) → o ≡ Some id → id.0 < length all) → head_by (class_by o from to) times ≡ Some head → head.name.0 < length all
  head_given None from to times head given e = absurd (none_some head (sym (no_head (reason_of from to) times) ∙ e))
    where
      none_some : (x : Head) → None ≡ Some x → ⊥
      none_some x q = cc
  head_given (Some id) from to times head given e = subst (λ (x : Head). x.name.0 < length all) (inner (record { name = id; times = times }) head e) (given id refl)
    where
      inner : (x y : Head) → Some x ≡ Some y → x ≡ y
      inner x y q = cc

  heads_given : All (λ head. head.name.0 < length all) (filter_map head_in classed_rows)
  heads_given = kept_all (λ head. head.name.0 < length all) head_in classed_rows (λ b there head e.
      let row = among_map_back (classed_by (branch_class place entered)) b rows there in
      head_given (entered row.0.to) (place row.0.from) (place row.0.to) row.0.times head (entered_given row.0.to) (sym (ap head_in row.2) ∙ e))

  call_given : (from : Where) (o : Option NameId) (to : Where) (times : ℕ) (call : Call) → ((id : KeyId) → from ≡ At id → id.0 < length keys) → ((id : NameId) → o ≡ Some id → id.0 < length all)
      → call_from from (class_by o from to) times ≡ Some call → IsGiven (length keys) (length all) call
  call_given Outside o to times call low given e = absurd (none_some call e)
    where
      none_some : (x : Call) → None ≡ Some x → ⊥
      none_some x q = cc
  call_given Nameless o to times call low given e = absurd (none_some call e)
    where
      none_some : (x : Call) → None ≡ Some x → ⊥
      none_some x q = cc
  call_given NoLine o to times call low given e = absurd (none_some call e)
    where
      none_some : (x : Call) → None ≡ Some x → ⊥
      none_some x q = cc
  call_given (At key) None to times call low given e = absurd (none_some call (sym (no_call key (reason_of (At key) to) times) ∙ e))
    where
      none_some : (x : Call) → None ≡ Some x → ⊥
      none_some x q = cc
  call_given (At key) (Some id) to times call low given e =
      subst (IsGiven (length keys) (length all)) (inner (record { key = key; callee = id; times = times }) call e) (low key refl, given id refl)
    where
      inner : (x y : Call) → Some x ≡ Some y → x ≡ y
      inner x y q = cc

  calls_given : All (IsGiven (length keys) (length all)) (filter_map (call_in place) classed_rows)
  calls_given = kept_all (IsGiven (length keys) (length all)) (call_in place) classed_rows (λ b there call e.
      let row = among_map_back (classed_by (branch_class place entered)) b rows there in
      call_given (place row.0.from) (entered row.0.to) (place row.0.to) row.0.times call (key_given row.0.from) (entered_given row.0.to) (sym (ap (call_in place) row.2) ∙ e))

  pub rows_given : All (HasNames (length all)) keys → (branches : List (Classed Class)) → branches ≡ classed_rows
      → AreGiven (length all) keys (filter_map (call_in place) branches) (filter_map head_in branches)
  rows_given key_names branches are =
      subst (λ (bs : List (Classed Class)). AreGiven (length all) keys (filter_map (call_in place) bs) (filter_map head_in bs)) (sym are)
      (record { key_names = key_names; called = calls_given; entered = heads_given })
