-- What passed `check` is least.
use Rattle.std.proofs.Common.{◌≡◌, ℕ, ◌≤◌, ◌<◌, ◌^◌, Bool, true, false, List, [], ◌∷◌, length, Option, None, Some, nat_lt, refl, arith, subst}
use Rattle.std.specs.List.{AllByRecursion, AllZip}
use Rattle.std.proofs.lemmas.Bool.Decides.{nat_tests}
use Rattle.std.proofs.lemmas.List.Elements.{recursion_from_All}
use Rattle.refusal.specs.declared.place.Place.{Place}
use Rattle.refusal.specs.Place.{fails_at, first_bad, size_item}
use Rattle.refusal.proofs.PlaceLemmas.{option_or-none}
use Rattle.block_model.specs.Function.{Function}
use Rattle.block_model.specs.Text.{functions_of}
use Rattle.flow_model.specs.Network.{Network}
use Rattle.flow_model.specs.Sound.{IsSound}
use Rattle.flow_model.specs.Sides.{at_side}
use Rattle.flow_model.proofs.LawLemmas.{a_cut_shows_no_counts}
use Rattle.sound_text.proofs.TextLemmas.{good_texts_are_sound}
use Rattle.repair_model.specs.Checking.{failed_in, network_by}
use Rattle.repair_model.specs.Checking as checking
use Rattle.repair_model.specs.Judging.{first_bad_of_repairs}
use Rattle.repair_model.specs.Laws.{IsToldOf}
use Rattle.repair_model.specs.Made.{Repairs}
use Rattle.repair_model.specs.Repair.{Repair, Solution, flow, cut}
use Rattle.repair_model.specs.Text.{repairs_of}
use Rattle.repair_model.proofs.CheckLemmas.{passing_lines_repair}
use Rattle.repair_model.proofs.WholeLemmas.{good_repairs_are_whole}
use Rattle.command_model.specs.Answer.{Answer, unless_failed, writes}
use Rattle.command_model.specs.Command.{Command, check}
use Rattle.command_model.specs.Files.{first_bad_of_blocks, first_bad_of_repair_text, max_repair_bytes}
use Rattle.command_laws.specs.Checked.{CheckedIsLeast, IsLeastOf, TellsLeast}
use Rattle.command_laws.proofs.AnswerLemmas.{has_file}
use Rattle.command_laws.proofs.BlockLemmas.{good_of_any}

-- ---- a repair text that is good

-- What a good repair text is: not too large, and without a bad line.
record IsGoodRepair (funs : List Function) (text : List ℕ) : Type 0 where
  small : length text ≤ 2 ^ 63
  lines : first_bad_of_repairs 2 funs text ≡ None

not_larger : (most n : ℕ) (place : Place) → fails_at (nat_lt most n) place ≡ None → nat_lt most n ≡ false
not_larger most n place = by (nat_lt most n)
  where
    by : (b : Bool) → fails_at b place ≡ None → b ≡ false
    by true none = absurd cc
    by false none = refl

pub both_none : (here other : Option Place) → first_bad (here ∷ other ∷ []) ≡ None → (here ≡ None) × (other ≡ None)
both_none None None none = (refl, refl)
both_none None (Some place) none = absurd cc
both_none (Some place) other none = absurd cc

good_repair : (funs : List Function) (text : List ℕ) → first_bad_of_repair_text 2 funs text ≡ None → IsGoodRepair funs text
unfolding first_bad_of_repair_text
good_repair funs text none =
    let both = both_none (size_item 2 max_repair_bytes text) (first_bad_of_repairs 2 funs text) none in
    let within = not_larger max_repair_bytes (length text) _ both.0 in
    let small : length text ≤ max_repair_bytes = grind (arith, nat_tests, within) in
    record { small = omega (arith, small); lines = both.1 }

-- ---- its repairs

least : (net : Network) (solution : Solution) (first second : ℕ) → Repairs net solution first second → TellsLeast net solution first
least net (flow counts ins outs) first second is = (is.1, is.3)
least net (cut root ins outs) first second is =
    let more = is.3 in
    let fewer = subst (λ n. second < n) is.1 more in
    a_cut_shows_no_counts net (at_side root ins outs) (second, is.2, fewer)

all_least : (funs : List Function) (repairs : List (ℕ × Repair)) → AllByRecursion (λ (fun : Function). IsSound fun.blocks fun.edges) funs
    → AllZip IsToldOf funs repairs → checking.failed_line funs repairs ≡ None → AllZip IsLeastOf funs repairs
all_least [] [] sound told passes = tt
all_least [] (r ∷ repairs) sound told passes = told
all_least (fun ∷ funs) [] sound told passes = told
all_least (fun ∷ funs) ((line, r) ∷ repairs) sound told passes =
    let both = option_or-none (failed_in fun line r) (checking.failed_line funs repairs) passes in (
      least (network_by fun r) r.solution r.first r.second ((passing_lines_repair fun line r sound.0 told.0.whole).0 both.0),
      all_least funs repairs sound.1 told.1 both.1,
    )

-- ---- the answer

not_failed : (failed : Option ℕ) (next : Answer) (command : Command) (contents : List (List ℕ)) → unless_failed failed next ≡ writes command contents → failed ≡ None
not_failed None next command contents is = refl
not_failed (Some line) next command contents is = absurd cc

pub checked_is_least : CheckedIsLeast
checked_is_least files cfg out contents answers =
    let command = check cfg out in
    let one = has_file 1 (files cfg) (first_bad_of_blocks 1) _ command contents answers in
    let blocks = one.file in
    let two = has_file 2 (files out) (first_bad_of_repair_text 2 (functions_of blocks)) _ command contents one.then in
    let text = two.file in
    let good = good_repair (functions_of blocks) text two.good in
    let lines = (good_of_any 1 1 blocks one.good).lines in
    let sound = recursion_from_All (λ (fun : Function). IsSound fun.blocks fun.edges) (functions_of blocks) (good_texts_are_sound 1 blocks lines) in
    let told = good_repairs_are_whole 2 (functions_of blocks) text good.small good.lines in
    let passes = not_failed (checking.failed_line (functions_of blocks) (repairs_of (functions_of blocks) text)) _ command contents two.then in
    (blocks, text, one.there, two.there, all_least (functions_of blocks) (repairs_of (functions_of blocks) text) sound told passes)
