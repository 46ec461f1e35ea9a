use Rattle.std.proofs.Common.{◌∙◌, ap, length, subst, sym}
use Rattle.std.specs.List.{AllByRecursion}
use Rattle.std.proofs.lemmas.Result.{IfOk-weaker}
use Rattle.cold_model.specs.Cold.{cold_lines_of, lines_with}
use Rattle.profile_laws.specs.Counts.{CountTheSame}
use Rattle.profile_text.specs.Draft.{IsGivenItem}
use Rattle.profile_text.specs.Numbers.{AreNumbersOf, counted}
use Rattle.profile_tree.specs.Numbers.{numbers_said}
use Rattle.profile_tree.specs.Said.{ways_said}
use Rattle.cold_maker.proofs.BesidesLemmas.{cold_lines_are}
use Rattle.cold_maker.specs.Besides.{first_ways}
use Rattle.cold_maker.proofs.tree.tree_of.Goals as goal

pub numbers_of-requires : goal.numbers_of-requires
numbers_of-requires c =
    (length c.args.names.now, subst (AreNumbersOf (length c.args.names.now) c.args.keys.now) (sym c.as_slice-items.ensures) c.requires.numbers)

pub besides_of-requires-clause-given : goal.besides_of-requires-clause-given
besides_of-requires-clause-given c =
    subst (AllByRecursion (IsGivenItem (length c.args.names.now) (length c.args.keys.now))) (sym c.as_slice-items.ensures) c.requires.numbers.given

pub besides_of-requires-clause-numbers : goal.besides_of-requires-clause-numbers
besides_of-requires-clause-numbers c =
    c.in_ok-numbers.ensures.of (length c.args.names.now) (subst (AreNumbersOf (length c.args.names.now) c.args.keys.now) (sym c.as_slice-items.ensures) c.requires.numbers)

pub tree_of-requires-clause-numbers : goal.tree_of-requires-clause-numbers
tree_of-requires-clause-numbers c =
    c.in_ok-numbers.ensures.of (length c.args.names.now) (subst (AreNumbersOf (length c.args.names.now) c.args.keys.now) (sym c.as_slice-items.ensures) c.requires.numbers)

pub returns-clause-lines : goal.returns-clause-lines
returns-clause-lines c =
    let names = c.args.names.now in
    let keys = c.args.keys.now in
    let items = c.as_slice-items.result.now in
    let numbers = c.in_ok-numbers.numbers in
    let ways = first_ways names keys c.args.known in
    let same : CountTheSame (numbers_said names keys numbers) (counted names keys items) =
    c.in_ok-numbers.ensures.told names (subst (AreNumbersOf (length names) keys) (sym c.as_slice-items.ensures) c.requires.numbers) in
    IfOk-weaker c.tree_of.result _ _
    (λ tree is. is
    ∙ ap (λ ids. lines_with (ways_said names keys ids) (numbers_said names keys numbers)) c.deref.ensures.value
    ∙ ap (λ besides. lines_with besides (numbers_said names keys numbers)) c.in_ok-besides.ensures.ways
    ∙ cold_lines_are ways (numbers_said names keys numbers) (counted names keys items) same
    ∙ ap (λ xs. cold_lines_of ways (counted names keys xs)) c.as_slice-items.ensures) c.tree_of.ensures.lines
