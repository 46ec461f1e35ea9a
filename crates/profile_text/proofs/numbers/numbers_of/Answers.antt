use Rattle.std.proofs.Common.{◌∙◌, ◌<◌, All, length, subst, sym}
use Rattle.profile_laws.specs.Counts.{CountTheSame}
use Rattle.profile_text.proofs.NumberLemmas.{items_stated, items_summed, stated_is_told}
use Rattle.profile_tree.proofs.StatedLemmas.{same_counts}
use Rattle.profile_tree.specs.Numbers.{numbers_said}
use Rattle.profile_tree.specs.Said.{stated}
use Rattle.profile_tree.specs.Sums.{AreEach, count_stated}
use Rattle.profile_tree.specs.declared.key_count.KeyCount.{KeyCount}
use Rattle.profile_text.proofs.numbers.numbers_of.Goals as goal

pub stated-requires-clause-given : goal.stated-requires-clause-given
stated-requires-clause-given c =
    subst (λ n. All (λ (count : KeyCount). count.key.0 < n) c.deref.result.now) (sym c.len.ensures)
    (items_stated c.requires.0 c.args.keys.now c.args.items.now c.deref.result.now c.in_ok-calls.calls.items c.in_ok-heads.heads.items c.requires.1
    (c.deref.ensures.value ∙ c.in_ok-counts.ensures) c.in_ok-calls.ensures c.in_ok-heads.ensures).counted

pub stated-requires-clause-counts_once : goal.stated-requires-clause-counts_once
stated-requires-clause-counts_once c =
    (items_stated c.requires.0 c.args.keys.now c.args.items.now c.deref.result.now c.in_ok-calls.calls.items c.in_ok-heads.heads.items c.requires.1
    (c.deref.ensures.value ∙ c.in_ok-counts.ensures) c.in_ok-calls.ensures c.in_ok-heads.ensures).counts_once

pub stated-requires-clause-calls_once : goal.stated-requires-clause-calls_once
stated-requires-clause-calls_once c =
    (items_summed c.requires.0 c.args.keys.now c.args.items.now c.in_ok-calls.calls.items c.in_ok-heads.heads.items c.requires.1 c.in_ok-calls.ensures c.in_ok-heads.ensures).calls_once

pub stated-requires-clause-heads_once : goal.stated-requires-clause-heads_once
stated-requires-clause-heads_once c =
    (items_summed c.requires.0 c.args.keys.now c.args.items.now c.in_ok-calls.calls.items c.in_ok-heads.heads.items c.requires.1 c.in_ok-calls.ensures c.in_ok-heads.ensures).heads_once

pub returns-clause-of : goal.returns-clause-of
returns-clause-of c = λ names of.
    let numbers = c.in_ok-numbers.numbers in
    record {
      len = c.in_ok-numbers.ensures.counts.len ∙ c.len.ensures;
      given = (items_summed names c.args.keys.now c.args.items.now numbers.calls numbers.heads of
          (c.in_ok-numbers.ensures.calls ∙ c.in_ok-calls.ensures) (c.in_ok-numbers.ensures.heads ∙ c.in_ok-heads.ensures)).given;
    }

pub returns-clause-told : goal.returns-clause-told
returns-clause-told c = λ names of.
    let keys = c.args.keys.now in
    let items = c.args.items.now in
    let numbers = c.in_ok-numbers.numbers in
    let counts = c.deref.result.now in
    let counts_are = c.deref.ensures.value ∙ c.in_ok-counts.ensures in
    let calls_are = c.in_ok-numbers.ensures.calls ∙ c.in_ok-calls.ensures in
    let heads_are = c.in_ok-numbers.ensures.heads ∙ c.in_ok-heads.ensures in
    let low = (items_stated (length names) keys items counts numbers.calls numbers.heads of counts_are calls_are heads_are).counted in
    subst (CountTheSame (numbers_said names keys numbers))
    ((λ i. stated names keys (counts_are i) (calls_are i) (heads_are i)) ∙ stated_is_told names keys items)
    (same_counts names keys counts numbers.counts numbers.calls numbers.heads low
    (subst (λ n. AreEach n (count_stated counts) numbers.counts) c.len.ensures c.in_ok-numbers.ensures.counts))
