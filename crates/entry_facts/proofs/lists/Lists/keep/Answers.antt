use Rattle.std.proofs.Common.{◌≡◌, ◌++◌, length, ap, ◌∙◌, arith}
use Rattle.dwarf_strings.specs.Meaning.{bases_of}
use Rattle.range_model.specs.Texts.{address_of}
use Rattle.entry_facts.specs.Lists.{LongLists}
use Rattle.entry_facts.proofs.ListLemmas.{kept_more, more_live}
use Rattle.entry_facts.proofs.lists.Lists.keep.Goals as goal

pub loop-mark-init : goal.loop-mark-init
loop-mark-init c =
    let old = c.args.self.now in
    let walked = c.args.walked.now in
    let live_was = ap (λ (l : LongLists). l.live) c.self.view_is in
    let pairs_were = ap (λ (l : LongLists). l.of_pairs) c.self.view_is in
    let coded_were = ap (λ (l : LongLists). l.coded) c.self.view_is in
    let live : c.extend_from_slice.new.self.items ≡ old.live ++ walked.live.items = cc (live_was, c.deref.ensures.value, c.in_ok-extend_from_slice.ensures.items) in (
      live,
      λ file sections marked known. more_live file sections old _ walked.live.items pairs_were coded_were live known,
    )

pub returns-in_err-keep_mark : goal.returns-in_err-keep_mark
returns-in_err-keep_mark c = λ file sections marked known.
    let old = c.args.self.now in
    let walked = c.args.walked.now in
    let sized : length old.live ≡ c.len-from.result =
    omega (arith, c.self.inside.live.ok.0, c.len-from.ensures, ap (λ (l : LongLists). length l.live) c.self.view_is) in
    kept_more file sections (address_of sections.texts (bases_of c.args.of.now.bases)) c.args.pairs walked.entries c.len-from.result c.loop-mark.mark-index _
    old.live walked.live.items walked.marks.items c.deref-mark-items.result.now c.loop-mark.self c.keep_mark.new.self c.loop-mark.invariant.0 sized
    c.deref-mark-items.ensures.value c.loop-mark-test.true marked (c.keep_mark.ensures.known file sections) (c.loop-mark.invariant.1 file sections marked known)

pub loop-mark-preserved : goal.loop-mark-preserved
loop-mark-preserved c = (
  c.keep_mark.ensures.live ∙ c.loop-mark.invariant.0,
  λ file sections marked known.
      let old = c.args.self.now in
      let walked = c.args.walked.now in
      let sized : length old.live ≡ c.len-from.result =
      omega (arith, c.self.inside.live.ok.0, c.len-from.ensures, ap (λ (l : LongLists). length l.live) c.self.view_is) in
      kept_more file sections (address_of sections.texts (bases_of c.args.of.now.bases)) c.args.pairs walked.entries c.len-from.result c.loop-mark.mark-index _
      old.live walked.live.items walked.marks.items c.deref-mark-items.result.now c.loop-mark.self c.keep_mark.new.self c.loop-mark.invariant.0 sized
      c.deref-mark-items.ensures.value c.loop-mark-test.true marked (c.keep_mark.ensures.known file sections) (c.loop-mark.invariant.1 file sections marked known),
)
