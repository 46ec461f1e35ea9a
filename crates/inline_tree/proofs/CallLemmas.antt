-- An inlined subroutine more.
use Rattle.std.proofs.Common.{◌≡◌, ◌<◌, ◌+◌, ℕ, List, [], ◌∷◌, length, None, Result, Ok, Err, refl, sym, ap, subst, ◌∙◌, arith}
use Rattle.std.specs.Result.{IsErrAnd}
use Rattle.refusal.specs.declared.place.Place.{Place}
use Rattle.refusal.specs.declared.place.Stop.{Stop}
use Rattle.refusal.specs.declared.place.Stop.TheVariants.{Refused}
use Rattle.entry_facts.specs.Told.{GivesUnlessNoMemory}
use Rattle.unit_model.specs.Entries.{Entry}
use Rattle.chain_model.specs.declared.member.Member.{Member}
use Rattle.tree_model.specs.Pieces.{InUnit, and_then, pieces}
use Rattle.tree_model.specs.Origin as way
use Rattle.entry_facts.specs.declared.origin.Origin.{Origin}
use Rattle.entry_facts.specs.Meaning.{Extends, GivesOrigin}
use Rattle.tree_model.specs.Members.{Told, call_told}
use Rattle.member_lists.specs.declared.frame.EntryFrame.{EntryFrame}
use Rattle.member_lists.specs.Frames.{SoFar, behind_call, behind_other, frame_above, left_out, one_deeper}
use Rattle.tree_model.specs.Tree.{Source, not_too_deep}
use Rattle.member_lists.specs.Collecting.{call_with, next_call}
use Rattle.inline_tree.specs.Told.{Advances, CountsCalls, IsSoFar, IsTold, call_made}
use Rattle.inline_tree.proofs.StepLemmas.{IsSoFar-call, IsSoFar-extends, IsSoFar-other, pieces-told, stopped}

-- the frame above is the one that is told
same-frame : (names : List (List ℕ)) (told : SoFar Told) (made : SoFar Member) (depth : ℕ) (above : EntryFrame)
    → IsSoFar names told made → above ≡ frame_above depth made.frames → above ≡ frame_above depth told.frames
same-frame names told made depth above is e = e ∙ ap (λ fs. frame_above depth fs) is.frames_are

call-step : (source : Source) (of : InUnit) (entry : Entry) (above : EntryFrame) (told : SoFar Told) (calls : ℕ) (r : Result (List (ℕ × ℕ)) Place)
    → CountsCalls entry.at above.calls (Ok calls) → pieces source.file of told.pieces entry ≡ r
    → next_call source of entry above told ≡ and_then r (call_with source entry above told)
unfolding next_call
call-step source of entry above told calls r counted e =
    let deep : not_too_deep entry.at (above.calls + 1) ≡ Ok tt = subst (λ n. not_too_deep entry.at n ≡ Ok tt) counted.0 counted.1 in
    ap (λ (d : Result (Unit {0}) Place). and_then d (λ _. and_then (pieces source.file of told.pieces entry) (call_with source entry above told))) deep
    ∙ ap (λ x. and_then x (call_with source entry above told)) e

call-too_deep_at : (source : Source) (of : InUnit) (entry : Entry) (above : EntryFrame) (told : SoFar Told) (place : Place)
    → CountsCalls entry.at above.calls (Err place) → next_call source of entry above told ≡ Err place
unfolding next_call
call-too_deep_at source of entry above told place deep =
    ap (λ (d : Result (Unit {0}) Place). and_then d (λ _. and_then (pieces source.file of told.pieces entry) (call_with source entry above told))) deep

pub call-too_deep : (source : Source) (of : InUnit) (entry : Entry) (above : EntryFrame) (names : List (List ℕ)) (told : SoFar Told) (old : SoFar Member) (place : Place)
    → IsSoFar names told old → above ≡ frame_above entry.depth old.frames → CountsCalls entry.at above.calls (Err place)
    → next_call source of entry (frame_above entry.depth told.frames) told ≡ Err place
call-too_deep source of entry above names told old place is frame deep =
    subst (λ (f : EntryFrame). next_call source of entry f told ≡ Err place) (same-frame names told old entry.depth above is frame)
    (call-too_deep_at source of entry above told place deep)

pub call-bad_pieces : (source : Source) (of : InUnit) (entry : Entry) (above : EntryFrame) (names : List (List ℕ)) (told : SoFar Told) (old : SoFar Member) (calls : ℕ) (place : Place)
    → IsSoFar names told old → above ≡ frame_above entry.depth old.frames → CountsCalls entry.at above.calls (Ok calls)
    → pieces source.file of old.pieces entry ≡ Err place
    → next_call source of entry (frame_above entry.depth told.frames) told ≡ Err place
call-bad_pieces source of entry above names told old calls place is frame counted bad =
    subst (λ (f : EntryFrame). next_call source of entry f told ≡ Err place) (same-frame names told old entry.depth above is frame)
    (call-step source of entry above told calls (Err place) counted (pieces-told source.file of entry names told old (Err place) is bad))

pub call-none : (source : Source) (of : InUnit) (entry : Entry) (above : EntryFrame) (names : List (List ℕ)) (told : SoFar Told) (old new : SoFar Member) (calls : ℕ) (ps : List (ℕ × ℕ)) (depth : ℕ)
    → IsSoFar names told old → above ≡ frame_above entry.depth old.frames → CountsCalls entry.at above.calls (Ok calls)
    → pieces source.file of old.pieces entry ≡ Ok ps → length ps ≡ 0
    → depth ≡ entry.depth → new ≡ behind_other depth (record { calls = calls; function = None }) 0 old
    → Advances names (Ok tt) new (next_call source of entry (frame_above entry.depth told.frames) told)
call-none source of entry above names told old new calls [] depth is frame counted found none at after =
    let left : ◌≡◌ {A = EntryFrame} (record { calls = calls; function = None }) (left_out above) = ap (λ (n : ℕ). record { calls = n; function = None }) counted.0 in
    let same = same-frame names told old entry.depth above is frame in (
      behind_other entry.depth (left_out above) 0 told,
      subst (λ (f : EntryFrame). next_call source of entry f told ≡ Ok (behind_other entry.depth (left_out above) 0 told)) same
          (call-step source of entry above told calls (Ok []) counted (pieces-told source.file of entry names told old (Ok []) is found)),
      subst (λ (s : SoFar Member). IsSoFar names (behind_other entry.depth (left_out above) 0 told) s)
          (sym (after ∙ ap (λ d. behind_other d (record { calls = calls; function = None }) 0 old) at ∙ ap (λ (f : EntryFrame). behind_other entry.depth f 0 old) left)) (IsSoFar-other names told old entry.depth (left_out above) 0 is),
    )
call-none source of entry above names told old new calls (p ∷ ps) depth is frame counted found none at after = absurd (omega arith)

pub call-bad_origin : (source : Source) (of : InUnit) (entry : Entry) (above : EntryFrame) (names : List (List ℕ)) (told : SoFar Told) (old : SoFar Member) (calls : ℕ) (ps : List (ℕ × ℕ)) (place : Place)
    → IsSoFar names told old → above ≡ frame_above entry.depth old.frames → CountsCalls entry.at above.calls (Ok calls)
    → pieces source.file of old.pieces entry ≡ Ok ps → 0 < length ps
    → way.origin source.sections.texts source.info entry ≡ Err place
    → next_call source of entry (frame_above entry.depth told.frames) told ≡ Err place
call-bad_origin source of entry above names told old calls [] place is frame counted found some bad = absurd (omega arith)
call-bad_origin source of entry above names told old calls (p ∷ ps) place is frame counted found some bad =
    subst (λ (f : EntryFrame). next_call source of entry f told ≡ Err place) (same-frame names told old entry.depth above is frame)
    (call-step source of entry above told calls (Ok (p ∷ ps)) counted (pieces-told source.file of entry names told old (Ok (p ∷ ps)) is found)
    ∙ ap (λ (o : Result way.Origin Place). and_then o (λ origin. Ok (behind_call entry.depth (one_deeper above) (call_told (above.calls + 1) entry (p ∷ ps) origin) (length (p ∷ ps)) told))) bad)

pub call-some : (source : Source) (of : InUnit) (entry : Entry) (above : EntryFrame) (names more : List (List ℕ)) (told : SoFar Told) (old new : SoFar Member) (calls : ℕ) (ps : List (ℕ × ℕ)) (o : Origin)
    (depth count : ℕ) (member : Member)
    → IsSoFar names told old → above ≡ frame_above entry.depth old.frames → CountsCalls entry.at above.calls (Ok calls)
    → pieces source.file of old.pieces entry ≡ Ok ps → 0 < length ps
    → GivesOrigin more (Ok o) (way.origin source.sections.texts source.info entry) → Extends names more
    → depth ≡ entry.depth → member ≡ call_made calls entry o ps → count ≡ length ps
    → new ≡ behind_call depth (record { calls = calls; function = above.function }) member count old
    → Advances more (Ok tt) new (next_call source of entry (frame_above entry.depth told.frames) told)
call-some source of entry above names more told old new calls [] o depth count member is frame counted found some tells extends at made number after = absurd (omega arith)
call-some source of entry above names more told old new calls (p ∷ ps) o depth count member is frame counted found some tells extends at made number after =
    let model : way.Origin = record { name = tells.0; line = o.line } in
    let one : IsTold more (call_told (above.calls + 1) entry (p ∷ ps) model) (call_made calls entry o (p ∷ ps)) =
    record { depth_is = counted.0; unit_is = refl; name_is = tells.2; start_is = refl; line_is = refl; disc_is = refl; pieces_are = refl } in
    let deeper : ◌≡◌ {A = EntryFrame} (record { calls = calls; function = above.function }) (one_deeper above) =
    ap (λ (n : ℕ). record { calls = n; function = above.function }) counted.0 in
    let same = same-frame names told old entry.depth above is frame in
    let own : EntryFrame = record { calls = calls; function = above.function } in
    let new_is = after ∙ ap (λ d. behind_call d own member count old) at ∙ ap (λ m. behind_call entry.depth own m count old) made
    ∙ ap (λ n. behind_call entry.depth own (call_made calls entry o (p ∷ ps)) n old) number
    ∙ ap (λ (f : EntryFrame). behind_call entry.depth f (call_made calls entry o (p ∷ ps)) (length (p ∷ ps)) old) deeper in
    let behind = behind_call entry.depth (one_deeper above) (call_told (above.calls + 1) entry (p ∷ ps) model) (length (p ∷ ps)) told in (
      behind,
      subst (λ (f : EntryFrame). next_call source of entry f told ≡ Ok behind) same
          (call-step source of entry above told calls (Ok (p ∷ ps)) counted (pieces-told source.file of entry names told old (Ok (p ∷ ps)) is found)
          ∙ ap (λ (x : Result way.Origin Place). and_then x (λ origin. Ok (behind_call entry.depth (one_deeper above) (call_told (above.calls + 1) entry (p ∷ ps) origin) (length (p ∷ ps)) told))) tells.1),
      subst (λ (s : SoFar Member). IsSoFar more behind s)
          (sym new_is)
          (IsSoFar-call more told old entry.depth (one_deeper above) _ _ (length (p ∷ ps)) (IsSoFar-extends names more told old extends is) one),
    )

-- ---- a call that stopped

pub call-stop_calls : (source : Source) (of : InUnit) (entry : Entry) (above : EntryFrame) (names : List (List ℕ)) (told : SoFar Told) (old new : SoFar Member) (deep : Place) (r : Result (Unit {0}) Stop)
    → IsSoFar names told old → above ≡ frame_above entry.depth old.frames → CountsCalls entry.at above.calls (Err deep) → IsErrAnd r (λ s. s ≡ Refused deep)
    → Advances names r new (next_call source of entry (frame_above entry.depth told.frames) told)
call-stop_calls source of entry above names told old new deep r is frame counted stops =
    stopped names new (next_call source of entry (frame_above entry.depth told.frames) told) (Refused deep) r
    (λ place same. let it : deep ≡ place = cc in call-too_deep source of entry above names told old place is frame (subst (λ p. CountsCalls entry.at above.calls (Err p)) it counted)) stops

pub call-stop_pieces : (source : Source) (of : InUnit) (entry : Entry) (above : EntryFrame) (names : List (List ℕ)) (told : SoFar Told) (old new : SoFar Member) (calls : ℕ)
    (why : Stop) (r : Result (Unit {0}) Stop)
    → IsSoFar names told old → above ≡ frame_above entry.depth old.frames → CountsCalls entry.at above.calls (Ok calls)
    → GivesUnlessNoMemory (λ (u : Unit {0}). []) (Err why) (pieces source.file of old.pieces entry) → IsErrAnd r (λ s. s ≡ why)
    → Advances names r new (next_call source of entry (frame_above entry.depth told.frames) told)
call-stop_pieces source of entry above names told old new calls why r is frame counted tells stops =
    stopped names new (next_call source of entry (frame_above entry.depth told.frames) told) why r
    (λ place same. call-bad_pieces source of entry above names told old calls place is frame counted
    (subst (λ w. GivesUnlessNoMemory (λ (u : Unit {0}). []) (Err w) (pieces source.file of old.pieces entry)) same tells)) stops

pub call-stop_origin : (source : Source) (of : InUnit) (entry : Entry) (above : EntryFrame) (names more : List (List ℕ)) (told : SoFar Told) (old new : SoFar Member) (calls : ℕ) (ps : List (ℕ × ℕ))
    (why : Stop) (r : Result (Unit {0}) Stop)
    → IsSoFar names told old → above ≡ frame_above entry.depth old.frames → CountsCalls entry.at above.calls (Ok calls)
    → pieces source.file of old.pieces entry ≡ Ok ps → 0 < length ps
    → GivesOrigin more (Err why) (way.origin source.sections.texts source.info entry) → IsErrAnd r (λ s. s ≡ why)
    → Advances more r new (next_call source of entry (frame_above entry.depth told.frames) told)
call-stop_origin source of entry above names more told old new calls ps why r is frame counted found some tells stops =
    stopped more new (next_call source of entry (frame_above entry.depth told.frames) told) why r
    (λ place same. call-bad_origin source of entry above names told old calls ps place is frame counted found some
    (subst (λ w. GivesOrigin more (Err w) (way.origin source.sections.texts source.info entry)) same tells)) stops
