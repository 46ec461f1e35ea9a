-- One entry more.
use Rattle.std.proofs.Common.{◌≡◌, ◌<◌, ◌≤◌, ◌+◌, ◌==◌, ◌≢◌, ℕ, zero, suc, Bool, true, false, cond, nat_lt, List, [], ◌∷◌, ◌++◌, length, Option, None, Some, Result, Ok, Err, refl, sym, ap, subst, ◌∙◌, arith}
use Rattle.std.specs.List.{AllZip}
use Rattle.refusal.specs.declared.place.Place.{Place}
use Rattle.std.specs.Result.{IsErrAnd}
use Rattle.std.proofs.lemmas.Bool.{ltb-false, ne_eqb}
use Rattle.list_lemmas.proofs.Each.{all_zip_push, length_all_zip}
use Rattle.refusal.specs.declared.place.Stop.{Stop}
use Rattle.refusal.specs.declared.place.Stop.TheVariants.{Refused, NoMemory}
use Rattle.refusal.specs.declared.kind.Kind.TheVariants.{TooManyRanges}
use Rattle.refusal.specs.Place.{in_binary}
use Rattle.entry_facts.specs.Told.{GivesUnlessNoMemory}
use Rattle.unit_model.specs.Constants.{DW_TAG_inlined_subroutine, DW_TAG_subprogram}
use Rattle.unit_model.specs.Entries.{Entry}
use Rattle.chain_model.specs.declared.member.Member.{Member}
use Rattle.tree_model.specs.Pieces.{InUnit, RangesOrPlace, and_then, live_ranges, max_pieces, pieces, spelled_ranges, within_limit}
use Rattle.tree_model.specs.Origin as way
use Rattle.entry_facts.specs.declared.origin.Origin.{Origin}
use Rattle.entry_facts.specs.Meaning.{Extends, GivesOrigin}
use Rattle.tree_model.specs.Members.{Told, function_told}
use Rattle.member_lists.specs.declared.frame.EntryFrame.{EntryFrame}
use Rattle.member_lists.specs.Frames.{SoFar, behind_call, behind_function, behind_other, frame_above, frame_of_function, frames_to, outside}
use Rattle.tree_model.specs.Tree.{Source, with_call, with_member}
use Rattle.entry_facts.proofs.TextLemmas.{IsNumberOf-more}
use Rattle.member_lists.specs.Collecting.{function_with, next_call, next_entry, next_function}
use Rattle.inline_tree.specs.Told.{Advances, AreTold, IsSoFar, IsTold, function_made}

-- ---- lists that are related item by item

pub AllZip-mono : {A B : Type 0} (R S : A → B → Type 0) → ((x : A) (y : B) → R x y → S x y) → (xs : List A) (ys : List B) → AllZip R xs ys → AllZip S xs ys
AllZip-mono R S f [] [] h = tt
AllZip-mono R S f [] (y ∷ ys) h = absurd h
AllZip-mono R S f (x ∷ xs) [] h = absurd h
AllZip-mono R S f (x ∷ xs) (y ∷ ys) h = (f x y h.0, AllZip-mono R S f xs ys h.1)

pub AllZip-append : {A B : Type 0} (R : A → B → Type 0) (xs : List A) (ys : List B) (us : List A) (vs : List B) → AllZip R xs ys → AllZip R us vs → AllZip R (xs ++ us) (ys ++ vs)
AllZip-append R [] [] us vs h k = k
AllZip-append R [] (b ∷ ys) us vs h k = absurd h
AllZip-append R (a ∷ xs) [] us vs h k = absurd h
AllZip-append R (a ∷ xs) (b ∷ ys) us vs h k = (h.0, AllZip-append R xs ys us vs h.1 k)

AreTold-member : (names : List (List ℕ)) (number : ℕ) (told : Told) (call : Member) (tolds : List (List Told)) (mades : List (List Member))
    → AllZip (AreTold names) tolds mades → IsTold names told call
    → AllZip (AreTold names) (with_member number told tolds) (with_member number call mades)
AreTold-member names number told call [] [] h k = tt
AreTold-member names number told call [] (m ∷ mades) h k = absurd h
AreTold-member names number told call (t ∷ tolds) [] h k = absurd h
AreTold-member names zero told call (t ∷ tolds) (m ∷ mades) h k = (all_zip_push (IsTold names) t m told call h.0 k, h.1)
AreTold-member names (suc number) told call (t ∷ tolds) (m ∷ mades) h k = (h.0, AreTold-member names number told call tolds mades h.1 k)

AreTold-call : (names : List (List ℕ)) (number : Option ℕ) (told : Told) (call : Member) (tolds : List (List Told)) (mades : List (List Member))
    → AllZip (AreTold names) tolds mades → IsTold names told call
    → AllZip (AreTold names) (with_call number told tolds) (with_call number call mades)
AreTold-call names None told call tolds mades h k = h
AreTold-call names (Some number) told call tolds mades h k = AreTold-member names number told call tolds mades h k

-- ---- names more

IsTold-extends : (old new : List (List ℕ)) → Extends old new → (told : Told) (member : Member) → IsTold old told member → IsTold new told member
IsTold-extends old new more told member is = record {
  depth_is = is.depth_is;
  unit_is = is.unit_is;
  name_is = IsNumberOf-more old new told.name member.name more is.name_is;
  start_is = is.start_is;
  line_is = is.line_is;
  disc_is = is.disc_is;
  pieces_are = is.pieces_are;
}

pub IsSoFar-extends : (old new : List (List ℕ)) (told : SoFar Told) (made : SoFar Member) → Extends old new → IsSoFar old told made → IsSoFar new told made
IsSoFar-extends old new told made more is = record {
  functions_are = AllZip-mono (AreTold old) (AreTold new)
      (λ ts ms. AllZip-mono (IsTold old) (IsTold new) (IsTold-extends old new more) ts ms) told.functions made.functions is.functions_are;
  pieces_are = is.pieces_are;
  frames_are = is.frames_are;
}

-- ---- an entry more

pub IsSoFar-other : (names : List (List ℕ)) (told : SoFar Told) (made : SoFar Member) (depth : ℕ) (frame : EntryFrame) (count : ℕ)
    → IsSoFar names told made → IsSoFar names (behind_other depth frame count told) (behind_other depth frame count made)
IsSoFar-other names told made depth frame count is = record {
  functions_are = is.functions_are;
  pieces_are = ap (λ n. n + count) is.pieces_are;
  frames_are = ap (λ fs. frames_to depth frame fs) is.frames_are;
}

IsSoFar-function : (names : List (List ℕ)) (told : SoFar Told) (made : SoFar Member) (depth : ℕ) (function : Told) (member : Member) (count : ℕ)
    → IsSoFar names told made → IsTold names function member
    → IsSoFar names (behind_function depth function count told) (behind_function depth member count made)
IsSoFar-function names told made depth function member count is one = record {
  functions_are = all_zip_push (AreTold names) told.functions made.functions (function ∷ []) (member ∷ []) is.functions_are (one, tt);
  pieces_are = ap (λ n. n + count) is.pieces_are;
  frames_are = ap (λ n. frames_to depth (frame_of_function n) made.frames) (length_all_zip (AreTold names) told.functions made.functions is.functions_are)
      ∙ ap (λ fs. frames_to depth (frame_of_function (length told.functions)) fs) is.frames_are;
}

pub IsSoFar-call : (names : List (List ℕ)) (told : SoFar Told) (made : SoFar Member) (depth : ℕ) (frame : EntryFrame) (call : Told) (member : Member) (count : ℕ)
    → IsSoFar names told made → IsTold names call member
    → IsSoFar names (behind_call depth frame call count told) (behind_call depth frame member count made)
IsSoFar-call names told made depth frame call member count is one = record {
  functions_are = AreTold-call names frame.function call member told.functions made.functions is.functions_are one;
  pieces_are = ap (λ n. n + count) is.pieces_are;
  frames_are = ap (λ fs. frames_to depth frame fs) is.frames_are;
}

-- ---- how many pieces there are

limited : (b : Bool) (place : Place) (live ps : List (ℕ × ℕ)) → ◌≡◌ {A = RangesOrPlace} (cond b (Err place) (Ok live)) (Ok ps) → (b ≡ false) × (live ≡ ps)
limited true place live ps is = absurd cc
limited false place live ps is = (refl, cc)

few-live : (file : List ℕ) (at before : ℕ) (r : RangesOrPlace) (ps : List (ℕ × ℕ))
    → and_then r (λ ranges. within_limit at before (live_ranges file ranges)) ≡ Ok ps → before + length ps ≤ max_pieces
few-live file at before (Err place) ps is = absurd cc
few-live file at before (Ok ranges) ps is =
    let live = live_ranges file ranges in
    let both = limited (nat_lt max_pieces (before + length live)) (in_binary at TooManyRanges) live ps is in
    let few = ltb-false max_pieces (before + length live) both.0 in
    let same = ap length both.1 in
    omega arith

-- with the pieces of an entry there are not too many
pub few_pieces : (file : List ℕ) (of : InUnit) (before : ℕ) (entry : Entry) (ps : List (ℕ × ℕ)) → pieces file of before entry ≡ Ok ps → before + length ps ≤ max_pieces
unfolding pieces
few_pieces file of before entry ps is = few-live file entry.at before (spelled_ranges of entry) ps is

-- ---- a call that stopped

pub stopped : (names : List (List ℕ)) (made : SoFar Member) (read : Result (SoFar Told) Place) (why : Stop) (r : Result (Unit {0}) Stop)
    → ((place : Place) → why ≡ Refused place → read ≡ Err place) → IsErrAnd r (λ s. s ≡ why) → Advances names r made read
stopped names made read why (Ok done) told is = absurd is
stopped names made read why (Err (Refused place)) told is = told place (sym is)
stopped names made read why (Err NoMemory) told is = tt

-- ---- a subprogram

-- the pieces are judged behind as many others as are told
pub pieces-told : (file : List ℕ) (of : InUnit) (entry : Entry) (names : List (List ℕ)) (told : SoFar Told) (made : SoFar Member) (r : Result (List (ℕ × ℕ)) Place)
    → IsSoFar names told made → pieces file of made.pieces entry ≡ r → pieces file of told.pieces entry ≡ r
pieces-told file of entry names told made r is e = subst (λ n. pieces file of n entry ≡ r) is.pieces_are e

function-step : (source : Source) (of : InUnit) (entry : Entry) (told : SoFar Told) (r : Result (List (ℕ × ℕ)) Place)
    → pieces source.file of told.pieces entry ≡ r → next_function source of entry told ≡ and_then r (function_with source entry told)
unfolding next_function
function-step source of entry told r e = ap (λ x. and_then x (function_with source entry told)) e

pub function-none : (source : Source) (of : InUnit) (entry : Entry) (names : List (List ℕ)) (told : SoFar Told) (old new : SoFar Member) (ps : List (ℕ × ℕ)) (depth : ℕ)
    → IsSoFar names told old → pieces source.file of old.pieces entry ≡ Ok ps → length ps ≡ 0 → depth ≡ entry.depth → new ≡ behind_other depth outside 0 old
    → Advances names (Ok tt) new (next_function source of entry told)
function-none source of entry names told old new [] depth is found none at after = (
  behind_other entry.depth outside 0 told,
  function-step source of entry told (Ok []) (pieces-told source.file of entry names told old (Ok []) is found),
  subst (λ (s : SoFar Member). IsSoFar names (behind_other entry.depth outside 0 told) s) (sym (after ∙ ap (λ d. behind_other d outside 0 old) at)) (IsSoFar-other names told old entry.depth outside 0 is),
)
function-none source of entry names told old new (p ∷ ps) depth is found none at after = absurd (omega arith)

pub function-bad_pieces : (source : Source) (of : InUnit) (entry : Entry) (names : List (List ℕ)) (told : SoFar Told) (old : SoFar Member) (place : Place)
    → IsSoFar names told old → pieces source.file of old.pieces entry ≡ Err place → next_function source of entry told ≡ Err place
function-bad_pieces source of entry names told old place is bad =
    function-step source of entry told (Err place) (pieces-told source.file of entry names told old (Err place) is bad)

pub function-bad_origin : (source : Source) (of : InUnit) (entry : Entry) (names : List (List ℕ)) (told : SoFar Told) (old : SoFar Member) (ps : List (ℕ × ℕ)) (place : Place)
    → IsSoFar names told old → pieces source.file of old.pieces entry ≡ Ok ps → 0 < length ps
    → way.origin source.sections.texts source.info entry ≡ Err place → next_function source of entry told ≡ Err place
function-bad_origin source of entry names told old [] place is found some bad = absurd (omega arith)
function-bad_origin source of entry names told old (p ∷ ps) place is found some bad =
    function-step source of entry told (Ok (p ∷ ps)) (pieces-told source.file of entry names told old (Ok (p ∷ ps)) is found)
    ∙ ap (λ (o : Result way.Origin Place). and_then o (λ origin. Ok (behind_function entry.depth (function_told entry (p ∷ ps) origin) (length (p ∷ ps)) told))) bad

pub function-some : (source : Source) (of : InUnit) (entry : Entry) (names more : List (List ℕ)) (told : SoFar Told) (old new : SoFar Member) (ps : List (ℕ × ℕ)) (o : Origin)
    (depth count : ℕ) (member : Member)
    → IsSoFar names told old → pieces source.file of old.pieces entry ≡ Ok ps → 0 < length ps
    → GivesOrigin more (Ok o) (way.origin source.sections.texts source.info entry) → Extends names more
    → depth ≡ entry.depth → member ≡ function_made entry o ps → count ≡ length ps → new ≡ behind_function depth member count old
    → Advances more (Ok tt) new (next_function source of entry told)
function-some source of entry names more told old new [] o depth count member is found some tells extends at made counted after = absurd (omega arith)
function-some source of entry names more told old new (p ∷ ps) o depth count member is found some tells extends at made counted after =
    let model : way.Origin = record { name = tells.0; line = o.line } in
    let one : IsTold more (function_told entry (p ∷ ps) model) (function_made entry o (p ∷ ps)) =
    record { depth_is = refl; unit_is = refl; name_is = tells.2; start_is = refl; line_is = refl; disc_is = refl; pieces_are = refl } in
    let behind = behind_function entry.depth (function_told entry (p ∷ ps) model) (length (p ∷ ps)) told in
    let new_is = after ∙ ap (λ d. behind_function d member count old) at ∙ ap (λ m. behind_function entry.depth m count old) made
    ∙ ap (λ n. behind_function entry.depth (function_made entry o (p ∷ ps)) n old) counted in (
      behind,
      function-step source of entry told (Ok (p ∷ ps)) (pieces-told source.file of entry names told old (Ok (p ∷ ps)) is found)
          ∙ ap (λ (x : Result way.Origin Place). and_then x (λ origin. Ok (behind_function entry.depth (function_told entry (p ∷ ps) origin) (length (p ∷ ps)) told))) tells.1,
      subst (λ (s : SoFar Member). IsSoFar more behind s) (sym new_is)
          (IsSoFar-function more told old entry.depth _ _ (length (p ∷ ps)) (IsSoFar-extends names more told old extends is) one),
    )

pub function-stop_pieces : (source : Source) (of : InUnit) (entry : Entry) (names : List (List ℕ)) (told : SoFar Told) (old new : SoFar Member)
    (why : Stop) (r : Result (Unit {0}) Stop)
    → IsSoFar names told old → GivesUnlessNoMemory (λ (u : Unit {0}). []) (Err why) (pieces source.file of old.pieces entry) → IsErrAnd r (λ s. s ≡ why)
    → Advances names r new (next_function source of entry told)
function-stop_pieces source of entry names told old new why r is tells stops =
    stopped names new (next_function source of entry told) why r
    (λ place same. function-bad_pieces source of entry names told old place is (subst (λ w. GivesUnlessNoMemory (λ (u : Unit {0}). []) (Err w) (pieces source.file of old.pieces entry)) same tells)) stops

pub function-stop_origin : (source : Source) (of : InUnit) (entry : Entry) (names more : List (List ℕ)) (told : SoFar Told) (old new : SoFar Member) (ps : List (ℕ × ℕ))
    (why : Stop) (r : Result (Unit {0}) Stop)
    → IsSoFar names told old → pieces source.file of old.pieces entry ≡ Ok ps → 0 < length ps
    → GivesOrigin more (Err why) (way.origin source.sections.texts source.info entry) → IsErrAnd r (λ s. s ≡ why)
    → Advances more r new (next_function source of entry told)
function-stop_origin source of entry names more told old new ps why r is found some tells stops =
    stopped more new (next_function source of entry told) why r
    (λ place same. function-bad_origin source of entry names told old ps place is found some
    (subst (λ w. GivesOrigin more (Err w) (way.origin source.sections.texts source.info entry)) same tells)) stops

-- ---- an entry of another tag

entry-passed_at : (source : Source) (of : InUnit) (entry : Entry) (told : SoFar Told) → entry.tag ≢ DW_TAG_subprogram → entry.tag ≢ DW_TAG_inlined_subroutine
    → next_entry source of entry told ≡ Ok (behind_other entry.depth (frame_above entry.depth told.frames) 0 told)
unfolding next_entry
entry-passed_at source of entry told no_function no_call =
    ap (λ b. cond b (next_function source of entry told)
    (cond (entry.tag == DW_TAG_inlined_subroutine) (next_call source of entry (frame_above entry.depth told.frames) told) (Ok (behind_other entry.depth (frame_above entry.depth told.frames) 0 told))))
    (ne_eqb entry.tag DW_TAG_subprogram no_function)
    ∙ ap (λ b. cond b (next_call source of entry (frame_above entry.depth told.frames) told) (Ok (behind_other entry.depth (frame_above entry.depth told.frames) 0 told)))
    (ne_eqb entry.tag DW_TAG_inlined_subroutine no_call)

pub entry-passed : (source : Source) (of : InUnit) (entry : Entry) (names : List (List ℕ)) (told : SoFar Told) (old new : SoFar Member) (tag depth : ℕ) (above : EntryFrame)
    → IsSoFar names told old → tag ≢ DW_TAG_subprogram → tag ≢ DW_TAG_inlined_subroutine → tag ≡ entry.tag → depth ≡ entry.depth → above ≡ frame_above depth old.frames → new ≡ behind_other depth above 0 old
    → Advances names (Ok tt) new (next_entry source of entry told)
entry-passed source of entry names told old new tag depth above is no_function no_call same at frame after =
    let own = frame_above entry.depth told.frames in
    let above_is : above ≡ own = frame ∙ ap (λ d. frame_above d old.frames) at ∙ ap (λ fs. frame_above entry.depth fs) is.frames_are in
    let new_is = after ∙ ap (λ d. behind_other d above 0 old) at ∙ ap (λ f. behind_other entry.depth f 0 old) above_is in (
      behind_other entry.depth own 0 told,
      entry-passed_at source of entry told (λ e. no_function (same ∙ e)) (λ e. no_call (same ∙ e)),
      subst (λ (s : SoFar Member). IsSoFar names (behind_other entry.depth own 0 told) s) (sym new_is) (IsSoFar-other names told old entry.depth own 0 is),
    )
