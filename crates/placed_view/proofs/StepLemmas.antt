-- A reading that went some steps.
use Rattle.std.proofs.Common.{◌≡◌, ℕ, zero, suc, ◌-◌, ◌<◌, List, [], ◌∷◌, length, Option, None, Some, Ok, Err, refl, ap, ◌∙◌, arith}
use Rattle.byte_view.specs.Cursor.{Cursor}
use Rattle.refusal.specs.declared.place.Place.{Place}
use Rattle.placed_view.specs.Reader.{Read, Reader, behind, gives}
use Rattle.placed_view.specs.Steps.{goes_on, steps, to_the_end, if_left, step_if_left}

-- The whole reading goes on from this state at this cursor.
pub record GoesOn {S : Type 0} (step : S → Reader (Option S)) (whole : Read S) (state : S) (cur : Cursor) : Type 0 where
  pub more : ℕ
  pub enough : length cur.left < more
  pub same : whole ≡ steps step more state cur

if_left-some : {S : Type 0} (left : List ℕ) (read : Read S) (cur : Cursor) → 0 < length left → if_left left read cur ≡ behind read (λ s. gives (Some s))
if_left-some [] read cur some = absurd (omega arith)
if_left-some (byte ∷ rest) read cur some = refl

if_left-none : {S : Type 0} (left : List ℕ) (read : Read S) (cur : Cursor) → length left ≡ 0 → if_left left read cur ≡ Ok (None, cur)
if_left-none [] read cur none = refl
if_left-none (byte ∷ rest) read cur none = absurd (omega arith)

pub GoesOn-start : {S : Type 0} (step : S → Reader (Option S)) (state : S) (cur : Cursor) → GoesOn step (to_the_end step state cur) state cur
GoesOn-start step state cur = record { more = suc (length cur.left); enough = omega arith; same = refl }

-- the reading by its first step
one_step : {S : Type 0} (step : S → Reader (Option S)) (more : ℕ) (state : S) (cur : Cursor) (read : Read (Option S)) → 0 < more → step state cur ≡ read
    → steps step more state cur ≡ behind read (goes_on state (λ s c. steps step (more - 1) s c))
one_step step zero state cur read some e = absurd (omega arith)
one_step step (suc more) state cur read some e =
    let less : suc more - 1 ≡ more = omega arith in
    rw less (ap (λ r. behind r (goes_on state (λ s c. steps step more s c))) e)

pub GoesOn-more : {S : Type 0} (step : S → Reader (Option S)) (whole : Read S) (state next : S) (cur behind_it : Cursor) → GoesOn step whole state cur → step state cur ≡ Ok (Some next, behind_it)
    → length behind_it.left < length cur.left → GoesOn step whole next behind_it
GoesOn-more step whole state next cur behind_it on e less = record {
  more = on.more - 1;
  enough = omega (arith, on.enough);
  same = on.same ∙ one_step step on.more state cur (Ok (Some next, behind_it)) (omega (arith, on.enough)) e;
}

pub GoesOn-end : {S : Type 0} (step : S → Reader (Option S)) (whole : Read S) (state : S) (cur behind_it : Cursor) → GoesOn step whole state cur → step state cur ≡ Ok (None, behind_it)
    → whole ≡ Ok (state, behind_it)
GoesOn-end step whole state cur behind_it on e = on.same ∙ one_step step on.more state cur (Ok (None, behind_it)) (omega (arith, on.enough)) e

pub GoesOn-bad : {S : Type 0} (step : S → Reader (Option S)) (whole : Read S) (state : S) (cur : Cursor) (place : Place) → GoesOn step whole state cur → step state cur ≡ Err place
    → whole ≡ Err place
GoesOn-bad step whole state cur place on e = on.same ∙ one_step step on.more state cur (Err place) (omega (arith, on.enough)) e

-- ---- steps while bytes are left

pub step_if_left-some : {S : Type 0} (step : S → Reader S) (state next : S) (cur behind_it : Cursor) → 0 < length cur.left → step state cur ≡ Ok (next, behind_it)
    → step_if_left step state cur ≡ Ok (Some next, behind_it)
step_if_left-some step state next cur behind_it some e = if_left-some cur.left (step state cur) cur some ∙ ap (λ r. behind r (λ s. gives (Some s))) e

pub step_if_left-bad : {S : Type 0} (step : S → Reader S) (state : S) (cur : Cursor) (place : Place) → 0 < length cur.left → step state cur ≡ Err place
    → step_if_left step state cur ≡ Err place
step_if_left-bad step state cur place some e = if_left-some cur.left (step state cur) cur some ∙ ap (λ r. behind r (λ s. gives (Some s))) e

pub step_if_left-none : {S : Type 0} (step : S → Reader S) (state : S) (cur : Cursor) → length cur.left ≡ 0 → step_if_left step state cur ≡ Ok (None, cur)
step_if_left-none step state cur none = if_left-none cur.left (step state cur) cur none
