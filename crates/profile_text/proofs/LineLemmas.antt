-- A line in bytes, taken in as what it says.
use Rattle.std.proofs.Common.{◌≡◌, ℕ, ◌≤◌, List, ◌++◌, Some, Ok, Err, length, sym, subst, arith}
use Rattle.std.specs.Prelude.{Option, Result}
use Rattle.refusal.specs.declared.kind.Kind.{Kind}
use Rattle.refusal.specs.declared.place.ItemStop.{ItemStop}
use Rattle.refusal.specs.declared.place.ItemStop.TheVariants.{Refused, NoMemory}
use Rattle.refusal.specs.Place.{JudgesItem}
use Rattle.key_types.specs.declared.key.Key.{Key}
use Rattle.text_scan.specs.declared.lines.Line.{Line as TextLine}
use Rattle.profile_model.specs.Judging.{cause_of_line, with_line}
use Rattle.profile_model.specs.Profile.{Line}
use Rattle.profile_model.specs.Reading.{line_of}
use Rattle.profile_model.specs.Spelled.{numbers_of_line}
use Rattle.profile_text.specs.Draft.{AreGrown, IsRead, TakesIn, TakesLine, room_of}
use Rattle.profile_text.specs.declared.draft.ProfileDraft.{ProfileDraft}

wider : (cause : Option Kind) (result : Result (Unit {0}) ItemStop) (P : Type 0) (room size : ℕ) (names more : List (List ℕ)) (keys more_keys opened more_opened : List Key)
    → room ≤ size → JudgesItem cause result (P × AreGrown room names keys opened more more_keys more_opened)
    → JudgesItem cause result (P × AreGrown size names keys opened more more_keys more_opened)
wider cause (Ok done) P room size names more keys more_keys opened more_opened le is = (
  is.0,
  (
    is.1.0,
    record {
      names_kept = is.1.1.names_kept;
      keys_kept = is.1.1.keys_kept;
      few_names = omega (arith, le, is.1.1.few_names);
      few_keys = omega (arith, le, is.1.1.few_keys);
      few_opened = omega (arith, le, is.1.1.few_opened);
    },
  ),
)
wider cause (Err (Refused kind)) P room size names more keys more_keys opened more_opened le is = is
wider cause (Err NoMemory) P room size names more keys more_keys opened more_opened le is = tt

pub taken : (names more : List (List ℕ)) (keys more_keys : List Key) (draft after : ProfileDraft) (line : TextLine) (result : Result (Unit {0}) ItemStop) (said : Line)
    → line_of line.bytes.now ≡ Some said → room_of said ≤ length line.bytes.now
    → TakesIn names keys draft line.number said result more more_keys after
    → TakesLine names keys draft line result more more_keys after
taken names more keys more_keys draft after line result said is fits takes = λ before numbers read.
    subst (λ (o : Option Line). JudgesItem (cause_of_line before o) result
    (IsRead more more_keys after (with_line before o) (numbers ++ numbers_of_line line.number before o)
    × AreGrown (length line.bytes.now) names keys draft.opened more more_keys after.opened)) (sym is)
    (wider _ result _ (room_of said) (length line.bytes.now) names more keys more_keys draft.opened after.opened fits (takes before numbers read))
