-- What a reader of a range list has read, and what the list comes to from each of its marks on.
use Rattle.std.proofs.Common.{◌≡◌, ◌+◌, ◌-◌, ◌<◌, ◌≤◌, ℕ, Bool, length, drop, List, [], ◌∷◌, ◌++◌, Option, None, Some, Ok, Err, refl, sym, ap, subst, ◌∙◌, arith}
use Rattle.std.specs.Option.{option_to_list}
use Rattle.std.specs.Prelude.{nat_le, IfOk, IfSome, Result, Err}
use Rattle.std.proofs.lemmas.Bool.{leb-false}
use Rattle.std.proofs.lemmas.List.{append_assoc, append-nil, drop-append-le, length-append, drop_all}
use Rattle.std.proofs.lemmas.List.Elements.{All-nil, All-push, All-same, All-weaker, filter-append}
use Rattle.refusal.specs.Place.{fails_at, in_binary}
use Rattle.refusal.specs.declared.kind.Kind.TheVariants.{TooManyRanges}
use Rattle.refusal.specs.declared.place.Place.{Place}
use Rattle.refusal.specs.declared.place.NoMemory.{NoMemory}
use Rattle.std.specs.Global.{Vec}
use Rattle.refusal.proofs.PlaceLemmas.{fails_at-none}
use Rattle.byte_view.specs.Cursor.{Cursor}
use Rattle.elf_model.specs.Segments.{is_live}
use Rattle.range_model.specs.Lists.{Piece, RangeSections, Resolves, bad_in_list, max_entries, ranges_from}
use Rattle.range_model.proofs.ListLemmas.{bad_in_list-good, bad_in_list-many}
use Rattle.dwarf_ranges.specs.Walk.{IsNext}
use Rattle.dwarf_ranges.specs.declared.step.ListStep.{ListStep}
use Rattle.tree_model.specs.Pieces.{live_ranges}
use Rattle.entry_facts.specs.Lists.{IsRest, Stands, left_of, section_by}
use Rattle.entry_facts.specs.Walk.{IsMarked, IsPassed, IsReading, IsWalked, Reached}
use Rattle.entry_facts.specs.declared.tail.ListMark.{ListMark}
use Rattle.entry_facts.specs.declared.tail.Rest.{Rest}
use Rattle.entry_facts.specs.declared.walk.ListWalk.{ListWalk}

-- there is room for an entry more
pub not_many : (count : ℕ) (place : Place) → fails_at (nat_le max_entries count) place ≡ None → count < max_entries
not_many count place none = leb-false max_entries count (fails_at-none (nat_le max_entries count) place none)

-- what is left fits behind so many entries
pub fits_behind : (passed : ℕ) (P : Rest → Type 0) (r : Result (Option Rest) NoMemory) → passed ≤ max_entries
    → IfOk r (λ known. IfSome known (λ rest. (rest.entries ≤ max_entries - passed) × P rest))
    → IfOk r (λ known. IfSome known (λ rest. (passed + rest.entries ≤ max_entries) × P rest))
fits_behind passed P (Ok None) few is = is
fits_behind passed P (Ok (Some rest)) few is = let fits = is.0 in (omega arith, is.1)
fits_behind passed P (Err e) few is = is

-- a cursor that passed some bytes stands in the same section
pub Stands-on : (section : Option Piece) (old new : Cursor) (front : List ℕ) → Stands section old → old.left ≡ front ++ new.left → new.at ≡ old.at + length front
    → Stands section new
Stands-on section old new front stands parts moved = record {
  piece = stands.piece;
  there = stands.there;
  front = stands.front ++ front;
  parts = stands.parts ∙ ap (λ (l : List ℕ). stands.front ++ l) parts ∙ sym (append_assoc stands.front front new.left);
  at = omega (arith, moved, stands.at, length-append stands.front front);
}

module _ (file : List ℕ) (resolve : Resolves) (pairs : Bool) where
  live : List (ℕ × ℕ) → List (ℕ × ℕ)
  live ranges = live_ranges file ranges

  pub Reached-start : (cur : Cursor) (base : ℕ) → Reached file resolve pairs cur base cur base 0 []
  Reached-start cur base = record {
    bad = λ before few.
        ap (λ (n : ℕ). bad_in_list resolve n (left_of pairs cur)) (let same : before ≡ before + 0 = omega arith in same);
    found = refl;
  }

  pub Reached-more : (start old new : Cursor) (first_base base count : ℕ) (found more : List (ℕ × ℕ)) (step : ListStep)
      → Reached file resolve pairs start first_base old base count found → IsNext resolve pairs base old new step
      → more ≡ found ++ live_ranges file (option_to_list step.range)
      → Reached file resolve pairs start first_base new step.base (count + 1) more
  Reached-more start old new first_base base count found more step reached next more_is =
      let rest = left_of pairs new in
      let made = next.made in
      let here : ranges_from resolve base (left_of pairs old).entries
      ≡ option_to_list step.range ++ ranges_from resolve step.base rest.entries =
      rw (next.here, made.base_is, made.ranges_are) refl in
      let parted = filter-append (λ (range : ℕ × ℕ). is_live file range.0 range.1) (option_to_list step.range) (ranges_from resolve step.base rest.entries) in
      record {
        bad = λ before few.
            reached.bad before (omega arith)
            ∙ ap (bad_in_list resolve (before + count)) next.here
            ∙ bad_in_list-good resolve (before + count) old.at next.entry rest made.good (omega arith)
            ∙ ap (λ (n : ℕ). bad_in_list resolve n rest) (let same : before + count + 1 ≡ before + (count + 1) = omega arith in same);
        found =
            reached.found
            ∙ ap (λ (l : List (ℕ × ℕ)). found ++ live_ranges file l) here
            ∙ ap (λ (l : List (ℕ × ℕ)). found ++ l) parted
            ∙ sym (append_assoc found (live_ranges file (option_to_list step.range)) (live_ranges file (ranges_from resolve step.base rest.entries)))
            ∙ ap (λ (l : List (ℕ × ℕ)). l ++ live_ranges file (ranges_from resolve step.base rest.entries)) (sym more_is);
      }

  -- the rest is known
  pub Reached-rest : (start cur : Cursor) (first_base base count entries : ℕ) (found rest : List (ℕ × ℕ))
      → Reached file resolve pairs start first_base cur base count found → IsRest file resolve pairs cur base entries rest
      → IsRest file resolve pairs start first_base (count + entries) (found ++ rest)
  Reached-rest start cur first_base base count entries found rest reached known = record {
    good = λ before few. reached.bad before (omega arith) ∙ known.good (before + count) (omega arith);
    live_is = reached.found ∙ ap (λ (l : List (ℕ × ℕ)). found ++ l) known.live_is;
  }

  -- nothing is left
  pub rest-none : (cur : Cursor) (base : ℕ) → left_of pairs cur ≡ record { entries = []; broken = None } → IsRest file resolve pairs cur base 0 []
  rest-none cur base none = record {
    good = λ before few. ap (bad_in_list resolve before) none;
    live_is = rw none refl;
  }

module _ (file : List ℕ) (sections : RangeSections) (resolve : Resolves) (pairs : Bool) where
  pub IsPassed-more : (old new : Cursor) (base passed : ℕ) (found more : List (ℕ × ℕ)) (step : ListStep) (mark : ListMark)
      → IsNext resolve pairs base old new step → more ≡ found ++ live_ranges file (option_to_list step.range)
      → IsPassed file sections resolve pairs old base passed found mark → IsPassed file sections resolve pairs new step.base (passed + 1) more mark
  IsPassed-more old new base passed found more step mark next more_is was =
      let added = live_ranges file (option_to_list step.range) in
      let rest_is : drop mark.found more ≡ drop mark.found found ++ added =
      ap (drop mark.found) more_is ∙ drop-append-le mark.found found added was.within in
      record {
        start = was.start;
        at = was.at;
        stands = was.stands;
        since = was.since + 1;
        counted = let c = was.counted in omega arith;
        within = let w = was.within in omega (arith, ap length more_is, length-append found added);
        reached = Reached-more file resolve pairs was.start old new mark.base base was.since (drop mark.found found) (drop mark.found more) step was.reached next rest_is;
      }

  pub IsPassed-here : (cur : Cursor) (base passed : ℕ) (found : List (ℕ × ℕ)) (mark : ListMark) → Stands (section_by sections pairs) cur
      → cur.at ≡ mark.at → base ≡ mark.base → passed ≡ mark.passed → length found ≡ mark.found
      → IsPassed file sections resolve pairs cur base passed found mark
  IsPassed-here cur base passed found mark stands at base_is passed_is found_is = record {
    start = cur;
    at = at;
    stands = stands;
    since = 0;
    counted = omega arith;
    within = omega arith;
    reached = subst (λ (b : ℕ). Reached file resolve pairs cur b cur base 0 (drop mark.found found)) base_is
        (subst (λ (l : List (ℕ × ℕ)). Reached file resolve pairs cur base cur base 0 l) (sym (drop_all mark.found found (omega arith)))
        (Reached-start file resolve pairs cur base));
  }

  pub IsMarked-rest : (cur : Cursor) (base passed entries : ℕ) (found rest : List (ℕ × ℕ)) (mark : ListMark)
      → IsRest file resolve pairs cur base entries rest → IsPassed file sections resolve pairs cur base passed found mark
      → IsMarked file sections resolve pairs (passed + entries) (found ++ rest) mark
  IsMarked-rest cur base passed entries found rest mark known was =
      let c = was.counted in
      let w = was.within in
      let counted : was.since + entries ≡ passed + entries - mark.passed = omega arith in
      record {
        start = was.start;
        at = was.at;
        stands = was.stands;
        counted = omega arith;
        within = omega (arith, length-append found rest);
        rest = subst (λ (l : List (ℕ × ℕ)). IsRest file resolve pairs was.start mark.base (passed + entries - mark.passed) l) (sym (drop-append-le mark.found found rest was.within))
            (subst (λ (n : ℕ). IsRest file resolve pairs was.start mark.base n (drop mark.found found ++ rest)) counted
            (Reached-rest file resolve pairs was.start cur mark.base base was.since entries (drop mark.found found) rest was.reached known));
      }

module _ (file : List ℕ) (sections : RangeSections) (resolve : Resolves) (pairs : Bool) (start : Cursor) (first_base : ℕ) where
  -- an entry more
  pub reading-more : (old : ListWalk) (cur : Cursor) (more : Vec (ℕ × ℕ)) (step : ListStep)
      → IsReading file sections resolve pairs start first_base old → IsNext resolve pairs old.base old.cur cur step → old.passed < max_entries
      → more.items ≡ old.live.items ++ live_ranges file (option_to_list step.range)
      → IsReading file sections resolve pairs start first_base (record { cur = cur; base = step.base; passed = old.passed + 1; live = more; marks = old.marks })
  reading-more old cur more step reading next few more_is = record {
    few = omega arith;
    stands = Stands-on (section_by sections pairs) old.cur cur next.front reading.stands next.parts next.moved;
    reached = Reached-more file resolve pairs start old.cur cur first_base old.base old.passed old.live.items more.items step reading.reached next more_is;
    marks = All-weaker (IsPassed file sections resolve pairs old.cur old.base old.passed old.live.items) (IsPassed file sections resolve pairs cur step.base (old.passed + 1) more.items)
        (λ mark was. IsPassed-more file sections resolve pairs old.cur cur old.base old.passed old.live.items more.items step mark next more_is was) old.marks.items reading.marks;
  }

  -- the list is bad where what is left is
  bad_behind : (old : ListWalk) → IsReading file sections resolve pairs start first_base old
      → bad_in_list resolve 0 (left_of pairs start) ≡ bad_in_list resolve old.passed (left_of pairs old.cur)
  bad_behind old reading =
      let few = reading.few in
      let same : 0 + old.passed ≡ old.passed = omega arith in
      reading.reached.bad 0 (omega arith) ∙ ap (λ (n : ℕ). bad_in_list resolve n (left_of pairs old.cur)) same

  -- one entry too many
  pub reading-many : (old : ListWalk) (cur : Cursor) (step : ListStep) → IsReading file sections resolve pairs start first_base old → IsNext resolve pairs old.base old.cur cur step
      → max_entries ≤ old.passed → bad_in_list resolve 0 (left_of pairs start) ≡ Some (in_binary step.at TooManyRanges)
  reading-many old cur step reading next many =
      let rest = left_of pairs cur in
      let bad = bad_in_list-many resolve old.passed old.cur.at next.entry rest next.made.good many in
      bad_behind old reading ∙ ap (bad_in_list resolve old.passed) next.here ∙ bad
      ∙ ap (λ (n : ℕ). Some (in_binary n TooManyRanges)) (sym next.made.at_place)

  -- an entry that is bad
  pub reading-bad : (old : ListWalk) (place : Place) → IsReading file sections resolve pairs start first_base old
      → ((count : ℕ) → bad_in_list resolve count (left_of pairs old.cur) ≡ Some place) → bad_in_list resolve 0 (left_of pairs start) ≡ Some place
  reading-bad old place reading bad = bad_behind old reading ∙ bad old.passed

  -- the rest is known
  pub reading-rest : (old : ListWalk) (entries : ℕ) (rest : List (ℕ × ℕ)) → IsReading file sections resolve pairs start first_base old
      → IsRest file resolve pairs old.cur old.base entries rest → old.passed + entries ≤ max_entries
      → IsWalked file sections resolve pairs start first_base (old.passed + entries) (old.live.items ++ rest) old.marks.items
  reading-rest old entries rest reading known few = record {
    few = few;
    all = Reached-rest file resolve pairs start old.cur first_base old.base old.passed entries old.live.items rest reading.reached known;
    marked = All-weaker (IsPassed file sections resolve pairs old.cur old.base old.passed old.live.items) (IsMarked file sections resolve pairs (old.passed + entries) (old.live.items ++ rest))
        (λ mark was. IsMarked-rest file sections resolve pairs old.cur old.base old.passed entries old.live.items rest mark known was) old.marks.items reading.marks;
  }

  -- the list ends
  pub reading-end : (old : ListWalk) → IsReading file sections resolve pairs start first_base old → left_of pairs old.cur ≡ record { entries = []; broken = None }
      → IsWalked file sections resolve pairs start first_base old.passed old.live.items old.marks.items
  reading-end old reading none =
      let few = reading.few in
      let whole = reading-rest old 0 [] reading (rest-none file resolve pairs old.cur old.base none) (omega arith) in
      let count : old.passed + 0 ≡ old.passed = omega arith in
      subst (λ (l : List (ℕ × ℕ)). IsWalked file sections resolve pairs start first_base old.passed l old.marks.items) (append-nil old.live.items)
      (subst (λ (n : ℕ). IsWalked file sections resolve pairs start first_base n (old.live.items ++ []) old.marks.items) count whole)

  -- a mark more
  pub reading-marked : (old : ListWalk) (mark : ListMark) (marks : Vec ListMark) → IsReading file sections resolve pairs start first_base old → marks.items ≡ old.marks.items ++ mark ∷ []
      → old.cur.at ≡ mark.at → old.base ≡ mark.base → old.passed ≡ mark.passed → length old.live.items ≡ mark.found
      → IsReading file sections resolve pairs start first_base (record { cur = old.cur; base = old.base; passed = old.passed; live = old.live; marks = marks })
  reading-marked old mark marks reading added at base_is passed_is found_is =
      let P = IsPassed file sections resolve pairs old.cur old.base old.passed old.live.items in
      record {
        few = reading.few;
        stands = reading.stands;
        reached = reading.reached;
        marks = All-same P marks.items (old.marks.items ++ mark ∷ []) added (All-push P old.marks.items mark reading.marks
            (IsPassed-here file sections resolve pairs old.cur old.base old.passed old.live.items mark reading.stands at base_is passed_is found_is));
      }

  -- nothing was read
  pub reading-start : (walk : ListWalk) → walk.cur ≡ start → walk.base ≡ first_base → walk.passed ≡ 0 → walk.live.items ≡ [] → walk.marks.items ≡ []
      → Stands (section_by sections pairs) start → IsReading file sections resolve pairs start first_base walk
  reading-start walk cur base none live marks stands =
      let P = IsPassed file sections resolve pairs walk.cur walk.base walk.passed walk.live.items in
      record {
        few = omega (arith, none);
        stands = rw cur stands;
        reached = rw (cur, base, none, live) (Reached-start file resolve pairs start first_base);
        marks = All-same P walk.marks.items [] marks (All-nil P);
      }
