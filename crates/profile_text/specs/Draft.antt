-- A profile text that is being read.
use Rattle.std.specs.Prelude.{◌≡◌, ◌↔◌, ◌⊎◌, ℕ, ◌<◌, ◌≤◌, nat_le, nat_lt, ⊤, Bool, true, false, List, [], ◌∷◌, ◌++◌, ◌+◌, length, map, take, slice_get, slice_index, Option, Some, Result, Ok, Err, Contains}
use Rattle.std.specs.List.{AllByRecursion}
use Rattle.refusal.specs.declared.kind.Kind.{Kind}
use Rattle.refusal.specs.declared.kind.Kind.TheVariants.{TooDeep, BadIndent, KeyTwice}
use Rattle.refusal.specs.declared.place.ItemStop.{ItemStop}
use Rattle.refusal.specs.declared.place.ItemStop.TheVariants.{Refused, NoMemory}
use Rattle.refusal.specs.Place.{JudgesItem, first_cause}
use Rattle.key_types.specs.Numbers.{Adds, IsNumbered}
use Rattle.key_types.specs.declared.ids.KeyId.{KeyId}
use Rattle.key_types.specs.declared.key.Key.{Key}
use Rattle.profile_model.specs.Judging.{max_depth, cause_of, cause_of_line, with_line}
use Rattle.profile_model.specs.Profile.{Line}
use Rattle.profile_model.specs.Reading.{line_of}
use Rattle.text_scan.specs.declared.lines.Line.{Line as TextLine}
use Rattle.profile_model.specs.Spelled.{Number, head, count, target, numbers_on, numbers_of_line}
use Rattle.profile_model.specs.Spelled as told
use Rattle.profile_model.specs.Standing.{can_stand, way_above, way_of, ways_of, targets_on, again_among, has_twice}
use Rattle.profile_model.specs.Ways.{Way}
use Rattle.profile_tree.specs.Known.{HasNames}
use Rattle.profile_tree.specs.Said.{way_at}
use Rattle.profile_tree.specs.Steps.{NumberedStep, at_function, at_line, at_call, name_at, named, steps_of}
use Rattle.profile_text.specs.Path.{opening}
use Rattle.profile_text.specs.declared.draft.ProfileDraft.{ProfileDraft}
use Rattle.profile_text.specs.declared.item.Item.{Item}
use Rattle.profile_text.specs.declared.item.What.{What}
use Rattle.profile_text.specs.declared.item.What.TheVariants.{Head, Count, Target}

-- Items keep their numbers when more are added.
abbrev pub Kept : {T : Type 0} → List T → List T → Type 0
Kept {T} items more = (n : ℕ) (x : T) → slice_get items n ≡ Some x → slice_get more n ≡ Some x

-- One of some items.
abbrev pub IsOneOf : {T : Type 0} → T → List T → Type 0
IsOneOf x [] = ⊥
IsOneOf x (y ∷ items) = (x ≡ y) ⊎ IsOneOf x items

-- The number of a step's name was given.
abbrev pub IsGivenStep : ℕ → NumberedStep → Type 0
IsGivenStep names (at_function name) = name < names
IsGivenStep names (at_line offset disc) = ⊤
IsGivenStep names (at_call offset disc name) = name < names

abbrev pub AreGiven : ℕ → List NumberedStep → Type 0
AreGiven names steps = AllByRecursion (IsGivenStep names) steps

-- ---- numbers of a text

-- What a number is of, with the names of its numbers.
abbrev pub what_told : List (List ℕ) → List Key → What → told.What
what_told names keys (Head name) = head (name_at names name.0)
what_told names keys (Count key) = count (way_at names keys key.0)
what_told names keys (Target key name) = target (way_at names keys key.0) (name_at names name.0)

abbrev pub number_told : List (List ℕ) → List Key → Item → Number
number_told names keys item =
    record { line = item.line; what = what_told names keys item.what; times = item.times }

-- The numbers in what a number is of were given.
abbrev pub IsGivenWhat : ℕ → ℕ → What → Type 0
IsGivenWhat names keys (Head name) = name.0 < names
IsGivenWhat names keys (Count key) = key.0 < keys
IsGivenWhat names keys (Target key name) = (key.0 < keys) × (name.0 < names)

abbrev pub IsGivenItem : ℕ → ℕ → Item → Type 0
IsGivenItem names keys item = IsGivenWhat names keys item.what

-- Items tell these numbers, also when more names and keys are added.
pub record TellNumbers
    (names : List (List ℕ)) (keys : List Key) (items : List Item) (numbers : List Number)
    : Type 0 where
  pub given : AllByRecursion (IsGivenItem (length names) (length keys)) items
  pub tell : (more : List (List ℕ)) (more_keys : List Key) → Kept names more → Kept keys more_keys
      → map (number_told more more_keys) items ≡ numbers

-- ---- stamps

-- Of the items with numbers those that are done have this stamp.
pub record AreStamped {T : Type 0} (items : List T) (stamp : ℕ) (stamps : List ℕ) (done : List T) : Type 0 where
  pub marked : (k : ℕ) (x : T) → slice_get items k ≡ Some x → (slice_index stamps k ≡ stamp) ↔ IsOneOf x done
  pub known : (x : T) → IsOneOf x done → Contains items x
  pub few : length stamps ≤ length items

-- ---- targets

-- The number of a target of a key, which has this way.
abbrev pub target_number : ℕ → Way → List ℕ × ℕ → Number
target_number at way called = record { line = at; what = target way called.0; times = called.1 }

-- The targets of a key were put behind items.
pub record AreTargetsPut
    (names : List (List ℕ)) (items : List Item) (at : ℕ) (key : KeyId) (targets : List (List ℕ × ℕ))
    (more : List (List ℕ)) (stamps : List ℕ) (after : List Item)
    : Type 0 where
  pub kept : Kept names more
  pub one_each : length more ≤ length names + length targets
  pub given : (keys : ℕ) → key.0 < keys → AllByRecursion (IsGivenItem (length names) keys) items
      → AllByRecursion (IsGivenItem (length more) keys) after
  pub tell : (last : List (List ℕ)) (last_keys : List Key) → Kept more last
      → map (number_told last last_keys) after
      ≡ map (number_told last last_keys) items ++ map (target_number at (way_at last last_keys key.0)) targets
  pub low : (n : ℕ) → slice_index stamps n ≤ length after
  pub few : length stamps ≤ length more

-- The names of targets.
abbrev pub names_of : List (List ℕ × ℕ) → List (List ℕ)
names_of targets = map (λ called. called.0) targets

-- The first targets were put, these names of them, the last one first; the others are left.
pub record TargetsSoFar
    (names : List (List ℕ)) (items : List Item) (at : ℕ) (key : KeyId) (targets left : List (List ℕ × ℕ))
    (more : List (List ℕ)) (stamps : List ℕ) (after : List Item)
    : Type 0 where
  pub done : List (List ℕ)
  pub put : AreTargetsPut names items at key targets more stamps after
  pub stamped : AreStamped more (length items) stamps done
  pub rest : again_among [] (names_of (targets ++ left)) ≡ again_among done (names_of left)

-- Targets are put where no name stands twice.
abbrev pub PutsTargets :
    List (List ℕ) → List Item → ℕ → KeyId → List (List ℕ × ℕ) → Result (Unit {0}) ItemStop
    → List (List ℕ) → List ℕ → List Item → Type 0
PutsTargets names items at key targets (Ok done) more stamps after =
    (has_twice (names_of targets) ≡ false) × AreTargetsPut names items at key targets more stamps after
PutsTargets names items at key targets (Err (Refused kind)) more stamps after =
    (kind ≡ KeyTwice) × (has_twice (names_of targets) ≡ true)
PutsTargets names items at key targets (Err NoMemory) more stamps after = ⊤

-- All stamps are below the one that is given next, and there are no more of them than names.
pub record AreOld (stamps : List ℕ) (next names : ℕ) : Type 0 where
  pub below : (n : ℕ) → slice_index stamps n < next
  pub few : length stamps ≤ names

-- ---- lines that were read, the last one first

-- The path is that of the lines that are open behind these.
pub record IsPath (names : List (List ℕ)) (path : List NumberedStep) (before : List Line) : Type 0 where
  pub given : AreGiven (length names) path
  pub stands : (depth : ℕ) → can_stand before depth ≡ nat_le depth (length path)
  pub above : (more : List (List ℕ)) → Kept names more → (depth : ℕ) → depth ≤ length path
      → way_above before depth ≡ map (named more) (take depth path)

-- The ways of the lines, by the numbers of names.
pub record AreWays (names : List (List ℕ)) (ways : List (List NumberedStep)) (before : List Line) : Type 0 where
  pub given : AllByRecursion (AreGiven (length names)) ways
  pub tell : (more : List (List ℕ)) → Kept names more → ways_of before ≡ map (map (named more)) ways

-- The keys of lines that can be open, which stand for their steps alone, are those of such lines; the stamped keys are
-- those of the body lines.
pub record AreSeen
    (keys : List Key) (ways : List (List NumberedStep)) (opened : List Key) (places : List ℕ)
    : Type 0 where
  pub are_opened : (key : Key) → key.offset ≡ 0 → key.disc ≡ 0 → Contains opened key ↔ IsOneOf (opening key) ways
  pub are_placed : (k : ℕ) (key : Key) → slice_get keys k ≡ Some key
      → (slice_index places k ≡ 1) ↔ IsOneOf (steps_of key) ways
  pub known : (key : Key) → IsOneOf (steps_of key) ways → Contains keys key
  pub few : length places ≤ length keys

-- The names of keys were given.
abbrev pub AreNamed : List (List ℕ) → List Key → Type 0
AreNamed names keys = (n : ℕ) (key : Key) → slice_get keys n ≡ Some key → HasNames (length names) key

-- These lines were read, and these numbers told.
pub record IsRead
    (names : List (List ℕ)) (keys : List Key) (draft : ProfileDraft) (before : List Line) (numbers : List Number)
    : Type 0 where
  pub ways : List (List NumberedStep)
  pub path : IsPath names draft.path before
  pub are_ways : AreWays names ways before
  pub seen : AreSeen keys ways draft.opened draft.places
  pub stamps : (n : ℕ) → slice_index draft.called n ≤ length draft.items.items
  pub called : length draft.called ≤ length names
  pub named : AreNamed names keys
  pub told : TellNumbers names keys draft.items.items numbers

-- Nothing was read.
pub record IsNew (draft : ProfileDraft) : Type 0 where
  pub path : draft.path ≡ []
  pub opened : draft.opened ≡ []
  pub places : draft.places ≡ []
  pub called : draft.called ≡ []
  pub items : draft.items.items ≡ []

-- ---- one line more

-- Why a line of this depth is refused where so many lines are open.
abbrev pub cause_of_depth : ℕ → ℕ → Option Kind
cause_of_depth lines depth = first_cause ((nat_lt max_depth depth, TooDeep) ∷ (nat_lt lines depth, BadIndent) ∷ [])

-- Names, keys and opened lines grew, each by no more than so many, and kept their numbers.
pub record AreGrown
    (room : ℕ) (names : List (List ℕ)) (keys opened : List Key)
    (more : List (List ℕ)) (more_keys more_opened : List Key)
    : Type 0 where
  pub names_kept : Kept names more
  pub keys_kept : Kept keys more_keys
  pub few_names : length more ≤ length names + room
  pub few_keys : length more_keys ≤ length keys + room
  pub few_opened : length more_opened ≤ length opened + room

-- How many names a line can have.
abbrev pub room_of : Line → ℕ
room_of line = 1 + length (targets_on line)

-- A line is taken in behind those that were read.
abbrev pub TakesIn :
    List (List ℕ) → List Key → ProfileDraft → ℕ → Line → Result (Unit {0}) ItemStop
    → List (List ℕ) → List Key → ProfileDraft → Type 0
TakesIn names keys draft at line result more more_keys after =
    (before : List Line) (numbers : List Number) → IsRead names keys draft before numbers
    → JudgesItem (cause_of before line) result
    (IsRead more more_keys after (line ∷ before) (numbers ++ numbers_on at (way_of before line) line)
    × AreGrown (room_of line) names keys draft.opened more more_keys after.opened)

-- The key of a path was added to those of lines that were opened; whether it is the first one.
pub record IsOpened (path : List NumberedStep) (opened : List Key) (fresh : Bool) (more : List Key) : Type 0 where
  pub key : Key
  pub steps : opening key ≡ path
  pub offset : key.offset ≡ 0
  pub disc : key.disc ≡ 0
  pub adds : Adds opened more key
  pub numbered : IsNumbered more
  pub at : ℕ
  pub there : slice_get more at ≡ Some key
  pub is_fresh : fresh ≡ nat_lt (length opened) (length more)
  pub one_more : length more ≤ length opened + 1

-- The same for a line in bytes, which can have the form of none.
abbrev pub TakesLine :
    List (List ℕ) → List Key → ProfileDraft → TextLine → Result (Unit {0}) ItemStop
    → List (List ℕ) → List Key → ProfileDraft → Type 0
TakesLine names keys draft line result more more_keys after =
    (before : List Line) (numbers : List Number) → IsRead names keys draft before numbers
    → JudgesItem (cause_of_line before (line_of line.bytes.now)) result
    (IsRead more more_keys after (with_line before (line_of line.bytes.now))
    (numbers ++ numbers_of_line line.number before (line_of line.bytes.now))
    × AreGrown (length line.bytes.now) names keys draft.opened more more_keys after.opened)
