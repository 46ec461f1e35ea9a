-- Sums of what profiles say, by the numbers of names and keys.
use Rattle.std.specs.Prelude.{◌≡◌, ◌<◌, ◌≤◌, ⊤, ℕ, ◌+◌, ◌*◌, ◌^◌, ◌==◌, nat_le, Bool, false, List, length, find, cond, slice_index, sum_by, Option, None, Some, Result, Ok, Err, if◌then◌else◌}
use Rattle.std.specs.List.{AllByRecursion}
use Rattle.std.specs.Option.{option_map}
use Rattle.profile_laws.specs.Once.{StandOnce}
use Rattle.profile_text.specs.Draft.{IsGivenItem}
use Rattle.profile_text.specs.declared.item.Item.{Item}
use Rattle.profile_text.specs.declared.item.What.{What}
use Rattle.profile_text.specs.declared.item.What.TheVariants.{Head, Count, Target}
use Rattle.profile_merge.specs.Called.{Target as CalledFrom, same_target, called_sum, IsCalled, AreCallsOf}
use Rattle.profile_merge.specs.declared.sums.MergeStop.{MergeStop}
use Rattle.profile_merge.specs.declared.sums.MergeStop.TheVariants.{CountTooLarge, NoMemory}

-- The sums of heads by the numbers of names, of counts by the numbers of keys, and of calls: 0 for what has none there.
pub record Sums : Type 0 where
  pub heads : List ℕ
  pub counts : List ℕ
  pub called : List (CalledFrom × ℕ)

-- The sum of a head, a count or a target.
abbrev pub sum_in : Sums → What → ℕ
sum_in sums (Head name) = slice_index sums.heads name.0
sum_in sums (Count key) = slice_index sums.counts key.0
sum_in sums (Target key name) = called_sum sums.called key name

-- Whether numbers are of the same.
abbrev pub same_head : ℕ → What → Bool
same_head name (Head other) = name == other.0
same_head name (Count other) = false
same_head name (Target other callee) = false

abbrev pub same_count : ℕ → What → Bool
same_count key (Head other) = false
same_count key (Count other) = key == other.0
same_count key (Target other callee) = false

abbrev pub same_call : CalledFrom → What → Bool
same_call target (Head other) = false
same_call target (Count other) = false
same_call target (Target other callee) = same_target target (other, callee)

abbrev pub same_what : What → What → Bool
same_what (Head name) other = same_head name.0 other
same_what (Count key) other = same_count key.0 other
same_what (Target key name) other = same_call (key, name) other

-- The number that items tell of a head, a count or a target: 0 where none does.
abbrev pub number_at : List Item → What → ℕ
number_at items what = sum_by (λ item. cond (same_what item.what what) item.times 0) items

-- No head, count or target has two numbers.
abbrev pub TellOnce : List Item → Type 0
TellOnce items = StandOnce (λ item. item.what) items

-- Each sum was raised by so many times its number.
abbrev pub AddsPart : ℕ → List Item → Sums → Sums → Type 0
AddsPart weight items old new =
    (what : What) → sum_in new what ≡ sum_in old what + weight * number_at items what

-- Each sum is what it was.
abbrev pub AreSameSums : Sums → Sums → Type 0
AreSameSums old new = (what : What) → sum_in new what ≡ sum_in old what

-- So many times a number does not fit 64 bits together with its sum.
abbrev pub is_over : ℕ → Sums → Item → Bool
is_over weight sums item = nat_le (2 ^ 64) (weight * item.times + sum_in sums item.what)

-- The line of the first such number.
abbrev pub first_over : ℕ → Sums → List Item → Option ℕ
first_over weight sums items = option_map (λ item. item.line) (find (is_over weight sums) items)

-- Items are refused at a line where there is one. Where memory was refused nothing is told.
abbrev pub JudgesItems : Option ℕ → Result (Unit {0}) MergeStop → Type 0
JudgesItems bad (Ok done) = bad ≡ None
JudgesItems bad (Err (CountTooLarge line)) = bad ≡ Some line
JudgesItems bad (Err NoMemory) = ⊤

-- All sums are of names and keys that were given.
pub record AreSumsOf (names keys : ℕ) (sums : Sums) : Type 0 where
  pub heads : length sums.heads ≤ names
  pub counts : length sums.counts ≤ keys
  pub called : AreCallsOf names keys sums.called

-- Sums of names and keys stay such with the numbers of these items.
abbrev pub StaySumsOf : List Item → Sums → Sums → Type 0
StaySumsOf items old new =
    (names keys : ℕ) → AreSumsOf names keys old → AllByRecursion (IsGivenItem names keys) items
    → AreSumsOf names keys new

-- There is a place for a sum, so that setting it takes no memory.
abbrev pub HasPlace : Sums → What → Type 0
HasPlace sums (Head name) = name.0 < length sums.heads
HasPlace sums (Count key) = key.0 < length sums.counts
HasPlace sums (Target key name) = IsCalled sums.called key name

abbrev pub HavePlaces : Sums → List Item → Type 0
HavePlaces sums items = AllByRecursion (λ item. HasPlace sums item.what) items

-- Places are kept.
abbrev pub KeepsPlaces : Sums → Sums → Type 0
KeepsPlaces old new = (what : What) → HasPlace old what → HasPlace new what

-- A head, a count or a target got this sum, and all others kept theirs.
abbrev pub IsWithSum : Sums → What → ℕ → Sums → Type 0
IsWithSum old what sum new =
    (other : What) → sum_in new other ≡ (if same_what what other then sum else sum_in old other)
