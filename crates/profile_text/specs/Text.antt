-- How far a profile text was read.
use Rattle.std.specs.Prelude.{◌≡◌, ℕ, ◌+◌, ◌≤◌, ⊤, List, [], ◌∷◌, ◌++◌, length, Option, Some, Result, Ok, Err}
use Rattle.std.specs.List.{All}
use Rattle.refusal.specs.declared.place.Place.{Place}
use Rattle.refusal.specs.declared.place.Stop.{Stop}
use Rattle.refusal.specs.declared.place.Stop.TheVariants.{Refused, NoMemory}
use Rattle.refusal.specs.Place.{first_bad}
use Rattle.key_types.specs.declared.key.Key.{Key}
use Rattle.text_scan.specs.declared.lines.Line.{Line as TextLine}
use Rattle.profile_laws.specs.Once.{StandOnce}
use Rattle.profile_model.specs.Judging.{items_from, kept_lines, first_bad_of_profile}
use Rattle.profile_model.specs.Profile.{Line}
use Rattle.profile_model.specs.Spelled.{Number, numbers_from, numbers_of}
use Rattle.profile_tree.specs.Known.{HasNames}
use Rattle.profile_text.specs.Draft.{Kept, IsRead, TellNumbers}
use Rattle.profile_text.specs.declared.draft.ProfileDraft.{ProfileDraft}
use Rattle.profile_text.specs.declared.item.Item.{Item}

-- How many bytes lines have, without their line feeds.
abbrev pub bytes_of : List (ℕ × List ℕ) → ℕ
bytes_of [] = 0
bytes_of (line ∷ lines) = length line.1 + bytes_of lines

-- What holds of a whole text: its first bad place and its numbers; the names and keys before it was read; and how many
-- there may be of names, of keys and of lines that can be open.
pub record Whole : Type 0 where
  pub bad : Option Place
  pub all : List Number
  pub names : List (List ℕ)
  pub keys : List Key
  pub most_names : ℕ
  pub most_keys : ℕ
  pub most_opened : ℕ

-- The whole of a text.
abbrev pub whole_of : ℕ → List ℕ → List (List ℕ) → List Key → Whole
whole_of file text names keys = record {
  bad = first_bad_of_profile file text;
  all = numbers_of text;
  names = names;
  keys = keys;
  most_names = length names + length text;
  most_keys = length keys + length text;
  most_opened = length text;
}

-- Lines are left. Their first bad place is that of the whole text, and the numbers told and theirs are all.
pub record IsLeft
    (file : ℕ) (whole : Whole) (names : List (List ℕ)) (keys : List Key) (draft : ProfileDraft)
    (left : List (ℕ × List ℕ)) : Type 0 where
  pub before : List Line
  pub numbers : List Number
  pub read : IsRead names keys draft before numbers
  pub judged : whole.bad ≡ first_bad (items_from file before (kept_lines left))
  pub spelled : whole.all ≡ numbers ++ numbers_from before (kept_lines left)
  pub names_kept : Kept whole.names names
  pub keys_kept : Kept whole.keys keys
  pub few_names : length names + bytes_of left ≤ whole.most_names
  pub few_keys : length keys + bytes_of left ≤ whole.most_keys
  pub few_opened : length draft.opened + bytes_of left ≤ whole.most_opened

-- A line was taken in, and the others are left; or it is the first bad one.
abbrev pub GoesOn :
    ℕ → Whole → List (ℕ × List ℕ) → Result (Unit {0}) Stop → List (List ℕ) → List Key → ProfileDraft → Type 0
GoesOn file whole rest (Ok done) names keys draft = IsLeft file whole names keys draft rest
GoesOn file whole rest (Err (Refused place)) names keys draft = whole.bad ≡ Some place
GoesOn file whole rest (Err NoMemory) names keys draft = ⊤

abbrev pub TakesOn :
    ℕ → List (List ℕ) → List Key → ProfileDraft → TextLine → Result (Unit {0}) Stop
    → List (List ℕ) → List Key → ProfileDraft → Type 0
TakesOn file names keys draft line result more more_keys after =
    (whole : Whole) (rest : List (ℕ × List ℕ))
    → IsLeft file whole names keys draft ((line.number, line.bytes.now) ∷ rest)
    → GoesOn file whole rest result more more_keys after

-- Items tell the numbers of a text, each once, by names and keys that grew by no more than the text has bytes. The
-- names of all keys were given.
pub record TellText
    (names : List (List ℕ)) (keys : List Key) (text : List ℕ) (items : List Item)
    (more : List (List ℕ)) (more_keys : List Key)
    : Type 0 where
  pub told : TellNumbers more more_keys items (numbers_of text)
  pub once : StandOnce (λ item. item.what) items
  pub named : All (HasNames (length more)) more_keys
  pub names_kept : Kept names more
  pub keys_kept : Kept keys more_keys
  pub few_names : length more ≤ length names + length text
  pub few_keys : length more_keys ≤ length keys + length text
