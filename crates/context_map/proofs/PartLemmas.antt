-- Segments of parts, put one behind the other.
use Rattle.std.proofs.Common.{◌≡◌, ℕ, ◌<◌, ◌≤◌, Bool, true, false, List, [], ◌∷◌, ◌++◌, Option, None, Some, refl, sym, ap, ◌∙◌, arith, length, subst, inl, inr}
use Rattle.std.specs.Prelude.{slice_get, ◌==◌, if◌then◌else◌}
use Rattle.std.specs.Option.{option_map}
use Rattle.std.proofs.lemmas.Bool.Decides.{nat_tests}
use Rattle.address_spans.proofs.OverlayLemmas.{either}
use Rattle.key_types.specs.declared.key.Key.{Key}
use Rattle.key_types.specs.declared.places.Seg.{Seg}
use Rattle.row_table.specs.declared.row_data.RowData.{RowData}
use Rattle.chain_model.specs.Places.{no_line, has_key, key}
use Rattle.context_map.specs.declared.named.NamedPath.{NamedPath}
use Rattle.key_types.specs.Segments.{Kept}
use Rattle.key_types.proofs.ToldLemmas.{TellBelow-keys, TellBelow-gap, TellBelow-push}
use Rattle.context_map.specs.Parts.{line_and_disc, factor_of, with_factor, shown, IsSame, IsCutUp, Extends, KeepUp}

pub Kept-same : (keys : List Key) → Kept keys keys
Kept-same keys n key is = is

pub Kept-more : (keys more all : List Key) → Kept keys more → Kept more all → Kept keys all
Kept-more keys more all first second n key is = second n key (first n key is)

-- a part without keys
pub Extends-none : (lo hi : ℕ) (show : ℕ → Option (Key × ℕ)) (keys : List Key) (segments : List Seg) → lo ≤ hi → ((a : ℕ) → lo ≤ a → a < hi → show a ≡ None) → Extends lo hi show keys keys segments segments
Extends-none lo hi show keys segments up none wanted so_far is = TellBelow-gap lo hi keys wanted segments so_far up (λ a low high. is a low high ∙ none a low high)

-- a part with one
pub Extends-one : (keys more : List Key) (segments longer : List Seg) (s : Seg) (key : Key) (show : ℕ → Option (Key × ℕ)) → s.lo < s.hi → Kept keys more → slice_get more s.key.0 ≡ Some key → longer ≡ segments ++ s ∷ []
    → ((a : ℕ) → show a ≡ Some (key, s.factor)) → Extends s.lo s.hi show keys more segments longer
Extends-one keys more segments longer s key show full kept is pushed here wanted so_far wants =
    rw pushed (TellBelow-push more wanted segments s key (TellBelow-keys s.lo keys more wanted segments so_far kept) full is (λ a low high. wants a low high ∙ here a))

-- no part, then one part behind another
pub Extends-empty : (at : ℕ) (show : ℕ → Option (Key × ℕ)) (keys : List Key) (segments : List Seg) → Extends at at show keys keys segments segments
Extends-empty at show keys segments wanted so_far is = so_far

pub Extends-then : (lo mid hi : ℕ) (show : ℕ → Option (Key × ℕ)) (there : Option (Key × ℕ)) (keys more all : List Key) (segments longer whole : List Seg) → lo ≤ mid → mid < hi → Extends lo mid show keys more segments longer
    → ((a : ℕ) → mid ≤ a → a < hi → show a ≡ there) → Extends mid hi (λ _. there) more all longer whole → Extends lo hi show keys all segments whole
Extends-then lo mid hi show there keys more all segments longer whole up on first same second wanted so_far is =
    second wanted (first wanted so_far (λ a low high. is a low (omega (arith, high)))) (λ a low high. is a (omega (arith, low)) high ∙ same a low high)

-- what a row gives
pub shown-row : (base : Bool) (named : NamedPath) (row : RowData) → (row.line ≡ 0 → ⊥) → shown base (Some named) (Some (line_and_disc row)) ≡ Some (key base named.root named.calls.items named.start (line_and_disc row), factor_of base (Some (line_and_disc row)))
shown-row base named row lined = by (row.line == 0) refl
  where
    by : (t : Bool) → (row.line == 0) ≡ t → with_factor (if row.line == 0 then no_line else has_key (key base named.root named.calls.items named.start (line_and_disc row))) (factor_of base (Some (line_and_disc row)))
        ≡ Some (key base named.root named.calls.items named.start (line_and_disc row), factor_of base (Some (line_and_disc row)))
    by true is = absurd (lined (grind (arith, nat_tests)))
    by false is = rw is refl

pub shown-no_line : (base : Bool) (named : NamedPath) (row : RowData) → row.line ≡ 0 → shown base (Some named) (Some (line_and_disc row)) ≡ None
shown-no_line base named row none = by (row.line == 0) refl
  where
    by : (t : Bool) → (row.line == 0) ≡ t → with_factor (if row.line == 0 then no_line else has_key (key base named.root named.calls.items named.start (line_and_disc row))) (factor_of base (Some (line_and_disc row))) ≡ None
    by true is = rw is refl
    by false is = absurd (grind (arith, nat_tests))

-- what the rows of a span show
abbrev pub show : (ℕ → Option RowData) → Bool → NamedPath → ℕ → Option (Key × ℕ)
show answer base named a = shown base (Some named) (option_map line_and_disc (answer a))

-- how far a span was taken: there are segments up to an address, one row counts from there to the cuts that are left
pub record SoFar (answer : ℕ → Option RowData) (base : Bool) (named : NamedPath) (first hi most : ℕ) (left : List ℕ) (lo : ℕ) (row : Option RowData) (keys more : List Key) (segments longer : List Seg) (at : ℕ) : Type 0 where
  pub up : first ≤ lo
  pub reached : lo ≤ at
  pub same : (a : ℕ) → lo ≤ a → a < at → answer a ≡ row
  pub here : answer at ≡ row
  pub cut : IsCutUp answer at hi left
  pub extended : Extends first lo (show answer base named) keys more segments longer
  pub used : KeepUp keys more segments longer
  pub kept : Kept keys more
  pub room : length keys ≤ most → length more ≤ most

pub SoFar-none : (answer : ℕ → Option RowData) (base : Bool) (named : NamedPath) (first hi most : ℕ) (left : List ℕ) (row : Option RowData) (keys : List Key) (segments : List Seg) → IsCutUp answer first hi left → row ≡ answer first → SoFar answer base named first hi most left first row keys keys segments segments first
SoFar-none answer base named first hi most left row keys segments cut is = record {
  up = omega arith;
  reached = omega arith;
  same = λ a low high. absurd (omega (arith, low, high));
  here = sym is;
  cut = cut;
  extended = Extends-empty first (show answer base named) keys segments;
  used = λ first have. have;
  kept = Kept-same keys;
  room = λ h. h;
}

-- the same row counts up to the next cut
same_up : (answer : ℕ → Option RowData) (lo at cut : ℕ) (row : Option RowData) → ((a : ℕ) → lo ≤ a → a < at → answer a ≡ row) → answer at ≡ row → IsSame answer at cut → (a : ℕ) → lo ≤ a → a < cut → answer a ≡ row
same_up answer lo at cut row before here same a low high = elim (either a at) [
  | inl less ↦ before a low less
  | inr from ↦ same a from high ∙ here
]

shows : (answer : ℕ → Option RowData) (base : Bool) (named : NamedPath) (lo hi : ℕ) (row : Option RowData) → ((a : ℕ) → lo ≤ a → a < hi → answer a ≡ row) → (a : ℕ) → lo ≤ a → a < hi → show answer base named a ≡ shown base (Some named) (option_map line_and_disc row)
shows answer base named lo hi row same a low high = ap (λ r. shown base (Some named) (option_map line_and_disc r)) (same a low high)

pub SoFar-on : (answer : ℕ → Option RowData) (base : Bool) (named : NamedPath) (first hi most cut : ℕ) (left : List ℕ) (lo : ℕ) (row next : Option RowData) (keys more : List Key) (segments longer : List Seg) (at : ℕ)
    → SoFar answer base named first hi most (cut ∷ left) lo row keys more segments longer at → next ≡ answer cut → next ≡ row → SoFar answer base named first hi most left lo row keys more segments longer cut
SoFar-on answer base named first hi most cut left lo row next keys more segments longer at so_far is equal = record {
  up = so_far.up;
  reached = omega (arith, so_far.reached, so_far.cut.0);
  same = same_up answer lo at cut row so_far.same so_far.here so_far.cut.1;
  here = sym is ∙ equal;
  cut = so_far.cut.2;
  extended = so_far.extended;
  used = so_far.used;
  kept = so_far.kept;
  room = so_far.room;
}

pub SoFar-more : (answer : ℕ → Option RowData) (base : Bool) (named : NamedPath) (first hi most cut : ℕ) (left : List ℕ) (lo : ℕ) (row next : Option RowData) (keys more all : List Key) (segments longer whole : List Seg) (at : ℕ)
    → SoFar answer base named first hi most (cut ∷ left) lo row keys more segments longer at → next ≡ answer cut → Extends lo cut (λ _. shown base (Some named) (option_map line_and_disc row)) more all longer whole → KeepUp more all longer whole → Kept more all
    → (length more ≤ most → length all ≤ most) → SoFar answer base named first hi most left cut next keys all segments whole cut
SoFar-more answer base named first hi most cut left lo row next keys more all segments longer whole at so_far is part keep_up kept room = record {
  up = omega (arith, so_far.up, so_far.reached, so_far.cut.0);
  reached = omega arith;
  same = λ a low high. absurd (omega (arith, low, high));
  here = sym is;
  cut = so_far.cut.2;
  extended = Extends-then first lo cut (show answer base named) (shown base (Some named) (option_map line_and_disc row)) keys more all segments longer whole so_far.up (omega (arith, so_far.reached, so_far.cut.0)) so_far.extended
      (shows answer base named lo cut row (same_up answer lo at cut row so_far.same so_far.here so_far.cut.1)) part;
  used = λ first have. keep_up first (so_far.used first have);
  kept = Kept-more keys more all so_far.kept kept;
  room = λ h. room (so_far.room h);
}

pub SoFar-all : (answer : ℕ → Option RowData) (base : Bool) (named : NamedPath) (first hi most : ℕ) (left : List ℕ) (lo : ℕ) (row : Option RowData) (keys more all : List Key) (segments longer whole : List Seg) (at : ℕ)
    → SoFar answer base named first hi most left lo row keys more segments longer at → left ≡ [] → Extends lo hi (λ _. shown base (Some named) (option_map line_and_disc row)) more all longer whole
    → Extends first hi (show answer base named) keys all segments whole
SoFar-all answer base named first hi most left lo row keys more all segments longer whole at so_far none part =
    let cut = subst (λ (cuts : List ℕ). IsCutUp answer at hi cuts) none so_far.cut in
    Extends-then first lo hi (show answer base named) (shown base (Some named) (option_map line_and_disc row)) keys more all segments longer whole so_far.up (omega (arith, so_far.reached, cut.0)) so_far.extended
    (shows answer base named lo hi row (same_up answer lo at hi row so_far.same so_far.here cut.1)) part
