-- The spans of innermost members, taken one by one.
use Rattle.std.proofs.Common.{◌≡◌, ℕ, ◌-◌, ◌^◌, ◌<◌, ◌≤◌, Bool, true, false, List, [], ◌∷◌, ◌++◌, Option, None, Some, refl, sym, ap, ◌∙◌, arith, subst, length, map, inl, inr}
use Rattle.std.specs.Prelude.{option_and_then, ◌==◌, if◌then◌else◌}
use Rattle.std.specs.Option.{option_map, option_or, is_some}
use Rattle.std.specs.List.{last_or}
use Rattle.address_spans.specs.declared.span.Span.{Span}
use Rattle.address_spans.specs.Spans.{AreBetween, AreDisjoint, owner_at}
use Rattle.address_spans.proofs.OverlayLemmas.{either}
use Rattle.address_spans.proofs.SpanLemmas.{held, missed-behind, owner-hit, owner-miss, owner-append, owner-before, owner-behind, reach, AreBetween-append}
use Rattle.key_types.specs.declared.key.Key.{Key}
use Rattle.key_types.specs.declared.places.Seg.{Seg}
use Rattle.chain_model.specs.declared.member.Member.{Member}
use Rattle.chain_model.specs.Chains.{chain, function_at, innermost, path}
use Rattle.chain_model.specs.Places.{outside, no_line, has_key, LineAndDisc, place_of, row_of, place_at, factor_at, key}
use Rattle.chain_model.proofs.ChainLemmas.{are_paths}
use Rattle.span_cover.specs.Asked.{asks, innermost_asked}
use Rattle.span_cover.proofs.AskedLemmas.{asked-there}
use Rattle.context_map.specs.declared.named.NamedPath.{NamedPath}
use Rattle.context_map.specs.declared.context.Context.{Context}
use Rattle.context_map.specs.Contexts.{place_in, IsContext}
use Rattle.key_types.specs.Segments.{HaveSegments, Kept, TellBelow}
use Rattle.key_types.proofs.ToldLemmas.{TellBelow-start, TellBelow-gap, TellBelow-all, AreBetween-wider}
use Rattle.context_map.specs.Parts.{line_and_disc, with_factor, factor_of, shown, Extends, KeepUp}
use Rattle.context_map.proofs.PartLemmas.{Kept-same, Kept-more}
use Rattle.line_model.specs.Rows.{Sequence}
use Rattle.row_table.specs.Told.{told}
use Rattle.context_map.specs.Maps.{table_of, rows_of, place_over, wanted_over, is_nameless, unnamed, ArePartsOf}

-- without an innermost member there is no chain
last-some : (x : ℕ × Member) (xs : List (ℕ × Member)) → option_map (λ (m : ℕ × Member). m.0) (last_or (Some x) xs) ≡ None → ⊥
last-some x [] is = cc
last-some x (y ∷ ys) is = last-some y ys is

no_last : (xs : List (ℕ × Member)) → option_map (λ (m : ℕ × Member). m.0) (last_or None xs) ≡ None → xs ≡ []
no_last [] is = refl
no_last (x ∷ xs) is = absurd (last-some x xs is)

pub chainless : (rows : ℕ → ℕ → Option LineAndDisc) (base : Bool) (members : List Member) (a : ℕ) → chain members a ≡ [] → place_at rows base members a ≡ outside
chainless rows base members a none = ap (λ (ms : List (ℕ × Member)). place_of base (map (λ m. m.1) ms) (row_of rows (map (λ m. m.1) ms) a)) none

out-place : (rows : ℕ → ℕ → Option LineAndDisc) (base : Bool) (members : List Member) (a : ℕ) → innermost members a ≡ None → place_at rows base members a ≡ outside
out-place rows base members a none = chainless rows base members a (no_last (chain members a) none)

-- with one its context says all
in-place : (rows : ℕ → ℕ → Option LineAndDisc) (base : Bool) (members : List Member) (a n : ℕ) (context : Context) → innermost members a ≡ Some n → IsContext members base n context
    → place_at rows base members a ≡ place_in base context.named (rows context.unit a)
in-place rows base members a n context is all =
    ap (λ (ms : List (ℕ × Member)). place_of base (map (λ m. m.1) ms) (row_of rows (map (λ m. m.1) ms) a)) (are_paths members a n is)
    ∙ all.place (row_of rows (map (λ m. m.1) (path members n)) a)
    ∙ ap (place_in base context.named) (all.row rows a)

in-factor : (rows : ℕ → ℕ → Option LineAndDisc) (base : Bool) (members : List Member) (a n : ℕ) (context : Context) → innermost members a ≡ Some n → IsContext members base n context
    → factor_at rows base members a ≡ factor_of base (rows context.unit a)
in-factor rows base members a n context is all =
    ap (λ (ms : List (ℕ × Member)). factor_of base (row_of rows (map (λ m. m.1) ms) a)) (are_paths members a n is)
    ∙ ap (factor_of base) (all.row rows a)

-- the same for the functions that are asked for
asked-some : (marks : List Bool) (members : List Member) (a n : ℕ) → innermost_asked marks members a ≡ Some n → (asks marks (function_at members a) ≡ true) × (innermost members a ≡ Some n)
asked-some marks members a n is = by (asks marks (function_at members a)) refl is
  where
    by : (t : Bool) → asks marks (function_at members a) ≡ t → (if t then innermost members a else None) ≡ Some n → (asks marks (function_at members a) ≡ true) × (innermost members a ≡ Some n)
    by true asked is = (asked, is)
    by false asked is = absurd (cc)

pub place-asked : (marks : List Bool) (rows : ℕ → ℕ → Option LineAndDisc) (base : Bool) (members : List Member) (a : ℕ) → asks marks (function_at members a) ≡ true → place_over marks rows base members a ≡ place_at rows base members a
place-asked marks rows base members a asked = ap (λ t. if t then place_at rows base members a else outside) asked

pub place-left : (marks : List Bool) (rows : ℕ → ℕ → Option LineAndDisc) (base : Bool) (members : List Member) (a : ℕ) → asks marks (function_at members a) ≡ false → place_over marks rows base members a ≡ outside
place-left marks rows base members a unasked = ap (λ t. if t then place_at rows base members a else outside) unasked

over-out-place : (marks : List Bool) (rows : ℕ → ℕ → Option LineAndDisc) (base : Bool) (members : List Member) (a : ℕ) → innermost_asked marks members a ≡ None → place_over marks rows base members a ≡ outside
over-out-place marks rows base members a none = by (asks marks (function_at members a)) none
  where
    by : (t : Bool) → (if t then innermost members a else None) ≡ None → (if t then place_at rows base members a else outside) ≡ outside
    by true none = out-place rows base members a none
    by false none = refl

over-out-wanted : (marks : List Bool) (rows : ℕ → ℕ → Option LineAndDisc) (base : Bool) (members : List Member) (a : ℕ) → innermost_asked marks members a ≡ None → wanted_over marks rows base members a ≡ None
over-out-wanted marks rows base members a none = ap (λ p. with_factor p (factor_at rows base members a)) (over-out-place marks rows base members a none)

over-in-place : (marks : List Bool) (rows : ℕ → ℕ → Option LineAndDisc) (base : Bool) (members : List Member) (a n : ℕ) (context : Context) → innermost_asked marks members a ≡ Some n → IsContext members base n context
    → place_over marks rows base members a ≡ place_in base context.named (rows context.unit a)
over-in-place marks rows base members a n context is all =
    let some = asked-some marks members a n is in
    place-asked marks rows base members a some.0 ∙ in-place rows base members a n context some.1 all

over-in-wanted : (marks : List Bool) (rows : ℕ → ℕ → Option LineAndDisc) (base : Bool) (members : List Member) (a n : ℕ) (context : Context) → innermost_asked marks members a ≡ Some n → IsContext members base n context
    → wanted_over marks rows base members a ≡ shown base context.named (rows context.unit a)
over-in-wanted marks rows base members a n context is all =
    ap (λ p. with_factor p (factor_at rows base members a)) (over-in-place marks rows base members a n context is all)
    ∙ ap (with_factor (place_in base context.named (rows context.unit a))) (in-factor rows base members a n context (asked-some marks members a n is).1 all)

-- how far the spans were taken: up to an address, with those that are left
pub record PartsSoFar (marks : List Bool) (rows : ℕ → ℕ → Option LineAndDisc) (base : Bool) (members : List Member) (most : ℕ) (left : List Span) (keys more : List Key) (parts : List Seg) (spans : List Span) (bound : ℕ) : Type 0 where
  pub tell : TellBelow bound more (wanted_over marks rows base members) parts
  pub ascend : AreBetween 0 bound spans
  pub nameless : (a : ℕ) → a < bound → is_some (owner_at spans a) ≡ is_nameless (place_over marks rows base members a)
  pub left_ascend : AreBetween bound (2 ^ 64 - 1) left
  pub owners : (a : ℕ) → bound ≤ a → owner_at left a ≡ innermost_asked marks members a
  pub used : HaveSegments (length keys) more parts
  pub kept : Kept keys more
  pub room : length keys ≤ most → length more ≤ most

pub PartsSoFar-none : (marks : List Bool) (rows : ℕ → ℕ → Option LineAndDisc) (base : Bool) (members : List Member) (most : ℕ) (cover : List Span) (keys : List Key) (parts : List Seg) (spans : List Span) → AreDisjoint cover
    → ((a : ℕ) → owner_at cover a ≡ innermost_asked marks members a) → parts ≡ [] → spans ≡ [] → PartsSoFar marks rows base members most cover keys keys parts spans 0
PartsSoFar-none marks rows base members most cover keys parts spans disjoint owners no_parts no_spans = record {
  tell = subst (λ (ps : List Seg). TellBelow 0 keys (wanted_over marks rows base members) ps) (sym no_parts) (TellBelow-start keys (wanted_over marks rows base members));
  ascend = subst (λ (ss : List Span). AreBetween 0 0 ss) (sym no_spans) (omega arith);
  nameless = λ a below. absurd (omega (arith, below));
  left_ascend = disjoint;
  owners = λ a from. owners a;
  used = λ n from low. absurd (omega (arith, from, low));
  kept = Kept-same keys;
  room = λ h. h;
}

none-some : (o : Option ℕ) → o ≡ None → is_some o ≡ false
none-some None is = refl
none-some (Some x) is = absurd (cc)

-- the spans of a context without names
AreBetween-unnamed : (named : Option NamedPath) (span : Span) → span.lo < span.hi → AreBetween span.lo span.hi (unnamed named span)
AreBetween-unnamed None span full = (omega arith, full, omega arith)
AreBetween-unnamed (Some named) span full = omega (arith, full)

unnamed-owner : (base : Bool) (named : Option NamedPath) (row : Option LineAndDisc) (span : Span) (a : ℕ) → span.lo ≤ a → a < span.hi → is_some (owner_at (unnamed named span) a) ≡ is_nameless (place_in base named row)
unnamed-owner base None row span a low high = ap is_some (owner-hit span [] a (held span a low high))
unnamed-owner base (Some named) None span a low high = refl
unnamed-owner base (Some named) (Some row) span a low high = sym (lined (row.0 == 0))
  where
    lined : (t : Bool) → is_nameless (if t then no_line else has_key (key base named.root named.calls.items named.start row)) ≡ false
    lined true = refl
    lined false = refl

pub PartsSoFar-more : (marks : List Bool) (rows : ℕ → ℕ → Option LineAndDisc) (base : Bool) (members : List Member) (most : ℕ) (span : Span) (rest : List Span) (keys more all : List Key) (parts longer : List Seg) (spans wider : List Span) (bound : ℕ) (context : Context)
    → PartsSoFar marks rows base members most (span ∷ rest) keys more parts spans bound → IsContext members base span.owner context
    → Extends span.lo span.hi (λ a. shown base context.named (rows context.unit a)) more all parts longer → wider ≡ spans ++ unnamed context.named span → KeepUp more all parts longer → Kept more all → (length more ≤ most → length all ≤ most)
    → PartsSoFar marks rows base members most rest keys all longer wider span.hi
PartsSoFar-more marks rows base members most span rest keys more all parts longer spans wider bound context so_far is extended pushed keep_up kept room = record {
  tell = extended (wanted_over marks rows base members)
      (TellBelow-gap bound span.lo more (wanted_over marks rows base members) parts so_far.tell low (λ a from below. over-out-wanted marks rows base members a (gap a from below)))
      (λ a from below. over-in-wanted marks rows base members a span.owner context (inside a from below) is);
  ascend = subst (λ (ss : List Span). AreBetween 0 span.hi ss) (sym pushed)
      (AreBetween-append 0 span.lo span.hi spans (unnamed context.named span) (AreBetween-wider spans 0 bound span.lo so_far.ascend low) (AreBetween-unnamed context.named span full));
  nameless = λ a below. elim (either a span.lo) [
    | inl before ↦
        ap (λ (ss : List Span). is_some (owner_at ss a)) pushed
        ∙ ap is_some (owner-append spans (unnamed context.named span) a ∙ ap (option_or (owner_at spans a)) (owner-before span.lo span.hi a (unnamed context.named span) (AreBetween-unnamed context.named span full) before) ∙ or_none (owner_at spans a))
        ∙ elim (either a bound) [
          | inl lower ↦ so_far.nameless a lower
          | inr high ↦ none-some (owner_at spans a) (owner-behind 0 bound a spans so_far.ascend high) ∙ sym (ap is_nameless (over-out-place marks rows base members a (gap a high before)))
        ]
    | inr from ↦
        ap (λ (ss : List Span). is_some (owner_at ss a)) pushed
        ∙ ap is_some (owner-append spans (unnamed context.named span) a ∙ ap (λ o. option_or o (owner_at (unnamed context.named span) a)) (owner-behind 0 bound a spans so_far.ascend (omega (arith, low, from))))
        ∙ unnamed-owner base context.named (rows context.unit a) span a from below
        ∙ sym (ap is_nameless (over-in-place marks rows base members a span.owner context (inside a from below) is))
  ];
  left_ascend = so_far.left_ascend.2;
  owners = λ a from. sym (owner-miss span rest a (missed-behind span a from)) ∙ so_far.owners a (omega (arith, low, full, from));
  used = keep_up (length keys) so_far.used;
  kept = Kept-more keys more all so_far.kept kept;
  room = λ h. room (so_far.room h);
}
  where
    low : bound ≤ span.lo
    low = so_far.left_ascend.0

    full : span.lo < span.hi
    full = so_far.left_ascend.1

    gap : (a : ℕ) → bound ≤ a → a < span.lo → innermost_asked marks members a ≡ None
    gap a from below = sym (so_far.owners a from) ∙ owner-before span.lo (2 ^ 64 - 1) a (span ∷ rest) (omega arith, full, so_far.left_ascend.2) below

    inside : (a : ℕ) → span.lo ≤ a → a < span.hi → innermost_asked marks members a ≡ Some span.owner
    inside a from below = sym (so_far.owners a (omega (arith, low, from))) ∙ owner-hit span rest a (held span a from below)

    or_none : (o : Option ℕ) → option_or o None ≡ o
    or_none None = refl
    or_none (Some x) = refl

pub PartsSoFar-all : (marks : List Bool) (rows : ℕ → ℕ → Option LineAndDisc) (base : Bool) (members : List Member) (most : ℕ) (rest : List Span) (keys more : List Key) (parts : List Seg) (spans : List Span) (bound : ℕ)
    → PartsSoFar marks rows base members most rest keys more parts spans bound → rest ≡ [] → ArePartsOf marks rows base members more parts spans
PartsSoFar-all marks rows base members most rest keys more parts spans bound so_far none = record {
  ascend = AreBetween-wider _ 0 bound (2 ^ 64 - 1) so_far.tell.ascend end;
  given = so_far.tell.given;
  tell = TellBelow-all bound more (wanted_over marks rows base members) parts so_far.tell (λ a from. over-out-wanted marks rows base members a (out a from));
  disjoint = AreBetween-wider spans 0 bound (2 ^ 64 - 1) so_far.ascend end;
  unnamed = λ a. elim (either a bound) [
    | inl lower ↦ so_far.nameless a lower
    | inr high ↦ none-some (owner_at spans a) (owner-behind 0 bound a spans so_far.ascend high) ∙ sym (ap is_nameless (over-out-place marks rows base members a (out a high)))
  ];
}
  where
    end : bound ≤ 2 ^ 64 - 1
    end = reach bound (2 ^ 64 - 1) rest so_far.left_ascend

    out : (a : ℕ) → bound ≤ a → innermost_asked marks members a ≡ None
    out a from = sym (so_far.owners a from) ∙ ap (λ (ss : List Span). owner_at ss a) none

pub PartsSoFar-there : (marks : List Bool) (rows : ℕ → ℕ → Option LineAndDisc) (base : Bool) (members : List Member) (most : ℕ) (span : Span) (rest : List Span) (keys more : List Key) (parts : List Seg) (spans : List Span) (bound : ℕ)
    → PartsSoFar marks rows base members most (span ∷ rest) keys more parts spans bound → span.owner < length members
PartsSoFar-there marks rows base members most span rest keys more parts spans bound so_far =
    asked-there marks members span.lo span.owner (sym (so_far.owners span.lo so_far.left_ascend.0) ∙ owner-hit span rest span.lo (held span span.lo (omega arith) so_far.left_ascend.1))

-- the rows of a unit with and without a table
pub show-nameless : (base : Bool) (named : Option NamedPath) (row : Option LineAndDisc) → named ≡ None → shown base named row ≡ None
show-nameless base named row is = ap (λ (n : Option NamedPath). shown base n row) is

pub show-rowless : (base : Bool) (named : Option NamedPath) (name : NamedPath) (row : Option LineAndDisc) → named ≡ Some name → row ≡ None → shown base named row ≡ None
show-rowless base named name row is none = ap (λ (n : Option NamedPath). shown base n row) is ∙ ap (shown base (Some name)) none

pub rowless : (tables : List (Option (List Sequence))) (unit a : ℕ) → table_of tables unit ≡ None → rows_of tables unit a ≡ None
rowless tables unit a none = ap (λ t. option_map line_and_disc (option_and_then (λ table. told table a) t)) none

pub rows-by : (tables : List (Option (List Sequence))) (table : List Sequence) (unit a : ℕ) → table_of tables unit ≡ Some table → rows_of tables unit a ≡ option_map line_and_disc (told table a)
rows-by tables table unit a is = ap (λ t. option_map line_and_disc (option_and_then (λ table. told table a) t)) is

pub Extends-same : (lo hi : ℕ) (show other : ℕ → Option (Key × ℕ)) (keys more : List Key) (parts longer : List Seg) → ((a : ℕ) → show a ≡ other a) → Extends lo hi other keys more parts longer → Extends lo hi show keys more parts longer
Extends-same lo hi show other keys more parts longer same extended wanted so_far is = extended wanted so_far (λ a low high. is a low high ∙ same a)
