-- The functions of a block text: their names are fields of its lines; and that no line is bad hangs on no number of the file.
use Rattle.std.proofs.Common.{◌≡◌, ℕ, ◌+◌, Bool, true, false, List, [], ◌∷◌, ◌++◌, map, filter, length, Option, None, Some, arith, refl, sym, ap, ◌∙◌, subst}
use Rattle.std.specs.Prelude.{nat_lt, codes, ⊤, is_some, if◌then◌else◌}
use Rattle.std.specs.List.{AllByRecursion, flat_map, list_any}
use Rattle.std.specs.Str.{bytes_eq}
use Rattle.std.proofs.lemmas.Bool.{lt-ltb, or_parts}
use Rattle.std.proofs.lemmas.List.Folds.{list_any-append}
use Rattle.refusal.specs.declared.kind.Kind.{Kind}
use Rattle.refusal.specs.declared.kind.Kind.TheVariants.{NoEndLine}
use Rattle.refusal.specs.declared.place.Place.{Place}
use Rattle.refusal.specs.Place.{fails_at, first_bad, size_item}
use Rattle.refusal.proofs.PlaceLemmas.{first_bad-none}
use Rattle.text_model.specs.Fields.{fields_of, is_blank, is_filled}
use Rattle.text_model.specs.Laws.{HasNoLineFeed, IsSpaced, spaced}
use Rattle.text_model.specs.Lines.{is_line_feed, lines_of}
use Rattle.text_model.specs.LineTests.{is_comment}
use Rattle.text_model.proofs.LawLemmas.{fields_join, lines_join}
use Rattle.block_model.specs.Function.{Function}
use Rattle.block_model.specs.Judging.{cause_of_line, first_bad_of_text, item, items_from}
use Rattle.block_model.specs.Line.{Line, passed, begins, tells_block, tells_edge, ends, ◌>>=◌, address_of, block_line_of, bound_of, edge_line_of, end_line_of, exit_and_bound_of, func_line_of, line_by_fields, line_of, place_of}
use Rattle.block_model.specs.Text.{closed_by_line, functions_from, functions_of, open_behind_line}
use Rattle.repair_model.specs.Laws.{IsName}
use Rattle.command_model.specs.Files.{first_bad_of_blocks, max_block_bytes}
use Rattle.profile_tree.proofs.ListLemmas.{all_append}
use Rattle.way_laws.proofs.EachLemmas.{OfSome as Of}

-- ---- fields

-- A field of a line without a line feed.
pub record IsField (name : List ℕ) : Type 0 where
  pub name_is : IsName name
  pub clean : HasNoLineFeed name

first_clean : (xs ys : List ℕ) → HasNoLineFeed (xs ++ ys) → HasNoLineFeed xs × HasNoLineFeed ys
first_clean xs ys clean = or_parts (list_any is_line_feed xs) (list_any is_line_feed ys) (sym (list_any-append is_line_feed xs ys) ∙ clean)

parts_are : (parts : List (List ℕ × List ℕ)) → AllByRecursion IsSpaced parts → HasNoLineFeed (flat_map spaced parts) → AllByRecursion IsField (map (λ part. part.0) parts)
parts_are [] all clean = tt
parts_are ((name, blanks) ∷ parts) all clean =
    let here = first_clean (name ++ blanks) (flat_map spaced parts) clean in (
      record { name_is = record { filled = all.0.filled; clean = all.0.clean }; clean = (first_clean name blanks here.0).0 },
      parts_are parts all.1 here.1,
    )

rest_is : (rest : List ℕ) → list_any is_blank rest ≡ false → HasNoLineFeed rest → AllByRecursion IsField (filter is_filled (rest ∷ []))
rest_is [] blank clean = tt
rest_is (b ∷ rest) blank clean =
    let some : is_filled (b ∷ rest) ≡ true = lt-ltb 0 (length (b ∷ rest)) (omega arith) in
    rw some (record { name_is = record { filled = some; clean = blank }; clean = clean }, tt)

fields_are : (line : List ℕ) → HasNoLineFeed line → AllByRecursion IsField (fields_of line)
fields_are line clean =
    let (parts, lead, rest, made) = fields_join line in
    let split = first_clean (lead ++ flat_map spaced parts) rest (subst HasNoLineFeed made.joined clean) in
    let both = first_clean lead (flat_map spaced parts) split.0 in
    subst (AllByRecursion IsField) (sym made.all)
    (all_append IsField (map (λ part. part.0) parts) (filter is_filled (rest ∷ [])) (parts_are parts made.parts_spaced both.1) (rest_is rest made.rest_clean split.1))

last_are : (rest : List ℕ) → HasNoLineFeed rest → AllByRecursion HasNoLineFeed (filter is_filled (rest ∷ []))
last_are [] clean = tt
last_are (b ∷ rest) clean = rw (lt-ltb 0 (length (b ∷ rest)) (omega arith)) (clean, tt)

lines_are : (text : List ℕ) → AllByRecursion HasNoLineFeed (lines_of text)
lines_are text =
    let (rest, made) = lines_join text in
    subst (AllByRecursion HasNoLineFeed) (sym made.all)
    (all_append HasNoLineFeed _ (filter is_filled (rest ∷ [])) made.clean (last_are rest made.open_end))

-- ---- names

abbrev NamesField : Line → Type 0
NamesField passed = ⊤
NamesField (begins name) = IsField name
NamesField (tells_block number block) = ⊤
NamesField (tells_edge from to bound) = ⊤
NamesField ends = ⊤

chained : {A B : Type 0} (Q : B → Type 0) (o : Option A) (f : A → Option B) → ((a : A) → Of Q (f a)) → Of Q (o >>= f)
chained Q None f goes = tt
chained Q (Some a) f goes = goes a

block_named : (words : List (List ℕ)) → Of NamesField (block_line_of words)
unfolding block_line_of
block_named [] = tt
block_named (number ∷ []) = tt
block_named (number ∷ lo ∷ []) = tt
block_named (number ∷ lo ∷ hi ∷ words) =
    chained NamesField (place_of number) _ (λ n. chained NamesField (address_of lo) _ (λ l. chained NamesField (address_of hi) _ (λ h. chained NamesField (exit_and_bound_of words) _ (λ last. tt))))

edge_named : (words : List (List ℕ)) → Of NamesField (edge_line_of words)
unfolding edge_line_of
edge_named [] = tt
edge_named (from ∷ []) = tt
edge_named (from ∷ to ∷ words) =
    chained NamesField (place_of from) _ (λ n. chained NamesField (place_of to) _ (λ m. chained NamesField (bound_of false words) _ (λ b. tt)))

func_named : (words : List (List ℕ)) → AllByRecursion IsField words → Of NamesField (func_line_of words)
func_named [] all = tt
func_named (name ∷ []) all = all.0
func_named (name ∷ next ∷ words) all = tt

end_named : (words : List (List ℕ)) → Of NamesField (end_line_of words)
end_named [] = tt
end_named (word ∷ words) = tt

either : (b : Bool) (one other : Option Line) → Of NamesField one → Of NamesField other → Of NamesField (if b then one else other)
either true one other is also = is
either false one other is also = also

by_fields : (words : List (List ℕ)) → AllByRecursion IsField words → Of NamesField (line_by_fields words)
unfolding line_by_fields
by_fields [] all = tt
by_fields (word ∷ words) all =
    either (bytes_eq word (codes "block")) _ _ (block_named words)
    (either (bytes_eq word (codes "edge")) _ _ (edge_named words)
    (either (bytes_eq word (codes "func")) _ _ (func_named words all.1)
    (either (bytes_eq word (codes "end")) _ None (end_named words) tt)))

line_named : (line : List ℕ) → HasNoLineFeed line → Of NamesField (line_of line)
unfolding line_of
line_named line clean = either (is_comment line) (Some passed) _ tt (by_fields (fields_of line) (fields_are line clean))

abbrev IsOpen : Option Function → Type 0
IsOpen None = ⊤
IsOpen (Some fun) = IsField fun.name

open_kept : (opened : Option Function) (said : Option Line) → IsOpen opened → Of NamesField said → IsOpen (open_behind_line opened said)
open_kept opened None kept named = kept
open_kept opened (Some passed) kept named = kept
open_kept opened (Some (begins name)) kept named = named
open_kept None (Some (tells_block number block)) kept named = tt
open_kept (Some fun) (Some (tells_block number block)) kept named = kept
open_kept None (Some (tells_edge from to bound)) kept named = tt
open_kept (Some fun) (Some (tells_edge from to bound)) kept named = kept
open_kept opened (Some ends) kept named = tt

closed_named : (opened : Option Function) (said : Option Line) → IsOpen opened → AllByRecursion (λ (fun : Function). IsField fun.name) (closed_by_line opened said)
closed_named opened None kept = tt
closed_named None (Some passed) kept = tt
closed_named None (Some (begins name)) kept = tt
closed_named None (Some (tells_block number block)) kept = tt
closed_named None (Some (tells_edge from to bound)) kept = tt
closed_named None (Some ends) kept = tt
closed_named (Some fun) (Some passed) kept = tt
closed_named (Some fun) (Some (begins name)) kept = tt
closed_named (Some fun) (Some (tells_block number block)) kept = tt
closed_named (Some fun) (Some (tells_edge from to bound)) kept = tt
closed_named (Some fun) (Some ends) kept = (kept, tt)

functions_named : (opened : Option Function) (lines : List (List ℕ)) → IsOpen opened → AllByRecursion HasNoLineFeed lines → AllByRecursion (λ (fun : Function). IsField fun.name) (functions_from opened lines)
unfolding functions_from
functions_named opened [] kept clean = tt
functions_named opened (line ∷ lines) kept clean =
    all_append (λ (fun : Function). IsField fun.name) (closed_by_line opened (line_of line)) _
    (closed_named opened (line_of line) kept)
    (functions_named (open_behind_line opened (line_of line)) lines (open_kept opened (line_of line) kept (line_named line clean.0)) clean.1)

pub names_are_fields : (text : List ℕ) → AllByRecursion (λ (fun : Function). IsField fun.name) (functions_of text)
names_are_fields text = functions_named None (lines_of text) tt (lines_are text)

-- ---- the number of the file

good_first : (here : Option Place) (rest : List (Option Place)) → here ≡ None → first_bad rest ≡ None → first_bad (here ∷ rest) ≡ None
good_first here rest is none = ap (λ (o : Option Place). first_bad (o ∷ rest)) is ∙ none

item_of_any : (file other number : ℕ) (cause : Option Kind) → item file number cause ≡ None → item other number cause ≡ None
item_of_any file other number None none = refl
item_of_any file other number (Some kind) none = absurd cc

fails_of_any : (cause : Bool) (one other : Place) → fails_at cause one ≡ None → fails_at cause other ≡ None
fails_of_any false one other none = refl
fails_of_any true one other none = absurd cc

items_of_any : (file other number : ℕ) (opened : Option Function) (lines : List (List ℕ)) → first_bad (items_from file number opened lines) ≡ None → first_bad (items_from other number opened lines) ≡ None
unfolding items_from
items_of_any file other number opened [] none =
    let here = first_bad-none (fails_at (is_some opened) (record { file = file; at = number; kind = NoEndLine })) [] none in
    good_first (fails_at (is_some opened) (record { file = other; at = number; kind = NoEndLine })) [] (fails_of_any (is_some opened) _ _ here.0) refl
items_of_any file other number opened (line ∷ lines) none =
    let here = first_bad-none (item file number (cause_of_line opened (line_of line))) _ none in
    good_first (item other number (cause_of_line opened (line_of line))) _ (item_of_any file other number (cause_of_line opened (line_of line)) here.0)
    (items_of_any file other (number + 1) (open_behind_line opened (line_of line)) lines here.1)

-- A block text without a bad line, which is not too large either.
pub record IsGoodText (file : ℕ) (text : List ℕ) : Type 0 where
  pub lines : first_bad_of_text file text ≡ None
  pub all : first_bad_of_blocks file text ≡ None

pub good_of_any : (file other : ℕ) (text : List ℕ) → first_bad_of_blocks file text ≡ None → IsGoodText other text
unfolding first_bad_of_blocks
good_of_any file other text none =
    let size = first_bad-none (size_item file max_block_bytes text) (first_bad_of_text file text ∷ []) none in
    let lines = items_of_any file other 1 None (lines_of text) (first_bad-none (first_bad_of_text file text) [] size.1).0 in
    record {
      lines = lines;
      all = good_first (size_item other max_block_bytes text) (first_bad_of_text other text ∷ [])
          (fails_of_any (nat_lt max_block_bytes (length text)) _ _ size.0) (good_first (first_bad_of_text other text) [] lines refl);
    }
