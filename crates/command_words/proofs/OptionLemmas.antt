-- Options among words, one word behind the other.
use Rattle.std.proofs.Common.{◌≡◌, ◌<◌, ◌≤◌, ◌+◌, ◌&&◌, ℕ, Bool, true, false, List, [], ◌∷◌, drop, length, Option, None, Some, refl, sym, ap, ◌∙◌, arith, get_or}
use Rattle.std.specs.Prelude.{cond, count_by, filter_map, slice_get}
use Rattle.std.specs.List.{cons_option, list_all}
use Rattle.std.specs.Global.{Vec}
use Rattle.std.proofs.lemmas.List.{drop_all}
use Rattle.std.proofs.lemmas.List.Sums.{sum_by-cons}
use Rattle.command_model.specs.Options.{first_map, map_name}
use Rattle.command_words.specs.Words.{texts_of}
use Rattle.command_words.proofs.CommandLemmas.{drop-item}

-- the words from a place on, by the word there
from : (words : List (Vec ℕ)) (n : ℕ) (word : Vec ℕ) → n < length words → word ≡ get_or words n word
    → texts_of (drop n words) ≡ word.items ∷ texts_of (drop (n + 1) words)
from words n word within is = ap texts_of (drop-item words n word within is)

-- no word is left
ended : (words : List (Vec ℕ)) (n : ℕ) → length words ≤ n → texts_of (drop n words) ≡ []
ended words n past = ap texts_of (drop_all n words past)

-- All words hold exactly where those from a place on do.
pub record HoldSoFar (holds : List ℕ → Bool) (words : List (Vec ℕ)) (n : ℕ) : Type 0 where
  pub same : list_all holds (texts_of words) ≡ list_all holds (texts_of (drop n words))

pub HoldSoFar-start : (holds : List ℕ → Bool) (words : List (Vec ℕ)) → HoldSoFar holds words 0
HoldSoFar-start holds words = record { same = refl }

pub HoldSoFar-more : (holds : List ℕ → Bool) (words : List (Vec ℕ)) (n : ℕ) (word : Vec ℕ) → HoldSoFar holds words n → n < length words
    → word ≡ get_or words n word → holds word.items ≡ true → HoldSoFar holds words (n + 1)
HoldSoFar-more holds words n word so_far within is here = record {
  same = so_far.same ∙ ap (list_all holds) (from words n word within is) ∙ ap (λ b. b && list_all holds (texts_of (drop (n + 1) words))) here;
}

pub HoldSoFar-stop : (holds : List ℕ → Bool) (words : List (Vec ℕ)) (n : ℕ) (word : Vec ℕ) → HoldSoFar holds words n → n < length words
    → word ≡ get_or words n word → holds word.items ≡ false → false ≡ list_all holds (texts_of words)
HoldSoFar-stop holds words n word so_far within is here =
    sym (so_far.same ∙ ap (list_all holds) (from words n word within is) ∙ ap (λ b. b && list_all holds (texts_of (drop (n + 1) words))) here)

pub HoldSoFar-end : (holds : List ℕ → Bool) (words : List (Vec ℕ)) (n : ℕ) → HoldSoFar holds words n → length words ≤ n
    → true ≡ list_all holds (texts_of words)
HoldSoFar-end holds words n so_far past = sym (so_far.same ∙ ap (list_all holds) (ended words n past))

-- So many words were counted, and those from a place on are to come.
pub record CountedSoFar (counts : List ℕ → Bool) (words : List (Vec ℕ)) (n count : ℕ) : Type 0 where
  pub all : count_by counts (texts_of words) ≡ count + count_by counts (texts_of (drop n words))
  pub few : count ≤ n

pub CountedSoFar-start : (counts : List ℕ → Bool) (words : List (Vec ℕ)) → CountedSoFar counts words 0 0
CountedSoFar-start counts words = record { all = omega arith; few = omega arith }

here_counted : (counts : List ℕ → Bool) (words : List (Vec ℕ)) (n : ℕ) (word : Vec ℕ) (b : Bool) → n < length words → word ≡ get_or words n word
    → counts word.items ≡ b → count_by counts (texts_of (drop n words)) ≡ cond b 1 0 + count_by counts (texts_of (drop (n + 1) words))
here_counted counts words n word b within is here =
    ap (count_by counts) (from words n word within is)
    ∙ sum_by-cons (λ w. cond (counts w) 1 0) word.items (texts_of (drop (n + 1) words))
    ∙ ap (λ c. cond c 1 0 + count_by counts (texts_of (drop (n + 1) words))) here

pub CountedSoFar-more : (counts : List ℕ → Bool) (words : List (Vec ℕ)) (n count : ℕ) (word : Vec ℕ) → CountedSoFar counts words n count → n < length words
    → word ≡ get_or words n word → counts word.items ≡ true → CountedSoFar counts words (n + 1) (count + 1)
CountedSoFar-more counts words n count word so_far within is here =
    let all = so_far.all in let few = so_far.few in let one = here_counted counts words n word true within is here in
    record { all = omega (arith, all, one); few = omega (arith, few) }

pub CountedSoFar-pass : (counts : List ℕ → Bool) (words : List (Vec ℕ)) (n count : ℕ) (word : Vec ℕ) → CountedSoFar counts words n count → n < length words
    → word ≡ get_or words n word → counts word.items ≡ false → CountedSoFar counts words (n + 1) count
CountedSoFar-pass counts words n count word so_far within is here =
    let all = so_far.all in let few = so_far.few in let one = here_counted counts words n word false within is here in
    record { all = omega (arith, all, one); few = omega (arith, few) }

pub CountedSoFar-end : (counts : List ℕ → Bool) (words : List (Vec ℕ)) (n count : ℕ) → CountedSoFar counts words n count → length words ≤ n
    → count ≡ count_by counts (texts_of words)
CountedSoFar-end counts words n count so_far past =
    let all = so_far.all in let none = ap (count_by counts) (ended words n past) in omega (arith, all, none)

-- No word before a place has a name.
pub record UnnamedSoFar (words : List (Vec ℕ)) (n : ℕ) : Type 0 where
  pub same : first_map (texts_of words) ≡ first_map (texts_of (drop n words))

pub UnnamedSoFar-start : (words : List (Vec ℕ)) → UnnamedSoFar words 0
UnnamedSoFar-start words = record { same = refl }

here_named : (words : List (Vec ℕ)) (n : ℕ) (word : Vec ℕ) (name : Option (List ℕ)) → n < length words → word ≡ get_or words n word
    → map_name word.items ≡ name → first_map (texts_of (drop n words)) ≡ slice_get (cons_option name (filter_map map_name (texts_of (drop (n + 1) words)))) 0
here_named words n word name within is here =
    ap first_map (from words n word within is) ∙ ap (λ m. slice_get (cons_option m (filter_map map_name (texts_of (drop (n + 1) words)))) 0) here

pub UnnamedSoFar-more : (words : List (Vec ℕ)) (n : ℕ) (word : Vec ℕ) → UnnamedSoFar words n → n < length words
    → word ≡ get_or words n word → None ≡ map_name word.items → UnnamedSoFar words (n + 1)
UnnamedSoFar-more words n word so_far within is here = record { same = so_far.same ∙ here_named words n word None within is (sym here) }

pub UnnamedSoFar-stop : (words : List (Vec ℕ)) (n : ℕ) (word : Vec ℕ) (name : List ℕ) → UnnamedSoFar words n → n < length words
    → word ≡ get_or words n word → Some name ≡ map_name word.items → Some name ≡ first_map (texts_of words)
UnnamedSoFar-stop words n word name so_far within is here = sym (so_far.same ∙ here_named words n word (Some name) within is (sym here))

pub UnnamedSoFar-end : (words : List (Vec ℕ)) (n : ℕ) → UnnamedSoFar words n → length words ≤ n → None ≡ first_map (texts_of words)
UnnamedSoFar-end words n so_far past = sym (so_far.same ∙ ap first_map (ended words n past))
