-- The ways of a profile, by ranks.
use Rattle.std.specs.Prelude.{◌≡◌, ◌<◌, ℕ, ◌==◌, Bool, false, ◌&&◌, ◌||◌, nat_lt, List, [], ◌∷◌, ◌++◌, map, filter, length, slice_index, slice_index_or}
use Rattle.std.specs.List.{list_any, range_with_len}
use Rattle.key_types.specs.declared.ids.KeyId.{KeyId}
use Rattle.key_types.specs.declared.key.Key.{Key}
use Rattle.profile_tree.specs.Steps.{NumberedStep, at_function, at_line, at_call, steps_at}
use Rattle.profile_tree.specs.declared.head.Head.{Head}
use Rattle.profile_lists.specs.Pairs.{was_made}
use Rattle.profile_lists.specs.declared.pairs.Call.{Call}
use Rattle.profile_lists.specs.declared.item.Item.{Item}
use Rattle.profile_lists.specs.declared.item.Kind.TheVariants.{Function, Body, Call as Inlined}
use Rattle.profile_lists.specs.declared.item.Step.{Step}

-- A step with the ranks of names: those of functions go by total, those of callees by name alone.
abbrev pub ranked : List ℕ → List ℕ → NumberedStep → Step
ranked by_total by_name (at_function name) =
    record { kind = Function; offset = 0; disc = 0; rank = slice_index by_total name }
ranked by_total by_name (at_line offset disc) = record { kind = Body; offset = offset; disc = disc; rank = 0 }
ranked by_total by_name (at_call offset disc name) =
    record { kind = Inlined; offset = offset; disc = disc; rank = slice_index by_name name }

-- A way that is written, with the count and the number of a key.
pub record Source : Type 0 where
  pub way : List NumberedStep
  pub count : ℕ
  pub key : ℕ

-- A key, with its count.
abbrev pub of_count : List Key → List ℕ → ℕ → Source
of_count keys counts id = record { way = steps_at keys id; count = slice_index counts id; key = id }

-- A function that was entered.
abbrev pub of_head : Head → Source
of_head head = record { way = at_function head.name.0 ∷ []; count = 0; key = 0 }

abbrev pub has_count : List ℕ → ℕ → Bool
has_count counts id = nat_lt 0 (slice_index counts id)

-- A function was called from a key.
abbrev pub is_caller : List Call → ℕ → Bool
is_caller calls id = list_any (λ call. was_made call && call.key.0 == id) calls

-- A key is one of those that have a line besides.
abbrev pub is_besides : List KeyId → ℕ → Bool
is_besides besides id = list_any (λ key. key.0 == id) besides

-- A key has a line whatever its count: it has a target, or a line besides.
abbrev pub is_marked : List Call → List KeyId → ℕ → Bool
is_marked calls besides id = is_caller calls id || is_besides besides id

-- A key that has a line: one with a count or a target, or one that has a line besides.
abbrev pub is_written : List ℕ → List Call → List KeyId → ℕ → Bool
is_written counts calls besides id = has_count counts id || is_marked calls besides id

-- The first so many keys are told by marks: each has one where the test holds of it.
pub record AreMarked (n : ℕ) (test : ℕ → Bool) (marks : List Bool) : Type 0 where
  pub len : length marks ≡ n
  pub each : (id : ℕ) → id < n → slice_index_or marks id false ≡ test id

abbrev pub was_entered : Head → Bool
was_entered head = nat_lt 0 head.times

abbrev pub written : List Key → List ℕ → List Call → List KeyId → List Source
written keys counts calls besides =
    map (of_count keys counts) (filter (is_written counts calls besides) (range_with_len 0 (length keys)))

abbrev pub entered : List Head → List Source
entered heads = map of_head (filter was_entered heads)

-- All ways that lead to a line: those of keys with counts or targets and of keys that have lines besides, and of
-- functions that were entered.
abbrev pub sources : List Key → List ℕ → List Call → List KeyId → List Head → List Source
sources keys counts calls besides heads = written keys counts calls besides ++ entered heads

-- What an item tells.
pub record Told : Type 0 where
  pub way : List Step
  pub count : ℕ
  pub key : ℕ

abbrev pub told_item : Item → Told
told_item item = record { way = item.way.items; count = item.count; key = item.key }

-- A source by ranks.
abbrev pub ranked_source : List ℕ → List ℕ → Source → Told
ranked_source by_total by_name source =
    record { way = map (ranked by_total by_name) source.way; count = source.count; key = source.key }
