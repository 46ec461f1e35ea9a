-- The definitions on worked values.
use Rattle.std.proofs.Common.{◌≡◌, ℕ, true, List, [], ◌∷◌, refl, arith}
use Rattle.sample_model.specs.declared.pair.Pair.{Pair}
use Rattle.branch_counts.specs.Table.{times_in, total_in, IsTable}
use Rattle.branch_counts.specs.Tally.{total_of}

row : ℕ → ℕ → ℕ → Pair
row from to times = record { from = from; to = to; times = times }

-- two branches, one of them taken three times
rows : List Pair
rows = row 1 2 3 ∷ row 2 1 1 ∷ []

four_in_all : total_in rows ≡ 4
unfolding rows row
four_in_all = refl

three_times : times_in rows (1, 2) ≡ 3
unfolding rows row
three_times = refl

never : times_in rows (2, 2) ≡ 0
unfolding rows row
never = refl

table : IsTable rows
unfolding rows row
table = record { distinct = (refl, (refl, tt)); positive = (omega arith, (omega arith, tt)) }

ranges_not_counted_in : total_of (record { branches = rows; ranges = row 5 6 7 ∷ []; with_ranges = true }) ≡ 4
unfolding rows row
ranges_not_counted_in = refl
