-- The keys of which a text tells the count 0, by numbers.
use Rattle.std.specs.Prelude.{ℕ, ◌==◌, cond, Option, None, Some}
use Rattle.key_types.specs.declared.ids.KeyId.{KeyId}
use Rattle.profile_text.specs.declared.item.Item.{Item}
use Rattle.profile_text.specs.declared.item.What.{What}
use Rattle.profile_text.specs.declared.item.What.TheVariants.{Head, Count, Target}
pub use Rattle.profile_text.specs.Numbers.{counted}
pub use Rattle.profile_tree.specs.Standing.{first_ways}

-- The key of which a number is the count 0.
abbrev pub cold_by : What → ℕ → Option KeyId
cold_by (Head name) times = None
cold_by (Count key) times = cond (times == 0) (Some key) None
cold_by (Target key callee) times = None

abbrev pub cold_in : Item → Option KeyId
cold_in item = cold_by item.what item.times
