-- The limits of a block text.
use Rattle.std.specs.Prelude.{ℕ}

-- The most blocks of a function.
abbrev pub max_blocks : ℕ
max_blocks = 65536

-- The most edges of a function.
abbrev pub max_edges : ℕ
max_edges = 262144

-- The bits of a bound on a count.
abbrev pub bound_bits : ℕ
bound_bits = 44
