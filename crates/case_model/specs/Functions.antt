-- The functions of a generated program, numbered from 0.
use Rattle.std.specs.Prelude.{ℕ, ◌+◌, ◌*◌, ◌/◌, ◌%◌, List, [], ◌∷◌, ◌++◌, map, codes}

-- Where the program begins.
abbrev pub first_address : ℕ
first_address = 0x401000

-- How many bytes each function has.
abbrev pub function_size : ℕ
function_size = 0x40

-- Where a function begins: each right behind the one before.
abbrev pub address : ℕ → ℕ
address k = first_address + function_size * k

-- How often the larger part of a function's samples stands.
abbrev pub weight : ℕ → ℕ
weight k = 1 + k % 64

-- The function that calls function k of n: the next one, and for the last one the first.
abbrev pub caller : ℕ → ℕ → ℕ
caller n k = (k + 1) % n

-- A function's name: f and its number in four decimal digits.
unfoldable pub name : ℕ → List ℕ
name k = codes "f" ++ map (λ place. 48 + k / place % 10) (1000 ∷ 100 ∷ 10 ∷ 1 ∷ [])
