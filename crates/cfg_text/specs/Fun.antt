-- A function that was read.
use Rattle.block_model.specs.Function.{Function}
use Rattle.cfg_text.specs.declared.fun.Fun.{Fun}

-- The function that it is.
abbrev pub function_of : Fun → Function
function_of fun = record { name = fun.name.now; blocks = fun.blocks; edges = fun.edges }
