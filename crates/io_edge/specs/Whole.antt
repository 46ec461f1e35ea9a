-- What reading a whole file gives.
use Rattle.std.specs.Prelude.{Bool, true, false, Result, Ok, Err}
use Rattle.io_edge.specs.declared.whole.ReadStop.{ReadStop}
use Rattle.io_edge.specs.declared.whole.ReadStop.TheVariants.{Fault, TooLarge, NoMemory}

-- Of the answers to reading a file whole, `Fault` tells of a failed call.
abbrev pub tells_read_fault : {T : Type 0} → Result T ReadStop → Bool
tells_read_fault (Ok x) = false
tells_read_fault (Err Fault) = true
tells_read_fault (Err TooLarge) = false
tells_read_fault (Err NoMemory) = false
