-- What the reading of a program's header gives.
use Rattle.std.specs.Prelude.{◌≡◌, Result, Ok, Err}
use Rattle.refusal.specs.declared.place.Place.{Place}
use Rattle.line_model.specs.Fields.{Judged, Program as program_of_model}
use Rattle.line_program.specs.declared.program.LineProgram.{LineProgram}

-- The program that the model speaks of.
abbrev pub program_of : LineProgram → program_of_model
program_of program = record { header = program.header; opcodes = program.opcodes }

-- The program's header and opcodes, or the place of its first bad field.
abbrev pub GivesProgram : Result LineProgram Place → Judged program_of_model → Type 0
GivesProgram (Ok program) read = read ≡ Ok (program_of program)
GivesProgram (Err place) read = read ≡ Err place
