-- The definitions computed on small programs.
use Rattle.line_model.specs.Header.{Header}
use Rattle.line_model.specs.Registers.{step_of}
use Rattle.line_model.specs.declared.operation.Operation.TheVariants.{Special, AdvancePc, ConstAddPc, FixedAdvancePc, SetDiscriminator}
use Rattle.line_model.specs.Opcodes.{set_discriminator}
use Rattle.std.specs.Prelude.{negsuc, Option}
use Rattle.line_model.specs.declared.operation.Operation.{Operation}
use Rattle.std.proofs.Common.{◌≡◌, ◌-◌, ◌^◌, ℕ, true, false, List, [], ◌∷◌, map, take, set, Some, Ok, Err, refl}
use Rattle.std.specs.Option.{option_map}
use Rattle.std.specs.Result.{result_ok}
use Rattle.refusal.specs.declared.kind.Kind.TheVariants.{ManyOperations, NoEnd, TooManyRows}
use Rattle.refusal.specs.Place.{in_binary}
use Rattle.byte_view.specs.Reading.{field_at, run_at, uleb_at, sleb_at}
use Rattle.line_model.specs.declared.row.Row.{Row}
use Rattle.line_model.specs.Reading.{operation_at, code_at, extended_at, ulebs_at}
use Rattle.line_model.specs.Fields.{unit_at, version_at, sizes_at, opcodes_at, operations_at, lengths_at, header_at, program_at, Program}
use Rattle.line_model.specs.Program.{rows_at, rows_in, operations_of}

-- a program of version 4 with one sequence
abbrev sample : List ℕ
sample =
    0x35 ∷ 0 ∷ 0 ∷ 0 ∷ 4 ∷ 0 ∷ 0x14 ∷ 0 ∷ 0 ∷ 0 ∷ 1 ∷ 1 ∷ 1 ∷ 0xfb ∷ 0x0e ∷ 0x0d ∷ 0 ∷ 1 ∷ 1 ∷ 1 ∷ 1 ∷ 0 ∷ 0 ∷ 0 ∷ 1 ∷ 0 ∷ 0 ∷ 1 ∷ 0 ∷ 0 ∷
    0 ∷ 9 ∷ 2 ∷ 0 ∷ 0x10 ∷ 0x40 ∷ 0 ∷ 0 ∷ 0 ∷ 0 ∷ 0 ∷
    3 ∷ 9 ∷ 1 ∷ 0x83 ∷ 0x7d ∷ 0 ∷ 2 ∷ 4 ∷ 2 ∷ 0xf8 ∷ 0xf3 ∷ 2 ∷ 0x10 ∷ 0 ∷ 1 ∷ 1 ∷ []

abbrev at_line : ℕ → ℕ → Row
at_line address line = record { address = address; line = line; disc = 0; ends = false }

sample_rows : rows_at 0 (record { at = 229; left = sample })
    ≡ Ok (
    at_line 0x401000 10 ∷ at_line 0x401008 11 ∷ at_line 0x401010 6
    ∷ record { address = 0x401020; line = 12; disc = 2; ends = false } ∷ at_line 0x401030 13
    ∷ record { address = 0x401040; line = 13; disc = 0; ends = true } ∷ [])
unfolding field_at run_at uleb_at sleb_at operation_at code_at extended_at ulebs_at unit_at version_at sizes_at opcodes_at operations_at lengths_at header_at program_at rows_at rows_in
sample_rows = refl

-- the same with two other lines: one less in front, and none at the second special opcode
changed_lines : rows_at 0 (record { at = 229; left = set (set sample 42 0x7f) 45 0x82 })
    ≡ Ok (
    at_line 0x401000 0 ∷ at_line 0x401008 1 ∷ at_line 0x401010 1
    ∷ record { address = 0x401020; line = 7; disc = 2; ends = false } ∷ at_line 0x401030 8
    ∷ record { address = 0x401040; line = 8; disc = 0; ends = true } ∷ [])
unfolding field_at run_at uleb_at sleb_at operation_at code_at extended_at ulebs_at unit_at version_at sizes_at opcodes_at operations_at lengths_at header_at program_at rows_at rows_in
changed_lines = refl

-- without the end of its sequence
open_sequence : rows_at 0 (record { at = 229; left = set (take 54 sample) 0 0x32 }) ≡ Err (in_binary 283 NoEnd)
unfolding field_at run_at uleb_at sleb_at operation_at code_at extended_at ulebs_at unit_at version_at sizes_at opcodes_at operations_at lengths_at header_at program_at rows_at rows_in
open_sequence = refl

-- where the rows of the programs before leave room for five of the six
full : rows_at (2 ^ 26 - 5) (record { at = 229; left = sample }) ≡ Err (in_binary 283 TooManyRows)
unfolding field_at run_at uleb_at sleb_at operation_at code_at extended_at ulebs_at unit_at version_at sizes_at opcodes_at operations_at lengths_at header_at program_at rows_at rows_in
full = refl

-- an instruction in version 4 that has two operations
many_operations : rows_at 0 (record { at = 229; left = set sample 11 2 }) ≡ Err (in_binary 240 ManyOperations)
unfolding field_at run_at uleb_at sleb_at operation_at code_at extended_at ulebs_at unit_at version_at sizes_at opcodes_at operations_at lengths_at header_at program_at rows_at rows_in
many_operations = refl

-- the operations of that program, by the places of their first bytes
abbrev places : Program → List ℕ
places program = map (λ placed. placed.at) (operations_of program)

sample_places : option_map places (result_ok (program_at (record { at = 229; left = sample })))
    ≡ Some (259 ∷ 270 ∷ 272 ∷ 273 ∷ 274 ∷ 275 ∷ 279 ∷ 280 ∷ 281 ∷ 283 ∷ [])
unfolding field_at run_at uleb_at sleb_at operation_at code_at extended_at ulebs_at unit_at version_at sizes_at opcodes_at operations_at lengths_at header_at program_at rows_at rows_in
sample_places = refl

-- instructions of 4 bytes; special opcodes from 12 on, four for each instruction
abbrev wide : Header
wide = record { min_inst_length = 4; line_base = negsuc 0; line_range = 4; opcode_base = 12; opcode_lengths = [] }

-- where an operation leads from an address
abbrev led : ℕ → Operation → Option ℕ
led address operation = option_map (λ step. step.registers.address) (step_of wide (record { address = address; line = 1; disc = 0 }) operation)

-- 243 / 4 instructions are 60, and addresses that go round at 2^64
steps_of_addresses : map (led 100) (Special 8 ∷ AdvancePc 3 ∷ ConstAddPc ∷ FixedAdvancePc 3 ∷ []) ≡ Some 108 ∷ Some 112 ∷ Some 340 ∷ Some 103 ∷ []
steps_of_addresses = refl

round_the_end : map (led (2 ^ 64 - 4)) (AdvancePc 2 ∷ FixedAdvancePc 3 ∷ []) ≡ Some 4 ∷ Some (2 ^ 64 - 1) ∷ []
round_the_end = refl

-- 32 bits of a discriminator count
a_long_discriminator : set_discriminator 0x100011170 ≡ SetDiscriminator 70000
a_long_discriminator = refl
