-- What the model says of the values, faults and forms of the code.
use Rattle.std.specs.Prelude.{◌≡◌, ℕ, List, Result, Ok, Err}
use Rattle.value_model.specs.Value as model
use Rattle.value_model.specs.Reading.{ValueReading}
use Rattle.dwarf_forms.specs.declared.value.Value.{Value}
use Rattle.dwarf_forms.specs.declared.value.Value.TheVariants as values
use Rattle.dwarf_forms.specs.declared.value.FormFault.{FormFault}
use Rattle.dwarf_forms.specs.declared.value.FormFault.TheVariants.{BadForm, IndirectTwice, View}
use Rattle.dwarf_forms.specs.declared.form.FormKind.{FormKind}
use Rattle.dwarf_forms.specs.declared.form.FormKind.TheVariants as kinds

-- A value, seen by its class.
abbrev pub meaning_of : Value → model.Value
meaning_of (values.Addr n) = model.addr n
meaning_of (values.Block run) = model.block run.now
meaning_of (values.Const n) = model.const n
meaning_of (values.Text run) = model.text run.now
meaning_of (values.Flag n) = model.flag n
meaning_of (values.StrAt n) = model.str_at n
meaning_of (values.LineStrAt n) = model.line_str_at n
meaning_of (values.StrIndex n) = model.str_index n
meaning_of (values.AddrIndex n) = model.addr_index n
meaning_of (values.RefInfo n) = model.ref_info n
meaning_of (values.Ref n) = model.ref n
meaning_of (values.Sig n) = model.sig n
meaning_of (values.Offset n) = model.offset n
meaning_of (values.LocIndex n) = model.loc_index n
meaning_of (values.RangeIndex n) = model.range_index n

-- A fault, as the model names it.
abbrev pub fault_of : FormFault → model.Fault
fault_of BadForm = model.bad_form
fault_of IndirectTwice = model.indirect_twice
fault_of (View fault) = model.view fault

-- A form's code.
abbrev pub code_of : FormKind → ℕ
code_of kinds.Addr = 0x01
code_of kinds.Block2 = 0x03
code_of kinds.Block4 = 0x04
code_of kinds.Data2 = 0x05
code_of kinds.Data4 = 0x06
code_of kinds.Data8 = 0x07
code_of kinds.String = 0x08
code_of kinds.Block = 0x09
code_of kinds.Block1 = 0x0a
code_of kinds.Data1 = 0x0b
code_of kinds.Flag = 0x0c
code_of kinds.Sdata = 0x0d
code_of kinds.Strp = 0x0e
code_of kinds.Udata = 0x0f
code_of kinds.RefAddr = 0x10
code_of kinds.Ref1 = 0x11
code_of kinds.Ref2 = 0x12
code_of kinds.Ref4 = 0x13
code_of kinds.Ref8 = 0x14
code_of kinds.RefUdata = 0x15
code_of kinds.Indirect = 0x16
code_of kinds.SecOffset = 0x17
code_of kinds.Exprloc = 0x18
code_of kinds.FlagPresent = 0x19
code_of kinds.Strx = 0x1a
code_of kinds.Addrx = 0x1b
code_of kinds.Data16 = 0x1e
code_of kinds.LineStrp = 0x1f
code_of kinds.RefSig8 = 0x20
code_of kinds.ImplicitConst = 0x21
code_of kinds.Loclistx = 0x22
code_of kinds.Rnglistx = 0x23
code_of kinds.Strx1 = 0x25
code_of kinds.Strx2 = 0x26
code_of kinds.Strx3 = 0x27
code_of kinds.Strx4 = 0x28
code_of kinds.Addrx1 = 0x29
code_of kinds.Addrx2 = 0x2a
code_of kinds.Addrx3 = 0x2b
code_of kinds.Addrx4 = 0x2c

-- A call answered, and left these bytes, as a value is read.
abbrev pub GivesValue : Result Value FormFault → List ℕ → ValueReading → Type 0
GivesValue (Ok value) left reading = reading ≡ Ok (meaning_of value, left)
GivesValue (Err fault) left reading = reading ≡ Err (fault_of fault)
